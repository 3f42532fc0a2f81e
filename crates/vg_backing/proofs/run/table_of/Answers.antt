-- Each entry is joined to the run before it, or stands behind it.
use Rattle.std.proofs.Common.{◌≡◌, ◌+◌, [], ◌++◌, get_or, take, drop, sym, ap, ◌∙◌, subst, arith}
use Rattle.std.proofs.lemmas.Bool.{ne_eqb}
use Rattle.std.proofs.lemmas.List.{drop_all}
use Rattle.std.proofs.lemmas.List.Sums.{sum_by_more}
use Rattle.vg_formats.specs.declared.entry.MemEntry.{MemEntry}
use Rattle.vg_backing.specs.declared.run.Run.{Run}
use Rattle.vg_backing.specs.Backing.{total}
use Rattle.vg_backing.specs.Fits.{EndsInRange, entry_of}
use Rattle.vg_backing.specs.Runs.{run_at, runs_from, with_entry}
use Rattle.vg_backing.proofs.RunLemmas.{IsMade, made-apart, made-first, made-joined, none-left}
use Rattle.vg_backing.proofs.run.table_of.Goals as goal
use Rattle.vg_backing.proofs.run.table_of.Goals.{then-run-next, else-run-next+in_ok-push}

abbrev nothing : MemEntry
nothing = record { addr = 0; length = 0 }

pub loop-i-init : goal.loop-i-init
loop-i-init c =
    let entries = c.args.entries.now in
    let entry = get_or entries 0 nothing in
    let one : c.run_at-run.result ≡ run_at 0 entry = c.run_at-run.ensures.is in
    let first : total (take 1 entries) ≡ 0 + entry.length = sum_by_more (λ (e : MemEntry). e.length) entries 0 nothing c.requires.some in
    let begin : c.run_at-run.result.start ≡ 0 = ap (λ (run : Run). run.start) one in
    let long : c.run_at-run.result.length ≡ entry.length = ap (λ (run : Run). run.length) one in
    record {
      runs = rw c.new-runs.ensures.items (subst (λ run. IsMade entries 1 [] run) (sym one) (made-first entries nothing c.requires.some));
      ends = subst (λ run. EndsInRange (entry_of run)) (sym one) (c.requires.ends 0 nothing c.requires.some);
      end = omega (arith, first, begin, long);
      small = omega (arith, begin, c.run_at-run.ensures.small);
    }

pub loop-i-preserved : goal.loop-i-preserved
loop-i-preserved c =
    let entries = c.args.entries.now in
    let i = c.loop-i.i in
    let was = c.loop-i.invariant in
    let run = c.loop-i.run in
    let entry = get_or entries i nothing in
    let n = run.start + run.length in
    let next = c.run_at-next.result in
    let is : next ≡ run_at n entry = c.run_at-next.ensures.is in
    let start : next.start ≡ n = ap (λ (r : Run). r.start) is in
    let addr : next.addr ≡ entry.addr = ap (λ (r : Run). r.addr) is in
    let long : next.length ≡ entry.length = ap (λ (r : Run). r.length) is in
    let ends : EndsInRange entry = c.requires.ends i nothing c.loop-i-test.true in
    let more : total (take (i + 1) entries) ≡ total (take i entries) + entry.length = sum_by_more (λ (e : MemEntry). e.length) entries i nothing c.loop-i-test.true in
    elim c.if-run-next.branch [
      | then-run-next w ↦
          let made = made-joined entries i nothing c.loop-i.runs.items run next c.loop-i-test.true is w.if-run-next.true was.runs in
          rw (w.runs-is, w.run-is) (record {
            runs = made;
            ends = omega (arith, ends, addr, long, w.if-run-next.true);
            end = omega (arith, more, was.end, long);
            small = omega (arith, was.small, c.run_at-next.ensures.small);
          })
      | else-run-next+in_ok-push w ↦
          let made = made-apart entries i nothing c.loop-i.runs.items run next c.loop-i-test.true is (ne_eqb (run.addr + run.length) next.addr w.if-run-next.false) was.runs in
          rw (w.runs-is, w.run-is, w.in_ok-push.ensures.items) (record {
            runs = made;
            ends = omega (arith, ends, addr, long);
            end = omega (arith, more, was.end, start, long);
            small = omega (arith, was.small, start, c.run_at-next.ensures.small);
          })
    ]

pub returns-clause-runs : goal.returns-clause-runs
returns-clause-runs c =
    let entries = c.args.entries.now in
    let run = c.loop-i.run in
    let none : drop c.loop-i.i entries ≡ [] = drop_all c.loop-i.i entries (omega (arith, c.loop-i-test.false)) in
    c.in_ok-push-2.ensures.items
    ∙ ap (λ rs. c.loop-i.runs.items ++ with_entry run.start (entry_of run) rs) (sym (ap (runs_from (run.start + run.length)) none ∙ none-left (run.start + run.length)))
    ∙ c.loop-i.invariant.runs
