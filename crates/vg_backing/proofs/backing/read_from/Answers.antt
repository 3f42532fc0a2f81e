-- Each step copies the bytes of one run, and the next run has the byte after them.
use Rattle.std.proofs.Common.{◌≡◌, ◌+◌, ◌-◌, ◌≤◌, length, take, drop, get_or, ◌++◌, sym, ap, ◌∙◌, arith}
use Rattle.std.proofs.lemmas.List.{length-take, length-drop, drop-drop}
use borrow.Rule.Slice.PartMut.{put_mid}
use Rattle.vg_laws.proofs.Lists.{more-written}
use Rattle.vg_pages.specs.Memory.{bytes_at}
use Rattle.vg_backing.specs.declared.run.Run.{Run}
use Rattle.vg_backing.specs.Backing.{backing_bytes}
use Rattle.vg_backing.proofs.BackingLemmas.{run-at, next-run, bytes-here, length-backing_bytes}
use Rattle.vg_backing.proofs.backing.read_from.Goals as goal
use Rattle.vg_backing.specs.Fits.{entries_of, entry_of}

abbrev nothing : Run
nothing = record { start = 0; addr = 0; length = 0 }

pub overflow_add-skip : goal.overflow_add-skip
overflow_add-skip c = omega (arith, c.requires.inside, c.requires.small, c.loop-done-test.true, c.loop-done.auto.out)

pub overflow_sub-here : goal.overflow_sub-here
overflow_sub-here c =
    let has = c.loop-done.invariant.run (omega (arith, c.loop-done-test.true, c.loop-done.auto.out)) in
    let run = run-at c.args.pages.now c.args.runs.now c.loop-done.i nothing c.requires.placed c.requires.held has.0 in
    omega (arith, has, run)

pub overflow_add-run : goal.overflow_add-run
overflow_add-run c =
    let has = c.loop-done.invariant.run (omega (arith, c.loop-done-test.true, c.loop-done.auto.out)) in
    let run = run-at c.args.pages.now c.args.runs.now c.loop-done.i nothing c.requires.placed c.requires.held has.0 in
    omega (arith, has, run, run.fits)

pub read-requires : goal.read-requires
read-requires c =
    let has = c.loop-done.invariant.run (omega (arith, c.loop-done-test.true, c.loop-done.auto.out)) in
    let run = run-at c.args.pages.now c.args.runs.now c.loop-done.i nothing c.requires.placed c.requires.held has.0 in
    let n : length (take (c.loop-done.done + c.min-n.result - c.loop-done.done) (drop c.loop-done.done c.loop-done.out)) ≤ c.min-n.result =
    omega (arith, length-take (c.loop-done.done + c.min-n.result - c.loop-done.done) (drop c.loop-done.done c.loop-done.out))
    in
    (omega (arith, has, run), omega (arith, has, run, n, c.min-n.ensures))

pub loop-done-smaller : goal.loop-done-smaller
loop-done-smaller c =
    let has = c.loop-done.invariant.run (omega (arith, c.loop-done-test.true, c.loop-done.auto.out)) in
    let run = run-at c.args.pages.now c.args.runs.now c.loop-done.i nothing c.requires.placed c.requires.held has.0 in
    omega (arith, has, run, c.min-n.ensures, c.loop-done-test.true, c.loop-done.auto.out)

pub loop-done-preserved : goal.loop-done-preserved
loop-done-preserved c =
    let memory = c.args.pages.now in
    let runs = c.args.runs.now in
    let old = c.args.out.now in
    let i = c.loop-done.i in
    let done = c.loop-done.done in
    let n = c.min-n.result in
    let part = c.read.new.out in
    let bytes = backing_bytes memory (entries_of runs) in
    let has = c.loop-done.invariant.run (omega (arith, c.loop-done-test.true, c.loop-done.auto.out)) in
    let run = run-at memory runs i nothing c.requires.placed c.requires.held has.0 in
    let entry = entry_of (get_or runs i nothing) in
    let skip = c.args.at + done - (get_or runs i nothing).start in
    let within : skip + n ≤ entry.length = omega (arith, has, run, c.min-n.ensures) in
    let at : c.args.at + done ≡ (get_or runs i nothing).start + skip = omega (arith, has, run) in
    let room : done + n ≤ length old = omega (arith, c.min-n.ensures, c.loop-done-test.true, c.loop-done.auto.out) in
    let size : done + n - done ≡ n = omega arith in
    let long : length (take (done + n - done) (drop done c.loop-done.out)) ≡ n =
    omega (arith, size, length-take (done + n - done) (drop done c.loop-done.out), length-drop done c.loop-done.out, room, c.loop-done.auto.out)
    in
    let read : part ≡ take n (drop done (drop c.args.at bytes)) =
    c.read.ensures ∙ ap (λ m. bytes_at memory.bytes (entry.addr + skip) m) long
    ∙ sym (bytes-here memory runs i (c.args.at + done) skip n nothing c.requires.placed c.requires.held has.0 at within)
    ∙ ap (take n) (sym (drop-drop done c.args.at bytes))
    in
    let all : done + n ≤ length (drop c.args.at bytes) =
    omega (arith, room, length-drop c.args.at bytes, length-backing_bytes memory (entries_of runs) c.requires.held, c.requires.inside)
    in
    record {
      fits = room;
      run = λ more. next-run memory runs i (c.args.at + (done + n)) nothing c.requires.placed c.requires.held has.0
          (omega (arith, has, run, c.min-n.ensures, more, c.loop-done.auto.out))
          (omega (arith, more, c.requires.inside));
      out =
          ap (λ xs. put_mid done (done + n - done) xs part) c.loop-done.invariant.out
          ∙ ap (λ m. put_mid done m (take done (drop c.args.at bytes) ++ drop done old) part) size
          ∙ more-written (drop c.args.at bytes) old part done n all (omega arith) read;
    }
