-- Each step lends the bytes of one page, and the run has the byte after them, or the next run.
use Rattle.std.proofs.Common.{◌≡◌, ◌+◌, ◌-◌, ◌<◌, ◌≤◌, ◌%◌, ◌/◌, List, ℕ, refl, rules, subst, ◌∷◌, [], ◌++◌, length, get_or, min, sym, ap, ◌∙◌, arith}
use Rattle.std.proofs.lemmas.List.Elements.{All-push}
use Rattle.std.proofs.lemmas.Slice.{pushed}
use Rattle.std.specs.List.{All}
use Rattle.vg_pages.specs.Memory.{bytes_at}
use Rattle.vg_pages.specs.Lending.{joined}
use Rattle.vg_backing.specs.declared.run.Run.{Run}
use Rattle.vg_backing.specs.Fits.{IsLent, entries_of, entry_of}
use Rattle.vg_backing.proofs.BackingLemmas.{run-at, next-run, bytes-here}
use Rattle.vg_backing.proofs.LentLemmas.{lent-none, lent-on, touched-at}
use Rattle.vg_backing.proofs.backing.lend_from.Goals as goal

abbrev nothing : Run
nothing = record { start = 0; addr = 0; length = 0 }

pub loop-done-init : goal.loop-done-init
loop-done-init c = record {
  fits = omega arith;
  run = λ more. search rules;
  some = rw c.new-pieces.ensures.items (λ k d within. absurd (omega (arith, within)));
  lent = rw (c.new-pieces.ensures.items, c.new-touched.ensures.items) (lent-none c.args.pages.now (entries_of c.args.runs.now) c.args.at);
}

pub overflow_sub-here : goal.overflow_sub-here
overflow_sub-here c =
    let has = c.loop-done.invariant.run c.loop-done-test.true in
    let run = run-at c.args.pages.now c.args.runs.now c.loop-done.i nothing c.requires.placed c.requires.held has.0 in
    omega (arith, has, run)

pub overflow_add-addr : goal.overflow_add-addr
overflow_add-addr c =
    let has = c.loop-done.invariant.run c.loop-done-test.true in
    let run = run-at c.args.pages.now c.args.runs.now c.loop-done.i nothing c.requires.placed c.requires.held has.0 in
    omega (arith, has, run, run.fits)

pub share-requires-clause-held : goal.share-requires-clause-held
share-requires-clause-held c =
    let has = c.loop-done.invariant.run c.loop-done-test.true in
    let run = run-at c.args.pages.now c.args.runs.now c.loop-done.i nothing c.requires.placed c.requires.held has.0 in
    (omega (arith, has, run), omega (arith, has, run, c.min.ensures))

pub share-requires-clause-some : goal.share-requires-clause-some
share-requires-clause-some c =
    let has = c.loop-done.invariant.run c.loop-done-test.true in
    let run = run-at c.args.pages.now c.args.runs.now c.loop-done.i nothing c.requires.placed c.requires.held has.0 in
    omega (arith, has, run, c.min.ensures, c.loop-done-test.true)

pub page_at-requires : goal.page_at-requires
page_at-requires c =
    let has = c.loop-done.invariant.run c.loop-done-test.true in
    let run = run-at c.args.pages.now c.args.runs.now c.loop-done.i nothing c.requires.placed c.requires.held has.0 in
    (omega (arith, has, run), omega (arith, has, run))

pub loop-done-smaller-then-n-here : goal.loop-done-smaller-then-n-here
loop-done-smaller-then-n-here c =
    let has = c.loop-done.invariant.run c.loop-done-test.true in
    let run = run-at c.args.pages.now c.args.runs.now c.loop-done.i nothing c.requires.placed c.requires.held has.0 in
    omega (arith, c.len-n.ensures, c.in_ok-piece.ensures.length, c.min.ensures, c.loop-done-test.true, has, run, c.loop-done.invariant.fits)

pub loop-done-preserved-then-n-here : goal.loop-done-preserved-then-n-here
loop-done-preserved-then-n-here c =
    let memory = c.args.pages.now in
    let runs = c.args.runs.now in
    let entries = entries_of runs in
    let i = c.loop-done.i in
    let at = c.args.at in
    let done = c.loop-done.done in
    let was = c.loop-done.invariant in
    let has = was.run c.loop-done-test.true in
    let run = run-at memory runs i nothing c.requires.placed c.requires.held has.0 in
    let entry = entry_of (get_or runs i nothing) in
    let skip = at + done - (get_or runs i nothing).start in
    let addr = entry.addr + skip in
    let piece : List ℕ = c.in_ok-piece.piece in
    let n = c.len-n.result in
    let long : length piece ≡ n = sym c.len-n.ensures in
    let size : n ≡ min c.min.result (4096 - addr % 4096) = sym long ∙ c.in_ok-piece.ensures.length in
    let room : done + n ≤ c.args.count = omega (arith, size, c.min.ensures, c.loop-done-test.true) in
    let some : 0 < n = omega (arith, size, c.min.ensures, c.loop-done-test.true, has, run) in
    let here : skip + n ≤ entry.length = omega (arith, size, c.min.ensures, has, run) in
    let there : at + done ≡ (get_or runs i nothing).start + skip = omega (arith, has, run) in
    let items : c.push.new.self.items ≡ c.loop-done.pieces.items ++ piece ∷ [] = pushed (piece ∷ []) refl c.in_ok-push.was c.push.ensures.items in
    let pages : c.push-in-loop-done.new.self.items ≡ c.loop-done.touched.items ++ ((addr - 1048576) / 4096) ∷ [] =
    pushed (c.page_at.result ∷ []) refl c.in_ok-push-2.was c.push-in-loop-done.ensures.items ∙ ap (λ page. c.loop-done.touched.items ++ page ∷ []) c.page_at.ensures.page in
    let Lent : List (List ℕ) → List ℕ → Type 0 = λ ps ts. IsLent memory entries at (done + n) (record { bytes = joined ps; pages = ts }) in
    let lent : Lent (c.loop-done.pieces.items ++ piece ∷ []) (c.loop-done.touched.items ++ ((addr - 1048576) / 4096) ∷ []) =
    lent-on memory entries at done n addr c.loop-done.pieces.items piece c.loop-done.touched.items c.requires.held
    (omega (arith, run)) (omega (arith, size)) (c.in_ok-piece.ensures.bytes ∙ ap (bytes_at memory.bytes addr) long)
    (λ other held. bytes-here other runs i (at + done) skip n nothing c.requires.placed held has.0 there here)
    (touched-at runs i addr nothing has.0 run.low (omega arith) (omega (arith, here, some)))
    (subst (λ page. page < length memory.taken) c.page_at.ensures.page c.page_at.ensures.inside) was.lent in
    let Some : List (List ℕ) → Type 0 = λ ps. All (λ (xs : List ℕ). 0 < length xs) ps in
    record {
      fits = room;
      run = λ more. next-run memory runs i (at + (done + n)) nothing c.requires.placed c.requires.held has.0
          (omega (arith, has, run, c.if-n-here.true)) (omega (arith, more, c.requires.inside));
      some = subst Some (sym items) (All-push (λ (xs : List ℕ). 0 < length xs) c.loop-done.pieces.items piece was.some (omega (arith, some, long)));
      lent = subst (λ ps. Lent ps c.push-in-loop-done.new.self.items) (sym items) (subst (λ ts. Lent (c.loop-done.pieces.items ++ piece ∷ []) ts) (sym pages) lent);
    }

pub loop-done-preserved : goal.loop-done-preserved
loop-done-preserved c =
    let memory = c.args.pages.now in
    let runs = c.args.runs.now in
    let entries = entries_of runs in
    let i = c.loop-done.i in
    let at = c.args.at in
    let done = c.loop-done.done in
    let was = c.loop-done.invariant in
    let has = was.run c.loop-done-test.true in
    let run = run-at memory runs i nothing c.requires.placed c.requires.held has.0 in
    let entry = entry_of (get_or runs i nothing) in
    let skip = at + done - (get_or runs i nothing).start in
    let addr = entry.addr + skip in
    let piece : List ℕ = c.in_ok-piece.piece in
    let n = c.len-n.result in
    let long : length piece ≡ n = sym c.len-n.ensures in
    let size : n ≡ min c.min.result (4096 - addr % 4096) = sym long ∙ c.in_ok-piece.ensures.length in
    let room : done + n ≤ c.args.count = omega (arith, size, c.min.ensures, c.loop-done-test.true) in
    let some : 0 < n = omega (arith, size, c.min.ensures, c.loop-done-test.true, has, run) in
    let here : skip + n ≤ entry.length = omega (arith, size, c.min.ensures, has, run) in
    let there : at + done ≡ (get_or runs i nothing).start + skip = omega (arith, has, run) in
    let items : c.push.new.self.items ≡ c.loop-done.pieces.items ++ piece ∷ [] = pushed (piece ∷ []) refl c.in_ok-push.was c.push.ensures.items in
    let pages : c.push-in-loop-done.new.self.items ≡ c.loop-done.touched.items ++ ((addr - 1048576) / 4096) ∷ [] =
    pushed (c.page_at.result ∷ []) refl c.in_ok-push-2.was c.push-in-loop-done.ensures.items ∙ ap (λ page. c.loop-done.touched.items ++ page ∷ []) c.page_at.ensures.page in
    let Lent : List (List ℕ) → List ℕ → Type 0 = λ ps ts. IsLent memory entries at (done + n) (record { bytes = joined ps; pages = ts }) in
    let lent : Lent (c.loop-done.pieces.items ++ piece ∷ []) (c.loop-done.touched.items ++ ((addr - 1048576) / 4096) ∷ []) =
    lent-on memory entries at done n addr c.loop-done.pieces.items piece c.loop-done.touched.items c.requires.held
    (omega (arith, run)) (omega (arith, size)) (c.in_ok-piece.ensures.bytes ∙ ap (bytes_at memory.bytes addr) long)
    (λ other held. bytes-here other runs i (at + done) skip n nothing c.requires.placed held has.0 there here)
    (touched-at runs i addr nothing has.0 run.low (omega arith) (omega (arith, here, some)))
    (subst (λ page. page < length memory.taken) c.page_at.ensures.page c.page_at.ensures.inside) was.lent in
    let Some : List (List ℕ) → Type 0 = λ ps. All (λ (xs : List ℕ). 0 < length xs) ps in
    record {
      fits = room;
      run = λ more. (has.0, omega (arith, has), omega (arith, has, run, here, size, c.min.ensures, c.if-n-here.false));
      some = subst Some (sym items) (All-push (λ (xs : List ℕ). 0 < length xs) c.loop-done.pieces.items piece was.some (omega (arith, some, long)));
      lent = subst (λ ps. Lent ps c.push-in-loop-done.new.self.items) (sym items) (subst (λ ts. Lent (c.loop-done.pieces.items ++ piece ∷ []) ts) (sym pages) lent);
    }
