use Rattle.std.proofs.Common.{◌≡◌, ◌+◌, ◌-◌, ◌≤◌, ◌++◌, ℕ, List, sym, ap, subst, ◌∙◌, arith, length, length-append, take, drop, replicate}
use Rattle.std.proofs.lemmas.List.{length-replicate}
use Rattle.vg_pages.specs.Memory.{padded}
use Rattle.vg_pages.proofs.Padded.{length-padded, padded-grown, padded-written}
use Rattle.vg_pages.proofs.lazy.LazyBytes.write.Goals as goal

pub returns : goal.returns
returns c =
    let front = c.self.inside.front.items in
    let size = c.self.inside.size in
    let piece = c.args.bytes.now in
    let start = c.args.start in
    let whole : c.args.self.now ≡ padded size front = sym c.self.view_is in
    let inside : start + length piece ≤ size = omega (arith, c.requires, ap length whole, length-padded size front c.self.invariant.0) in
    let more : ℕ = (start + length piece) - length front in
    let grown : List ℕ = front ++ replicate more 0 in
    let long : length grown ≡ length front + more = omega (arith, length-append front (replicate more 0), length-replicate {A = ℕ} more 0) in
    let Done : List ℕ → Type 0 = λ all. padded size c.overwrite.new.front.items ≡ (take start all ++ piece) ++ drop (start + length piece) all in
    let Written : List ℕ → Type 0 = λ xs. c.overwrite.new.front.items ≡ (take start xs ++ piece) ++ drop (start + length piece) xs in
    let written : Written grown = subst Written c.grow.ensures.bytes c.overwrite.ensures.bytes in
    let same : padded size grown ≡ padded size front = padded-grown size more front (omega (arith, inside, c.self.invariant.0)) in
    subst Done (same ∙ sym whole) (ap (padded size) written ∙ padded-written size start piece grown (omega (arith, long)) (omega (arith, long, inside, c.self.invariant.0)))
