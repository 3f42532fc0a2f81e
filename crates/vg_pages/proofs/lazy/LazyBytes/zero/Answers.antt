use Rattle.std.proofs.Common.{◌≡◌, ◌+◌, ◌≤◌, ◌++◌, ℕ, List, sym, ap, subst, ◌∙◌, arith, length, take, drop, replicate}
use Rattle.vg_pages.specs.Memory.{padded}
use Rattle.vg_pages.proofs.Padded.{length-padded, padded-zeroed, padded-zeroed-behind}
use Rattle.vg_pages.proofs.lazy.LazyBytes.zero.Goals as goal

pub returns-then-start-kept : goal.returns-then-start-kept
returns-then-start-kept c =
    let front = c.self.inside.front.items in
    let size = c.self.inside.size in
    let whole : c.args.self.now ≡ padded size front = sym c.self.view_is in
    let inside : c.args.start + c.args.count ≤ size = omega (arith, c.requires, ap length whole, length-padded size front c.self.invariant.0) in
    let after = c.zero_from_to.new.front.items in
    let Done : List ℕ → Type 0 = λ all. padded size after ≡ (take c.args.start all ++ replicate c.args.count 0) ++ drop (c.args.start + c.args.count) all in
    subst Done (sym whole) (ap (padded size) c.zero_from_to.ensures.bytes ∙ padded-zeroed size c.args.start c.min-end.result c.args.count front inside c.self.invariant.0 (omega arith) (omega (arith, c.min-end.ensures, c.len-kept.ensures, c.self.inside.front.ok)))

pub returns-else-start-kept : goal.returns-else-start-kept
returns-else-start-kept c =
    let front = c.self.inside.front.items in
    let size = c.self.inside.size in
    let whole : c.args.self.now ≡ padded size front = sym c.self.view_is in
    let inside : c.args.start + c.args.count ≤ size = omega (arith, c.requires, ap length whole, length-padded size front c.self.invariant.0) in
    let Done : List ℕ → Type 0 = λ all. all ≡ (take c.args.start all ++ replicate c.args.count 0) ++ drop (c.args.start + c.args.count) all in
    subst Done (sym whole) (padded-zeroed-behind size c.args.start c.args.count front inside c.self.invariant.0 (omega arith))
