use Rattle.std.proofs.Common.{List, ℕ, subst, ◌∙◌}
use Rattle.vg_shared_bytes.proofs.PutLemmas.{strip-in-front}
use Rattle.vg_shared_bytes.specs.Strips.{IsCut}
use Rattle.vg_shared_bytes.proofs.strips.Strips.in_front.Goals as goal

pub returns : goal.returns
returns c =
    let strips = c.self.inside.strips.items in
    let cut = subst (λ (bytes : List ℕ). IsCut bytes strips) c.self.view_is c.self.invariant.1 in
    c.start_of.ensures ∙ strip-in-front c.args.at c.args.self.now strips c.index.result.now c.as_slice.result.now cut c.requires c.index.ensures c.as_slice.ensures
