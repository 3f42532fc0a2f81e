-- The one place of the resource is gone.
use Rattle.std.proofs.Common.{ℕ, List, ap, ◌∙◌}
use Rattle.vg_context.specs.Contexts.{Context, without_resource}
use Rattle.vg_context.proofs.ContextLemmas.{removed-is}
use Rattle.vg_context.proofs.contexts.Live.detach.Goals as goal

pub returns : goal.returns
returns c =
    ap (λ (resources : List ℕ). let z : Context = record { context_init = c.self.inside.context_init; resources = resources } in z)
    (c.remove.ensures.keys ∙ removed-is c.args.resource c.self.inside.resources.keys c.self.invariant)
    ∙ ap (without_resource c.args.resource) c.self.view_is
