-- Each context has let the resource go, and no other thing has changed.
use Rattle.std.proofs.Common.{rules, ap, ◌∙◌}
use Rattle.std.proofs.lemmas.Map.Made.{map_same_pairs}
use Rattle.vg_context.specs.Contexts.{forgotten, without_resource}
use Rattle.vg_context.proofs.contexts.Contexts.forget.Goals as goal

pub returns : goal.returns
returns c =
    map_same_pairs _ (without_resource c.args.resource) _ (λ k v b w f' t. search rules) _ _ c.retain.ensures.filtered
    ∙ ap (forgotten c.args.resource) c.self.view_is
