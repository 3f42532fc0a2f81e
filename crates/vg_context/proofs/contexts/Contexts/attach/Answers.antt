-- Without memory the context is as it was, and so are all contexts.
use Rattle.std.proofs.Common.{rules, ◌≡◌, Some, ◌∙◌, ap}
use Rattle.std.specs.Ordering.{nat_cmp}
use Rattle.std.specs.Map.{set_value}
use Rattle.std.specs.BTreeMap.{is_at}
use Rattle.std.proofs.lemmas.Map.Steps.{set_value_same}
use Rattle.vg_laws.proofs.Results.{on_err}
use Rattle.vg_context.specs.Contexts.{context_at}
use Rattle.vg_context.proofs.contexts.Contexts.attach.Goals as goal

pub returns-in_err-attach-clause-err : goal.returns-in_err-attach-clause-err
returns-in_err-attach-clause-err c =
    let entries = c.self.inside.map.entries in
    let test = is_at (nat_cmp c.args.id) in
    let found : context_at c.args.id entries ≡ Some c.in-Some.to.now = search rules in
    let same : c.attach.new.self ≡ c.in-Some.to.now = search rules in
    let after : (c.get_mut.follows.lender c.attach.new.self).entries ≡ set_value test entries c.attach.new.self = search rules in
    on_err _ (after ∙ ap (set_value test entries) same ∙ set_value_same test entries c.in-Some.to.now found ∙ c.self.view_is)
