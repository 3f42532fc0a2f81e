use Rattle.std.proofs.Common.{rules, ◌≡◌, Some, Ok, Err, sym, ◌∙◌, ap}
use Rattle.std.specs.Ordering.{nat_cmp}
use Rattle.std.specs.Map.{set_value}
use Rattle.std.specs.BTreeMap.{is_at}
use Rattle.std.proofs.lemmas.Map.Steps.{set_value_same}
use Rattle.vg_wire.specs.Kinds.{ERR_INVALID_RESOURCE_ID}
use Rattle.vg_context.specs.Contexts.{context_at, detach}
use Rattle.vg_context.proofs.ContextLemmas.{is-detached, not-attached}
use Rattle.vg_context.proofs.contexts.Contexts.detach.Goals as goal

pub returns-then-not-has : goal.returns-then-not-has
returns-then-not-has c =
    let entries = c.self.inside.map.entries in
    let old = c.in-Some.from.now in
    let test = is_at (nat_cmp c.args.id) in
    let found : context_at c.args.id entries ≡ Some old = search rules in
    let after : (c.get_mut.follows.lender old).entries ≡ set_value test entries old = search rules in
    ap (λ contexts. (contexts, Err ERR_INVALID_RESOURCE_ID)) (after ∙ set_value_same test entries old found)
    ∙ not-attached c.args.id c.args.resource entries old found (sym c.has.ensures ∙ c.if-not-has.true)
    ∙ ap (detach c.args.id c.args.resource) c.self.view_is

pub returns : goal.returns
returns c =
    let entries = c.self.inside.map.entries in
    let old = c.in-Some.from.now in
    let test = is_at (nat_cmp c.args.id) in
    let found : context_at c.args.id entries ≡ Some old = search rules in
    let after : (c.get_mut.follows.lender c.detach.new.self).entries ≡ set_value test entries c.detach.new.self = search rules in
    ap (λ contexts. (contexts, Ok tt)) (after ∙ ap (set_value test entries) c.detach.ensures)
    ∙ is-detached c.args.id c.args.resource entries old found (sym c.has.ensures ∙ c.if-not-has.false)
    ∙ ap (detach c.args.id c.args.resource) c.self.view_is
