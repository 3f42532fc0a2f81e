-- What is found, as it is seen.
use Rattle.std.proofs.Common.{rules, ◌≡◌, Some, None, sym}
use Rattle.std.specs.Ordering.{nat_cmp}
use Rattle.std.specs.Map.{lookup}
use Rattle.std.specs.BTreeMap.{is_at}
use Rattle.vg_resource.proofs.ResourceLemmas.{seen-none, seen-some, whole-at}
use Rattle.vg_resource.proofs.resource.Resources.get.Goals as goal

pub returns-in_default : goal.returns-in_default
returns-in_default c =
    let entries = c.self.inside.map.entries in
    let none : lookup (is_at (nat_cmp c.args.id)) entries ≡ None = search rules in
    record { value = rw (← c.self.view_is) (sym (seen-none entries c.args.id none)); whole = tt }

pub returns-clause-value : goal.returns-clause-value
returns-clause-value c =
    let entries = c.self.inside.map.entries in
    let found : lookup (is_at (nat_cmp c.args.id)) entries ≡ Some c.in-Some.surface.now = search rules in
    rw (← c.self.view_is) (sym (seen-some entries c.args.id c.in-Some.surface.now found))

pub returns-clause-whole : goal.returns-clause-whole
returns-clause-whole c =
    let entries = c.self.inside.map.entries in
    let found : lookup (is_at (nat_cmp c.args.id)) entries ≡ Some c.in-Some.surface.now = search rules in
    whole-at entries c.args.id c.in-Some.surface.now c.self.invariant.2 found
