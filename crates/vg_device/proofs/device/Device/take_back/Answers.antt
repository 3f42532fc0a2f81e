-- What was lent and comes back as it was changes nothing.
use Rattle.std.proofs.Common.{◌≡◌, ℕ, List, ap, refl, sym, subst, rules}
use Rattle.vg_resource.specs.declared.resource.Resource.{Resource}
use Rattle.vg_resource.specs.Resource.{resource_at}
use Rattle.vg_device.specs.State.{IsConsistent}
use Rattle.vg_device.proofs.ShowingLemmas.{brought-same}
use Rattle.vg_device.proofs.device.Device.take_back.Goals as goal

pub invariant_of-self : goal.invariant_of-self
invariant_of-self c =
    let s = c.self.inside in
    let same : c.restore.new.self.resources ≡ s.resources.resources = brought-same c.args.resource c.args.pixels.items s.resources.resources c.restore.new.self.resources (resource_at c.args.resource s.resources.resources) refl (search rules) c.restore.ensures.same in
    subst (λ (resources : List (ℕ × Resource)). IsConsistent (record { setup = s.setup; entries = s.entries; memory = s.pages; resources = resources; backings = s.backings; blobs = s.blobs; contexts = s.contexts; uuids = s.uuids; cursors = s.cursors; scanouts = s.scanouts; share = s.share; plugs = s.plugs })) (sym same) c.self.invariant

pub returns : goal.returns
returns c =
    let s = c.self.inside in
    let same : c.restore.new.self.resources ≡ s.resources.resources = brought-same c.args.resource c.args.pixels.items s.resources.resources c.restore.new.self.resources (resource_at c.args.resource s.resources.resources) refl (search rules) c.restore.ensures.same in
    rw (← c.self.view_is) (ap (λ (resources : List (ℕ × Resource)). record { setup = s.setup; entries = s.entries; memory = s.pages; resources = resources; backings = s.backings; blobs = s.blobs; contexts = s.contexts; uuids = s.uuids; cursors = s.cursors; scanouts = s.scanouts; share = s.share; plugs = s.plugs }) same)
