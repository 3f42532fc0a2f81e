use Rattle.std.proofs.Common.{◌≡◌, refl, rules, true}
use Rattle.vg_device.specs.State.{State, has_resource}
use Rattle.vg_device.proofs.BoundLemmas.{showing-without}
use Rattle.vg_device.proofs.KeepLemmas.{blob-taken, resource-taken}
use Rattle.vg_device.proofs.device.Device.unref.Goals as goal

pub invariant_of-self : goal.invariant_of-self
invariant_of-self c =
    let was = c.self.invariant in
    let s = c.self.inside in
    let now = showing-without s.blobs s.resources.resources c.args.resource _ s.scanouts (record { count_is = was.screens; showing = was.showing }) in
    let blob_gone = blob-taken c.args.resource s.blobs c.remove.new.self c.remove.result c.remove.ensures.done in
    let gone = resource-taken c.args.resource s.resources.resources c.remove-2.new.self.resources c.remove-2.result c.remove-2.ensures.done in
    record {
      setup = was.setup;
      pages = was.pages;
      backings = c.remove-3.ensures.held s.pages was.backings;
      blobs = c.remove.ensures.held s.pages was.blobs;
      screens = rw c.unbind_resource.ensures now.count_is;
      showing = rw (c.unbind_resource.ensures, blob_gone, gone) now.showing;
      leases = was.leases;
      share = was.share;
      reserved = was.reserved;
      exports = was.exports;
      given = rw c.forget-2.ensures was.given;
      cursors = was.cursors;
      plugs = was.plugs;
    }

pub returns : goal.returns
returns c =
    let s = c.self.inside in
    let blob_gone = blob-taken c.args.resource s.blobs c.remove.new.self c.remove.result c.remove.ensures.done in
    let gone = resource-taken c.args.resource s.resources.resources c.remove-2.new.self.resources c.remove-2.result c.remove-2.ensures.done in
    let state : State = record { setup = s.setup; entries = s.entries; memory = s.pages; resources = s.resources.resources; backings = s.backings; blobs = s.blobs; contexts = s.contexts; uuids = s.uuids; cursors = s.cursors; scanouts = s.scanouts; share = s.share; plugs = s.plugs } in
    let there : has_resource state c.args.resource ≡ true = search rules in
    rw (← c.self.view_is, c.remove-3.ensures.after, c.forget.ensures, c.forget-2.ensures, c.unbind_resource.ensures, blob_gone, gone, there) refl
