use Rattle.std.proofs.Common.{◌≡◌, false, true, rules}
use Rattle.vg_blob.specs.Blobs.{blob_at}
use Rattle.std.specs.Prelude.{is_some}
use Rattle.vg_resource.specs.Resource.{resource_at}
use Rattle.std.proofs.Common.{}
use Rattle.vg_device.proofs.KeepLemmas.{lifted-detach}
use Rattle.vg_device.proofs.device.Device.detach.Goals as goal

pub invariant_of-self : goal.invariant_of-self
invariant_of-self c =
    let was = c.self.invariant in
    record {
      setup = was.setup;
      pages = was.pages;
      backings = c.detach.ensures.held c.self.inside.pages was.backings;
      blobs = was.blobs;
      screens = was.screens;
      showing = was.showing;
      leases = was.leases;
      share = was.share;
      reserved = was.reserved;
      exports = was.exports;
      given = was.given;
      cursors = was.cursors;
      plugs = was.plugs;
    }

pub returns : goal.returns
returns c =
    let s = c.self.inside in
    let known : is_some (resource_at c.args.resource s.resources.resources) ≡ true = search rules in
    let apart : is_some (blob_at c.args.resource s.blobs) ≡ false = search rules in
    rw (← c.self.view_is, apart)
    (lifted-detach (λ backings. record { setup = s.setup; entries = s.entries; memory = s.pages; resources = s.resources.resources; backings = backings; blobs = s.blobs; contexts = s.contexts; uuids = s.uuids; cursors = s.cursors; scanouts = s.scanouts; share = s.share; plugs = s.plugs })
    (is_some (resource_at c.args.resource s.resources.resources)) c.args.resource s.backings c.detach.new.self c.detach.result known c.detach.ensures.done)
