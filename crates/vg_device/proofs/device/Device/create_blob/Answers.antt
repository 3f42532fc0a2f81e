use Rattle.std.proofs.Common.{◌≡◌, false, rules}
use Rattle.std.specs.Prelude.{is_some}
use Rattle.vg_laws.proofs.Options.{none-there}
use Rattle.vg_resource.specs.Resource.{resource_at}
use Rattle.vg_device.proofs.KeepLemmas.{if-nodata, lifted-blob}
use Rattle.vg_device.proofs.ShowingLemmas.{showing-blob}
use Rattle.vg_device.proofs.device.Device.create_blob.Goals as goal

pub invariant_of-self-2 : goal.invariant_of-self-2
invariant_of-self-2 c =
    let was = c.self.invariant in
    let s = c.self.inside in
    let apart : is_some (resource_at c.args.resource s.resources.resources) ≡ false = search rules in
    let now = showing-blob s.pages c.args.resource c.args.mem c.args.flags c.args.size c.args.entries.now s.blobs c.create.new.self c.in_ok-done.done c.in_ok-done.ensures.done
    s.resources.resources s.scanouts.screens (none-there (resource_at c.args.resource s.resources.resources) apart) was.showing in
    record {
      setup = was.setup;
      pages = was.pages;
      backings = was.backings;
      blobs = c.create.ensures.held was.blobs;
      screens = was.screens;
      showing = now;
      leases = was.leases;
      share = was.share;
      reserved = was.reserved;
      exports = was.exports;
      given = was.given;
      cursors = was.cursors;
      plugs = was.plugs;
    }

pub returns-clause-step : goal.returns-clause-step
returns-clause-step c =
    let s = c.self.inside in
    let apart : is_some (resource_at c.args.resource s.resources.resources) ≡ false = search rules in
    rw (c.nodata.ensures, ← c.self.view_is, apart)
    (if-nodata c.in_ok-done.done _
    (lifted-blob (λ blobs. record { setup = s.setup; entries = s.entries; memory = s.pages; resources = s.resources.resources; backings = s.backings; blobs = blobs; contexts = s.contexts; uuids = s.uuids; cursors = s.cursors; scanouts = s.scanouts; share = s.share; plugs = s.plugs })
    s.pages c.args.resource c.args.mem c.args.flags c.args.size c.args.entries.now s.blobs c.create.new.self c.in_ok-done.done c.in_ok-done.ensures.done))
