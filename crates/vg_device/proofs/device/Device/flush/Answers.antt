use Rattle.std.proofs.Common.{◌≡◌, true, rules, arith}
use Rattle.vg_formats.specs.Pixels.{is_inside}
use Rattle.std.proofs.Common.{sym}
use Rattle.vg_laws.proofs.Options.{none-there}
use Rattle.vg_blob.specs.Blobs.{blob_at}
use Rattle.vg_device.proofs.KeepLemmas.{if-nodata, step-flush}
use Rattle.vg_device.proofs.BoundLemmas.{fits-surface, showing-flush}
use Rattle.vg_resource.specs.Resource.{resource_of}
use Rattle.vg_device.proofs.device.Device.flush.Goals as goal

pub flush-requires : goal.flush-requires
flush-requires c =
    let s = c.self.inside in
    let surface = resource_of c.in-Some.surface.now in
    record {
      cursors = omega (arith, c.self.invariant.screens, c.self.invariant.cursors);
      surface = rw c.in-Some-as_slice.ensures.bytes (fits-surface s.blobs s.resources.resources c.args.resource surface s.scanouts.screens (none-there (blob_at c.args.resource s.blobs) (search rules)) (sym c.in-Some.ensures.value) c.in-Some.ensures.whole c.self.invariant.showing);
    }

pub invariant_of-self-2 : goal.invariant_of-self-2
invariant_of-self-2 c =
    let was = c.self.invariant in
    let s = c.self.inside in
    let now = showing-flush s.blobs s.resources.resources _ c.args.resource c.args.rect.now _ _ s.scanouts c.flush.new.self c.in_ok-done.done _ c.in_ok-done.ensures.done (record { count_is = was.screens; showing = was.showing }) in
    record {
      setup = was.setup;
      pages = was.pages;
      backings = was.backings;
      blobs = was.blobs;
      screens = now.count_is;
      showing = now.showing;
      leases = was.leases;
      share = was.share;
      reserved = was.reserved;
      exports = was.exports;
      given = was.given;
      cursors = was.cursors;
      plugs = was.plugs;
    }

pub returns-clause-step : goal.returns-clause-step
returns-clause-step c =
    let s = c.self.inside in
    let surface = resource_of c.in-Some.surface.now in
    let inside : is_inside c.args.rect.now surface.width surface.height ≡ true = search rules in
    rw (c.nodata.ensures, ← c.self.view_is)
    (if-nodata c.in_ok-done.done _
    (step-flush (record { setup = s.setup; entries = s.entries; memory = s.pages; resources = s.resources.resources; backings = s.backings; blobs = s.blobs; contexts = s.contexts; uuids = s.uuids; cursors = s.cursors; scanouts = s.scanouts; share = s.share; plugs = s.plugs }) c.args.rect.now c.args.resource surface c.flush.new.self c.in_ok-done.done (search rules) (sym c.in-Some.ensures.value) inside (rw c.in-Some-as_slice.ensures.bytes at c.in_ok-done.ensures.done)))
