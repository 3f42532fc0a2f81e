use Rattle.std.proofs.Common.{◌≡◌, false, rules}
use Rattle.std.specs.Prelude.{is_some}
use Rattle.vg_blob.specs.Blobs.{blob_at}
use Rattle.vg_device.proofs.KeepLemmas.{if-nodata, lifted-create}
use Rattle.vg_device.proofs.ShowingLemmas.{all-showing, keeping-create}
use Rattle.vg_device.proofs.device.Device.create.Goals as goal

pub invariant_of-self-2 : goal.invariant_of-self-2
invariant_of-self-2 c =
    let was = c.self.invariant in
    let keeping = keeping-create c.args.resource c.args.width c.args.height c.args.format c.self.inside.resources.resources c.create.new.self.resources c.in_ok-done.done c.in_ok-done.ensures.done in
    record {
      setup = was.setup;
      pages = was.pages;
      backings = was.backings;
      blobs = was.blobs;
      screens = was.screens;
      showing = all-showing c.self.inside.blobs c.self.inside.resources.resources c.create.new.self.resources c.self.inside.scanouts.screens keeping was.showing;
      leases = was.leases;
      share = was.share;
      reserved = was.reserved;
      exports = was.exports;
      given = was.given;
      cursors = was.cursors;
      plugs = was.plugs;
    }

pub returns-clause-step : goal.returns-clause-step
returns-clause-step c =
    let s = c.self.inside in
    let apart : is_some (blob_at c.args.resource s.blobs) ≡ false = search rules in
    rw (c.nodata.ensures, ← c.self.view_is, apart)
    (if-nodata c.in_ok-done.done _
    (lifted-create (λ resources. record { setup = s.setup; entries = s.entries; memory = s.pages; resources = resources; backings = s.backings; blobs = s.blobs; contexts = s.contexts; uuids = s.uuids; cursors = s.cursors; scanouts = s.scanouts; share = s.share; plugs = s.plugs })
    c.args.resource c.args.width c.args.height c.args.format s.resources.resources c.create.new.self.resources c.in_ok-done.done c.in_ok-done.ensures.done))
