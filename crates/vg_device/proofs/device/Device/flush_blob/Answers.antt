use Rattle.std.proofs.Common.{◌≡◌, ◌∙◌, ℕ, Result, ap, arith, length, rules, subst, sym}
use Rattle.std.specs.List.{All}
use Rattle.vg_scanout.specs.Fits.{FitSurface}
use Rattle.vg_scanout.specs.Scanout.{ScanoutState, flush}
use Rattle.vg_device.proofs.BlobLemmas.{surface-found}
use Rattle.vg_device.proofs.BoundLemmas.{fits-blob, showing-flush}
use Rattle.vg_device.proofs.KeepLemmas.{if-nodata, step-flush-blob}
use Rattle.vg_device.proofs.device.Device.flush_blob.Goals as goal

pub flush-requires : goal.flush-requires
flush-requires c =
    let s = c.self.inside in
    let (blob, found, bytes, size) = surface-found s.pages c.args.resource s.blobs c.in-Some.surface.items (search rules) (search rules) in
    record {
      cursors = omega (arith, c.self.invariant.screens, c.self.invariant.cursors);
      surface = subst (λ n. All (FitSurface c.args.resource n) s.scanouts.screens) (sym (ap length c.as_slice-bytes.ensures.value ∙ size))
          (fits-blob s.blobs s.resources.resources c.args.resource blob s.scanouts.screens found c.self.invariant.showing);
    }

pub invariant_of-self-2 : goal.invariant_of-self-2
invariant_of-self-2 c =
    let was = c.self.invariant in
    let s = c.self.inside in
    let now = showing-flush s.blobs s.resources.resources _ c.args.resource c.args.rect.now _ _ s.scanouts c.flush.new.self c.in_ok-done.done _ c.in_ok-done.ensures.done (record { count_is = was.screens; showing = was.showing }) in
    record {
      setup = was.setup;
      pages = was.pages;
      backings = was.backings;
      blobs = was.blobs;
      screens = now.count_is;
      showing = now.showing;
      leases = was.leases;
      share = was.share;
      reserved = was.reserved;
      exports = was.exports;
      given = was.given;
      cursors = was.cursors;
      plugs = was.plugs;
    }

pub returns-clause-step : goal.returns-clause-step
returns-clause-step c =
    let s = c.self.inside in
    let (blob, found, bytes, size) = surface-found s.pages c.args.resource s.blobs c.in-Some.surface.items (search rules) (search rules) in
    rw (c.nodata.ensures, ← c.self.view_is)
    (if-nodata c.in_ok-done.done _
    (step-flush-blob (record { setup = s.setup; entries = s.entries; memory = s.pages; resources = s.resources.resources; backings = s.backings; blobs = s.blobs; contexts = s.contexts; uuids = s.uuids; cursors = s.cursors; scanouts = s.scanouts; share = s.share; plugs = s.plugs }) c.args.rect.now c.args.resource blob c.flush.new.self c.in_ok-done.done found
    (subst (λ surface. ◌≡◌ {A = ScanoutState × Result (Unit {0}) ℕ} (c.flush.new.self, c.in_ok-done.done) (flush s.entries c.args.resource c.args.rect.now surface s.cursors s.scanouts)) (c.as_slice-bytes.ensures.value ∙ bytes) c.in_ok-done.ensures.done)))
