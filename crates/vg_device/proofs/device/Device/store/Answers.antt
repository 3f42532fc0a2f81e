use Rattle.std.proofs.Common.{◌≡◌, ◌*◌, ap, arith, length}
use Rattle.vg_share.specs.Cells.{repeated}
use Rattle.vg_device.proofs.ActLemmas.{blobs-kept, held-kept, large-stored, placed, shares-bytes}
use Rattle.vg_device.proofs.device.Device.store.Goals as goal

pub store_times-requires-clause-pages : goal.store_times-requires-clause-pages
store_times-requires-clause-pages c =
    let s = c.self.inside in
    rw c.in-Ok.ensures.pages (placed s.pages c.args.client c.args.key c.args.offset _ s.share c.in-Ok.ensures.accepted c.self.invariant.share).givable

pub store_times-requires-clause-inside : goal.store_times-requires-clause-inside
store_times-requires-clause-inside c =
    let s = c.self.inside in
    let place = placed s.pages c.args.client c.args.key c.args.offset _ s.share c.in-Ok.ensures.accepted c.self.invariant.share in
    let size : length c.args.bytes.now * c.from.result ≡ length c.args.bytes.now * c.args.times = ap (λ n. length c.args.bytes.now * n) c.from.ensures in
    rw c.in-Ok.ensures.pages (omega (arith, place.inside, size))

pub invariant_of-self : goal.invariant_of-self
invariant_of-self c = rw c.in_err-store_times-in-Ok.ensures.err c.self.invariant

pub invariant_of-self-in-Ok : goal.invariant_of-self-in-Ok
invariant_of-self-in-Ok c =
    let was = c.self.invariant in
    let s = c.self.inside in
    let piece = repeated c.args.bytes.now c.args.times in
    let now = c.in_ok-store_times-in-Ok.ensures.stored in
    let large = large-stored s.pages c.in-Ok.pages.now c.args.offset piece in
    record {
      setup = was.setup;
      pages = rw now was.pages;
      backings = rw now (held-kept s.pages _ large s.backings was.backings);
      blobs = rw now (blobs-kept s.pages _ large s.blobs was.blobs);
      screens = was.screens;
      showing = was.showing;
      leases = was.leases;
      share = rw now (shares-bytes s.pages _ s.share was.share);
      reserved = was.reserved;
      exports = was.exports;
      given = was.given;
      cursors = was.cursors;
      plugs = was.plugs;
    }
