use Rattle.std.proofs.Common.{ap, ◌∙◌}
use Rattle.vg_share.specs.Share.{ended}
use Rattle.vg_device.proofs.ActLemmas.{shares-left}
use Rattle.vg_device.proofs.device.Device.leave.Goals as goal

pub invariant_of-self-2 : goal.invariant_of-self-2
invariant_of-self-2 c =
    let was = c.self.invariant in
    let s = c.self.inside in
    let left = c.end.ensures ∙ ap (ended c.args.client) c.in_ok-enter.ensures.ok in
    record {
      setup = was.setup;
      pages = was.pages;
      backings = was.backings;
      blobs = was.blobs;
      screens = was.screens;
      showing = was.showing;
      leases = rw left was.leases;
      share = rw left (shares-left s.pages c.args.client s.share was.share);
      reserved = rw left was.reserved;
      exports = rw left was.exports;
      given = was.given;
      cursors = was.cursors;
      plugs = was.plugs;
    }
