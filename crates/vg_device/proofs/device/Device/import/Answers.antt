use Rattle.vg_device.proofs.ActLemmas.{fits-imported}
use Rattle.vg_device.proofs.device.Device.import.Goals as goal

pub invariant_of-self-2 : goal.invariant_of-self-2
invariant_of-self-2 c =
    let was = c.self.invariant in
    let s = c.self.inside in
    let told = c.in_ok-key.ensures in
    let now =
    fits-imported _ s.pages _ s.entries c.args.client _ c.in_ok-key.field-0 s.share c.import_held.new.share told.kept told.after
    was.leases was.reserved was.exports (c.import_held.ensures.share s.pages was.share)
    in
    record {
      setup = was.setup;
      pages = was.pages;
      backings = was.backings;
      blobs = was.blobs;
      screens = was.screens;
      showing = was.showing;
      leases = now.leases;
      share = now.pages;
      reserved = now.reserved;
      exports = now.exports;
      given = was.given;
      cursors = was.cursors;
      plugs = was.plugs;
    }
