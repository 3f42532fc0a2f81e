-- What holds of the display after every history.
use Rattle.std.proofs.Common.{◌≡◌, ◌||◌, length, List, sym, ap, ap₂, subst, ◌∙◌, arith}
use Rattle.std.specs.Prelude.{is_some}
use Rattle.vg_client_holds.specs.Setup.{IsSetup}
use Rattle.vg_client_holds.specs.declared.setup.Setup.{Setup}
use Rattle.vg_device.specs.State.{IsConsistent}
use Rattle.vg_machine.specs.Entries.{Entry}
use Rattle.vg_machine.specs.Replay.{replay}
use Rattle.vg_linked.specs.Consistent.{IsReplayed}
use Rattle.vg_linked.proofs.FitLemmas.{entries-held, memory-stands}
use Rattle.vg_linked.proofs.IdLemmas.{ids-stand}
use Rattle.vg_linked.proofs.LinkHistory.{stands}
use Rattle.vg_linked.proofs.ScreenLemmas.{bound-there, shows}
use Rattle.vg_linked.proofs.SizeLemmas.{as-many, as-plugged, counts-within}

consistent : (setup : Setup) (H : List Entry) → IsSetup setup → IsConsistent (replay setup H)
consistent setup H is =
    let s = replay setup H in
    let many = as-many setup H in
    let memory = memory-stands setup H in
    let held = entries-held setup H in
    let counts = counts-within setup H in
    let displays : length setup.displays ≡ length s.setup.displays = ap (λ (now : Setup). length now.displays) (sym many.setup_is) in
    record {
      setup = subst IsSetup (sym many.setup_is) is;
      pages = memory.taken ∙ ap (λ (now : Setup). now.pages) (sym many.setup_is);
      backings = held.backings;
      blobs = held.blobs;
      screens = many.screens_are ∙ displays;
      showing = shows setup H;
      leases = memory.leases ∙ displays;
      share = memory.fits;
      reserved = omega (arith, counts.reserved_is);
      exports = omega (arith, counts.exports_are);
      given = omega (arith, counts.given_are);
      cursors = many.cursors_are ∙ displays;
      plugs = as-plugged setup H ∙ displays;
    }

pub replayed : (setup : Setup) (H : List Entry) → IsSetup setup → IsReplayed setup (replay setup H)
replayed setup H is =
    let s = replay setup H in
    let ids = ids-stand setup H in
    record {
      setup_is = (as-many setup H).setup_is;
      consistent = consistent setup H is;
      bytes = (memory-stands setup H).bytes;
      ids = record {
        buffers = (stands setup H).rising;
        resources = ids.rising_resources;
        backings = ids.rising_backings;
        blobs = ids.rising_blobs;
        apart = ids.apart;
        not_0 = ap₂ (λ blob found. is_some blob || is_some found) ids.no_blob ids.no_resource;
      };
      together = record { backed = ids.backed; bound = λ scanout binding found. bound-there s scanout binding found (shows setup H) };
    }
