-- Each setup is one with the queues of version 2, whose limits are wider.
use Rattle.std.proofs.Common.{◌≡◌, ◌==◌, ◌≤◌, ℕ, Bool, true, false, cond, inr, List, [], ◌∷◌, refl, ap, arith}
use Rattle.vg_limits.specs.Limits.{version_1, version_2}
use Rattle.vg_client_holds.specs.declared.setup.Setup.{Setup}
use Rattle.vg_client_holds.specs.Setup.{AreDisplays, IsSetup}
use Rattle.vg_queue_sizes.specs.Queues.{other_queues}

displays-still : (b : Bool) (displays : List (ℕ × ℕ)) → AreDisplays (cond b version_1 version_2) displays → AreDisplays version_2 displays
displays-still false displays was = was
displays-still true [] was = tt
displays-still true (display ∷ more) was =
    let width : display.0 ≤ 640 = was.0.1 in
    let height : display.1 ≤ 480 = was.0.3 in
    ((was.0.0, omega arith, was.0.2, omega arith), displays-still true more was.1)

clients-still : (b : Bool) (clients : ℕ) → clients ≤ (cond b version_1 version_2).clients → clients ≤ 32
clients-still false clients was = was
clients-still true clients was = omega arith

pub setup-still : (setup : Setup) → IsSetup setup → IsSetup (other_queues setup (256, 64))
setup-still setup was = record {
  some = was.some;
  at_most = was.at_most;
  displays = displays-still (setup.queues.0 == 64) setup.displays was.displays;
  one_page = was.one_page;
  pages = was.pages;
  accepted = was.accepted;
  clients = clients-still (setup.queues.0 == 64) setup.clients was.clients;
  queues = inr refl;
  host = λ same. let size : 256 ≡ 64 = ap (λ (queues : ℕ × ℕ). queues.0) same in absurd (omega arith);
}
