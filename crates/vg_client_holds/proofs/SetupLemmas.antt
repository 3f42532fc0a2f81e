-- How many clients a setup has.
use Rattle.std.proofs.Common.{◌≤◌, ◌==◌, ◌≡◌, ℕ, Bool, true, false, cond, arith}
use Rattle.vg_limits.specs.Limits.{of_queues, version_1, version_2}
use Rattle.vg_client_holds.specs.declared.setup.Setup.{Setup}
use Rattle.vg_client_holds.specs.Setup.{IsSetup, parties}

few-by : (clients : ℕ) (b : Bool) → clients ≤ (cond b version_1 version_2).clients → clients ≤ 32
few-by clients true few = omega (arith, few)
few-by clients false few = few

pub few-clients : (setup : Setup) → IsSetup setup → setup.clients ≤ 32
few-clients setup is = few-by setup.clients (setup.queues.0 == 64) is.clients

few-with : (clients : ℕ) (host : Bool) → clients ≤ 32 → parties clients host ≤ 33
few-with clients true few = omega (arith, few)
few-with clients false few = omega (arith, few)

pub few-parties : (setup : Setup) → IsSetup setup → parties setup.clients setup.host ≤ 33
few-parties setup is = few-with setup.clients setup.host (few-clients setup is)
