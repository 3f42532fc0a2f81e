-- A request that isn't read as a transfer copies nothing.
use Rattle.std.proofs.Common.{rules, ◌≡◌, Some, None}
use Rattle.std.specs.Prelude.{IfErr, IfOk}
use Rattle.vg_refusals.specs.Refusals.{refusal_of}
use Rattle.vg_device.specs.FitsWithin.{IsLetIn, transfer_read}
use Rattle.vg_device.specs.Step.{request_refusals}
use Rattle.vg_device.proofs.CopyLemmas.{copies-none, is-run}
use Rattle.vg_device.proofs.device.Device.asked_copy.Goals as goal

pub returns-in_default-transfer_in : goal.returns-in_default-transfer_in
returns-in_default-transfer_in c =
    let state = c.args.self.now in
    let request = c.args.request.now in
    let read = c.in_ok-read.read in
    let none : transfer_read read ≡ None = search rules in
    let told : IfOk read (λ found. IsLetIn state request.queue request.bytes found.1) = search rules in
    let refused : IfErr read (λ code. refusal_of (request_refusals state request.queue request.bytes) ≡ Some code) = search rules in
    record { asks = tt; accepted = tt; some = tt; none = copies-none state request read (is-run request.shape c.in_default.not-Bad) none told refused }
