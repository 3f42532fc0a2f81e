-- What names no transfer copies nothing.
use Rattle.std.proofs.Common.{◌≡◌, rules, ◌∙◌}
use Rattle.vg_wire_ext.specs.Request.{request_of}
use Rattle.vg_wire_ext.specs.Named.{named_in}
use Rattle.vg_machine.proofs.DisplayLemmas.{copies-named}
use Rattle.vg_machine.proofs.display.Display.asked_copy.Goals as goal

pub returns-in_default : goal.returns-in_default
returns-in_default c =
    let request = c.args.request.now in
    let same : c.named.result ≡ named_in (request_of request.queue request.bytes) = search rules in
    record { asks = tt; accepted = tt; some = tt; none = copies-named c.args.self.now.state request (λ id is. c.in_default.not-Transfer id (same ∙ is)) }
