use Rattle.std.proofs.Common.{◌≡◌, ◌∙◌, ap, ℕ, Result, Ok}
use Rattle.vg_wire.specs.declared.header.Header.{Header}
use Rattle.vg_wire.specs.declared.request.Malformed.{Malformed}
use Rattle.vg_wire.specs.declared.request.Queue.{Queue}
use Rattle.vg_wire_ext.specs.declared.command.Command.{Command}
use Rattle.vg_wire_ext.specs.Commands.{command_kind}
use Rattle.vg_wire_ext.specs.Request.{queue_of, request_of}
use Rattle.vg_driver.specs.Requests.{header_by, queue_by}
use Rattle.vg_driver.proofs.RequestLemmas.{request-lane}
use Rattle.vg_driver.proofs.request.request_by.Goals as goal

pub returns-clause-lane : goal.returns-clause-lane
returns-clause-lane c =
    let way = c.args.way in
    let command = c.args.command.now in
    let read : Header → Result (Header × Command) Malformed = λ header. Ok (header, command) in
    let reads : request_of (queue_by way) c.from_vec.result ≡ Ok (header_by way (command_kind command) c.args.ordinal, command) =
    ap (λ (q : Queue). request_of q c.from_vec.result) c.requires.2 ∙ ap (request_of (queue_of command)) c.from_vec.ensures ∙ c.in_ok-bytes.ensures.reads
    ∙ ap read (c.header_by-header.ensures ∙ ap (λ (kind : ℕ). header_by way kind c.args.ordinal) c.kind.ensures) in
    request-lane way (command_kind command) c.args.ordinal c.from_vec.result command c.requires.0 reads
