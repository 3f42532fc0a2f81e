use Rattle.std.proofs.Common.{◌≡◌, ◌⊎◌, inl, inr, refl, Result, Ok, Err}
use Rattle.vg_wire.specs.declared.header.Header.{Header}
use Rattle.vg_wire_ext.specs.declared.command.Command.{Command}
use Rattle.vg_wire.specs.declared.request.Malformed.{Malformed}
use Rattle.vg_wire_ext.specs.Request.{request_of}
use Rattle.vg_wire_ext.proofs.laws.a_request_or_a_refusal.Goals as goal

-- an answer is one of two
outcome : (read : Result (Header × Command) Malformed) → ((header : Header) × (command : Command) × (read ≡ Ok (header, command))) ⊎ ((malformed : Malformed) × (read ≡ Err malformed))
outcome (Ok pair) = inl (pair.0, pair.1, refl)
outcome (Err malformed) = inr (malformed, refl)

pub returns-clause-either : goal.returns-clause-either
returns-clause-either c = λ queue bytes. outcome (request_of queue bytes)
