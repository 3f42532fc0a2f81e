use Rattle.std.proofs.Common.{rules, ◌≡◌, ℕ, ◌≤◌, ◌-◌, ◌∙◌, List, true, take, drop, ap, sym, subst, refl, arith, length, Option, None, Some, Result}
use Rattle.std.specs.Prelude.{ok_or, option_map, IsOk, IsSome}
use Rattle.std.proofs.lemmas.Slice.{between_to_end}
use Rattle.vg_laws.proofs.Results.{on_err}
use Rattle.vg_wire.specs.declared.header.Header.{Header}
use Rattle.vg_wire.specs.declared.request.Queue.{Queue}
use Rattle.vg_wire_ext.specs.declared.command.Command.{Command}
use Rattle.vg_wire.specs.declared.request.Malformed.{Malformed}
use Rattle.vg_wire.specs.declared.request.Malformed.TheVariants.{ShortBody}
use Rattle.vg_wire.specs.Header.{header_of}
use Rattle.vg_wire_ext.specs.Commands.{is_known, command_of}
use Rattle.vg_wire_ext.specs.Request.{is_queue_of, request_of}
use Rattle.vg_wire_ext.proofs.RequestLemmas.{read_by_tests}
use Rattle.vg_wire_ext.proofs.request.read_request.Goals as goal

-- what a command that was found, or none, makes of the request
abbrev given : Header → Option Command → Result (Header × Command) Malformed
given header found = ok_or (option_map (λ command. (header, command)) found) ShortBody

-- the bytes behind the header, as a slice
abbrev behind : List ℕ → List ℕ
behind bytes = take (length bytes - 24) (drop 24 bytes)

read-behind : (queue : Queue) (bytes : List ℕ) (header : Header) (found : Option Command)
    → 24 ≤ length bytes → header ≡ header_of bytes → true ≡ is_known header.kind → true ≡ is_queue_of header.kind queue → found ≡ command_of header.kind (behind bytes)
    → given header found ≡ request_of queue bytes
read-behind queue bytes header found long same known right read =
    sym (read_by_tests queue bytes (behind bytes) header found long same (sym known) (sym right) (between_to_end bytes 24 (length bytes) (omega arith)) read)

given-some : (header : Header) (found : Option Command) → IsSome found → IsOk (given header found)
given-some header None is = is
given-some header (Some command) is = is

pub returns-in-Some-2-clause-exact : goal.returns-in-Some-2-clause-exact
returns-in-Some-2-clause-exact c =
    let long : 24 ≤ length c.args.bytes.now = search rules in
    sym (ap (given c.in-Some.header) c.in-Some-2.is)
    ∙ read-behind c.args.queue c.args.bytes.now c.in-Some.header c.in_ok-command.field-0 long c.in-Some.ensures.fields c.if-not-is_known.ensures c.if-not-is_queue_of.ensures c.in_ok-command.ensures.exact

pub returns-in-None-clause-exact : goal.returns-in-None-clause-exact
returns-in-None-clause-exact c =
    let long : 24 ≤ length c.args.bytes.now = search rules in
    sym (ap (given c.in-Some.header) c.in-None.is)
    ∙ read-behind c.args.queue c.args.bytes.now c.in-Some.header c.in_ok-command.field-0 long c.in-Some.ensures.fields c.if-not-is_known.ensures c.if-not-is_queue_of.ensures c.in_ok-command.ensures.exact

pub returns-in_err-command-clause-memory : goal.returns-in_err-command-clause-memory
returns-in_err-command-clause-memory c =
    let long : 24 ≤ length c.args.bytes.now = search rules in
    let found = command_of c.in-Some.header.kind (behind c.args.bytes.now) in
    on_err c.from_residual.result (subst IsOk (read-behind c.args.queue c.args.bytes.now c.in-Some.header found long c.in-Some.ensures.fields c.if-not-is_known.ensures c.if-not-is_queue_of.ensures refl) (given-some c.in-Some.header found c.in_err-command.ensures.memory))
