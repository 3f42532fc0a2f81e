-- The lane of a request, by the header that is read from it.
use Rattle.std.proofs.Common.{◌≡◌, ◌+◌, ◌∙◌, not, nat_le, nat_lt, ap, refl, arith, ℕ, Bool, true, false, cond, List, length, drop, Option, Some, None, Result, Ok, Err}
use Rattle.std.specs.Prelude.{ok_or, option_map}
use Rattle.std.proofs.lemmas.Bool.Decides.{nat_tests}
use Rattle.vg_wire.specs.declared.header.Header.{Header}
use Rattle.vg_wire_ext.specs.declared.command.Command.{Command}
use Rattle.vg_wire.specs.declared.request.Malformed.{Malformed}
use Rattle.vg_wire.specs.declared.request.Malformed.TheVariants.{ShortHeader, ShortBody, UnknownKind, WrongQueue}
use Rattle.vg_wire.specs.declared.request.Queue.TheVariants.{Control}
use Rattle.vg_wire.specs.Header.{header_of}
use Rattle.vg_wire_ext.specs.Commands.{command_of, is_known}
use Rattle.vg_wire_ext.specs.Request.{is_queue_of, request_after, request_of}
use Rattle.vg_machine.specs.Lane.{lane_of, lane_of_header}
use Rattle.vg_driver.specs.declared.request.Way.{Way}
use Rattle.vg_driver.specs.declared.request.Way.TheVariants.{Control as OnControl, Timeline, Cursor}
use Rattle.vg_driver.specs.Requests.{IsWay, header_by, lane_by, queue_by}

-- what is answered of a header, by the tests of its kind and the command that was found
abbrev judged : Bool → Bool → Header → Option Command → Result (Header × Command) Malformed
judged a b header found = cond a (Err (UnknownKind header.kind)) (cond b (Err WrongQueue) (ok_or (option_map (λ command. (header, command)) found) ShortBody))

after-header : (header header' : Header) (body : List ℕ) (command : Command) → request_after Control header body ≡ Ok (header', command) → header ≡ header'
after-header header header' body command e = by_test (not (is_known header.kind)) (not (is_queue_of header.kind Control)) (command_of header.kind body) e
  where
    by_test : (a b : Bool) (found : Option Command) → judged a b header found ≡ Ok (header', command) → header ≡ header'
    by_test true b found e = absurd (cc e)
    by_test false true found e = absurd (cc e)
    by_test false false None e = absurd (cc e)
    by_test false false (Some one) e = let pair : (header, one) ≡ (header', command) = cc e in ap (λ (p : Header × Command). p.0) pair

read-lane : (bytes : List ℕ) (header : Header) (command : Command) → request_of Control bytes ≡ Ok (header, command) → lane_of Control bytes ≡ lane_of_header header
read-lane bytes header command e = by_test (nat_lt (length bytes) 24) refl e
  where
    by_test : (b : Bool) → nat_lt (length bytes) 24 ≡ b → cond b (Err ShortHeader) (request_after Control (header_of bytes) (drop 24 bytes)) ≡ Ok (header, command) → lane_of Control bytes ≡ lane_of_header header
    by_test true is e = absurd (cc e)
    by_test false is e =
        let long : nat_le 24 (length bytes) ≡ true = grind (arith, nat_tests, is) in
        rw long (ap lane_of_header (after-header (header_of bytes) header (drop 24 bytes) command e))

-- the lane of a command that goes a way
pub request-lane : (way : Way) (kind ordinal : ℕ) (bytes : List ℕ) (command : Command) → IsWay way → request_of (queue_by way) bytes ≡ Ok (header_by way kind ordinal, command) → lane_of (queue_by way) bytes ≡ lane_by way
request-lane (OnControl context) kind ordinal bytes command is reads = read-lane bytes (header_by (OnControl context) kind ordinal) command reads
request-lane (Timeline context ring) kind ordinal bytes command is reads =
    let small : nat_le ring 63 ≡ true = grind (arith, nat_tests, is) in
    let lane : lane_of_header (header_by (Timeline context ring) kind ordinal) ≡ 1 + ring = rw small refl in
    read-lane bytes (header_by (Timeline context ring) kind ordinal) command reads ∙ lane
request-lane Cursor kind ordinal bytes command is reads = refl
