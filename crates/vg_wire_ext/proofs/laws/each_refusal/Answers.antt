use Rattle.std.proofs.Common.{◌≡◌, ◌∙◌, ℕ, ◌≤◌, Bool, true, false, not, Option, Some, None, Result, Err, refl, ap, sym, arith, length, drop, nat_lt}
use Rattle.std.specs.Prelude.{ok_or, option_map, if◌then◌else◌}
use Rattle.std.proofs.lemmas.Bool.Decides.{nat_tests}
use Rattle.vg_wire.specs.declared.header.Header.{Header}
use Rattle.vg_wire.specs.declared.request.Malformed.{Malformed}
use Rattle.vg_wire.specs.declared.request.Malformed.TheVariants.{ShortHeader, UnknownKind, WrongQueue, ShortBody}
use Rattle.vg_wire.specs.Header.{header_of}
use Rattle.vg_wire_ext.specs.declared.command.Command.{Command}
use Rattle.vg_wire_ext.specs.Commands.{is_known, command_of}
use Rattle.vg_wire_ext.specs.Request.{is_queue_of}
use Rattle.vg_wire_ext.proofs.laws.each_refusal.Goals as goal

-- what the tests make of a request
abbrev by_tests : Bool → Bool → Bool → Header → Option Command → Result (Header × Command) Malformed
by_tests short known right header read =
    if short then Err ShortHeader
    else if not known then Err (UnknownKind header.kind)
    else if not right then Err WrongQueue
    else ok_or (option_map (λ command. (header, command)) read) ShortBody

unknown-only : (short known right : Bool) (header : Header) (read : Option Command) (kind : ℕ) → by_tests short known right header read ≡ Err (UnknownKind kind)
    → (short ≡ false) × (known ≡ false) × (header.kind ≡ kind)
unknown-only true known right header read kind e = cc
unknown-only false false right header read kind e = (refl, refl, cc)
unknown-only false true false header read kind e = cc
unknown-only false true true header None kind e = cc
unknown-only false true true header (Some command) kind e = cc

unknown-where : (short known right : Bool) (header : Header) (read : Option Command) (kind : ℕ) → short ≡ false → known ≡ false → header.kind ≡ kind
    → by_tests short known right header read ≡ Err (UnknownKind kind)
unknown-where short known right header read kind a b e = rw (a, b, e) refl

pub returns-clause-unknown : goal.returns-clause-unknown
returns-clause-unknown c = λ queue bytes kind.
    let header : Header = header_of bytes in
    let known : Bool = is_known header.kind in
    let right : Bool = is_queue_of header.kind queue in
    let read : Option Command = command_of header.kind (drop 24 bytes) in (
      λ e.
          let is = unknown-only (nat_lt (length bytes) 24) known right header read kind e in
          let short : nat_lt (length bytes) 24 ≡ false = is.0 in
          let long : 24 ≤ length bytes = grind (arith, nat_tests) in
          (long, ap is_known (sym is.2) ∙ is.1, is.2),
      λ is.
          let long : 24 ≤ length bytes = is.0 in
          let short : nat_lt (length bytes) 24 ≡ false = grind (arith, nat_tests) in
          unknown-where (nat_lt (length bytes) 24) known right header read kind short (ap is_known is.2 ∙ is.1) is.2,
    )
