use Rattle.std.proofs.Common.{rules, ◌≡◌, ℕ, ◌≤◌, ◌-◌, ◌∙◌, List, false, take, drop, sym, arith, length, nat_lt}
use Rattle.std.proofs.lemmas.Bool.Decides.{nat_tests}
use Rattle.std.proofs.lemmas.Slice.{between_to_end}
use Rattle.vg_wire_ext.proofs.NamedLemmas.{read_named}
use Rattle.vg_wire_ext.proofs.naming.named.Goals as goal

pub returns : goal.returns
returns c =
    let bytes : List ℕ = c.args.request.now in
    let enough : 24 ≤ length bytes = search rules in
    let long : nat_lt (length bytes) 24 ≡ false = grind (arith, nat_tests) in
    c.by_command.ensures
    ∙ read_named c.args.queue bytes (take (length bytes - 24) (drop 24 bytes)) c.in-Some.header long c.in-Some.ensures.fields
    (sym c.if-not-is_queue_of.ensures) (between_to_end bytes 24 (length bytes) (omega arith))
