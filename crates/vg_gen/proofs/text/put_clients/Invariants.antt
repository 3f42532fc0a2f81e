use Rattle.std.proofs.Common.{◌≡◌, ◌++◌, string_bytes}
use Rattle.vg_gen.specs.Generated.{all_lines, text_of}
use Rattle.vg_gen.proofs.text.put_clients.Given as goal

abbrev pub invariant-loop-client : goal.invariant-loop-client
invariant-loop-client l = string_bytes l.text ≡ string_bytes l.initial.text ++ text_of (all_lines l.number l.clients l.client)
