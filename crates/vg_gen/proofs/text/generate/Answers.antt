use Rattle.std.proofs.Common.{◌≡◌, rules, sym, subst, ℕ, List, string_bytes}
use Rattle.vg_script.specs.declared.types.Script.{Script}
use Rattle.vg_script.specs.Grammar.{Parses}
use Rattle.vg_gen.specs.Generated.{generated}
use Rattle.vg_gen.proofs.TextLemmas.{generated_is}
use Rattle.vg_gen.proofs.text.generate.Goals as goal

pub returns-clause-parses : goal.returns-clause-parses
returns-clause-parses c =
    let is : string_bytes c.put_clients.new.text ≡ generated c.args.number c.args.clients = search (rules, generated_is) in
    let P : List ℕ → Type 0 = λ text. (script : Script) × Parses text script in
    subst P (sym is) (c.workloads_are_scripts.ensures.script c.args.number c.args.clients c.requires.clients.0 c.requires.clients.1)
