use Rattle.std.proofs.Common.{rules, ap, sym, Some, None}
use Rattle.std.specs.Prelude.{option_map}
use Rattle.vg_client_holds.specs.declared.act.What.TheVariants.{Page}
use Rattle.vg_client_holds.proofs.ForeignLemmas.{foreign-found}
use Rattle.vg_client_holds.proofs.foreign.first_foreign.Goals as goal

pub returns-then-are_own : goal.returns-then-are_own
returns-then-are_own c = ap (option_map Page) (sym (c.are_own.ensures c.if-are_own.true))

pub returns-in-Some : goal.returns-in-Some
returns-in-Some c = foreign-found c.args.holds.now c.args.key c.in_ok-own.own.items c.args.entries.now (Some c.in-Some.n) c.in_ok-own.ensures (search rules)

pub returns : goal.returns
returns c = foreign-found c.args.holds.now c.args.key c.in_ok-own.own.items c.args.entries.now None c.in_ok-own.ensures (search rules)
