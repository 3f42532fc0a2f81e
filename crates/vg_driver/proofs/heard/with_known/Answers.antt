use Rattle.std.proofs.Common.{sym, subst}
use mathlib.Core.List.{IsPrefix}
use Rattle.vg_history.proofs.ListLemmas.{prefix_none}
use Rattle.vg_driver.specs.Halves.{seen_by}
use Rattle.vg_driver.proofs.heard.with_known.Goals as goal

pub returns-in_default-clause-known : goal.returns-in_default-clause-known
returns-in_default-clause-known g c = subst (λ known. IsPrefix (seen_by known) c.args.note.seen) (sym c.in_default.is) (prefix_none c.args.note.seen)
