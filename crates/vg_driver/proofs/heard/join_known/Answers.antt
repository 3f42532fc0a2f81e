use Rattle.std.proofs.Common.{sym, subst}
use mathlib.Core.List.{IsPrefix}
use Rattle.vg_history.proofs.ListLemmas.{prefix_none}
use Rattle.vg_driver.specs.Halves.{seen_by}
use Rattle.vg_driver.proofs.HalfLemmas.{heard_none}
use Rattle.vg_driver.proofs.heard.join_known.Goals as goal

pub returns-in_default-clause-root : goal.returns-in_default-clause-root
returns-in_default-clause-root g c = heard_none c.args.root.now

pub returns-in_default-clause-seen : goal.returns-in_default-clause-seen
returns-in_default-clause-seen g c = subst (λ known. IsPrefix (seen_by known) c.args.root.now.seen) (sym c.in_default.is) (prefix_none c.args.root.now.seen)
