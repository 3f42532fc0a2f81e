use Rattle.vg_linked.proofs.HoldsLemmas.{holds-of}
use Rattle.vg_linked.proofs.LinkHistory.{buffers-alone, holds-linked}
use Rattle.vg_linked.proofs.laws.holds_are_linked.Goals as goal

pub returns-clause-linked : goal.returns-clause-linked
returns-clause-linked c = holds-linked

pub returns-clause-alone : goal.returns-clause-alone
returns-clause-alone c = buffers-alone

pub returns-clause-own : goal.returns-clause-own
returns-clause-own c = holds-of
