use Rattle.vg_legal.proofs.LegalLemmas.{empty-journal}
use Rattle.vg_legal.proofs.laws.nothing_without_clients.Goals as goal

pub returns : goal.returns
returns c = empty-journal
