use Rattle.std.proofs.Common.{◌≤◌, sym, subst}
use Rattle.vg_client_holds.specs.declared.setup.Setup.{Setup}
use Rattle.vg_client_holds.proofs.SetupLemmas.{few-clients}
use Rattle.vg_judge.proofs.entries.Entries.new.Goals as goal

pub parties-requires : goal.parties-requires
parties-requires c = subst (λ (setup : Setup). setup.clients ≤ 32) (sym c.requires.2.setup) (few-clients c.requires.0.setup c.requires.1.setup)
