use Rattle.std.proofs.Common.{subst, sym}
use Rattle.vg_client_holds.specs.Setup.{IsSetup}
use Rattle.vg_script_part.proofs.SetupLemmas.{displays-in}
use Rattle.vg_legal.proofs.driving.drive.Goals as goal

pub new-requires : goal.new-requires
new-requires g c = subst IsSetup (sym c.in_ok-setup.ensures) (displays-in c.args.script c.requires.limits)
