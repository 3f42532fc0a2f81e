use Rattle.vg_machine_tests.proofs.LaneLemmas.{brought_back}
use Rattle.vg_machine_tests.proofs.rig.Rig.bring_back.Goals as goal

pub returns : goal.returns
returns g c = record { lent = brought_back c.args.self.now.display.lent c.end-reply.new.self.lent c.args.job c.work.new.job c.requires.one c.work.ensures c.end-reply.ensures.lent }
