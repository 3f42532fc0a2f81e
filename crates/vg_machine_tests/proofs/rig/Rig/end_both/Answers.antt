use Rattle.vg_machine_tests.proofs.LaneLemmas.{has_first, has_second, nothing_left}
use Rattle.vg_machine_tests.proofs.rig.Rig.end_both.Goals as goal

pub bring_back-requires : goal.bring_back-requires
bring_back-requires g c = record { one = has_second c.args.self.now.display.lent c.args.first c.args.second c.requires.out }

pub bring_back-requires-2 : goal.bring_back-requires-2
bring_back-requires-2 g c = record { one = has_first c.args.self.now.display.lent c.bring_back.new.self.display.lent c.args.first c.args.second c.requires.out c.bring_back.ensures.lent }

pub returns : goal.returns
returns g c = record { lent = nothing_left c.args.self.now.display.lent c.bring_back.new.self.display.lent c.bring_back-2.new.self.display.lent c.args.first c.args.second c.requires.out c.bring_back.ensures.lent c.bring_back-2.ensures.lent }
