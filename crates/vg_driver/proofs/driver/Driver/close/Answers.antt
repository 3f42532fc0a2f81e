use Rattle.vg_machine.specs.Replay.{display}
use Rattle.vg_driver.proofs.HalfLemmas.{back_more, heard_both}
use Rattle.vg_driver.proofs.driver.Driver.close.Goals as goal

pub returns-clause-back : goal.returns-clause-back
returns-clause-back g c = (back_more display c.in_ok-control.control c.close.new.root.seen c.close-2.new.root.seen c.in_ok-control.ensures.back c.close-2.ensures.root.more, c.in_ok-cursor.ensures.back)

pub returns-clause-root : goal.returns-clause-root
returns-clause-root g c = heard_both c.args.root.now c.close.new.root c.close-2.new.root c.close.ensures.root c.close-2.ensures.root
