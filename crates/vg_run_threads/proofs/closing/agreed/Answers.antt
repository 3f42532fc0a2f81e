use Rattle.std.proofs.Common.{◌∙◌, ap}
use Rattle.vg_cargo.specs.DeviceEnds.{DeviceLists}
use Rattle.vg_run_threads.proofs.CrossingLemmas.{all-back}
use Rattle.vg_run_threads.proofs.closing.agreed.Goals as goal

pub returns-clause-back : goal.returns-clause-back
returns-clause-back g c =
    let agree = c.ends_agree.ensures in
    ap (λ (lists : DeviceLists). lists.completed) agree.device
    ∙ all-back c.args.driver.published c.args.device.fetched c.args.device.held c.args.device.completed c.args.driver.reaped agree.fetched agree.reaped agree.completed c.requires
