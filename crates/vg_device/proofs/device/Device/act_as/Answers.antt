use Rattle.vg_device.proofs.ActLemmas.{refused-kept}
use Rattle.vg_device.proofs.device.Device.act_as.Goals as goal

pub returns-else-is_err-clause-refused : goal.returns-else-is_err-clause-refused
returns-else-is_err-clause-refused c = rw (← c.self.view_is) (refused-kept c.perform-done.result (λ twice. twice.0) _ _ c.args.client c.args.act.now c.perform-done.ensures.step)
