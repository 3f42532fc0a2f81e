use Rattle.vg_device.proofs.KeepLemmas.{command-kept}
use Rattle.vg_device.proofs.device.Device.respond.Goals as goal

pub returns-else-is_err-clause-refused : goal.returns-else-is_err-clause-refused
returns-else-is_err-clause-refused c =
    rw (← c.self.view_is) (command-kept c.answer-done.result (λ twice. twice.0.items) _ _ c.args.queue c.args.request.now c.args.room c.answer-done.ensures.step)
