use Rattle.std.proofs.Common.{refl}
use Rattle.vg_laws.proofs.Results.{ok_then}
use Rattle.vg_client.proofs.StepLemmas.{finished-all}
use Rattle.vg_client.proofs.begun.finish.Goals as goal

pub returns-clause-done : goal.returns-clause-done
returns-clause-done g c = ok_then _ (finished-all c.args.client.now _ c.requires.ready c.finish_all.ensures.begun refl refl refl) c.finish_all.ensures.done
