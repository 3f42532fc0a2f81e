use Rattle.std.proofs.Common.{subst}
use Rattle.vg_ring.specs.Making.{IsNewDevice}
use Rattle.vg_ring.proofs.ring.Made.named.Goals as goal

pub returns-clause-device : goal.returns-clause-device
returns-clause-device g c = subst (λ m. IsNewDevice m.queue m.size c.of-2.result) c.self.view_is (c.of-2.ensures c.self.inside.queue c.self.invariant.1.device_view)
