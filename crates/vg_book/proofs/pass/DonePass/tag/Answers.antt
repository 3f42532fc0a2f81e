use Rattle.std.proofs.Common.{subst}
use Rattle.vg_history.specs.History.{HasFence}
use Rattle.vg_book.proofs.pass.DonePass.tag.Goals as goal

pub returns-clause-fence : goal.returns-clause-fence
returns-clause-fence g c = subst (λ v. HasFence g.M.Machine c.self.inside.lane c.self.inside.ordinal v.seen) c.self.view_is c.self.invariant.1.fence
