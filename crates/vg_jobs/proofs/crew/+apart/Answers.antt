use Rattle.std.proofs.Common.{rules, sym, subst}
use Rattle.vg_jobs.specs.Jobs.{AllGive}
use Rattle.vg_jobs.proofs.JobLemmas.{one_more}
use Rattle.vg_jobs.proofs.crew.+apart.Goals as goal

pub returns : goal.returns
returns g t c = subst (λ x. AllGive g.J.Job.gives x c.push.new.self.items) (sym c.in-Some.ensures.items)
    (subst (AllGive g.J.Job.gives _) (sym c.in_ok-push.ensures.items) (one_more g.J.Job.gives _ _ _ _ (search rules) (search rules)))
