use Rattle.std.proofs.Common.{sym, subst, arith}
use Rattle.std.specs.Prelude.{slice_index_or}
use Rattle.vg_jobs.proofs.JobLemmas.{all_give, ok_from}
use Rattle.vg_jobs.proofs.crew.each.Goals as goal

pub returns : goal.returns
returns g c = ok_from c.map_vec.result _ _ _ c.map_vec.ensures.len c.map_vec.ensures.each (λ v len h.
    all_give g.J.Job.gives c.args.jobs.items v.items (omega (arith, len)) (λ i j d lt. let k = (h i d lt).1 in
    subst (λ x. g.J.Job.gives x (slice_index_or v.items i d)) (sym (k.job_is j)) k.call.met))
