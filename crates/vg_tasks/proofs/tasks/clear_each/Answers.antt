use Rattle.std.proofs.Common.{arith, get_or, None}
use Rattle.std.proofs.lemmas.List.{drop_more}
use Rattle.vg_tasks.proofs.TaskLemmas.{clear-more}
use Rattle.vg_tasks.proofs.tasks.clear_each.Goals as goal

pub loop-scanout-preserved : goal.loop-scanout-preserved
loop-scanout-preserved c =
    let i = c.loop-scanout.scanout in
    let shows = c.args.shows.now in
    clear-more c.args.key i shows c.loop-scanout.tasks c.clear_shown.new.tasks _ (get_or shows i None) (drop_more shows i None (omega arith)) c.in_ok-clear_shown.ensures c.loop-scanout.invariant
