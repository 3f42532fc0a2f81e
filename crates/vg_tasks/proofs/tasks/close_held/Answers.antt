use Rattle.std.proofs.Common.{◌≡◌, ◌≤◌, sym, ap, refl, subst, cond, List, [], ◌∷◌, ◌++◌, Ok, Result}
use Rattle.std.specs.List.{AllByRecursion}
use Rattle.vg_client_holds.specs.declared.act.What.{What}
use Rattle.vg_tasks.specs.declared.task.Task.{Task}
use Rattle.vg_tasks.specs.Plans.{weights}
use Rattle.vg_tasks.specs.Fits.{IsFit}
use Rattle.vg_tasks.specs.Table.{release_task}
use Rattle.vg_names.specs.Names.{has_one_name}
use Rattle.vg_tasks.specs.Tasks.{clear_tasks}
use Rattle.vg_tasks.proofs.TaskLemmas.{close-few, close-fit}
use Rattle.vg_tasks.proofs.tasks.close_held.Goals as goal

pub returns-clause-plans : goal.returns-clause-plans
returns-clause-plans c =
    let key = c.args.held.key in
    let shows = c.args.shows.now in
    let only = has_one_name key c.args.names.now.current in
    let made : c.push.new.self ≡ cond only (clear_tasks key 0 shows) [] ++ release_task c.args.held ∷ [] = rw (c.in_ok-push.ensures, c.in_ok-tasks.ensures, c.release_task.ensures) refl in
    let Fit : List Task → Type 0 = λ xs. AllByRecursion IsFit xs in
    let Few : List Task → Type 0 = λ xs. weights xs ≤ 19 in
    let ok : List Task → Result (List Task) What = λ xs. Ok xs in
    (ap ok (sym made), subst Fit (sym made) (close-fit only key shows c.args.held), subst Few (sym made) (close-few only key shows c.args.held c.requires))
