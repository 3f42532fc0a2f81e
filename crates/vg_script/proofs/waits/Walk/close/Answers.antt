use Rattle.std.proofs.Common.{rules, arith, ◌≡◌, ◌∙◌, ◌-◌, ap, Some, None}
use Rattle.vg_script.specs.SearchWithin.{close, behind_from}
use Rattle.vg_script.specs.WalkWithin.{search_of, target_in}
use Rattle.vg_script.proofs.WalkLemmas.{close_some, close_none, close_over}
use Rattle.vg_script.proofs.waits.Walk.close.Goals as goal

pub returns-in_default : goal.returns-in_default
returns-in_default c =
    let none : behind_from 0 c.loop-left.self.reach.items c.loop-left.self.gone.items ≡ None = search rules in
    close_none (target_in c.args.clients.now c.args.places.now) c.loop-left.left (search_of c.loop-left.self) _ (search arith) none c.loop-left.invariant

pub loop-left-preserved : goal.loop-left-preserved
loop-left-preserved c =
    let some : behind_from 0 c.loop-left.self.reach.items c.loop-left.self.gone.items ≡ Some c.in-Some.client = search rules in
    ap (close (target_in c.args.clients.now c.args.places.now) (c.loop-left.left - 1)) c.go.ensures
    ∙ close_some (target_in c.args.clients.now c.args.places.now) c.loop-left.left c.in-Some.client (search_of c.loop-left.self) _ (search arith) some c.loop-left.invariant

pub returns : goal.returns
returns c = close_over (target_in c.args.clients.now c.args.places.now) c.loop-left.left (search_of c.loop-left.self) _ (search arith) c.loop-left.invariant
