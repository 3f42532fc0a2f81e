use Rattle.std.proofs.Common.{◌≡◌, ◌<◌, None, length, sym, ◌∙◌, arith}
use Rattle.vg_names.proofs.NamesLemmas.{looked_none, looked_some}
use Rattle.vg_names.proofs.names.current_of.Goals as goal
use Rattle.vg_names.proofs.names.current_of.Goals.{in-Some+in_ok-push, in_default}

pub loop-i-preserved : goal.loop-i-preserved
loop-i-preserved c =
    let within : c.loop-i.i < length c.args.places.now = omega arith in
    elim c.match-kept_at.branch [
      | in-Some+in_ok-push w ↦
          rw (w.current-is, w.in_ok-push.ensures.items)
          (looked_some c.loop-i.i w.in-Some.one c.loop-i.current.items c.args.held.now.slots c.args.places.now within
          c.loop-i.invariant w.in-Some.ensures)
      | in_default w ↦
          let none : c.kept_at.result ≡ None = grind arith in
          rw w.current-is
          (looked_none c.loop-i.i c.loop-i.current.items c.args.held.now.slots c.args.places.now within c.loop-i.invariant
          (sym c.kept_at.ensures ∙ none))
    ]
