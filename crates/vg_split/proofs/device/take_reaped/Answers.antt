use Rattle.std.proofs.Common.{◌∙◌, [], arith, ap, sym, subst}
use mathlib.Core.List.{IsPrefix}
use Rattle.vg_split.specs.Plays.{device_of, fetched_of, reaped_of, reaped_noted, noted_by_device, rested}
use Rattle.vg_split.proofs.NoteSteps.{take_reaped_step, tell_reaped_step}
use Rattle.vg_split.proofs.device.take_reaped.Goals as goal

pub join_seat-requires : goal.join_seat-requires
join_seat-requires g c =
    let t = c.args.line.now.shared in
    let me = c.args.pass.now.me in
    let note = c.args.note in
    (c.requires.line.0, c.requires.line.1, ap (λ m. m.1) c.requires.note, omega (arith, c.requires.line.2), take_reaped_step g.P.Tagged.is_wanted t.key.queue t.key.count c.args.pass.now.id note.id me note.me (device_of me.0) (fetched_of note.me.0) (reaped_of note.me.0) c.requires.view c.requires.note)

pub load-requires : goal.load-requires
load-requires g c =
    let t = c.args.line.now.shared in
    let me = c.args.pass.now.me in
    let note = c.args.note in
    let is = c.join_seat.ensures.2 ∙ ap (λ m. (noted_by_device m.0 note.me.0, m.1)) c.requires.view in
    (c.join_seat.ensures.0 ∙ c.requires.line.0, omega (arith, c.requires.line.2), tell_reaped_step g.P.Tagged.is_wanted t.key.queue t.key.count t.table_id.slots c.join_seat.new.seat.id 0 c.join_seat.new.seat.me (device_of me.0) (reaped_of note.me.0) is)

pub returns-clause-line : goal.returns-clause-line
returns-clause-line g c =
    let me = c.args.pass.now.me in
    let note = c.args.note in
    let is = c.join_seat.ensures.2 ∙ ap (λ m. (noted_by_device m.0 note.me.0, m.1)) c.requires.view in
    (c.load.ensures.0 ∙ c.join_seat.ensures.0, c.load.ensures.1 ∙ c.join_seat.ensures.1, c.load.ensures.2.0 ∙ (ap (λ m. (rested m.0, [])) is ∙ sym c.requires.view))

pub returns-clause-reaped : goal.returns-clause-reaped
returns-clause-reaped g c =
    let note = c.args.note in
    let is = c.join_seat.ensures.2 ∙ ap (λ m. (noted_by_device m.0 note.me.0, m.1)) c.requires.view in
    subst (λ m. IsPrefix (reaped_noted (device_of m.0).stage) (device_of m.0).completed) is c.load.ensures.2.1
