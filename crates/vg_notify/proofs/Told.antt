-- The steps at a seat that is known by an equation.
use Rattle.std.proofs.Common.{◌≡◌, ℕ, ◌+◌, ◌<◌, ◌≤◌, true, false, [], sym, subst}
use Rattle.atomic_table.specs.Table.{Allows, Splits, Joins, Me}
use Rattle.vg_notify.specs.declared.views.RingerStage.TheVariants as ringer
use Rattle.vg_notify.specs.declared.views.View.{View}
use Rattle.vg_notify.specs.declared.views.View.TheVariants.{Start, Rings, Sleeps, Note, Spent}
use Rattle.vg_notify.specs.Rule.{Holds}
use Rattle.vg_notify.specs.Plays.{new_ringer, new_sleeper, ringer_of, sleeper_of, count_noted, rung_noted, staged, stored, found_in, raised, roused, waiting_for, counted, listened, noted}
use Rattle.vg_notify.proofs.Steps.{stores_count, loads_event, raises, loads_kicks, stores_event, loads_count, hears, splits_start, notes_rung, takes_note, tells_note}

abbrev Mine : Type 0
Mine = Me (Unit {0}) View

pub count_step : (slots id : ℕ) (me : Mine) (count : ℕ) → me ≡ (Rings (staged (ringer_of me.0) ringer.Resting), []) → (ringer_of me.0).count ≤ count → count ≤ (ringer_of me.0).count + 32768
    → Allows Holds slots id me 0 (λ _. count) (λ _ after. after ≡ (Rings (stored (ringer_of me.0) count), []))
count_step slots id me count e later near = subst (λ (m : Mine). Allows Holds slots id m 0 (λ _. count) (λ _ after. after ≡ (Rings (stored (ringer_of m.0) count), []))) (sym e) (stores_count slots id (ringer_of me.0) count later near)

pub event_step : (slots id : ℕ) (me : Mine) → me ≡ (Rings (ringer_of me.0), []) → Allows Holds slots id me 1 (λ k. k) (λ found after. after ≡ (Rings (found_in (ringer_of me.0) found), []))
event_step slots id me e = subst (λ (m : Mine). Allows Holds slots id m 1 (λ k. k) (λ found after. after ≡ (Rings (found_in (ringer_of m.0) found), []))) (sym e) (loads_event slots id (ringer_of me.0))

pub raise_step : (slots id : ℕ) (me : Mine) (kicks : ℕ) → me ≡ (Rings (staged (ringer_of me.0) ringer.Raising), []) → kicks ≡ (ringer_of me.0).rung + 1
    → Allows Holds slots id me 2 (λ _. kicks) (λ _ after. after ≡ (Rings (raised (ringer_of me.0)), []))
raise_step slots id me kicks e is =
    subst (λ (k : ℕ). Allows Holds slots id me 2 (λ _. k) (λ _ after. after ≡ (Rings (raised (ringer_of me.0)), []))) (sym is)
    (subst (λ (m : Mine). Allows Holds slots id m 2 (λ _. (ringer_of m.0).rung + 1) (λ _ after. after ≡ (Rings (raised (ringer_of m.0)), []))) (sym e) (raises slots id (ringer_of me.0)))

pub note_step : (id : ℕ) (me : Mine) → me ≡ (Rings (staged (ringer_of me.0) ringer.Resting), []) → Splits Holds id me.0 me.0 (Note (ringer_of me.0).count (ringer_of me.0).rung)
note_step id me e = subst (λ (m : Mine). Splits Holds id m.0 m.0 (Note (ringer_of m.0).count (ringer_of m.0).rung)) (sym e) (notes_rung id (ringer_of me.0))

pub start_step : (id : ℕ) (me : Mine) → me ≡ (Start, []) → Splits Holds id me.0 (Rings new_ringer) (Sleeps new_sleeper)
start_step id me e = subst (λ (m : Mine). Splits Holds id m.0 (Rings new_ringer) (Sleeps new_sleeper)) (sym e) (splits_start id)

pub kicks_step : (slots id : ℕ) (me : Mine) → me ≡ (Sleeps (sleeper_of me.0), []) → Allows Holds slots id me 2 (λ k. k) (λ found after. after ≡ (Sleeps (roused (sleeper_of me.0) found), []))
kicks_step slots id me e = subst (λ (m : Mine). Allows Holds slots id m 2 (λ k. k) (λ found after. after ≡ (Sleeps (roused (sleeper_of m.0) found), []))) (sym e) (loads_kicks slots id (sleeper_of me.0))

pub wait_step : (slots id : ℕ) (me : Mine) (event : ℕ) → me ≡ (Sleeps (sleeper_of me.0), []) → (sleeper_of me.0).asleep ≡ false → Allows Holds slots id me 1 (λ _. event) (λ _ after. after ≡ (Sleeps (waiting_for (sleeper_of me.0) event), []))
wait_step slots id me event e awake = subst (λ (m : Mine). Allows Holds slots id m 1 (λ _. event) (λ _ after. after ≡ (Sleeps (waiting_for (sleeper_of m.0) event), []))) (sym e) (stores_event slots id (sleeper_of me.0) event awake)

pub look_step : (slots id : ℕ) (me : Mine) → me ≡ (Sleeps (sleeper_of me.0), []) → Allows Holds slots id me 0 (λ k. k) (λ found after. after ≡ (Sleeps (counted (sleeper_of me.0) found), []))
look_step slots id me e = subst (λ (m : Mine). Allows Holds slots id m 0 (λ k. k) (λ found after. after ≡ (Sleeps (counted (sleeper_of m.0) found), []))) (sym e) (loads_count slots id (sleeper_of me.0))

pub hear_step : (slots id : ℕ) (me : Mine) → me ≡ (Sleeps (sleeper_of me.0), []) → (sleeper_of me.0).asleep ≡ true → Allows Holds slots id me 2 (λ k. k) (λ found after. after ≡ (Sleeps (listened (sleeper_of me.0) found), []))
hear_step slots id me e asleep = subst (λ (m : Mine). Allows Holds slots id m 2 (λ k. k) (λ found after. after ≡ (Sleeps (listened (sleeper_of m.0) found), []))) (sym e) (hears slots id (sleeper_of me.0) asleep)

pub join_step : (id other : ℕ) (me note : Mine) → me ≡ (Sleeps (sleeper_of me.0), []) → note ≡ (Note (count_noted note.0) (rung_noted note.0), [])
    → Joins Holds id me.0 other note.0 (Sleeps (noted (sleeper_of me.0) (count_noted note.0) (rung_noted note.0))) Spent
join_step id other me note e e' =
    subst (λ (m : Mine). Joins Holds id m.0 other note.0 (Sleeps (noted (sleeper_of m.0) (count_noted note.0) (rung_noted note.0))) Spent) (sym e)
    (subst (λ (n : Mine). Joins Holds id (Sleeps (sleeper_of me.0)) other n.0 (Sleeps (noted (sleeper_of me.0) (count_noted n.0) (rung_noted n.0))) Spent) (sym e') (takes_note id other (sleeper_of me.0) (count_noted note.0) (rung_noted note.0)))

pub tell_step : (slots id : ℕ) (me : Mine) → me ≡ (Sleeps (sleeper_of me.0), [])
    → Allows Holds slots id me 0 (λ k. k) (λ found after. (after ≡ me) × ((sleeper_of me.0).asleep ≡ true → (sleeper_of me.0).event < (sleeper_of me.0).noted_count → (sleeper_of me.0).loaded < (sleeper_of me.0).noted_rung))
tell_step slots id me e = subst (λ (m : Mine). Allows Holds slots id m 0 (λ k. k) (λ found after. (after ≡ m) × ((sleeper_of m.0).asleep ≡ true → (sleeper_of m.0).event < (sleeper_of m.0).noted_count → (sleeper_of m.0).loaded < (sleeper_of m.0).noted_rung))) (sym e) (tells_note slots id (sleeper_of me.0))
