-- Each step of a bell's table keeps its rule.
use Rattle.std.proofs.Common.{◌≡◌, ℕ, zero, suc, ◌+◌, ◌<◌, ◌≤◌, ◌⊎◌, Bool, true, false, ◌==◌, if◌then◌else◌, List, [], ◌∷◌, ◌++◌, refl, sym, ap, subst, inl, inr, ◌∙◌, lt_of_not-le, arith}
use Rattle.std.specs.Prelude.{slice_index, slice_set}
use Rattle.std.proofs.lemmas.Bool.Decides.{nat_tests}
use mathlib.Core.Logic.{dite}
use mathlib.Core.Option.{some, some-injective, some-ne-none}
use native.Mathlib.Decide.{dec_le}
use lib.ListN.{get_elem?}
use Rattle.atomic_table.specs.Table.{State, Allows, Splits, Joins, stepped, keeps, opening}
use Rattle.vg_notify.specs.declared.views.RingerStage.{RingerStage}
use Rattle.vg_notify.specs.declared.views.RingerStage.TheVariants as ringer
use Rattle.vg_notify.specs.declared.views.RingerView.{RingerView}
use Rattle.vg_notify.specs.declared.views.SleeperView.{SleeperView}
use Rattle.vg_notify.specs.declared.views.View.{View}
use Rattle.vg_notify.specs.declared.views.View.TheVariants.{Start, Rings, Sleeps, Note, Spent}
use Rattle.vg_notify.specs.Need.{calls_for}
use Rattle.vg_notify.specs.Rule.{IsRinging, Kick, Knows, IsGuest, AreGuests, IsBell, Holds, KickAt}
use Rattle.vg_notify.specs.Plays.{new_ringer, new_sleeper, staged, stored, stage_found, found_in, raised, roused, waiting_for, counted, listened, noted}
use Rattle.vg_notify.proofs.NeedLemmas.{passed, moved}

abbrev At : Type 0
At = State (Unit {0}) View

guest_at : (r : RingerView) (z : SleeperView) (rest : List View) (i : ℕ) (view : View) → AreGuests r z rest → get_elem? rest i ≡ some view → IsGuest r z view
guest_at r z [] i view all at = absurd (some-ne-none view (sym at))
guest_at r z (first ∷ rest) zero view all at = subst (λ (w : View). IsGuest r z w) (some-injective first view at) all.0
guest_at r z (first ∷ rest) (suc i) view all at = guest_at r z rest i view all.1 at

-- what changes keep of each note they keep of each guest
guest_kept : (r r' : RingerView) (z z' : SleeperView) → ((count rung : ℕ) → IsGuest r z (Note count rung) → IsGuest r' z' (Note count rung)) → (view : View) → IsGuest r z view → IsGuest r' z' view
guest_kept r r' z z' kept Start guest = guest
guest_kept r r' z z' kept (Rings other) guest = guest
guest_kept r r' z z' kept (Sleeps other) guest = guest
guest_kept r r' z z' kept (Note count rung) guest = kept count rung guest
guest_kept r r' z z' kept Spent guest = guest

guests_kept : (r r' : RingerView) (z z' : SleeperView) → ((count rung : ℕ) → IsGuest r z (Note count rung) → IsGuest r' z' (Note count rung)) → (rest : List View) → AreGuests r z rest → AreGuests r' z' rest
guests_kept r r' z z' kept [] all = tt
guests_kept r r' z z' kept (view ∷ rest) all = (guest_kept r r' z z' kept view all.0, guests_kept r r' z z' kept rest all.1)

guests_more : (r : RingerView) (z : SleeperView) (rest : List View) (view : View) → AreGuests r z rest → IsGuest r z view → AreGuests r z (rest ++ view ∷ [])
guests_more r z [] view all guest = (guest, tt)
guests_more r z (first ∷ rest) view all guest = (all.0, guests_more r z rest view all.1 guest)

guests_spent : (r : RingerView) (z : SleeperView) (rest : List View) (i : ℕ) → AreGuests r z rest → AreGuests r z (slice_set rest i Spent)
guests_spent r z [] i all = all
guests_spent r z (first ∷ rest) zero all = (tt, all.1)
guests_spent r z (first ∷ rest) (suc i) all = (all.0, guests_spent r z rest i all.1)

new_start : (id : ℕ) (view : View) → get_elem? (Start ∷ []) id ≡ some view → view ≡ Start
new_start zero view at = sym (some-injective Start view at)
new_start (suc i) view at = absurd (some-ne-none view (sym at))

-- a seat with a ringer's view is the ringer's
record IsAtRinger (s : At) (id : ℕ) (r : RingerView) : Type 0 where
  pub id_is : id ≡ 0
  pub sleeper : SleeperView
  pub rest : List View
  pub bell : IsBell s r sleeper rest

at_ringer : (s : At) (id : ℕ) (r : RingerView) → Holds s → get_elem? s.views id ≡ some (Rings r) → IsAtRinger s id r
at_ringer s id r (inl fresh) at = (let same = new_start id (Rings r) (subst (λ (vs : List View). get_elem? vs id ≡ some (Rings r)) fresh.views at) in absurd (cc))
at_ringer s id r (inr b) at = go id (subst (λ (vs : List View). get_elem? vs id ≡ some (Rings r)) b.3.views at)
  where
    go : (id : ℕ) → get_elem? (Rings b.0 ∷ Sleeps b.1 ∷ b.2) id ≡ some (Rings r) → IsAtRinger s id r
    go zero here =
        let both : some (Rings b.0) ≡ some (Rings r) = here in
        let same : b.0 ≡ r = cc in
        record { id_is = refl; sleeper = b.1; rest = b.2; bell = subst (λ (q : RingerView). IsBell s q b.1 b.2) same b.3 }
    go (suc zero) here = (let both : some (Sleeps b.1) ≡ some (Rings r) = here in absurd (cc))
    go (suc (suc i)) here = absurd (guest_at b.0 b.1 b.2 i (Rings r) b.3.guests here)

-- a seat with a sleeper's view is the sleeper's
record IsAtSleeper (s : At) (id : ℕ) (z : SleeperView) : Type 0 where
  pub id_is : id ≡ 1
  pub ringer : RingerView
  pub rest : List View
  pub bell : IsBell s ringer z rest

at_sleeper : (s : At) (id : ℕ) (z : SleeperView) → Holds s → get_elem? s.views id ≡ some (Sleeps z) → IsAtSleeper s id z
at_sleeper s id z (inl fresh) at = (let same = new_start id (Sleeps z) (subst (λ (vs : List View). get_elem? vs id ≡ some (Sleeps z)) fresh.views at) in absurd (cc))
at_sleeper s id z (inr b) at = go id (subst (λ (vs : List View). get_elem? vs id ≡ some (Sleeps z)) b.3.views at)
  where
    go : (id : ℕ) → get_elem? (Rings b.0 ∷ Sleeps b.1 ∷ b.2) id ≡ some (Sleeps z) → IsAtSleeper s id z
    go zero here = (let both : some (Rings b.0) ≡ some (Sleeps z) = here in absurd (cc))
    go (suc zero) here =
        let both : some (Sleeps b.1) ≡ some (Sleeps z) = here in
        let same : b.1 ≡ z = cc in
        record { id_is = refl; ringer = b.0; rest = b.2; bell = subst (λ (q : SleeperView). IsBell s b.0 q b.2) same b.3 }
    go (suc (suc i)) here = absurd (guest_at b.0 b.1 b.2 i (Sleeps z) b.3.guests here)

-- the ringer has stepped
rung_on : (s : At) (r r' : RingerView) (z : SleeperView) (rest : List View) (i n : ℕ) → IsBell s r z rest → slice_set s.words i n ≡ r'.count ∷ z.event ∷ r'.rung ∷ [] → r.count ≤ r'.count
    → Knows r'.count r'.rung r'.stage → z.loaded ≤ r'.rung → Kick r' z → IsBell (stepped s i n 0 [] (Rings r') keeps) r' z rest
rung_on s r r' z rest i n b words up knows few kick = record {
  words = words;
  views = ap (λ (vs : List View). slice_set vs 0 (Rings r')) b.views;
  knows = knows;
  few = few;
  kick = kick;
  noted = kept z.noted_count z.noted_rung b.noted;
  guests = guests_kept r r' z z kept rest b.guests;
}
  where
    kept : (count rung : ℕ) → IsGuest r z (Note count rung) → IsGuest r' z (Note count rung)
    kept count rung guest = (let below = guest.0 in (omega arith, guest.1))

-- the sleeper has stepped
slept_on : (s : At) (r : RingerView) (z z' : SleeperView) (rest : List View) (i n : ℕ) → IsBell s r z rest → slice_set s.words i n ≡ r.count ∷ z'.event ∷ r.rung ∷ []
    → z'.loaded ≤ r.rung → Kick r z' → ((count rung : ℕ) → IsGuest r z (Note count rung) → IsGuest r z' (Note count rung)) → IsGuest r z (Note z'.noted_count z'.noted_rung)
    → IsBell (stepped s i n 1 [] (Sleeps z') keeps) r z' rest
slept_on s r z z' rest i n b words few kick kept note = record {
  words = words;
  views = ap (λ (vs : List View). slice_set vs 1 (Sleeps z')) b.views;
  knows = b.knows;
  few = few;
  kick = kick;
  noted = kept z'.noted_count z'.noted_rung note;
  guests = guests_kept r r z z' kept rest b.guests;
}

-- The ringer stores its count.
kick_stored : (event loaded old count rung : ℕ) → (event < old → (loaded < rung) ⊎ ⊥) → count ≤ old + 32768 → event < count → (loaded < rung) ⊎ (calls_for event count old ≡ true)
kick_stored event loaded old count rung kick near less = dite (dec_le old event) (λ reached. inr (passed event count old reached less near)) (λ before. inl (was (kick (lt_of_not-le before))))
  where
    was : (loaded < rung) ⊎ ⊥ → loaded < rung
    was (inl rang) = rang
    was (inr none) = absurd none

pub stores_count : (slots id : ℕ) (r : RingerView) (count : ℕ) → r.count ≤ count → count ≤ r.count + 32768
    → Allows Holds slots id (Rings (staged r ringer.Resting), []) 0 (λ _. count) (λ _ after. after ≡ (Rings (stored r count), []))
stores_count slots id r count later near = λ s holds many at bound.
    let q : RingerView = staged r ringer.Resting in
    let w = at_ringer s id q holds at in
    let b = w.bell in
    let z = w.sleeper in
    let next = rung_on s q (stored r count) z w.rest 0 count b (ap (λ (ws : List ℕ). slice_set ws 0 count) b.words) later (b.knows, later, near) b.few
    (λ asleep less. kick_stored z.event z.loaded r.count count r.rung (b.kick asleep) near less) in
    (Rings (stored r count), keeps, tt, rw w.id_is (inr (stored r count, z, w.rest, next)), refl)

-- It loads the event.
knows_found : (found count rung : ℕ) (stage : RingerStage) → Knows count rung stage → Knows count rung (stage_found found count stage)
knows_found found count rung ringer.Resting knows = knows
knows_found found count rung ringer.Raising knows = knows
knows_found found count rung (ringer.Stored old) knows = go (calls_for found count old) refl
  where
    go : (b : Bool) → calls_for found count old ≡ b → Knows count rung (if b then ringer.Raising else ringer.Resting)
    go true called = (let few = knows.0 in let more = moved found count old knows.1 called in omega arith)
    go false none = (let few = knows.0 in let later = knows.1 in omega arith)

kick_found : (event count loaded rung : ℕ) (stage : RingerStage) → (loaded < rung) ⊎ IsRinging event count stage → (loaded < rung) ⊎ IsRinging event count (stage_found event count stage)
kick_found event count loaded rung ringer.Resting kick = kick
kick_found event count loaded rung ringer.Raising kick = kick
kick_found event count loaded rung (ringer.Stored old) (inl rang) = inl rang
kick_found event count loaded rung (ringer.Stored old) (inr called) = inr (subst (λ (b : Bool). IsRinging event count (if b then ringer.Raising else ringer.Resting)) (sym called) tt)

pub loads_event : (slots id : ℕ) (r : RingerView) → Allows Holds slots id (Rings r, []) 1 (λ k. k) (λ found after. after ≡ (Rings (found_in r found), []))
loads_event slots id r = λ s holds many at bound.
    let w = at_ringer s id r holds at in
    let b = w.bell in
    let z = w.sleeper in
    let found : ℕ = slice_index s.words 1 in
    let is : found ≡ z.event = ap (λ (ws : List ℕ). slice_index ws 1) b.words in
    let next = rung_on s r (found_in r found) z w.rest 1 found b (ap (λ (ws : List ℕ). slice_set ws 1 (slice_index ws 1)) b.words) (omega arith) (knows_found found r.count r.rung r.stage b.knows) b.few
    (λ asleep less. subst (λ (e : ℕ). (z.loaded < r.rung) ⊎ IsRinging z.event r.count (stage_found e r.count r.stage)) (sym is) (kick_found z.event r.count z.loaded r.rung r.stage (b.kick asleep less))) in
    (Rings (found_in r found), keeps, tt, rw w.id_is (inr (found_in r found, z, w.rest, next)), refl)

-- It raises a kick.
pub raises : (slots id : ℕ) (r : RingerView) → Allows Holds slots id (Rings (staged r ringer.Raising), []) 2 (λ _. r.rung + 1) (λ _ after. after ≡ (Rings (raised r), []))
raises slots id r = λ s holds many at bound.
    let q : RingerView = staged r ringer.Raising in
    let w = at_ringer s id q holds at in
    let b = w.bell in
    let z = w.sleeper in
    let some_left : r.rung < r.count = b.knows in
    let few : z.loaded ≤ r.rung = b.few in
    let next = rung_on s q (raised r) z w.rest 2 (r.rung + 1) b (ap (λ (ws : List ℕ). slice_set ws 2 (r.rung + 1)) b.words) (omega arith) (omega arith) (omega arith) (λ asleep less. inl (omega arith)) in
    (Rings (raised r), keeps, tt, rw w.id_is (inr (raised r, z, w.rest, next)), refl)

-- The sleeper loads the kicks, before it stores an event.
pub loads_kicks : (slots id : ℕ) (z : SleeperView) → Allows Holds slots id (Sleeps z, []) 2 (λ k. k) (λ found after. after ≡ (Sleeps (roused z found), []))
loads_kicks slots id z = λ s holds many at bound.
    let w = at_sleeper s id z holds at in
    let b = w.bell in
    let r = w.ringer in
    let found : ℕ = slice_index s.words 2 in
    let is : found ≡ r.rung = ap (λ (ws : List ℕ). slice_index ws 2) b.words in
    let next = slept_on s r z (roused z found) w.rest 2 found b (ap (λ (ws : List ℕ). slice_set ws 2 (slice_index ws 2)) b.words) (omega arith) (λ asleep less. absurd (cc)) (λ count rung guest. (guest.0, λ asleep less. absurd (cc))) b.noted in
    (Sleeps (roused z found), keeps, tt, rw w.id_is (inr (r, roused z found, w.rest, next)), refl)

-- It stores the event.
pub stores_event : (slots id : ℕ) (z : SleeperView) (event : ℕ) → z.asleep ≡ false → Allows Holds slots id (Sleeps z, []) 1 (λ _. event) (λ _ after. after ≡ (Sleeps (waiting_for z event), []))
stores_event slots id z event awake = λ s holds many at bound.
    let w = at_sleeper s id z holds at in
    let b = w.bell in
    let r = w.ringer in
    let next = slept_on s r z (waiting_for z event) w.rest 1 event b (ap (λ (ws : List ℕ). slice_set ws 1 event) b.words) b.few (λ asleep less. absurd (cc)) (λ count rung guest. (guest.0, λ asleep less. absurd (cc))) b.noted in
    (Sleeps (waiting_for z event), keeps, tt, rw w.id_is (inr (r, waiting_for z event, w.rest, next)), refl)

-- It loads the count.
pub loads_count : (slots id : ℕ) (z : SleeperView) → Allows Holds slots id (Sleeps z, []) 0 (λ k. k) (λ found after. after ≡ (Sleeps (counted z found), []))
loads_count slots id z = λ s holds many at bound.
    let w = at_sleeper s id z holds at in
    let b = w.bell in
    let r = w.ringer in
    let found : ℕ = slice_index s.words 0 in
    let is : found ≡ r.count = ap (λ (ws : List ℕ). slice_index ws 0) b.words in
    let reached : (found == z.event) ≡ true → found ≡ z.event = λ same. grind (arith, nat_tests) in
    let next = slept_on s r z (counted z found) w.rest 0 found b (ap (λ (ws : List ℕ). slice_set ws 0 (slice_index ws 0)) b.words) b.few
    (λ asleep less. (let same = reached asleep in absurd (omega arith)))
    (λ count rung guest. (guest.0, λ asleep less. (let same = reached asleep in let below = guest.0 in absurd (omega arith)))) b.noted in
    (Sleeps (counted z found), keeps, tt, rw w.id_is (inr (r, counted z found, w.rest, next)), refl)

-- It looks for a kick.
pub hears : (slots id : ℕ) (z : SleeperView) → z.asleep ≡ true → Allows Holds slots id (Sleeps z, []) 2 (λ k. k) (λ found after. after ≡ (Sleeps (listened z found), []))
hears slots id z asleep_now = λ s holds many at bound.
    let w = at_sleeper s id z holds at in
    let b = w.bell in
    let r = w.ringer in
    let found : ℕ = slice_index s.words 2 in
    let next = slept_on s r z (listened z found) w.rest 2 found b (ap (λ (ws : List ℕ). slice_set ws 2 (slice_index ws 2)) b.words) b.few (λ asleep less. b.kick asleep_now less) (λ count rung guest. (guest.0, λ asleep less. guest.1 asleep_now less)) b.noted in
    (Sleeps (listened z found), keeps, tt, rw w.id_is (inr (r, listened z found, w.rest, next)), refl)

-- The table is made, and its first seat is cut in two.
pub opens : Holds (opening (0 ∷ 0 ∷ 0 ∷ []) [] Start)
opens = inl (record { words = refl; views = refl })

pub splits_start : (id : ℕ) → Splits Holds id Start (Rings new_ringer) (Sleeps new_sleeper)
splits_start id = λ s holds at. go id s holds at
  where
    started : (s : At) → s.words ≡ 0 ∷ 0 ∷ 0 ∷ [] → s.views ≡ Start ∷ [] → IsBell (record { words = s.words; homes = s.homes; views = slice_set s.views 0 (Rings new_ringer) ++ Sleeps new_sleeper ∷ [] }) new_ringer new_sleeper []
    started s words views = record {
      words = words;
      views = ap (λ (vs : List View). slice_set vs 0 (Rings new_ringer) ++ Sleeps new_sleeper ∷ []) views;
      knows = omega arith;
      few = omega arith;
      kick = λ asleep less. absurd (cc);
      noted = (omega arith, λ asleep less. absurd (cc));
      guests = tt;
    }

    go : (id : ℕ) (s : At) → Holds s → get_elem? s.views id ≡ some Start → Holds (record { words = s.words; homes = s.homes; views = slice_set s.views id (Rings new_ringer) ++ Sleeps new_sleeper ∷ [] })
    go zero s (inl fresh) at = inr (new_ringer, new_sleeper, [], started s fresh.words fresh.views)
    go (suc i) s (inl fresh) at = (let there : get_elem? (Start ∷ []) (suc i) ≡ some Start = subst (λ (vs : List View). get_elem? vs (suc i) ≡ some Start) fresh.views at in absurd (some-ne-none Start (sym there)))
    go id s (inr b) at = absurd (none b.0 b.1 b.2 b.3.guests id (subst (λ (vs : List View). get_elem? vs id ≡ some Start) b.3.views at))
      where
        none : (r : RingerView) (z : SleeperView) (rest : List View) → AreGuests r z rest → (id : ℕ) → get_elem? (Rings r ∷ Sleeps z ∷ rest) id ≡ some Start → ⊥
        none r z rest all zero here = (let both : some (Rings r) ≡ some Start = here in absurd (cc))
        none r z rest all (suc zero) here = (let both : some (Sleeps z) ≡ some Start = here in absurd (cc))
        none r z rest all (suc (suc i)) here = guest_at r z rest i Start all here

-- The ringer writes a note.
pub notes_rung : (id : ℕ) (r : RingerView) → Splits Holds id (Rings (staged r ringer.Resting)) (Rings (staged r ringer.Resting)) (Note r.count r.rung)
notes_rung id r = λ s holds at.
    let q : RingerView = staged r ringer.Resting in
    let w = at_ringer s id q holds at in
    let b = w.bell in
    let z = w.sleeper in
    let was : (z.loaded < r.rung) ⊎ ⊥ → z.loaded < r.rung = λ kick. elim kick [ inl rang ↦ rang | inr none ↦ absurd none ] in
    let guest : IsGuest q z (Note r.count r.rung) = (omega arith, λ asleep less. was (b.kick asleep less)) in
    let next : IsBell (record { words = s.words; homes = s.homes; views = slice_set s.views 0 (Rings q) ++ Note r.count r.rung ∷ [] }) q z (w.rest ++ Note r.count r.rung ∷ []) = record {
      words = b.words;
      views = ap (λ (vs : List View). slice_set vs 0 (Rings q) ++ Note r.count r.rung ∷ []) b.views;
      knows = b.knows;
      few = b.few;
      kick = b.kick;
      noted = b.noted;
      guests = guests_more q z w.rest (Note r.count r.rung) b.guests guest;
    } in
    rw w.id_is (inr (q, z, w.rest ++ Note r.count r.rung ∷ [], next))

-- The sleeper takes it in.
pub takes_note : (id other : ℕ) (z : SleeperView) (count rung : ℕ) → Joins Holds id (Sleeps z) other (Note count rung) (Sleeps (noted z count rung)) Spent
takes_note id other z count rung = λ s holds at apart at'.
    let w = at_sleeper s id z holds at in
    let b = w.bell in
    let r = w.ringer in
    let z' : SleeperView = noted z count rung in
    let there : get_elem? (slice_set s.views 1 (Sleeps z')) other ≡ some (Note count rung) = subst (λ (k : ℕ). get_elem? (slice_set s.views k (Sleeps z')) other ≡ some (Note count rung)) w.id_is at' in
    let views : slice_set s.views 1 (Sleeps z') ≡ Rings r ∷ Sleeps z' ∷ w.rest = ap (λ (vs : List View). slice_set vs 1 (Sleeps z')) b.views in
    rw w.id_is (joined s z' r w.rest b views other (subst (λ (vs : List View). get_elem? vs other ≡ some (Note count rung)) views there))
  where
    joined : (s : At) (z' : SleeperView) (r : RingerView) (rest : List View) → IsBell s r z rest → slice_set s.views 1 (Sleeps (noted z count rung)) ≡ Rings r ∷ Sleeps (noted z count rung) ∷ rest
        → (other : ℕ) → get_elem? (Rings r ∷ Sleeps (noted z count rung) ∷ rest) other ≡ some (Note count rung)
        → Holds (record { words = s.words; homes = s.homes; views = slice_set (slice_set s.views 1 (Sleeps (noted z count rung))) other Spent })
    joined s z' r rest b views zero here = (let both : some (Rings r) ≡ some (Note count rung) = here in absurd (cc))
    joined s z' r rest b views (suc zero) here = (let both : some (Sleeps (noted z count rung)) ≡ some (Note count rung) = here in absurd (cc))
    joined s z' r rest b views (suc (suc i)) here = inr (
      r,
      noted z count rung,
      slice_set rest i Spent,
      record {
        words = b.words;
        views = ap (λ (vs : List View). slice_set vs (suc (suc i)) Spent) views;
        knows = b.knows;
        few = b.few;
        kick = b.kick;
        noted = guest_at r z rest i (Note count rung) b.guests here;
        guests = guests_spent r (noted z count rung) rest i (guests_kept r r z (noted z count rung) (λ c k guest. guest) rest b.guests);
      },
    )

-- A load tells what it says.
pub tells_note : (slots id : ℕ) (z : SleeperView) → Allows Holds slots id (Sleeps z, []) 0 (λ k. k) (λ found after. (after ≡ (Sleeps z, [])) × (z.asleep ≡ true → z.event < z.noted_count → z.loaded < z.noted_rung))
tells_note slots id z = λ s holds many at bound.
    let w = at_sleeper s id z holds at in
    let b = w.bell in
    let r = w.ringer in
    let next = slept_on s r z z w.rest 0 (slice_index s.words 0) b (ap (λ (ws : List ℕ). slice_set ws 0 (slice_index ws 0)) b.words) b.few b.kick (λ count rung guest. guest) b.noted in
    (Sleeps z, keeps, tt, rw w.id_is (inr (r, z, w.rest, next)), (refl, b.noted.1))

-- At every moment.
pub kick_at : (s : At) → Holds s → KickAt s
kick_at s holds i j r z at at' asleep less =
    let w = at_ringer s i r holds at in
    let v = at_sleeper s j z holds at' in
    let words = w.bell.words in
    let other = v.bell.words in
    let count : slice_index s.words 0 ≡ r.count = ap (λ (ws : List ℕ). slice_index ws 0) words in
    let event : slice_index s.words 1 ≡ z.event = ap (λ (ws : List ℕ). slice_index ws 1) other in
    let kicks : slice_index s.words 2 ≡ r.rung = ap (λ (ws : List ℕ). slice_index ws 2) words in
    let views : Rings r ∷ Sleeps w.sleeper ∷ w.rest ≡ Rings v.ringer ∷ Sleeps z ∷ v.rest = sym w.bell.views ∙ v.bell.views in
    let same : w.sleeper ≡ z = cc in
    let kick : Kick r z = subst (λ (q : SleeperView). Kick r q) same w.bell.kick in
    subst (λ (n : ℕ). (z.loaded < n) ⊎ IsRinging (slice_index s.words 1) (slice_index s.words 0) r.stage) (sym kicks)
    (subst (λ (e : ℕ). (z.loaded < r.rung) ⊎ IsRinging e (slice_index s.words 0) r.stage) (sym event)
    (subst (λ (n : ℕ). (z.loaded < r.rung) ⊎ IsRinging z.event n r.stage) (sym count) (kick asleep (omega arith))))
