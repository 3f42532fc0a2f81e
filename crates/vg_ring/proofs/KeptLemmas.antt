use Rattle.std.proofs.Common.{◌≡◌, ◌≢◌, ℕ, zero, suc, ◌+◌, ◌-◌, ◌%◌, ◌^◌, ◌<◌, ◌≤◌, Bool, true, false, cond, eqb, List, [], ◌∷◌, ◌++◌, length, take, drop, get_or, set, refl, sym, ap, subst, inl, inr, ◌∙◌, arith, length-append}
use Rattle.std.specs.Prelude.{Option}
use Rattle.std.proofs.lemmas.List.{get_or-set_same, get_or-set_other, length-set}
use Rattle.std.proofs.lemmas.Bool.{cases_eq, eq-eqb, ne_eqb}
use Rattle.atomic_table.specs.Table.{Me}
use Rattle.vg_chain.specs.declared.shape.Shape.{Shape}
use Rattle.vg_chain.specs.declared.shape.Shape.TheVariants.{Plain, Pieces, Indirect, Mixed, Bad}
use Rattle.vg_chain.specs.declared.chain.ChainFault.TheVariants as fault
use Rattle.vg_chain.specs.Made.{made, mixed, linked, or_empty, Layout, IsCount, IsNeeded}
use Rattle.vg_wire.specs.declared.request.Queue.{Queue}
use Rattle.vg_cargo.specs.declared.entries.Entry.{Entry}
use Rattle.vg_split.specs.declared.views.DriverView.{DriverView}
use Rattle.vg_split.specs.declared.views.DriverStage.{DriverStage}
use Rattle.vg_split.specs.declared.views.DriverStage.TheVariants as driver
use Rattle.vg_split.specs.declared.views.View.{View}
use Rattle.vg_split.specs.declared.views.View.TheVariants.{Driver}
use Rattle.vg_wire.specs.declared.request.Queue.TheVariants.{Control, Cursor}
use Rattle.vg_cargo.specs.Cargo.{CargoData, ParcelData, IsExtent, IsLane}
use Rattle.vg_cargo.specs.Entries.{entries, times, weigh, uses, uses_in, places_in, spread, lane_count, published_as}
use Rattle.vg_split.specs.Rule.{staged, published_after, reaped_after, looked_by_driver}
use Rattle.vg_split.specs.Places.{wrong, wrong_in, IsGiven, IsGivenBack}
use Rattle.vg_split.specs.Plays.{resting_driver}
use Rattle.vg_split.specs.Tells.{HasReaped, IsSendable}
use Rattle.vg_cargo.specs.Ends.{DriverLists, HasRoom, Publishes, Reaps}
use Rattle.vg_ring.specs.Kept.{driver_lists, IsKept}
use Rattle.vg_cargo.proofs.Counts.{lane_count-snoc, weigh-append, entries-append}
use Rattle.vg_split.proofs.PlaceLemmas.{drop_get, times_take_drop, wrong_kept}

-- every shape has a descriptor in the ring
linked_some : (b : ℕ) (parts : List _) (places : List ℕ) → 0 < length (linked (or_empty b parts) places)
linked_some b [] places = omega arith
linked_some b (part ∷ more) places = omega arith

chosen_some : (c : Bool) (one other : Layout) → 0 < length one.ring → 0 < length other.ring → 0 < length (cond c one other).ring
chosen_some true one other some some' = some
chosen_some false one other some some' = some'

mixed_some : (n r b : ℕ) (parts : List _) (places : List ℕ) → 0 < length (mixed n r b parts places).ring
mixed_some n r b [] places = linked_some b _ (drop 1 places)
mixed_some n r b (part ∷ more) places = chosen_some (eqb n 0) _ _ (linked_some b _ (drop 1 places)) (omega arith)

pub made_some : (shape : Shape) (n r b q : ℕ) (places : List ℕ) → 0 < length (made shape n r b q places).ring
made_some Plain n r b q places = linked_some b _ (drop 1 places)
made_some (Pieces k) n r b q places = linked_some b _ (drop 1 places)
made_some Indirect n r b q places = omega arith
made_some Mixed n r b q places = mixed_some n r b _ places
made_some (Bad fault.Index) n r b q places = omega arith
made_some (Bad fault.Loop) n r b q places = omega arith
made_some (Bad fault.Nested) n r b q places = omega arith
made_some (Bad fault.NextWithIndirect) n r b q places = omega arith
made_some (Bad fault.TableLength) n r b q places = omega arith
made_some (Bad fault.Order) n r b q places = omega arith
made_some (Bad fault.Range) n r b q places = omega arith

take_long : (xs : List ℕ) (k : ℕ) → k ≤ length xs → length (take k xs) ≡ k
take_long xs zero few = refl
take_long [] (suc k) few = absurd (omega arith)
take_long (x ∷ xs) (suc k) few = ap suc (take_long xs k (omega arith))

drop_long : (xs : List ℕ) (k : ℕ) → k ≤ length xs → length (drop k xs) + k ≡ length xs
drop_long xs zero few = omega arith
drop_long [] (suc k) few = absurd (omega arith)
drop_long (x ∷ xs) (suc k) few = (let rest = drop_long xs k (omega arith) in omega (arith, rest))

pub cut_long : (free : List ℕ) (at k : ℕ) → at + k ≤ length free → length (take k (drop at free)) ≡ k
cut_long free at k few = (let long = drop_long free at (omega arith) in take_long (drop at free) k (omega (arith, long)))

drop_nil : (k : ℕ) → drop {A = ℕ} k [] ≡ []
drop_nil zero = refl
drop_nil (suc k) = refl

drop_more : (xs : List ℕ) (at k : ℕ) → drop k (drop at xs) ≡ drop (at + k) xs
drop_more xs zero k = ap (λ (m : ℕ). drop m xs) (let same : k ≡ 0 + k = omega arith in same)
drop_more [] (suc at) k = drop_nil k ∙ sym (drop_nil (suc at + k))
drop_more (x ∷ xs) (suc at) k = drop_more xs at k ∙ ap (λ (m : ℕ). drop m (x ∷ xs)) (let same : suc (at + k) ≡ suc at + k = omega arith in same)

pub first_cut : (free : List ℕ) (at k : ℕ) → at < length free → 0 < k → get_or (take k (drop at free)) 0 0 ≡ get_or free at 0
first_cut free at zero less some = absurd (omega arith)
first_cut free at (suc k) less some = ap (λ (xs : List ℕ). get_or (take (suc k) xs) 0 0) (drop_get free at less)

pub cut_times : (free : List ℕ) (at k p : ℕ) → times p (drop at free) ≡ times p (take k (drop at free)) + times p (drop (at + k) free)
cut_times free at k p = times_take_drop p (drop at free) k ∙ ap (λ (xs : List ℕ). times p (take k (drop at free)) + times p xs) (drop_more free at k)

weigh_wrong : (es : List Entry) (links new places : List ℕ) → ((p : ℕ) → times p places + uses p es ≤ 1) → ((p : ℕ) → times p places ≡ 0 → get_or new p 0 ≡ get_or links p 0) → weigh (wrong_in new) es ≡ weigh (wrong_in links) es
weigh_wrong [] links new places apart same = refl
weigh_wrong (e ∷ es) links new places apart same =
    let here = wrong_kept links new e.places (λ p some. same p (let once = apart p in omega (arith, once, some))) in
    let rest = weigh_wrong es links new places (λ p. (let once = apart p in omega (arith, once))) same in
    omega (arith, here, rest)

module _ (size : ℕ) (d : DriverView) (published reaped : ℕ) (free links : List ℕ) (at : ℕ) (counts : List ℕ) (k : IsKept size d published reaped free links at counts) where
  pub room_is : (count : ℕ) → spread d.published + count ≤ size + spread (entries d.reaped) → at + count ≤ size
  room_is count room = (let all = k.balance places_in in let is = k.places.at_is in omega (arith, all, is, room))

  pub next_small : at < size → get_or free at 0 < size
  next_small less =
      let inside : at < length free = (let same = k.places.free_size in omega (arith, same, less)) in
      let cut = ap (times (get_or free at 0)) (drop_get free at inside) in
      let self : cond {A = ℕ} (eqb (get_or free at 0) (get_or free at 0)) 1 0 ≡ 1 = rw (eq-eqb (get_or free at 0) (get_or free at 0) refl) refl in
      k.places.below (get_or free at 0) (omega (arith, cut, self))

  module _ {P : Type 0} (wanted : P → Bool) (queue : Queue) (shape : Shape) (count : ℕ) (cargo : CargoData P) where
    pub sendable : (places : List ℕ) → places ≡ take count (drop at free) → IsCount shape → cargo.parcel.shape ≡ shape → IsNeeded shape (length cargo.parcel.request) cargo.parcel.room count → at + count ≤ size
        → get_or free at 0 ≡ cargo.parcel.head → cargo.parcel.ordinal ≡ lane_count cargo.parcel.lane d.published + 1 → cargo.parcel.queue ≡ queue → wanted cargo.pass ≡ true → length d.published < 2 ^ 63 - 1
        → IsSendable wanted queue size d published shape places cargo
    sendable places cut is_count shape_is needed room head ordinal queue_is wanted_is last =
        let same = k.places.free_size in
        let long : length places ≡ count = ap length cut ∙ cut_long free at count (omega (arith, same, room)) in
        let some : 0 < count = (let one = made_some shape (length cargo.parcel.request) cargo.parcel.room 0 0 [] in let is = needed 0 0 [] in omega (arith, one, is)) in
        let all = λ (p : ℕ). subst (λ (ps : List ℕ). times p (drop at free) ≡ times p ps + times p (drop (at + count) free)) (sym cut) (cut_times free at count p) in
        let is = k.published_is in
        record {
          count = is_count;
          shape_is = shape_is;
          needed = subst (λ (m : ℕ). IsNeeded shape (length cargo.parcel.request) cargo.parcel.room m) (sym long) needed;
          some = omega (arith, long, some);
          head_is = ap (λ (ps : List ℕ). get_or ps 0 0) cut ∙ (first_cut free at count (omega (arith, same, room, some)) some ∙ head);
          published_is = is;
          last = omega (arith, is, last);
          free = λ p. (let once = k.places.once p in let one = all p in omega (arith, once, one));
          below = λ p some. k.places.below p (let one = all p in omega (arith, one, some));
          room = (let spread_is = k.places.at_is in omega (arith, spread_is, long, room));
          ordinal = ordinal;
          queue_is = queue_is;
          wanted_is = wanted_is;
        }

    pub kept_published : (places links' : List ℕ) (lane old : ℕ) → places ≡ take count (drop at free) → at + count ≤ size → length links' ≡ length links → wrong links' places ≡ 0
        → ((p : ℕ) → times p places ≡ 0 → get_or links' p 0 ≡ get_or links p 0) → length d.published < 2 ^ 63 - 1 → lane ≡ cargo.parcel.lane → lane < 66 → old ≡ get_or counts lane 0
        → IsKept size (published_after d (published_as places cargo)) (published + 1) reaped free links' (at + count) (set counts lane (old + 1))
    kept_published places links' lane old cut room same_size linked others last lane_is lane_small old_is =
        let e = published_as places cargo in
        let same = k.places.free_size in
        let long : length places ≡ count = ap length cut ∙ cut_long free at count (omega (arith, same, room)) in
        let all = λ (p : ℕ). subst (λ (ps : List ℕ). times p (drop at free) ≡ times p ps + times p (drop (at + count) free)) (sym cut) (cut_times free at count p) in
        let grown : length (d.published ++ e ∷ []) ≡ length d.published + 1 = length-append d.published (e ∷ []) in
        let is = k.published_is in
        let apart = λ (p : ℕ). (let once = k.places.once p in let one = all p in let both : times p places + uses p d.outs ≤ 1 = omega (arith, once, one) in both) in
        let frame = weigh_wrong d.outs links links' places apart others in
        let before = k.places.linked in
        let spread_is = k.places.at_is in
        let links_size = k.places.links_size in
        record {
          published_is = omega (arith, is, grown);
          reaped_is = k.reaped_is;
          few = omega (arith, grown, last);
          balance = λ f. (let old = k.balance f in let more = weigh-append f d.published (e ∷ []) in omega (arith, old, more));
          places = record {
            free_size = same;
            links_size = same_size ∙ links_size;
            at_is = omega (arith, spread_is, long);
            at_most = room;
            once = λ p. (let once = k.places.once p in let one = all p in omega (arith, once, one));
            below = λ p some. k.places.below p (let one = all p in omega (arith, one, some));
            linked = omega (arith, linked, frame, before);
          };
          lanes = length-set counts lane (old + 1) ∙ k.lanes;
          counts_are = λ l small. (let more = lane_count-snoc l d.published e in elim (cases_eq l lane) [
            | inl here ↦ (
                let set_is : get_or (set counts lane (old + 1)) l 0 ≡ old + 1 = ap (λ (i : ℕ). get_or (set counts lane (old + 1)) i 0) here ∙ get_or-set_same counts lane (old + 1) 0 (let many = k.lanes in omega (arith, many, lane_small)) in
                let was = k.counts_are lane lane_small in
                let moved : lane_count l d.published ≡ lane_count lane d.published = ap (λ (i : ℕ). lane_count i d.published) here in
                let one : lane_count l (e ∷ []) ≡ 1 = rw (eq-eqb cargo.parcel.lane l (sym (here ∙ lane_is))) refl in
                omega (arith, set_is, old_is, was, moved, one, more)
                )
            | inr away ↦ (
                let set_is : get_or (set counts lane (old + 1)) l 0 ≡ get_or counts l 0 = get_or-set_other counts lane l (old + 1) 0 away in
                let was = k.counts_are l small in
                let none_more : lane_count l (e ∷ []) ≡ 0 = rw (ne_eqb cargo.parcel.lane l (λ is. away (sym is ∙ sym lane_is))) refl in
                omega (arith, set_is, was, none_more, more)
                )
          ]);
        }

    pub published_is : (places : List ℕ) (new : DriverLists) (next next' : ℕ) → IsSendable wanted queue size d published shape places cargo → next ≡ get_or places 0 0
        → new ≡ record { queue = queue; size = size; published = d.published ++ published_as places cargo ∷ []; reaped = d.reaped; next = next'; looks = d.looks; seen = d.seen }
        → Publishes (record { queue = queue; size = size; published = d.published; reaped = d.reaped; next = next; looks = d.looks; seen = d.seen }) shape cargo new
    published_is places new next next' s head is =
        let e = published_as places cargo in
        record {
          places = places;
          published = ap (λ (l : DriverLists). l.published) is;
          head = sym head;
          needed = s.needed;
          free = λ p.
              (let old = k.balance (uses_in p) in
              let more = weigh-append (uses_in p) d.published (e ∷ []) in
              let now : uses p new.published ≡ uses p (d.published ++ e ∷ []) = ap (λ (l : DriverLists). uses p l.published) is in
              let back : uses p (entries new.reaped) ≡ uses p (entries d.reaped) = ap (λ (l : DriverLists). uses p (entries l.reaped)) is in
              let apart = s.free p in
              omega (arith, old, more, now, back, apart));
          below = λ p some. s.below p (omega (arith, some));
          reaped = ap (λ (l : DriverLists). l.reaped) is;
          same = (ap (λ (l : DriverLists). l.queue) is, ap (λ (l : DriverLists). l.size) is);
          looked = (ap (λ (l : DriverLists). l.looks) is, ap (λ (l : DriverLists). l.seen) is);
        }

-- the used index was loaded
pub look_none : {P : Type 0} (me : Me (Option (CargoData P)) View) (d : DriverView) (found : ℕ) → me ≡ (Driver (looked_by_driver d found), []) → found ≡ length d.reaped % 65536
    → me ≡ (Driver (staged (record d { looks = d.looks + 1; seen = found }) driver.Resting), [])
look_none me d found e is = e ∙ ap {B = Me (Option (CargoData _)) View} (λ (b : Bool). (Driver (staged (record d { looks = d.looks + 1; seen = found }) (cond b driver.Resting driver.Newer)), [])) (eq-eqb found (length d.reaped % 65536) is)

pub look_newer : {P : Type 0} (me : Me (Option (CargoData P)) View) (d : DriverView) (found : ℕ) → me ≡ (Driver (looked_by_driver d found), []) → found ≢ length d.reaped % 65536
    → me ≡ (Driver (staged (record d { looks = d.looks + 1; seen = found }) driver.Newer), [])
look_newer me d found e other = e ∙ ap {B = Me (Option (CargoData _)) View} (λ (b : Bool). (Driver (staged (record d { looks = d.looks + 1; seen = found }) (cond b driver.Resting driver.Newer)), [])) (ne_eqb found (length d.reaped % 65536) other)

pub needed_is : (p : ParcelData) (shape : Shape) (b m r count : ℕ) → IsExtent p b m r → IsNeeded shape m r count → IsNeeded shape (length p.request) p.room count
needed_is p shape b m r count x needed = subst (λ (z : ℕ). IsNeeded shape z p.room count) x.request (subst (λ (z : ℕ). IsNeeded shape m z count) x.room needed)

pub lane_small : (queue : Queue) (lane : ℕ) → IsLane queue lane → lane < 66
lane_small Control lane is = omega (arith, is)
lane_small Cursor lane is = omega (arith, is)

pub count_fits : (size : ℕ) (d : DriverView) (published reaped : ℕ) (free links : List ℕ) (at : ℕ) (counts : List ℕ) (queue : Queue) (next : ℕ) (lists : DriverLists) (shape : Shape) (n r count other : ℕ)
    → IsKept size d published reaped free links at counts → driver_lists queue size next d ≡ lists → IsNeeded shape n r count → IsNeeded shape n r other → HasRoom lists other → (at + count ≤ size) × (0 < count)
count_fits size d published reaped free links at counts queue next lists shape n r count other k view needed needed' room =
    let same : other ≡ count = sym (needed' 0 0 []) ∙ needed 0 0 [] in
    let fits = room_is size d published reaped free links at counts k other (subst (λ (l : DriverLists). HasRoom l other) (sym view) room) in
    let one = made_some shape n r 0 0 [] in
    let is = needed 0 0 [] in
    (omega (arith, same, fits), omega (arith, one, is))

pub rests : {P : Type 0} (me : Me (Option (CargoData P)) View) (d : DriverView) → me ≡ (Driver (staged d driver.Resting), []) → me ≡ (resting_driver me.0, [])
rests me d e = e ∙ sym (ap {B = Me (Option (CargoData _)) View} (λ (m : Me (Option (CargoData _)) View). (resting_driver m.0, [])) e)

module _ {P : Type 0} (wanted : P → Bool) (size : ℕ) (d : DriverView) (published reaped : ℕ) (free links : List ℕ) (at : ℕ) (counts : List ℕ) (k : IsKept size d published reaped free links at counts) (looks seen : ℕ) where
  abbrev looked : DriverStage → DriverView
  looked stage = record d { looks = looks; seen = seen; stage = stage }

  pub kept_looked : IsKept size (looked driver.Resting) published reaped free links at counts
  kept_looked = record {
    published_is = k.published_is;
    reaped_is = k.reaped_is;
    few = k.few;
    balance = k.balance;
    places = k.places;
    lanes = k.lanes;
    counts_are = k.counts_are;
  }

  module _ (head len : ℕ) (cargo : CargoData P) (me : Me (Option (CargoData P)) View) (r : HasReaped wanted size (looked driver.Newer) head len cargo me) where
    pub given_is : IsGiven links free at head r.answer.entry.places
    given_is =
        let wrongs = r.outs (wrong_in links) in
        let before = k.places.linked in
        let spreads = r.outs places_in in
        let at_is = k.places.at_is in
        let most = k.places.at_most in
        let free_size = k.places.free_size in
        let links_size = k.places.links_size in
        record {
          path = record {
            some = r.some_place;
            head_is = sym r.head_is;
            linked = omega (arith, wrongs, before);
            apart = λ p. (let one = r.outs (uses_in p) in let once = k.places.once p in omega (arith, one, once));
            below = λ p some. (let one = r.outs (uses_in p) in let less = k.places.below p (omega (arith, one, some)) in omega (arith, less, links_size));
          };
          many = omega (arith, spreads, at_is);
          most = omega (arith, most, free_size);
        }

    pub kept_reaped : (free' : List ℕ) (at' : ℕ) → length free' ≡ length free → IsGivenBack free at free' at' r.answer.entry.places
        → IsKept size (staged (reaped_after (looked driver.Newer) r.answer) driver.Resting) published (reaped + 1) free' links at' counts
    kept_reaped free' at' same given =
        let wrongs = r.outs (wrong_in links) in
        let before = k.places.linked in
        let spreads = r.outs places_in in
        let at_is = k.places.at_is in
        let most = k.places.at_most in
        let fewer = given.fewer in
        let is = k.reaped_is in
        let grown = length-append d.reaped (r.answer ∷ []) in
        record {
          published_is = k.published_is;
          reaped_is = omega (arith, is, grown);
          few = k.few;
          balance = λ f.
              (let old = k.balance f in
              let one = r.outs f in
              let all : weigh f (entries (d.reaped ++ r.answer ∷ [])) ≡ weigh f (entries d.reaped ++ r.answer.entry ∷ []) = ap (weigh f) (entries-append d.reaped (r.answer ∷ [])) in
              let more = weigh-append f (entries d.reaped) (r.answer.entry ∷ []) in
              omega (arith, old, one, all, more));
          places = record {
            free_size = same ∙ k.places.free_size;
            links_size = k.places.links_size;
            at_is = omega (arith, spreads, at_is, fewer);
            at_most = omega (arith, most, fewer);
            once = λ p. (let once = k.places.once p in let one = r.outs (uses_in p) in let back = given.counts p in omega (arith, once, one, back));
            below = λ p some. k.places.below p (let one = r.outs (uses_in p) in let back = given.counts p in omega (arith, one, back, some));
            linked = omega (arith, wrongs, before);
          };
          lanes = k.lanes;
          counts_are = k.counts_are;
        }

    pub reaps_is : (queue : Queue) (next next' : ℕ) (new : DriverLists) → looks ≡ d.looks + 1 → new ≡ driver_lists queue size next' (staged (reaped_after (looked driver.Newer) r.answer) driver.Resting)
        → Reaps wanted (driver_lists queue size next d) head len cargo new
    reaps_is queue next next' new looks_is is = record {
      answer = r.answer;
      reaped = ap (λ (l : DriverLists). l.reaped) is;
      head_is = r.head_is;
      len_is = r.len_is;
      done = r.done;
      once = λ f.
          (let old = k.balance f in
          let one = r.outs f in
          let all : weigh f (entries (d.reaped ++ r.answer ∷ [])) ≡ weigh f (entries d.reaped ++ r.answer.entry ∷ []) = ap (weigh f) (entries-append d.reaped (r.answer ∷ [])) in
          let more = weigh-append f (entries d.reaped) (r.answer.entry ∷ []) in
          let now : weigh f (entries new.reaped) ≡ weigh f (entries (d.reaped ++ r.answer ∷ [])) = ap (λ (l : DriverLists). weigh f (entries l.reaped)) is in
          let sent : weigh f new.published ≡ weigh f d.published = ap (λ (l : DriverLists). weigh f l.published) is in
          omega (arith, old, one, all, more, now, sent));
      most = r.fewer;
      published = ap (λ (l : DriverLists). l.published) is;
      same = (ap (λ (l : DriverLists). l.queue) is, ap (λ (l : DriverLists). l.size) is);
      looks = ap (λ (l : DriverLists). l.looks) is ∙ looks_is;
    }
