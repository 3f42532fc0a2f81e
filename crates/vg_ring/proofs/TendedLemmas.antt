use Rattle.std.proofs.Common.{◌≡◌, ◌≢◌, ℕ, zero, suc, ◌+◌, ◌%◌, ◌<◌, ◌≤◌, Bool, false, cond, List, [], ◌∷◌, ◌++◌, Some, length, set, slice_get, refl, sym, ap, subst, inl, inr, ◌∙◌, arith, length-append}
use Rattle.std.specs.Prelude.{Option}
use Rattle.std.proofs.lemmas.Bool.{cases_lt, cases_eq, eq-eqb, ne_eqb}
use Rattle.std.proofs.lemmas.Bool.Decides.{eqb_tells}
use Rattle.atomic_table.specs.Table.{Me}
use Rattle.vg_wire.specs.declared.request.Queue.{Queue}
use Rattle.vg_cargo.specs.declared.parcel.Tag.{Tag}
use Rattle.vg_cargo.specs.declared.entries.Entry.{Entry}
use Rattle.vg_cargo.specs.declared.entries.Answer.{Answer}
use Rattle.vg_split.specs.declared.views.DeviceView.{DeviceView}
use Rattle.vg_split.specs.declared.views.DeviceStage.TheVariants as device
use Rattle.vg_split.specs.declared.views.View.{View}
use Rattle.vg_split.specs.declared.views.View.TheVariants.{Device, Right}
use Rattle.vg_cargo.specs.Cargo.{CargoData, IsLane}
use Rattle.vg_cargo.specs.Entries.{head_of, head_in, entries, weigh, heads, without, published_as, answer_with, held_at, times, Has, IsWhole, IsDone, InOrder}
use Rattle.vg_split.specs.Rule.{set_stage, fetched_after, completed_after, lent_after, returned_after, looked_by_device}
use Rattle.vg_split.specs.Plays.{device_of, queue_of, right_of, resting_device}
use Rattle.vg_split.specs.Tells.{HasTaken}
use Rattle.vg_cargo.specs.DeviceEnds.{DeviceLists, RightData, HasAt, IsCargoOf, Fetches, TakesIn, completing}
use Rattle.vg_ring.specs.Tended.{device_lists, IsTended, IsRight, tag_of}
use Rattle.vg_ring.specs.Kept.{IsOnLine}
use Rattle.atomic_table.specs.Seated.{TableId}
use Rattle.vg_split.specs.declared.law.Size.{Size}
use Rattle.vg_cargo.proofs.Counts.{weigh-append, weigh-ones, entries-append, length-entries}
use Rattle.vg_cargo.proofs.Heads.{has_one, has_left, has_heads, held_cut, has_without, heads_without}

pub rests_device : {P : Type 0} (me : Me (Option (CargoData P)) View) (v : DeviceView) → me ≡ (Device (set_stage v device.Resting), []) → me ≡ (resting_device me.0, [])
rests_device me v e = e ∙ sym (ap {B = Me (Option (CargoData _)) View} (λ (m : Me (Option (CargoData _)) View). (resting_device m.0, [])) e)

pub look_newer_device : {P : Type 0} (me : Me (Option (CargoData P)) View) (v : DeviceView) (found : ℕ) → me ≡ (Device (looked_by_device v found), []) → found ≢ length v.fetched % 65536
    → me ≡ (Device (set_stage (record v { looks = v.looks + 1; seen = found }) device.Newer), [])
look_newer_device me v found e other = e ∙ ap {B = Me (Option (CargoData _)) View} (λ (b : Bool). (Device (set_stage (record v { looks = v.looks + 1; seen = found }) (cond b device.Resting device.Newer)), [])) (ne_eqb found (length v.fetched % 65536) other)

-- some entry has a head that is there
some_there : (h : ℕ) (es : List Entry) → 1 ≤ heads h es → (e : Entry) × HasAt e h es
some_there h [] some = absurd (omega arith)
some_there h (e ∷ es) some = elim (eqb_tells (head_of e) h) [
  | inl w ↦ (e, (inl refl, w.1))
  | inr w ↦ (let rest = some_there h es (let here : head_in h e ≡ 0 = rw w.0 refl in omega (arith, here, some)) in (rest.0, (inr rest.1.0, rest.1.1)))
]

-- a tag is put at a head
slice_set_same : (tags : List Tag) (i : ℕ) (x : Tag) → i < length tags → slice_get (set tags i x) i ≡ Some x
slice_set_same [] i x less = absurd (omega arith)
slice_set_same (t ∷ tags) zero x less = refl
slice_set_same (t ∷ tags) (suc i) x less = slice_set_same tags i x (omega arith)

slice_set_other : (tags : List Tag) (i j : ℕ) (x : Tag) → j ≢ i → slice_get (set tags i x) j ≡ slice_get tags j
slice_set_other [] i j x other = refl
slice_set_other (t ∷ tags) zero zero x other = absurd (other refl)
slice_set_other (t ∷ tags) zero (suc j) x other = refl
slice_set_other (t ∷ tags) (suc i) zero x other = refl
slice_set_other (t ∷ tags) (suc i) (suc j) x other = slice_set_other tags i j x (λ same. other (ap suc same))

tags_long : (tags : List Tag) (i : ℕ) (x : Tag) → length (set tags i x) ≡ length tags
tags_long [] i x = refl
tags_long (t ∷ tags) zero x = refl
tags_long (t ∷ tags) (suc i) x = ap suc (tags_long tags i x)

module _ (size : ℕ) (v : DeviceView) (fetched completed : ℕ) (tags : List Tag) (k : IsTended size v fetched completed tags) where
  pub tended_looked : (looks seen : ℕ) → IsTended size (record v { looks = looks; seen = seen; stage = device.Resting }) fetched completed tags
  tended_looked looks seen = record {
    fetched_is = k.fetched_is;
    completed_is = k.completed_is;
    few = k.few;
    matched = k.matched;
    once = k.once;
    below = k.below;
    lent_once = k.lent_once;
    lent_held = k.lent_held;
    whole = k.whole;
    apart = k.apart;
    some_place = k.some_place;
    places_below = k.places_below;
    tags_size = k.tags_size;
    tags_are = k.tags_are;
  }

  module _ {P : Type 0} (wanted : P → Bool) (looks seen head : ℕ) (cargo : CargoData P) (me : Me (Option (CargoData P)) View) (r : HasTaken wanted size (record v { looks = looks; seen = seen; stage = device.Newer }) head cargo me) where
    unheld : heads (head_of r.entry) v.held ≡ 0
    unheld = (let all = r.heads in let self : head_in (head_of r.entry) r.entry ≡ 1 = rw (eq-eqb (head_of r.entry) (head_of r.entry) refl) refl in omega (arith, all, self))

    pub tended_taken : (tag : Tag) → tag ≡ tag_of r.entry → IsTended size (set_stage (fetched_after (record v { looks = looks; seen = seen; stage = device.Newer }) r.entry) device.Resting) (fetched + 1) completed (set tags head tag)
    tended_taken tag tag_is =
        let e = r.entry in
        let is = k.fetched_is in
        let grown = length-append v.fetched (e ∷ []) in
        let bounded = r.bounded in
        record {
          fetched_is = omega (arith, is, grown);
          completed_is = k.completed_is;
          few = omega (arith, grown, bounded);
          matched = λ f. (let old = k.matched f in let more = weigh-append f v.fetched (e ∷ []) in omega (arith, old, more));
          once = λ h. elim (cases_eq (head_of e) h) [
            | inl same ↦ (let all = r.heads in let moved : heads (head_of e) (e ∷ v.held) ≡ heads h (e ∷ v.held) = ap (λ (i : ℕ). heads i (e ∷ v.held)) same in omega (arith, all, moved))
            | inr other ↦ (let here : head_in h e ≡ 0 = rw (ne_eqb (head_of e) h other) refl in let old = k.once h in omega (arith, here, old))
          ];
          below = λ f has. elim has [
            | inl same ↦ (let small = r.small in let is = r.head_is in let moved : head_of e ≡ head_of f = ap head_of same in omega (arith, small, is, moved))
            | inr old ↦ k.below f old
          ];
          lent_once = k.lent_once;
          lent_held = λ f has. inr (k.lent_held f has);
          whole = λ f has. elim has [ inl same ↦ subst (IsWhole size) same r.fresh.whole | inr old ↦ k.whole f old ];
          apart = λ f has. elim has [ inl same ↦ subst (λ (x : Entry). (p : ℕ) → times p x.places ≤ 1) same r.apart | inr old ↦ k.apart f old ];
          some_place = λ f has. elim has [ inl same ↦ subst (λ (x : Entry). 0 < length x.places) same r.some_place | inr old ↦ k.some_place f old ];
          places_below = λ f has. elim has [ inl same ↦ subst (λ (x : Entry). (p : ℕ) → 0 < times p x.places → p < size) same r.below | inr old ↦ k.places_below f old ];
          tags_size = tags_long tags head tag ∙ k.tags_size;
          tags_are = λ f has. elim has [
            | inl same ↦ (
                let at : head_of f ≡ head = ap head_of (sym same) ∙ sym r.head_is in
                ap (slice_get (set tags head tag)) at ∙ (slice_set_same tags head tag (let small = r.small in let long = k.tags_size in omega (arith, small, long)) ∙ ap Some (tag_is ∙ ap tag_of same))
                )
            | inr old ↦ (
                let away : head_of f ≢ head = λ at. (let some = has_heads f v.held old in let none_there = unheld in let moved : heads (head_of f) v.held ≡ heads (head_of e) v.held = ap (λ (i : ℕ). heads i v.held) (at ∙ r.head_is) in omega (arith, some, none_there, moved)) in
                slice_set_other tags head (head_of f) tag away ∙ k.tags_are f old
                )
          ];
        }

    pub fetches_is : (new : DeviceLists) → looks ≡ v.looks + 1 → IsLane cargo.parcel.queue cargo.parcel.lane → new ≡ device_lists size (set_stage (fetched_after (record v { looks = looks; seen = seen; stage = device.Newer }) r.entry) device.Resting)
        → Fetches wanted (device_lists size v) head cargo new
    fetches_is new looks_is lane is =
        let e = r.entry in
        record {
          entry = e;
          fetched = ap (λ (l : DeviceLists). l.fetched) is;
          held = ap (λ (l : DeviceLists). l.held) is;
          head_is = r.head_is;
          small = r.small;
          fresh = r.fresh;
          of_queue = r.of_queue;
          lane = subst (λ (f : Entry). IsLane f.queue f.lane) r.fresh.entry lane;
          ordered = subst (λ (l : DeviceLists). InOrder [] l.fetched) (sym is) r.ordered;
          most = subst (λ (l : DeviceLists). length l.fetched ≤ length l.completed + l.size) (sym is) (let most = r.most in let grown = length-append v.fetched (e ∷ []) in omega (arith, most, grown));
          alone = subst (λ (l : DeviceLists). heads head l.held ≡ 1) (sym is) (subst (λ (i : ℕ). heads i (e ∷ v.held) ≡ 1) (sym r.head_is) r.heads);
          unlent = subst (λ (l : DeviceLists). heads head l.lent ≡ 0) (sym is) (subst (λ (i : ℕ). heads i v.lent ≡ 0) (sym r.head_is) unlent_there);
          completed = ap (λ (l : DeviceLists). l.completed) is;
          lent = ap (λ (l : DeviceLists). l.lent) is;
          same = (ap (λ (l : DeviceLists). l.queue) is, ap (λ (l : DeviceLists). l.size) is);
          looks = ap (λ (l : DeviceLists). l.looks) is ∙ looks_is;
        }
      where
        unlent_there : heads (head_of r.entry) v.lent ≡ 0
        unlent_there = elim (cases_lt 0 (heads (head_of r.entry) v.lent)) [
          | inl some ↦ (
              let there = some_there (head_of r.entry) v.lent some in
              let held = k.lent_held there.0 there.1.0 in
              let one = has_heads there.0 v.held held in
              let moved : heads (head_of there.0) v.held ≡ heads (head_of r.entry) v.held = ap (λ (i : ℕ). heads i v.held) there.1.1 in
              let none_there = unheld in
              absurd (omega (arith, one, moved, none_there))
              )
          | inr none_lent ↦ omega (arith, none_lent)
        ]

  pub tended_lent : (head : ℕ) (e : Entry) → HasAt e head v.held → heads head v.lent ≡ 0 → IsTended size (lent_after v (held_at head v.held)) fetched completed tags
  tended_lent head e has unlent =
      let one = has_one e head v.held has (k.once head) in
      subst (λ (f : Entry). IsTended size (lent_after v f) fetched completed tags) (sym one.1) (record {
        fetched_is = k.fetched_is;
        completed_is = k.completed_is;
        few = k.few;
        matched = k.matched;
        once = k.once;
        below = k.below;
        lent_once = λ h. elim (cases_eq (head_of e) h) [
          | inl same ↦ (let here : head_in h e ≡ 1 = rw (eq-eqb (head_of e) h same) refl in let moved : heads head v.lent ≡ heads h v.lent = ap (λ (i : ℕ). heads i v.lent) (sym has.1 ∙ same) in omega (arith, here, moved, unlent))
          | inr other ↦ (let here : head_in h e ≡ 0 = rw (ne_eqb (head_of e) h other) refl in let old = k.lent_once h in omega (arith, here, old))
        ];
        lent_held = λ f lent. elim lent [ inl same ↦ subst (λ (x : Entry). Has x v.held) same has.0 | inr old ↦ k.lent_held f old ];
        whole = k.whole;
        apart = k.apart;
        some_place = k.some_place;
        places_below = k.places_below;
        tags_size = k.tags_size;
        tags_are = k.tags_are;
      })

  pub tended_returned : (e : Entry) → IsTended size (set_stage (returned_after v e) device.Resting) fetched completed tags
  tended_returned e = record {
    fetched_is = k.fetched_is;
    completed_is = k.completed_is;
    few = k.few;
    matched = k.matched;
    once = k.once;
    below = k.below;
    lent_once = λ h. (let fewer = heads_without h (head_of e) v.lent in let old = k.lent_once h in omega (arith, fewer, old));
    lent_held = λ f has. k.lent_held f (has_left f (head_of e) v.lent has);
    whole = k.whole;
    apart = k.apart;
    some_place = k.some_place;
    places_below = k.places_below;
    tags_size = k.tags_size;
    tags_are = k.tags_are;
  }

  pub takes_in_is : (right : RightData) (new : DeviceLists) → Has right.entry v.lent → new ≡ device_lists size (set_stage (returned_after v right.entry) device.Resting) → TakesIn (device_lists size v) right new
  takes_in_is right new has is =
      let e = right.entry in
      let one = has_one e (head_of e) v.lent (has, refl) (k.lent_once (head_of e)) in
      let cut = held_cut (head_of e) v.lent one.0 in
      let held = k.lent_held e has in
      let alone = has_one e (head_of e) v.held (held, refl) (k.once (head_of e)) in
      record {
        front = cut.0;
        back = cut.1;
        lent = cut.2 ∙ ap (λ (f : Entry). cut.0 ++ f ∷ cut.1) one.1;
        left = is ∙ ap (λ (es : List Entry). record (device_lists size v) { lent = es }) cut.3;
        held = subst (λ (l : DeviceLists). Has e l.held) (sym is) held;
        alone = subst (λ (l : DeviceLists). heads (head_of e) l.held ≡ 1) (sym is) alone.0;
        unlent = subst (λ (l : DeviceLists). heads (head_of e) l.lent ≡ 0) (sym is) (gone (head_of e) v.lent one.0);
      }
    where
      gone : (h : ℕ) (es : List Entry) → heads h es ≡ 1 → heads h (without h es) ≡ 0
      gone h [] one = refl
      gone h (f ∷ es) one = elim (eqb_tells (head_of f) h) [
        | inl w ↦ (let same : without h (f ∷ es) ≡ es = rw w.0 refl in let here : head_in h f ≡ 1 = rw w.0 refl in let moved : heads h (without h (f ∷ es)) ≡ heads h es = ap (heads h) same in omega (arith, here, moved, one))
        | inr w ↦ (
            let same : without h (f ∷ es) ≡ f ∷ without h es = rw w.0 refl in
            let here : head_in h f ≡ 0 = rw w.0 refl in
            let moved : heads h (without h (f ∷ es)) ≡ heads h (f ∷ without h es) = ap (heads h) same in
            let rest = gone h es (omega (arith, here, one)) in
            omega (arith, here, moved, rest)
            )
      ]

  pub last_completed : (e : Entry) (head : ℕ) → HasAt e head v.held → completed + 1 ≤ length v.fetched
  last_completed e head has =
      let ones = k.matched (λ _. 1) in
      let f1 = weigh-ones v.fetched in
      let f2 = weigh-ones (entries v.completed) in
      let f3 = length-entries v.completed in
      let is = k.completed_is in
      let some = some_held e v.held has.0 in
      omega (arith, ones, f1, f2, f3, is, some)
    where
      some_held : (e : Entry) (es : List Entry) → Has e es → 1 ≤ weigh (λ _. 1) es
      some_held e [] has = absurd has
      some_held e (f ∷ es) has = omega arith

  pub tended_completed : {P : Type 0} (head len : ℕ) (cargo : CargoData P) (e : Entry) → HasAt e head v.held → heads head v.lent ≡ 0
      → IsTended size (completed_after v (answer_with (held_at head v.held) len cargo) (without head v.held)) fetched (completed + 1) tags
  tended_completed head len cargo e has unlent =
      let one = has_one e head v.held has (k.once head) in
      let cut = held_cut head v.held one.0 in
      let f : Entry = held_at head v.held in
      let a : Answer = answer_with f len cargo in
      let is = k.completed_is in
      let grown = length-append v.completed (a ∷ []) in
      record {
        fetched_is = k.fetched_is;
        completed_is = omega (arith, is, grown);
        few = k.few;
        matched = λ w.
            (let old = k.matched w in
            let all : weigh w (entries (v.completed ++ a ∷ [])) ≡ weigh w (entries v.completed ++ f ∷ []) = ap (weigh w) (entries-append v.completed (a ∷ [])) in
            let more = weigh-append w (entries v.completed) (f ∷ []) in
            let held : weigh w v.held ≡ weigh w (cut.0 ++ f ∷ cut.1) = ap (weigh w) cut.2 in
            let left : weigh w (without head v.held) ≡ weigh w (cut.0 ++ cut.1) = ap (weigh w) cut.3 in
            let one = weigh-append w cut.0 (f ∷ cut.1) in
            let two = weigh-append w cut.0 cut.1 in
            omega (arith, old, all, more, held, left, one, two));
        once = λ h. (let fewer = heads_without h head v.held in let old = k.once h in omega (arith, fewer, old));
        below = λ g left. k.below g (has_left g head v.held left);
        lent_once = k.lent_once;
        lent_held = λ g lent. has_without g head v.held (λ same. (let some = has_heads g v.lent lent in let moved : heads (head_of g) v.lent ≡ heads head v.lent = ap (λ (i : ℕ). heads i v.lent) same in omega (arith, some, moved, unlent))) (k.lent_held g lent);
        whole = λ g left. k.whole g (has_left g head v.held left);
        apart = λ g left. k.apart g (has_left g head v.held left);
        some_place = λ g left. k.some_place g (has_left g head v.held left);
        places_below = λ g left. k.places_below g (has_left g head v.held left);
        tags_size = k.tags_size;
        tags_are = λ g left. k.tags_are g (has_left g head v.held left);
      }

  pub completes_is : {P : Type 0} (head len : ℕ) (cargo : CargoData P) (new : DeviceLists) → new ≡ device_lists size (completed_after v (answer_with (held_at head v.held) len cargo) (without head v.held))
      → (e : Entry) → HasAt e head v.held → new ≡ completing (device_lists size v) e len cargo
  completes_is head len cargo new is e has =
      let one = has_one e head v.held has (k.once head) in
      is ∙ (ap (λ (f : Entry). device_lists size (completed_after v (answer_with f len cargo) (without head v.held))) one.1 ∙ ap (λ (h : ℕ). device_lists size (completed_after v (answer_with e len cargo) (without h v.held))) (sym has.1))

pub look_none_device : {P : Type 0} (me : Me (Option (CargoData P)) View) (v : DeviceView) (found : ℕ) → me ≡ (Device (looked_by_device v found), []) → found ≡ length v.fetched % 65536
    → me ≡ (Device (set_stage (record v { looks = v.looks + 1; seen = found }) device.Resting), [])
look_none_device me v found e is = e ∙ ap {B = Me (Option (CargoData _)) View} (λ (b : Bool). (Device (set_stage (record v { looks = v.looks + 1; seen = found }) (cond b device.Resting device.Newer)), [])) (eq-eqb found (length v.fetched % 65536) is)

-- the end after a step that leaves it with nothing to do
pub device_ok : {P : Type 0} (ring table seat seat' : TableId) (key : Size) (queue : Queue) (size : ℕ) (me : Me (Option (CargoData P)) View) (v : DeviceView) (fetched completed : ℕ) (tags : List Tag)
    → IsOnLine ring table seat key queue size → seat' ≡ seat → me ≡ (Device (set_stage v device.Resting), []) → v.queue ≡ queue → IsTended size (set_stage v device.Resting) fetched completed tags
    → IsOnLine ring table seat' key (queue_of me.0) size × (me ≡ (resting_device me.0, [])) × IsTended size (device_of me.0) fetched completed tags
device_ok ring table seat seat' key queue size me v fetched completed tags on same e queue_same tended = (
  record {
    table_is = on.table_is;
    seat_is = same ∙ on.seat_is;
    words = on.words;
    slots = on.slots;
    queue_is = on.queue_is ∙ (sym queue_same ∙ sym (ap {B = Queue} (λ (m : Me (Option (CargoData _)) View). queue_of m.0) e));
    size_is = on.size_is;
    some = on.some;
    least = on.least;
    small = on.small;
  },
  rests_device me v e,
  subst (λ (w : DeviceView). IsTended size w fetched completed tags) (sym (ap {B = DeviceView} (λ (m : Me (Option (CargoData _)) View). device_of m.0) e)) tended,
)

pub tag_is : {P : Type 0} (tag : Tag) (e : Entry) (cargo : CargoData P) → tag.lane ≡ cargo.parcel.lane → tag.ordinal ≡ cargo.parcel.ordinal → published_as e.places cargo ≡ e → tag ≡ tag_of e
tag_is tag e cargo lane ordinal same =
    let one : tag.lane ≡ e.lane = lane ∙ ap (λ (f : Entry). f.lane) same in
    let two : tag.ordinal ≡ e.ordinal = ordinal ∙ ap (λ (f : Entry). f.ordinal) same in
    λ i. record { lane = one i; ordinal = two i }

pub right_ok : {P : Type 0} (ring table seat : TableId) (key : Size) (queue : Queue) (size : ℕ) (v : DeviceView) (fetched completed : ℕ) (tags : List Tag) (me : Me (Option (CargoData P)) View) (head : ℕ) (tag : Tag) (e : Entry)
    → IsOnLine ring table seat key queue size → IsTended size v fetched completed tags → HasAt e head v.held → me ≡ (Right (held_at head v.held), []) → slice_get tags head ≡ Some tag → IsRight ring seat (me.0 ∷ []) head tag
right_ok ring table seat key queue size v fetched completed tags me head tag e on k has is there =
    let one = has_one e head v.held has (k.once head) in
    let entry : right_of me.0 ≡ e = ap {B = Entry} (λ (m : Me (Option (CargoData _)) View). right_of m.0) is ∙ one.1 in
    let both : Some tag ≡ Some (tag_of e) = sym there ∙ (ap (slice_get tags) (sym has.1) ∙ k.tags_are e has.0) in
    let same : tag ≡ tag_of e = cc in
    record {
      table_is = on.seat_is ∙ on.table_is;
      seat = ap {B = List View} (λ (m : Me (Option (CargoData _)) View). m.0 ∷ []) is ∙ sym (ap {B = List View} (λ (m : Me (Option (CargoData _)) View). Right (right_of m.0) ∷ []) is);
      head_is = sym has.1 ∙ ap head_of (sym entry);
      lane = ap (λ (t : Tag). t.lane) same ∙ ap (λ (f : Entry). f.lane) (sym entry);
      ordinal = ap (λ (t : Tag). t.ordinal) same ∙ ap (λ (f : Entry). f.ordinal) (sym entry);
    }

pub done_is : {P : Type 0} (wanted : P → Bool) (v : DeviceView) (head len : ℕ) (cargo : CargoData P) (e : Entry) → heads head v.held ≤ 1 → HasAt e head v.held → IsCargoOf e cargo → length cargo.parcel.response ≡ len → wanted cargo.pass ≡ false
    → IsDone wanted (answer_with (held_at head v.held) len cargo) cargo
done_is wanted v head len cargo e once has is long done =
    let one = has_one e head v.held has once in
    subst (λ (f : Entry). IsDone wanted (answer_with f len cargo) cargo) (sym one.1) (record { entry = is.0; head_is = is.1; response = refl; len = long; done = done })
