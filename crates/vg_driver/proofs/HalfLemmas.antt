-- What a half keeps, from call to call.
use Rattle.std.proofs.Common.{◌≡◌, ◌≢◌, ℕ, ◌+◌, ◌==◌, ◌<◌, ◌≤◌, Bool, zero, suc, true, false, cond, List, [], ◌∷◌, ◌++◌, Option, Some, None, max, set, get_or, length, inl, inr, refl, sym, ap, subst, ◌∙◌, arith, length-append, eq-eqb, ne_eqb}
use Rattle.std.proofs.lemmas.Bool.{cases_eq, cases_lt}
use Rattle.std.proofs.lemmas.List.{get_or-set_other, get_or-set_same, get_or_default, get_or_append_left, length-set, set-get_or}
use Rattle.std.proofs.Math.Seq.{get_or-append_seam}
use mathlib.Core.List.{IsPrefix}
use Rattle.vg_history.specs.declared.machine.Machine.{Ghosts}
use Rattle.vg_history.specs.History.{HasFence}
use Rattle.vg_history.specs.Lists.{Has}
use Rattle.vg_history.specs.declared.entry.Entry.{Entry}
use Rattle.vg_history.proofs.ListLemmas.{has_prefix, has_snoc, prefix_self, prefix_trans}
use Rattle.vg_book.specs.declared.outcome.Carried.{Carried}
use Rattle.vg_book.specs.declared.outcome.Carried.TheVariants as carried
use Rattle.vg_book.specs.Outcomes.{asks_of, tag_of}
use Rattle.vg_book.specs.Tokens.{Client, Done, Noted, Rooted, TakesIn, Watched, finished_of}
use Rattle.vg_book.specs.Views.{entry_of}
use Rattle.vg_history.specs.Fences.{FenceData}
use Rattle.vg_chain.specs.declared.asked.Asked.{Asked}
use Rattle.vg_chain.specs.declared.shape.Shape.{Shape}
use Rattle.vg_chain.specs.Made.{IsNeeded}
use Rattle.vg_wire.specs.declared.request.Queue.{Queue}
use Rattle.vg_wire.specs.declared.request.Queue.TheVariants.{Control, Cursor}
use Rattle.vg_cargo.specs.declared.entries.Answer.{Answer}
use Rattle.vg_cargo.specs.Cargo.{CargoData, IsLane}
use Rattle.vg_cargo.specs.Cargo as cargoes
use Rattle.vg_cargo.specs.Ends.{DriverLists, HasRoom, Publishes, Reaps}
use Rattle.vg_cargo.specs.Entries.{IsDone}
use Rattle.vg_ring.specs.Making.{IsNewDriver}
use Rattle.vg_ring.proofs.KeptLemmas.{made_some}
use Rattle.vg_driver.specs.Halves.{AreBack, AreHeard, AreKnown, HasFor, HasHeard, HasJoined, HeardData, Hears, IsHalf, IsHeard, IsJoined, IsKnown, NoteKnows, Signals, asked_in, seen_by, top_of, unheard}

pub lane_small : (queue : Queue) (lane : ℕ) → IsLane queue lane → lane < 66
lane_small Control lane is = omega (arith, is)
lane_small Cursor lane is = omega (arith, is)

-- a chain has a descriptor
pub has_room : (lists : DriverLists) (shape : Shape) (bytes room : ℕ) → (count : ℕ) × IsNeeded shape bytes room count × HasRoom lists count → HasRoom lists 1
has_room lists shape bytes room (count, needed, free) =
    let one = made_some shape bytes room 0 0 [] in
    let is = needed 0 0 [] in
    omega (arith, one, is, free)

-- a note of what came back run knows the lane up to it
pub fence_at : {M B S A R Q P H W : Type 0} (g : Ghosts M S A R Q P H W) (back : Carried M B S A R Q P H W) (f : Done M S A R Q P H W) (lane ordinal : ℕ) (seen : List (Entry M S A R Q P H W)) → back ≡ carried.Done f → tag_of g back ≡ (lane, ordinal)
    → HasFence g (g.tagged f.order.request).0 (g.tagged f.order.request).1 seen → HasFence g lane ordinal seen
fence_at g back f lane ordinal seen is tag fence = subst (λ (t : ℕ × ℕ). HasFence g t.0 t.1 seen) (ap (tag_of g) (sym is) ∙ tag) fence

module _ {M S A R Q P H W : Type 0} (g : Ghosts M S A R Q P H W) where
  abbrev E : Type 0
  E = Entry M S A R Q P H W

  -- a note that has seen more knows as much
  fence_more : (lane ordinal : ℕ) (es fs : List E) → IsPrefix es fs → HasFence g lane ordinal es → HasFence g lane ordinal fs
  fence_more lane ordinal es fs more fence j some most = let t = fence j some most in (t.0, t.1, t.2, t.3, has_prefix es fs _ more t.4, t.5)

  -- a lane is known as far as by either of two
  fence_max : (lane a b : ℕ) (es : List E) → HasFence g lane a es → HasFence g lane b es → HasFence g lane (max a b) es
  fence_max lane a b es first second j some most = elim (cases_lt a j) [
    | inl above ↦ second j some (omega (arith, above, most))
    | inr not ↦ first j some not
  ]

  known_more : (lane known : ℕ) (note : Option (Noted M S A R Q P H W)) (es : List E) → NoteKnows g lane known note → IsPrefix (seen_by note) es → HasFence g lane known es
  known_more lane known None es knows more j some most = absurd (omega (arith, knows, some, most))
  known_more lane known (Some note) es knows more j some most = fence_more lane known note.seen es more knows j some most

  -- a note of what came back run, once it has seen what was known, knows the lane as far as both
  pub known_both : (lane ordinal known : ℕ) (note : Option (Noted M S A R Q P H W)) (es fs : List E) → HasFence g lane ordinal es → IsPrefix es fs → NoteKnows g lane known note → IsPrefix (seen_by note) fs → HasFence g lane (max ordinal known) fs
  known_both lane ordinal known note es fs fence more knows seen = fence_max lane ordinal known fs (fence_more lane ordinal es fs more fence) (known_more lane known note fs knows seen)

  -- a lane that is known has a note
  pub note_there : (lane ordinal known : ℕ) (note : Option (Noted M S A R Q P H W)) → NoteKnows g lane known note → 1 ≤ ordinal → ordinal ≤ known → note ≢ None
  note_there lane ordinal known None knows first least is = absurd (omega (arith, knows, first, least))
  note_there lane ordinal known (Some note) knows first least is = cc

  -- a client that has seen what is known of a lane knows a fence of it
  pub signal_known : (lane known : ℕ) (note : Option (Noted M S A R Q P H W)) (fence : FenceData) (c d : Client M S A R Q P H W) → NoteKnows g lane known note → fence.lane ≡ lane → fence.ordinal ≤ known → Watched g c d → IsPrefix (seen_by note) d.seen → Signals g c fence true d
  signal_known lane known note fence c d knows lane_is least watched seen =
      let fence_known : HasFence g lane fence.ordinal d.seen = λ j some most. known_more lane known note d.seen knows seen j some (omega (arith, most, least)) in
      (subst (λ l. HasFence g l fence.ordinal d.seen) (sym lane_is) fence_known, watched)

  for_more : (tag : ℕ × ℕ) (asks : Asked) (es fs : List E) → IsPrefix es fs → HasFor g tag asks es → HasFor g tag asks fs
  for_more tag asks es fs more t = (t.0, t.1, t.2, t.3, has_prefix es fs _ more t.4, t.5, t.6)

  -- the command of what came back run stands in what its note has seen
  stands_in : {B : Type 0} (back : Carried M B S A R Q P H W) (f : Done M S A R Q P H W) (es fs : List E) → back ≡ carried.Done f → Has es (entry_of (finished_of g f)) → IsPrefix es fs → HasFor g (tag_of g back) (asks_of g back) fs
  stands_in back f es fs is has more = (f.order.client, f.order.call, f.order.request, f.reply, has_prefix es fs _ more has, sym (ap (tag_of g) is), sym (ap (asks_of g) is))

  -- a lane hears of what came back run
  pub hears_done : {B : Type 0} (old : HeardData M S A R Q P H W) (back : Carried M B S A R Q P H W) (f : Done M S A R Q P H W) (ordinal top known : ℕ) (es : List E) (note : Noted M S A R Q P H W) → top ≡ max ordinal old.top → back ≡ carried.Done f → Has es (entry_of (finished_of g f)) → IsPrefix es note.seen
      → IsPrefix (seen_by old.note) note.seen → Hears g old back ordinal (record { lane = old.lane; top = top; known = known; note = Some note; unrun = old.unrun })
  hears_done old back f ordinal top known es note top_is is has more seen = record { lane = refl; top = top_is; more = seen; run = λ run. (run, stands_in back f es note.seen is has more) }

-- one answer more
top_of-snoc : (lane : ℕ) (xs : List Answer) (a : Answer) → top_of lane (xs ++ a ∷ []) ≡ cond (a.entry.lane == lane) (max a.entry.ordinal (top_of lane xs)) (top_of lane xs)
top_of-snoc lane [] a = refl
top_of-snoc lane (x ∷ xs) a = by_tests (x.entry.lane == lane) (a.entry.lane == lane) (top_of lane (xs ++ a ∷ [])) (top_of-snoc lane xs a)
  where
    by_tests : (b d : Bool) (t : ℕ) → t ≡ cond d (max a.entry.ordinal (top_of lane xs)) (top_of lane xs) → cond b (max x.entry.ordinal t) t ≡ cond d (max a.entry.ordinal (cond b (max x.entry.ordinal (top_of lane xs)) (top_of lane xs))) (cond b (max x.entry.ordinal (top_of lane xs)) (top_of lane xs))
    by_tests true true t is = omega (arith, is)
    by_tests true false t is = ap (max x.entry.ordinal) is
    by_tests false true t is = is
    by_tests false false t is = is

top_here : (lane : ℕ) (xs : List Answer) (a : Answer) → a.entry.lane ≡ lane → top_of lane (xs ++ a ∷ []) ≡ max a.entry.ordinal (top_of lane xs)
top_here lane xs a is = top_of-snoc lane xs a ∙ ap (λ b. cond b (max a.entry.ordinal (top_of lane xs)) (top_of lane xs)) (eq-eqb a.entry.lane lane is)

top_there : (lane : ℕ) (xs : List Answer) (a : Answer) → a.entry.lane ≢ lane → top_of lane (xs ++ a ∷ []) ≡ top_of lane xs
top_there lane xs a not = top_of-snoc lane xs a ∙ ap (λ b. cond b (max a.entry.ordinal (top_of lane xs)) (top_of lane xs)) (ne_eqb a.entry.lane lane not)

-- an element at its place
has_at_place : {X : Type 0} (xs : List X) (i : ℕ) (d : X) → i < length xs → Has xs (get_or xs i d)
has_at_place [] i d less = absurd (omega (arith, less))
has_at_place (x ∷ xs) zero d less = inl refl
has_at_place (x ∷ xs) (suc i) d less = inr (has_at_place xs i d (omega (arith, less)))

module _ {M S A R Q P H W : Type 0} (g : Ghosts M S A R Q P H W) where
  -- what is known of an answer still is, once more of its lane came back
  known_still : {B : Type 0} (answer : Answer) (old new : HeardData M S A R Q P H W) (back : Carried M B S A R Q P H W) (ordinal : ℕ) → Hears g old back ordinal new → IsKnown g answer old → IsKnown g answer new
  known_still answer old new back ordinal hears known = (known.0, λ run. for_more g (answer.entry.lane, answer.entry.ordinal) (asked_in answer.entry) (seen_by old.note) (seen_by new.note) hears.more (known.1 (hears.run run).0))

  -- an answer is known once it came back
  known_now : {B C : Type 0} (wanted : C → Bool) (answer : Answer) (cargo : CargoData C) (old new : HeardData M S A R Q P H W) (back : Carried M B S A R Q P H W) (ordinal : ℕ) → IsDone wanted answer cargo → tag_of g back ≡ (cargo.parcel.lane, cargo.parcel.ordinal) → asks_of g back ≡ cargoes.asked_of cargo.parcel
      → cargo.parcel.lane < 66 → Hears g old back ordinal new → IsKnown g answer new
  known_now wanted answer cargo old new back ordinal done tag asks small hears =
      let lane : cargo.parcel.lane ≡ answer.entry.lane = ap (λ e. e.lane) done.entry in
      let tags : tag_of g back ≡ (answer.entry.lane, answer.entry.ordinal) = tag ∙ ap (λ e. (e.lane, e.ordinal)) done.entry in
      let asked : asks_of g back ≡ asked_in answer.entry = asks ∙ ap asked_in done.entry in
      (subst (λ n. n < 66) lane small, λ run. subst (λ t. HasFor g t (asked_in answer.entry) (seen_by new.note)) tags (subst (λ a. HasFor g (tag_of g back) a (seen_by new.note)) asked (hears.run run).1))

  module _ (queue : Queue) (old : DriverLists) (heard : List (HeardData M S A R Q P H W)) (k : IsHalf g queue old heard) where
    -- the lane's place
    pub at_lane : (lane : ℕ) (at : HeardData M S A R Q P H W) → lane < 66 → at ≡ get_or heard lane at → IsHeard old.reaped lane at
    at_lane lane at less is = subst (IsHeard old.reaped lane) (get_or_default heard lane (unheard 0) at (let long = k.lanes in omega (arith, less, long)) ∙ sym is) (k.tops lane less)

    -- what came back is known, once a reply was taken
    known_reaped : {B C : Type 0} (wanted : C → Bool) (cargo : CargoData C) (a : Answer) → IsDone wanted a cargo → (lane ordinal : ℕ) → lane ≡ cargo.parcel.lane → ordinal ≡ cargo.parcel.ordinal → lane < 66 → (at h : HeardData M S A R Q P H W) → at ≡ get_or heard lane at
        → (back : Carried M B S A R Q P H W) → tag_of g back ≡ (lane, ordinal) → asks_of g back ≡ cargoes.asked_of cargo.parcel → Hears g at back ordinal h → AreKnown g (old.reaped ++ a ∷ []) (set heard lane h)
    known_reaped wanted cargo a done lane ordinal lane_is ordinal_is less at h at_is back tag asks hears answer has =
        let long : lane < length heard = (let lanes = k.lanes in omega (arith, less, lanes)) in
        let here : get_or (set heard lane h) lane (unheard 0) ≡ h = get_or-set_same heard lane h (unheard 0) long in
        elim (has_snoc old.reaped a answer has) [
          | inl before ↦ (
              elim (cases_eq answer.entry.lane lane) [
                | inl same ↦ (
                    let was : get_or heard answer.entry.lane (unheard 0) ≡ at = ap (λ n. get_or heard n (unheard 0)) same ∙ (get_or_default heard lane (unheard 0) at long ∙ sym at_is) in
                    let is : get_or (set heard lane h) answer.entry.lane (unheard 0) ≡ h = ap (λ n. get_or (set heard lane h) n (unheard 0)) same ∙ here in
                    subst (IsKnown g answer) (sym is) (known_still answer at h back ordinal hears (subst (IsKnown g answer) was (k.known answer before)))
                    )
                | inr not ↦ subst (IsKnown g answer) (sym (get_or-set_other heard lane answer.entry.lane h (unheard 0) not)) (k.known answer before)
              ]
              )
          | inr last ↦ (
              let tags : tag_of g back ≡ (cargo.parcel.lane, cargo.parcel.ordinal) = tag ∙ (λ i. (lane_is i, ordinal_is i)) in
              let known = known_now wanted a cargo at h back ordinal done tags asks (subst (λ n. n < 66) lane_is less) hears in
              let is : get_or (set heard lane h) a.entry.lane (unheard 0) ≡ h = ap (λ n. get_or (set heard lane h) n (unheard 0)) (sym (lane_is ∙ ap (λ e. e.lane) done.entry)) ∙ here in
              subst (λ (x : Answer). IsKnown g x (get_or (set heard lane h) x.entry.lane (unheard 0))) last (subst (IsKnown g a) (sym is) known)
              )
        ]

    -- a reply was taken
    pub half_reaped : {B C : Type 0} (wanted : C → Bool) (head len : ℕ) (cargo : CargoData C) (new : DriverLists) → Reaps wanted old head len cargo new → (lane ordinal : ℕ) → lane ≡ cargo.parcel.lane → ordinal ≡ cargo.parcel.ordinal
        → lane < 66 → (at h : HeardData M S A R Q P H W) → at ≡ get_or heard lane at → (back : Carried M B S A R Q P H W) → tag_of g back ≡ (lane, ordinal) → asks_of g back ≡ cargoes.asked_of cargo.parcel → Hears g at back ordinal h → IsHalf g queue new (set heard lane h)
    half_reaped wanted head len cargo new r lane ordinal lane_is ordinal_is less at h at_is back tag asks hears =
        let a = r.answer in
        let at_ok = at_lane lane at less at_is in
        let entry_lane : lane ≡ a.entry.lane = lane_is ∙ ap (λ e. e.lane) r.done.entry in
        let entry_ordinal : ordinal ≡ a.entry.ordinal = ordinal_is ∙ ap (λ e. e.ordinal) r.done.entry in
        let reaped_long : length new.reaped ≡ length old.reaped + 1 = ap {B = ℕ} length r.reaped ∙ length-append old.reaped (a ∷ []) in
        let published_long : length new.published ≡ length old.published = ap {B = ℕ} length r.published in
        record {
          queue_is = r.same.0 ∙ k.queue_is;
          most = (let one = r.most in omega (arith, one, reaped_long, published_long));
          lanes = length-set heard lane h ∙ k.lanes;
          tops = λ other small. elim (cases_eq other lane) [
            | inl here ↦ (
                subst (λ n. IsHeard new.reaped n (get_or (set heard lane h) n (unheard 0))) (sym here) (
                subst (IsHeard new.reaped lane) (sym (get_or-set_same heard lane h (unheard 0) (let long = k.lanes in omega (arith, less, long))))
                (hears.lane ∙ at_ok.0, hears.top ∙ (ap (max ordinal) at_ok.1 ∙ (ap (λ n. max n (top_of lane old.reaped)) entry_ordinal ∙ (sym (top_here lane old.reaped a (sym entry_lane)) ∙ ap (top_of lane) (sym r.reaped)))))
                )
                )
            | inr not ↦ (
                let was = k.tops other small in
                subst (IsHeard new.reaped other) (sym (get_or-set_other heard lane other h (unheard 0) not))
                (was.0, was.1 ∙ (sym (top_there other old.reaped a (λ e. not (sym e ∙ sym entry_lane))) ∙ ap (top_of other) (sym r.reaped)))
                )
          ];
          known = subst (λ xs. AreKnown g xs (set heard lane h)) (sym r.reaped) (known_reaped wanted cargo a r.done lane ordinal lane_is ordinal_is less at h at_is back tag asks hears);
        }

    -- a lane was asked, and is as it was
    pub half_asked : (lane : ℕ) (at h : HeardData M S A R Q P H W) → at ≡ get_or heard lane at → h ≡ at → IsHalf g queue old (set heard lane h)
    half_asked lane at h at_is same = subst (IsHalf g queue old) (sym (ap (set heard lane) (same ∙ at_is) ∙ set-get_or heard lane at)) k

    -- a cargo was published
    pub half_sent : {P : Type 0} (shape : Shape) (cargo : CargoData P) (new : DriverLists) → Publishes old shape cargo new → IsHalf g queue new heard
    half_sent shape cargo new p =
        let reaped_long : length new.reaped ≡ length old.reaped = ap {B = ℕ} length p.reaped in
        let published_long : length new.published ≡ length old.published + 1 = ap {B = ℕ} length p.published ∙ length-append old.published _ in
        record {
          queue_is = p.same.0 ∙ k.queue_is;
          most = (let was = k.most in omega (arith, was, reaped_long, published_long));
          lanes = k.lanes;
          tops = subst (λ xs. AreHeard xs heard) (sym p.reaped) k.tops;
          known = subst (λ xs. AreKnown g xs heard) (sym p.reaped) k.known;
        }

  -- nothing was published
  pub half_new : (queue : Queue) (size : ℕ) (lists : DriverLists) (heard : List (HeardData M S A R Q P H W)) → IsNewDriver queue size lists → length heard ≡ 66 → AreHeard [] heard → IsHalf g queue lists heard
  half_new queue size lists heard is lanes tops =
      let reaped : length lists.reaped ≡ 0 = ap {B = ℕ} length is.reaped in
      let published : length lists.published ≡ 0 = ap {B = ℕ} length is.published in
      record {
        queue_is = is.queue_is;
        most = omega (arith, reaped, published);
        lanes = lanes;
        tops = subst (λ xs. AreHeard xs heard) (sym is.reaped) tops;
        known = subst (λ xs. AreKnown g xs heard) (sym is.reaped) (λ answer has. absurd has);
      }

  -- all that was published came back, and the root has seen what the lanes' notes have
  pub back_by : (queue : Queue) (lists : DriverLists) (heard : List (HeardData M S A R Q P H W)) (old new : Rooted M S A R Q P H W) → IsHalf g queue lists heard → length lists.reaped ≡ length lists.published → HasJoined old heard new → AreBack g lists new.seen
  back_by queue lists heard old new k all joined = record {
    all = all;
    asked = λ answer has.
        let known = k.known answer has in
        let small = known.0 in
        let lane = joined.lanes (get_or heard answer.entry.lane (unheard 0)) (has_at_place heard answer.entry.lane (unheard 0) (let lanes = k.lanes in omega (arith, small, lanes))) in
        for_more g (answer.entry.lane, answer.entry.ordinal) (asked_in answer.entry) (seen_by (get_or heard answer.entry.lane (unheard 0)).note) new.seen lane.1 (known.1 lane.0);
  }

  -- what stands stands still, once more was seen
  pub back_more : (lists : DriverLists) (es fs : List (Entry M S A R Q P H W)) → AreBack g lists es → IsPrefix es fs → AreBack g lists fs
  back_more lists es fs back more = record {
    all = back.all;
    asked = λ answer has. for_more g (answer.entry.lane, answer.entry.ordinal) (asked_in answer.entry) es fs more (back.asked answer has);
  }

  pub root_heard : (old new : Rooted M S A R Q P H W) (seen : List (Entry M S A R Q P H W)) → TakesIn g old seen new → new.accounts ≡ old.accounts → new.lanes ≡ old.lanes → HasHeard old new
  root_heard old new seen takes accounts lanes = record { given = takes.given; lanes_made = takes.lanes_made; accounts = accounts; lanes = lanes; start = takes.start; more = takes.more }

module _ {M S A R Q P H W : Type 0} where
  -- one lane more of which nothing came back
  heard_more : (n : ℕ) (xs : List (HeardData M S A R Q P H W)) (h : HeardData M S A R Q P H W) → length xs ≡ n → ((k : ℕ) → k < n → IsHeard [] k (get_or xs k (unheard 0))) → h ≡ unheard n → (k : ℕ) → k < n + 1 → IsHeard [] k (get_or (xs ++ h ∷ []) k (unheard 0))
  heard_more n xs h long all is k less = elim (cases_eq k n) [
    | inl here ↦ (
        let seam : get_or (xs ++ h ∷ []) n (unheard 0) ≡ unheard n = ap (λ i. get_or (xs ++ h ∷ []) i (unheard 0)) (sym long) ∙ (get_or-append_seam xs h [] (unheard 0) ∙ is) in
        subst (λ i. IsHeard [] i (get_or (xs ++ h ∷ []) i (unheard 0))) (sym here) (subst (IsHeard [] n) (sym seam) (refl, refl))
        )
    | inr not ↦ (
        let small : k < n = omega (arith, less, not) in
        subst (IsHeard [] k) (sym (get_or_append_left xs (h ∷ []) (unheard 0) k (let same = long in omega (arith, small, same)))) (all k small)
        )
  ]

  pub lanes_more : (n : ℕ) (xs ys : List (HeardData M S A R Q P H W)) (h : HeardData M S A R Q P H W) → (length xs ≡ n) × ((k : ℕ) → k < n → IsHeard [] k (get_or xs k (unheard 0))) → ys ≡ xs ++ h ∷ [] → h ≡ unheard n
      → (length ys ≡ n + 1) × ((k : ℕ) → k < n + 1 → IsHeard [] k (get_or ys k (unheard 0)))
  lanes_more n xs ys h was is new =
      subst (λ (zs : List (HeardData M S A R Q P H W)). (length zs ≡ n + 1) × ((k : ℕ) → k < n + 1 → IsHeard [] k (get_or zs k (unheard 0)))) (sym is)
      (length-append xs (h ∷ []) ∙ ap (λ m. m + 1) was.0, heard_more n xs h was.0 was.1 new)

  -- the root's seeing, call by call
  pub heard_none : (root : Rooted M S A R Q P H W) → HasHeard root root
  heard_none root = record { given = refl; lanes_made = refl; accounts = refl; lanes = refl; start = refl; more = prefix_self root.seen }

  pub heard_both : (old now new : Rooted M S A R Q P H W) → HasHeard old now → HasHeard now new → HasHeard old new
  heard_both old now new first second = record {
    given = second.given ∙ first.given;
    lanes_made = second.lanes_made ∙ first.lanes_made;
    accounts = second.accounts ∙ first.accounts;
    lanes = second.lanes ∙ first.lanes;
    start = second.start ∙ first.start;
    more = prefix_trans old.seen now.seen new.seen first.more second.more;
  }

  pub joined_none : (root : Rooted M S A R Q P H W) → HasJoined root [] root
  joined_none root = record { root = heard_none root; lanes = λ h has. absurd has }

  pub joined_more : (old now new : Rooted M S A R Q P H W) (hs : List (HeardData M S A R Q P H W)) (h : HeardData M S A R Q P H W) → HasJoined old hs now → HasHeard now new → IsPrefix (seen_by h.note) new.seen → h.unrun ≡ false → HasJoined old (hs ++ h ∷ []) new
  joined_more old now new hs h joined more seen run = record {
    root = heard_both old now new joined.root more;
    lanes = λ other has. elim (has_snoc hs h other has) [
      | inl before ↦ (let was = joined.lanes other before in (was.0, prefix_trans (seen_by other.note) now.seen new.seen was.1 more.more))
      | inr last ↦ subst (IsJoined new.seen) last (run, seen)
    ];
  }
