-- What is kept of a queue, from call to call.
use Rattle.std.proofs.Common.{◌≡◌, ◌≢◌, ℕ, zero, suc, ◌+◌, ◌-◌, ◌<◌, ◌≤◌, ◌⊎◌, Bool, true, false, List, [], ◌∷◌, ◌++◌, Some, None, map, take, drop, length, get_or, set, true≢false, add-one, refl, sym, ap, subst, inl, inr, ◌∙◌, arith, length-append, append-nil, append_assoc}
use Rattle.std.specs.Prelude.{Option, is_some}
use Rattle.std.specs.List.{range_with_len}
use Rattle.vg_wire.specs.declared.request.Queue.{Queue}
use Rattle.vg_ring.specs.Making.{IsNewDevice}
use Rattle.std.proofs.lemmas.Bool.{cases_eq, cases_lt, ne_eqb}
use Rattle.std.proofs.lemmas.List.{get_or-set_other, get_or-set_same, get_or-take, get_or_default, get_or_past, length-map}
use Rattle.vg_laws.proofs.Options.{some_is}
use Rattle.vg_cargo.specs.declared.entries.Entry.{Entry}
use Rattle.vg_cargo.specs.declared.entries.Answer.{Answer}
use Rattle.vg_cargo.specs.Cargo.{CargoData}
use Rattle.vg_cargo.specs.Entries.{head_of, head_in, entries, weigh, heads, without, answer_with, Has, InOrder}
use Rattle.vg_cargo.specs.DeviceEnds.{DeviceLists, Fetches, FetchesNone, RightData, HasAt, IsCargoOf, TakesIn, completing}
use Rattle.vg_cargo.proofs.Counts.{weigh-append, entries-append}
use Rattle.vg_cargo.proofs.Heads.{has_heads, held_cut, held_is, has_without, heads_without, has_left}
use Rattle.vg_front.specs.Lanes.{AreLanes, AreWaiting, IsDesk, IsHome, of_lane}
use Rattle.vg_front.specs.Desks.{AddsTokens, AreNew, DeskData, Finishes, HasFetched, HasRunAll, IsAway, IsFirstReady, Takes, any_waits, is_busy, is_some_away}
use Rattle.vg_front.proofs.LaneLemmas.{alone_of, has_of_lane, of_lane-append, of_lane-here, of_lane-mid, of_lane-mid_skip, of_lane-skip, ordinal_at, ordinals_rise}
use Rattle.vg_front.proofs.WaitLemmas.{IsSplit, has_here, has_mid, has_snoc, lane_of_cargo, lane_within, absurd_length, head_or, lanes_of, none_wait, or_first, or_second, tail_of, none_not_some, none_of_lane, set_long, some_of, split_at, take_short, waiting-snoc, weigh_mid}

-- a lane's home doesn't change where its lists stay
home_same : {T : Type 0} (lane_of count_of : T → ℕ) (halted : Bool) (done done' lent lent' : List Entry) (lane : ℕ) (home : Option T) → of_lane lane done' ≡ of_lane lane done → of_lane lane lent' ≡ of_lane lane lent
    → IsHome lane_of count_of halted done lent lane home → IsHome lane_of count_of halted done' lent' lane home
home_same lane_of count_of halted done done' lent lent' lane None same_done same_lent is = (is.0, same_lent ∙ is.1)
home_same lane_of count_of halted done done' lent lent' lane (Some token) same_done same_lent is = (same_lent ∙ is.0, is.1, λ running. is.2 running ∙ ap {B = ℕ} length (sym same_done))

-- where a command of a lane is lent, the lane's token is away, and nothing else of it is lent
away_is : {T : Type 0} (lane_of count_of : T → ℕ) (halted : Bool) (done lent : List Entry) (lane : ℕ) (home : Option T) (e : Entry) → IsHome lane_of count_of halted done lent lane home → Has e lent → e.lane ≡ lane → of_lane lane lent ≡ e ∷ []
away_is lane_of count_of halted done lent lane None e is has same = elim (subst (Has e) is.1 (has_of_lane lane e lent has same)) [ inl here ↦ is.1 ∙ ap (λ (x : Entry). x ∷ []) here | inr none ↦ absurd none ]
away_is lane_of count_of halted done lent lane (Some token) e is has same = absurd (subst (Has e) is.0 (has_of_lane lane e lent has same))

module _ {P T : Type 0} (wanted : P → Bool) (lane_of count_of : T → ℕ) (lists : DeviceLists) (first : ℕ) (homes : List (Option T)) (waiting : List (ℕ × CargoData P)) (halted : Bool) (waits : List Entry) (k : IsDesk wanted lane_of count_of lists first homes waiting halted waits) where
  -- a command more waits
  pub desk_fetched : (head : ℕ) (cargo : CargoData P) (new : DeviceLists) (f : Fetches wanted lists head cargo new) → IsDesk wanted lane_of count_of new first homes (waiting ++ (head, cargo) ∷ []) halted (waits ++ f.entry ∷ [])
  desk_fetched head cargo new f =
      let e = f.entry in
      record {
        lanes = subst (λ q. AreLanes q first (length homes)) (sym f.same.0) k.lanes;
        flows = λ lane. (
            let grown = ap (of_lane lane) f.fetched ∙ of_lane-append lane lists.fetched (e ∷ []) in
            let old = ap (λ (xs : List Entry). xs ++ of_lane lane (e ∷ [])) (k.flows lane) in
            let done_is = ap (λ (xs : List Answer). of_lane lane (entries xs)) (sym f.completed) in
            let lent_is = ap (of_lane lane) (sym f.lent) in
            let front = ap (λ (xs : List Entry). xs ++ of_lane lane lists.lent) done_is ∙ ap (λ (xs : List Entry). of_lane lane (entries new.completed) ++ xs) lent_is in
            grown ∙ (old ∙ (append_assoc (of_lane lane (entries lists.completed) ++ of_lane lane lists.lent) (of_lane lane waits) (of_lane lane (e ∷ [])) ∙ (ap (λ (xs : List Entry). xs ++ (of_lane lane waits ++ of_lane lane (e ∷ []))) front ∙ ap (λ (xs : List Entry). (of_lane lane (entries new.completed) ++ of_lane lane new.lent) ++ xs) (sym (of_lane-append lane waits (e ∷ []))))))
            );
        waits_are = waiting-snoc wanted waiting waits (head, cargo) e k.waits_are ((f.fresh.entry, f.fresh.head_is), f.head_is, f.fresh.wanted_is);
        waits_held = λ x has. subst (Has x) (sym f.held) (elim (has_snoc x e waits has) [ inl old ↦ inr (k.waits_held x old) | inr same ↦ inl same ]);
        held = λ g. (
            let now = ap (weigh g) f.held in
            let lent_is = ap (weigh g) f.lent in
            let old = k.held g in
            let more = weigh-append g waits (e ∷ []) in
            omega (arith, now, lent_is, old, more)
            );
        once = λ h. (
            let now = ap (heads h) f.held in
            let old = k.once h in
            elim (cases_eq (head_of e) h) [
              | inl same ↦ (let alone = f.alone in let at = ap (λ (i : ℕ). heads i new.held) (sym same ∙ sym f.head_is) in omega (arith, alone, at))
              | inr other ↦ (let here : head_in h e ≡ 0 = rw (ne_eqb (head_of e) h other) refl in omega (arith, now, old, here))
            ]
            );
        ordered = f.ordered;
        count = (
            let grown = ap {B = ℕ} length f.fetched ∙ length-append lists.fetched (e ∷ []) in
            let waits_more = length-append waiting ((head, cargo) ∷ []) in
            let old = k.count in
            let done_is = ap {B = ℕ} length f.completed in
            let lent_is = ap {B = ℕ} length f.lent in
            omega (arith, grown, waits_more, old, done_is, lent_is)
            );
        within = λ x has. elim (subst (Has x) f.held has) [
          | inl same ↦ (
              let P : Entry → Type 0 = λ (y : Entry). (first ≤ y.lane) × (y.lane < first + length homes) in
              subst P same (lane_within e.queue first (length homes) e.lane (subst (λ q. AreLanes q first (length homes)) (sym f.of_queue) k.lanes) f.lane)
              )
          | inr old ↦ k.within x old
        ];
        homes_are = λ i less. home_same lane_of count_of halted (entries lists.completed) (entries new.completed) lists.lent new.lent (first + i) (get_or homes i None) (ap (λ (xs : List Answer). of_lane (first + i) (entries xs)) f.completed) (ap (of_lane (first + i)) f.lent) (k.homes_are i less);
      }

  -- there is room for it
  pub room_is : (head : ℕ) (cargo : CargoData P) (new : DeviceLists) → Fetches wanted lists head cargo new → length waiting < new.size
  room_is head cargo new f =
      let grown = ap {B = ℕ} length f.fetched ∙ length-append lists.fetched (f.entry ∷ []) in
      let old = k.count in
      let most = f.most in
      let done_is = ap {B = ℕ} length f.completed in
      omega (arith, grown, old, most, done_is)

  -- where there is none, nothing changes but what was seen
  pub desk_none : (new : DeviceLists) → FetchesNone lists new → IsDesk wanted lane_of count_of new first homes waiting halted waits
  desk_none new n = record {
    lanes = subst (λ q. AreLanes q first (length homes)) (sym n.same.0) k.lanes;
    flows = λ lane. ap (of_lane lane) n.fetched ∙ (k.flows lane ∙ (ap (λ (xs : List Answer). (of_lane lane (entries xs) ++ of_lane lane lists.lent) ++ of_lane lane waits) (sym n.completed) ∙ ap (λ (xs : List Entry). (of_lane lane (entries new.completed) ++ of_lane lane xs) ++ of_lane lane waits) (sym n.lent)));
    waits_are = k.waits_are;
    waits_held = λ x has. subst (Has x) (sym n.held) (k.waits_held x has);
    held = λ g. (let now = ap (weigh g) n.held in let lent_is = ap (weigh g) n.lent in let old = k.held g in omega (arith, now, lent_is, old));
    once = λ h. (let now = ap (heads h) n.held in let old = k.once h in omega (arith, now, old));
    ordered = subst (InOrder []) (sym n.fetched) k.ordered;
    count = (let a = ap {B = ℕ} length n.fetched in let b = ap {B = ℕ} length n.completed in let c = ap {B = ℕ} length n.lent in let old = k.count in omega (arith, a, b, c, old));
    within = λ x has. k.within x (subst (Has x) n.held has);
    homes_are = λ i less. home_same lane_of count_of halted (entries lists.completed) (entries new.completed) lists.lent new.lent (first + i) (get_or homes i None) (ap (λ (xs : List Answer). of_lane (first + i) (entries xs)) n.completed) (ap (of_lane (first + i)) n.lent) (k.homes_are i less);
  }

  -- what is known of the first command whose lane has its token at home
  pub record IsReady (place : ℕ) (f : ℕ × CargoData P) : Type 0 where
    pub split : IsSplit wanted waiting waits place f
    pub has : Has split.entry lists.held
    pub unlent : heads f.0 lists.lent ≡ 0
    pub lane_is : f.1.parcel.lane ≡ split.entry.lane
    pub low : first ≤ split.entry.lane
    pub high : split.entry.lane - first < length homes
    pub token : T
    pub home : get_or homes (split.entry.lane - first) None ≡ Some token
    pub lent : of_lane split.entry.lane lists.lent ≡ []
    pub token_lane : lane_of token ≡ split.entry.lane
    pub count : halted ≡ false → count_of token ≡ length (of_lane split.entry.lane (entries lists.completed))
    pub front : of_lane split.entry.lane split.front ≡ []

  pub ready_is : (place : ℕ) (f : ℕ × CargoData P) → f ≡ get_or waiting place f → IsFirstReady first homes waiting place → IsReady place f
  ready_is place f at r =
      let split = subst (IsSplit wanted waiting waits place) (sym at) (split_at wanted waiting waits place f r.there k.waits_are) in
      let e = split.entry in
      let lane_is = lane_of_cargo wanted f e split.is in
      let has = k.waits_held e (subst (Has e) (sym split.cut) (has_here e split.front split.back)) in
      let within = k.within e has in
      let low = within.0 in
      let high : e.lane - first < length homes = (let top = within.1 in omega (arith, low, top)) in
      let back : first + (e.lane - first) ≡ e.lane = omega (arith, low) in
      let token = some_of (get_or homes (e.lane - first) None) (ap (λ (l : ℕ). is_some (get_or homes (l - first) None)) (sym lane_is) ∙ (ap (λ (x : ℕ × CargoData P). is_some (get_or homes (x.1.parcel.lane - first) None)) at ∙ r.ready f)) in
      let home : IsHome lane_of count_of halted (entries lists.completed) lists.lent e.lane (Some token.0) = subst (IsHome lane_of count_of halted (entries lists.completed) lists.lent e.lane) token.1 (subst (λ l. IsHome lane_of count_of halted (entries lists.completed) lists.lent l (get_or homes (e.lane - first) None)) back (k.homes_are (e.lane - first) high)) in
      record {
        split = split;
        has = has;
        unlent = (
            let all = k.held (head_in f.0) in
            let once = k.once f.0 in
            let some = has_heads e waits (subst (Has e) (sym split.cut) (has_here e split.front split.back)) in
            let same = ap (λ (h : ℕ). heads h waits) split.is.1 in
            omega (arith, all, once, some, same)
            );
        lane_is = lane_is;
        low = low;
        high = high;
        token = token.0;
        home = token.1;
        lent = home.0;
        token_lane = home.1;
        count = home.2;
        front = none_of_lane wanted e.lane (take place waiting) split.front split.before (λ j d less same. (
            let short = take_short place waiting in
            let inside : j < place = omega (arith, less, short) in
            let there = ap (λ (x : ℕ × CargoData P). get_or homes (x.1.parcel.lane - first) None) (get_or-take place waiting j d inside) in
            let away = r.before j d (omega arith) inside in
            let at_lane = ap (λ (l : ℕ). get_or homes (l - first) None) same in
            none_not_some token.0 (sym away ∙ (sym there ∙ (at_lane ∙ token.1)))
            ));
      }

  -- the command that is taken is the next of its lane
  pub next_is : (place : ℕ) (f : ℕ × CargoData P) (r : IsReady place f) → halted ≡ false → r.split.entry.ordinal ≡ count_of r.token + 1
  next_is place f r running =
      let l = r.split.entry.lane in
      let done = of_lane l (entries lists.completed) in
      let flows = k.flows l ∙ (ap (λ (xs : List Entry). (done ++ xs) ++ of_lane l waits) r.lent ∙ (ap (λ (xs : List Entry). xs ++ of_lane l waits) (append-nil done) ∙ ap (λ (xs : List Entry). done ++ xs) (ap (of_lane l) r.split.cut ∙ (of_lane-mid l r.split.front r.split.entry r.split.back refl ∙ ap (λ (xs : List Entry). xs ++ r.split.entry ∷ of_lane l r.split.back) r.front)))) in
      let at = ordinal_at l [] lists.fetched done r.split.entry (of_lane l r.split.back) k.ordered flows in
      let count = r.count running in
      omega (arith, at, count)

  pub desk_taken : (place : ℕ) (f : ℕ × CargoData P) (r : IsReady place f) → IsDesk wanted lane_of count_of (record lists { lent = r.split.entry ∷ lists.lent }) first (set homes (r.split.entry.lane - first) None) (take place waiting ++ drop (suc place) waiting) halted (r.split.front ++ r.split.back)
  desk_taken place f r =
      let e = r.split.entry in
      let i = e.lane - first in
      let long = set_long homes i None in
      let A = r.split.front in
      let B = r.split.back in
      record {
        lanes = subst (λ n. AreLanes lists.queue first n) (sym long) k.lanes;
        flows = λ lane. elim (cases_eq e.lane lane) [
          | inl same ↦ subst (λ l. of_lane l lists.fetched ≡ (of_lane l (entries lists.completed) ++ of_lane l (e ∷ lists.lent)) ++ of_lane l (A ++ B)) same (
              let done = of_lane e.lane (entries lists.completed) in
              let old = k.flows e.lane ∙ (ap (λ (xs : List Entry). (done ++ xs) ++ of_lane e.lane waits) r.lent ∙ (ap (λ (xs : List Entry). xs ++ of_lane e.lane waits) (append-nil done) ∙ ap (λ (xs : List Entry). done ++ xs) (ap (of_lane e.lane) r.split.cut ∙ (of_lane-mid e.lane A e B refl ∙ ap (λ (xs : List Entry). xs ++ e ∷ of_lane e.lane B) r.front)))) in
              let lent_is : of_lane e.lane (e ∷ lists.lent) ≡ e ∷ [] = of_lane-here e.lane e lists.lent refl ∙ ap (λ (xs : List Entry). e ∷ xs) r.lent in
              let waits_is : of_lane e.lane (A ++ B) ≡ of_lane e.lane B = of_lane-append e.lane A B ∙ ap (λ (xs : List Entry). xs ++ of_lane e.lane B) r.front in
              old ∙ (sym (append_assoc done (e ∷ []) (of_lane e.lane B)) ∙ (ap (λ (xs : List Entry). (done ++ xs) ++ of_lane e.lane B) (sym lent_is) ∙ ap (λ (xs : List Entry). (done ++ of_lane e.lane (e ∷ lists.lent)) ++ xs) (sym waits_is)))
              )
          | inr other ↦ (
              let done = of_lane lane (entries lists.completed) in
              let lent_is : of_lane lane (e ∷ lists.lent) ≡ of_lane lane lists.lent = of_lane-skip lane e lists.lent other in
              let waits_is : of_lane lane waits ≡ of_lane lane (A ++ B) = ap (of_lane lane) r.split.cut ∙ of_lane-mid_skip lane A e B other in
              k.flows lane ∙ (ap (λ (xs : List Entry). (done ++ xs) ++ of_lane lane waits) (sym lent_is) ∙ ap (λ (xs : List Entry). (done ++ of_lane lane (e ∷ lists.lent)) ++ xs) waits_is)
              )
        ];
        waits_are = r.split.rest;
        waits_held = λ x has. k.waits_held x (subst (Has x) (sym r.split.cut) (has_mid x e A B has));
        held = λ g. (let old = k.held g in let cut = ap (weigh g) r.split.cut ∙ weigh_mid g A e B in omega (arith, old, cut));
        once = k.once;
        ordered = k.ordered;
        count = (
            let old = k.count in
            let cut = ap {B = ℕ} length r.split.cargoes ∙ length-append (take place waiting) (f ∷ drop (suc place) waiting) in
            let both = length-append (take place waiting) (drop (suc place) waiting) in
            omega (arith, old, cut, both)
            );
        within = λ x has. (let old = k.within x has in let low = old.0 in let high = old.1 in (low, omega (arith, high, long)));
        homes_are = λ j less. (
            let inside : j < length homes = omega (arith, less, long) in
            elim (cases_eq j i) [
              | inl same ↦ (
                  let lane_at : first + j ≡ e.lane = (let low = r.low in omega (arith, same, low)) in
                  let none : get_or (set homes i None) j None ≡ None = ap (λ (x : ℕ). get_or (set homes i None) x None) same ∙ get_or-set_same homes i None None r.high in
                  subst (λ h. IsHome lane_of count_of halted (entries lists.completed) (e ∷ lists.lent) (first + j) h) (sym none) (e, ap (λ (l : ℕ). of_lane l (e ∷ lists.lent)) lane_at ∙ (of_lane-here e.lane e lists.lent refl ∙ ap (λ (xs : List Entry). e ∷ xs) r.lent))
                  )
              | inr other ↦ (
                  let away : e.lane ≢ first + j = λ is. other (let low = r.low in omega (arith, is, low)) in
                  subst (λ h. IsHome lane_of count_of halted (entries lists.completed) (e ∷ lists.lent) (first + j) h) (sym (get_or-set_other homes i j None None other))
                  (home_same lane_of count_of halted (entries lists.completed) (entries lists.completed) lists.lent (e ∷ lists.lent) (first + j) (get_or homes j None) refl (of_lane-skip (first + j) e lists.lent away) (k.homes_are j inside))
                  )
            ]
            );
      }

  -- the same as a body has it
  pub first_here : (place : ℕ) (homes' : List (Option T)) (waiting' : List (ℕ × CargoData P)) → homes' ≡ homes → waiting' ≡ waiting → IsFirstReady first homes' waiting' place → IsFirstReady first homes waiting place
  first_here place homes' waiting' same_homes same_waiting r = subst (λ ws. IsFirstReady first homes ws place) same_waiting (subst (λ hs. IsFirstReady first hs waiting' place) same_homes r)

  pub ready_here : (place : ℕ) (f : ℕ × CargoData P) (homes' : List (Option T)) (waiting' : List (ℕ × CargoData P)) → homes' ≡ homes → waiting' ≡ waiting → f ≡ get_or waiting place f → IsFirstReady first homes' waiting' place → IsReady place f
  ready_here place f homes' waiting' same_homes same_waiting at r = ready_is place f at (first_here place homes' waiting' same_homes same_waiting r)

  pub lanes_all : (homes' : List (Option T)) (waiting' : List (ℕ × CargoData P)) → homes' ≡ homes → waiting' ≡ waiting → (i : ℕ) (d : ℕ × CargoData P) → i < length waiting' → (first ≤ (get_or waiting' i d).1.parcel.lane) × ((get_or waiting' i d).1.parcel.lane < first + length homes')
  lanes_all homes' waiting' same_homes same_waiting = subst (λ ws. (i : ℕ) (d : ℕ × CargoData P) → i < length ws → (first ≤ (get_or ws i d).1.parcel.lane) × ((get_or ws i d).1.parcel.lane < first + length homes')) (sym same_waiting)
      (subst (λ hs. (i : ℕ) (d : ℕ × CargoData P) → i < length waiting → (first ≤ (get_or waiting i d).1.parcel.lane) × ((get_or waiting i d).1.parcel.lane < first + length hs)) (sym same_homes) (lanes_of wanted first (length homes) waiting waits k.waits_are (λ e has. k.within e (k.waits_held e has))))

  module _ (place : ℕ) (f : ℕ × CargoData P) (r : IsReady place f) (lane : ℕ) (lane_is : lane ≡ f.1.parcel.lane) where
    same_lane : lane ≡ r.split.entry.lane
    same_lane = lane_is ∙ r.lane_is

    pub taken_low : first ≤ lane
    taken_low = (let same = same_lane in let low = r.low in omega (arith, same, low))

    pub taken_high : lane - first < length homes
    taken_high = (let same = same_lane in let high = r.high in subst (λ l. l - first < length homes) (sym same) high)

    pub taken_token : (x : Option T) → x ≡ get_or homes (lane - first) x → x ≡ Some r.token
    taken_token x at = at ∙ (get_or_default homes (lane - first) x None taken_high ∙ (ap (λ (l : ℕ). get_or homes (l - first) None) same_lane ∙ r.home))

    module _ (entry : Entry) (entry_is : entry ≡ r.split.entry) (lists' : DeviceLists) (lists_are : lists' ≡ record lists { lent = entry ∷ lists.lent }) (gone : Option T) (none : gone ≡ None) (left : List (ℕ × CargoData P)) (left_is : left ≡ take place waiting ++ drop (place + 1) waiting) where
      left_at : left ≡ take place waiting ++ drop (suc place) waiting
      left_at = left_is ∙ ap (λ (n : ℕ). take place waiting ++ drop n waiting) (add-one place)

      homes_at : set homes (lane - first) gone ≡ set homes (r.split.entry.lane - first) None
      homes_at = ap (λ (x : Option T). set homes (lane - first) x) none ∙ ap (λ (l : ℕ). set homes (l - first) None) same_lane

      lists_at : lists' ≡ record lists { lent = r.split.entry ∷ lists.lent }
      lists_at = lists_are ∙ ap (λ (e : Entry). record lists { lent = e ∷ lists.lent }) entry_is

      pub desk_taken_at : IsDesk wanted lane_of count_of lists' first (set homes (lane - first) gone) left halted (r.split.front ++ r.split.back)
      desk_taken_at =
          subst (λ ls. IsDesk wanted lane_of count_of ls first (set homes (lane - first) gone) left halted (r.split.front ++ r.split.back)) (sym lists_at)
          (subst (λ hs. IsDesk wanted lane_of count_of (record lists { lent = r.split.entry ∷ lists.lent }) first hs left halted (r.split.front ++ r.split.back)) (sym homes_at)
          (subst (λ ws. IsDesk wanted lane_of count_of (record lists { lent = r.split.entry ∷ lists.lent }) first (set homes (r.split.entry.lane - first) None) ws halted (r.split.front ++ r.split.back)) (sym left_at) (desk_taken place f r)))

      pub has_taken : IsFirstReady first homes waiting place → (token : T) → Some token ≡ Some r.token
          → Takes wanted lane_of count_of (record { lists = lists; first = first; homes = homes; waiting = waiting; halted = halted }) token (record { entry = entry; walked = false }) f.1 (record { lists = lists'; first = first; homes = set homes (lane - first) gone; waiting = left; halted = halted })
      has_taken ready token token_is =
          let same_token : token ≡ r.token = some_is token r.token token_is in
          let moved : entry.lane ≡ r.split.entry.lane = ap (λ (e : Entry). e.lane) entry_is in
          record {
            lane = ap lane_of same_token ∙ (r.token_lane ∙ sym moved);
            cargo_is = subst (λ e. IsCargoOf e f.1) (sym entry_is) r.split.is.0;
            wanted_is = r.split.is.2;
            walked = refl;
            next = λ running. (let at = next_is place f r running in let ordinal = ap (λ (e : Entry). e.ordinal) entry_is in let count = ap count_of same_token in omega (arith, at, ordinal, count));
            lists = lists_are;
            head = f.0;
            front = take place waiting;
            back = drop (suc place) waiting;
            waited = r.split.cargoes;
            left = left_at;
            oldest = λ j d less. (
                let short = take_short place waiting in
                let inside : j < place = omega (arith, less, short) in
                subst (λ x. IsAway first homes x) (sym (get_or-take place waiting j d inside)) (ready.before j d (omega arith) inside)
                );
            home = ap (λ (l : ℕ). get_or homes (l - first) None) moved ∙ (r.home ∙ sym token_is);
            homes = homes_at ∙ ap (λ (l : ℕ). set homes (l - first) None) (sym moved);
            same = (refl, refl);
          }

  module _ (right : RightData) (mid : DeviceLists) (t : TakesIn lists right mid) where
    back_has : Has right.entry lists.held
    back_has = subst (Has right.entry) (ap (λ (x : DeviceLists). x.held) t.left) t.held

    lent_has : Has right.entry lists.lent
    lent_has = subst (Has right.entry) (sym t.lent) (has_here right.entry t.front t.back)

    pub back_low : first ≤ right.entry.lane
    back_low = (k.within right.entry back_has).0

    pub back_high : right.entry.lane - first < length homes
    back_high = (let low = back_low in let top = (k.within right.entry back_has).1 in omega (arith, low, top))

    lane_back : first + (right.entry.lane - first) ≡ right.entry.lane
    lane_back = (let low = back_low in omega (arith, low))

    alone : of_lane right.entry.lane lists.lent ≡ right.entry ∷ []
    alone = away_is lane_of count_of halted (entries lists.completed) lists.lent right.entry.lane (get_or homes (right.entry.lane - first) None) right.entry
        (subst (λ l. IsHome lane_of count_of halted (entries lists.completed) lists.lent l (get_or homes (right.entry.lane - first) None)) lane_back (k.homes_are (right.entry.lane - first) back_high)) lent_has refl

    none_left : of_lane right.entry.lane (t.front ++ t.back) ≡ []
    none_left =
        let l = right.entry.lane in
        let around = alone_of (of_lane l t.front) right.entry right.entry (of_lane l t.back) (sym (of_lane-mid l t.front right.entry t.back refl) ∙ (ap (of_lane l) (sym t.lent) ∙ alone)) in
        of_lane-append l t.front t.back ∙ (ap (λ (xs : List Entry). xs ++ of_lane l t.back) around.0 ∙ around.1)

    flows_back : of_lane right.entry.lane lists.fetched ≡ of_lane right.entry.lane (entries lists.completed) ++ right.entry ∷ of_lane right.entry.lane waits
    flows_back =
        let l = right.entry.lane in
        let done = of_lane l (entries lists.completed) in
        k.flows l ∙ (ap (λ (xs : List Entry). (done ++ xs) ++ of_lane l waits) alone ∙ append_assoc done (right.entry ∷ []) (of_lane l waits))

    module _ (token : T) (len : ℕ) (cargo : CargoData P) (token_lane : lane_of token ≡ right.entry.lane) (turn : (halted ≡ true) ⊎ (count_of token ≡ right.entry.ordinal)) where
      abbrev pub after : DeviceLists
      after = record lists { completed = lists.completed ++ answer_with right.entry len cargo ∷ []; held = without (head_of right.entry) lists.held; lent = t.front ++ t.back }

      one : heads (head_of right.entry) lists.held ≡ 1
      one = (let once = k.once (head_of right.entry) in let some = has_heads right.entry lists.held back_has in omega (arith, once, some))

      done_more : (l : ℕ) → of_lane l (entries (lists.completed ++ answer_with right.entry len cargo ∷ [])) ≡ of_lane l (entries lists.completed) ++ of_lane l (right.entry ∷ [])
      done_more l = ap (of_lane l) (entries-append lists.completed (answer_with right.entry len cargo ∷ [])) ∙ of_lane-append l (entries lists.completed) (right.entry ∷ [])

      counted : halted ≡ false → count_of token ≡ length (of_lane right.entry.lane (entries (lists.completed ++ answer_with right.entry len cargo ∷ [])))
      counted running =
          let l = right.entry.lane in
          let at = ordinal_at l [] lists.fetched (of_lane l (entries lists.completed)) right.entry (of_lane l waits) k.ordered flows_back in
          let long = ap {B = ℕ} length (done_more l ∙ ap (λ (xs : List Entry). of_lane l (entries lists.completed) ++ xs) (of_lane-here l right.entry [] refl)) ∙ length-append (of_lane l (entries lists.completed)) (right.entry ∷ []) in
          elim turn [ inl stopped ↦ absurd (true≢false (sym stopped ∙ running)) | inr next ↦ omega (arith, at, long, next) ]

      pub desk_finished : IsDesk wanted lane_of count_of after first (set homes (right.entry.lane - first) (Some token)) waiting halted waits
      desk_finished =
          let e = right.entry in
          let i = e.lane - first in
          let long = set_long homes i (Some token) in
          let done' = entries (lists.completed ++ answer_with e len cargo ∷ []) in
          record {
            lanes = subst (λ n. AreLanes lists.queue first n) (sym long) k.lanes;
            flows = λ lane. elim (cases_eq e.lane lane) [
              | inl same ↦ subst (λ l. of_lane l lists.fetched ≡ (of_lane l done' ++ of_lane l (t.front ++ t.back)) ++ of_lane l waits) same (
                  let done = of_lane e.lane (entries lists.completed) in
                  let more = done_more e.lane ∙ ap (λ (xs : List Entry). done ++ xs) (of_lane-here e.lane e [] refl) in
                  flows_back ∙ (sym (append_assoc done (e ∷ []) (of_lane e.lane waits)) ∙ (ap (λ (xs : List Entry). xs ++ of_lane e.lane waits) (sym more ∙ sym (append-nil (of_lane e.lane done'))) ∙ ap (λ (xs : List Entry). (of_lane e.lane done' ++ xs) ++ of_lane e.lane waits) (sym none_left)))
                  )
              | inr other ↦ (
                  let done = of_lane lane (entries lists.completed) in
                  let same_done : of_lane lane done' ≡ done = done_more lane ∙ (ap (λ (xs : List Entry). done ++ xs) (of_lane-skip lane e [] other) ∙ append-nil done) in
                  let same_lent : of_lane lane lists.lent ≡ of_lane lane (t.front ++ t.back) = ap (of_lane lane) t.lent ∙ of_lane-mid_skip lane t.front e t.back other in
                  k.flows lane ∙ (ap (λ (xs : List Entry). (xs ++ of_lane lane lists.lent) ++ of_lane lane waits) (sym same_done) ∙ ap (λ (xs : List Entry). (of_lane lane done' ++ xs) ++ of_lane lane waits) same_lent)
                  )
            ];
            waits_are = k.waits_are;
            waits_held = λ x has. has_without x (head_of e) lists.held (λ same. (
                let all = k.held (head_in (head_of e)) in
                let once = k.once (head_of e) in
                let here = has_heads e lists.lent lent_has in
                let there = has_heads x waits has in
                let moved = ap (λ (h : ℕ). heads h waits) same in
                omega (arith, all, once, here, there, moved)
                )) (k.waits_held x has);
            held = λ g. (
                let cut = held_cut (head_of e) lists.held one in
                let is = held_is e lists.held back_has (k.once (head_of e)) in
                let old = k.held g in
                let whole = ap (weigh g) cut.2 ∙ (ap (λ (x : Entry). weigh g (cut.0 ++ x ∷ cut.1)) is ∙ weigh_mid g cut.0 e cut.1) in
                let left = ap (weigh g) cut.3 in
                let lent_is = ap (weigh g) t.lent ∙ weigh_mid g t.front e t.back in
                omega (arith, old, whole, left, lent_is)
                );
            once = λ h. (let fewer = heads_without h (head_of e) lists.held in let old = k.once h in omega (arith, fewer, old));
            ordered = k.ordered;
            count = (
                let old = k.count in
                let more = length-append lists.completed (answer_with e len cargo ∷ []) in
                let cut = ap {B = ℕ} length t.lent ∙ length-append t.front (e ∷ t.back) in
                let both = length-append t.front t.back in
                omega (arith, old, more, cut, both)
                );
            within = λ x has. (let old = k.within x (has_left x (head_of e) lists.held has) in let low = old.0 in let high = old.1 in (low, omega (arith, high, long)));
            homes_are = λ j less. (
                let inside : j < length homes = omega (arith, less, long) in
                elim (cases_eq j i) [
                  | inl same ↦ (
                      let lane_at : e.lane ≡ first + j = (let low = back_low in omega (arith, same, low)) in
                      let some : get_or (set homes i (Some token)) j None ≡ Some token = ap (λ (x : ℕ). get_or (set homes i (Some token)) x None) same ∙ get_or-set_same homes i (Some token) None back_high in
                      subst (λ h. IsHome lane_of count_of halted done' (t.front ++ t.back) (first + j) h) (sym some)
                      (subst (λ l. IsHome lane_of count_of halted done' (t.front ++ t.back) l (Some token)) lane_at (none_left, token_lane, counted))
                      )
                  | inr other ↦ (
                      let away : e.lane ≢ first + j = λ is. other (let low = back_low in omega (arith, is, low)) in
                      let same_done : of_lane (first + j) done' ≡ of_lane (first + j) (entries lists.completed) = done_more (first + j) ∙ (ap (λ (xs : List Entry). of_lane (first + j) (entries lists.completed) ++ xs) (of_lane-skip (first + j) e [] away) ∙ append-nil (of_lane (first + j) (entries lists.completed))) in
                      let same_lent : of_lane (first + j) (t.front ++ t.back) ≡ of_lane (first + j) lists.lent = sym (ap (of_lane (first + j)) t.lent ∙ of_lane-mid_skip (first + j) t.front e t.back away) in
                      subst (λ h. IsHome lane_of count_of halted done' (t.front ++ t.back) (first + j) h) (sym (get_or-set_other homes i j (Some token) None other))
                      (home_same lane_of count_of halted (entries lists.completed) done' lists.lent (t.front ++ t.back) (first + j) (get_or homes j None) same_done same_lent (k.homes_are j inside))
                      )
                ]
                );
          }

      -- the same as a body has it
      module _ (new : DeviceLists) (head : ℕ) (head_is : head ≡ head_of right.entry) (completes : (e : Entry) → HasAt e head mid.held → new ≡ completing mid e len cargo) (lane : ℕ) (lane_is : lane ≡ right.entry.lane) where
        after_is : new ≡ after
        after_is = completes right.entry (t.held, sym head_is) ∙ ap (λ (m : DeviceLists). completing m right.entry len cargo) t.left

        homes_are_set : set homes (lane - first) (Some token) ≡ set homes (right.entry.lane - first) (Some token)
        homes_are_set = ap (λ (l : ℕ). set homes (l - first) (Some token)) lane_is

        pub desk_finished_at : IsDesk wanted lane_of count_of new first (set homes (lane - first) (Some token)) waiting halted waits
        desk_finished_at = subst (λ ls. IsDesk wanted lane_of count_of ls first (set homes (lane - first) (Some token)) waiting halted waits) (sym after_is) (subst (λ hs. IsDesk wanted lane_of count_of after first hs waiting halted waits) (sym homes_are_set) desk_finished)

        pub finishes : Finishes (record { lists = lists; first = first; homes = homes; waiting = waiting; halted = halted }) token right len cargo (record { lists = new; first = first; homes = set homes (lane - first) (Some token); waiting = waiting; halted = halted })
        finishes = record {
          front = t.front;
          back = t.back;
          lent = t.lent;
          lists = after_is;
          homes = homes_are_set;
          same = (refl, refl, refl);
        }

        pub size_same : new.size ≡ lists.size
        size_same = ap (λ (x : DeviceLists). x.size) after_is

  -- at the end, each token has run all that was completed of its lane
  pub has_run_all : any_waits waiting ≡ false → (i : ℕ) (token : T) → get_or homes i None ≡ Some token → HasRunAll lane_of count_of halted (entries lists.completed) (first + i) token
  has_run_all idle i token at =
      let inside : i < length homes = elim (cases_lt i (length homes)) [ inl less ↦ less | inr past ↦ absurd (none_not_some token (sym (get_or_past homes i None past) ∙ at)) ] in
      let home : IsHome lane_of count_of halted (entries lists.completed) lists.lent (first + i) (Some token) = subst (IsHome lane_of count_of halted (entries lists.completed) lists.lent (first + i)) at (k.homes_are i inside) in
      let l = first + i in
      let done = of_lane l (entries lists.completed) in
      let none = none_wait wanted waiting waits k.waits_are idle in
      let flows : of_lane l lists.fetched ≡ done = k.flows l ∙ (ap (λ (xs : List Entry). (done ++ xs) ++ of_lane l waits) home.0 ∙ (ap (λ (xs : List Entry). (done ++ []) ++ of_lane l xs) none ∙ (append-nil (done ++ []) ∙ append-nil done))) in
      let rise = ordinals_rise l [] lists.fetched k.ordered in
      let P : List Entry → Type 0 = λ (xs : List Entry). map (λ (e : Entry). e.ordinal) xs ≡ range_with_len 1 (length xs) in
      record {
        lane_is = home.1;
        ordinals = λ running. subst P flows rise ∙ ap (λ (n : ℕ). range_with_len 1 n) (sym (home.2 running));
      }

-- a queue of which nothing was fetched
new_home : {T : Type 0} (lane_of count_of : T → ℕ) (first : ℕ) (tokens : List T) (i : ℕ) → AreNew lane_of count_of first tokens → i < length (map Some tokens) → IsHome lane_of count_of false [] [] (first + i) (get_or (map Some tokens) i None)
new_home lane_of count_of first [] i new less = absurd (omega (arith, less))
new_home lane_of count_of first (token ∷ tokens) zero new less = (refl, (let is = new.0 in omega (arith, is)), λ _. new.1)
new_home lane_of count_of first (token ∷ tokens) (suc i) new less =
    let lane : first + 1 + i ≡ first + suc i = omega arith in
    subst (λ l. IsHome lane_of count_of false [] [] l (get_or (map Some tokens) i None)) lane (new_home lane_of count_of (first + 1) tokens i new.2 (omega (arith, less)))

pub desk_new : {P T : Type 0} (wanted : P → Bool) (lane_of count_of : T → ℕ) (lists : DeviceLists) (first : ℕ) (tokens : List T) (queue : Queue) (size : ℕ) → IsNewDevice queue size lists → AreLanes lists.queue first (length tokens) → AreNew lane_of count_of first tokens
    → (homes : List (Option T)) → homes ≡ map Some tokens → (waiting : List (ℕ × CargoData P)) → waiting ≡ [] → IsDesk wanted lane_of count_of lists first homes waiting false []
desk_new {P} {T} wanted lane_of count_of lists first tokens queue size new lanes are homes homes_is waiting waiting_is =
    let long : length homes ≡ length tokens = ap {B = ℕ} length homes_is ∙ length-map tokens Some in
    let no_held : (e : Entry) → Has e lists.held → ⊥ = λ e has. subst (Has e) new.held has in
    record {
      lanes = subst (λ n. AreLanes lists.queue first n) (sym long) lanes;
      flows = λ lane. ap (of_lane lane) new.fetched ∙ sym (ap (λ (xs : List Answer). (of_lane lane (entries xs) ++ of_lane lane lists.lent) ++ []) new.completed ∙ ap (λ (xs : List Entry). of_lane lane xs ++ []) new.lent);
      waits_are = subst (λ ws. AreWaiting wanted ws []) (sym waiting_is) tt;
      waits_held = λ e has. absurd has;
      held = λ g. (let a = ap (weigh g) new.held in let b = ap (weigh g) new.lent in omega (arith, a, b));
      once = λ h. (let a = ap (heads h) new.held in omega (arith, a));
      ordered = subst (InOrder []) (sym new.fetched) tt;
      count = (let a = ap {B = ℕ} length new.fetched in let b = ap {B = ℕ} length new.completed in let c = ap {B = ℕ} length new.lent in let d = ap {B = ℕ} length waiting_is in omega (arith, a, b, c, d));
      within = λ e has. absurd (no_held e has);
      homes_are = λ i less. subst (λ done. IsHome lane_of count_of false (entries done) lists.lent (first + i) (get_or homes i None)) (sym new.completed)
          (subst (λ lent. IsHome lane_of count_of false [] lent (first + i) (get_or homes i None)) (sym new.lent)
          (subst (λ hs. IsHome lane_of count_of false [] [] (first + i) (get_or hs i None)) (sym homes_is) (new_home lane_of count_of first tokens i are (let same = ap {B = ℕ} length homes_is in omega (arith, less, same)))));
    }

-- the tokens that were put behind others
tokens_of : {T : Type 0} (old new : List T) (homes : List (Option T)) → map Some new ≡ map Some old ++ homes → (tokens : List T) × (new ≡ old ++ tokens) × (map Some tokens ≡ homes)
tokens_of [] new homes same = (new, refl, same)
tokens_of (x ∷ old) [] homes same = absurd (absurd_length same)
tokens_of {T} (x ∷ old) (y ∷ new) homes same =
    let rest = tokens_of old new homes (ap tail_of same) in
    let first : y ≡ x = some_is y x (ap (head_or None) same) in
    (rest.0, ap (λ (z : T). z ∷ new) first ∙ ap (λ (zs : List T). x ∷ zs) rest.1, rest.2)

pub adds_tokens : {P T : Type 0} (wanted : P → Bool) (lane_of count_of : T → ℕ) (d : DeskData P T) (waits : List Entry) → IsDesk wanted lane_of count_of d.lists d.first d.homes d.waiting d.halted waits → is_busy d ≡ false → (old new : List T) → map Some new ≡ map Some old ++ d.homes → AddsTokens lane_of count_of d old new
adds_tokens wanted lane_of count_of d waits k idle old new put =
    let tokens = tokens_of old new d.homes put in
    record {
      tokens = tokens.0;
      added = tokens.1;
      homes = tokens.2;
      run = has_run_all wanted lane_of count_of d.lists d.first d.homes d.waiting d.halted waits k (or_first (any_waits d.waiting) (is_some_away d.homes) idle);
    }

pub none_away : {P T : Type 0} (d : DeskData P T) → is_busy d ≡ false → is_some_away d.homes ≡ false
none_away d idle = or_second (any_waits d.waiting) (is_some_away d.homes) idle

-- what a fetch does
pub has_fetched : {P T : Type 0} (wanted : P → Bool) (old new : DeskData P T) (head : ℕ) (cargo : CargoData P) → Fetches wanted old.lists head cargo new.lists → new.waiting ≡ old.waiting ++ (head, cargo) ∷ [] → new.first ≡ old.first → new.homes ≡ old.homes → new.halted ≡ old.halted
    → HasFetched wanted old new
has_fetched wanted old new head cargo f waiting first homes halted = record { head = head; cargo = cargo; fetches = f; waiting = waiting; same = (first, homes, halted) }
