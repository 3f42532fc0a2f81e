-- What the driver's thread knows of the cargoes that it has asked, one at a time.
use Rattle.std.proofs.Common.{◌≡◌, ℕ, zero, suc, ◌+◌, ◌<◌, ◌≤◌, Bool, true, false, List, [], ◌∷◌, ◌++◌, length, map, refl, ap, sym, subst, ◌∙◌, arith, length-append, take, min}
use Rattle.std.specs.Prelude.{All}
use Rattle.std.proofs.lemmas.List.{map-append, append-nil, take_all}
use Rattle.std.proofs.lemmas.List.Elements.{All-append, All-nil}
use Rattle.std.proofs.lemmas.Bool.{eq-eqb}
use mathlib.Core.List.{IsPrefix}
use Rattle.vg_laws.proofs.Lists.{all_one}
use Rattle.vg_chain.specs.declared.shape.Shape.{Shape}
use Rattle.vg_chain.specs.declared.shape.Shape.TheVariants.{Plain, Pieces, Indirect, Mixed, Bad}
use Rattle.vg_wire.specs.declared.request.Queue.{Queue}
use Rattle.vg_wire.specs.declared.request.Queue.TheVariants.{Control, Cursor}
use Rattle.vg_history.specs.Lists.{upto}
use Rattle.vg_history.proofs.ListLemmas.{upto_more}
use Rattle.vg_cargo.specs.declared.entries.Entry.{Entry}
use Rattle.vg_cargo.specs.declared.entries.Answer.{Answer}
use Rattle.vg_cargo.specs.Cargo.{CargoData, IsLane}
use Rattle.vg_cargo.specs.Entries.{entries, lane_count}
use Rattle.vg_cargo.specs.Ends.{DriverLists, Reaps, ReapsNone}
use Rattle.vg_cargo.specs.DeviceEnds.{DeviceLists}
use Rattle.vg_ring_uses.specs.Carried.{ordinal_of, echo_in, IsAsked, IsGood, IsEchoed, IsAnswered, HasAsked, Asks, MayAsk, TakesBack, HasAnswered, HaveCarried}

pub lane_small : (queue : Queue) (lane : ℕ) → IsLane queue lane → lane < 66
lane_small Control lane is = omega (arith, is)
lane_small Cursor lane is = omega (arith, is)

length_upto : (n : ℕ) → length (upto n) ≡ n
length_upto zero = refl
length_upto (suc n) = let rest = length_upto n in let both = length-append (upto n) (suc n ∷ []) in omega (arith, rest, both)

length_map : (es : List Entry) → length (map ordinal_of es) ≡ length es
length_map [] = refl
length_map (e ∷ es) = let rest = length_map es in omega (arith, rest)

-- entries of one lane are as many as that lane has
lanes_count : (queue : Queue) (lane : ℕ) (es : List Entry) → All (IsAsked queue lane) es → lane_count lane es ≡ length es
lanes_count queue lane [] h = refl
lanes_count queue lane (e ∷ es) h =
    let here : e.lane ≡ lane = (h 0 e (omega arith)).lane_is in
    let rest = lanes_count queue lane es (λ k d lt. h (suc k) d (omega arith)) in
    let one : lane_count lane (e ∷ es) ≡ 1 + lane_count lane es = rw (eq-eqb e.lane lane here) refl in
    omega (arith, one, rest)

asked_length : (queue : Queue) (lane k : ℕ) (lists : DriverLists) → HasAsked queue lane k lists → length lists.published ≡ k
asked_length queue lane k lists h =
    let same = ap length h.ordinals in
    let one = length_map lists.published in
    let two = length_upto k in
    omega (arith, same, one, two)

pub back_none : (old new : DriverLists) → ReapsNone old new → TakesBack old new
back_none old new r = record {
  published = r.published;
  queue_is = r.same.0;
  fewer = λ few. (let one = ap length r.reaped in let two = ap length r.published in omega (arith, one, two, few));
}

pub back_one : {P : Type 0} (wanted : P → Bool) (old new : DriverLists) (head len : ℕ) (cargo : CargoData P) → Reaps wanted old head len cargo new → TakesBack old new
back_one wanted old new head len cargo r = record {
  published = r.published;
  queue_is = r.same.0;
  fewer = λ few. (let one = ap length r.reaped in let long = length-append old.reaped (r.answer ∷ []) in let two = ap length r.published in let most = r.most in omega (arith, one, long, two, most));
}

-- So many were asked so far.
pub record IsAsking (queue : Queue) (lane count : ℕ) (lists : DriverLists) : Type 0 where
  pub so_far : ℕ
  pub few : so_far ≤ count
  pub asked : HasAsked queue lane so_far lists

pub asking_none : (queue : Queue) (lane count : ℕ) (lists : DriverLists) → lists.queue ≡ queue → lists.published ≡ [] → lists.reaped ≡ [] → IsAsking queue lane count lists
asking_none queue lane count lists of_queue published reaped = record {
  so_far = 0;
  few = omega arith;
  asked = record {
    queue_is = of_queue;
    ordinals = ap (map ordinal_of) published;
    cargoes = subst (λ (es : List Entry). All (IsAsked queue lane) es) (sym published) (All-nil (IsAsked queue lane));
    back = (let one = ap length reaped in omega (arith, one));
  };
}

asked_more : (queue : Queue) (lane count k : ℕ) (old new : DriverLists) → HasAsked queue lane k old → Asks queue lane count old new → HasAsked queue lane (k + 1) new
asked_more queue lane count k old new h a =
    let long = asked_length queue lane k old h in
    let count_is = lanes_count queue lane old.published h.cargoes in
    let ordinal : a.entry.ordinal ≡ k + 1 = (let is = a.ordinal in omega (arith, is, count_is, long)) in
    record {
      queue_is = a.queue_is ∙ h.queue_is;
      ordinals = ap (map ordinal_of) a.published ∙ (map-append ordinal_of old.published (a.entry ∷ []) ∙ (ap (λ (ns : List ℕ). ns ++ a.entry.ordinal ∷ []) h.ordinals ∙ (ap (λ (n : ℕ). upto k ++ n ∷ []) ordinal ∙ upto_more k)));
      cargoes = subst (λ (es : List Entry). All (IsAsked queue lane) es) (sym a.published) (All-append (IsAsked queue lane) old.published (a.entry ∷ []) h.cargoes (all_one (IsAsked queue lane) a.entry a.asked));
      back = (let one = ap length a.reaped in let few = h.back in omega (arith, one, few));
    }

took_back : (queue : Queue) (lane k : ℕ) (old new : DriverLists) → HasAsked queue lane k old → TakesBack old new → HasAsked queue lane k new
took_back queue lane k old new h t =
    let long = asked_length queue lane k old h in
    let same = ap length t.published in
    let few = t.fewer (let less = h.back in omega (arith, less, long)) in
    record {
      queue_is = t.queue_is ∙ h.queue_is;
      ordinals = ap (map ordinal_of) t.published ∙ h.ordinals;
      cargoes = subst (λ (es : List Entry). All (IsAsked queue lane) es) (sym t.published) h.cargoes;
      back = omega (arith, few, same, long);
    }

pub asking_more : (queue : Queue) (lane count : ℕ) (old mid new : DriverLists) (asked : Bool) → IsAsking queue lane count old → MayAsk queue lane count old mid asked → TakesBack mid new → IsAsking queue lane count new
asking_more queue lane count old mid new true h a t =
    let long = asked_length queue lane h.so_far old h.asked in
    record {
      so_far = h.so_far + 1;
      few = (let less = a.fewer in omega (arith, less, long));
      asked = took_back queue lane (h.so_far + 1) mid new (asked_more queue lane count h.so_far old mid h.asked a) t;
    }
asking_more queue lane count old mid new false h a t =
    record { so_far = h.so_far; few = h.few; asked = took_back queue lane h.so_far mid new (subst (λ (x : DriverLists). HasAsked queue lane h.so_far x) (sym a) h.asked) t }

-- all are back, so all were asked
pub asked_all : (queue : Queue) (lane count : ℕ) (lists : DriverLists) → IsAsking queue lane count lists → length lists.reaped ≡ count → HasAsked queue lane count lists
asked_all queue lane count lists h all =
    let few = h.few in
    let back = h.asked.back in
    let same : h.so_far ≡ count = omega (arith, few, back, all) in
    subst (λ (k : ℕ). HasAsked queue lane k lists) same h.asked

-- a beginning that is as long is the whole
prefix_whole : {X : Type 0} (xs ys zs : List X) → xs ++ zs ≡ ys → length ys ≤ length xs → xs ≡ ys
prefix_whole xs ys [] e short = sym (append-nil xs) ∙ e
prefix_whole xs ys (z ∷ zs) e short = (let long = length-append xs (z ∷ zs) in let same = ap length e in absurd (omega (arith, long, same, short)))

length_entries : (answers : List Answer) → length (entries answers) ≡ length answers
length_entries [] = refl
length_entries (a ∷ more) = let rest = length_entries more in omega (arith, rest)

length_prefix : {X : Type 0} (xs ys : List X) (p : IsPrefix xs ys) → length xs ≤ length ys
length_prefix xs ys p = (let long = length-append xs p.0 in let same = ap length p.1 in omega (arith, long, same))

-- with room for all of the request the response is the request
good_echo : (shape : Shape) (request : List ℕ) (room : ℕ) → IsGood shape → echo_in shape request room ≡ take (min (length request) room) request
good_echo Plain request room good = refl
good_echo (Pieces k) request room good = refl
good_echo Indirect request room good = refl
good_echo Mixed request room good = refl
good_echo (Bad fault) request room good = absurd good

echoed : (queue : Queue) (lane : ℕ) (a : Answer) → IsAnswered a → IsAsked queue lane a.entry → IsEchoed a
echoed queue lane a h k =
    let eight : length a.entry.request ≡ 8 = ap length k.request ∙ refl in
    let whole : take (min (length a.entry.request) a.entry.room) a.entry.request ≡ a.entry.request = take_all (min (length a.entry.request) a.entry.room) a.entry.request (let room = k.room in omega (arith, eight, room)) in
    h ∙ (good_echo a.entry.shape a.entry.request a.entry.room k.good ∙ whole)

echoes : (queue : Queue) (lane : ℕ) (answers : List Answer) → All IsAnswered answers → All (IsAsked queue lane) (entries answers) → All IsEchoed answers
echoes queue lane [] h k i d lt = absurd (omega arith)
echoes queue lane (a ∷ more) h k zero d lt = echoed queue lane a (h 0 a (omega arith)) (k 0 a.entry (omega arith))
echoes queue lane (a ∷ more) h k (suc i) d lt = echoes queue lane more (λ j e l. h (suc j) e (omega arith)) (λ j e l. k (suc j) e (omega arith)) i d (omega arith)

pub have_carried : (queue : Queue) (lane count : ℕ) (d : DriverLists) (v : DeviceLists) → HasAsked queue lane count d → length d.reaped ≡ count → HasAnswered v → IsPrefix v.fetched d.published → IsPrefix d.reaped v.completed → HaveCarried queue lane count d v
have_carried queue lane count d v h all a up back =
    let long = asked_length queue lane count d h in
    let few = length_prefix v.fetched d.published up in
    let less = length_prefix d.reaped v.completed back in
    let one = ap length a.in_order in
    let two = length_entries v.completed in
    let fetched : v.fetched ≡ d.published = prefix_whole v.fetched d.published up.0 up.1 (omega (arith, long, all, less, one, two)) in
    let reaped : d.reaped ≡ v.completed = prefix_whole d.reaped v.completed back.0 back.1 (omega (arith, long, all, few, one, two)) in
    let entries_are : entries d.reaped ≡ d.published = ap entries reaped ∙ (a.in_order ∙ fetched) in
    record {
      fetched = fetched;
      reaped = reaped;
      ordinals = ap (map ordinal_of) entries_are ∙ h.ordinals;
      cargoes = subst (λ (es : List Entry). All (IsAsked queue lane) es) (sym entries_are) h.cargoes;
      echoed = echoes queue lane d.reaped (subst (λ (as' : List Answer). All IsAnswered as') (sym reaped) a.answered) (subst (λ (es : List Entry). All (IsAsked queue lane) es) (sym entries_are) h.cargoes);
    }
