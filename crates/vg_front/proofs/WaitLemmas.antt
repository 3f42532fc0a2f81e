-- Tokens at home, and cargoes that wait for entries.
use Rattle.std.proofs.Common.{◌≡◌, ◌≢◌, ℕ, zero, suc, ◌+◌, ◌<◌, ◌≤◌, ◌⊎◌, Bool, true, false, ◌||◌, List, [], ◌∷◌, ◌++◌, Some, None, map, take, drop, length, get_or, set, true≢false, add-one, refl, sym, ap, subst, inl, inr, ◌∙◌, arith, append_assoc}
use Rattle.std.specs.Prelude.{Option, IsSome, is_none, is_some}
use Rattle.std.proofs.lemmas.List.{get_or_default}
use Rattle.vg_wire.specs.declared.request.Queue.{Queue}
use Rattle.vg_wire.specs.declared.request.Queue.TheVariants.{Control, Cursor}
use Rattle.vg_cargo.specs.declared.entries.Entry.{Entry}
use Rattle.vg_cargo.specs.Cargo.{CargoData, IsLane}
use Rattle.vg_cargo.specs.Entries.{weigh, Has}
use Rattle.vg_cargo.proofs.Counts.{weigh-append}
use Rattle.vg_front.specs.Lanes.{AreLanes, AreWaiting, IsWaiting, of_lane}
use Rattle.vg_front.specs.Desks.{any_waits, is_some_away}
use Rattle.vg_front.proofs.LaneLemmas.{of_lane-skip}

-- where no token is away, each is at home
pub home_there : {T : Type 0} (homes : List (Option T)) (i : ℕ) → is_some_away homes ≡ false → i < length homes → (token : T) × (get_or homes i None ≡ Some token)
home_there [] i none less = absurd (omega arith)
home_there (None ∷ homes) i none less = absurd (true≢false none)
home_there (Some token ∷ homes) zero none less = (token, refl)
home_there (Some token ∷ homes) (suc i) none less = home_there homes i none (omega arith)

pub take_next : {A : Type 0} (xs : List A) (i : ℕ) (d : A) → i < length xs → take (suc i) xs ≡ take i xs ++ get_or xs i d ∷ []
take_next [] i d less = absurd (omega arith)
take_next (x ∷ xs) zero d less = refl
take_next (x ∷ xs) (suc i) d less = ap (λ (ys : List _). x ∷ ys) (take_next xs i d (omega arith))

pub drop_next : {A : Type 0} (xs ys : List A) (i : ℕ) → drop i xs ≡ drop i ys → length xs ≡ length ys → i < length ys → (d : A) → (get_or xs i d ≡ get_or ys i d) × (drop (suc i) xs ≡ drop (suc i) ys)
drop_next [] [] i same long less d = absurd (omega arith)
drop_next [] (y ∷ ys) i same long less d = absurd (omega (arith, long))
drop_next (x ∷ xs) [] i same long less d = absurd (omega arith)
drop_next (x ∷ xs) (y ∷ ys) zero same long less d = (ap (λ (zs : List _). get_or zs 0 d) same, ap (λ (zs : List _). drop 1 zs) same)
drop_next (x ∷ xs) (y ∷ ys) (suc i) same long less d = drop_next xs ys i same (omega (arith, long)) (omega arith) d

pub drop_set : {A : Type 0} (xs : List A) (i : ℕ) (x : A) → drop (suc i) (set xs i x) ≡ drop (suc i) xs
drop_set [] i x = refl
drop_set (y ∷ ys) zero x = refl
drop_set (y ∷ ys) (suc i) x = drop_set ys i x

pub set_long : {A : Type 0} (xs : List A) (i : ℕ) (x : A) → length (set xs i x) ≡ length xs
set_long [] i x = refl
set_long (y ∷ ys) zero x = refl
set_long (y ∷ ys) (suc i) x = ap suc (set_long ys i x)

pub map_snoc : {A B : Type 0} (f : A → B) (xs : List A) (x : A) → map f (xs ++ x ∷ []) ≡ map f xs ++ f x ∷ []
map_snoc f [] x = refl
map_snoc f (y ∷ ys) x = ap (λ (zs : List _). f y ∷ zs) (map_snoc f ys x)

pub is_there : {T : Type 0} (x : Option T) (token : T) → x ≡ Some token → IsSome x
is_there x token same = rw same refl

-- a token that is put behind the others
pub token_more : {T : Type 0} (homes : List (Option T)) (before tokens tokens' : List T) (i : ℕ) (token : T) → i < length homes → map Some tokens ≡ map Some before ++ take i homes → get_or homes i None ≡ Some token
    → tokens' ≡ tokens ++ token ∷ [] → map Some tokens' ≡ map Some before ++ take (i + 1) homes
token_more {T} homes before tokens tokens' i token less is at pushed =
    let more = ap (λ (xs : List T). map Some xs) pushed ∙ map_snoc Some tokens token in
    let next = take_next homes i None less ∙ ap (λ (x : Option T). take i homes ++ x ∷ []) at in
    let P : ℕ → Type 0 = λ k. map Some tokens' ≡ map Some before ++ take k homes in
    subst P (sym (add-one i)) (more ∙ (ap (λ (xs : List (Option T)). xs ++ Some token ∷ []) is ∙ (append_assoc (map Some before) (take i homes) (Some token ∷ []) ∙ ap (λ (xs : List (Option T)). map Some before ++ xs) (sym next))))

-- what is left behind the one that was taken
pub left_next : {T : Type 0} (homes now : List (Option T)) (i : ℕ) (x : Option T) → drop i now ≡ drop i homes → length now ≡ length homes → i < length homes → drop (i + 1) (set now i x) ≡ drop (i + 1) homes
left_next homes now i x same long less =
    let P : ℕ → Type 0 = λ k. drop k (set now i x) ≡ drop k homes in
    subst P (sym (add-one i)) (drop_set now i x ∙ (drop_next now homes i same long less None).1)

-- the one that is taken
pub taken_is : {T : Type 0} (homes now : List (Option T)) (i : ℕ) (x : Option T) → drop i now ≡ drop i homes → length now ≡ length homes → i < length homes → x ≡ get_or now i x → x ≡ get_or homes i None
taken_is homes now i x same long less at = at ∙ (get_or_default now i x None (omega (arith, less, long)) ∙ (drop_next now homes i same long less None).0)

pub some_of : {T : Type 0} (x : Option T) → is_some x ≡ true → (token : T) × (x ≡ Some token)
some_of None some = absurd (true≢false (sym some))
some_of (Some token) some = (token, refl)

abbrev pub head_or : {A : Type 0} → A → List A → A
head_or d [] = d
head_or d (x ∷ xs) = x

abbrev pub tail_of : {A : Type 0} → List A → List A
tail_of [] = []
tail_of (x ∷ xs) = xs

pub absurd_length : {A : Type 0} {x : A} {xs : List A} → [] ≡ x ∷ xs → ⊥
absurd_length same = (let long = ap {B = ℕ} length same in omega (arith, long))

pub or_first : (a b : Bool) → a || b ≡ false → a ≡ false
or_first true b same = same
or_first false b same = refl

pub or_second : (a b : Bool) → a || b ≡ false → b ≡ false
or_second true b same = absurd (true≢false same)
or_second false b same = same

abbrev token_or : {T : Type 0} → T → Option T → T
token_or d None = d
token_or d (Some t) = t

pub none_not_some : {T : Type 0} (token : T) → None ≡ Some token → ⊥
none_not_some token same = true≢false (ap is_none same)

pub take_short : {A : Type 0} (n : ℕ) (xs : List A) → length (take n xs) ≤ n
take_short zero xs = omega arith
take_short (suc n) [] = omega arith
take_short (suc n) (x ∷ xs) = (let rest = take_short n xs in omega (arith, rest))

-- the lanes of a queue's entries
pub lane_within : (queue : Queue) (first count lane : ℕ) → AreLanes queue first count → IsLane queue lane → (first ≤ lane) × (lane < first + count)
lane_within Control first count lane are is = (let zero = are.0 in let many = are.1 in (omega (arith, zero), omega (arith, zero, many, is)))
lane_within Cursor first count lane are is = (let one = are.0 in let many = are.1 in (omega (arith, one, is), omega (arith, one, many, is)))

pub has_mid : (x e : Entry) (A B : List Entry) → Has x (A ++ B) → Has x (A ++ e ∷ B)
has_mid x e [] B has = inr has
has_mid x e (a ∷ A) B (inl same) = inl same
has_mid x e (a ∷ A) B (inr has) = inr (has_mid x e A B has)

pub has_here : (e : Entry) (A B : List Entry) → Has e (A ++ e ∷ B)
has_here e [] B = inl refl
has_here e (a ∷ A) B = inr (has_here e A B)

pub has_snoc : (x e : Entry) (A : List Entry) → Has x (A ++ e ∷ []) → Has x A ⊎ (e ≡ x)
has_snoc x e [] (inl same) = inr same
has_snoc x e [] (inr has) = absurd has
has_snoc x e (a ∷ A) (inl same) = inl (inl same)
has_snoc x e (a ∷ A) (inr has) = elim (has_snoc x e A has) [ inl old ↦ inl (inr old) | inr new ↦ inr new ]

pub weigh_mid : (f : Entry → ℕ) (A : List Entry) (e : Entry) (B : List Entry) → weigh f (A ++ e ∷ B) ≡ f e + weigh f (A ++ B)
weigh_mid f A e B = (let left = weigh-append f A (e ∷ B) in let right = weigh-append f A B in omega (arith, left, right))

-- where a cargo waits for an entry, they have one lane
pub lane_of_cargo : {P : Type 0} (wanted : P → Bool) (f : ℕ × CargoData P) (e : Entry) → IsWaiting wanted f e → f.1.parcel.lane ≡ e.lane
lane_of_cargo wanted f e is = ap (λ (x : Entry). x.lane) is.0.0

module _ {P : Type 0} (wanted : P → Bool) where
  pub waiting-snoc : (fs : List (ℕ × CargoData P)) (es : List Entry) (f : ℕ × CargoData P) (e : Entry) → AreWaiting wanted fs es → IsWaiting wanted f e → AreWaiting wanted (fs ++ f ∷ []) (es ++ e ∷ [])
  waiting-snoc [] [] f e are is = (is, tt)
  waiting-snoc [] (x ∷ es) f e are is = absurd are
  waiting-snoc (g ∷ fs) [] f e are is = absurd are
  waiting-snoc (g ∷ fs) (x ∷ es) f e are is = (are.0, waiting-snoc fs es f e are.1 is)

  pub record IsSplit (fs : List (ℕ × CargoData P)) (es : List Entry) (place : ℕ) (f : ℕ × CargoData P) : Type 0 where
    pub entry : Entry
    pub is : IsWaiting wanted f entry
    pub front : List Entry
    pub back : List Entry
    pub cut : es ≡ front ++ entry ∷ back
    pub rest : AreWaiting wanted (take place fs ++ drop (suc place) fs) (front ++ back)
    pub before : AreWaiting wanted (take place fs) front
    pub cargoes : fs ≡ take place fs ++ f ∷ drop (suc place) fs

  pub split_at : (fs : List (ℕ × CargoData P)) (es : List Entry) (place : ℕ) (d : ℕ × CargoData P) → place < length fs → AreWaiting wanted fs es → IsSplit fs es place (get_or fs place d)
  split_at [] es place d less are = absurd (omega arith)
  split_at (g ∷ fs) [] place d less are = absurd are
  split_at (g ∷ fs) (x ∷ es) zero d less are = record { entry = x; is = are.0; front = []; back = es; cut = refl; rest = are.1; before = tt; cargoes = refl }
  split_at (g ∷ fs) (x ∷ es) (suc place) d less are =
      let rest = split_at fs es place d (omega arith) are.1 in
      record {
        entry = rest.entry;
        is = rest.is;
        front = x ∷ rest.front;
        back = rest.back;
        cut = ap (λ (ys : List Entry). x ∷ ys) rest.cut;
        rest = (are.0, rest.rest);
        before = (are.0, rest.before);
        cargoes = ap (λ (ys : List (ℕ × CargoData P)). g ∷ ys) rest.cargoes;
      }

  -- none of these is of the lane
  pub none_of_lane : (lane : ℕ) (fs : List (ℕ × CargoData P)) (es : List Entry) → AreWaiting wanted fs es → ((k : ℕ) (d : ℕ × CargoData P) → k < length fs → (get_or fs k d).1.parcel.lane ≢ lane) → of_lane lane es ≡ []
  none_of_lane lane [] [] are away = refl
  none_of_lane lane [] (x ∷ es) are away = absurd are
  none_of_lane lane (g ∷ fs) [] are away = absurd are
  none_of_lane lane (g ∷ fs) (x ∷ es) are away =
      let here : x.lane ≢ lane = λ same. away 0 g (omega arith) (lane_of_cargo wanted g x are.0 ∙ same) in
      of_lane-skip lane x es here ∙ none_of_lane lane fs es are.1 (λ k d less. away (suc k) d (omega (arith, less)))

  -- the lanes of all that wait
  pub lanes_of : (first count : ℕ) (fs : List (ℕ × CargoData P)) (es : List Entry) → AreWaiting wanted fs es → ((e : Entry) → Has e es → (first ≤ e.lane) × (e.lane < first + count)) → (i : ℕ) (d : ℕ × CargoData P) → i < length fs
      → (first ≤ (get_or fs i d).1.parcel.lane) × ((get_or fs i d).1.parcel.lane < first + count)
  lanes_of first count [] es are within i d less = absurd (omega arith)
  lanes_of first count (g ∷ fs) [] are within i d less = absurd are
  lanes_of first count (g ∷ fs) (x ∷ es) are within zero d less = subst (λ l. (first ≤ l) × (l < first + count)) (sym (lane_of_cargo wanted g x are.0)) (within x (inl refl))
  lanes_of first count (g ∷ fs) (x ∷ es) are within (suc i) d less = lanes_of first count fs es are.1 (λ e has. within e (inr has)) i d (omega (arith, less))

  pub none_wait : (fs : List (ℕ × CargoData P)) (es : List Entry) → AreWaiting wanted fs es → any_waits fs ≡ false → es ≡ []
  none_wait [] [] are idle = refl
  none_wait [] (x ∷ es) are idle = absurd are
  none_wait (g ∷ fs) es are idle = absurd (true≢false idle)
