-- Tokens of all lanes, apart and together.
use Rattle.std.proofs.Common.{◌≡◌, ℕ, zero, suc, ◌+◌, ◌<◌, List, [], ◌∷◌, ◌++◌, Some, None, map, length, get_or, refl, sym, ap, subst, ◌∙◌, arith, length-append}
use Rattle.std.specs.Prelude.{Option}
use Rattle.std.proofs.lemmas.List.{length-map}
use Rattle.vg_wire.specs.declared.request.Queue.TheVariants.{Control, Cursor}
use Rattle.vg_cargo.specs.Entries.{entries}
use Rattle.vg_cargo.specs.DeviceEnds.{DeviceLists}
use Rattle.vg_front.specs.Lanes.{AreLanes}
use Rattle.vg_front.specs.Desks.{AddsTokens, AreNew, HasRunAll}
use Rattle.vg_front.specs.Fronts.{Closes, FrontData}

pub new_apart : {T : Type 0} (lane_of count_of : T → ℕ) (first : ℕ) (tokens : List T) (last : T) → AreNew lane_of count_of first (tokens ++ last ∷ []) → AreNew lane_of count_of first tokens × AreNew lane_of count_of (first + length tokens) (last ∷ [])
new_apart lane_of count_of first [] last new = (tt, ((let is = new.0 in omega (arith, is)), new.1, tt))
new_apart lane_of count_of first (token ∷ tokens) last new =
    let rest = new_apart lane_of count_of (first + 1) tokens last new.2 in
    let moved : first + 1 + length tokens ≡ first + suc (length tokens) = omega arith in
    ((new.0, new.1, rest.0), subst (λ n. AreNew lane_of count_of n (last ∷ [])) moved rest.1)

map_both : {T : Type 0} (xs ys : List T) → map Some (xs ++ ys) ≡ map Some xs ++ map Some ys
map_both [] ys = refl
map_both (x ∷ xs) ys = ap (λ (zs : List (Option _)). Some x ∷ zs) (map_both xs ys)

get_front : {A : Type 0} (xs ys : List A) (i : ℕ) (d : A) → i < length xs → get_or (xs ++ ys) i d ≡ get_or xs i d
get_front [] ys i d less = absurd (omega arith)
get_front (x ∷ xs) ys zero d less = refl
get_front (x ∷ xs) ys (suc i) d less = get_front xs ys i d (omega arith)

get_behind : {A : Type 0} (xs ys : List A) (i : ℕ) (d : A) → get_or (xs ++ ys) (length xs + i) d ≡ get_or ys i d
get_behind [] ys i d = ap (λ (n : ℕ). get_or ys n d) (omega arith)
get_behind (x ∷ xs) ys i d = (let place : suc (length xs + i) ≡ suc (length xs) + i = omega arith in let P : ℕ → Type 0 = λ n. get_or (x ∷ xs ++ ys) n d ≡ get_or ys i d in subst P place (get_behind xs ys i d))

pub closes : {P T : Type 0} (lane_of count_of : T → ℕ) (f : FrontData P T) → f.control.lists.queue ≡ Control → f.cursor.lists.queue ≡ Cursor → f.cursor.halted ≡ f.control.halted → AreLanes f.control.lists.queue f.control.first (length f.control.homes)
    → AreLanes f.cursor.lists.queue f.cursor.first (length f.cursor.homes) → (none mid tokens : List T) → none ≡ [] → AddsTokens lane_of count_of f.control none mid → AddsTokens lane_of count_of f.cursor mid tokens → (control cursor : DeviceLists) → control ≡ f.control.lists → cursor ≡ f.cursor.lists
    → Closes lane_of count_of f tokens control cursor
closes {P} {T} lane_of count_of f is_control is_cursor halted control_lanes cursor_lanes none mid tokens empty first second control cursor control_is cursor_is =
    let many = subst (λ q. AreLanes q f.control.first (length f.control.homes)) is_control control_lanes in
    let few = subst (λ q. AreLanes q f.cursor.first (length f.cursor.homes)) is_cursor cursor_lanes in
    let mid_is : mid ≡ first.tokens = first.added ∙ ap (λ (xs : List T). xs ++ first.tokens) empty in
    let tokens_are : map Some tokens ≡ f.control.homes ++ f.cursor.homes =
    ap (λ (xs : List T). map Some xs) (second.added ∙ ap (λ (xs : List T). xs ++ second.tokens) mid_is) ∙ (map_both first.tokens second.tokens ∙ (ap (λ (xs : List (Option T)). xs ++ map Some second.tokens) first.homes ∙ ap (λ (xs : List (Option T)). f.control.homes ++ xs) second.homes))
    in
    let many_count = many.1 in
    let few_count = few.1 in
    let zero_first = many.0 in
    let last_first = few.0 in
    record {
      tokens_are = tokens_are;
      count = (let a = sym (length-map tokens Some) ∙ (ap {B = ℕ} length tokens_are ∙ length-append f.control.homes f.cursor.homes) in omega (arith, a, many_count, few_count));
      lists = (control_is, cursor_is);
      run = λ lane token less at. (
          let inside : lane < length f.control.homes = omega (arith, less, many_count) in
          let here = sym (get_front f.control.homes f.cursor.homes lane None inside) ∙ (ap (λ (xs : List (Option T)). get_or xs lane None) (sym tokens_are) ∙ at) in
          let lane_is : f.control.first + lane ≡ lane = omega (arith, zero_first) in
          subst (λ ls. HasRunAll lane_of count_of f.control.halted (entries ls.completed) lane token) (sym control_is) (subst (λ l. HasRunAll lane_of count_of f.control.halted (entries f.control.lists.completed) l token) lane_is (first.run lane token here))
          );
      cursor_run = λ token at. (
          let place : length f.control.homes + 0 ≡ 65 = omega (arith, many_count) in
          let here = sym (get_behind f.control.homes f.cursor.homes 0 None) ∙ (ap (λ (n : ℕ). get_or (f.control.homes ++ f.cursor.homes) n None) place ∙ (ap (λ (xs : List (Option T)). get_or xs 65 None) (sym tokens_are) ∙ at)) in
          let lane_is : f.cursor.first + 0 ≡ 65 = omega (arith, last_first) in
          subst (λ ls. HasRunAll lane_of count_of f.control.halted (entries ls.completed) 65 token) (sym cursor_is)
          (subst (λ h. HasRunAll lane_of count_of h (entries f.cursor.lists.completed) 65 token) halted (subst (λ l. HasRunAll lane_of count_of f.cursor.halted (entries f.cursor.lists.completed) l token) lane_is (second.run 0 token here)))
          );
    }
