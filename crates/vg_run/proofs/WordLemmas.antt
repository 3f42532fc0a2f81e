-- The words that the program is called with.
use Rattle.std.proofs.Common.{◌≡◌, inl, inr, ◌+◌, ◌≤◌, ◌∙◌, sym, ap, refl, subst, arith, ℕ, Bool, true, false, not, List, [], ◌∷◌, length, map, get_or, bytes_eq, codes, Option, Some, None}
use Rattle.std.proofs.lemmas.Slice.Eq.{bytes_eq-Decides}
use Rattle.std.specs.Prelude.{MatchOption, IsTrue, ◌↔◌, OkIff, Result, Ok, Err, ◌<◌, ◌^◌, ◌==◌, ◌&&◌, ◌||◌, nat_lt, if◌then◌else◌, decimal, slice_index}
use Rattle.std.proofs.lemmas.Bool.{and_parts, and_from, lt-ltb}
use Rattle.std.proofs.lemmas.Bool.Decides.{nat_tests}
use Rattle.std.proofs.lemmas.Fmt.{decimal_injective, parse-decimal}
use Rattle.std.specs.Char.{is_ascii_digit}
use Rattle.std.specs.List.{list_all}
use Rattle.std.specs.Str.Parse.{IsNumeral, ParsesUnsigned, digits_value, without_leading_plus}
use Rattle.vg_script_words.specs.Words.{is_number, value}
use Rattle.vg_line_words.specs.Words.{number_of}
use Rattle.vg_line_words.proofs.NumberLaws.{is_number-decimal, number_only}
use Rattle.vg_run.specs.Headline.{IsRun}
use Rattle.vg_run.specs.Checks.{IsCheck, IsOrigins, IsUpgrade}
use Rattle.vg_run.specs.Generates.{IsGen, IsGenOfSome}

-- a list of one, and of three
pub one : {A : Type 0} (f : A → List ℕ) (xs : List A) (x : A) → length xs ≡ 1 → x ≡ get_or xs 0 x → map f xs ≡ f x ∷ []
one f [] x long is = absurd (omega arith)
one f (first ∷ []) x long is = ap (λ y. f y ∷ []) (sym is)
one f (first ∷ next ∷ more) x long is = absurd (omega arith)

pub three : {A : Type 0} (f : A → List ℕ) (xs : List A) (x y z : A) → length xs ≡ 3 → x ≡ get_or xs 0 x → y ≡ get_or xs 1 y → z ≡ get_or xs 2 z → map f xs ≡ f x ∷ f y ∷ f z ∷ []
three f [] x y z long a b c = absurd (omega arith)
three f (first ∷ []) x y z long a b c = absurd (omega arith)
three f (first ∷ next ∷ []) x y z long a b c = absurd (omega arith)
three f (first ∷ next ∷ last ∷ []) x y z long a b c =
    ap (λ w. f w ∷ f next ∷ f last ∷ []) (sym a) ∙ ap (λ w. f x ∷ f w ∷ f last ∷ []) (sym b) ∙ ap (λ w. f x ∷ f y ∷ f w ∷ []) (sym c)
three f (first ∷ next ∷ last ∷ other ∷ more) x y z long a b c = absurd (omega arith)

-- what is told of words is told of the same words
pub told-of : (r : Option ℕ) (words other : List (List ℕ)) → words ≡ other → MatchOption r (¬ IsRun other) (λ n. IsRun other × (1 ≤ n) × (n ≤ 8)) → MatchOption r (¬ IsRun words) (λ n. IsRun words × (1 ≤ n) × (n ≤ 8))
told-of r words other same told = let P : List (List ℕ) → Type 0 = λ ws. MatchOption r (¬ IsRun ws) (λ n. IsRun ws × (1 ≤ n) × (n ≤ 8)) in subst P (sym same) told

-- one word is `run`
pub is-one : (word : List ℕ) → IsRun (word ∷ []) → word ≡ codes "run"
is-one word (inl e) = let same : word ∷ [] ≡ codes "run" ∷ [] = e in cc same
is-one word (inr (n, low, high, e)) = let long : length (word ∷ []) ≡ 3 = ap (λ (ws : List (List ℕ)). length ws) e in absurd (omega (arith, long))

-- and three are `run`, `--workers` and a digit
pub is-three : (word flag count : List ℕ) → IsRun (word ∷ flag ∷ count ∷ []) → (word ≡ codes "run") × (flag ≡ codes "--workers") × ((n : ℕ) × (1 ≤ n) × (n ≤ 8) × (count ≡ (48 + n) ∷ []))
is-three word flag count (inl e) = let long : length (word ∷ flag ∷ count ∷ []) ≡ 1 = ap (λ (ws : List (List ℕ)). length ws) e in absurd (omega (arith, long))
is-three word flag count (inr (n, low, high, e)) =
    let same : word ∷ flag ∷ count ∷ [] ≡ codes "run" ∷ codes "--workers" ∷ ((48 + n) ∷ []) ∷ [] = e in
    let a : word ≡ codes "run" = cc same in
    let b : flag ≡ codes "--workers" = cc same in
    let c : count ≡ (48 + n) ∷ [] = cc same in
    (a, b, (n, low, high, c))

pub three-run : (word flag count : List ℕ) → word ≡ codes "run" → flag ≡ codes "--workers" → (r : Option ℕ)
    → MatchOption r ((n : ℕ) → 1 ≤ n → n ≤ 8 → count ≡ (48 + n) ∷ [] → ⊥) (λ n. (1 ≤ n) × (n ≤ 8) × (count ≡ (48 + n) ∷ []))
    → MatchOption r (¬ IsRun (word ∷ flag ∷ count ∷ [])) (λ n. IsRun (word ∷ flag ∷ count ∷ []) × (1 ≤ n) × (n ≤ 8))
three-run word flag count a b None told = λ is. let t = is-three word flag count is in told t.2.0 t.2.1 t.2.2 t.2.3
three-run word flag count a b (Some n) told =
    let P : List ℕ → List ℕ → List ℕ → Type 0 = λ x y z. x ∷ y ∷ z ∷ [] ≡ codes "run" ∷ codes "--workers" ∷ ((48 + n) ∷ []) ∷ [] in
    let e : word ∷ flag ∷ count ∷ [] ≡ codes "run" ∷ codes "--workers" ∷ ((48 + n) ∷ []) ∷ [] = λ i. a i ∷ b i ∷ told.2 i ∷ [] in
    (inr (n, told.0, told.1, e), told.0, told.1)

-- words that aren't told apart are the same
pub same-word : (a b : List ℕ) → false ≡ not (bytes_eq a b) → a ≡ b
same-word a b e = (bytes_eq-Decides a b).0 (is-true (bytes_eq a b) e)
  where
    is-true : (t : Bool) → false ≡ not t → t ≡ true
    is-true true e = refl
    is-true false e = absurd (cc e)

-- ---- the words of `gen`

no_plus : (word : List ℕ) → list_all is_ascii_digit word ≡ true → without_leading_plus word ≡ word
no_plus [] are = refl
no_plus (c ∷ cs) are =
    let digit = (and_parts (is_ascii_digit c) (list_all is_ascii_digit cs) are).0 in
    let other : (c == 43) ≡ false = grind (arith, nat_tests) in
    rw other refl

digits_of : (word : List ℕ) → is_number word ≡ true → list_all is_ascii_digit word ≡ true
digits_of word is =
    (and_parts (nat_lt 0 (length word)) (list_all is_ascii_digit word)
    (and_parts (nat_lt 0 (length word) && list_all is_ascii_digit word) (length word == 1 || not (slice_index word 0 == 48)) is).0).1

-- a number that is read is the one that is spelled, and a number that is spelled is read
pub number-is : {E : Type 0} (word : List ℕ) (r : Result ℕ E) (n : ℕ) → is_number word ≡ true → ParsesUnsigned 64 10 word r → r ≡ Ok n → (n < 2 ^ 64) × (word ≡ decimal n)
unfolding number_of
number-is word (Err e) n is parses same = absurd (cc same)
number-is {E} word (Ok x) n is parses same =
    let plain = no_plus word (digits_of word is) in
    let told : OkIff {E = E} (Ok x) (IsNumeral 10 word × (digits_value 10 word < 2 ^ 64)) (digits_value 10 word) =
    subst (λ w. OkIff {E = E} (Ok x) (IsNumeral 10 w × (digits_value 10 w < 2 ^ 64)) (digits_value 10 w)) plain parses in
    let small = told.0.1 in
    let both : (is_number word && nat_lt (value word) (2 ^ 64)) ≡ true = and_from _ _ is (lt-ltb _ _ small) in
    let is-x : x ≡ n = cc same in
    let read : number_of (2 ^ 64) word ≡ Some n = ap (λ b. if b then Some (value word) else None) both ∙ ap Some (sym told.1 ∙ is-x) in
    let value-is = told.1 in
    (omega (arith, small, value-is, is-x), number_only (2 ^ 64) n word (omega arith) read)

pub spelled-number : (word : List ℕ) → false ≡ is_number word → (n : ℕ) → n < 2 ^ 64 → word ≡ decimal n → ⊥
spelled-number word is n small same = let yes = is_number-decimal n small in let both : false ≡ true = is ∙ ap is_number same ∙ yes in cc both

pub read-number : {E : Type 0} (word : List ℕ) (r : Result ℕ E) (e : E) → ParsesUnsigned 64 10 word r → r ≡ Err e → (n : ℕ) → n < 2 ^ 64 → word ≡ decimal n → ⊥
read-number word r e parses is n small same = let ok = parse-decimal 64 n word r small small same parses in let both = sym is ∙ ok in cc both

-- of a number there is one word
pub one-number : (m n : ℕ) (word : List ℕ) → m < 2 ^ 64 → n < 2 ^ 64 → word ≡ decimal m → word ≡ decimal n → m ≡ n
one-number m n word small few a b = decimal_injective m n small few (sym a ∙ b)

-- a number that isn't from 1 to 16 has no word of one that is
pub few-counted : (word : List ℕ) (count : ℕ) (few : Bool) → count < 2 ^ 64 → word ≡ decimal count → (IsTrue few ↔ ((1 ≤ count) × (count ≤ 16))) → false ≡ few
    → (n : ℕ) → 1 ≤ n → n ≤ 16 → word ≡ decimal n → ⊥
few-counted word count few small spelled test fails n low high same =
    let one = one-number count n word small (omega (arith, high)) spelled same in
    let yes : few ≡ true = test.1 (omega (arith, one, low), omega (arith, one, high)) in
    let both : false ≡ true = fails ∙ yes in
    cc both

-- five words are those of `gen`
pub is-five : (a b c d e : List ℕ) (number clients : ℕ) → IsGen (a ∷ b ∷ c ∷ d ∷ e ∷ []) number clients
    → (a ≡ codes "gen") × (b ≡ codes "--number") × (c ≡ decimal number) × (d ≡ codes "--clients") × (e ≡ decimal clients)
is-five a b c d e number clients (small, low, high, same) = (cc same, cc same, cc same, cc same, cc same)

pub five-gen : (a b c d e : List ℕ) → a ≡ codes "gen" → b ≡ codes "--number" → d ≡ codes "--clients" → (r : Option (ℕ × ℕ))
    → MatchOption r ((n k : ℕ) → n < 2 ^ 64 → 1 ≤ k → k ≤ 16 → c ≡ decimal n → e ≡ decimal k → ⊥) (λ both. (both.0 < 2 ^ 64) × (1 ≤ both.1) × (both.1 ≤ 16) × (c ≡ decimal both.0) × (e ≡ decimal both.1))
    → MatchOption r (¬ IsGenOfSome (a ∷ b ∷ c ∷ d ∷ e ∷ [])) (λ both. IsGen (a ∷ b ∷ c ∷ d ∷ e ∷ []) both.0 both.1)
five-gen a b c d e x y z None told = λ (number, clients, is). let t = is-five a b c d e number clients is in told number clients is.0 is.1 is.2 t.2 t.4
five-gen a b c d e x y z (Some both) told = (told.0, told.1, told.2, λ i. x i ∷ y i ∷ told.3 i ∷ z i ∷ told.4 i ∷ [])

-- the words of two commands are others
pub gen-once : (words : List (List ℕ)) (m j n k : ℕ) → IsGen words m j → IsGen words n k → (m ≡ n) × (j ≡ k)
gen-once words m j n k (small, low, high, same) (small', low', high', same') =
    let both : codes "gen" ∷ codes "--number" ∷ decimal m ∷ codes "--clients" ∷ decimal j ∷ [] ≡ codes "gen" ∷ codes "--number" ∷ decimal n ∷ codes "--clients" ∷ decimal k ∷ [] = sym same ∙ same' in
    (decimal_injective m n small small' (cc both), decimal_injective j k (omega (arith, high)) (omega (arith, high')) (cc both))

pub run-no-gen : (words : List (List ℕ)) (n k : ℕ) → IsRun words → IsGen words n k → ⊥
run-no-gen words n k (inl e) (small, low, high, same) = let both : 1 ≡ 5 = ap (λ (ws : List (List ℕ)). length ws) (sym e ∙ same) in absurd (omega (arith, both))
run-no-gen words n k (inr (m, a, b, e)) (small, low, high, same) = let both : 3 ≡ 5 = ap (λ (ws : List (List ℕ)). length ws) (sym e ∙ same) in absurd (omega (arith, both))

pub check-no-gen : (words : List (List ℕ)) (n k : ℕ) → IsCheck words → IsGen words n k → ⊥
check-no-gen words n k e (small, low, high, same) = let both : 1 ≡ 5 = ap (λ (ws : List (List ℕ)). length ws) (sym e ∙ same) in absurd (omega (arith, both))

pub origins-no-gen : (words : List (List ℕ)) (n k : ℕ) → IsOrigins words → IsGen words n k → ⊥
origins-no-gen words n k e (small, low, high, same) = let both : 1 ≡ 5 = ap (λ (ws : List (List ℕ)). length ws) (sym e ∙ same) in absurd (omega (arith, both))

pub upgrade-no-gen : (words : List (List ℕ)) (n k : ℕ) → IsUpgrade words → IsGen words n k → ⊥
upgrade-no-gen words n k e (small, low, high, same) = let both : 1 ≡ 5 = ap (λ (ws : List (List ℕ)). length ws) (sym e ∙ same) in absurd (omega (arith, both))
