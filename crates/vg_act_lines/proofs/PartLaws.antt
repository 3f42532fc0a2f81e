-- What the parts of a reader say.
use Rattle.std.proofs.Common.{◌≡◌, ℕ, ◌+◌, ◌^◌, ◌&&◌, Bool, true, List, [], ◌∷◌, ◌++◌, map, decimal, bytes_eq, Option, Some, None, option_map, option_and_then, arith, refl, sym, ap, subst, append-nil}
use Rattle.std.proofs.lemmas.Bool.{and_from}
use Rattle.std.specs.List.{All, join_with_byte}
use Rattle.vg_laws.proofs.Lists.{same_bytes}
use Rattle.vg_laws.proofs.Options.{some_is}
use Rattle.vg_text.specs.Text.{numbered}
use Rattle.vg_journal_words.specs.Text.{comma_text, pages_text}
use Rattle.vg_line_words.specs.Words.{is_plain, numbers_text, parts_at}
use Rattle.vg_line_words.proofs.NumberLaws.{number_back, number_only, number_range, plain_decimal}
use Rattle.vg_line_words.proofs.PlainLemmas.{plain_parts}
use Rattle.vg_act_lines.specs.Ranges.{IsShort}
use Rattle.vg_act_lines.specs.Read.{alone, both, one_number, short, two}

pub alone_only : {X : Type 0} (x a : X) (args : List (List ℕ)) → alone x args ≡ Some a → (args ≡ []) × (x ≡ a)
alone_only x a [] is = (refl, some_is x a is)
alone_only x a (arg ∷ args) is = absurd cc

pub both_parts : {X Y : Type 0} (o : Option X) (p : Option Y) (z : X × Y) → both o p ≡ Some z → (o ≡ Some z.0) × (p ≡ Some z.1)
both_parts None p z is = absurd cc
both_parts (Some x) None z is = absurd cc
both_parts (Some x) (Some y) z is = let same = some_is (x, y) z is in (ap (λ v. Some v.0) same, ap (λ v. Some v.1) same)

pub map_parts : {X Y : Type 0} (f : X → Y) (o : Option X) (y : Y) → option_map f o ≡ Some y → (x : X) × (o ≡ Some x) × (f x ≡ y)
map_parts f None y is = absurd cc
map_parts f (Some x) y is = (x, refl, some_is (f x) y is)

pub then_parts : {X Y : Type 0} (f : X → Option Y) (o : Option X) (y : Y) → option_and_then f o ≡ Some y → (x : X) × (o ≡ Some x) × (f x ≡ Some y)
then_parts f None y is = absurd cc
then_parts f (Some x) y is = (x, refl, is)

pub no_more : {X : Type 0} {P : Type 0} (a : X) → None ≡ Some a → P
no_more a is = absurd cc

-- A first word that is known, with what stands behind it: anything, nothing, or a number.
pub named : {X : Type 0} (P : List (List ℕ) → X → Type 0) (word this : List ℕ) (args : List (List ℕ)) (a : X) → bytes_eq word this ≡ true → P (this ∷ args) a → P (word ∷ args) a
named P word this args a same p = subst (λ v. P (v ∷ args) a) (sym (same_bytes word this same)) p

pub named_alone : {X : Type 0} (P : List (List ℕ) → X → Type 0) (word this : List ℕ) (args : List (List ℕ)) (x a : X) → bytes_eq word this ≡ true → alone x args ≡ Some a → P (this ∷ []) x → P (word ∷ args) a
named_alone P word this args x a same is p =
    let parts = alone_only x a args is in
    named P word this args a same (subst (λ v. P (this ∷ v) a) (sym parts.0) (subst (P (this ∷ [])) parts.1 p))

pub named_number : {X : Type 0} (P : List (List ℕ) → X → Type 0) (word this : List ℕ) (n : ℕ) (x a : X) → bytes_eq word this ≡ true → Some x ≡ Some a → P (this ∷ decimal n ∷ []) x → P (word ∷ decimal n ∷ []) a
named_number P word this n x a same is p = named P word this (decimal n ∷ []) a same (subst (P (this ∷ decimal n ∷ [])) (some_is x a is) p)

-- Numbers.
pub short_back : (n : ℕ) → IsShort n → short (decimal n) ≡ Some n
short_back n small = number_back (2 ^ 32) n small (omega arith)

pub short_only : (word : List ℕ) (n : ℕ) → short word ≡ Some n → (word ≡ decimal n) × IsShort n
short_only word n is = (number_only (2 ^ 32) n word (omega arith) is, number_range (2 ^ 32) n word is)

pub two_only : (a b : List ℕ) (n : ℕ × ℕ) → two a b ≡ Some n → (a ≡ decimal n.0) × (b ≡ decimal n.1) × IsShort n.0 × IsShort n.1
two_only a b n is =
    let parts = both_parts (short a) (short b) n is in
    let first = short_only a n.0 parts.0 in
    let second = short_only b n.1 parts.1 in
    (first.0, second.0, first.1, second.1)

pub one_only : (args : List (List ℕ)) (n : ℕ) → one_number args ≡ Some n → (args ≡ decimal n ∷ []) × IsShort n
one_only [] n is = absurd cc
one_only (a ∷ []) n is = let read = short_only a n is in (ap (λ w. w ∷ []) read.0, read.1)
one_only (a ∷ b ∷ args) n is = absurd cc

pub two_back : (m n : ℕ) → IsShort m → IsShort n → two (decimal m) (decimal n) ≡ Some (m, n)
two_back m n first second = λ i. both (short_back m first i) (short_back n second i)

pub plain_short : (n : ℕ) → IsShort n → is_plain (decimal n) ≡ true
plain_short n small = plain_decimal n (omega (arith, small))

pub last_plain : (b : Bool) → b ≡ true → (b && true) ≡ true
last_plain b is = and_from b true is refl

-- Plain words of which there is one.
pub line_parts : (words : List (List ℕ)) → (words ≡ [] → ⊥) → All (λ w. is_plain w ≡ true) words → parts_at 32 (join_with_byte 32 words) ≡ words
line_parts [] some are = absurd (some refl)
line_parts (word ∷ words) some are = plain_parts word words are

-- Pages as the journal spells them are numbers with a comma between two.
commas : (n page : ℕ) (more : List ℕ) → decimal page ++ numbered comma_text n more ≡ join_with_byte 44 (map decimal (page ∷ more))
unfolding comma_text
commas n page [] = append-nil (decimal page)
commas n page (next ∷ more) = ap (λ l. decimal page ++ 44 ∷ l) (commas (n + 1) next more)

pub pages_numbers : (pages : List ℕ) → pages_text pages ≡ numbers_text pages
pages_numbers [] = refl
pages_numbers (page ∷ more) = commas 0 page more
