-- A client's holds stand in the place of the first pair that has its number.
use Rattle.std.proofs.Common.{◌≡◌, ◌<◌, ◌≤◌, ℕ, suc, ◌+◌, ◌-◌, ◌==◌, not, Bool, true, false, cond, List, [], ◌∷◌, ◌++◌, length, get_or, take, drop, Option, Some, None, refl, ap, sym, subst, ◌∙◌, arith}
use Rattle.std.specs.Prelude.{nat_lt}
use Rattle.std.specs.List.{position, position_or_len, slice_set}
use Rattle.std.proofs.lemmas.Bool.Decides.{nat_tests}
use Rattle.std.proofs.lemmas.List.{append-nil, drop_all, length-set, take_all}
use Rattle.vg_share.specs.Share.{holds_in, with_hold, without_hold}

abbrev pub is_of : ℕ → ℕ × ℕ → Bool
is_of client holder = holder.0 == client

abbrev place : ℕ → List (ℕ × ℕ) → ℕ
place client holders = position_or_len (is_of client) holders

-- where the first of a list and more isn't it
next : (client : ℕ) (holders : List (ℕ × ℕ)) → 1 + place client holders ≡ suc (place client holders)
next client holders = omega arith

-- ---- one that stands there

pub record IsThere (client : ℕ) (holders : List (ℕ × ℕ)) (d : ℕ × ℕ) (at : ℕ) : Type 0 where
  pub holds : (get_or holders at d).1 ≡ holds_in client holders
  pub more : slice_set holders at (client, (get_or holders at d).1 + 1) ≡ with_hold client holders
  pub less : slice_set holders at (client, (get_or holders at d).1 - 1) ≡ without_hold client holders

there : (client : ℕ) (holders : List (ℕ × ℕ)) (d : ℕ × ℕ) → place client holders < length holders → IsThere client holders d (place client holders)
there client [] d within = absurd (omega (arith, within))
there client (holder ∷ holders) d within = by (holder.0 == client) refl within (there client holders d)
  where
    by : (b : Bool) → (holder.0 == client) ≡ b → place client (holder ∷ holders) < length (holder ∷ holders)
        → (place client holders < length holders → IsThere client holders d (place client holders))
        → IsThere client (holder ∷ holders) d (place client (holder ∷ holders))
    by true is within rest =
        let at : place client (holder ∷ holders) ≡ 0 = ap (λ b. cond (not b) (1 + place client holders) 0) is in
        record {
          holds = ap (λ i. (get_or (holder ∷ holders) i d).1) at ∙ sym (ap (λ b. cond b holder.1 (holds_in client holders)) is);
          more = ap (λ i. slice_set (holder ∷ holders) i (client, (get_or (holder ∷ holders) i d).1 + 1)) at
              ∙ sym (ap (λ b. cond b ((client, holder.1 + 1) ∷ holders) (holder ∷ with_hold client holders)) is);
          less = ap (λ i. slice_set (holder ∷ holders) i (client, (get_or (holder ∷ holders) i d).1 - 1)) at
              ∙ sym (ap (λ b. cond b ((client, holder.1 - 1) ∷ holders) (holder ∷ without_hold client holders)) is);
        }
    by false is within rest =
        let at : place client (holder ∷ holders) ≡ suc (place client holders) = ap (λ b. cond (not b) (1 + place client holders) 0) is ∙ next client holders in
        let was = rest (omega (arith, at, within)) in
        record {
          holds = ap (λ i. (get_or (holder ∷ holders) i d).1) at ∙ was.holds ∙ sym (ap (λ b. cond b holder.1 (holds_in client holders)) is);
          more = ap (λ i. slice_set (holder ∷ holders) i (client, (get_or (holder ∷ holders) i d).1 + 1)) at ∙ ap (λ more. holder ∷ more) was.more
              ∙ sym (ap (λ b. cond b ((client, holder.1 + 1) ∷ holders) (holder ∷ with_hold client holders)) is);
          less = ap (λ i. slice_set (holder ∷ holders) i (client, (get_or (holder ∷ holders) i d).1 - 1)) at ∙ ap (λ more. holder ∷ more) was.less
              ∙ sym (ap (λ b. cond b ((client, holder.1 - 1) ∷ holders) (holder ∷ without_hold client holders)) is);
        }

-- ---- none stands there

pub record IsAway (client : ℕ) (holders : List (ℕ × ℕ)) : Type 0 where
  pub holds : 0 ≡ holds_in client holders
  pub more : holders ++ (client, 1) ∷ [] ≡ with_hold client holders
  pub less : holders ≡ without_hold client holders

away : (client : ℕ) (holders : List (ℕ × ℕ)) → length holders ≤ place client holders → IsAway client holders
away client [] past = record { holds = refl; more = refl; less = refl }
away client (holder ∷ holders) past = by (holder.0 == client) refl past (away client holders)
  where
    by : (b : Bool) → (holder.0 == client) ≡ b → length (holder ∷ holders) ≤ place client (holder ∷ holders)
        → (length holders ≤ place client holders → IsAway client holders) → IsAway client (holder ∷ holders)
    by true is past rest =
        let at : place client (holder ∷ holders) ≡ 0 = ap (λ b. cond (not b) (1 + place client holders) 0) is in
        absurd (omega (arith, at, past))
    by false is past rest =
        let at : place client (holder ∷ holders) ≡ suc (place client holders) = ap (λ b. cond (not b) (1 + place client holders) 0) is ∙ next client holders in
        let was = rest (omega (arith, at, past)) in
        record {
          holds = was.holds ∙ sym (ap (λ b. cond b holder.1 (holds_in client holders)) is);
          more = ap (λ more. holder ∷ more) was.more ∙ sym (ap (λ b. cond b ((client, holder.1 + 1) ∷ holders) (holder ∷ with_hold client holders)) is);
          less = ap (λ more. holder ∷ more) was.less ∙ sym (ap (λ b. cond b ((client, holder.1 - 1) ∷ holders) (holder ∷ without_hold client holders)) is);
        }

-- ---- by what `position` tells

some-some : (n m : ℕ) → ◌≡◌ {A = Option ℕ} (Some n) (Some m) → n ≡ m
some-some n m is = cc

there-by : (client : ℕ) (holders : List (ℕ × ℕ)) (d : ℕ × ℕ) (at : ℕ) (b : Bool) → nat_lt (place client holders) (length holders) ≡ b
    → Some at ≡ cond b (Some (place client holders)) None → IsThere client holders d at
there-by client holders d at true inside is =
    let same : at ≡ place client holders = some-some at (place client holders) is in
    let within : place client holders < length holders = grind (arith, nat_tests, inside) in
    subst (IsThere client holders d) (sym same) (there client holders d within)
there-by client holders d at false inside is = cc

pub found : (client : ℕ) (holders : List (ℕ × ℕ)) (d : ℕ × ℕ) (at : ℕ) → Some at ≡ position (is_of client) holders → IsThere client holders d at
found client holders d at is = there-by client holders d at (nat_lt (place client holders) (length holders)) refl is

away-by : (client : ℕ) (holders : List (ℕ × ℕ)) (b : Bool) → nat_lt (place client holders) (length holders) ≡ b
    → None ≡ cond b (Some (place client holders)) None → IsAway client holders
away-by client holders true inside is = cc
away-by client holders false inside is =
    let past : length holders ≤ place client holders = grind (arith, nat_tests, inside) in
    away client holders past

pub missed : (client : ℕ) (holders : List (ℕ × ℕ)) → None ≡ position (is_of client) holders → IsAway client holders
missed client holders is = away-by client holders (nat_lt (place client holders) (length holders)) refl is

-- ---- a list that was lent, and written to in one place

pub written : {X : Type 0} (old lent now : List X) (at : ℕ) (x : X) → lent ≡ old → now ≡ slice_set lent at x → take (length old) (now ++ drop (length now) old) ≡ slice_set old at x
written old lent now at x same is =
    let after : now ≡ slice_set old at x = is ∙ ap (λ xs. slice_set xs at x) same in
    let long : length now ≡ length old = ap length after ∙ length-set old at x in
    let rest : drop (length now) old ≡ [] = drop_all (length now) old (omega (arith, long)) in
    ap (λ ys. take (length old) (now ++ ys)) rest ∙ ap (take (length old)) (append-nil now) ∙ take_all (length old) now (omega (arith, long)) ∙ after
