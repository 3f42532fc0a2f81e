-- Words are the sets of clients.
use Rattle.std.proofs.Common.{◌≡◌, ◌↔◌, ◌⊎◌, inl, inr, ⊎_elim, ℕ, zero, suc, ◌+◌, ◌<◌, ◌≤◌, ◌||◌, true, false, List, [], ◌∷◌, sym, ap, ◌∙◌, arith}
use Rattle.std.proofs.lemmas.Bool.{cases_lt, or_left, or_right}
use Rattle.vg_laws.proofs.Bools.{either-true}
use Rattle.vg_client_holds.specs.declared.setup.Setup.{Setup}
use Rattle.vg_machine.specs.Entries.{Entry}
use Rattle.vg_painted.specs.Clients.{clients}
use Rattle.vg_painted.specs.Inks.{tags}
use Rattle.vg_painted.specs.Paint.{painting}
use Rattle.vg_painted.specs.Painted.{AreRelated}
use Rattle.vg_painted.proofs.ClientLemmas.{sets-agree}
use Rattle.vg_painted.proofs.RelatedLemmas.{AreBy, AreLike, painting-related}
use Rattle.vg_drawn.specs.Sets.{AreNumbered, AreTagsBelow, IsWordOf}
use Rattle.vg_drawn.specs.Words.{has_client, union_below, words}
use Rattle.vg_drawn.proofs.WordLemmas.{has-none, has-one, has-or}

abbrev IsNumbered : ℕ → ℕ → Type 0
IsNumbered entry client = 1 ≤ client

by-numbers : (n : ℕ) (H : List Entry) → AreNumbered H → AreBy IsNumbered n H
by-numbers n [] all = tt
by-numbers n (entry ∷ more) all = (all zero entry (omega arith), by-numbers (n + 1) more (λ k d within. all (suc k) d (omega (arith, within))))

words-like : AreLike IsNumbered IsWordOf IsWordOf words clients
words-like = record {
  blank = has-none;
  opaque = has-none;
  stored = λ entry client page byte by one. has-one client one by;
  fetched = λ entry word set is. is;
  shown = λ entry word set is. is;
  plain = λ word set is. is;
  blended = λ x y x1 y1 x2 y2 are first second client. has-or x _ client ∙ (λ i. are client i || (has-or x1 x2 client ∙ (λ j. first client j || second client j)) i);
  solid = has-none;
}

pub words-agree : (setup : Setup) (H : List Entry) → AreNumbered H → AreRelated IsWordOf IsWordOf (painting words setup H) (painting clients setup H)
words-agree setup H all = painting-related IsNumbered IsWordOf IsWordOf words clients words-like setup H (by-numbers 0 H all)

-- ---- all places of a frame

none-true : (client : ℕ) → has_client 0 client ≡ true → ⊥
none-true client is = apart (sym is ∙ has-none client)
  where
    apart : true ≡ false → ⊥
    apart eq = cc

-- a client of some place
Somewhere : (ℕ → ℕ) → ℕ → ℕ → Type 0
Somewhere at n client = (place : ℕ) × (place < n) × (has_client (at place) client ≡ true)

one-of : (at : ℕ → ℕ) (n client : ℕ) → has_client (union_below at n) client ≡ true → Somewhere at n client
unfolding Somewhere
one-of at zero client is = absurd (none-true client is)
one-of at (suc n) client is =
    ⊎_elim (λ before. let found = one-of at n client before in (found.0, omega (arith, found.1), found.2))
    (λ here. (n, omega arith, here))
    (either-true (has_client (union_below at n) client) (has_client (at n) client) (sym (has-or (union_below at n) (at n) client) ∙ is))

is-one : (at : ℕ → ℕ) (n client place : ℕ) → place < n → has_client (at place) client ≡ true → has_client (union_below at n) client ≡ true
is-one at zero client place within is = absurd (omega (arith, within))
is-one at (suc n) client place within is =
    has-or (union_below at n) (at n) client
    ∙ go (λ before. is-one at n client place before is) (last place n within)
  where
    last : (place n : ℕ) → place < suc n → (place < n) ⊎ (place ≡ n)
    last place n within = elim (cases_lt place n) [ inl before ↦ inl before | inr past ↦ inr (omega (arith, within, past)) ]

    go : (place < n → has_client (union_below at n) client ≡ true) → (place < n) ⊎ (place ≡ n) → (has_client (union_below at n) client || has_client (at n) client) ≡ true
    go rest (inl before) = or_left (has_client (union_below at n) client) (has_client (at n) client) (rest before)
    go rest (inr here) = or_right (has_client (union_below at n) client) (has_client (at n) client) (ap (λ k. has_client (at k) client) (sym here) ∙ is)

pub frames-agree : (setup : Setup) (H : List Entry) (n count client : ℕ) → AreNumbered H
    → has_client (union_below ((painting words setup H).frames n) count) client ≡ true ↔ AreTagsBelow H client ((painting tags setup H).frames n) count
unfolding Somewhere
frames-agree setup H n count client all =
    let at = (painting words setup H).frames n in
    let same = (words-agree setup H all).frames n in
    let of = (sets-agree setup H).frames n in (
      (λ is. let found = one-of at count client is in (found.0, found.1, (of found.0 client).0 (sym (same found.0 client) ∙ found.2))),
      (λ some. is-one at count client some.0 some.1 (same some.0 client ∙ (of some.0 client).1 some.2)),
    )
