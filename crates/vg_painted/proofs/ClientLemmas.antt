-- The set of clients at a place has exactly the clients of the entries of the tags there.
use Rattle.std.proofs.Common.{◌≡◌, ◌↔◌, ◌⊎◌, inl, inr, ⊎_elim, ℕ, ◌+◌, ◌==◌, ◌||◌, true, List, [], ◌∷◌, ◌++◌, length, Option, Some, slice_get, refl, sym, ap, subst, ◌∙◌, arith, eq-eqb, append_assoc}
use Rattle.std.proofs.lemmas.Bool.Decides.{nat_tests}
use Rattle.vg_laws.proofs.Bools.{left-true, right-true, either-true, clash}
use Rattle.vg_client_holds.specs.declared.setup.Setup.{Setup}
use Rattle.vg_machine.specs.Entries.{Entry}
use Rattle.vg_machine.specs.Order.{client_of}
use Rattle.vg_painted.specs.Inks.{Tag, Zero, Opaque, From, tags}
use Rattle.vg_painted.specs.Clients.{AreTagsOf, Clients, IsEntryOf, IsTagOf, clients, in_either}
use Rattle.vg_painted.specs.Paint.{painting}
use Rattle.vg_painted.specs.Painted.{AreRelated}
use Rattle.vg_painted.proofs.RelatedLemmas.{AreBy, AreLike, painting-related}

-- ---- entries by their numbers

behind : (front more : List Entry) (entry : Entry) → slice_get (front ++ (entry ∷ more)) (length front) ≡ Some entry
behind [] more entry = refl
behind (x ∷ front) more entry = behind front more entry

entries-by : (H front rest : List Entry) → H ≡ front ++ rest → AreBy (λ n client. IsEntryOf H client n) (length front) rest
entries-by H front [] is = tt
entries-by H front (entry ∷ more) is =
    let next : H ≡ (front ++ entry ∷ []) ++ more = is ∙ (simp append_assoc) in
    let long : length (front ++ entry ∷ []) ≡ length front + 1 = longer front entry in (
      (length front, entry, refl, ap (λ (es : List Entry). slice_get es (length front)) is ∙ behind front more entry, refl),
      subst (λ (n : ℕ). AreBy (λ n client. IsEntryOf H client n) n more) long (entries-by H (front ++ entry ∷ []) more next),
    )
  where
    longer : (xs : List Entry) (x : Entry) → length (xs ++ x ∷ []) ≡ length xs + 1
    longer [] x = refl
    longer (y ∷ xs) x = let rest = longer xs x in omega (arith, rest)

one-client : (H : List Entry) (client other n : ℕ) → IsEntryOf H client n → IsEntryOf H other n → client ≡ other
one-client H client other n (before, entry, is, there, of) (before', entry', is', there', of') =
    let same : before ≡ before' = omega (arith, is, is') in
    let found : ◌≡◌ {A = Option Entry} (Some entry) (Some entry') = sym there ∙ ap (slice_get H) same ∙ there' in
    let one : entry ≡ entry' = some-same found in
    sym of ∙ ap client_of one ∙ of'
  where
    some-same : {x y : Entry} → ◌≡◌ {A = Option Entry} (Some x) (Some y) → x ≡ y
    some-same eq = cc

-- ---- sets and tags

abbrev Same : List Entry → Clients → Tag → Type 0
Same H set tag = (client : ℕ) → set client ≡ true ↔ IsTagOf H client tag

abbrev SameAll : List Entry → Clients → List Tag → Type 0
SameAll H set some = (client : ℕ) → set client ≡ true ↔ AreTagsOf H client some

stored-same : (H : List Entry) (entry client page byte : ℕ) → IsEntryOf H client entry → Same H (λ one. one == client) (From entry page 0 0)
stored-same H entry client page byte by one = (
  (λ is. let same : client ≡ one = grind (arith, nat_tests) in subst (λ (c : ℕ). IsEntryOf H c entry) same by),
  (λ of. eq-eqb one client (one-client H one client entry of by)),
)

fetched-same : (H : List Entry) (set : Clients) (tag : Tag) (entry : ℕ) → Same H set tag → Same H set (tags.fetched entry tag)
fetched-same H set Zero entry are = are
fetched-same H set Opaque entry are = are
fetched-same H set (From store page fetch show) entry are = are

shown-same : (H : List Entry) (set : Clients) (tag : Tag) (entry : ℕ) → Same H set tag → Same H set (tags.shown entry tag)
shown-same H set Zero entry are = are
shown-same H set Opaque entry are = are
shown-same H set (From store page fetch show) entry are = are

no-tags : (H : List Entry) (client : ℕ) → AreTagsOf H client (Opaque ∷ []) → ⊥
no-tags H client (tag, inl is, of) = subst (IsTagOf H client) (sym is) of
no-tags H client (tag, inr has, of) = has

of-one : (H : List Entry) (client : ℕ) (tag : Tag) → AreTagsOf H client (tag ∷ []) → IsTagOf H client tag
of-one H client tag (one, inl is, of) = subst (IsTagOf H client) (sym is) of
of-one H client tag (one, inr has, of) = absurd has

of-three : (H : List Entry) (client : ℕ) (x y z : Tag) → AreTagsOf H client (x ∷ y ∷ z ∷ []) → (IsTagOf H client x) ⊎ ((IsTagOf H client y) ⊎ (IsTagOf H client z))
of-three H client x y z (tag, inl is, of) = inl (subst (IsTagOf H client) (sym is) of)
of-three H client x y z (tag, inr (inl is), of) = inr (inl (subst (IsTagOf H client) (sym is) of))
of-three H client x y z (tag, inr (inr (inl is)), of) = inr (inr (subst (IsTagOf H client) (sym is) of))
of-three H client x y z (tag, inr (inr (inr has)), of) = absurd has

blended-same : (H : List Entry) (a b c : Clients) (x y z : Tag) → Same H a x → Same H b y → Same H c z → SameAll H (in_either a (in_either b c)) (x ∷ y ∷ z ∷ [])
blended-same H a b c x y z first second third client = (
  (λ is. ⊎_elim (λ l. (x, inl refl, (first client).0 l))
      (λ r. ⊎_elim (λ l. (y, inr (inl refl), (second client).0 l)) (λ last. (z, inr (inr (inl refl)), (third client).0 last)) (either-true (b client) (c client) r))
      (either-true (a client) (b client || c client) is)),
  (λ some. ⊎_elim (λ l. left-true (a client) (b client || c client) ((first client).1 l))
      (λ r. right-true (a client) (b client || c client)
      (⊎_elim (λ l. left-true (b client) (c client) ((second client).1 l)) (λ last. right-true (b client) (c client) ((third client).1 last)) r))
      (of-three H client x y z some)),
)

sets-like : (H : List Entry) → AreLike (λ n client. IsEntryOf H client n) (Same H) (SameAll H) clients tags
sets-like H = record {
  blank = λ client. (clash, absurd);
  opaque = λ client. (clash, absurd);
  stored = λ entry client page byte by. stored-same H entry client page byte by;
  fetched = λ entry x y are. fetched-same H x y entry are;
  shown = λ entry x y are. shown-same H x y entry are;
  plain = λ x y are client. ((λ is. (y, inl refl, (are client).0 is)), (λ some. (are client).1 (of-one H client y some)));
  blended = λ x y x1 y1 x2 y2 are first second. blended-same H x x1 x2 y y1 y2 are first second;
  solid = λ client. ((λ is. absurd (clash is)), (λ some. absurd (no-tags H client some)));
}

pub sets-agree : (setup : Setup) (H : List Entry) → AreRelated (Same H) (SameAll H) (painting clients setup H) (painting tags setup H)
sets-agree setup H = painting-related (λ n client. IsEntryOf H client n) (Same H) (SameAll H) clients tags (sets-like H) setup H (entries-by H [] H refl)
