-- A client that has the buffer of a resource to which its scanout is bound goes on to have it, whatever act is done.
use Rattle.std.proofs.Common.{◌≡◌, ◌≤◌, ◌<◌, ℕ, zero, suc, ◌+◌, ◌==◌, ◌||◌, ◌&&◌, not, Bool, true, false, cond, List, [], ◌∷◌, length, Option, Some, None, refl, ap, sym, subst, ◌∙◌, arith}
use mathlib.Core.Logic.{dite}
use native.Mathlib.Decide.{ℕ_discrete}
use Rattle.std.specs.Prelude.{is_some}
use Rattle.std.specs.List.{find, range_with_len}
use Rattle.std.proofs.lemmas.Bool.Decides.{nat_tests}
use Rattle.vg_laws.proofs.Bools.{not-both}
use Rattle.vg_refusals.specs.Refusals.{refusal_of}
use Rattle.vg_share.specs.declared.share.Buffer.{Buffer}
use Rattle.vg_share.specs.declared.share.ShareRefusal.TheVariants.{InUse, NotHeld}
use Rattle.vg_share.specs.Share.{ShareState, buffer_at, holds_in, holds_once, imported, imported_buffer, is_given, is_holder, is_leased, new_pages, refused_by, release_refusal, released, released_buffer, scanout_in, token_key, with_hold, without_hold}
use Rattle.vg_scanout.specs.Scanout.{binding_at}
use Rattle.vg_device.specs.ActStep.{is_shown_on, shown_at, shows_key}
use Rattle.vg_device.specs.State.{State, has_resource}
use Rattle.vg_linked.proofs.FitLemmas.{none-first, none-rest}
use Rattle.vg_linked.proofs.HeldLemmas.{ShareStands, freed-other, held-untaken, holder-counts, imported-found, imported-other, may-free, may-import, may-release, new-other, next-none, released-found, released-other}
use Rattle.vg_linked.proofs.HolderLemmas.{holds-less, holds-more, other-less, other-more}
use Rattle.vg_linked.proofs.MoveLemmas.{ActMoves}
use Rattle.vg_origin.specs.Shown.{keeps_buffer}
use Rattle.vg_origin.proofs.BindLemmas.{Bound}
use Rattle.vg_origin.proofs.MayLemmas.{holder-by}

-- the scanout is bound to the resource, and leased to a client that has its buffer
pub record Had (client scanout key : ℕ) (s : State) : Type 0 where
  pub stand : ShareStands s.share
  pub there : has_resource s key ≡ true
  pub within : scanout < length s.setup.displays
  pub shows : Bound scanout key s
  pub leased : is_leased client scanout s.share ≡ true
  pub keeps : keeps_buffer client (buffer_at key s.share) ≡ true

abbrev pub Keeps : ℕ → ℕ → State → Type 0
Keeps client key s = keeps_buffer client (buffer_at key s.share) ≡ true

no-buffer : {P : Type 0} (client : ℕ) (found : Option Buffer) → found ≡ None → keeps_buffer client found ≡ true → P
no-buffer client None none keeps = cc
no-buffer client (Some buffer) none keeps = cc

or-weaker : (a now b : Bool) → (a ≡ true → now ≡ true) → (a || b) ≡ true → (now || b) ≡ true
or-weaker true now b weaker is = ap (λ c. c || b) (weaker refl)
or-weaker false true b weaker is = refl
or-weaker false false b weaker is = is

-- ---- a scanout that shows the buffer is found

shown-found : (p : ℕ → Bool) (first count n : ℕ) → first ≤ n → n < first + count → p n ≡ true → is_some (find p (range_with_len first count)) ≡ true
shown-found p first zero n low high is = absurd (omega (arith, low, high))
shown-found p first (suc count) n low high is = by (p first) refl (λ more. shown-found p (first + 1) count n more (omega (arith, high)) is)
  where
    by : (b : Bool) → p first ≡ b → (first + 1 ≤ n → is_some (find p (range_with_len (first + 1) count)) ≡ true) → is_some (cond b (Some first) (find p (range_with_len (first + 1) count))) ≡ true
    by true here rest = refl
    by false here rest = rest (dite (ℕ_discrete first n)
        (λ same. not-both (p first) (ap p same ∙ is) here)
        (λ apart. grind (arith, nat_tests, low, apart)))

shown-some : (client scanout key : ℕ) (s : State) → Had client scanout key s → is_some (shown_at client key s) ≡ true
shown-some client scanout key s had =
    shown-found (is_shown_on client key s) 0 (length s.setup.displays) scanout (omega arith) (omega (arith, had.within)) (ap (λ b. b && shows_key key (binding_at scanout s.scanouts)) had.leased ∙ had.shows)

-- ---- a release

unused : (client key : ℕ) (shown : Option ℕ) (share : ShareState) (buffer : Buffer) → buffer_at key share ≡ Some buffer → release_refusal client key shown share ≡ None
    → (holds_once client buffer && is_some shown) ≡ false
unused client key shown share buffer found none =
    let rest : refusal_of ((not (is_holder client buffer), NotHeld) ∷ (holds_once client buffer && is_some shown, InUse (scanout_in shown)) ∷ []) ≡ None =
    sym (ap (λ (o : Option Buffer). refused_by o (λ buffer. refusal_of (
    (not (is_holder client buffer), NotHeld)
    ∷ (holds_once client buffer && is_some shown, InUse (scanout_in shown))
    ∷ []))) found) ∙ none
    in
    none-first (holds_once client buffer && is_some shown) (InUse (scanout_in shown)) []
    (none-rest (not (is_holder client buffer)) NotHeld ((holds_once client buffer && is_some shown, InUse (scanout_in shown)) ∷ []) rest)

first-of : (a b : Bool) → (a && b) ≡ false → b ≡ true → a ≡ false
first-of true b is some = not-both b some is
first-of false b is some = refl

held-of : (client : ℕ) (buffer : Buffer) → buffer.taker ≡ None → keeps_buffer client (Some buffer) ≡ true → is_holder client buffer ≡ true
held-of client buffer none keeps = by (is_holder client buffer) (sym (ap (λ o. is_holder client buffer || is_given client o) none) ∙ keeps)
  where
    by : (b : Bool) → (b || false) ≡ true → b ≡ true
    by true is = refl
    by false is = is

still-holder : (client actor : ℕ) (holders : List (ℕ × ℕ)) → 1 ≤ holds_in client holders → (actor ≡ client → (holds_in actor holders == 1) ≡ false)
    → 1 ≤ holds_in client (without_hold actor holders)
still-holder client actor holders held more = dite (ℕ_discrete actor client)
    (λ same.
    let again : 1 ≤ holds_in actor holders = subst (λ n. 1 ≤ holds_in n holders) (sym same) held in
    let several : (holds_in actor holders == 1) ≡ false = more same in
    let two : 2 ≤ holds_in actor holders = grind (arith, nat_tests, again, several) in
    subst (λ n. 1 ≤ holds_in n (without_hold actor holders)) same (omega (arith, holds-less actor holders, two)))
    (λ apart. omega (arith, other-less client actor holders apart, held))

holder-more : (client actor : ℕ) (holders : List (ℕ × ℕ)) → 1 ≤ holds_in client holders → 1 ≤ holds_in client (with_hold actor holders)
holder-more client actor holders held = dite (ℕ_discrete actor client)
    (λ same. subst (λ n. 1 ≤ holds_in n (with_hold actor holders)) same (omega (arith, holds-more actor holders)))
    (λ apart. omega (arith, other-more client actor holders apart, held))

released-keeps : (client scanout key actor : ℕ) (s : State) → release_refusal actor key (shown_at actor key s) s.share ≡ None → Had client scanout key s
    → keeps_buffer client (buffer_at key (released actor key s.share)) ≡ true
released-keeps client scanout key actor s none had =
    let is = may-release actor key (shown_at actor key s) s.share none in
    let buffer = is.buffer in
    let holder = held-of client buffer (held-untaken actor key s.share had.stand is) (sym (ap (keeps_buffer client) is.found) ∙ had.keeps) in
    let some = still-holder client actor buffer.holders (holder-counts client buffer holder) (λ same.
    first-of (holds_once actor buffer) (is_some (shown_at actor key s)) (unused actor key (shown_at actor key s) s.share buffer is.found none)
    (ap (λ n. is_some (shown_at n key s)) same ∙ shown-some client scanout key s had))
    in
    let now : is_holder client (released_buffer actor buffer) ≡ true = holder-by client (without_hold actor buffer.holders) some in
    ap (keeps_buffer client) (released-found actor key s.share buffer is.found) ∙ ap (λ b. b || is_given client (released_buffer actor buffer).taker) now

-- ---- acts

pub keep_acts : (client scanout key : ℕ) → ActMoves (Had client scanout key) (Keeps client key)
keep_acts client scanout key = record {
  stay = λ s had. had.keeps;
  reserve = λ s actor geometry none had.
      ap (keeps_buffer client) (new-other actor geometry (new_pages geometry.bytes s.memory) s.share key
      (λ same. no-buffer client (buffer_at key s.share) (ap (λ n. buffer_at n s.share) same ∙ next-none s.share had.stand) had.keeps))
      ∙ had.keeps;
  store = λ s actor at offset bytes times none had. had.keeps;
  export = λ s at had. had.keeps;
  import = λ s actor token none had.
      let at = token_key token s.share in
      let is = may-import token s.share none in
      let buffer = is.buffer in
      dite (ℕ_discrete key at)
      (λ same.
      let was : keeps_buffer client (Some buffer) ≡ true = sym (ap (λ n. keeps_buffer client (buffer_at n s.share)) same ∙ ap (keeps_buffer client) is.found) ∙ had.keeps in
      let now : keeps_buffer client (Some (imported_buffer actor buffer)) ≡ true =
      or-weaker (is_holder client buffer) (is_holder client (imported_buffer actor buffer)) (is_given client buffer.taker)
      (λ held. holder-by client (with_hold actor buffer.holders) (holder-more client actor buffer.holders (holder-counts client buffer held))) was
      in
      ap (λ n. keeps_buffer client (buffer_at n (imported actor at s.share))) same ∙ ap (keeps_buffer client) (imported-found actor at s.share buffer is.found) ∙ now)
      (λ apart. ap (keeps_buffer client) (imported-other actor at s.share key apart) ∙ had.keeps);
  release = λ s actor at none had. dite (ℕ_discrete key at)
      (λ same. subst (λ n. keeps_buffer client (buffer_at key (released actor n s.share)) ≡ true) same
      (released-keeps client scanout key actor s (subst (λ n. release_refusal actor n (shown_at actor n s) s.share ≡ None) (sym same) none) had))
      (λ apart. ap (keeps_buffer client) (released-other actor at s.share key apart) ∙ had.keeps);
  free = λ s actor at none had.
      let is = may-free actor at (has_resource s at) s.share none in
      ap (keeps_buffer client) (freed-other at s.share key (λ same. not-both (has_resource s key) had.there (ap (has_resource s) same ∙ is.dead))) ∙ had.keeps;
  take = λ s actor at none had. had.keeps;
  drop = λ s actor at none had. had.keeps;
  plug = λ s plugs many had. had.keeps;
  leave = λ s actor had. had.keeps;
}
