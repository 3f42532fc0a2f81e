-- Whether all clients have left.
use Rattle.std.proofs.Common.{◌≡◌, ◌≢◌, ◌+◌, ◌-◌, ◌==◌, ℕ, zero, suc, Bool, true, false, List, [], ◌∷◌, inl, inr, length, refl, sym, subst, ◌∙◌, arith}
use Rattle.std.specs.Prelude.{Some}
use Rattle.std.specs.List.{list_all, list_any, slice_get}
use Rattle.std.proofs.lemmas.Bool.{and_from, and_parts, or_cases, or_left, or_right}
use Rattle.std.proofs.lemmas.Option.{slice_get_within}
use Rattle.vg_client_holds.specs.declared.setup.Setup.{Setup}
use Rattle.vg_client_holds.specs.Setup.{parties}
use Rattle.vg_machine.specs.Entries.{Entry}
use Rattle.vg_machine.specs.Order.{is_leave, of_client}
use Rattle.vg_check.specs.declared.checker.Checker.{Checker}
use Rattle.vg_check.specs.declared.seen.Seen.{Seen}
use Rattle.vg_check.specs.Checked.{HasChecked, HasSeen}
use Rattle.vg_check.specs.Right.{HasLeftAll}
use Rattle.vg_check.specs.StepWithin.{is_gone}
use Rattle.vg_check.proofs.ActLemmas.{zero-test}
use Rattle.vg_check.proofs.CheckerLemmas.{its, some-client}
use Rattle.vg_check.proofs.CommandLemmas.{not-zero}
use Rattle.vg_check.proofs.PlaceLemmas.{get-some}
use Rattle.vg_check.proofs.SeenLemmas.{has-none, none-has}

module _ {X : Type 0} (test : X → Bool) where
  all-place : (xs : List X) (k : ℕ) (x : X) → list_all test xs ≡ true → slice_get xs k ≡ Some x → test x ≡ true
  all-place [] k x all at = let none : ⊥ = cc in absurd none
  all-place (y ∷ ys) zero x all at = let same : y ≡ x = cc in subst (λ z. test z ≡ true) same (and_parts (test y) (list_all test ys) all).0
  all-place (y ∷ ys) (suc k) x all at = all-place ys k x (and_parts (test y) (list_all test ys) all).1 at

  place-all : (xs : List X) → ((k : ℕ) (x : X) → slice_get xs k ≡ Some x → test x ≡ true) → list_all test xs ≡ true
  place-all [] each = refl
  place-all (y ∷ ys) each = and_from (test y) (list_all test ys) (each zero y refl) (place-all ys (λ k x at. each (suc k) x at))

gone-left : (setup : Setup) (client : ℕ) (H : List Entry) (seen : Seen) → HasSeen setup client H seen → is_gone seen ≡ true → of_client client H ≢ [] → list_any is_leave (of_client client H) ≡ true
gone-left setup client H seen is gone some = elim (or_cases seen.left (seen.numbers.top == 0) gone) [
  | inl left ↦ sym is.left ∙ left
  | inr none ↦ absurd (some (has-none setup client H seen is (zero-test seen.numbers.top none)))
]

left-gone : (setup : Setup) (client : ℕ) (H : List Entry) (seen : Seen) → HasSeen setup client H seen → (of_client client H ≢ [] → list_any is_leave (of_client client H) ≡ true) → is_gone seen ≡ true
left-gone setup client H seen is left = by_test (seen.numbers.top == 0) refl
  where
    by_test : (b : Bool) → (seen.numbers.top == 0) ≡ b → is_gone seen ≡ true
    by_test true e = or_right seen.left (seen.numbers.top == 0) e
    by_test false e = or_left seen.left (seen.numbers.top == 0) (is.left ∙ left (λ none. not-zero seen.numbers.top e (none-has setup client H seen is none)))

pub all-left : (setup : Setup) (H : List Entry) (checker : Checker) → HasChecked setup H checker → list_all is_gone checker.clients.items ≡ true → HasLeftAll (parties setup.clients setup.host) H
all-left setup H checker is all client some most entered =
    let at = get-some checker.clients.items (client - 1) (some-client client (parties setup.clients setup.host) (length checker.clients.items) some most is.clients) in
    gone-left setup client H at.0 (its setup H checker client at.0 is some at.1) (all-place is_gone checker.clients.items (client - 1) at.0 all at.1) entered

pub left-all : (setup : Setup) (H : List Entry) (checker : Checker) → HasChecked setup H checker → HasLeftAll (parties setup.clients setup.host) H → list_all is_gone checker.clients.items ≡ true
left-all setup H checker is all = place-all is_gone checker.clients.items
    (λ k seen at. let within = slice_get_within checker.clients.items k seen at in
    let clients = is.clients in
    left-gone setup (k + 1) H seen (is.seen k seen at) (all (k + 1) (omega arith) (omega (arith, within, clients))))
