-- The last entry of a history.
use Rattle.std.proofs.Common.{◌≡◌, ◌+◌, refl, ℕ, Bool, cond, List, [], ◌∷◌, ◌++◌, count_by}
use Rattle.std.specs.List.{fold}
use Rattle.vg_machine.specs.Entries.{Entry}
use Rattle.vg_device.specs.State.{State}
use Rattle.vg_machine.specs.Replay.{AgreesFrom, HasReply, after, replay_from}

-- its reply is the machine's there
pub agrees-last : (state : State) (H : List Entry) (entry : Entry) → AgreesFrom state (H ++ entry ∷ []) → HasReply (replay_from state H) entry
agrees-last state [] entry agrees = agrees.0
agrees-last state (first ∷ more) entry agrees = agrees-last (after state first) more entry agrees.1

fold-more : {A B : Type 0} (f : B → A → B) (a : B) (xs : List A) (x : A) → fold f a (xs ++ x ∷ []) ≡ f (fold f a xs) x
fold-more f a [] x = refl
fold-more f a (first ∷ more) x = fold-more f (f a first) more x

-- it is counted, or not
pub count_by-more : (test : Entry → Bool) (H : List Entry) (entry : Entry) → count_by test (H ++ entry ∷ []) ≡ count_by test H + cond (test entry) 1 0
count_by-more test H entry = fold-more (λ (n : ℕ) (e : Entry). n + cond (test e) 1 0) 0 H entry
