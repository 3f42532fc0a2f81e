-- What the device's thread knows of the cargoes that it has answered, one at a time.
use Rattle.std.proofs.Common.{◌≡◌, ℕ, Bool, true, false, List, [], ◌∷◌, ◌++◌, refl, ap, sym, subst, ◌∙◌, inl}
use Rattle.std.specs.Prelude.{All}
use Rattle.std.proofs.lemmas.List.{map-append}
use Rattle.std.proofs.lemmas.List.Elements.{All-append}
use Rattle.std.proofs.lemmas.Bool.{eq-eqb}
use Rattle.vg_laws.proofs.Lists.{all_one}
use Rattle.vg_cargo.specs.declared.entries.Entry.{Entry}
use Rattle.vg_cargo.specs.declared.entries.Answer.{Answer}
use Rattle.vg_cargo.specs.Cargo.{CargoData, ParcelData}
use Rattle.vg_cargo.specs.Entries.{head_of, entries, entry_of, heads, without, answer_with, published_as}
use Rattle.vg_cargo.specs.DeviceEnds.{DeviceLists, Fetches, HasAt, IsCargoOf, completing}
use Rattle.vg_ring_uses.specs.declared.answering.Look.{Look}
use Rattle.vg_ring_uses.specs.declared.answering.Look.TheVariants.{Answered, Unread, Nothing}
use Rattle.vg_ring_uses.specs.Carried.{is_unread, IsAnswered, HasAnswered, HasAnsweredIf, Answers, MayAnswer, Turns}

answered_on : (old new : DeviceLists) → HasAnswered old → Answers old new → HasAnswered new
answered_on old new h a = record {
  in_order = ap entries a.completed ∙ (map-append entry_of old.completed (a.answer ∷ []) ∙ (ap (λ (es : List Entry). es ++ a.answer.entry ∷ []) h.in_order ∙ sym a.fetched));
  answered = subst (λ (as' : List Answer). All IsAnswered as') (sym a.completed) (All-append IsAnswered old.completed (a.answer ∷ []) h.answered (all_one IsAnswered a.answer a.answered));
}

answered_still : (old new : DeviceLists) → HasAnswered old → new.fetched ≡ old.fetched → new.completed ≡ old.completed → HasAnswered new
answered_still old new h fetched completed = record {
  in_order = ap entries completed ∙ (h.in_order ∙ sym fetched);
  answered = subst (λ (as' : List Answer). All IsAnswered as') (sym completed) h.answered;
}

pub answered_more : (old new : DeviceLists) (unread : Bool) (look : Look) → HasAnsweredIf unread old → MayAnswer old new look → HasAnsweredIf (is_unread unread look) new
answered_more old new true Answered h a = tt
answered_more old new true Unread h a = tt
answered_more old new true Nothing h a = tt
answered_more old new false Answered h a = answered_on old new h a
answered_more old new false Unread h a = tt
answered_more old new false Nothing h same = answered_still old new h same.0 same.1

-- a cargo whose response alone has changed is still the entry's
pub settled_of : {P : Type 0} (e : Entry) (old new : CargoData P) (response : List ℕ) → new.parcel ≡ record old.parcel { response = response } → IsCargoOf e old → IsCargoOf e new
settled_of e old new response same of = (ap (λ (p : ParcelData). published_as e.places (record { parcel = p; pass = new.pass })) same ∙ of.0, ap (λ (p : ParcelData). p.head) same ∙ of.1)

module _ {P : Type 0} (wanted : P → Bool) where
  -- the entry that was fetched is held, and the cargo is its own, whatever its response and its pass
  pub fetched_at : (old new : DeviceLists) (head : ℕ) (cargo : CargoData P) (f : Fetches wanted old head cargo new) → HasAt f.entry head new.held
  fetched_at old new head cargo f = subst (λ (es : List Entry). HasAt f.entry head es) (sym f.held) (inl refl, sym f.head_is)

  without_first : (e : Entry) (es : List Entry) → without (head_of e) (e ∷ es) ≡ es
  without_first e es = rw (eq-eqb (head_of e) (head_of e) refl) refl

  -- what is held after the second of two was completed
  module _ (old one two three : DeviceLists) (h k len : ℕ) (c c' back : CargoData P) (f : Fetches wanted old h c one) (f' : Fetches wanted one k c' two) (is : three ≡ completing two f'.entry len back) where
    pub first_left : HasAt f.entry h three.held
    first_left =
        let held : three.held ≡ one.held = ap (λ (x : DeviceLists). x.held) is ∙ (ap (without (head_of f'.entry)) f'.held ∙ without_first f'.entry one.held) in
        subst (λ (es : List Entry). HasAt f.entry h es) (sym held) (fetched_at old one h c f)

    pub first_unlent : heads h three.lent ≡ 0
    first_unlent = ap (λ (x : DeviceLists). heads h x.lent) is ∙ (ap (heads h) f'.lent ∙ f.unlent)

    pub turns_is : (new : DeviceLists) (size : ℕ) (first : CargoData P) → new ≡ completing three f.entry size first → Turns old new
    turns_is new size first is' = record {
      first = answer_with f.entry size first;
      second = answer_with f'.entry len back;
      fetched = ap (λ (x : DeviceLists). x.fetched) is' ∙ (ap (λ (x : DeviceLists). x.fetched) is ∙ (f'.fetched ∙ (ap (λ (es : List Entry). es ++ f'.entry ∷ []) f.fetched ∙ twice old.fetched f.entry f'.entry)));
      completed = ap (λ (x : DeviceLists). x.completed) is' ∙ (ap (λ (as' : List Answer). as' ++ answer_with f.entry size first ∷ []) (ap (λ (x : DeviceLists). x.completed) is ∙ ap (λ (as' : List Answer). as' ++ answer_with f'.entry len back ∷ []) (f'.completed ∙ f.completed)) ∙ twice old.completed (answer_with f'.entry len back) (answer_with f.entry size first));
    }
      where
        twice : {X : Type 0} (xs : List X) (a b : X) → (xs ++ a ∷ []) ++ b ∷ [] ≡ xs ++ a ∷ b ∷ []
        twice [] a b = refl
        twice (x ∷ xs) a b = ap (λ (ys : List _). x ∷ ys) (twice xs a b)
