-- What is kept of the scanouts once the frames are taken: it stands for the same screens.
use Rattle.std.proofs.Common.{◌≡◌, inl, inr, ℕ, suc, ◌+◌, ◌<◌, List, [], ◌∷◌, ◌++◌, length, get_or, Option, None, refl, sym, ap, ◌∙◌, subst, arith}
use Rattle.std.proofs.lemmas.Bool.{cases_eq}
use Rattle.std.proofs.lemmas.List.{get_or_default, get_or_push, get_or_append_left}
use Rattle.vg_scanout.specs.declared.panel.Ground.{Ground}
use Rattle.vg_scanout.specs.declared.panel.Panel.{Panel}
use Rattle.vg_scanout.specs.declared.scanout.Frame.{Frame}
use Rattle.vg_scanout.specs.Panels.{AreUnframed, AreRegrounded, IsUnframed, ShowsFrame, screen_in, screens_in}
use Rattle.vg_scanout.proofs.PanelLemmas.{StandFor}

-- one ground more
pub each-unframed : (old : List Frame) (standing now : List (Option Ground)) (one : Option Ground) (panels : List (Option Panel)) (i : ℕ)
    → length standing ≡ i → now ≡ standing ++ (one ∷ [])
    → ((k : ℕ) → k < i → IsUnframed old (get_or standing k None) (get_or panels k None))
    → IsUnframed old one (get_or panels i None)
    → (k : ℕ) → k < i + 1 → IsUnframed old (get_or now k None) (get_or panels k None)
each-unframed old standing now one panels i long added each here k within = elim (cases_eq k i) [
  | inl same ↦
      (let at : get_or now i None ≡ one = ap (λ (xs : List (Option Ground)). get_or xs i None) added ∙ get_or_push standing one None i long in
      subst (λ (n : ℕ). IsUnframed old (get_or now n None) (get_or panels n None)) (sym same)
      (subst (λ (x : Option Ground). IsUnframed old x (get_or panels i None)) (sym at) here))
  | inr apart ↦
      (let less : k < i = omega (arith, within, apart) in
      let at : get_or now k None ≡ get_or standing k None = ap (λ (xs : List (Option Ground)). get_or xs k None) added ∙ get_or_append_left standing (one ∷ []) None k (omega (arith, less, long)) in
      subst (λ (x : Option Ground). IsUnframed old x (get_or panels k None)) (sym at) (each k less))
]

screens-unframed : (old : List Frame) (panels now : List (Option Panel)) → length now ≡ length panels
    → ((k : ℕ) → k < length panels → screen_in [] (get_or now k None) ≡ screen_in old (get_or panels k None))
    → screens_in [] now ≡ screens_in old panels
screens-unframed old [] [] long each = refl
screens-unframed old [] (p ∷ now) long each = absurd (omega (arith, long))
screens-unframed old (panel ∷ panels) [] long each = absurd (omega (arith, long))
screens-unframed old (panel ∷ panels) (p ∷ now) long each =
    ap (λ s. s ∷ screens_in [] now) (each 0 (omega arith))
    ∙ ap (λ ss. screen_in old panel ∷ ss) (screens-unframed old panels now (omega (arith, long)) (λ k within. each (suc k) (omega (arith, within))))

pub stand-taken : (old : List Frame) (standing : List (Option Ground)) (panels now : List (Option Panel))
    → AreUnframed old standing panels → AreRegrounded standing panels now → StandFor [] now (screens_in old panels)
stand-taken old standing panels now own re = record {
  same = screens-unframed old panels now re.count (λ k within. ap (screen_in []) (re.each k within) ∙ (own.each k within).1);
  shows = λ k d within.
      let inside : k < length panels = omega (arith, within, re.count) in
      subst (ShowsFrame 0) (sym (get_or_default now k d None within ∙ re.each k inside)) (own.each k inside).0;
}
