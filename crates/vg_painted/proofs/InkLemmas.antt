-- The inks are related to each other.
use Rattle.std.proofs.Common.{◌≡◌, ℕ, ◌+◌, List, [], ◌∷◌, refl, ap}
use Rattle.vg_client_holds.specs.declared.setup.Setup.{Setup}
use Rattle.vg_machine.specs.Entries.{Entry}
use Rattle.vg_painted.specs.Ink.{Ink}
use Rattle.vg_painted.specs.Inks.{both}
use Rattle.vg_painted.specs.Paint.{painting}
use Rattle.vg_painted.specs.Painted.{AreRelated}
use Rattle.vg_painted.proofs.RelatedLemmas.{AreBy, AreLike, painting-related}

abbrev Any : ℕ → ℕ → Type 0
Any entry client = Unit {0}

any : (n : ℕ) (H : List Entry) → AreBy Any n H
any n [] = tt
any n (entry ∷ more) = (tt, any (n + 1) more)

first-like : {X Z Y W : Type 0} (one : Ink X Z) (other : Ink Y W) → AreLike Any (λ (x : X × Y) (y : X). x.0 ≡ y) (λ (z : Z × W) (w : Z). z.0 ≡ w) (both one other) one
first-like one other = record {
  blank = refl;
  opaque = refl;
  stored = λ entry client page byte by. refl;
  fetched = λ entry x y are. ap (one.fetched entry) are;
  shown = λ entry x y are. ap (one.shown entry) are;
  plain = λ x y are. ap one.plain are;
  blended = λ x y x1 y1 x2 y2 are first second. λ k. one.blended (are k) (first k) (second k);
  solid = refl;
}

second-like : {X Z Y W : Type 0} (one : Ink X Z) (other : Ink Y W) → AreLike Any (λ (x : X × Y) (y : Y). x.1 ≡ y) (λ (z : Z × W) (w : W). z.1 ≡ w) (both one other) other
second-like one other = record {
  blank = refl;
  opaque = refl;
  stored = λ entry client page byte by. refl;
  fetched = λ entry x y are. ap (other.fetched entry) are;
  shown = λ entry x y are. ap (other.shown entry) are;
  plain = λ x y are. ap other.plain are;
  blended = λ x y x1 y1 x2 y2 are first second. λ k. other.blended (are k) (first k) (second k);
  solid = refl;
}

pub firsts-agree : {X Z Y W : Type 0} (one : Ink X Z) (other : Ink Y W) (setup : Setup) (H : List Entry)
    → AreRelated (λ (x : X × Y) (y : X). x.0 ≡ y) (λ (z : Z × W) (w : Z). z.0 ≡ w) (painting (both one other) setup H) (painting one setup H)
firsts-agree {X} {Z} {Y} {W} one other setup H =
    painting-related Any (λ (x : X × Y) (y : X). x.0 ≡ y) (λ (z : Z × W) (w : Z). z.0 ≡ w) (both one other) one (first-like one other) setup H (any 0 H)

pub seconds-agree : {X Z Y W : Type 0} (one : Ink X Z) (other : Ink Y W) (setup : Setup) (H : List Entry)
    → AreRelated (λ (x : X × Y) (y : Y). x.1 ≡ y) (λ (z : Z × W) (w : W). z.1 ≡ w) (painting (both one other) setup H) (painting other setup H)
seconds-agree {X} {Z} {Y} {W} one other setup H =
    painting-related Any (λ (x : X × Y) (y : Y). x.1 ≡ y) (λ (z : Z × W) (w : W). z.1 ≡ w) (both one other) other (second-like one other) setup H (any 0 H)
