-- Sets are added one after another.
use Rattle.std.proofs.Common.{◌≡◌, inl, inr, ℕ, zero, suc, ◌+◌, ◌<◌, ◌≤◌, List, [], ◌∷◌, ◌++◌, length, take, Option, Some, slice_get, slice_index, refl, sym, ap, ◌∙◌, arith}
use Rattle.std.proofs.lemmas.Bool.{cases_lt}
use Rattle.std.proofs.lemmas.List.{get_or_append_left, get_or_push, length-append, take-append-le, take_all}
use Rattle.vg_scanout.specs.declared.scanout.Frame.{Frame}
use Rattle.vg_device.specs.State.{State}
use Rattle.vg_drawn.specs.NewFramesWithin.{AreAdded, set_of}

-- Those of the frames below number n are there.
pub record AreAddedBelow (state : State) (n : ℕ) (old new : List ℕ) : Type 0 where
  pub some : length old ≤ n
  pub count : length new ≡ n
  pub before : take (length old) new ≡ old
  pub each : (k : ℕ) (frame : Frame) → length old ≤ k → k < n → slice_get state.scanouts.frames k ≡ Some frame → slice_index new k ≡ set_of state frame

pub added-none : (state : State) (old : List ℕ) → AreAddedBelow state (length old) old old
added-none state old = record {
  some = omega arith;
  count = refl;
  before = take_all (length old) old (omega arith);
  each = λ k frame from below is. absurd (omega (arith, from, below));
}

pub added-more : (state : State) (n : ℕ) (old new : List ℕ) (frame : Frame) (set : ℕ) → AreAddedBelow state n old new → slice_get state.scanouts.frames n ≡ Some frame → set ≡ set_of state frame
    → AreAddedBelow state (n + 1) old (new ++ set ∷ [])
added-more state n old new frame set was at is = record {
  some = omega (arith, was.some);
  count = length-append new (set ∷ []) ∙ ap (λ k. k + 1) was.count;
  before = take-append-le (length old) new (set ∷ []) (omega (arith, was.some, was.count)) ∙ was.before;
  each = λ k other from below there. elim (cases_lt k n) [
    | inl less ↦ get_or_append_left new (set ∷ []) 0 k (omega (arith, less, was.count)) ∙ was.each k other from less there
    | inr past ↦
        (let here : k ≡ n = omega (arith, past, below) in
        let end : k ≡ length new = here ∙ sym was.count in
        ap (λ m. slice_index (new ++ set ∷ []) m) end ∙ get_or_push new set 0 (length new) refl ∙ is ∙ ap (set_of state) (same (sym at ∙ ap (slice_get state.scanouts.frames) (sym here) ∙ there)))
  ];
}
  where
    same : {x y : Frame} → ◌≡◌ {A = Option Frame} (Some x) (Some y) → x ≡ y
    same eq = cc

pub added-all : (state : State) (n : ℕ) (old new : List ℕ) → AreAddedBelow state n old new → length state.scanouts.frames ≡ n → AreAdded state old new
added-all state n old new was all = record {
  count = was.count ∙ sym all;
  before = was.before;
  each = λ k frame from is. was.each k frame from (omega (arith, all, found state.scanouts.frames k frame is)) is;
}
  where
    found : (frames : List Frame) (k : ℕ) (frame : Frame) → slice_get frames k ≡ Some frame → k < length frames
    found [] k frame is = cc
    found (x ∷ xs) zero frame is = omega arith
    found (x ∷ xs) (suc k) frame is = let rest = found xs k frame is in omega (arith, rest)
