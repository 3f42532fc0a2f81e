-- The next of a journal's frames is met.
use Rattle.std.proofs.Common.{◌≡◌, ℕ, suc, ◌+◌, ◌<◌, List, [], ◌∷◌, ◌++◌, length, get_or, take, drop, drop-cons, take-append-drop, Bor, arith, refl, sym, ap, subst, ◌∙◌, append_assoc, length-append}
use Rattle.std.proofs.lemmas.List.{append_cancel_left}
use Rattle.std.proofs.lemmas.List.Elements.{All-head, All-tail}
use Rattle.std.specs.List.{All}
use mathlib.Core.List.{IsPrefix}
use Rattle.vg_scanout.specs.declared.scanout.Frame.{Frame}
use Rattle.vg_journal_lines.specs.Words.{frame_words, head_of, joined}
use Rattle.vg_journal_lines.specs.Pieces.{FrameInRange, frame_pieces, numbered_pieces, whole}
use Rattle.vg_judge.specs.declared.frames.Frames.{Frames}
use Rattle.vg_judge.specs.FramesWithin.{AreMet, BeginsWith, IsMet, IsOther}

-- What is left begins with this frame.
record IsLeft (all before : List Frame) (frames : Frames) (next : Frame) (more : List Frame) (behind : List ℕ) : Type 0 where
  place : all ≡ before ++ (next ∷ more)
  in_range : All FrameInRange more
  begins : BeginsWith (frames.met + 1) frames.rest.now next (whole (numbered_pieces frame_pieces (length before + 1 + 1) more) ++ behind)

two_pieces : (p q more behind : List ℕ) → (p ++ 10 ∷ (q ++ 10 ∷ more)) ++ behind ≡ (p ++ 10 ∷ (q ++ 10 ∷ [])) ++ (more ++ behind)
two_pieces p q more behind = simp append_assoc

is_left : (all before : List Frame) (frames : Frames) (next : Frame) (more : List Frame) (are : AreMet all before frames) → are.left ≡ next ∷ more → IsLeft all before frames next more are.behind
is_left all before frames next more are is =
    let place : all ≡ before ++ (next ∷ more) = are.place ∙ ap (λ left. before ++ left) is in
    let in_range = subst (All FrameInRange) is are.in_range in
    let size = ap length place in
    let sum = length-append before (next ∷ more) in
    let number = are.number in
    let few = are.few in
    let n : length before + 1 ≡ frames.met + 1 = omega (arith, number) in
    record {
      place = place;
      in_range = All-tail FrameInRange next more in_range;
      begins = record {
        number = omega (arith, size, sum, number, few);
        in_range = All-head FrameInRange next more in_range;
        place =
            are.rest
            ∙ ap (λ left. whole (numbered_pieces frame_pieces (length before + 1) left) ++ are.behind) is
            ∙ two_pieces (joined (frame_words (length before + 1) (head_of next))) next.pixels (whole (numbered_pieces frame_pieces (length before + 1 + 1) more)) are.behind
            ∙ ap (λ k. whole (frame_pieces k next) ++ (whole (numbered_pieces frame_pieces (length before + 1 + 1) more) ++ are.behind)) n;
      };
    }

one_more : (all before : List Frame) (frames : Frames) (frame : Frame) (after : Bor (List ℕ)) (left : List Frame) (are : AreMet all before frames) → are.left ≡ left → frames.met < frames.count → IsMet (frames.met + 1) frames.rest.now frame after.now
    → AreMet all (before ++ frame ∷ []) (record frames { rest = after; met = frames.met + 1 })
one_more all before frames frame after [] are is some met =
    let place = ap length (are.place ∙ ap (λ left. before ++ left) is) in
    let sum = length-append before [] in
    let number = are.number in
    let count = are.count in
    absurd (omega (arith, place, sum, number, count, some))
one_more all before frames frame after (next ∷ more) are is some met =
    let left = is_left all before frames next more are is in
    let this = met next (whole (numbered_pieces frame_pieces (length before + 1 + 1) more) ++ are.behind) left.begins in
    let size : length before + 1 ≡ length (before ++ frame ∷ []) = sym (length-append before (frame ∷ [])) in
    record {
      left = more;
      behind = are.behind;
      place = left.place ∙ ap (λ f. before ++ (f ∷ more)) this.0 ∙ sym (append_assoc before (frame ∷ []) more);
      in_range = left.in_range;
      few = are.few;
      count = are.count;
      number = ap (λ n. n + 1) are.number ∙ size;
      rest = this.1 ∙ ap (λ k. whole (numbered_pieces frame_pieces (k + 1) more) ++ are.behind) size;
    }

pub one_more_met : (all before : List Frame) (frames : Frames) (frame : Frame) (after : Bor (List ℕ)) (are : AreMet all before frames) → frames.met < frames.count → IsMet (frames.met + 1) frames.rest.now frame after.now
    → AreMet all (before ++ frame ∷ []) (record frames { rest = after; met = frames.met + 1 })
one_more_met all before frames frame after are some met = one_more all before frames frame after are.left are refl some met

-- The next one is another.
pub other_next : (all before : List Frame) (frames : Frames) (frame : Frame) → AreMet all before frames → IsOther (frames.met + 1) frames.rest.now frame → IsPrefix (before ++ frame ∷ []) all → ⊥
other_next all before frames frame are other begins =
    let left : are.left ≡ frame ∷ begins.0 = append_cancel_left before are.left (frame ∷ begins.0) (sym are.place ∙ sym begins.1 ∙ append_assoc before (frame ∷ []) begins.0) in
    other _ (is_left all before frames frame begins.0 are left).begins

-- Frames that stand in front of others do so one by one.
pub begins_less : (frames all : List Frame) (at : ℕ) (frame : Frame) → at < length frames → frame ≡ get_or frames at frame → IsPrefix frames all → IsPrefix (take at frames ++ frame ∷ []) all
begins_less frames all at frame within is begins =
    let rest : drop at frames ≡ frame ∷ drop (suc at) frames = drop-cons frames at frame within ∙ ap (λ f. f ∷ drop (suc at) frames) (sym is) in (
      drop (suc at) frames ++ begins.0,
      append_assoc (take at frames) (frame ∷ []) (drop (suc at) frames ++ begins.0)
          ∙ sym (append_assoc (take at frames) (frame ∷ drop (suc at) frames) begins.0)
          ∙ ap (λ left. (take at frames ++ left) ++ begins.0) (sym rest)
          ∙ ap (λ fs. fs ++ begins.0) (take-append-drop at frames)
          ∙ begins.1,
    )
