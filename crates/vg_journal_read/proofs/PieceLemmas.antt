-- Where a piece ends.
use Rattle.std.proofs.Common.{◌≡◌, ℕ, ◌+◌, ◌-◌, ◌<◌, ◌==◌, true, not, List, [], ◌∷◌, ◌++◌, length, take, drop, get_or, Option, Some, None, arith, refl, sym, ap, ◌∙◌, length-append, length-take-le}
use Rattle.std.proofs.lemmas.Bool.{eqb-true, eq-eqb}
use Rattle.std.proofs.lemmas.Grind.{common_steps}
use Rattle.std.proofs.lemmas.List.{get_or-take}
use Rattle.std.proofs.lemmas.List.Sums.{fails_before_first, list_all-from_AllPass}
use Rattle.std.specs.List.{position_or_len}
use Rattle.memchr.specs.Find.{IsFirstByte, is_byte}
use Rattle.vg_script_words.proofs.Cuts.{first_place}
use Rattle.vg_line_words.specs.Words.{lacks}
use Rattle.vg_act_lines.proofs.PartLaws.{no_more}
use Rattle.vg_journal_lines.specs.declared.counts.FrameHead.{FrameHead}
use Rattle.vg_journal_lines.specs.declared.state.Stage.{Stage}
use Rattle.vg_journal_lines.specs.declared.state.Stage.TheVariants as stages
use Rattle.vg_journal_lines.specs.declared.state.State.{State}
use Rattle.vg_journal_lines.specs.States.{Next, piece_step, step}
use Rattle.vg_journal_lines.specs.Refusals.{GoesNoMore}
use Rattle.vg_journal_lines.proofs.CutLemmas.{Same, cut_piece, one_cut}
use Rattle.vg_journal_read.specs.PiecesWithin.{Begins, BeginsNone, MayBe, head_at}

behind : (piece after : List ℕ) → get_or (piece ++ 10 ∷ after) (length piece) 0 ≡ 10
behind [] after = refl
behind (b ∷ piece) after = behind piece after

-- No line ends.
pub no_line : (bytes : List ℕ) → IsFirstByte (is_byte 10) bytes None → BeginsNone None bytes
no_line bytes none piece after lacking same =
    let size = ap length same in
    let sum = length-append piece (10 ∷ after) in
    let is : get_or bytes (length piece) 0 ≡ 10 = ap (λ l. get_or l (length piece) 0) same ∙ behind piece after in
    none (length piece) (omega arith) (omega (arith, size, sum)) (eq-eqb (get_or bytes (length piece) 0) 10 is)

-- Up to the first line end.
front_lacks : (bytes : List ℕ) (place : ℕ) → place ≡ position_or_len (λ b. b == 10) bytes → lacks 10 (take place bytes) ≡ true
front_lacks bytes place is =
    list_all-from_AllPass (λ b. not (b == 10)) (take place bytes) (
    λ k d within.
    let size = length-take-le place bytes in
    let before : k < place = grind (arith, common_steps) in
    let other = fails_before_first (λ b. b == 10) bytes k d (omega (arith, before, is)) in
    ap (λ b. not (b == 10)) (get_or-take place bytes k d before) ∙ ap not other)

pub cut_text : (bytes : List ℕ) (place : ℕ) → place < length bytes → get_or bytes place 0 ≡ 10
    → bytes ≡ take place bytes ++ 10 ∷ take (length bytes - (place + 1)) (drop (place + 1) bytes)
cut_text bytes place within is = grind (arith, common_steps)

pub one_line : (bytes : List ℕ) (place : ℕ) → IsFirstByte (is_byte 10) bytes (Some place)
    → Begins None bytes (take place bytes) (take (length bytes - (place + 1)) (drop (place + 1) bytes))
one_line bytes place is = (cut_text bytes place is.0.high (eqb-true (get_or bytes place 0) 10 is.1), front_lacks bytes place (first_place 10 bytes place is))

-- What may come next is a piece, and bytes begin with one piece.
may_be : (stage : Stage) (state : State) (piece : List ℕ) (next : Next) → piece_step stage state piece ≡ Some next → MayBe (head_at stage) piece
may_be stages.Title state piece next is = cut_piece stages.Title state piece next is
may_be stages.Displays state piece next is = cut_piece stages.Displays state piece next is
may_be stages.Queues state piece next is = cut_piece stages.Queues state piece next is
may_be stages.Features state piece next is = cut_piece stages.Features state piece next is
may_be stages.Host state piece next is = cut_piece stages.Host state piece next is
may_be stages.Entries state piece next is = cut_piece stages.Entries state piece next is
may_be stages.Frames state piece next is = cut_piece stages.Frames state piece next is
may_be (stages.Frame left) state piece next is = cut_piece (stages.Frame left) state piece next is
may_be (stages.Pixels head left) state piece next is = cut_piece (stages.Pixels head left) state piece next is
may_be stages.Done state piece next is = no_more next is

one_piece : (head : Option FrameHead) (p q v w : List ℕ) → MayBe head p → MayBe head q → p ++ 10 ∷ v ≡ q ++ 10 ∷ w → Same p q v w
one_piece None p q v w first second same = one_cut stages.Title p q v w first second same
one_piece (Some head) p q v w first second same = one_cut (stages.Pixels head 0) p q v w first second same

-- The piece can't come next.
pub not_taken : (state : State) (bytes piece after : List ℕ) → Begins (head_at state.stage) bytes piece after → step state piece ≡ None → GoesNoMore state bytes
not_taken state bytes piece after begins none p more next cut is =
    let same = one_piece (head_at state.stage) piece p after more begins.1 (may_be state.stage state p next is) (sym begins.0 ∙ cut) in
    no_more next (sym none ∙ ap (step state) same.0 ∙ is)
