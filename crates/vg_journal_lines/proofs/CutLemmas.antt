-- A text is cut into pieces in one way.
use Rattle.std.proofs.Common.{◌≡◌, ℕ, ◌+◌, ◌==◌, true, not, List, [], ◌∷◌, ◌++◌, length, Option, Some, None, option_and_then, arith, refl, sym, ap, ◌∙◌, length-append}
use Rattle.std.proofs.lemmas.Bool.{and_parts, eqb-true, eqb-false, not-true}
use Rattle.vg_laws.proofs.Options.{some_is}
use Rattle.vg_line_words.specs.Words.{lacks, parts_at}
use Rattle.vg_act_lines.proofs.PartLaws.{no_more, then_parts}
use Rattle.vg_journal_lines.specs.declared.state.Stage.{Stage}
use Rattle.vg_journal_lines.specs.declared.state.Stage.TheVariants as stages
use Rattle.vg_journal_lines.specs.declared.state.State.{State}
use Rattle.vg_journal_lines.specs.Read.{pixels_of}
use Rattle.vg_journal_lines.specs.States.{AFrame, Item, Next, and_given, frame_with, piece_step, run, step, words_step}
use Rattle.vg_journal_lines.specs.Pieces.{whole}
use Rattle.vg_journal_lines.proofs.TestLaws.{passes}

-- Two lists that begin alike.
abbrev pub Same : List ℕ → List ℕ → List ℕ → List ℕ → Type 0
Same p q v w = (p ≡ q) × (v ≡ w)

heads : (a b : ℕ) (xs ys : List ℕ) → a ∷ xs ≡ b ∷ ys → (a ≡ b) × (xs ≡ ys)
heads a b xs ys same = (cc, cc)

not_end : (p : List ℕ) (b : ℕ) → lacks 10 (b ∷ p) ≡ true → b ≡ 10 → ⊥
not_end p b lacking is = eqb-false b 10 (not-true (b == 10) (and_parts (not (b == 10)) (lacks 10 p) lacking).0) is

-- Up to the first line end.
one_line : (p q v w : List ℕ) → lacks 10 p ≡ true → lacks 10 q ≡ true → p ++ 10 ∷ v ≡ q ++ 10 ∷ w → Same p q v w
one_line [] [] v w first second same = (refl, (heads 10 10 v w same).1)
one_line [] (b ∷ q) v w first second same = absurd (not_end q b second (sym (heads 10 b v (q ++ 10 ∷ w) same).0))
one_line (a ∷ p) [] v w first second same = absurd (not_end p a first (heads a 10 (p ++ 10 ∷ v) w same).0)
one_line (a ∷ p) (b ∷ q) v w first second same =
    let parts = heads a b (p ++ 10 ∷ v) (q ++ 10 ∷ w) same in
    let more = one_line p q v w (and_parts (not (a == 10)) (lacks 10 p) first).1 (and_parts (not (b == 10)) (lacks 10 q) second).1 parts.1 in
    ((λ i. parts.0 i ∷ more.0 i), more.1)

-- So many bytes.
one_long : (p q v w : List ℕ) → length p ≡ length q → p ++ 10 ∷ v ≡ q ++ 10 ∷ w → Same p q v w
one_long [] [] v w size same = (refl, (heads 10 10 v w same).1)
one_long [] (b ∷ q) v w size same = absurd (omega (arith, size))
one_long (a ∷ p) [] v w size same = absurd (omega (arith, size))
one_long (a ∷ p) (b ∷ q) v w size same =
    let parts = heads a b (p ++ 10 ∷ v) (q ++ 10 ∷ w) same in
    let more = one_long p q v w (omega (arith, size)) parts.1 in
    ((λ i. parts.0 i ∷ more.0 i), more.1)

-- What a piece may be at a stage.
abbrev pub IsCut : Stage → List ℕ → Type 0
IsCut stages.Title piece = lacks 10 piece ≡ true
IsCut stages.Displays piece = lacks 10 piece ≡ true
IsCut stages.Queues piece = lacks 10 piece ≡ true
IsCut stages.Features piece = lacks 10 piece ≡ true
IsCut stages.Host piece = lacks 10 piece ≡ true
IsCut stages.Entries piece = lacks 10 piece ≡ true
IsCut stages.Frames piece = lacks 10 piece ≡ true
IsCut (stages.Frame left) piece = lacks 10 piece ≡ true
IsCut (stages.Pixels head left) piece = length piece ≡ pixels_of head
IsCut stages.Done piece = ⊥

pub cut_piece : (stage : Stage) (state : State) (piece : List ℕ) (next : Next) → piece_step stage state piece ≡ Some next → IsCut stage piece
cut_piece stages.Title state piece next is = (passes (lacks 10 piece) (words_step stages.Title state (parts_at 32 piece)) next is).0
cut_piece stages.Displays state piece next is = (passes (lacks 10 piece) (words_step stages.Displays state (parts_at 32 piece)) next is).0
cut_piece stages.Queues state piece next is = (passes (lacks 10 piece) (words_step stages.Queues state (parts_at 32 piece)) next is).0
cut_piece stages.Features state piece next is = (passes (lacks 10 piece) (words_step stages.Features state (parts_at 32 piece)) next is).0
cut_piece stages.Host state piece next is = (passes (lacks 10 piece) (words_step stages.Host state (parts_at 32 piece)) next is).0
cut_piece stages.Entries state piece next is = (passes (lacks 10 piece) (words_step stages.Entries state (parts_at 32 piece)) next is).0
cut_piece stages.Frames state piece next is = (passes (lacks 10 piece) (words_step stages.Frames state (parts_at 32 piece)) next is).0
cut_piece (stages.Frame left) state piece next is = (passes (lacks 10 piece) (words_step (stages.Frame left) state (parts_at 32 piece)) next is).0
cut_piece (stages.Pixels head left) state piece next is =
    eqb-true (length piece) (pixels_of head) (passes (length piece == pixels_of head) (Some (record state { stage = stages.Frame left; frames = state.frames + 1 }, AFrame (frame_with head piece))) next is).0
cut_piece stages.Done state piece next is = no_more next is

pub one_cut : (stage : Stage) (p q v w : List ℕ) → IsCut stage p → IsCut stage q → p ++ 10 ∷ v ≡ q ++ 10 ∷ w → Same p q v w
one_cut stages.Title p q v w first second same = one_line p q v w first second same
one_cut stages.Displays p q v w first second same = one_line p q v w first second same
one_cut stages.Queues p q v w first second same = one_line p q v w first second same
one_cut stages.Features p q v w first second same = one_line p q v w first second same
one_cut stages.Host p q v w first second same = one_line p q v w first second same
one_cut stages.Entries p q v w first second same = one_line p q v w first second same
one_cut stages.Frames p q v w first second same = one_line p q v w first second same
one_cut (stages.Frame left) p q v w first second same = one_line p q v w first second same
one_cut (stages.Pixels head left) p q v w first second same = one_long p q v w (first ∙ sym second) same
one_cut stages.Done p q v w first second same = absurd first

-- Two pieces that may come next and begin the same text are one.
pub one_next : (state : State) (p q v w : List ℕ) (a b : Next) → step state p ≡ Some a → step state q ≡ Some b → p ++ 10 ∷ v ≡ q ++ 10 ∷ w → Same p q v w
one_next state p q v w a b first second same = one_cut state.stage p q v w (cut_piece state.stage state p a first) (cut_piece state.stage state q b second) same

-- What a run of pieces is.
given_parts : (item : Item) (o : Option (State × List Item)) (all : State × List Item) → and_given item o ≡ Some all → (more : State × List Item) × (o ≡ Some more) × ((more.0, item ∷ more.1) ≡ all)
given_parts item None all is = absurd cc
given_parts item (Some more) all is = (more, refl, some_is _ all is)

pub record Ran (state : State) (piece : List ℕ) (pieces : List (List ℕ)) (all : State × List Item) : Type 0 where
  pub next : Next
  pub more : State × List Item
  pub first : step state piece ≡ Some next
  pub rest : run next.0 pieces ≡ Some more
  pub is : (more.0, next.1 ∷ more.1) ≡ all

pub ran : (state : State) (piece : List ℕ) (pieces : List (List ℕ)) (all : State × List Item) → run state (piece ∷ pieces) ≡ Some all → Ran state piece pieces all
ran state piece pieces all is =
    let m = then_parts (λ (next : Next). and_given next.1 (run next.0 pieces)) (step state piece) all is in
    let parts = given_parts m.0.1 (run m.0.0 pieces) all m.2 in
    record { next = m.0; more = parts.0; first = m.1; rest = parts.1; is = parts.2 }

nothing_left : (p : List ℕ) (w : List ℕ) → [] ≡ p ++ 10 ∷ w → ⊥
nothing_left p w same = let size = ap length same in let sum = length-append p (10 ∷ w) in omega (arith, size, sum)

-- Two runs from one state over the same text are over the same pieces.
pub one_run : (ps qs : List (List ℕ)) (state : State) (a b : State × List Item) → run state ps ≡ Some a → run state qs ≡ Some b → whole ps ≡ whole qs → ps ≡ qs
one_run [] [] state a b first second same = refl
one_run [] (q ∷ qs) state a b first second same = absurd (nothing_left q (whole qs) same)
one_run (p ∷ ps) [] state a b first second same = absurd (nothing_left p (whole ps) (sym same))
one_run (p ∷ ps) (q ∷ qs) state a b first second same =
    let left = ran state p ps a first in
    let right = ran state q qs b second in
    let cut = one_next state p q (whole ps) (whole qs) left.next right.next left.first right.first same in
    let next : left.next ≡ right.next = some_is left.next right.next (sym left.first ∙ ap (step state) cut.0 ∙ right.first) in
    let rest : run left.next.0 qs ≡ Some right.more = ap (λ n. run n.0 qs) next ∙ right.rest in
    let more = one_run ps qs left.next.0 left.more right.more left.rest rest cut.1 in
    λ i. cut.0 i ∷ more i

-- One piece more, and others behind.
pub goes_more : (s t : State) (i : Item) (piece : List ℕ) (pieces : List (List ℕ)) (more : State × List Item) → step s piece ≡ Some (t, i) → run t pieces ≡ Some more → run s (piece ∷ pieces) ≡ Some (more.0, i ∷ more.1)
goes_more s t i piece pieces more first rest =
    ap (option_and_then (λ (next : Next). and_given next.1 (run next.0 pieces))) first ∙ ap (and_given i) rest

pub goes_one : (s t : State) (i : Item) (piece : List ℕ) → step s piece ≡ Some (t, i) → run s (piece ∷ []) ≡ Some (t, i ∷ [])
goes_one s t i piece first = goes_more s t i piece [] (t, []) first refl

pub goes_on : (ps qs : List (List ℕ)) (s t u : State) (is js : List Item) → run s ps ≡ Some (t, is) → run t qs ≡ Some (u, js) → run s (ps ++ qs) ≡ Some (u, is ++ js)
goes_on [] qs s t u is js first rest =
    let none : (s, []) ≡ (t, is) = some_is (s, []) (t, is) first in
    ap (λ n. run n.0 qs) none ∙ rest ∙ ap (λ n. Some (u, n.1 ++ js)) none
goes_on (p ∷ ps) qs s t u is js first rest =
    let r = ran s p ps (t, is) first in
    let on : run r.next.0 ps ≡ Some (t, r.more.1) = r.rest ∙ ap (λ n. Some (n.0, r.more.1)) r.is in
    goes_more s r.next.0 r.next.1 p (ps ++ qs) (u, r.more.1 ++ js) r.first (goes_on ps qs r.next.0 t u r.more.1 js on rest)
    ∙ ap (λ n. Some (u, n.1 ++ js)) r.is
