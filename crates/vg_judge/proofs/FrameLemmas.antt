-- A frame's line read, and its pixels compared.
use Rattle.std.proofs.Common.{◌≡◌, ℕ, ◌==◌, true, List, [], ◌∷◌, ◌++◌, length, Option, Some, None, sym, ap, ◌∙◌, append_assoc}
use Rattle.std.proofs.Common.{Bor, MatchOption}
use Rattle.std.specs.List.{All, after_first, before_first}
use Rattle.vg_scanout.specs.declared.scanout.Frame.{Frame}
use Rattle.vg_line_words.specs.Words.{is_plain, lacks, parts_at}
use Rattle.vg_journal_lines.specs.declared.counts.FrameHead.{FrameHead}
use Rattle.vg_journal_lines.specs.Words.{frame_words, head_of, joined}
use Rattle.vg_journal_lines.specs.Read.{frame_of, pixels_of}
use Rattle.vg_journal_lines.specs.Ranges.{HeadInRange, IsCount}
use Rattle.vg_journal_lines.specs.Pieces.{whole}
use Rattle.vg_judge.specs.FramesWithin.{AreOthers, ArePixels, BeginsWith, IsMet, IsOther}
use Rattle.vg_judge.proofs.LineLemmas.{before_end, behind_end}

-- What the laws of the crates below say of a frame's line.
pub record HeadsAreSaid : Type 0 where
  pub plain : (n : ℕ) (head : FrameHead) → IsCount n → HeadInRange head → All (λ word. is_plain word ≡ true) (frame_words n head)
  pub back : (n : ℕ) (head : FrameHead) → IsCount n → HeadInRange head → frame_of n (frame_words n head) ≡ Some head
  pub parts : (word : List ℕ) (words : List (List ℕ)) → All (λ w. is_plain w ≡ true) (word ∷ words) → parts_at 32 (joined (word ∷ words)) ≡ word ∷ words
  pub line : (words : List (List ℕ)) → All (λ w. is_plain w ≡ true) words → lacks 10 (joined words) ≡ true

-- A frame's line is cut off and read.
pub record IsHead (n : ℕ) (bytes : List ℕ) (frame : Frame) (more : List ℕ) : Type 0 where
  pub head : frame_of n (parts_at 32 (before_first (λ b. b == 10) bytes)) ≡ Some (head_of frame)
  pub behind : after_first (λ b. b == 10) bytes ≡ frame.pixels ++ 10 ∷ more

two_pieces : (p q more : List ℕ) → whole (p ∷ q ∷ []) ++ more ≡ p ++ 10 ∷ (q ++ 10 ∷ more)
two_pieces p q more = simp append_assoc

pub is_head : (n : ℕ) (bytes : List ℕ) (frame : Frame) (more : List ℕ) → HeadsAreSaid → BeginsWith n bytes frame more → IsHead n bytes frame more
is_head n bytes frame more laws begins =
    let head = head_of frame in
    let plain = laws.plain n head begins.number begins.in_range.head in
    let lacking = laws.line (frame_words n head) plain in
    let place : bytes ≡ joined (frame_words n head) ++ 10 ∷ (frame.pixels ++ 10 ∷ more) = begins.place ∙ two_pieces (joined (frame_words n head)) frame.pixels more in
    record {
      head =
          ap (λ line. frame_of n (parts_at 32 line)) (before_end bytes (joined (frame_words n head)) (frame.pixels ++ 10 ∷ more) place lacking)
          ∙ ap (frame_of n) (laws.parts _ _ plain)
          ∙ laws.back n head begins.number begins.in_range.head;
      behind = behind_end bytes (joined (frame_words n head)) (frame.pixels ++ 10 ∷ more) place lacking;
    }

-- The line is no frame's.
pub not_read : (n : ℕ) (bytes line : List ℕ) (words : List (List ℕ)) (frame : Frame) → HeadsAreSaid → line ≡ before_first (λ b. b == 10) bytes → words ≡ parts_at 32 line → frame_of n words ≡ None → IsOther n bytes frame
not_read n bytes line words frame laws first parts none more begins =
    let h = is_head n bytes frame more laws begins in
    let e : None ≡ Some (head_of frame) = sym none ∙ ap (frame_of n) parts ∙ ap (λ l. frame_of n (parts_at 32 l)) first ∙ h.head in
    cc

-- The line is another frame's.
pub other_head : (n : ℕ) (bytes line : List ℕ) (words : List (List ℕ)) (frame : Frame) (head : FrameHead) → HeadsAreSaid → line ≡ before_first (λ b. b == 10) bytes → words ≡ parts_at 32 line → frame_of n words ≡ Some head
    → ((head ≡ head_of frame) × (length frame.pixels ≡ pixels_of head) → ⊥) → IsOther n bytes frame
other_head n bytes line words frame head laws first parts some other more begins =
    let h = is_head n bytes frame more laws begins in
    let e : Some head ≡ Some (head_of frame) = sym some ∙ ap (frame_of n) parts ∙ ap (λ l. frame_of n (parts_at 32 l)) first ∙ h.head in
    let same : head ≡ head_of frame = cc in
    other (same, begins.in_range.count ∙ ap pixels_of (sym same))

-- The pixels are others.
pub other_pixels : (n : ℕ) (bytes after : List ℕ) (frame : Frame) → HeadsAreSaid → after ≡ after_first (λ b. b == 10) bytes → AreOthers after frame.pixels → IsOther n bytes frame
other_pixels n bytes after frame laws rest others more begins = others more (rest ∙ (is_head n bytes frame more laws begins).behind)

same_frame : (one other : Frame) → head_of one ≡ head_of other → one.pixels ≡ other.pixels → one ≡ other
same_frame one other head pixels = λ i. record { scanout = (head i).scanout; width = (head i).width; height = (head i).height; entry = (head i).entry; pixels = pixels i }

-- It is this frame.
pub is_met : (n : ℕ) (bytes line after behind : List ℕ) (words : List (List ℕ)) (frame : Frame) (head : FrameHead) → HeadsAreSaid → line ≡ before_first (λ b. b == 10) bytes → after ≡ after_first (λ b. b == 10) bytes → words ≡ parts_at 32 line
    → frame_of n words ≡ Some head → (head ≡ head_of frame) × (length frame.pixels ≡ pixels_of head) → ArePixels after frame.pixels behind → IsMet n bytes frame behind
is_met n bytes line after behind words frame head laws first rest parts some are pixels next more begins =
    let h = is_head n bytes next more laws begins in
    let e : Some head ≡ Some (head_of next) = sym some ∙ ap (frame_of n) parts ∙ ap (λ l. frame_of n (parts_at 32 l)) first ∙ h.head in
    let same : head ≡ head_of next = cc in
    let count : length next.pixels ≡ length frame.pixels = begins.in_range.count ∙ ap pixels_of (sym same) ∙ sym are.1 in
    let found = pixels next.pixels more count (rest ∙ h.behind) in
    (same_frame next frame (sym same ∙ are.0) found.0, found.1)

pub found_or_not : (n : ℕ) (bytes line after : List ℕ) (words : List (List ℕ)) (frame : Frame) (head : FrameHead) (found : Option (Bor (List ℕ))) → HeadsAreSaid → line ≡ before_first (λ b. b == 10) bytes → after ≡ after_first (λ b. b == 10) bytes
    → words ≡ parts_at 32 line → frame_of n words ≡ Some head → (head ≡ head_of frame) × (length frame.pixels ≡ pixels_of head)
    → MatchOption found (AreOthers after frame.pixels) (λ rest. ArePixels after frame.pixels rest.now)
    → MatchOption found (IsOther n bytes frame) (λ rest. IsMet n bytes frame rest.now)
found_or_not n bytes line after words frame head None laws first rest parts some are pixels = other_pixels n bytes after frame laws rest pixels
found_or_not n bytes line after words frame head (Some behind) laws first rest parts some are pixels = is_met n bytes line after behind.now words frame head laws first rest parts some are pixels
