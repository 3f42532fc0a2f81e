-- The lines behind the entries, and their words.
use Rattle.std.proofs.Common.{◌≡◌, ℕ, ◌≤◌, ◌^◌, ◌&&◌, nat_le, true, List, [], ◌∷◌, ◌++◌, decimal, bytes_eq, codes, if◌then◌else◌, Some, None, option_map, option_and_then, arith, refl, sym, ap, ◌∙◌, subst, append_assoc}
use Rattle.std.proofs.lemmas.Bool.{and_from, false≢true, le-leb, leb-true}
use Rattle.std.proofs.lemmas.List.Sums.{AllPass-from_list_all}
use Rattle.std.specs.List.{All, list_all}
use Rattle.vg_laws.proofs.Lists.{same_bytes}
use Rattle.vg_laws.proofs.Options.{some_is}
use Rattle.vg_scanout.specs.declared.scanout.Frame.{Frame}
use Rattle.vg_journal.specs.Text.{counts_text, frame_line}
use Rattle.vg_line_words.specs.Words.{is_plain, number_of}
use Rattle.vg_line_words.proofs.NumberLaws.{number_back, number_only, number_range, plain_decimal}
use Rattle.vg_act_lines.specs.Read.{both, short, two}
use Rattle.vg_act_lines.proofs.PartLaws.{both_parts, last_plain, map_parts, no_more, plain_short, short_back, short_only, then_parts, two_back, two_only}
use Rattle.vg_journal_lines.specs.declared.counts.FrameHead.{FrameHead}
use Rattle.vg_journal_lines.specs.Words.{end_words, frame_words, frames_words, head_of, line_of, rings_words}
use Rattle.vg_journal_lines.specs.Read.{any_head, frame_head, frame_of, frames_of, if_it_fits, is_end, is_this, pixels_of, rings_of}
use Rattle.vg_journal_lines.specs.Ranges.{HeadInRange, IsCount}
use Rattle.vg_journal_lines.proofs.TestLaws.{known_this, passes, this_back}

pub plain_count : (n : ℕ) → IsCount n → is_plain (decimal n) ≡ true
plain_count n small = plain_decimal n (omega (arith, small))

count_back : (n : ℕ) → IsCount n → number_of (2 ^ 63) (decimal n) ≡ Some n
count_back n small = number_back (2 ^ 63) n small (omega arith)

count_only : (n : ℕ) (word : List ℕ) → number_of (2 ^ 63) word ≡ Some n → (word ≡ decimal n) × IsCount n
count_only n word is = (number_only (2 ^ 63) n word (omega arith) is, number_range (2 ^ 63) n word is)

-- Commands of each queue, and frames.
pub text_counts : (control cursor frames : ℕ) → counts_text control cursor frames ≡ line_of (rings_words (control, cursor)) ++ line_of (frames_words frames)
unfolding counts_text
text_counts control cursor frames = simp append_assoc

pub plain_rings : (counts : ℕ × ℕ) → IsCount counts.0 → IsCount counts.1 → All (λ w. is_plain w ≡ true) (rings_words counts)
unfolding is_plain
plain_rings counts first second = AllPass-from_list_all is_plain (rings_words counts) (and_from _ _ (plain_count counts.0 first) (last_plain _ (plain_count counts.1 second)))

pub rings_back : (counts : ℕ × ℕ) → IsCount counts.0 → IsCount counts.1 → rings_of (rings_words counts) ≡ Some counts
unfolding rings_of
rings_back counts first second = λ i. both (count_back counts.0 first i) (count_back counts.1 second i)

pub rings_only : (counts : ℕ × ℕ) (words : List (List ℕ)) → rings_of words ≡ Some counts → (words ≡ rings_words counts) × IsCount counts.0 × IsCount counts.1
unfolding rings_of
rings_only counts (word ∷ control ∷ cursor ∷ []) is =
    let told = passes (bytes_eq word (codes "rings")) (both (number_of (2 ^ 63) control) (number_of (2 ^ 63) cursor)) counts is in
    let this = same_bytes word (codes "rings") told.0 in
    let parts = both_parts (number_of (2 ^ 63) control) (number_of (2 ^ 63) cursor) counts told.1 in
    let first = count_only counts.0 control parts.0 in
    let second = count_only counts.1 cursor parts.1 in
    (λ i. this i ∷ first.0 i ∷ second.0 i ∷ [], first.1, second.1)
rings_only counts words is = no_more counts is

pub plain_frames : (frames : ℕ) → IsCount frames → All (λ w. is_plain w ≡ true) (frames_words frames)
unfolding is_plain
plain_frames frames small = AllPass-from_list_all is_plain (frames_words frames) (last_plain _ (plain_count frames small))

pub frames_back : (frames : ℕ) → IsCount frames → frames_of (frames_words frames) ≡ Some frames
unfolding frames_of
frames_back frames small = count_back frames small

pub frames_only : (frames : ℕ) (words : List (List ℕ)) → frames_of words ≡ Some frames → (words ≡ frames_words frames) × IsCount frames
unfolding frames_of
frames_only frames (word ∷ number ∷ []) is =
    let told = passes (bytes_eq word (codes "frames")) (number_of (2 ^ 63) number) frames is in
    let this = same_bytes word (codes "frames") told.0 in
    let read = count_only frames number told.1 in
    (λ i. this i ∷ read.0 i ∷ [], read.1)
frames_only frames words is = no_more frames is

-- A frame, but for its pixels.
pub text_frame : (n : ℕ) (frame : Frame) → frame_line n frame ≡ line_of (frame_words n (head_of frame))
unfolding frame_line
text_frame n frame = simp append_assoc

plain_head : (n : ℕ) (head : FrameHead) → IsCount n → HeadInRange head → list_all is_plain (frame_words n head) ≡ true
unfolding is_plain
plain_head n head small r =
    and_from _ _ (plain_count n small) (and_from _ _ (plain_short head.scanout r.scanout) (and_from _ _ (plain_short head.width r.width) (and_from _ _ (plain_short head.height r.height) (last_plain _ (plain_count head.entry r.entry)))))

pub plain_frame : (n : ℕ) (head : FrameHead) → IsCount n → HeadInRange head → All (λ w. is_plain w ≡ true) (frame_words n head)
plain_frame n head small r = AllPass-from_list_all is_plain (frame_words n head) (plain_head n head small r)

head_back : (head : FrameHead) → HeadInRange head → any_head (decimal head.scanout) (decimal head.width) (decimal head.height) (decimal head.entry) ≡ Some head
head_back head r = λ i. option_map frame_head (both (both (short_back head.scanout r.scanout i) (two_back head.width head.height r.width r.height i)) (count_back head.entry r.entry i))

fits_back : (head : FrameHead) → HeadInRange head → if_it_fits head ≡ Some head
fits_back head r = ap (λ b. if b then Some head else None) (le-leb (pixels_of head) 33554432 r.few)

pub frame_back : (n : ℕ) (head : FrameHead) → IsCount n → HeadInRange head → frame_of n (frame_words n head) ≡ Some head
unfolding frame_of
frame_back n head small r =
    ap (λ b. if b then option_and_then if_it_fits (any_head (decimal head.scanout) (decimal head.width) (decimal head.height) (decimal head.entry)) else None) (this_back n small)
    ∙ ap (option_and_then if_it_fits) (head_back head r) ∙ fits_back head r

pub frame_only : (n : ℕ) (head : FrameHead) (words : List (List ℕ)) → frame_of n words ≡ Some head → (words ≡ frame_words n head) × IsCount n × HeadInRange head
unfolding frame_of
frame_only n head (word ∷ number ∷ scanout ∷ width ∷ height ∷ entry ∷ []) is =
    let told = passes (bytes_eq word (codes "frame") && is_this n number) (option_and_then if_it_fits (any_head scanout width height entry)) head is in
    let front = known_this word (codes "frame") number n told.0 in
    let any = then_parts if_it_fits (any_head scanout width height entry) head told.1 in
    let fits = passes (nat_le (pixels_of any.0) 33554432) (Some any.0) head any.2 in
    let same : any.0 ≡ head = some_is any.0 head fits.1 in
    let few : pixels_of any.0 ≤ 33554432 = leb-true _ _ fits.0 in
    let m = map_parts frame_head (both (both (short scanout) (two width height)) (number_of (2 ^ 63) entry)) any.0 any.1 in
    let parts = both_parts (both (short scanout) (two width height)) (number_of (2 ^ 63) entry) m.0 m.1 in
    let more = both_parts (short scanout) (two width height) m.0.0 parts.0 in
    let first = short_only scanout m.0.0.0 more.0 in
    let sides = two_only width height m.0.0.1 more.1 in
    let last = count_only m.0.1 entry parts.1 in
    let made : frame_head m.0 ≡ head = m.2 ∙ same in
    let few' : pixels_of (frame_head m.0) ≤ 33554432 = subst (λ h. pixels_of h ≤ 33554432) (sym m.2) few in
    subst (λ h. (word ∷ number ∷ scanout ∷ width ∷ height ∷ entry ∷ [] ≡ frame_words n h) × IsCount n × HeadInRange h) made
    (λ i. front.0 i ∷ front.1 i ∷ first.0 i ∷ sides.0 i ∷ sides.1 i ∷ last.0 i ∷ [], front.2, record { scanout = first.1; width = sides.2; height = sides.3; few = few'; entry = last.1 })
frame_only n head words is = no_more head is

-- The last line.
pub text_end : codes "end\n" ≡ line_of end_words
text_end = refl

pub plain_end : All (λ w. is_plain w ≡ true) end_words
unfolding is_plain
plain_end = AllPass-from_list_all is_plain end_words refl

pub end_back : is_end end_words ≡ true
unfolding is_end
end_back = refl

pub end_only : (words : List (List ℕ)) → is_end words ≡ true → words ≡ end_words
unfolding is_end
end_only (word ∷ []) is = ap (λ w. w ∷ []) (same_bytes word (codes "end") is)
end_only words is = absurd (false≢true is)
