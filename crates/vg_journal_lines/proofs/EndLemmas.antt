-- Each state of a reader can be brought to an end.
use Rattle.std.proofs.Common.{◌≡◌, ◌⊎◌, inl, inr, ℕ, zero, suc, ◌+◌, ◌-◌, ◌<◌, ◌≤◌, ◌==◌, ◌^◌, Bool, true, false, nat_lt, nat_le, List, [], ◌∷◌, ◌++◌, length, replicate, decimal, if◌then◌else◌, Some, None, option_map, arith, refl, sym, ap, subst}
use Rattle.std.proofs.lemmas.Bool.{and_from, eqb-false, eq-eqb, leb-true, ltb-true}
use Rattle.std.proofs.lemmas.Bool.Decides.{nat_tests}
use Rattle.std.proofs.lemmas.List.{length-replicate}
use Rattle.std.proofs.lemmas.List.Elements.{All-cons, All-nil, All-append}
use Rattle.std.proofs.lemmas.List.Sums.{AllPass-from_list_all, sum_by-cons}
use Rattle.std.specs.Char.{is_ascii_digit}
use Rattle.std.specs.List.{All, list_all}
use Rattle.vg_laws.proofs.Options.{some_is, or_parts}
use Rattle.vg_limits.specs.Limits.{version_2}
use Rattle.vg_client_holds.specs.Setup.{AreDisplays, parties}
use Rattle.vg_scanout.specs.declared.scanout.Frame.{Frame}
use Rattle.vg_scanout.specs.Scanout.{frame_bytes}
use Rattle.vg_line_words.specs.Words.{AreBelow, number_of, parts_at}
use Rattle.vg_line_words.proofs.NumberLaws.{all_weaker, digits-decimal}
use Rattle.vg_line_words.proofs.ListLaws.{joined_all}
use Rattle.vg_act_lines.proofs.PartLaws.{both_parts, last_plain, map_parts, no_more, then_parts}
use Rattle.vg_journal_lines.specs.declared.counts.FrameHead.{FrameHead}
use Rattle.vg_journal_lines.specs.declared.state.Stage.{Stage}
use Rattle.vg_journal_lines.specs.declared.state.Stage.TheVariants as stages
use Rattle.vg_journal_lines.specs.declared.state.State.{State}
use Rattle.vg_journal_lines.specs.declared.head.Version.{Version}
use Rattle.vg_journal_lines.specs.declared.head.Version.TheVariants.{One, Two}
use Rattle.vg_journal_lines.specs.Versions.{limits_of}
use Rattle.vg_journal_lines.specs.Words.{clients_words, display_words, end_words, frame_words, frames_words, head_of, host_words, joined, memory_words, queues_words, rings_words, title_words}
use Rattle.vg_journal_lines.specs.Read.{clients_of, display_of, frame_of, frames_of, from_one, is_end, is_host, is_queues, is_this, memory_of, pixels_of, rings_of, title_of, without_of}
use Rattle.vg_machine.specs.Entries.{Entry}
use Rattle.vg_act_lines.specs.Read.{both}
use Rattle.vg_journal_lines.specs.Entries.{entry_by, entry_of, sides, who_of}
use Rattle.vg_journal_lines.specs.Moves.{IsKept}
use Rattle.vg_journal_lines.specs.Ranges.{IsCount}
use Rattle.vg_journal_lines.specs.States.{AFrame, Item, Next, Nothing, and_out, clients_step, display_step, end_step, entries_step, entry_step, frame_with, frames_step, head_step, host_step, is_behind, memory_step, piece_step, pixels_step, queues_step, rings_step, run, start, step, title_step, with_clients, with_counts, with_display, with_entry, with_frames, with_head, with_pages, with_version, without_feature, without_step}
use Rattle.vg_journal_lines.specs.Pieces.{FrameInRange, count_pieces, frame_pieces, numbered_pieces, queues_pieces}
use Rattle.vg_journal_lines.proofs.CutLemmas.{goes_on, goes_one, ran}
use Rattle.vg_journal_lines.proofs.StepLemmas.{at_clients, at_displays, at_end, at_entries, at_features, at_frame, at_frames, at_pages, at_pixels, at_version, clients_go, counts_go, displays_go, end_goes, frame_items, frames_go, frame_count_goes, host_goes, nothings, pages_go, queues_go, title_goes, with_host}
use Rattle.vg_journal_lines.proofs.BackLemmas.{Bytes, IsOver, at_start, words_of}
use Rattle.vg_journal_lines.proofs.CountLaws.{frames_only}
use Rattle.vg_journal_lines.proofs.HeadLaws.{clients_only, small_limits}
use Rattle.vg_journal_lines.proofs.TestLaws.{passes, this_only}

-- Bytes of lines.
abbrev are_bytes : List ℕ → Bool
are_bytes piece = list_all (λ b. nat_lt b 256) piece

byte_digit : (b : ℕ) → is_ascii_digit b ≡ true → nat_lt b 256 ≡ true
byte_digit b is = grind (arith, nat_tests)

bytes_decimal : (n : ℕ) → n < 2 ^ 64 → are_bytes (decimal n) ≡ true
bytes_decimal n fits = all_weaker is_ascii_digit (λ b. nat_lt b 256) byte_digit (decimal n) (digits-decimal n fits)

bytes_below : (piece : List ℕ) → are_bytes piece ≡ true → AreBelow 256 piece
bytes_below piece are = λ k d within. ltb-true _ _ (AllPass-from_list_all (λ b. nat_lt b 256) piece are k d within)

line_bytes : (words : List (List ℕ)) → list_all are_bytes words ≡ true → AreBelow 256 (joined words)
line_bytes words are = bytes_below (joined words) (joined_all (λ b. nat_lt b 256) 32 words refl (AllPass-from_list_all are_bytes words are))

-- 0 and 1 as words.
small : (n : ℕ) → n < 2 → are_bytes (decimal n) ≡ true
small n few = bytes_decimal n (omega (arith, few))

zero_word : are_bytes (decimal 0) ≡ true
zero_word = small 0 (omega arith)

one_word : are_bytes (decimal 1) ≡ true
one_word = small 1 (omega arith)

one_below : (piece : List ℕ) → AreBelow 256 piece → Bytes (piece ∷ [])
one_below piece are = All-cons (λ p. AreBelow 256 p) piece [] are (All-nil (λ p. AreBelow 256 p))

-- Pieces that bring a state to an end.
pub record CanEnd (state : State) : Type 0 where
  pub pieces : List (List ℕ)
  pub all : State × List Item
  pub run_is : run state pieces ≡ Some all
  pub over : IsOver all.0
  pub below : Bytes pieces

then_end : (s t : State) (is : List Item) (pieces : List (List ℕ)) → run s pieces ≡ Some (t, is) → Bytes pieces → CanEnd t → CanEnd s
then_end s t is pieces goes below end = record {
  pieces = pieces ++ end.pieces;
  all = (end.all.0, is ++ end.all.1);
  run_is = goes_on pieces end.pieces s t end.all.0 is end.all.1 goes end.run_is;
  over = end.over;
  below = All-append (λ p. AreBelow 256 p) pieces end.pieces below end.below;
}

-- The last line, and frames of no pixels before it.
end_last : (state : State) (count bytes : ℕ) → CanEnd (at_frame state 0 count bytes)
end_last state count bytes = record {
  pieces = joined end_words ∷ [];
  all = (at_end (at_frame state 0 count bytes), Nothing ∷ []);
  run_is = end_goes state count bytes;
  over = refl;
  below = one_below (joined end_words) (line_bytes end_words refl);
}

abbrev no_frame : Frame
no_frame = record { scanout = 0; width = 0; height = 0; entry = 0; pixels = [] }

no_frame_fits : FrameInRange no_frame
no_frame_fits = record {
  head = record { scanout = omega arith; width = omega arith; height = omega arith; few = omega arith; entry = omega arith };
  count = refl;
  pixels = All-nil (λ n. n < 256);
}

abbrev no_frames : ℕ → List Frame
no_frames zero = []
no_frames (suc n) = no_frame ∷ no_frames n

no_frames_many : (n : ℕ) → length (no_frames n) ≡ n
no_frames_many zero = refl
no_frames_many (suc n) = ap suc (no_frames_many n)

no_frames_fit : (n : ℕ) → All FrameInRange (no_frames n)
no_frames_fit zero = All-nil FrameInRange
no_frames_fit (suc n) = All-cons FrameInRange no_frame (no_frames n) no_frame_fits (no_frames_fit n)

no_frames_bytes : (n : ℕ) → frame_bytes (no_frames n) ≡ 0
no_frames_bytes zero = refl
no_frames_bytes (suc n) =
    let more = no_frames_bytes n in
    let sum : frame_bytes (no_frame ∷ no_frames n) ≡ 0 + frame_bytes (no_frames n) = sum_by-cons (λ (f : Frame). length f.pixels) no_frame (no_frames n) in
    omega (arith, more, sum)

no_frame_line : (n : ℕ) → IsCount n → AreBelow 256 (joined (frame_words n (head_of no_frame)))
no_frame_line n small = line_bytes (frame_words n (head_of no_frame)) (and_from _ _ (bytes_decimal n (omega (arith, small))) (and_from _ _ zero_word (and_from _ _ zero_word (and_from _ _ zero_word (last_plain _ zero_word)))))

no_frames_below : (left n : ℕ) → n + left ≤ 2 ^ 63 → Bytes (numbered_pieces frame_pieces n (no_frames left))
no_frames_below zero n few = All-nil (λ p. AreBelow 256 p)
no_frames_below (suc left) n few =
    All-cons (λ p. AreBelow 256 p) (joined (frame_words n (head_of no_frame))) ([] ∷ numbered_pieces frame_pieces (n + 1) (no_frames left)) (no_frame_line n (omega (arith, few)))
    (All-cons (λ p. AreBelow 256 p) [] (numbered_pieces frame_pieces (n + 1) (no_frames left)) (All-nil (λ n. n < 256)) (no_frames_below left (n + 1) (omega (arith, few))))

end_frame : (state : State) (left count bytes : ℕ) → IsCount (count + left) → bytes ≤ 268435456 → CanEnd (at_frame state left count bytes)
end_frame state left count bytes small few =
    let fs = no_frames left in
    let many = no_frames_many left in
    let none = no_frames_bytes left in
    let goes = frames_go state count (count + 1) bytes fs refl (omega (arith, small, many)) (no_frames_fit left) (omega (arith, few, none)) in
    subst (λ n. CanEnd (at_frame state n count bytes)) many
    (then_end (at_frame state (length fs) count bytes) (at_frame state 0 (count + length fs) (bytes + frame_bytes fs)) (frame_items fs) (numbered_pieces frame_pieces (count + 1) fs) goes (no_frames_below left (count + 1) (omega (arith, small)))
    (end_last state (count + length fs) (bytes + frame_bytes fs)))

end_frames : (state : State) (control cursor : ℕ) → CanEnd (at_frames state control cursor)
end_frames state control cursor =
    let after = at_frame (at_frames state control cursor) 0 state.frames state.bytes in
    then_end (at_frames state control cursor) after (Nothing ∷ []) (joined (frames_words 0) ∷ [])
    (goes_one (at_frames state control cursor) after Nothing (joined (frames_words 0)) (frame_count_goes state control cursor 0 (omega arith)))
    (one_below (joined (frames_words 0)) (line_bytes (frames_words 0) (last_plain _ zero_word))) (end_last (at_frames state control cursor) state.frames state.bytes)

end_entries : (state : State) (clients count : ℕ) → CanEnd (at_entries state clients count)
end_entries state clients count =
    let between = at_frames (at_entries state clients count) 0 0 in
    then_end (at_entries state clients count) (at_frame between 0 state.frames state.bytes) (Nothing ∷ Nothing ∷ []) (count_pieces 0 0 0)
    (counts_go state clients count 0 0 0 (omega arith) (omega arith) (omega arith))
    (All-cons (λ p. AreBelow 256 p) (joined (rings_words (0, 0))) (joined (frames_words 0) ∷ []) (line_bytes (rings_words (0, 0)) (and_from _ _ zero_word (last_plain _ zero_word))) (one_below (joined (frames_words 0)) (line_bytes (frames_words 0) (last_plain _ zero_word))))
    (end_last between state.frames state.bytes)

end_clients : (version : Version) (state : State) (clients : ℕ) → CanEnd (at_clients version state clients)
end_clients One state clients = end_entries state clients state.entries
end_clients Two state clients =
    let after = at_entries (with_host state true) clients state.entries in
    then_end (at_clients Two state clients) after (Nothing ∷ []) (joined host_words ∷ [])
    (goes_one (at_clients Two state clients) after Nothing (joined host_words) (host_goes state clients)) (one_below (joined host_words) (line_bytes host_words refl)) (end_entries (with_host state true) clients state.entries)

end_features : (state : State) (pages : ℕ) (out : _) → CanEnd (at_features state pages out)
end_features state pages out =
    then_end (at_features state pages out) (at_clients state.version (at_features state pages out) 0) (Nothing ∷ []) (joined (clients_words 0) ∷ [])
    (clients_go state pages out 0 (omega arith)) (one_below (joined (clients_words 0)) (line_bytes (clients_words 0) (last_plain _ zero_word))) (end_clients state.version (at_features state pages out) 0)

queues_below : (version : Version) → Bytes (queues_pieces version)
queues_below One = All-nil (λ p. AreBelow 256 p)
queues_below Two = one_below (joined queues_words) (line_bytes queues_words refl)

end_queues : (version : Version) (state : State) (pages : ℕ) → CanEnd (at_pages version state pages)
end_queues version state pages =
    then_end (at_pages version state pages) (at_features state pages state.left_out) (nothings (queues_pieces version)) (queues_pieces version) (queues_go version state pages) (queues_below version) (end_features state pages state.left_out)

end_pages : (state : State) (sizes : List (ℕ × ℕ)) → 1 ≤ length sizes → CanEnd (at_displays state sizes)
end_pages state sizes some =
    then_end (at_displays state sizes) (at_features (at_displays state sizes) 1 state.left_out) (Nothing ∷ nothings (queues_pieces state.version)) (joined (memory_words 1) ∷ queues_pieces state.version)
    (pages_go state sizes 1 some (omega arith) (omega arith))
    (All-cons (λ p. AreBelow 256 p) (joined (memory_words 1)) (queues_pieces state.version) (line_bytes (memory_words 1) (last_plain _ one_word)) (queues_below state.version)) (end_features (at_displays state sizes) 1 state.left_out)

one_display : (version : Version) → AreDisplays (limits_of version) ((1, 1) ∷ [])
one_display One = ((omega arith, omega arith, omega arith, omega arith), tt)
one_display Two = ((omega arith, omega arith, omega arith, omega arith), tt)

end_displays : (state : State) (sizes : List (ℕ × ℕ)) → CanEnd (at_displays state sizes)
end_displays state [] =
    then_end (at_displays state []) (at_displays state ((1, 1) ∷ [])) (Nothing ∷ []) (joined (display_words 0 (1, 1)) ∷ [])
    (displays_go state 0 [] ((1, 1) ∷ []) refl (omega arith) (one_display state.version))
    (one_below (joined (display_words 0 (1, 1))) (line_bytes (display_words 0 (1, 1)) (and_from _ _ zero_word (and_from _ _ one_word (last_plain _ one_word))))) (end_pages state ((1, 1) ∷ []) (omega arith))
end_displays state (size ∷ sizes) = end_pages state (size ∷ sizes) (omega arith)

end_title : CanEnd start
end_title =
    then_end start (at_displays (at_version One) []) (Nothing ∷ []) (joined (title_words One) ∷ []) (title_goes One) (one_below (joined (title_words One)) (line_bytes (title_words One) refl)) (end_displays (at_version One) [])

no_pixels_below : (n : ℕ) → AreBelow 256 (replicate n 0)
no_pixels_below zero = All-nil (λ n. n < 256)
no_pixels_below (suc n) = All-cons (λ n. n < 256) 0 (replicate n 0) (omega arith) (no_pixels_below n)

end_pixels : (state : State) (head : FrameHead) (left count bytes : ℕ) → IsCount (count + 1 + left) → bytes ≤ 268435456 → CanEnd (at_pixels state head left count bytes)
end_pixels state head left count bytes small few =
    let none : List ℕ = replicate (pixels_of head) 0 in
    let before = at_pixels state head left count bytes in
    let after = at_frame state left (count + 1) bytes in
    let frame = frame_with head none in
    let goes : step before none ≡ Some (after, AFrame frame) =
    ap (λ b. if b then Some (after, AFrame frame) else None) (eq-eqb (length none) (pixels_of head) (length-replicate (pixels_of head) 0)) in
    then_end before after (AFrame frame ∷ []) (none ∷ []) (goes_one before after (AFrame frame) none goes) (one_below none (no_pixels_below (pixels_of head))) (end_frame state left (count + 1) bytes small few)

-- What is so of each state on the way.
abbrev Zero : State → Type 0
Zero state = (state.frames ≡ 0) × (state.bytes ≡ 0)

-- Before the host and the entries.
abbrev pub Fresh : State → Type 0
Fresh state = (state.frames ≡ 0) × (state.bytes ≡ 0) × (state.entries ≡ 0) × (state.host ≡ false)

abbrev pub Fits : Stage → State → Type 0
Fits stages.Title state = state ≡ start
Fits stages.Displays state = Fresh state
Fits stages.Queues state = (state.frames ≡ 0) × (state.bytes ≡ 0) × (state.entries ≡ 0) × (state.host ≡ false) × (state.version ≡ Two)
Fits stages.Features state = Fresh state
Fits stages.Host state = Fresh state
Fits stages.Entries state = Zero state
Fits stages.Frames state = Zero state
Fits (stages.Frame left) state = IsCount (state.frames + left) × (state.bytes ≤ 268435456)
Fits (stages.Pixels head left) state = IsCount (state.frames + 1 + left) × (state.bytes ≤ 268435456)
Fits stages.Done state = IsCount state.frames × (state.bytes ≤ 268435456)

-- A number of entries can be read, and there are no more clients than there can be.
abbrev pub AreFew : State → Type 0
AreFew state = IsCount state.entries × (state.clients ≤ version_2.clients)

pub record IsFit (state : State) : Type 0 where
  pub few : AreFew state
  pub fits : Fits state.stage state

-- One that stands at a stage is so.
at_stage : (state : State) (stage : Stage) → state.stage ≡ stage → state ≡ (let s : State = record state { stage = stage } in s)
at_stage state stage at = λ i. (let s : State = record state { stage = at i } in s)

fit_end : (stage : Stage) (state : State) → state.stage ≡ stage → Fits stage state → CanEnd state
fit_end stages.Title state at fits = subst CanEnd (sym fits) end_title
fit_end stages.Displays state at fits = subst CanEnd (sym (at_stage state stages.Displays at)) (end_displays state state.displays)
fit_end stages.Queues state at fits = subst CanEnd (sym (at_stage state stages.Queues at)) (end_queues Two state state.pages)
fit_end stages.Features state at fits = subst CanEnd (sym (at_stage state stages.Features at)) (end_features state state.pages state.left_out)
fit_end stages.Host state at fits = subst CanEnd (sym (at_stage state stages.Host at)) (end_clients Two state state.clients)
fit_end stages.Entries state at fits = subst CanEnd (sym (at_stage state stages.Entries at)) (end_entries state state.clients state.entries)
fit_end stages.Frames state at fits = subst CanEnd (sym (at_stage state stages.Frames at)) (end_frames state state.control state.cursor)
fit_end (stages.Frame left) state at fits = subst CanEnd (sym (at_stage state (stages.Frame left) at)) (end_frame state left state.frames state.bytes fits.0 fits.1)
fit_end (stages.Pixels head left) state at fits = subst CanEnd (sym (at_stage state (stages.Pixels head left) at)) (end_pixels state head left state.frames state.bytes fits.0 fits.1)
fit_end stages.Done state at fits = record { pieces = []; all = (state, []); run_is = refl; over = at; below = All-nil (λ p. AreBelow 256 p) }

-- It stays so.
abbrev NextFits : Next → Type 0
NextFits next = IsFit next.0

abbrev fit : (state : State) → AreFew state → Fits state.stage state → IsFit state
fit state few fits = record { few = few; fits = fits }

title_fits : (state : State) (words : List (List ℕ)) (next : Next) → AreFew state → state ≡ start → title_step state words ≡ Some next → NextFits next
title_fits state words next counted fits is =
    let m = map_parts (with_version state) (title_of words) next is in
    subst NextFits m.2 (fit (with_version state m.0).0 counted (ap (λ (s : State). s.frames) fits, ap (λ (s : State). s.bytes) fits, ap (λ (s : State). s.entries) fits, ap (λ (s : State). s.host) fits))

pages_fit : (version : Version) (state : State) (pages : ℕ) → state.version ≡ version → AreFew state → Fresh state → IsFit (at_pages version state pages)
pages_fit One state pages same counted fits = record { few = counted; fits = fits }
pages_fit Two state pages same counted fits = record { few = counted; fits = (fits.0, fits.1, fits.2, fits.3, same) }

displays_fit : (state : State) (words : List (List ℕ)) (next : Next) → AreFew state → state.stage ≡ stages.Displays → Fresh state
    → (display_step state words ≡ Some next) ⊎ (memory_step state words ≡ Some next) → NextFits next
displays_fit state words next counted at fits (inl is) =
    let told = passes (nat_lt (length state.displays) 16) (option_map (with_display state) (display_of (limits_of state.version) (length state.displays) words)) next is in
    let m = map_parts (with_display state) (display_of (limits_of state.version) (length state.displays) words) next told.1 in
    let after : State = (with_display state m.0).0 in
    subst NextFits m.2 (fit after counted (subst (λ stage. Fits stage after) (sym at) fits))
displays_fit state words next counted at fits (inr is) =
    let told = passes (nat_lt 0 (length state.displays)) (option_map (with_pages state) (memory_of words)) next is in
    let m = map_parts (with_pages state) (memory_of words) next told.1 in
    subst NextFits m.2 (pages_fit state.version state m.0 refl counted fits)

queues_fit : (state : State) (words : List (List ℕ)) (next : Next) → AreFew state → Fits stages.Queues state → queues_step state words ≡ Some next → NextFits next
queues_fit state words next counted fits is =
    let after : State = record state { stage = stages.Features } in
    let told = passes (is_queues words) (Some (after, Nothing)) next is in
    subst NextFits (some_is (after, Nothing) next told.1) (fit after counted (fits.0, fits.1, fits.2, fits.3))

clients_fit : (version : Version) (state : State) (clients : ℕ) → IsCount state.entries → clients ≤ version_2.clients → Fresh state → IsFit (at_clients version state clients)
clients_fit One state clients counted few fits = record { few = (counted, few); fits = (fits.0, fits.1) }
clients_fit Two state clients counted few fits = record { few = (counted, few); fits = fits }

features_fit : (state : State) (words : List (List ℕ)) (next : Next) → AreFew state → state.stage ≡ stages.Features → Fresh state
    → (without_step state words ≡ Some next) ⊎ (clients_step state words ≡ Some next) → NextFits next
features_fit state words next counted at fits (inl is) =
    let m = then_parts (without_feature state) (without_of words) next is in
    let after : State = record state { left_out = and_out m.0 state.left_out } in
    let told = passes (is_behind m.0 state.left_out) (Some (after, Nothing)) next m.2 in
    subst NextFits (some_is (after, Nothing) next told.1) (fit after counted (subst (λ stage. Fits stage after) (sym at) fits))
features_fit state words next counted at fits (inr is) =
    let m = map_parts (with_clients state) (clients_of (limits_of state.version) words) next is in
    let read = (clients_only state.version m.0 words m.1).1 in
    let small = (small_limits state.version).clients in
    subst NextFits m.2 (clients_fit state.version state m.0 counted.0 (omega (arith, read, small)) fits)

-- The number of an entry that is read is below 2 ^ 63.
numbered_entry : (n clients : ℕ) (words : List (List ℕ)) (entry : Entry) → entry_of n clients words ≡ Some entry → IsCount n
unfolding entry_of
numbered_entry n clients (number ∷ client ∷ call ∷ kind ∷ words) entry is =
    let m = then_parts (entry_by kind) (both (who_of n clients number client call) (sides words)) entry is in
    let parts = both_parts (who_of n clients number client call) (sides words) m.0 m.1 in
    (this_only n number (passes (is_this n number) (both (from_one (clients + 1) client) (number_of (2 ^ 63) call)) m.0.0 parts.0).0).1
numbered_entry n clients words entry is = no_more entry is

entries_fit : (state : State) (words : List (List ℕ)) (next : Next) → AreFew state → Zero state
    → (rings_step state words ≡ Some next) ⊎ (entry_step state words ≡ Some next) → NextFits next
entries_fit state words next counted fits (inl is) =
    let m = map_parts (with_counts state) (rings_of words) next is in
    subst NextFits m.2 (fit (with_counts state m.0).0 counted fits)
entries_fit state words next counted fits (inr is) =
    let many = parties state.clients state.host in
    let m = map_parts (with_entry state) (entry_of (state.entries + 1) many words) next is in
    subst NextFits m.2 (fit (with_entry state m.0).0 (numbered_entry (state.entries + 1) many words m.0 m.1, counted.1) fits)

host_fits : (state : State) (words : List (List ℕ)) (next : Next) → AreFew state → Fresh state
    → (host_step state words ≡ Some next) ⊎ (entries_step state words ≡ Some next) → NextFits next
host_fits state words next counted fits (inl is) =
    let after : State = record state { stage = stages.Entries; host = true } in
    let told = passes (is_host words) (Some (after, Nothing)) next is in
    subst NextFits (some_is (after, Nothing) next told.1) (fit after counted (fits.0, fits.1))
host_fits state words next counted fits (inr is) = entries_fit state words next counted (fits.0, fits.1) (or_parts (rings_step state words) (entry_step state words) next is)

frames_fit : (state : State) (words : List (List ℕ)) (next : Next) → AreFew state → Zero state → frames_step state words ≡ Some next → NextFits next
frames_fit state words next counted fits is =
    let m = map_parts (with_frames state) (frames_of words) next is in
    let read = frames_only m.0 words m.1 in
    let small = read.1 in
    let none = fits.0 in
    let none' = fits.1 in
    subst NextFits m.2 (fit (with_frames state m.0).0 counted (omega (arith, small, none), omega (arith, none')))

frame_fits : (b : Bool) (left : ℕ) (state : State) (words : List (List ℕ)) (next : Next) → AreFew state → (left == 0) ≡ b → IsCount (state.frames + left) → state.bytes ≤ 268435456
    → (if b then end_step state words else head_step (left - 1) state words) ≡ Some next → NextFits next
frame_fits true left state words next counted none small few is =
    let after : State = record state { stage = stages.Done } in
    let told = passes (is_end words) (Some (after, Nothing)) next is in
    subst NextFits (some_is (after, Nothing) next told.1) (fit after counted (omega (arith, small), few))
frame_fits false left state words next counted some small few is =
    let m = then_parts (with_head (left - 1) state) (frame_of (state.frames + 1) words) next is in
    let after : State = record state { stage = stages.Pixels m.0 (left - 1); bytes = state.bytes + pixels_of m.0 } in
    let told = passes (nat_le (state.bytes + pixels_of m.0) 268435456) (Some (after, Nothing)) next m.2 in
    let other = eqb-false left 0 some in
    subst NextFits (some_is (after, Nothing) next told.1) (fit after counted (omega (arith, small, other), leb-true _ _ told.0))

pixels_fit : (head : FrameHead) (left : ℕ) (state : State) (piece : List ℕ) (next : Next) → AreFew state → IsCount (state.frames + 1 + left) → state.bytes ≤ 268435456 → pixels_step head left state piece ≡ Some next → NextFits next
pixels_fit head left state piece next counted small few is =
    let after : State = record state { stage = stages.Frame left; frames = state.frames + 1 } in
    let told = passes (length piece == pixels_of head) (Some (after, AFrame (frame_with head piece))) next is in
    subst NextFits (some_is (after, AFrame (frame_with head piece)) next told.1) (fit after counted (small, few))

step_fits : (stage : Stage) (state : State) (piece : List ℕ) (next : Next) → AreFew state → state.stage ≡ stage → Fits stage state → piece_step stage state piece ≡ Some next → NextFits next
step_fits stages.Title state piece next counted at fits is = title_fits state (parts_at 32 piece) next counted fits (words_of stages.Title state piece next tt is)
step_fits stages.Displays state piece next counted at fits is =
    let words = parts_at 32 piece in
    displays_fit state words next counted at fits (or_parts (display_step state words) (memory_step state words) next (words_of stages.Displays state piece next tt is))
step_fits stages.Queues state piece next counted at fits is = queues_fit state (parts_at 32 piece) next counted fits (words_of stages.Queues state piece next tt is)
step_fits stages.Features state piece next counted at fits is =
    let words = parts_at 32 piece in
    features_fit state words next counted at fits (or_parts (without_step state words) (clients_step state words) next (words_of stages.Features state piece next tt is))
step_fits stages.Host state piece next counted at fits is =
    let words = parts_at 32 piece in
    host_fits state words next counted fits (or_parts (host_step state words) (entries_step state words) next (words_of stages.Host state piece next tt is))
step_fits stages.Entries state piece next counted at fits is =
    let words = parts_at 32 piece in
    entries_fit state words next counted fits (or_parts (rings_step state words) (entry_step state words) next (words_of stages.Entries state piece next tt is))
step_fits stages.Frames state piece next counted at fits is = frames_fit state (parts_at 32 piece) next counted fits (words_of stages.Frames state piece next tt is)
step_fits (stages.Frame left) state piece next counted at fits is =
    frame_fits (left == 0) left state (parts_at 32 piece) next counted refl fits.0 fits.1 (words_of (stages.Frame left) state piece next tt is)
step_fits (stages.Pixels head left) state piece next counted at fits is = pixels_fit head left state piece next counted fits.0 fits.1 is
step_fits stages.Done state piece next counted at fits is = no_more next is

pub run_fits : (pieces : List (List ℕ)) (state : State) (all : State × List Item) → IsFit state → run state pieces ≡ Some all → IsFit all.0
run_fits [] state all fits is = subst IsFit (at_start state all is) fits
run_fits (piece ∷ pieces) state all fits is =
    let r = ran state piece pieces all is in
    let next = step_fits state.stage state piece r.next fits.few refl fits.fits r.first in
    subst IsFit (ap (λ a. a.0) r.is) (run_fits pieces r.next.0 r.more next r.rest)

pub start_fits : IsFit start
start_fits = record { few = (omega arith, omega arith); fits = refl }

-- Whatever was read can be brought to an end.
pub can_end : (pieces : List (List ℕ)) (all : State × List Item) → run start pieces ≡ Some all → CanEnd all.0
can_end pieces all is = fit_end all.0.stage all.0 refl (run_fits pieces start all start_fits is).fits

-- Whatever was read has small counts.
few_counts : (stage : Stage) (state : State) → Fits stage state → IsCount state.frames × (state.bytes ≤ 268435456)
few_counts stages.Title state fits =
    let none : state.frames ≡ 0 = ap (λ (s : State). s.frames) fits in
    let none' : state.bytes ≡ 0 = ap (λ (s : State). s.bytes) fits in
    (omega (arith, none), omega (arith, none'))
few_counts stages.Displays state fits = let none = fits.0 in let none' = fits.1 in (omega (arith, none), omega (arith, none'))
few_counts stages.Queues state fits = let none = fits.0 in let none' = fits.1 in (omega (arith, none), omega (arith, none'))
few_counts stages.Features state fits = let none = fits.0 in let none' = fits.1 in (omega (arith, none), omega (arith, none'))
few_counts stages.Host state fits = let none = fits.0 in let none' = fits.1 in (omega (arith, none), omega (arith, none'))
few_counts stages.Entries state fits = let none = fits.0 in let none' = fits.1 in (omega (arith, none), omega (arith, none'))
few_counts stages.Frames state fits = let none = fits.0 in let none' = fits.1 in (omega (arith, none), omega (arith, none'))
few_counts (stages.Frame left) state fits = let small = fits.0 in (omega (arith, small), fits.1)
few_counts (stages.Pixels head left) state fits = let small = fits.0 in (omega (arith, small), fits.1)
few_counts stages.Done state fits = (fits.0, fits.1)

pub run_kept : (pieces : List (List ℕ)) (all : State × List Item) → run start pieces ≡ Some all → IsKept all.0
run_kept pieces all is =
    let fits = run_fits pieces start all start_fits is in
    let counts = few_counts all.0.stage all.0 fits.fits in
    (fits.few.0, counts.0, counts.1, fits.few.1)
