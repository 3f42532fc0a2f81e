-- The steps of a run over a journal's pieces.
use Rattle.std.proofs.Common.{◌≡◌, ℕ, ◌+◌, ◌-◌, ◌<◌, ◌≤◌, Bool, true, false, nat_lt, List, [], ◌∷◌, ◌++◌, length, map, if◌then◌else◌, Some, None, option_map, option_and_then, arith, refl, sym, ap, ◌∙◌, subst, append_assoc, append-nil, length-append}
use Rattle.std.proofs.lemmas.Bool.{eq-eqb, false≢true, le-leb, lt-ltb, ne_eqb}
use Rattle.std.proofs.lemmas.List.Elements.{All-head, All-tail}
use Rattle.std.proofs.lemmas.List.Sums.{sum_by-cons}
use Rattle.std.specs.List.{All}
use Rattle.std.specs.Option.{option_or}
use Rattle.vg_history.specs.declared.entry.Entry.TheVariants as entries
use Rattle.vg_client_holds.specs.Setup.{AreAccepted, AreDisplays, IsDisplay, features_without, parties}
use Rattle.vg_machine.specs.Entries.{Entry}
use Rattle.vg_scanout.specs.declared.scanout.Frame.{Frame}
use Rattle.vg_scanout.specs.Scanout.{frame_bytes}
use Rattle.vg_line_words.specs.Words.{is_plain, parts_at}
use Rattle.vg_journal_lines.specs.declared.counts.FrameHead.{FrameHead}
use Rattle.vg_journal_lines.specs.declared.state.LeftOut.{LeftOut}
use Rattle.vg_journal_lines.specs.declared.state.Stage.{Stage}
use Rattle.vg_journal_lines.specs.declared.state.Stage.TheVariants as stages
use Rattle.vg_journal_lines.specs.declared.state.State.{State}
use Rattle.vg_journal_lines.specs.declared.head.Version.{Version}
use Rattle.vg_journal_lines.specs.declared.head.Version.TheVariants.{One, Two}
use Rattle.vg_journal_lines.specs.Versions.{limits_of}
use Rattle.vg_journal_lines.specs.Words.{clients_words, display_words, end_words, frame_words, frames_words, head_of, host_words, joined, memory_words, queues_words, rings_words, title_words}
use Rattle.vg_journal_lines.specs.Read.{display_of, frame_of, is_host, memory_of, pixels_of, rings_of, without_of}
use Rattle.vg_journal_lines.specs.Ranges.{IsCount}
use Rattle.vg_journal_lines.specs.Entries.{EntryInRange, entry_of, entry_words}
use Rattle.vg_journal_lines.specs.States.{AFrame, AnEntry, Item, Next, Nothing, and_given, behind_clients, behind_pages, clients_step, display_step, end_step, entries_step, entry_step, frame_with, head_step, line_step, memory_step, none_left_out, piece_step, rings_step, run, start, step, with_clients, with_counts, with_display, with_entry, with_frames, with_head, with_pages, with_version, without_step, words_step}
use Rattle.vg_journal_lines.specs.Pieces.{FrameInRange, count_pieces, display_pieces, entry_pieces, frame_pieces, host_pieces, left_out_of, numbered_pieces, queues_pieces, without_piece, without_pieces}
use Rattle.vg_journal_lines.proofs.HeadLaws.{clients_back, display_back, host_back, memory_back, plain_clients, plain_display, plain_host, plain_memory, plain_queues, plain_title, queues_back, title_back}
use Rattle.vg_journal_lines.proofs.CountLaws.{end_back, frame_back, frames_back, plain_end, plain_frame, plain_frames, plain_rings, rings_back}
use Rattle.vg_journal_lines.proofs.EntryLaws.{CommandsAreSaid, entry_are_words, entry_back}
use Rattle.vg_journal_lines.proofs.JoinLemmas.{AreWords, plain_words, words_line, words_parts}
use Rattle.vg_journal_lines.proofs.CutLemmas.{goes_more, goes_one}
use Rattle.vg_limits.specs.Limits.{version_2}

-- A stage at which a line comes.
abbrev pub HasLine : Stage → Type 0
HasLine (stages.Pixels head left) = ⊥
HasLine stages.Done = ⊥
HasLine stage = Unit {0}

line_said : (stage : Stage) (state : State) (words : List (List ℕ)) → AreWords words → line_step stage state (joined words) ≡ words_step stage state words
line_said stage state words are =
    ap (λ b. if b then words_step stage state (parts_at 32 (joined words)) else None) (words_line words are) ∙ ap (words_step stage state) (words_parts words are)

-- The step of a line is that of its words.
pub said : (stage : Stage) (state : State) (words : List (List ℕ)) → HasLine stage → AreWords words → piece_step stage state (joined words) ≡ words_step stage state words
said stages.Title state words line are = line_said stages.Title state words are
said stages.Displays state words line are = line_said stages.Displays state words are
said stages.Queues state words line are = line_said stages.Queues state words are
said stages.Features state words line are = line_said stages.Features state words are
said stages.Host state words line are = line_said stages.Host state words are
said stages.Entries state words line are = line_said stages.Entries state words are
said stages.Frames state words line are = line_said stages.Frames state words are
said (stages.Frame left) state words line are = line_said (stages.Frame left) state words are
said (stages.Pixels head left) state words line are = absurd line
said stages.Done state words line are = absurd line

plain : (word : List ℕ) (words : List (List ℕ)) → All (λ w. is_plain w ≡ true) (word ∷ words) → AreWords (word ∷ words)
plain word words are = plain_words (word ∷ words) (record { word = word; more = words; is = refl }) are

-- As many times nothing.
abbrev pub nothings : {X : Type 0} → List X → List Item
nothings [] = []
nothings (x ∷ xs) = Nothing ∷ nothings xs

-- The title.
abbrev pub at_version : Version → State
at_version version = record start { version = version }

abbrev pub at_displays : State → List (ℕ × ℕ) → State
at_displays state front = record state { stage = stages.Displays; displays = front }

pub title_goes : (version : Version) → run start (joined (title_words version) ∷ []) ≡ Some (at_displays (at_version version) [], Nothing ∷ [])
title_goes version =
    goes_one start (at_displays (at_version version) []) Nothing (joined (title_words version))
    (said stages.Title start (title_words version) tt (plain _ _ (plain_title version)) ∙ ap (option_map (with_version start)) (title_back version))

-- Displays.
display_said : (state : State) (n : ℕ) (front : List (ℕ × ℕ)) (size : ℕ × ℕ) → length front ≡ n → n < 16 → IsDisplay (limits_of state.version) size → display_step (at_displays state front) (display_words n size) ≡ Some (at_displays state (front ++ size ∷ []), Nothing)
display_said state n front size same few r =
    ap (λ b. if b then option_map (with_display (at_displays state front)) (display_of (limits_of state.version) (length front) (display_words n size)) else None) (lt-ltb (length front) 16 (omega (arith, same, few)))
    ∙ ap (λ k. option_map (with_display (at_displays state front)) (display_of (limits_of state.version) k (display_words n size))) same
    ∙ ap (option_map (with_display (at_displays state front))) (display_back state.version n size (omega (arith, few)) r)

pub displays_go : (state : State) (n : ℕ) (front sizes : List (ℕ × ℕ)) → length front ≡ n → n + length sizes ≤ 16 → AreDisplays (limits_of state.version) sizes
    → run (at_displays state front) (numbered_pieces display_pieces n sizes) ≡ Some (at_displays state (front ++ sizes), nothings sizes)
displays_go state n front [] same few r = ap (λ l. Some (at_displays state l, [])) (sym (append-nil front))
displays_go state n front (size ∷ sizes) same few r =
    let small : n < 16 = omega (arith, few) in
    let words = plain _ _ (plain_display state.version n size (omega (arith, small)) r.0) in
    let first : step (at_displays state front) (joined (display_words n size)) ≡ Some (at_displays state (front ++ size ∷ []), Nothing) =
    said stages.Displays (at_displays state front) (display_words n size) tt words
    ∙ ap (λ o. option_or o (memory_step (at_displays state front) (display_words n size))) (display_said state n front size same small r.0) in
    let longer = length-append front (size ∷ []) in
    let rest = displays_go state (n + 1) (front ++ size ∷ []) sizes (omega (arith, longer, same)) (omega (arith, few)) r.1 in
    goes_more (at_displays state front) (at_displays state (front ++ size ∷ [])) Nothing (joined (display_words n size)) (numbered_pieces display_pieces (n + 1) sizes) (at_displays state ((front ++ size ∷ []) ++ sizes), nothings sizes) first rest
    ∙ ap (λ l. Some (at_displays state l, Nothing ∷ nothings sizes)) (append_assoc front (size ∷ []) sizes)

-- Pages, and the queues.
abbrev pub at_pages : Version → State → ℕ → State
at_pages version state pages = record state { stage = behind_pages version; pages = pages }

abbrev pub at_features : State → ℕ → LeftOut → State
at_features state pages out = record state { stage = stages.Features; pages = pages; left_out = out }

no_display : (b : Bool) (state : State) (n pages : ℕ) → (if b then option_map (with_display state) (display_of (limits_of state.version) n (memory_words pages)) else None) ≡ None
unfolding display_of
no_display true state n pages = refl
no_display false state n pages = refl

pub queues_go : (version : Version) (state : State) (pages : ℕ) → run (at_pages version state pages) (queues_pieces version) ≡ Some (at_features state pages state.left_out, nothings (queues_pieces version))
queues_go One state pages = refl
queues_go Two state pages =
    let before = at_pages Two state pages in
    let after = at_features state pages state.left_out in
    goes_one before after Nothing (joined queues_words)
    (said stages.Queues before queues_words tt (plain _ _ plain_queues) ∙ ap (λ b. if b then Some (after, Nothing) else None) queues_back)

pub pages_go : (state : State) (sizes : List (ℕ × ℕ)) (pages : ℕ) → 1 ≤ length sizes → 1 ≤ pages → pages ≤ 16384
    → run (at_displays state sizes) (joined (memory_words pages) ∷ queues_pieces state.version)
    ≡ Some (at_features (at_displays state sizes) pages state.left_out, Nothing ∷ nothings (queues_pieces state.version))
pages_go state sizes pages some one few =
    let before = at_displays state sizes in
    let words = plain _ _ (plain_memory pages few) in
    goes_more before (at_pages state.version before pages) Nothing (joined (memory_words pages)) (queues_pieces state.version)
    (at_features before pages state.left_out, nothings (queues_pieces state.version))
    (said stages.Displays before (memory_words pages) tt words
    ∙ ap (λ o. option_or o (memory_step before (memory_words pages))) (no_display (nat_lt (length sizes) 16) before (length sizes) pages)
    ∙ ap (λ b. if b then option_map (with_pages before) (memory_of (memory_words pages)) else None) (lt-ltb 0 (length sizes) (omega (arith, some)))
    ∙ ap (option_map (with_pages before)) (memory_back pages one few))
    (queues_go state.version before pages)

-- Features that are left out.
pub features_go : (state : State) (pages : ℕ) (edid uuid blob context : Bool)
    → run (at_features state pages none_left_out) (without_pieces (features_without edid uuid blob context))
    ≡ Some (at_features state pages (left_out_of (features_without edid uuid blob context)), nothings (without_pieces (features_without edid uuid blob context)))
unfolding without_pieces without_piece left_out_of parts_at without_of
features_go state pages false false false false = refl
features_go state pages false false false true = refl
features_go state pages false false true false = refl
features_go state pages false false true true = refl
features_go state pages false true false false = refl
features_go state pages false true false true = refl
features_go state pages false true true false = refl
features_go state pages false true true true = refl
features_go state pages true false false false = refl
features_go state pages true false false true = refl
features_go state pages true false true false = refl
features_go state pages true false true true = refl
features_go state pages true true false false = refl
features_go state pages true true false true = refl
features_go state pages true true true false = refl
features_go state pages true true true true = refl

pub accepted_go : (state : State) (pages accepted : ℕ) → AreAccepted accepted
    → run (at_features state pages none_left_out) (without_pieces accepted) ≡ Some (at_features state pages (left_out_of accepted), nothings (without_pieces accepted))
accepted_go state pages accepted are =
    subst (λ f. run (at_features state pages none_left_out) (without_pieces f) ≡ Some (at_features state pages (left_out_of f), nothings (without_pieces f))) (sym are.left)
    (features_go state pages are.edid are.uuid are.blob are.context)

-- Features are told by what is left out.
abbrev pub features_but : LeftOut → ℕ
features_but out = features_without out.edid out.uuid out.blob out.context

features_told : (edid uuid blob context : Bool) → features_but (left_out_of (features_without edid uuid blob context)) ≡ features_without edid uuid blob context
unfolding left_out_of
features_told false false false false = refl
features_told false false false true = refl
features_told false false true false = refl
features_told false false true true = refl
features_told false true false false = refl
features_told false true false true = refl
features_told false true true false = refl
features_told false true true true = refl
features_told true false false false = refl
features_told true false false true = refl
features_told true false true false = refl
features_told true false true true = refl
features_told true true false false = refl
features_told true true false true = refl
features_told true true true false = refl
features_told true true true true = refl

pub accepted_told : (accepted : ℕ) → AreAccepted accepted → features_but (left_out_of accepted) ≡ accepted
accepted_told accepted are = subst (λ f. features_but (left_out_of f) ≡ f) (sym are.left) (features_told are.edid are.uuid are.blob are.context)

-- Clients.
abbrev pub at_clients : Version → State → ℕ → State
at_clients version state clients = record state { stage = behind_clients version; clients = clients }

abbrev pub at_entries : State → ℕ → ℕ → State
at_entries state clients count = record state { stage = stages.Entries; clients = clients; entries = count }

no_feature : (state : State) (clients : ℕ) → without_step state (clients_words clients) ≡ None
unfolding without_of
no_feature state clients = refl

pub clients_go : (state : State) (pages : ℕ) (out : LeftOut) (clients : ℕ) → clients ≤ (limits_of state.version).clients
    → run (at_features state pages out) (joined (clients_words clients) ∷ []) ≡ Some (at_clients state.version (at_features state pages out) clients, Nothing ∷ [])
clients_go state pages out clients few =
    let before = at_features state pages out in
    let words = plain _ _ (plain_clients state.version clients few) in
    goes_one before (at_clients state.version before clients) Nothing (joined (clients_words clients))
    (said stages.Features before (clients_words clients) tt words
    ∙ ap (λ o. option_or o (clients_step before (clients_words clients))) (no_feature before clients)
    ∙ ap (option_map (with_clients before)) (clients_back state.version clients few))

-- The host.
abbrev pub with_host : State → Bool → State
with_host state host = record state { host = host }

pub host_goes : (state : State) (clients : ℕ) → step (at_clients Two state clients) (joined host_words) ≡ Some (at_entries (with_host state true) clients state.entries, Nothing)
host_goes state clients =
    let before = at_clients Two state clients in
    let after = at_entries (with_host state true) clients state.entries in
    said stages.Host before host_words tt (plain _ _ plain_host)
    ∙ ap (λ b. option_or (if b then Some (after, Nothing) else None) (entries_step before host_words)) host_back

-- A line that isn't the host's is read as in front of entries.
no_host : (state : State) (clients : ℕ) (words : List (List ℕ)) → AreWords words → is_host words ≡ false
    → step (at_clients Two state clients) (joined words) ≡ step (at_clients One state clients) (joined words)
no_host state clients words are other =
    let before = at_clients Two state clients in
    let after = at_entries (with_host state true) clients state.entries in
    said stages.Host before words tt are
    ∙ ap (λ b. option_or (if b then Some (after, Nothing) else None) (entries_step before words)) other
    ∙ sym (said stages.Entries (at_clients One state clients) words tt are)

pub behind_go : (version : Version) (state : State) (clients : ℕ) (host : Bool) (words : List (List ℕ)) (pieces : List (List ℕ)) (all : State × List Item)
    → (version ≡ One → host ≡ false) → AreWords words → is_host words ≡ false
    → run (at_entries (with_host state host) clients state.entries) (joined words ∷ pieces) ≡ Some all
    → run (at_clients version (with_host state false) clients) (host_pieces host ++ joined words ∷ pieces) ≡ Some (all.0, nothings (host_pieces host) ++ all.1)
behind_go One state clients true words pieces all none are other is = absurd (false≢true (sym (none refl)))
behind_go One state clients false words pieces all none are other is = is
behind_go Two state clients true words pieces all none are other is =
    goes_more (at_clients Two (with_host state false) clients) (at_entries (with_host state true) clients state.entries) Nothing (joined host_words) (joined words ∷ pieces) all
    (host_goes (with_host state false) clients) is
behind_go Two state clients false words pieces all none are other is =
    ap (option_and_then (λ (next : Next). and_given next.1 (run next.0 pieces))) (no_host (with_host state false) clients words are other) ∙ is

-- Entries.
no_rings : (state : State) (n : ℕ) (entry : Entry) → rings_step state (entry_words n entry) ≡ None
unfolding rings_of
no_rings state n (entries.Act client call act reply) = refl
no_rings state n (entries.Command client call request reply) = refl

entry_goes : CommandsAreSaid → (state : State) (clients count n : ℕ) (entry : Entry) → n ≡ count + 1 → parties clients state.host ≤ version_2.clients + 1 → IsCount n → EntryInRange (parties clients state.host) entry
    → step (at_entries state clients count) (joined (entry_words n entry)) ≡ Some (at_entries state clients (count + 1), AnEntry entry)
entry_goes commands state clients count n entry place most small r =
    let before = at_entries state clients count in
    said stages.Entries before (entry_words n entry) tt (entry_are_words commands n (parties clients state.host) entry most small r)
    ∙ ap (λ o. option_or o (entry_step before (entry_words n entry))) (no_rings before n entry)
    ∙ ap (λ k. option_map (with_entry before) (entry_of k (parties clients state.host) (entry_words n entry))) (sym place)
    ∙ ap (option_map (with_entry before)) (entry_back commands n (parties clients state.host) entry most small r)

pub entries_go : CommandsAreSaid → (state : State) (clients count n : ℕ) (es : List Entry) → n ≡ count + 1 → parties clients state.host ≤ version_2.clients + 1 → IsCount (count + length es) → All (EntryInRange (parties clients state.host)) es
    → run (at_entries state clients count) (numbered_pieces entry_pieces n es) ≡ Some (at_entries state clients (count + length es), map AnEntry es)
entries_go commands state clients count n [] place most small r = let same : count ≡ count + 0 = omega arith in ap (λ k. Some (at_entries state clients k, [])) same
entries_go commands state clients count n (entry ∷ es) place most small r =
    let this : IsCount n = omega (arith, place, small) in
    let first = entry_goes commands state clients count n entry place most this (All-head (EntryInRange (parties clients state.host)) entry es r) in
    let rest = entries_go commands state clients (count + 1) (n + 1) es (omega (arith, place)) most (omega (arith, small)) (All-tail (EntryInRange (parties clients state.host)) entry es r) in
    let sum : count + 1 + length es ≡ count + length (entry ∷ es) = omega arith in
    goes_more (at_entries state clients count) (at_entries state clients (count + 1)) (AnEntry entry) (joined (entry_words n entry)) (numbered_pieces entry_pieces (n + 1) es) (at_entries state clients (count + 1 + length es), map AnEntry es) first rest
    ∙ ap (λ k. Some (at_entries state clients k, AnEntry entry ∷ map AnEntry es)) sum

-- Counts.
abbrev pub at_frames : State → ℕ → ℕ → State
at_frames state control cursor = record state { stage = stages.Frames; control = control; cursor = cursor }

abbrev pub at_frame : State → ℕ → ℕ → ℕ → State
at_frame state left count bytes = record state { stage = stages.Frame left; frames = count; bytes = bytes }

rings_go : (state : State) (clients count control cursor : ℕ) → IsCount control → IsCount cursor
    → step (at_entries state clients count) (joined (rings_words (control, cursor))) ≡ Some (at_frames (at_entries state clients count) control cursor, Nothing)
rings_go state clients count control cursor first second =
    let before = at_entries state clients count in
    let words = plain _ _ (plain_rings (control, cursor) first second) in
    said stages.Entries before (rings_words (control, cursor)) tt words
    ∙ ap (λ o. option_or (option_map (with_counts before) o) (entry_step before (rings_words (control, cursor)))) (rings_back (control, cursor) first second)

pub frame_count_goes : (state : State) (control cursor frames : ℕ) → IsCount frames
    → step (at_frames state control cursor) (joined (frames_words frames)) ≡ Some (at_frame (at_frames state control cursor) frames state.frames state.bytes, Nothing)
frame_count_goes state control cursor frames small =
    let before = at_frames state control cursor in
    let words = plain _ _ (plain_frames frames small) in
    said stages.Frames before (frames_words frames) tt words ∙ ap (option_map (with_frames before)) (frames_back frames small)

pub counts_go : (state : State) (clients count control cursor frames : ℕ) → IsCount control → IsCount cursor → IsCount frames
    → run (at_entries state clients count) (count_pieces control cursor frames)
    ≡ Some (at_frame (at_frames (at_entries state clients count) control cursor) frames state.frames state.bytes, Nothing ∷ Nothing ∷ [])
counts_go state clients count control cursor frames first second third =
    let before = at_entries state clients count in
    let between = at_frames before control cursor in
    let after = at_frame between frames state.frames state.bytes in
    goes_more before between Nothing (joined (rings_words (control, cursor))) (joined (frames_words frames) ∷ []) (after, Nothing ∷ [])
    (rings_go state clients count control cursor first second)
    (goes_one between after Nothing (joined (frames_words frames)) (frame_count_goes before control cursor frames third))

-- Frames.
abbrev pub frame_items : List Frame → List Item
frame_items [] = []
frame_items (frame ∷ frames) = Nothing ∷ AFrame frame ∷ frame_items frames

abbrev pub at_pixels : State → FrameHead → ℕ → ℕ → ℕ → State
at_pixels state head left count bytes = record state { stage = stages.Pixels head left; frames = count; bytes = bytes }

head_goes : (state : State) (more left count n bytes : ℕ) (frame : Frame) → more ≡ left + 1 → n ≡ count + 1 → IsCount n → FrameInRange frame → bytes + length frame.pixels ≤ 268435456
    → step (at_frame state more count bytes) (joined (frame_words n (head_of frame))) ≡ Some (at_pixels state (head_of frame) left count (bytes + length frame.pixels), Nothing)
head_goes state more left count n bytes frame some place small r few =
    let before = at_frame state more count bytes in
    let head = head_of frame in
    let size = r.count in
    let words : AreWords (frame_words n head) = plain _ _ (plain_frame n head small r.head) in
    let one_less : more - 1 ≡ left = omega (arith, some) in
    said (stages.Frame more) before (frame_words n head) tt words
    ∙ ap (λ b. if b then end_step before (frame_words n head) else head_step (more - 1) before (frame_words n head)) (ne_eqb more 0 (λ none. omega (arith, some, none)))
    ∙ ap (λ k. option_and_then (with_head (more - 1) before) (frame_of k (frame_words n head))) (sym place)
    ∙ ap (option_and_then (with_head (more - 1) before)) (frame_back n head small r.head)
    ∙ ap (λ b. if b then Some (at_pixels state head (more - 1) count (bytes + pixels_of head), Nothing) else None) (le-leb (bytes + pixels_of head) 268435456 (omega (arith, few, size)))
    ∙ (λ i. Some (at_pixels state head (one_less i) count (bytes + sym size i), Nothing))

pixels_go : (state : State) (left count bytes : ℕ) (frame : Frame) → FrameInRange frame
    → step (at_pixels state (head_of frame) left count bytes) frame.pixels ≡ Some (at_frame state left (count + 1) bytes, AFrame frame)
pixels_go state left count bytes frame r =
    ap (λ b. if b then Some (at_frame state left (count + 1) bytes, AFrame (frame_with (head_of frame) frame.pixels)) else None) (eq-eqb (length frame.pixels) (pixels_of (head_of frame)) r.count)

pub frames_go : (state : State) (count n bytes : ℕ) (fs : List Frame) → n ≡ count + 1 → IsCount (count + length fs) → All FrameInRange fs → bytes + frame_bytes fs ≤ 268435456
    → run (at_frame state (length fs) count bytes) (numbered_pieces frame_pieces n fs) ≡ Some (at_frame state 0 (count + length fs) (bytes + frame_bytes fs), frame_items fs)
frames_go state count n bytes [] place small r few =
    let same : count ≡ count + 0 = omega arith in
    let same' : bytes ≡ bytes + 0 = omega arith in
    λ i. Some (at_frame state 0 (same i) (same' i), [])
frames_go state count n bytes (frame ∷ fs) place small r few =
    let this = All-head FrameInRange frame fs r in
    let before = at_frame state (length (frame ∷ fs)) count bytes in
    let between = at_pixels state (head_of frame) (length fs) count (bytes + length frame.pixels) in
    let after = at_frame state (length fs) (count + 1) (bytes + length frame.pixels) in
    let last = at_frame state 0 (count + 1 + length fs) (bytes + length frame.pixels + frame_bytes fs) in
    let size : frame_bytes (frame ∷ fs) ≡ length frame.pixels + frame_bytes fs = sum_by-cons (λ (f : Frame). length f.pixels) frame fs in
    let first = head_goes state (length (frame ∷ fs)) (length fs) count n bytes frame (omega arith) place (omega (arith, place, small)) this (omega (arith, few, size)) in
    let second = pixels_go state (length fs) count (bytes + length frame.pixels) frame this in
    let rest = frames_go state (count + 1) (n + 1) (bytes + length frame.pixels) fs (omega (arith, place)) (omega (arith, small)) (All-tail FrameInRange frame fs r) (omega (arith, few, size)) in
    let sum : count + 1 + length fs ≡ count + length (frame ∷ fs) = omega arith in
    let sum' : bytes + length frame.pixels + frame_bytes fs ≡ bytes + frame_bytes (frame ∷ fs) = omega (arith, size) in
    goes_more before between Nothing (joined (frame_words n (head_of frame))) (frame.pixels ∷ numbered_pieces frame_pieces (n + 1) fs) (last, AFrame frame ∷ frame_items fs) first
    (goes_more between after (AFrame frame) frame.pixels (numbered_pieces frame_pieces (n + 1) fs) (last, frame_items fs) second rest)
    ∙ (λ i. Some (at_frame state 0 (sum i) (sum' i), Nothing ∷ AFrame frame ∷ frame_items fs))

-- The last line.
abbrev pub at_end : State → State
at_end state = record state { stage = stages.Done }

pub end_goes : (state : State) (count bytes : ℕ) → run (at_frame state 0 count bytes) (joined end_words ∷ []) ≡ Some (at_end (at_frame state 0 count bytes), Nothing ∷ [])
end_goes state count bytes =
    let before = at_frame state 0 count bytes in
    goes_one before (at_end before) Nothing (joined end_words)
    (said (stages.Frame 0) before end_words tt (plain _ _ plain_end) ∙ ap (λ b. if b then Some (at_end before, Nothing) else None) end_back)
