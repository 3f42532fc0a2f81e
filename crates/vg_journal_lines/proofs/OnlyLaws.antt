-- What is read to its end is a journal's pieces.
use Rattle.std.proofs.Common.{◌≡◌, ◌⊎◌, inl, inr, ℕ, ◌+◌, ◌<◌, ◌≤◌, Bool, true, false, nat_lt, List, [], ◌∷◌, ◌++◌, length, if◌then◌else◌, Some, None, option_map, option_and_then, arith, refl, sym, ap, ◌∙◌, subst, append_assoc, length-append}
use Rattle.std.proofs.lemmas.Bool.{false≢true, ltb-true}
use Rattle.std.proofs.lemmas.List.Elements.{All-tail, All-cons, All-nil}
use Rattle.std.specs.List.{All}
use Rattle.vg_laws.proofs.Options.{or_parts}
use Rattle.vg_client_holds.specs.declared.setup.Setup.{Setup}
use Rattle.vg_client_holds.specs.Setup.{AreDisplays, features_without, parties}
use Rattle.vg_machine.specs.Entries.{Entry}
use Rattle.vg_scanout.specs.declared.scanout.Frame.{Frame}
use Rattle.vg_scanout.specs.Scanout.{frame_bytes}
use Rattle.vg_journal.specs.declared.journal.Journal.{Journal}
use Rattle.vg_line_words.specs.Words.{AreBelow, lacks, parts_at}
use Rattle.vg_act_lines.proofs.PartLaws.{map_parts, then_parts}
use Rattle.vg_journal_lines.specs.declared.head.Feature.{Feature}
use Rattle.vg_journal_lines.specs.declared.head.Feature.TheVariants.{Edid, Uuid, Blob, Context}
use Rattle.vg_journal_lines.specs.declared.state.LeftOut.{LeftOut}
use Rattle.vg_journal_lines.specs.declared.state.Stage.TheVariants as stages
use Rattle.vg_journal_lines.specs.declared.state.State.{State}
use Rattle.vg_journal_lines.specs.declared.head.Version.{Version}
use Rattle.vg_journal_lines.specs.declared.head.Version.TheVariants.{One, Two}
use Rattle.vg_journal_lines.specs.Versions.{limits_of, queues_of, version_of}
use Rattle.vg_journal_lines.specs.Words.{clients_words, display_words, end_words, frames_words, host_words, joined, memory_words, queues_words, rings_words, title_words, without_words}
use Rattle.vg_journal_lines.specs.Read.{clients_of, display_of, frames_of, is_host, is_queues, memory_of, rings_of, title_of, without_of}
use Rattle.vg_journal_lines.specs.Ranges.{IsCount}
use Rattle.vg_journal_lines.specs.Entries.{EntryInRange, entry_of, entry_words}
use Rattle.vg_journal_lines.specs.States.{AnEntry, Item, Next, Nothing, and_given, and_out, clients_step, display_step, entries_step, entry_step, host_step, is_behind, memory_step, none_left_out, rings_step, run, start, step, with_clients, with_counts, with_display, with_entry, with_frames, with_pages, with_version, without_feature, without_step}
use Rattle.vg_journal_lines.specs.Pieces.{FrameInRange, JournalInRange, count_pieces, display_pieces, entry_pieces, frame_pieces, host_pieces, numbered_pieces, pieces_of, queues_pieces, without_piece, without_pieces}
use Rattle.vg_journal_lines.proofs.TestLaws.{passes}
use Rattle.vg_journal_lines.proofs.HeadLaws.{are_queues, clients_only, display_only, few_parties, host_back_told, host_only, limits_back, memory_only, queues_only, title_only, version_told, without_only}
use Rattle.vg_journal_lines.proofs.CutLemmas.{cut_piece}
use Rattle.vg_journal_lines.proofs.CountLaws.{frames_only, rings_only}
use Rattle.vg_journal_lines.proofs.EntryLaws.{CommandsAreSaid, entry_only}
use Rattle.vg_journal_lines.proofs.StepLemmas.{at_clients, at_displays, at_entries, at_features, at_frame, at_frames, at_pages, at_version, features_but, with_host}
use Rattle.vg_journal_lines.proofs.BackLemmas.{Bytes, IsOver, at_start, first_step, frames_left, left_behind, line_is, words_of}
use Rattle.vg_limits.specs.Limits.{Limits, version_2}

-- The count of frames, and all behind it.
record CountLeft (pieces : List (List ℕ)) : Type 0 where
  frames : List Frame
  are : pieces ≡ joined (frames_words (length frames)) ∷ (numbered_pieces frame_pieces 1 frames ++ joined end_words ∷ [])
  small : IsCount (length frames)
  fit : All FrameInRange frames
  few : frame_bytes frames ≤ 268435456

not_over_frames : (state : State) (control cursor : ℕ) (all : State × List Item) → run (at_frames state control cursor) [] ≡ Some all → IsOver all.0 → ⊥
not_over_frames state control cursor all is over =
    let same : at_frames state control cursor ≡ all.0 = at_start (at_frames state control cursor) all is in
    let no : stages.Frames ≡ stages.Done = ap (λ (s : State). s.stage) same ∙ over in
    absurd cc

count_left : (state : State) (control cursor : ℕ) (pieces : List (List ℕ)) (all : State × List Item) → state.frames ≡ 0 → state.bytes ≡ 0 → Bytes pieces
    → run (at_frames state control cursor) pieces ≡ Some all → IsOver all.0 → CountLeft pieces
count_left state control cursor [] all none none' below is over = absurd (not_over_frames state control cursor all is over)
count_left state control cursor (piece ∷ pieces) all none none' below is over =
    let before = at_frames state control cursor in
    let first = first_step before piece pieces all is in
    let said = words_of stages.Frames before piece first.0 tt first.1 in
    let m = map_parts (with_frames before) (frames_of (parts_at 32 piece)) first.0 said in
    let read = frames_only m.0 (parts_at 32 piece) m.1 in
    let behind = left_behind before (at_frame before m.0 state.frames state.bytes) Nothing piece pieces all is (first.1 ∙ ap Some (sym m.2)) in
    let rest = frames_left before m.0 state.frames state.bytes pieces (all.0, behind.0) (omega (arith, none')) (All-tail (λ p. AreBelow 256 p) piece pieces below) behind.1 over in
    let few = rest.few in
    let many = rest.many in
    let one : state.frames + 1 ≡ 1 = omega (arith, none) in
    let piece_is : piece ≡ joined (frames_words (length rest.frames)) = line_is piece (frames_words m.0) read.0 ∙ ap (λ n. joined (frames_words n)) (sym many) in
    let are : pieces ≡ numbered_pieces frame_pieces 1 rest.frames ++ joined end_words ∷ [] = rest.are ∙ ap (λ n. numbered_pieces frame_pieces n rest.frames ++ joined end_words ∷ []) one in
    record {
      frames = rest.frames;
      are = λ i. piece_is i ∷ are i;
      small = subst IsCount (sym many) read.1;
      fit = rest.fit;
      few = omega (arith, few, none');
    }

-- Entries, and all behind them.
pub record EntriesLeft (clients count : ℕ) (pieces : List (List ℕ)) : Type 0 where
  pub entries : List Entry
  pub control : ℕ
  pub cursor : ℕ
  pub frames : List Frame
  pub are : pieces ≡ numbered_pieces entry_pieces (count + 1) entries ++ (count_pieces control cursor (length frames) ++ (numbered_pieces frame_pieces 1 frames ++ joined end_words ∷ []))
  pub fit : All (EntryInRange clients) entries
  pub small : IsCount (count + length entries)
  pub control_small : IsCount control
  pub cursor_small : IsCount cursor
  pub frames_small : IsCount (length frames)
  pub frames_fit : All FrameInRange frames
  pub few : frame_bytes frames ≤ 268435456

not_over_entries : (state : State) (clients count : ℕ) (all : State × List Item) → run (at_entries state clients count) [] ≡ Some all → IsOver all.0 → ⊥
not_over_entries state clients count all is over =
    let same : at_entries state clients count ≡ all.0 = at_start (at_entries state clients count) all is in
    let no : stages.Entries ≡ stages.Done = ap (λ (s : State). s.stage) same ∙ over in
    absurd cc

-- The counts come.
rings_left : (state : State) (clients count : ℕ) (piece : List ℕ) (pieces : List (List ℕ)) (all : State × List Item) (next : Next) → state.frames ≡ 0 → state.bytes ≡ 0 → IsCount count → Bytes (piece ∷ pieces)
    → run (at_entries state clients count) (piece ∷ pieces) ≡ Some all → IsOver all.0 → step (at_entries state clients count) piece ≡ Some next
    → rings_step (at_entries state clients count) (parts_at 32 piece) ≡ Some next → EntriesLeft (parties clients state.host) count (piece ∷ pieces)
rings_left state clients count piece pieces all next none none' small below is over goes said =
    let before = at_entries state clients count in
    let m = map_parts (with_counts before) (rings_of (parts_at 32 piece)) next said in
    let read = rings_only m.0 (parts_at 32 piece) m.1 in
    let behind = left_behind before (at_frames before m.0.0 m.0.1) Nothing piece pieces all is (goes ∙ ap Some (sym m.2)) in
    let rest = count_left before m.0.0 m.0.1 pieces (all.0, behind.0) none none' (All-tail (λ p. AreBelow 256 p) piece pieces below) behind.1 over in
    let piece_is = line_is piece (rings_words m.0) read.0 in
    record {
      entries = [];
      control = m.0.0;
      cursor = m.0.1;
      frames = rest.frames;
      are = λ i. piece_is i ∷ rest.are i;
      fit = All-nil (EntryInRange (parties clients state.host));
      small = omega (arith, small);
      control_small = read.1;
      cursor_small = read.2;
      frames_small = rest.small;
      frames_fit = rest.fit;
      few = rest.few;
    }

-- An entry comes.
entry_left : CommandsAreSaid → (state : State) (clients count : ℕ) (piece : List ℕ) (pieces : List (List ℕ)) (all : State × List Item) (next : Next) → parties clients state.host ≤ version_2.clients + 1
    → run (at_entries state clients count) (piece ∷ pieces) ≡ Some all → step (at_entries state clients count) piece ≡ Some next
    → entry_step (at_entries state clients count) (parts_at 32 piece) ≡ Some next
    → ((js : List Item) → IsCount (count + 1) → run (at_entries state clients (count + 1)) pieces ≡ Some (all.0, js) → EntriesLeft (parties clients state.host) (count + 1) pieces)
    → EntriesLeft (parties clients state.host) count (piece ∷ pieces)
entry_left commands state clients count piece pieces all next most is goes said on =
    let before = at_entries state clients count in
    let m = map_parts (with_entry before) (entry_of (count + 1) (parties clients state.host) (parts_at 32 piece)) next said in
    let read = entry_only commands (count + 1) (parties clients state.host) m.0 (parts_at 32 piece) most m.1 in
    let behind = left_behind before (at_entries state clients (count + 1)) (AnEntry m.0) piece pieces all is (goes ∙ ap Some (sym m.2)) in
    let rest = on behind.0 read.1 behind.1 in
    let piece_is = line_is piece (entry_words (count + 1) m.0) read.0 in
    let small = rest.small in
    record {
      entries = m.0 ∷ rest.entries;
      control = rest.control;
      cursor = rest.cursor;
      frames = rest.frames;
      are = λ i. piece_is i ∷ rest.are i;
      fit = All-cons (EntryInRange (parties clients state.host)) m.0 rest.entries read.2 rest.fit;
      small = omega (arith, small);
      control_small = rest.control_small;
      cursor_small = rest.cursor_small;
      frames_small = rest.frames_small;
      frames_fit = rest.frames_fit;
      few = rest.few;
    }

entries_by : CommandsAreSaid → (state : State) (clients count : ℕ) (piece : List ℕ) (pieces : List (List ℕ)) (all : State × List Item) (next : Next) → state.frames ≡ 0 → state.bytes ≡ 0 → parties clients state.host ≤ version_2.clients + 1 → IsCount count → Bytes (piece ∷ pieces)
    → run (at_entries state clients count) (piece ∷ pieces) ≡ Some all → IsOver all.0 → step (at_entries state clients count) piece ≡ Some next
    → ((js : List Item) → IsCount (count + 1) → run (at_entries state clients (count + 1)) pieces ≡ Some (all.0, js) → EntriesLeft (parties clients state.host) (count + 1) pieces)
    → (rings_step (at_entries state clients count) (parts_at 32 piece) ≡ Some next) ⊎ (entry_step (at_entries state clients count) (parts_at 32 piece) ≡ Some next)
    → EntriesLeft (parties clients state.host) count (piece ∷ pieces)
entries_by commands state clients count piece pieces all next none none' most small below is over goes on (inl said) = rings_left state clients count piece pieces all next none none' small below is over goes said
entries_by commands state clients count piece pieces all next none none' most small below is over goes on (inr said) = entry_left commands state clients count piece pieces all next most is goes said on

entries_left : CommandsAreSaid → (state : State) (clients count : ℕ) (pieces : List (List ℕ)) (all : State × List Item) → state.frames ≡ 0 → state.bytes ≡ 0 → parties clients state.host ≤ version_2.clients + 1 → IsCount count → Bytes pieces
    → run (at_entries state clients count) pieces ≡ Some all → IsOver all.0 → EntriesLeft (parties clients state.host) count pieces
entries_left commands state clients count [] all none none' most small below is over = absurd (not_over_entries state clients count all is over)
entries_left commands state clients count (piece ∷ pieces) all none none' most small below is over =
    let before = at_entries state clients count in
    let first = first_step before piece pieces all is in
    let said = words_of stages.Entries before piece first.0 tt first.1 in
    entries_by commands state clients count piece pieces all first.0 none none' most small below is over first.1
    (λ js small' is'. entries_left commands state clients (count + 1) pieces (all.0, js) none none' most small' (All-tail (λ p. AreBelow 256 p) piece pieces below) is' over)
    (or_parts (rings_step before (parts_at 32 piece)) (entry_step before (parts_at 32 piece)) first.0 said)

-- The lines of features that are left out.
abbrev out_piece : Bool → Feature → List (List ℕ)
out_piece out feature = if out then joined (without_words feature) ∷ [] else []

abbrev out_pieces : LeftOut → List (List ℕ)
out_pieces out = out_piece out.edid Edid ++ out_piece out.uuid Uuid ++ out_piece out.blob Blob ++ out_piece out.context Context

abbrev out_of : Bool → Bool → Bool → Bool → LeftOut
out_of edid uuid blob context = record { edid = edid; uuid = uuid; blob = blob; context = context }

-- The line of one more stands behind them.
behind_out : (feature : Feature) (edid uuid blob context : Bool) → is_behind feature (out_of edid uuid blob context) ≡ true
    → out_pieces (and_out feature (out_of edid uuid blob context)) ≡ out_pieces (out_of edid uuid blob context) ++ joined (without_words feature) ∷ []
behind_out Edid true uuid blob context is = absurd (false≢true is)
behind_out Edid false true blob context is = absurd (false≢true is)
behind_out Edid false false true context is = absurd (false≢true is)
behind_out Edid false false false true is = absurd (false≢true is)
behind_out Edid false false false false is = refl
behind_out Uuid edid true blob context is = absurd (false≢true is)
behind_out Uuid edid false true context is = absurd (false≢true is)
behind_out Uuid edid false false true is = absurd (false≢true is)
behind_out Uuid true false false false is = refl
behind_out Uuid false false false false is = refl
behind_out Blob edid uuid true context is = absurd (false≢true is)
behind_out Blob edid uuid false true is = absurd (false≢true is)
behind_out Blob true true false false is = refl
behind_out Blob true false false false is = refl
behind_out Blob false true false false is = refl
behind_out Blob false false false false is = refl
behind_out Context edid uuid blob true is = absurd (false≢true is)
behind_out Context true true true false is = refl
behind_out Context true true false false is = refl
behind_out Context true false true false is = refl
behind_out Context true false false false is = refl
behind_out Context false true true false is = refl
behind_out Context false true false false is = refl
behind_out Context false false true false is = refl
behind_out Context false false false false is = refl

-- They are those of the features that are accepted.
out_accepted : (edid uuid blob context : Bool) → without_pieces (features_without edid uuid blob context) ≡ out_pieces (out_of edid uuid blob context)
unfolding without_pieces without_piece
out_accepted false false false false = refl
out_accepted false false false true = refl
out_accepted false false true false = refl
out_accepted false false true true = refl
out_accepted false true false false = refl
out_accepted false true false true = refl
out_accepted false true true false = refl
out_accepted false true true true = refl
out_accepted true false false false = refl
out_accepted true false false true = refl
out_accepted true false true false = refl
out_accepted true false true true = refl
out_accepted true true false false = refl
out_accepted true true false true = refl
out_accepted true true true false = refl
out_accepted true true true true = refl

-- The host, if there is one, and all behind it.
record HostLeft (version : Version) (clients : ℕ) (pieces : List (List ℕ)) : Type 0 where
  host : Bool
  none : version ≡ One → host ≡ false
  rest : List (List ℕ)
  are : pieces ≡ host_pieces host ++ rest
  entries : EntriesLeft (parties clients host) 0 rest

-- Features and clients, and all behind them.
record FeaturesLeft (version : Version) (out : LeftOut) (pieces : List (List ℕ)) : Type 0 where
  last : LeftOut
  clients : ℕ
  most : clients ≤ (limits_of version).clients
  rest : List (List ℕ)
  are : out_pieces out ++ pieces ≡ out_pieces last ++ joined (clients_words clients) ∷ rest
  behind : HostLeft version clients rest

module _ (commands : CommandsAreSaid) (version : Version) (sizes : List (ℕ × ℕ)) (pages : ℕ) where
  abbrev at_out : LeftOut → State
  at_out out = at_features (at_displays (at_version version) sizes) pages out

  -- The host comes, or what comes where there is none.
  not_over_host : (out : LeftOut) (clients : ℕ) (all : State × List Item) → run (at_clients Two (at_out out) clients) [] ≡ Some all → IsOver all.0 → ⊥
  not_over_host out clients all is over =
      let same : at_clients Two (at_out out) clients ≡ all.0 = at_start (at_clients Two (at_out out) clients) all is in
      let no : stages.Host ≡ stages.Done = ap (λ (s : State). s.stage) same ∙ over in
      absurd cc

  no_host_left : (out : LeftOut) (clients : ℕ) (pieces : List (List ℕ)) (all : State × List Item) → clients ≤ (limits_of version).clients → Bytes pieces
      → run (at_entries (at_out out) clients 0) pieces ≡ Some all → IsOver all.0 → HostLeft version clients pieces
  no_host_left out clients pieces all few below is over = record {
    host = false;
    none = λ first. refl;
    rest = pieces;
    are = refl;
    entries = entries_left commands (at_out out) clients 0 pieces all refl refl (few_parties version clients false few) (omega arith) below is over;
  }

  host_by : (out : LeftOut) (clients : ℕ) (piece : List ℕ) (pieces : List (List ℕ)) (all : State × List Item) (next : Next) → Two ≡ version → clients ≤ (limits_of version).clients → Bytes (piece ∷ pieces)
      → run (at_clients Two (at_out out) clients) (piece ∷ pieces) ≡ Some all → IsOver all.0 → step (at_clients Two (at_out out) clients) piece ≡ Some next
      → (host_step (at_clients Two (at_out out) clients) (parts_at 32 piece) ≡ Some next) ⊎ (entries_step (at_clients Two (at_out out) clients) (parts_at 32 piece) ≡ Some next)
      → HostLeft version clients (piece ∷ pieces)
  host_by out clients piece pieces all next second few below is over goes (inl said) =
      let before = at_clients Two (at_out out) clients in
      let after = at_entries (with_host (at_out out) true) clients 0 in
      let told = passes (is_host (parts_at 32 piece)) (Some (after, Nothing)) next said in
      let behind = left_behind before after Nothing piece pieces all is (goes ∙ sym told.1) in
      let piece_is : piece ≡ joined host_words = line_is piece host_words (host_only (parts_at 32 piece) told.0) in
      record {
        host = true;
        none = λ first. (let no : Two ≡ One = second ∙ first in absurd cc);
        rest = pieces;
        are = ap (λ p. p ∷ pieces) piece_is;
        entries = entries_left commands (with_host (at_out out) true) clients 0 pieces (all.0, behind.0) refl refl (few_parties version clients true few) (omega arith) (All-tail (λ p. AreBelow 256 p) piece pieces below) behind.1 over;
      }
  host_by out clients piece pieces all next second few below is over goes (inr said) =
      let before = at_clients Two (at_out out) clients in
      let after = at_entries (at_out out) clients 0 in
      let lacking : lacks 10 piece ≡ true = cut_piece stages.Host before piece next goes in
      let same : step after piece ≡ Some next = ap (λ b. if b then entries_step after (parts_at 32 piece) else None) lacking ∙ said in
      let on : run after (piece ∷ pieces) ≡ Some all = ap (option_and_then (λ (n : Next). and_given n.1 (run n.0 pieces))) (same ∙ sym goes) ∙ is in
      no_host_left out clients (piece ∷ pieces) all few below on over

  host_left : (v : Version) (out : LeftOut) (clients : ℕ) (pieces : List (List ℕ)) (all : State × List Item) → v ≡ version → clients ≤ (limits_of version).clients → Bytes pieces
      → run (at_clients v (at_out out) clients) pieces ≡ Some all → IsOver all.0 → HostLeft version clients pieces
  host_left One out clients pieces all same few below is over = no_host_left out clients pieces all few below is over
  host_left Two out clients [] all same few below is over = absurd (not_over_host out clients all is over)
  host_left Two out clients (piece ∷ pieces) all same few below is over =
      let before = at_clients Two (at_out out) clients in
      let first = first_step before piece pieces all is in
      let said = words_of stages.Host before piece first.0 tt first.1 in
      host_by out clients piece pieces all first.0 same few below is over first.1
      (or_parts (host_step before (parts_at 32 piece)) (entries_step before (parts_at 32 piece)) first.0 said)

  not_over_features : (out : LeftOut) (all : State × List Item) → run (at_out out) [] ≡ Some all → IsOver all.0 → ⊥
  not_over_features out all is over =
      let same : at_out out ≡ all.0 = at_start (at_out out) all is in
      let no : stages.Features ≡ stages.Done = ap (λ (s : State). s.stage) same ∙ over in
      absurd cc

  -- A feature comes.
  feature_left : (out : LeftOut) (piece : List ℕ) (pieces : List (List ℕ)) (all : State × List Item) (next : Next)
      → run (at_out out) (piece ∷ pieces) ≡ Some all → step (at_out out) piece ≡ Some next
      → without_step (at_out out) (parts_at 32 piece) ≡ Some next
      → ((out' : LeftOut) (js : List Item) → run (at_out out') pieces ≡ Some (all.0, js) → FeaturesLeft version out' pieces)
      → FeaturesLeft version out (piece ∷ pieces)
  feature_left out piece pieces all next is goes said on =
      let m = then_parts (without_feature (at_out out)) (without_of (parts_at 32 piece)) next said in
      let told = passes (is_behind m.0 out) (Some (at_out (and_out m.0 out), Nothing)) next m.2 in
      let behind = left_behind (at_out out) (at_out (and_out m.0 out)) Nothing piece pieces all is (goes ∙ sym told.1) in
      let rest = on (and_out m.0 out) behind.0 behind.1 in
      let piece_is : piece ≡ joined (without_words m.0) = line_is piece (without_words m.0) (without_only m.0 (parts_at 32 piece) m.1) in
      record {
        last = rest.last;
        clients = rest.clients;
        most = rest.most;
        rest = rest.rest;
        are =
            ap (λ p. out_pieces out ++ p ∷ pieces) piece_is ∙ sym (append_assoc (out_pieces out) (joined (without_words m.0) ∷ []) pieces)
            ∙ ap (λ ps. ps ++ pieces) (sym (behind_out m.0 out.edid out.uuid out.blob out.context told.0)) ∙ rest.are;
        behind = rest.behind;
      }

  -- The clients come.
  clients_left : (out : LeftOut) (piece : List ℕ) (pieces : List (List ℕ)) (all : State × List Item) (next : Next) → Bytes (piece ∷ pieces)
      → run (at_out out) (piece ∷ pieces) ≡ Some all → IsOver all.0 → step (at_out out) piece ≡ Some next
      → clients_step (at_out out) (parts_at 32 piece) ≡ Some next
      → FeaturesLeft version out (piece ∷ pieces)
  clients_left out piece pieces all next below is over goes said =
      let m = map_parts (with_clients (at_out out)) (clients_of (limits_of version) (parts_at 32 piece)) next said in
      let read = clients_only version m.0 (parts_at 32 piece) m.1 in
      let behind = left_behind (at_out out) (at_clients version (at_out out) m.0) Nothing piece pieces all is (goes ∙ ap Some (sym m.2)) in
      let piece_is : piece ≡ joined (clients_words m.0) = line_is piece (clients_words m.0) read.0 in
      record {
        last = out;
        clients = m.0;
        most = read.1;
        rest = pieces;
        are = ap (λ p. out_pieces out ++ p ∷ pieces) piece_is;
        behind = host_left version out m.0 pieces (all.0, behind.0) refl read.1 (All-tail (λ p. AreBelow 256 p) piece pieces below) behind.1 over;
      }

  features_by : (out : LeftOut) (piece : List ℕ) (pieces : List (List ℕ)) (all : State × List Item) (next : Next) → Bytes (piece ∷ pieces)
      → run (at_out out) (piece ∷ pieces) ≡ Some all → IsOver all.0 → step (at_out out) piece ≡ Some next
      → ((out' : LeftOut) (js : List Item) → run (at_out out') pieces ≡ Some (all.0, js) → FeaturesLeft version out' pieces)
      → (without_step (at_out out) (parts_at 32 piece) ≡ Some next) ⊎ (clients_step (at_out out) (parts_at 32 piece) ≡ Some next)
      → FeaturesLeft version out (piece ∷ pieces)
  features_by out piece pieces all next below is over goes on (inl said) = feature_left out piece pieces all next is goes said on
  features_by out piece pieces all next below is over goes on (inr said) = clients_left out piece pieces all next below is over goes said

  features_left : (out : LeftOut) (pieces : List (List ℕ)) (all : State × List Item) → Bytes pieces → run (at_out out) pieces ≡ Some all → IsOver all.0 → FeaturesLeft version out pieces
  features_left out [] all below is over = absurd (not_over_features out all is over)
  features_left out (piece ∷ pieces) all below is over =
      let first = first_step (at_out out) piece pieces all is in
      let said = words_of stages.Features (at_out out) piece first.0 tt first.1 in
      features_by out piece pieces all first.0 below is over first.1
      (λ out' js is'. features_left out' pieces (all.0, js) (All-tail (λ p. AreBelow 256 p) piece pieces below) is' over)
      (or_parts (without_step (at_out out) (parts_at 32 piece)) (clients_step (at_out out) (parts_at 32 piece)) first.0 said)

  -- The queues come, in version 2.
  record QueuesLeft (pieces : List (List ℕ)) : Type 0 where
    rest : List (List ℕ)
    are : pieces ≡ queues_pieces version ++ rest
    features : FeaturesLeft version none_left_out rest

  abbrev at_queues : State
  at_queues = at_pages Two (at_displays (at_version version) sizes) pages

  not_over_queues : (all : State × List Item) → run at_queues [] ≡ Some all → IsOver all.0 → ⊥
  not_over_queues all is over =
      let same : at_queues ≡ all.0 = at_start at_queues all is in
      let no : stages.Queues ≡ stages.Done = ap (λ (s : State). s.stage) same ∙ over in
      absurd cc

  queues_left : (v : Version) (pieces : List (List ℕ)) (all : State × List Item) → v ≡ version → Bytes pieces
      → run (at_pages v (at_displays (at_version version) sizes) pages) pieces ≡ Some all → IsOver all.0 → QueuesLeft pieces
  queues_left One pieces all same below is over =
      record { rest = pieces; are = ap (λ v. queues_pieces v ++ pieces) same; features = features_left none_left_out pieces all below is over }
  queues_left Two [] all same below is over = absurd (not_over_queues all is over)
  queues_left Two (piece ∷ pieces) all same below is over =
      let first = first_step at_queues piece pieces all is in
      let said = words_of stages.Queues at_queues piece first.0 tt first.1 in
      let told = passes (is_queues (parts_at 32 piece)) (Some (at_out none_left_out, Nothing)) first.0 said in
      let behind = left_behind at_queues (at_out none_left_out) Nothing piece pieces all is (first.1 ∙ sym told.1) in
      let piece_is : piece ≡ joined queues_words = line_is piece queues_words (queues_only (parts_at 32 piece) told.0) in
      record {
        rest = pieces;
        are = ap (λ p. p ∷ pieces) piece_is ∙ ap (λ v. queues_pieces v ++ pieces) same;
        features = features_left none_left_out pieces (all.0, behind.0) (All-tail (λ p. AreBelow 256 p) piece pieces below) behind.1 over;
      }

-- Displays, pages and queues, and all behind them.
record DisplaysLeft (version : Version) (count : ℕ) (pieces : List (List ℕ)) : Type 0 where
  sizes : List (ℕ × ℕ)
  pages : ℕ
  rest : List (List ℕ)
  are : pieces ≡ numbered_pieces display_pieces count sizes ++ joined (memory_words pages) ∷ (queues_pieces version ++ rest)
  displays : AreDisplays (limits_of version) sizes
  some : 1 ≤ count + length sizes
  at_most : count + length sizes ≤ 16
  one_page : 1 ≤ pages
  few_pages : pages ≤ 16384
  features : FeaturesLeft version none_left_out rest

module _ (commands : CommandsAreSaid) (version : Version) where
  abbrev at_front : List (ℕ × ℕ) → State
  at_front front = at_displays (at_version version) front

  not_over_displays : (front : List (ℕ × ℕ)) (all : State × List Item) → run (at_front front) [] ≡ Some all → IsOver all.0 → ⊥
  not_over_displays front all is over =
      let same : at_front front ≡ all.0 = at_start (at_front front) all is in
      let no : stages.Displays ≡ stages.Done = ap (λ (s : State). s.stage) same ∙ over in
      absurd cc

  -- A display comes.
  display_left : (front : List (ℕ × ℕ)) (piece : List ℕ) (pieces : List (List ℕ)) (all : State × List Item) (next : Next)
      → run (at_front front) (piece ∷ pieces) ≡ Some all → step (at_front front) piece ≡ Some next
      → display_step (at_front front) (parts_at 32 piece) ≡ Some next
      → ((front' : List (ℕ × ℕ)) (js : List Item) → length front' ≤ 16 → run (at_front front') pieces ≡ Some (all.0, js) → DisplaysLeft version (length front') pieces)
      → DisplaysLeft version (length front) (piece ∷ pieces)
  display_left front piece pieces all next is goes said on =
      let before = at_front front in
      let told = passes (nat_lt (length front) 16) (option_map (with_display before) (display_of (limits_of version) (length front) (parts_at 32 piece))) next said in
      let few : length front < 16 = ltb-true _ _ told.0 in
      let m = map_parts (with_display before) (display_of (limits_of version) (length front) (parts_at 32 piece)) next told.1 in
      let read = display_only version (length front) m.0 (parts_at 32 piece) m.1 in
      let size : length (front ++ m.0 ∷ []) ≡ length front + 1 = length-append front (m.0 ∷ []) in
      let behind = left_behind before (at_front (front ++ m.0 ∷ [])) Nothing piece pieces all is (goes ∙ ap Some (sym m.2)) in
      let rest : DisplaysLeft version (length front + 1) pieces = subst (λ n. DisplaysLeft version n pieces) size (on (front ++ m.0 ∷ []) behind.0 (omega (arith, size, few)) behind.1) in
      let piece_is : piece ≡ joined (display_words (length front) m.0) = line_is piece (display_words (length front) m.0) read.0 in
      let most = rest.at_most in
      record {
        sizes = m.0 ∷ rest.sizes;
        pages = rest.pages;
        rest = rest.rest;
        are = λ i. piece_is i ∷ rest.are i;
        displays = (read.2, rest.displays);
        some = omega arith;
        at_most = omega (arith, most);
        one_page = rest.one_page;
        few_pages = rest.few_pages;
        features = rest.features;
      }

  -- The pages come.
  pages_left : (front : List (ℕ × ℕ)) (piece : List ℕ) (pieces : List (List ℕ)) (all : State × List Item) (next : Next) → length front ≤ 16 → Bytes (piece ∷ pieces)
      → run (at_front front) (piece ∷ pieces) ≡ Some all → IsOver all.0 → step (at_front front) piece ≡ Some next
      → memory_step (at_front front) (parts_at 32 piece) ≡ Some next
      → DisplaysLeft version (length front) (piece ∷ pieces)
  pages_left front piece pieces all next few below is over goes said =
      let before = at_front front in
      let told = passes (nat_lt 0 (length front)) (option_map (with_pages before) (memory_of (parts_at 32 piece))) next said in
      let some : 0 < length front = ltb-true _ _ told.0 in
      let m = map_parts (with_pages before) (memory_of (parts_at 32 piece)) next told.1 in
      let read = memory_only m.0 (parts_at 32 piece) m.1 in
      let behind = left_behind before (at_pages version before m.0) Nothing piece pieces all is (goes ∙ ap Some (sym m.2)) in
      let queues = queues_left commands version front m.0 version pieces (all.0, behind.0) refl (All-tail (λ p. AreBelow 256 p) piece pieces below) behind.1 over in
      let piece_is : piece ≡ joined (memory_words m.0) = line_is piece (memory_words m.0) read.0 in
      record {
        sizes = [];
        pages = m.0;
        rest = queues.rest;
        are = λ i. piece_is i ∷ queues.are i;
        displays = tt;
        some = omega (arith, some);
        at_most = omega (arith, few);
        one_page = read.1;
        few_pages = read.2;
        features = queues.features;
      }

  displays_by : (front : List (ℕ × ℕ)) (piece : List ℕ) (pieces : List (List ℕ)) (all : State × List Item) (next : Next) → length front ≤ 16 → Bytes (piece ∷ pieces)
      → run (at_front front) (piece ∷ pieces) ≡ Some all → IsOver all.0 → step (at_front front) piece ≡ Some next
      → ((front' : List (ℕ × ℕ)) (js : List Item) → length front' ≤ 16 → run (at_front front') pieces ≡ Some (all.0, js) → DisplaysLeft version (length front') pieces)
      → (display_step (at_front front) (parts_at 32 piece) ≡ Some next) ⊎ (memory_step (at_front front) (parts_at 32 piece) ≡ Some next)
      → DisplaysLeft version (length front) (piece ∷ pieces)
  displays_by front piece pieces all next few below is over goes on (inl said) = display_left front piece pieces all next is goes said on
  displays_by front piece pieces all next few below is over goes on (inr said) = pages_left front piece pieces all next few below is over goes said

  displays_left : (front : List (ℕ × ℕ)) (pieces : List (List ℕ)) (all : State × List Item) → length front ≤ 16 → Bytes pieces → run (at_front front) pieces ≡ Some all → IsOver all.0 → DisplaysLeft version (length front) pieces
  displays_left front [] all few below is over = absurd (not_over_displays front all is over)
  displays_left front (piece ∷ pieces) all few below is over =
      let before = at_front front in
      let first = first_step before piece pieces all is in
      let said = words_of stages.Displays before piece first.0 tt first.1 in
      displays_by front piece pieces all first.0 few below is over first.1
      (λ front' js few' is'. displays_left front' pieces (all.0, js) few' (All-tail (λ p. AreBelow 256 p) piece pieces below) is' over)
      (or_parts (display_step before (parts_at 32 piece)) (memory_step before (parts_at 32 piece)) first.0 said)

-- The title, and all behind it.
record TitleLeft (pieces : List (List ℕ)) : Type 0 where
  version : Version
  rest : List (List ℕ)
  are : pieces ≡ joined (title_words version) ∷ rest
  displays : DisplaysLeft version 0 rest

not_over_title : (all : State × List Item) → run start [] ≡ Some all → IsOver all.0 → ⊥
not_over_title all is over =
    let same : start ≡ all.0 = at_start start all is in
    let no : stages.Title ≡ stages.Done = ap (λ (s : State). s.stage) same ∙ over in
    absurd cc

title_left : CommandsAreSaid → (pieces : List (List ℕ)) (all : State × List Item) → Bytes pieces → run start pieces ≡ Some all → IsOver all.0 → TitleLeft pieces
title_left commands [] all below is over = absurd (not_over_title all is over)
title_left commands (piece ∷ pieces) all below is over =
    let first = first_step start piece pieces all is in
    let said = words_of stages.Title start piece first.0 tt first.1 in
    let m = map_parts (with_version start) (title_of (parts_at 32 piece)) first.0 said in
    let behind = left_behind start (at_displays (at_version m.0) []) Nothing piece pieces all is (first.1 ∙ ap Some (sym m.2)) in
    let piece_is : piece ≡ joined (title_words m.0) = line_is piece (title_words m.0) (title_only m.0 (parts_at 32 piece) m.1) in
    record {
      version = m.0;
      rest = pieces;
      are = ap (λ p. p ∷ pieces) piece_is;
      displays = displays_left commands m.0 [] pieces (all.0, behind.0) (omega arith) (All-tail (λ p. AreBelow 256 p) piece pieces below) behind.1 over;
    }

-- What was read is the pieces of a journal.
flat : (title memory clients : List ℕ) (displays queues without host entries counts frames last : List (List ℕ))
    → title ∷ (displays ++ memory ∷ (queues ++ (without ++ clients ∷ (host ++ (entries ++ (counts ++ (frames ++ last)))))))
    ≡ (title ∷ [] ++ displays ++ memory ∷ queues ++ without ++ clients ∷ host) ++ entries ++ counts ++ frames ++ last
flat title memory clients displays queues without host entries counts frames last = simp append_assoc

pub pieces_only : CommandsAreSaid → (pieces : List (List ℕ)) (all : State × List Item) → Bytes pieces → run start pieces ≡ Some all → IsOver all.0
    → (journal : Journal) × JournalInRange journal × (pieces ≡ pieces_of journal)
pieces_only commands pieces all below is over =
    let t = title_left commands pieces all below is over in
    let version = t.version in
    let d = t.displays in
    let f = d.features in
    let h = f.behind in
    let e = h.entries in
    let out = f.last in
    let some = d.some in
    let most = d.at_most in
    let small = e.small in
    let setup : Setup = record { displays = d.sizes; pages = d.pages; accepted = features_but out; clients = f.clients; queues = queues_of version; host = h.host } in
    let journal : Journal = record { setup = setup; entries = e.entries; control = e.control; cursor = e.cursor; frames = e.frames } in
    let without : out_pieces out ≡ without_pieces (features_but out) = sym (out_accepted out.edid out.uuid out.blob out.context) in
    let tail : List (List ℕ) = numbered_pieces entry_pieces 1 e.entries ++ (count_pieces e.control e.cursor (length e.frames) ++ (numbered_pieces frame_pieces 1 e.frames ++ joined end_words ∷ [])) in
    let hosts : f.rest ≡ host_pieces h.host ++ tail = h.are ∙ ap (λ ps. host_pieces h.host ++ ps) e.are in
    let features : d.rest ≡ without_pieces (features_but out) ++ joined (clients_words f.clients) ∷ (host_pieces h.host ++ tail) = f.are ∙ (λ i. without i ++ joined (clients_words f.clients) ∷ hosts i) in
    let displays : t.rest ≡ numbered_pieces display_pieces 0 d.sizes ++ joined (memory_words d.pages) ∷ (queues_pieces version ++ (without_pieces (features_but out) ++ joined (clients_words f.clients) ∷ (host_pieces h.host ++ tail))) =
    d.are ∙ ap (λ ps. numbered_pieces display_pieces 0 d.sizes ++ joined (memory_words d.pages) ∷ (queues_pieces version ++ ps)) features in
    let told : version ≡ version_of (queues_of version) = sym (version_told version) in
    let all_of : pieces ≡ pieces_of journal =
    t.are ∙ ap (λ ps. joined (title_words version) ∷ ps) displays
    ∙ flat (joined (title_words version)) (joined (memory_words d.pages)) (joined (clients_words f.clients)) (numbered_pieces display_pieces 0 d.sizes) (queues_pieces version) (without_pieces (features_but out)) (host_pieces h.host) (numbered_pieces entry_pieces 1 e.entries) (count_pieces e.control e.cursor (length e.frames)) (numbered_pieces frame_pieces 1 e.frames) (joined end_words ∷ [])
    ∙ ap (λ v.
    (joined (title_words v) ∷ [] ++ numbered_pieces display_pieces 0 d.sizes ++ joined (memory_words d.pages) ∷ queues_pieces v ++ without_pieces (features_but out) ++ joined (clients_words f.clients) ∷ host_pieces h.host)
    ++ numbered_pieces entry_pieces 1 e.entries ++ count_pieces e.control e.cursor (length e.frames) ++ numbered_pieces frame_pieces 1 e.frames ++ joined end_words ∷ []) told in (
      journal,
      record {
        setup = record {
          some = omega (arith, some);
          at_most = omega (arith, most);
          displays = subst (λ m. AreDisplays m d.sizes) (sym (limits_back version)) d.displays;
          one_page = d.one_page;
          pages = d.few_pages;
          accepted = record { edid = out.edid; uuid = out.uuid; blob = out.blob; context = out.context; left = refl };
          clients = subst (λ (m : Limits). f.clients ≤ m.clients) (sym (limits_back version)) f.most;
          queues = are_queues version;
          host = host_back_told version h.host h.none;
        };
        entries = e.fit;
        count = omega (arith, small);
        control = e.control_small;
        cursor = e.cursor_small;
        frames = e.frames_fit;
        frame_count = e.frames_small;
        few = e.few;
      },
      all_of,
    )
