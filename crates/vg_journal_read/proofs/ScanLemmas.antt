-- A text whose lines are read once.
use Rattle.std.proofs.Common.{◌≡◌, ℕ, ◌+◌, ◌-◌, ◌==◌, Bool, true, false, if◌then◌else◌, List, [], ◌∷◌, ◌++◌, bit_and, length, take, Some, arith, refl, sym, ap, ◌∙◌, append_assoc, length-append}
use Rattle.std.proofs.lemmas.List.{take-append-le, take_all}
use Rattle.vg_laws.proofs.Options.{some_is}
use Rattle.vg_config.specs.Features.{EDID, RESOURCE_BLOB, RESOURCE_UUID, VIRGL}
use Rattle.vg_client_holds.specs.declared.setup.Setup.{Setup}
use Rattle.vg_journal.specs.declared.journal.Journal.{Journal}
use Rattle.vg_journal_lines.specs.declared.state.State.{State}
use Rattle.vg_journal.specs.Text.{text_of}
use Rattle.vg_journal_lines.specs.declared.head.Version.{Version}
use Rattle.vg_journal_lines.specs.declared.head.Version.TheVariants.{One, Two}
use Rattle.vg_journal_lines.specs.Versions.{version_of}
use Rattle.vg_journal_lines.specs.declared.head.Feature.{Feature}
use Rattle.vg_journal_lines.specs.declared.head.Feature.TheVariants.{Edid, Uuid, Blob, Context}
use Rattle.vg_journal_lines.specs.Words.{clients_words, end_words, joined, memory_words, title_words, without_words}
use Rattle.vg_journal_lines.specs.States.{Item, run, start}
use Rattle.vg_journal_lines.specs.Pieces.{IsReadAs, JournalInRange, count_pieces, display_pieces, done_of, entry_pieces, frame_pieces, head_pieces, host_pieces, left_out_of, numbered_pieces, pieces_of, queues_pieces, whole, without_piece, without_pieces}
use Rattle.vg_journal_lines.specs.Refusals.{IsJournal}
use Rattle.vg_journal_lines.proofs.TextLemmas.{whole_append}
use Rattle.vg_journal_lines.proofs.EndLemmas.{run_fits, start_fits}
use Rattle.vg_journal_read.specs.Scans.{IsScanned, StandsAt}
use Rattle.vg_journal_read.specs.ScansWithin.{Passed, is_at_entries, is_at_frames, rank}
use Rattle.vg_journal_read.proofs.SizeLemmas.{as_one, as_two, heads, outs, step_grows}
use Rattle.vg_journal_read.proofs.PlaceLemmas.{Places, places_more}
use Rattle.vg_journal_read.proofs.RunLemmas.{IsAt, at_more, at_start, place_is, read_whole}

-- How far a reader is that keeps two places.
pub record IsScanning (bytes : List ℕ) (state : State) (pieces : ℕ) (rest : List ℕ) (entries_at frames_at : ℕ) : Type 0 where
  pub at : IsAt bytes state pieces rest
  pub places : Places (heads state) state.entries state.frames (rank state.stage) at.front entries_at frames_at

pub scanning_start : (bytes : List ℕ) → IsScanning bytes start 0 bytes 0 0
scanning_start bytes = record {
  at = at_start bytes;
  places = record {
    counted = λ on. refl;
    no_entries = λ few. refl;
    no_frames = λ few. refl;
    entries = λ behind. absurd (omega (arith, behind));
    frames = λ behind. absurd (omega (arith, behind));
  };
}

pub scanning_more : (bytes : List ℕ) (old new : State) (pieces : ℕ) (rest after : List ℕ) (entries_at frames_at : ℕ) → IsScanning bytes old pieces rest entries_at frames_at → Passed old new rest after
    → IsScanning bytes new (pieces + 1) after (if is_at_entries new then length bytes - length after else entries_at) (if is_at_frames new then length bytes - length after else frames_at)
scanning_more bytes old new pieces rest after entries_at frames_at s p =
    let at = at_more bytes old new pieces rest after s.at p in
    record {
      at = at;
      places =
          places_more (heads old) old.entries old.frames (rank old.stage) (heads new) new.entries new.frames (rank new.stage) s.at.front p.piece (length bytes - length after) entries_at frames_at
          (step_grows old.stage old p.piece (new, p.item) refl (run_fits s.at.front start (old, s.at.items) start_fits s.at.run_is).fits p.step_is) s.places (place_is bytes (s.at.front ++ p.piece ∷ []) after at.begins);
    }

-- How many pieces the parts of a journal have.
numbered_ones : {X : Type 0} (part : ℕ → X → List (List ℕ)) → ((n : ℕ) (x : X) → length (part n x) ≡ 1) → (n : ℕ) (xs : List X) → length (numbered_pieces part n xs) ≡ length xs
numbered_ones part one n [] = refl
numbered_ones part one n (x ∷ xs) =
    let more = numbered_ones part one (n + 1) xs in
    let first = one n x in
    let sum = length-append (part n x) (numbered_pieces part (n + 1) xs) in
    omega (arith, more, first, sum)

outs_one : (b : Bool) (piece : List ℕ) → length (if b then piece ∷ [] else []) ≡ as_one b
outs_one true piece = refl
outs_one false piece = refl

out_count : (accepted bit : ℕ) (feature : Feature) → length (without_piece accepted bit feature) ≡ as_one (bit_and accepted bit == 0)
unfolding without_piece
out_count accepted bit feature = outs_one (bit_and accepted bit == 0) (joined (without_words feature))

four_lengths : {X : Type 0} (a b c d : List X) → length (a ++ b ++ c ++ d) ≡ length a + length b + length c + length d
four_lengths a b c d = simp length-append

five_lengths : {X : Type 0} (a b c d e : List X) → length (a ++ b ++ c ++ d ++ e) ≡ length a + length b + length c + length d + length e
five_lengths a b c d e = simp length-append

outs_count : (accepted : ℕ) → length (without_pieces accepted) ≡ outs (left_out_of accepted)
unfolding without_pieces left_out_of
outs_count accepted =
    four_lengths (without_piece accepted EDID Edid) (without_piece accepted RESOURCE_UUID Uuid) (without_piece accepted RESOURCE_BLOB Blob) (without_piece accepted VIRGL Context)
    ∙ (λ i. out_count accepted EDID Edid i + out_count accepted RESOURCE_UUID Uuid i + out_count accepted RESOURCE_BLOB Blob i + out_count accepted VIRGL Context i)

queues_count : (version : Version) → length (queues_pieces version) ≡ as_two version
queues_count One = refl
queues_count Two = refl

host_count : (host : Bool) → length (host_pieces host) ≡ as_one host
host_count true = refl
host_count false = refl

head_count : (setup : Setup) → length (head_pieces setup) ≡ 3 + (length setup.displays + outs (left_out_of setup.accepted) + as_one setup.host + as_two (version_of setup.queues))
head_count setup =
    let version = version_of setup.queues in
    let sum =
    five_lengths (joined (title_words version) ∷ []) (numbered_pieces display_pieces 0 setup.displays) (joined (memory_words setup.pages) ∷ queues_pieces version) (without_pieces setup.accepted) (joined (clients_words setup.clients) ∷ host_pieces setup.host) in
    let displays = numbered_ones display_pieces (λ n x. refl) 0 setup.displays in
    let without = outs_count setup.accepted in
    let queues = queues_count version in
    let host = host_count setup.host in
    omega (arith, sum, displays, without, queues, host)

-- A part of a text behind so many pieces.
stands : (bytes : List ℕ) (n at : ℕ) (front part rest pieces : List (List ℕ)) → bytes ≡ whole pieces → pieces ≡ front ++ (part ++ rest) → length front ≡ n → at ≡ length (whole (take n pieces))
    → StandsAt bytes (whole part) at
stands bytes n at front part rest pieces text are size is =
    let taken : take n pieces ≡ front = ap (take n) are ∙ take-append-le n front (part ++ rest) (omega (arith, size)) ∙ take_all n front (omega (arith, size)) in (
      whole front,
      whole rest,
      text ∙ ap whole are ∙ whole_append front (part ++ rest) ∙ ap (λ l. whole front ++ l) (whole_append part rest) ∙ sym (append_assoc (whole front) (whole part) (whole rest)),
      sym (is ∙ ap (λ ps. length (whole ps)) taken),
    )

entries_first : {X : Type 0} (h e c f l : List X) → h ++ e ++ c ++ f ++ l ≡ h ++ (e ++ (c ++ (f ++ l)))
entries_first h e c f l = simp append_assoc

frames_first : {X : Type 0} (h e c f l : List X) → h ++ e ++ c ++ f ++ l ≡ (h ++ (e ++ c)) ++ (f ++ l)
frames_first h e c f l = simp append_assoc

-- A journal's entries stand behind its head, and its frames behind the counts.
module _ (bytes : List ℕ) (journal : Journal) (text : bytes ≡ whole (pieces_of journal)) where
  entries_stand : (at : ℕ) → at ≡ length (whole (take (3 + heads (done_of journal)) (pieces_of journal))) → StandsAt bytes (whole (numbered_pieces entry_pieces 1 journal.entries)) at
  entries_stand at is =
      let counts = count_pieces journal.control journal.cursor (length journal.frames) in
      stands bytes (3 + heads (done_of journal)) at (head_pieces journal.setup) (numbered_pieces entry_pieces 1 journal.entries) (counts ++ (numbered_pieces frame_pieces 1 journal.frames ++ joined end_words ∷ []))
      (pieces_of journal) text (entries_first (head_pieces journal.setup) (numbered_pieces entry_pieces 1 journal.entries) counts (numbered_pieces frame_pieces 1 journal.frames) (joined end_words ∷ [])) (head_count journal.setup) is

  frames_stand : (at : ℕ) → at ≡ length (whole (take (5 + heads (done_of journal) + length journal.entries) (pieces_of journal))) → StandsAt bytes (whole (numbered_pieces frame_pieces 1 journal.frames)) at
  frames_stand at is =
      let counts = count_pieces journal.control journal.cursor (length journal.frames) in
      let entries = numbered_pieces entry_pieces 1 journal.entries in
      let first = head_count journal.setup in
      let second = numbered_ones entry_pieces (λ n x. refl) 1 journal.entries in
      let sum = length-append (head_pieces journal.setup) (entries ++ counts) in
      let sum' = length-append entries counts in
      stands bytes (5 + heads (done_of journal) + length journal.entries) at (head_pieces journal.setup ++ (entries ++ counts)) (numbered_pieces frame_pieces 1 journal.frames) (joined end_words ∷ [])
      (pieces_of journal) text (frames_first (head_pieces journal.setup) entries counts (numbered_pieces frame_pieces 1 journal.frames) (joined end_words ∷ [])) (omega (arith, first, second, sum, sum')) is

-- What is known at the end.
pub scanned : (bytes : List ℕ) (state : State) (pieces : ℕ) (rest : List ℕ) (entries_at frames_at : ℕ) (s : IsScanning bytes state pieces rest entries_at frames_at) (journal : Journal)
    → rest ≡ [] → rank state.stage ≡ 7 → IsJournal bytes journal → IsReadAs s.at.front journal
    → ((j : Journal) → text_of j ≡ whole (pieces_of j))
    → ((ps qs : List (List ℕ)) (a b : State × List Item) → run start ps ≡ Some a → run start qs ≡ Some b → whole ps ≡ whole qs → ps ≡ qs)
    → ((j : Journal) → JournalInRange j → IsReadAs (pieces_of j) j)
    → IsScanned bytes (record { state = state; entries_at = entries_at; frames_at = frames_at })
scanned bytes state pieces rest entries_at frames_at s journal none over is read text one back =
    let own = back journal is.in_range in
    let wholly : bytes ≡ whole s.at.front = read_whole bytes s.at.front rest s.at.begins none in
    let from : bytes ≡ whole (pieces_of journal) = is.text ∙ text journal in
    let same : s.at.front ≡ pieces_of journal = one s.at.front (pieces_of journal) (state, s.at.items) (done_of journal, own.items) s.at.run_is own.run_is (sym wholly ∙ from) in
    let known : state ≡ done_of journal = ap (λ (a : State × List Item). a.0) (some_is (state, s.at.items) (done_of journal, read.items) (sym s.at.run_is ∙ read.run_is)) in
    record {
      journal = journal;
      is_journal = is;
      state = known;
      entries = entries_stand bytes journal from entries_at (s.places.entries (omega (arith, over)) ∙ (λ i. length (whole (take (3 + heads (known i)) (same i)))));
      frames = frames_stand bytes journal from frames_at (s.places.frames (omega (arith, over)) ∙ (λ i. length (whole (take (5 + heads (known i) + (known i).entries) (same i)))));
    }
