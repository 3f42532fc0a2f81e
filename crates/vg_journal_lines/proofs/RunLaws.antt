-- A journal is read from its pieces, and so from its text.
use Rattle.std.proofs.Common.{◌≡◌, ℕ, ◌+◌, ◌≤◌, false, List, [], ◌∷◌, ◌++◌, length, map, Some, arith, refl, sym, ap, ◌∙◌, subst, append_assoc, append-nil}
use Rattle.std.proofs.lemmas.List.Elements.{All-head}
use Rattle.std.specs.List.{All}
use Rattle.vg_laws.proofs.Options.{some_is}
use Rattle.vg_client_holds.specs.declared.setup.Setup.{Setup}
use Rattle.vg_limits.specs.Limits.{Limits, version_2}
use Rattle.vg_history.specs.declared.entry.Entry.TheVariants as entries
use Rattle.vg_client_holds.specs.Setup.{AreDisplays, IsSetup, parties}
use Rattle.vg_machine.specs.Entries.{Entry}
use Rattle.vg_scanout.specs.declared.scanout.Frame.{Frame}
use Rattle.vg_scanout.specs.Scanout.{frame_bytes}
use Rattle.vg_journal.specs.declared.journal.Journal.{Journal}
use Rattle.vg_journal.specs.Text.{text_of}
use Rattle.vg_journal_lines.specs.declared.state.State.{State}
use Rattle.vg_journal_lines.specs.Versions.{limits_of, queues_of, version_of}
use Rattle.vg_journal_lines.specs.Words.{clients_words, end_words, joined, memory_words, rings_words, title_words}
use Rattle.vg_journal_lines.specs.Read.{is_host}
use Rattle.vg_journal_lines.specs.Ranges.{IsCount}
use Rattle.vg_journal_lines.specs.Entries.{EntryInRange, entry_words}
use Rattle.vg_journal_lines.specs.States.{AFrame, AnEntry, Item, Nothing, none_left_out, run, start}
use Rattle.vg_journal_lines.specs.Pieces.{IsReadAs, JournalInRange, count_pieces, display_pieces, done_of, entries_in, entry_pieces, frame_pieces, frames_in, host_pieces, left_out_of, numbered_pieces, pieces_of, queues_pieces, whole, without_pieces}
use Rattle.vg_journal_lines.proofs.EntryLaws.{CommandsAreSaid, entry_are_words}
use Rattle.vg_journal_lines.proofs.CountLaws.{plain_rings}
use Rattle.vg_journal_lines.proofs.HeadLaws.{few_parties, host_told, limits_told, queues_told}
use Rattle.vg_journal_lines.proofs.JoinLemmas.{AreWords, plain_words}
use Rattle.vg_journal_lines.proofs.CutLemmas.{goes_on, one_run}
use Rattle.vg_journal_lines.proofs.TextLemmas.{text_pieces}
use Rattle.vg_journal_lines.proofs.StepLemmas.{accepted_go, accepted_told, at_clients, at_displays, at_end, at_entries, at_features, at_frame, at_frames, at_version, behind_go, clients_go, counts_go, displays_go, end_goes, entries_go, features_but, frame_items, frames_go, nothings, pages_go, title_goes, with_host}

-- What the pieces give.
abbrev front_items : Setup → List Item
front_items setup =
    Nothing ∷ [] ++ nothings setup.displays ++ Nothing ∷ nothings (queues_pieces (version_of setup.queues)) ++ nothings (without_pieces setup.accepted) ++ Nothing ∷ []

abbrev tail_items : Journal → List Item
tail_items journal = map AnEntry journal.entries ++ Nothing ∷ Nothing ∷ [] ++ frame_items journal.frames ++ Nothing ∷ []

abbrev items_of : Journal → List Item
items_of journal = front_items journal.setup ++ (nothings (host_pieces journal.setup.host) ++ tail_items journal)

-- The pieces up to the clients, and those behind the host.
abbrev front_pieces : Setup → List (List ℕ)
front_pieces setup =
    joined (title_words (version_of setup.queues)) ∷ [] ++ numbered_pieces display_pieces 0 setup.displays ++ joined (memory_words setup.pages) ∷ queues_pieces (version_of setup.queues)
    ++ without_pieces setup.accepted ++ joined (clients_words setup.clients) ∷ []

abbrev tail_pieces : Journal → List (List ℕ)
tail_pieces journal =
    numbered_pieces entry_pieces 1 journal.entries ++ count_pieces journal.control journal.cursor (length journal.frames)
    ++ numbered_pieces frame_pieces 1 journal.frames ++ joined end_words ∷ []

parts_flat : (clients title displays pages without host entries counts frames last : List (List ℕ))
    → (title ++ displays ++ pages ++ without ++ (clients ++ host)) ++ entries ++ counts ++ frames ++ last
    ≡ (title ++ displays ++ pages ++ without ++ clients) ++ (host ++ (entries ++ counts ++ frames ++ last))
parts_flat clients title displays pages without host entries counts frames last = simp append_assoc

parts_of : (journal : Journal) → pieces_of journal ≡ front_pieces journal.setup ++ (host_pieces journal.setup.host ++ tail_pieces journal)
parts_of journal =
    let setup = journal.setup in
    let version = version_of setup.queues in
    parts_flat (joined (clients_words setup.clients) ∷ []) (joined (title_words version) ∷ []) (numbered_pieces display_pieces 0 setup.displays) (joined (memory_words setup.pages) ∷ queues_pieces version) (without_pieces setup.accepted) (host_pieces setup.host)
    (numbered_pieces entry_pieces 1 journal.entries) (count_pieces journal.control journal.cursor (length journal.frames)) (numbered_pieces frame_pieces 1 journal.frames) (joined end_words ∷ [])

-- The state behind the features.
abbrev pub head_of_run : Setup → State
head_of_run setup = at_features (at_displays (at_version (version_of setup.queues)) setup.displays) setup.pages (left_out_of setup.accepted)

front_goes : (setup : Setup) → IsSetup setup → run start (front_pieces setup) ≡ Some (at_clients (version_of setup.queues) (head_of_run setup) setup.clients, front_items setup)
front_goes setup r =
    let version = version_of setup.queues in
    let most = r.at_most in
    let begun = at_version version in
    let displays = at_displays begun setup.displays in
    let pages = at_features displays setup.pages none_left_out in
    let title : List (List ℕ) = joined (title_words version) ∷ [] in
    let memory : List (List ℕ) = joined (memory_words setup.pages) ∷ queues_pieces version in
    let given : List Item = Nothing ∷ nothings (queues_pieces version) in
    let few : setup.clients ≤ (limits_of version).clients = subst (λ (m : Limits). setup.clients ≤ m.clients) (limits_told setup.queues) r.clients in
    let one = goes_on title (numbered_pieces display_pieces 0 setup.displays) start (at_displays begun []) displays (Nothing ∷ []) (nothings setup.displays) (title_goes version)
    (displays_go begun 0 [] setup.displays refl (omega (arith, most)) (subst (λ m. AreDisplays m setup.displays) (limits_told setup.queues) r.displays)) in
    let two = goes_on (title ++ numbered_pieces display_pieces 0 setup.displays) memory start displays pages (Nothing ∷ [] ++ nothings setup.displays) given one
    (pages_go begun setup.displays setup.pages r.some r.one_page r.pages) in
    let three = goes_on (title ++ numbered_pieces display_pieces 0 setup.displays ++ memory) (without_pieces setup.accepted) start pages (head_of_run setup)
    (Nothing ∷ [] ++ nothings setup.displays ++ given) (nothings (without_pieces setup.accepted)) two (accepted_go displays setup.pages setup.accepted r.accepted) in
    goes_on (title ++ numbered_pieces display_pieces 0 setup.displays ++ memory ++ without_pieces setup.accepted) (joined (clients_words setup.clients) ∷ [])
    start (head_of_run setup) (at_clients version (head_of_run setup) setup.clients) (Nothing ∷ [] ++ nothings setup.displays ++ given ++ nothings (without_pieces setup.accepted)) (Nothing ∷ []) three
    (clients_go displays setup.pages (left_out_of setup.accepted) setup.clients few)

-- The first piece behind the clients and the host is an entry or a count.
record HasFirst (pieces : List (List ℕ)) : Type 0 where
  words : List (List ℕ)
  more : List (List ℕ)
  is : pieces ≡ joined words ∷ more
  are : AreWords words
  other : is_host words ≡ false

entry_other : (n : ℕ) (entry : Entry) → is_host (entry_words n entry) ≡ false
unfolding is_host
entry_other n (entries.Act client call act reply) = refl
entry_other n (entries.Command client call request reply) = refl

rings_other : (counts : ℕ × ℕ) → is_host (rings_words counts) ≡ false
unfolding is_host
rings_other counts = refl

first_of : CommandsAreSaid → (clients control cursor count : ℕ) (es : List Entry) (frames last : List (List ℕ)) → clients ≤ version_2.clients + 1 → All (EntryInRange clients) es → IsCount control → IsCount cursor
    → HasFirst (numbered_pieces entry_pieces 1 es ++ count_pieces control cursor count ++ frames ++ last)
first_of commands clients control cursor count [] frames last few fit first second =
    record { words = rings_words (control, cursor); more = _; is = refl; are = plain_words (rings_words (control, cursor)) (record { word = _; more = _; is = refl }) (plain_rings (control, cursor) first second); other = rings_other (control, cursor) }
first_of commands clients control cursor count (entry ∷ es) frames last few fit first second =
    record { words = entry_words 1 entry; more = _; is = refl; are = entry_are_words commands 1 clients entry few (omega arith) (All-head (EntryInRange clients) entry es fit); other = entry_other 1 entry }

-- What stands behind the host.
tail_goes : CommandsAreSaid → (journal : Journal) → JournalInRange journal → parties journal.setup.clients journal.setup.host ≤ version_2.clients + 1
    → run (at_entries (with_host (head_of_run journal.setup) journal.setup.host) journal.setup.clients 0) (tail_pieces journal) ≡ Some (done_of journal, tail_items journal)
tail_goes commands journal r most =
    let setup = journal.setup in
    let small = r.count in
    let frames = r.frame_count in
    let few = r.few in
    let head = with_host (head_of_run setup) setup.host in
    let begun = at_entries head setup.clients 0 in
    let entries = at_entries head setup.clients (length journal.entries) in
    let counts = at_frames entries journal.control journal.cursor in
    let first = at_frame counts (length journal.frames) 0 0 in
    let last = at_frame counts 0 (length journal.frames) (frame_bytes journal.frames) in
    let none : 0 + length journal.entries ≡ length journal.entries = omega arith in
    let none' : 0 + length journal.frames ≡ length journal.frames = omega arith in
    let none'' : 0 + frame_bytes journal.frames ≡ frame_bytes journal.frames = omega arith in
    let one = entries_go commands head setup.clients 0 1 journal.entries refl most (omega (arith, small)) r.entries ∙ ap (λ n. Some (at_entries head setup.clients n, map AnEntry journal.entries)) none in
    let two = goes_on (numbered_pieces entry_pieces 1 journal.entries) (count_pieces journal.control journal.cursor (length journal.frames)) begun entries first (map AnEntry journal.entries) (Nothing ∷ Nothing ∷ []) one
    (counts_go head setup.clients (length journal.entries) journal.control journal.cursor (length journal.frames) r.control r.cursor r.frame_count) in
    let three = goes_on (numbered_pieces entry_pieces 1 journal.entries ++ count_pieces journal.control journal.cursor (length journal.frames)) (numbered_pieces frame_pieces 1 journal.frames) begun first last
    (map AnEntry journal.entries ++ Nothing ∷ Nothing ∷ []) (frame_items journal.frames) two
    (frames_go counts 0 1 0 journal.frames refl (omega (arith, frames)) r.frames (omega (arith, few)) ∙ (λ i. Some (at_frame counts 0 (none' i) (none'' i), frame_items journal.frames))) in
    goes_on (numbered_pieces entry_pieces 1 journal.entries ++ count_pieces journal.control journal.cursor (length journal.frames) ++ numbered_pieces frame_pieces 1 journal.frames) (joined end_words ∷ [])
    begun last (at_end last) (map AnEntry journal.entries ++ Nothing ∷ Nothing ∷ [] ++ frame_items journal.frames) (Nothing ∷ []) three
    (end_goes counts (length journal.frames) (frame_bytes journal.frames))

pub most_parties : (setup : Setup) → IsSetup setup → parties setup.clients setup.host ≤ version_2.clients + 1
most_parties setup r = few_parties (version_of setup.queues) setup.clients setup.host (subst (λ (m : Limits). setup.clients ≤ m.clients) (limits_told setup.queues) r.clients)

journal_goes : CommandsAreSaid → (journal : Journal) → JournalInRange journal → run start (pieces_of journal) ≡ Some (done_of journal, items_of journal)
journal_goes commands journal r =
    let setup = journal.setup in
    let version = version_of setup.queues in
    let most = most_parties setup r.setup in
    let begun = at_clients version (head_of_run setup) setup.clients in
    let after = at_entries (with_host (head_of_run setup) setup.host) setup.clients 0 in
    let f = first_of commands (parties setup.clients setup.host) journal.control journal.cursor (length journal.frames) journal.entries (numbered_pieces frame_pieces 1 journal.frames) (joined end_words ∷ []) most r.entries r.control r.cursor in
    let tail : run after (joined f.words ∷ f.more) ≡ Some (done_of journal, tail_items journal) = ap (run after) (sym f.is) ∙ tail_goes commands journal r most in
    let behind = behind_go version (head_of_run setup) setup.clients setup.host f.words f.more (done_of journal, tail_items journal) (host_told setup.queues setup.host r.setup.queues r.setup.host) f.are f.other tail in
    let behind' : run begun (host_pieces setup.host ++ tail_pieces journal) ≡ Some (done_of journal, nothings (host_pieces setup.host) ++ tail_items journal) = ap (λ ps. run begun (host_pieces setup.host ++ ps)) f.is ∙ behind in
    ap (run start) (parts_of journal)
    ∙ goes_on (front_pieces setup) (host_pieces setup.host ++ tail_pieces journal) start begun (done_of journal) (front_items setup) (nothings (host_pieces setup.host) ++ tail_items journal) (front_goes setup r.setup) behind'

-- Entries and frames among the items.
pub entries_append : (xs ys : List Item) → entries_in (xs ++ ys) ≡ entries_in xs ++ entries_in ys
entries_append [] ys = refl
entries_append (Nothing ∷ xs) ys = entries_append xs ys
entries_append (AnEntry entry ∷ xs) ys = ap (λ es. entry ∷ es) (entries_append xs ys)
entries_append (AFrame frame ∷ xs) ys = entries_append xs ys

pub frames_append : (xs ys : List Item) → frames_in (xs ++ ys) ≡ frames_in xs ++ frames_in ys
frames_append [] ys = refl
frames_append (Nothing ∷ xs) ys = frames_append xs ys
frames_append (AnEntry entry ∷ xs) ys = frames_append xs ys
frames_append (AFrame frame ∷ xs) ys = ap (λ fs. frame ∷ fs) (frames_append xs ys)

no_entries : {X : Type 0} (xs : List X) → entries_in (nothings xs) ≡ []
no_entries [] = refl
no_entries (x ∷ xs) = no_entries xs

no_frames : {X : Type 0} (xs : List X) → frames_in (nothings xs) ≡ []
no_frames [] = refl
no_frames (x ∷ xs) = no_frames xs

all_entries : (es : List Entry) → entries_in (map AnEntry es) ≡ es
all_entries [] = refl
all_entries (entry ∷ es) = ap (λ more. entry ∷ more) (all_entries es)

entries_alone : (es : List Entry) → frames_in (map AnEntry es) ≡ []
entries_alone [] = refl
entries_alone (entry ∷ es) = entries_alone es

all_frames : (fs : List Frame) → frames_in (frame_items fs) ≡ fs
all_frames [] = refl
all_frames (frame ∷ fs) = ap (λ more. frame ∷ more) (all_frames fs)

frames_alone : (fs : List Frame) → entries_in (frame_items fs) ≡ []
frames_alone [] = refl
frames_alone (frame ∷ fs) = frames_alone fs

front_entries : (setup : Setup) → entries_in (front_items setup) ≡ []
front_entries setup = simp (entries_append, no_entries)

front_frames : (setup : Setup) → frames_in (front_items setup) ≡ []
front_frames setup = simp (frames_append, no_frames)

six_entries : (a b c d e f : List Item) → entries_in (a ++ (b ++ (c ++ d ++ e ++ f))) ≡ entries_in a ++ entries_in b ++ entries_in c ++ entries_in d ++ entries_in e ++ entries_in f
six_entries a b c d e f = simp (entries_append, append_assoc)

six_frames : (a b c d e f : List Item) → frames_in (a ++ (b ++ (c ++ d ++ e ++ f))) ≡ frames_in a ++ frames_in b ++ frames_in c ++ frames_in d ++ frames_in e ++ frames_in f
six_frames a b c d e f = simp (frames_append, append_assoc)

entries_given : (journal : Journal) → entries_in (items_of journal) ≡ journal.entries
entries_given journal =
    six_entries (front_items journal.setup) (nothings (host_pieces journal.setup.host)) (map AnEntry journal.entries) (Nothing ∷ Nothing ∷ []) (frame_items journal.frames) (Nothing ∷ [])
    ∙ (λ i. front_entries journal.setup i ++ no_entries (host_pieces journal.setup.host) i ++ all_entries journal.entries i ++ [] ++ frames_alone journal.frames i ++ [])
    ∙ simp append-nil

frames_given : (journal : Journal) → frames_in (items_of journal) ≡ journal.frames
frames_given journal =
    six_frames (front_items journal.setup) (nothings (host_pieces journal.setup.host)) (map AnEntry journal.entries) (Nothing ∷ Nothing ∷ []) (frame_items journal.frames) (Nothing ∷ [])
    ∙ (λ i. front_frames journal.setup i ++ no_frames (host_pieces journal.setup.host) i ++ entries_alone journal.entries i ++ [] ++ all_frames journal.frames i ++ [])
    ∙ append-nil journal.frames

-- A journal is read from its pieces.
pub journal_read : CommandsAreSaid → (journal : Journal) → JournalInRange journal → IsReadAs (pieces_of journal) journal
journal_read commands journal r = record { items = items_of journal; run_is = journal_goes commands journal r; entries = entries_given journal; frames = frames_given journal }

-- What is read is one journal.
pub one_read : (pieces : List (List ℕ)) (a b : Journal) → JournalInRange a → JournalInRange b → IsReadAs pieces a → IsReadAs pieces b → a ≡ b
one_read pieces a b r s first second =
    let same : (done_of a, first.items) ≡ (done_of b, second.items) = some_is (done_of a, first.items) (done_of b, second.items) (sym first.run_is ∙ second.run_is) in
    let accepted : a.setup.accepted ≡ b.setup.accepted = sym (accepted_told a.setup.accepted r.setup.accepted) ∙ ap (λ d. features_but d.0.left_out) same ∙ accepted_told b.setup.accepted s.setup.accepted in
    let queues : a.setup.queues ≡ b.setup.queues = sym (queues_told a.setup.queues r.setup.queues) ∙ ap (λ d. queues_of d.0.version) same ∙ queues_told b.setup.queues s.setup.queues in
    let entries : a.entries ≡ b.entries = sym first.entries ∙ ap (λ d. entries_in d.1) same ∙ second.entries in
    let frames : a.frames ≡ b.frames = sym first.frames ∙ ap (λ d. frames_in d.1) same ∙ second.frames in
    λ i. record {
      setup = record { displays = (same i).0.displays; pages = (same i).0.pages; accepted = accepted i; clients = (same i).0.clients; queues = queues i; host = (same i).0.host };
      entries = entries i;
      control = (same i).0.control;
      cursor = (same i).0.cursor;
      frames = frames i;
    }

-- Journals with the same text are the same.
pub one_text : CommandsAreSaid → (a b : Journal) → JournalInRange a → JournalInRange b → text_of a ≡ text_of b → a ≡ b
one_text commands a b r s same =
    let first = journal_read commands a r in
    let second = journal_read commands b s in
    let wholes : whole (pieces_of a) ≡ whole (pieces_of b) = sym (text_pieces commands a) ∙ same ∙ text_pieces commands b in
    let pieces : pieces_of a ≡ pieces_of b = one_run (pieces_of a) (pieces_of b) start (done_of a, first.items) (done_of b, second.items) first.run_is second.run_is wholes in
    let second' : IsReadAs (pieces_of a) b = record { items = second.items; run_is = ap (run start) pieces ∙ second.run_is; entries = second.entries; frames = second.frames } in
    one_read (pieces_of a) a b r s first second'
