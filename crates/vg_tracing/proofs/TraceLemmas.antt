-- The entries of a journal are gone over one after another.
use Rattle.std.proofs.Common.{◌≡◌, ℕ, ◌+◌, ◌-◌, ◌^◌, ◌<◌, ◌≤◌, ◌↔◌, true, List, [], ◌∷◌, ◌++◌, length, arith, sym, ap, subst, ◌∙◌, length-append}
use Rattle.std.specs.List.{All}
use Rattle.std.proofs.lemmas.List.Elements.{All-weaker}
use Rattle.vg_history.specs.declared.entry.Entry.TheVariants as entries
use Rattle.vg_client_holds.specs.Setup.{parties}
use Rattle.vg_client_holds.proofs.SetupLemmas.{few-parties}
use Rattle.vg_machine.specs.Entries.{Entry}
use Rattle.vg_machine.specs.Order.{client_of}
use Rattle.vg_check.specs.Right.{frames_after}
use Rattle.vg_journal.specs.declared.journal.Journal.{Journal}
use Rattle.vg_journal_lines.specs.Entries.{EntryInRange}
use Rattle.vg_journal_lines.specs.Pieces.{JournalInRange}
use Rattle.vg_judge.specs.declared.entries.Entries.{Entries}
use Rattle.vg_judge.specs.declared.verdicts.Outline.{Outline}
use Rattle.vg_judge.specs.Entries.{HasGone, HasNext}
use Rattle.vg_judge.specs.Outline.{IsOutline}
use Rattle.vg_judge.specs.Verdicts.{IsLegal}
use Rattle.vg_judge.proofs.JudgeLemmas.{are_all}
use Rattle.vg_painted.specs.Inks.{tags}
use Rattle.vg_painted.specs.Paint.{painting}
use Rattle.vg_drawn.specs.declared.drawn.Drawn.{Drawn}
use Rattle.vg_drawn.specs.Drawn.{FramesHave, GoesOver, IsDrawn, IsOfFew}
use Rattle.vg_drawn.specs.Sets.{AreNumbered, AreTagsBelow}
use Rattle.vg_drawn.specs.Words.{has_client, union_below, words}
use Rattle.vg_tracing.specs.Origins.{AreClientsOf}
use Rattle.vg_tracing.specs.TracingWithin.{AreTraced}

pub has_next : (journal : Journal) (n : ℕ) (now : Entries) (drawn : Drawn) → JournalInRange journal → length journal.entries ≤ 2 ^ 31 - 1 → n < length journal.entries → (t : AreTraced journal n now drawn) → HasNext journal t.done now
has_next journal n now drawn in_range few more t =
    let count = t.count in
    record { in_range = in_range; few = few; more = omega (arith, count, more); read = t.read }

pub is_of_few : (journal : Journal) (done : List Entry) (entry : Entry) (new : Entries) → JournalInRange journal → HasGone journal done entry new → IsOfFew entry
is_of_few journal done entry new in_range gone =
    let client = gone.client in
    let clients = few-parties journal.setup in_range.setup in
    (gone.one, omega (arith, client, clients))

pub goes_on : (journal : Journal) (n : ℕ) (now new : Entries) (drawn drawn' : Drawn) (entry : Entry) → (t : AreTraced journal n now drawn) → HasGone journal t.done entry new → GoesOver drawn entry drawn' → AreTraced journal (n + 1) new drawn'
goes_on journal n now new drawn drawn' entry t gone over = record {
  done = t.done ++ entry ∷ [];
  count = length-append t.done (entry ∷ []) ∙ ap (λ k. k + 1) t.count;
  read = gone.read;
  is_drawn = over journal.setup t.done t.is_drawn;
}

-- ---- from the text

pub few_are : (bytes : List ℕ) (journal : Journal) (outline : Outline) → IsOutline bytes journal outline → outline.entries ≤ 2 ^ 31 - 1 → length journal.entries ≤ 2 ^ 31 - 1
few_are bytes journal outline is few = let count = is.entries in omega (arith, count, few)

pub more_are : (bytes : List ℕ) (journal : Journal) (outline : Outline) (n : ℕ) → IsOutline bytes journal outline → n < outline.entries → n < length journal.entries
more_are bytes journal outline n is more = let count = is.entries in omega (arith, count, more)

-- ---- all of them

pub all_drawn : (journal : Journal) (n : ℕ) (now : Entries) (drawn : Drawn) → length journal.entries ≤ n → AreTraced journal n now drawn → IsDrawn journal.setup journal.entries drawn
all_drawn journal n now drawn end t =
    let count = t.count in
    let few : length journal.entries ≤ length t.done = omega (arith, count, end) in
    subst (λ es. IsDrawn journal.setup es drawn) (are_all journal t.done t.read.left t.read.place few) t.is_drawn

numbered-one : (clients : ℕ) (entry : Entry) → EntryInRange clients entry → 1 ≤ client_of entry
numbered-one clients (entries.Act client call act reply) range = range.0
numbered-one clients (entries.Command client call request reply) range = range.0

numbered : (clients : ℕ) (H : List Entry) → All (EntryInRange clients) H → AreNumbered H
numbered clients H all = All-weaker (EntryInRange clients) (λ entry. 1 ≤ client_of entry) (numbered-one clients) H all

-- What the law of the crate below says of frames.
abbrev pub FramesAreOfTags : Journal → Type 0
FramesAreOfTags journal =
    (n count client : ℕ) → AreNumbered journal.entries
    → has_client (union_below ((painting words journal.setup journal.entries).frames n) count) client ≡ true ↔ AreTagsBelow journal.entries client ((painting tags journal.setup journal.entries).frames n) count

pub are_clients : (journal : Journal) (sets : List ℕ) → JournalInRange journal → IsLegal journal → FramesAreOfTags journal
    → FramesHave (frames_after journal.setup journal.entries) sets (painting words journal.setup journal.entries).frames → AreClientsOf journal sets
are_clients journal sets in_range legal law have =
    let same : FramesHave journal.frames sets (painting words journal.setup journal.entries).frames = subst (λ frames. FramesHave frames sets (painting words journal.setup journal.entries).frames) legal.fits.frames have in
    record {
      count = same.0;
      clients = λ n client frame is.
          let of : has_client (union_below ((painting words journal.setup journal.entries).frames n) (length frame.pixels)) client ≡ true ↔ AreTagsBelow journal.entries client ((painting tags journal.setup journal.entries).frames n) (length frame.pixels) =
          law n (length frame.pixels) client (numbered (parties journal.setup.clients journal.setup.host) journal.entries in_range.entries) in
          subst (λ word. has_client word client ≡ true ↔ AreTagsBelow journal.entries client ((painting tags journal.setup journal.entries).frames n) (length frame.pixels)) (sym (same.1 n frame is)) of;
    }

pub clients_are : (bytes : List ℕ) (journal : Journal) (outline : Outline) (n : ℕ) (now : Entries) (drawn : Drawn) (sets : List ℕ) → JournalInRange journal → IsOutline bytes journal outline → IsLegal journal → FramesAreOfTags journal
    → outline.entries ≤ n → AreTraced journal n now drawn → sets ≡ drawn.frames.items → AreClientsOf journal sets
clients_are bytes journal outline n now drawn sets in_range is legal law end t same =
    let count = is.entries in
    let all = all_drawn journal n now drawn (omega (arith, count, end)) t in
    are_clients journal sets in_range legal law
    (subst (λ list. FramesHave (frames_after journal.setup journal.entries) list (painting words journal.setup journal.entries).frames) (sym same) all.frames)
