-- The next entry of a journal, read from its text.
use Rattle.std.proofs.Common.{◌≡◌, ℕ, ◌+◌, ◌<◌, ◌≤◌, ◌^◌, List, [], ◌∷◌, ◌++◌, length, arith, refl, sym, ap, subst, ◌∙◌, append_assoc, length-append}
use Rattle.std.proofs.lemmas.List.Elements.{All-head, All-tail}
use Rattle.std.specs.List.{All}
use Rattle.vg_history.specs.declared.entry.Entry.TheVariants as entries
use Rattle.vg_client_holds.specs.Setup.{parties}
use Rattle.vg_client_holds.proofs.SetupLemmas.{few-parties}
use Rattle.vg_machine.specs.Entries.{Entry}
use Rattle.vg_machine.specs.Order.{call_of, client_of}
use Rattle.vg_journal.specs.declared.journal.Journal.{Journal}
use Rattle.vg_journal_lines.specs.Entries.{EntryInRange, entry_words}
use Rattle.vg_journal_lines.specs.Words.{joined}
use Rattle.vg_journal_lines.specs.Pieces.{entry_pieces, numbered_pieces, whole}
use Rattle.vg_judge.specs.declared.entries.Entries.{Entries}
use Rattle.vg_judge.specs.Entries.{HasGone, HasNext}
use Rattle.vg_judge.specs.EntriesWithin.{StandsNext}

-- The entry whose turn it is.
pub record Turn (journal : Journal) (done : List Entry) (now : Entries) : Type 0 where
  pub entry : Entry
  pub left : List Entry
  pub behind : List ℕ
  pub place : journal.entries ≡ done ++ (entry ∷ left)
  pub one : 1 ≤ client_of entry
  pub client : client_of entry ≤ parties journal.setup.clients journal.setup.host
  pub call : call_of entry < 2 ^ 63
  pub stands : StandsNext (now.read + 1) now.clients now.rest.now entry (whole (numbered_pieces entry_pieces (length done + 1 + 1) left) ++ behind)

all_behind : (P : Entry → Type 0) (xs ys : List Entry) → All P (xs ++ ys) → All P ys
all_behind P [] ys all = all
all_behind P (x ∷ xs) ys all = all_behind P xs ys (All-tail P x (xs ++ ys) all)

has_client : (clients : ℕ) (entry : Entry) → EntryInRange clients entry → (1 ≤ client_of entry) × (client_of entry ≤ clients) × (call_of entry < 2 ^ 63)
has_client clients (entries.Act client call act reply) range = (range.0, range.1, range.2)
has_client clients (entries.Command client call request reply) range = (range.0, range.1, range.2)

one_piece : (p more behind : List ℕ) → (p ++ 10 ∷ more) ++ behind ≡ (p ++ 10 ∷ []) ++ (more ++ behind)
one_piece p more behind = simp append_assoc

turn_of : (journal : Journal) (done : List Entry) (now : Entries) (left : List Entry) (next : HasNext journal done now) → next.read.left ≡ left → Turn journal done now
turn_of journal done now [] next is =
    let place = ap length (next.read.place ∙ ap (λ l. done ++ l) is) in
    let sum = length-append done [] in
    let more = next.more in
    absurd (omega (arith, place, sum, more))
turn_of journal done now (entry ∷ left) next is =
    let read = next.read in
    let place : journal.entries ≡ done ++ (entry ∷ left) = read.place ∙ ap (λ l. done ++ l) is in
    let all = subst (All (EntryInRange (parties journal.setup.clients journal.setup.host))) place next.in_range.entries in
    let range = All-head (EntryInRange (parties journal.setup.clients journal.setup.host)) entry left (all_behind (EntryInRange (parties journal.setup.clients journal.setup.host)) done (entry ∷ left) all) in
    let client = has_client (parties journal.setup.clients journal.setup.host) entry range in
    let size = ap length place in
    let sum = length-append done (entry ∷ left) in
    let few = next.few in
    let clients = few-parties journal.setup next.in_range.setup in
    let same = read.clients in
    let count = read.count in
    record {
      entry = entry;
      left = left;
      behind = read.behind;
      place = place;
      one = client.0;
      client = client.1;
      call = client.2;
      stands = record {
        few = omega (arith, clients, same);
        number = omega (arith, size, sum, few, count);
        in_range = subst (λ n. EntryInRange n entry) (sym read.clients) range;
        place =
            read.rest
            ∙ ap (λ l. whole (numbered_pieces entry_pieces (length done + 1) l) ++ read.behind) is
            ∙ one_piece (joined (entry_words (length done + 1) entry)) (whole (numbered_pieces entry_pieces (length done + 1 + 1) left)) read.behind
            ∙ ap (λ k. whole (entry_pieces (k + 1) entry) ++ (whole (numbered_pieces entry_pieces (length done + 1 + 1) left) ++ read.behind)) (sym count);
      };
    }

pub turn : (journal : Journal) (done : List Entry) (now : Entries) → HasNext journal done now → Turn journal done now
turn journal done now next = turn_of journal done now next.read.left next refl

pub has_gone : (journal : Journal) (done : List Entry) (now new : Entries) (entry : Entry) → HasNext journal done now → (t : Turn journal done now) → entry ≡ t.entry → new.clients ≡ now.clients → new.read ≡ now.read + 1
    → new.rest.now ≡ whole (numbered_pieces entry_pieces (length done + 1 + 1) t.left) ++ t.behind → HasGone journal done entry new
has_gone journal done now new entry next t is clients count rest =
    let size : length done + 1 ≡ length (done ++ entry ∷ []) = sym (length-append done (entry ∷ [])) in
    let place : journal.entries ≡ done ++ (entry ∷ t.left) = t.place ∙ ap (λ e. done ++ (e ∷ t.left)) (sym is) in
    record {
      left = t.left;
      place = place;
      one = subst (λ e. 1 ≤ client_of e) (sym is) t.one;
      client = subst (λ e. client_of e ≤ parties journal.setup.clients journal.setup.host) (sym is) t.client;
      call = subst (λ e. call_of e < 2 ^ 63) (sym is) t.call;
      read = record {
        left = t.left;
        behind = t.behind;
        place = place ∙ sym (append_assoc done (entry ∷ []) t.left);
        clients = clients ∙ next.read.clients;
        count = count ∙ ap (λ k. k + 1) next.read.count ∙ size;
        rest = rest ∙ ap (λ k. whole (numbered_pieces entry_pieces (k + 1) t.left) ++ t.behind) size;
      };
    }
