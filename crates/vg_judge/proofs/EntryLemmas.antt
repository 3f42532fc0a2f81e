-- An entry's line read.
use Rattle.std.proofs.Common.{◌≡◌, ℕ, ◌+◌, ◌==◌, ◌≤◌, true, List, [], ◌∷◌, ◌++◌, Option, Some, ap, ◌∙◌, append_assoc}
use Rattle.std.specs.List.{after_first, before_first}
use Rattle.vg_machine.specs.Entries.{Entry}
use Rattle.vg_line_words.specs.Words.{lacks, parts_at}
use Rattle.vg_journal_lines.specs.Entries.{EntryInRange, entry_of, entry_words}
use Rattle.vg_journal_lines.specs.Ranges.{IsCount}
use Rattle.vg_journal_lines.specs.Words.{joined}
use Rattle.vg_journal_lines.specs.Pieces.{whole}
use Rattle.vg_judge.specs.EntriesWithin.{StandsNext}
use Rattle.vg_judge.proofs.LineLemmas.{before_end, behind_end}
use Rattle.vg_limits.specs.Limits.{version_2}

-- What the law of the crate below says of an entry's line.
pub record EntriesAreSaid : Type 0 where
  pub parts : (n clients : ℕ) (entry : Entry) → clients ≤ version_2.clients + 1 → IsCount n → EntryInRange clients entry → parts_at 32 (joined (entry_words n entry)) ≡ entry_words n entry
  pub line : (n clients : ℕ) (entry : Entry) → clients ≤ version_2.clients + 1 → IsCount n → EntryInRange clients entry → lacks 10 (joined (entry_words n entry)) ≡ true
  pub back : (n clients : ℕ) (entry : Entry) → clients ≤ version_2.clients + 1 → IsCount n → EntryInRange clients entry → entry_of n clients (entry_words n entry) ≡ Some entry

-- Its line is cut off and read.
pub record IsRead (n clients : ℕ) (bytes : List ℕ) (entry : Entry) (more : List ℕ) : Type 0 where
  pub entry_is : entry_of n clients (parts_at 32 (before_first (λ b. b == 10) bytes)) ≡ Some entry
  pub behind : after_first (λ b. b == 10) bytes ≡ more

one_piece : (p more : List ℕ) → whole (p ∷ []) ++ more ≡ p ++ 10 ∷ more
one_piece p more = simp append_assoc

pub is_read : (n clients : ℕ) (bytes : List ℕ) (entry : Entry) (more : List ℕ) → EntriesAreSaid → StandsNext n clients bytes entry more → IsRead n clients bytes entry more
is_read n clients bytes entry more laws stands =
    let line = joined (entry_words n entry) in
    let lacking = laws.line n clients entry stands.few stands.number stands.in_range in
    let place : bytes ≡ line ++ 10 ∷ more = stands.place ∙ one_piece line more in
    record {
      entry_is =
          ap (λ l. entry_of n clients (parts_at 32 l)) (before_end bytes line more place lacking)
          ∙ ap (entry_of n clients) (laws.parts n clients entry stands.few stands.number stands.in_range)
          ∙ laws.back n clients entry stands.few stands.number stands.in_range;
      behind = behind_end bytes line more place lacking;
    }

pub is_some : (n clients : ℕ) (bytes line more : List ℕ) (words : List (List ℕ)) (entry : Entry) (found : Option Entry) → EntriesAreSaid → StandsNext n clients bytes entry more → line ≡ before_first (λ b. b == 10) bytes → words ≡ parts_at 32 line
    → found ≡ entry_of n clients words → found ≡ Some entry
is_some n clients bytes line more words entry found laws stands first parts is =
    is ∙ ap (entry_of n clients) parts ∙ ap (λ l. entry_of n clients (parts_at 32 l)) first ∙ (is_read n clients bytes entry more laws stands).entry_is

pub the_same : (one other : Entry) → Some one ≡ Some other → one ≡ other
the_same one other is = cc
