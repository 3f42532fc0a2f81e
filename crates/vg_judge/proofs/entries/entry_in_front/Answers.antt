use Rattle.std.proofs.Common.{◌∙◌, ap, map, sym, rules}
use Rattle.vg_judge.proofs.EntryLemmas.{EntriesAreSaid, is_read, is_some, the_same}
use Rattle.vg_judge.proofs.entries.entry_in_front.Goals as goal

pub unwrap-entry-requires : goal.unwrap-entry-requires
unwrap-entry-requires c =
    let laws : EntriesAreSaid = record {
      parts = c.entries_and_their_words.ensures.parts;
      line = c.entries_and_their_words.ensures.line;
      back = c.entries_and_their_words.ensures.back;
    } in
    let some = is_some _ _ _ _ _ _ _ _ laws c.requires.2 c.cut.ensures.before (ap (map (λ word. word.now)) c.as_slice.ensures.value ∙ c.in_ok-put_parts.ensures.ok) c.in_ok-read_entry.ensures in
    rw some (search rules)

pub returns : goal.returns
returns c = λ entry more stands.
    let laws : EntriesAreSaid = record {
      parts = c.entries_and_their_words.ensures.parts;
      line = c.entries_and_their_words.ensures.line;
      back = c.entries_and_their_words.ensures.back;
    } in
    let some = is_some _ _ _ _ _ _ _ _ laws stands c.cut.ensures.before (ap (map (λ word. word.now)) c.as_slice.ensures.value ∙ c.in_ok-put_parts.ensures.ok) c.in_ok-read_entry.ensures in
    (the_same _ _ (sym c.unwrap-entry.ensures ∙ some), c.cut.ensures.after ∙ (is_read _ _ _ _ _ laws stands).behind)
