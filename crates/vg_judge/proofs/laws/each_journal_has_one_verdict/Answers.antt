use Rattle.vg_judge.proofs.VerdictLemmas.{LawsOfWrong, not_both, one_wrong, some_verdict}
use Rattle.vg_judge.proofs.laws.each_journal_has_one_verdict.Goals as goal

pub returns-clause-one : goal.returns-clause-one
returns-clause-one c = λ journal n m.
    let laws : LawsOfWrong = record {
      sound = c.right_is_sound.ensures;
      once = c.one_entry_is_wrong_first.ensures.once;
      none = c.one_entry_is_wrong_first.ensures.none;
      right = c.right_entries_go_on.ensures.right;
      wrong = c.right_entries_go_on.ensures.wrong;
    } in
    one_wrong journal n m laws

pub returns-clause-not_both : goal.returns-clause-not_both
returns-clause-not_both c = λ journal n.
    let laws : LawsOfWrong = record {
      sound = c.right_is_sound.ensures;
      once = c.one_entry_is_wrong_first.ensures.once;
      none = c.one_entry_is_wrong_first.ensures.none;
      right = c.right_entries_go_on.ensures.right;
      wrong = c.right_entries_go_on.ensures.wrong;
    } in
    not_both journal n laws

pub returns-clause-some : goal.returns-clause-some
returns-clause-some c = λ journal.
    let laws : LawsOfWrong = record {
      sound = c.right_is_sound.ensures;
      once = c.one_entry_is_wrong_first.ensures.once;
      none = c.one_entry_is_wrong_first.ensures.none;
      right = c.right_entries_go_on.ensures.right;
      wrong = c.right_entries_go_on.ensures.wrong;
    } in
    some_verdict journal laws
