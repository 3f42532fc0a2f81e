use Rattle.std.proofs.Common.{◌≡◌, ◌++◌, take}
use Rattle.vg_text.specs.Text.{numbered}
use Rattle.vg_journal_words.specs.Text.{comma_text}
use Rattle.vg_journal_words.proofs.replies.put_more_pages.Given as goal

abbrev pub invariant-loop-place : goal.invariant-loop-place
invariant-loop-place l = l.out ≡ l.initial.out ++ numbered comma_text 0 (take l.place l.pages)
