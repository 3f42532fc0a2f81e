use Rattle.vg_journal_lines.proofs.HeadLaws.{display_back, display_only, plain_display, text_display}
use Rattle.vg_journal_lines.proofs.laws.displays_and_their_words.Goals as goal

pub returns : goal.returns
returns c = record { text = text_display; plain = plain_display; back = display_back; only = display_only }
