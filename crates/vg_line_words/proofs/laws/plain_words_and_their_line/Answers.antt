use Rattle.vg_line_words.proofs.PlainLemmas.{plain_line, plain_parts, plain_sign}
use Rattle.vg_line_words.proofs.laws.plain_words_and_their_line.Goals as goal

pub returns : goal.returns
returns c = record { back = plain_parts; line = plain_line; sign = plain_sign }
