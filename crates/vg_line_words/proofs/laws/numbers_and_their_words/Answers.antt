use Rattle.vg_line_words.proofs.NumberLaws.{number_back, number_only, number_range, plain_decimal}
use Rattle.vg_line_words.proofs.laws.numbers_and_their_words.Goals as goal

pub returns : goal.returns
returns c = record { back = number_back; only = number_only; range = number_range; plain = plain_decimal }
