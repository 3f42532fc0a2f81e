use Rattle.vg_line_words.proofs.ListLaws.{numbers_back, numbers_only, numbers_range, plain_numbers}
use Rattle.vg_line_words.proofs.laws.lists_and_their_words.Goals as goal

pub returns : goal.returns
returns c = record { back = numbers_back; only = numbers_only; range = numbers_range; plain = plain_numbers }
