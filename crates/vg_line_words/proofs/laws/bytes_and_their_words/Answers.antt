use Rattle.vg_line_words.proofs.HexLaws.{bytes_back, bytes_only, bytes_range, within_few, within_parts, plain_bytes}
use Rattle.vg_line_words.specs.Words.{bytes_of}
use Rattle.vg_line_words.proofs.laws.bytes_and_their_words.Goals as goal

pub returns : goal.returns
returns c = record {
  back = bytes_back;
  only = bytes_only;
  range = bytes_range;
  few = within_few;
  within = λ most word bytes is. within_parts most (bytes_of word) bytes is;
  plain = plain_bytes;
}
