use Rattle.vg_line_words.proofs.PartLemmas.{parts-joined, joined-parts}
use Rattle.vg_line_words.proofs.laws.words_and_their_line.Goals as goal

pub returns : goal.returns
returns c = record { back = parts-joined; only = joined-parts }
