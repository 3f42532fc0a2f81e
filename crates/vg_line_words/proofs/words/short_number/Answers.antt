use Rattle.std.proofs.Common.{◌≡◌, Some, sym, ◌∙◌, arith}
use Rattle.vg_line_words.specs.Words.{number_of}
use Rattle.vg_line_words.proofs.NumberLaws.{number_range}
use Rattle.vg_line_words.proofs.words.short_number.Goals as goal

pub overflow_cast-result : goal.overflow_cast-result
overflow_cast-result c =
    let read : number_of c.args.bound c.args.word.now ≡ Some c.in_ok-number.number = sym c.number.ensures ∙ c.in_ok-number.was in
    let small = number_range c.args.bound c.in_ok-number.number c.args.word.now read in
    search (arith, small)
