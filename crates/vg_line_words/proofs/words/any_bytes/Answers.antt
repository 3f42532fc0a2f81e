use Rattle.std.proofs.Common.{sym, ◌∙◌, eqb-true}
use Rattle.vg_line_words.proofs.HexLaws.{given_none, given_empty, given_other, given_bytes, some_bytes}
use Rattle.vg_line_words.proofs.words.any_bytes.Goals as goal

pub returns-then-is : goal.returns-then-is
returns-then-is c = given_none c.args.word.now _ (sym c.is.ensures ∙ c.if-is.true) (c.from_vec.ensures ∙ c.new.ensures.items)

pub returns-then-is_empty : goal.returns-then-is_empty
returns-then-is_empty c = given_empty c.args.word.now (sym c.is.ensures ∙ c.if-is.false) (eqb-true _ _ (sym c.is_empty.ensures ∙ c.if-is_empty.true))

pub returns-in-Ok : goal.returns-in-Ok
returns-in-Ok c =
    given_bytes c.args.word.now _ (sym c.is.ensures ∙ c.if-is.false) (some_bytes _ (sym c.is_empty.ensures ∙ c.if-is_empty.false))
    c.in-Ok.ensures.0
    c.in-Ok.ensures.1

pub returns-in-Err-Fault : goal.returns-in-Err-Fault
returns-in-Err-Fault c =
    let told = rw c.in-Err-Fault.field-0-is at c.in-Err-Fault.ensures in
    given_other c.args.word.now (sym c.is.ensures ∙ c.if-is.false) told.1
