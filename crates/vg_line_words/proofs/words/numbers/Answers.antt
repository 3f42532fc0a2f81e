use Rattle.std.proofs.Common.{Some, sym, ap, ◌∙◌}
use Rattle.vg_line_words.specs.Words.{all_numbers, parts_at}
use Rattle.vg_line_words.proofs.ListLaws.{given_none, given_all, onto, onto_more, onto_none, onto_last}
use Rattle.vg_line_words.proofs.words.numbers.Goals as goal

pub returns-then-is : goal.returns-then-is
returns-then-is c = given_none c.args.bound c.args.word.now _ (sym c.is.ensures ∙ c.if-is.true) (c.from_vec.ensures ∙ c.new.ensures.items)

pub returns-in_default-short_number : goal.returns-in_default-short_number
returns-in_default-short_number c =
    let none = onto_none c.args.bound c.loop-part.numbers.items c.in-Some.part.now (parts_at 44 c.in-Some.after.now) (parts_at 44 c.loop-part.rest.now) c.in-Some.ensures.parts (sym c.short_number.ensures ∙ c.in_default-short_number.is) in
    sym (given_all c.args.bound c.args.word.now (sym c.is.ensures ∙ c.if-is.false) ∙ sym c.loop-part.invariant ∙ none)

pub loop-part-preserved : goal.loop-part-preserved
loop-part-preserved c =
    let more = onto_more c.args.bound c.in-Some-short_number.n c.loop-part.numbers.items c.in-Some.part.now (parts_at 44 c.in-Some.after.now) (parts_at 44 c.loop-part.rest.now) c.in-Some.ensures.parts (sym c.short_number.ensures ∙ c.in-Some-short_number.is) in
    ap (λ l. onto l (all_numbers c.args.bound (parts_at 44 c.in-Some.after.now))) c.in_ok-push.ensures.items ∙ more ∙ c.loop-part.invariant

pub returns-in_default-short_number-2 : goal.returns-in_default-short_number-2
returns-in_default-short_number-2 c =
    let none = onto_none c.args.bound c.loop-part.numbers.items c.loop-part.rest.now _ (parts_at 44 c.loop-part.rest.now) c.in_default.ensures.parts (sym c.short_number-2.ensures ∙ c.in_default-short_number-2.is) in
    sym (given_all c.args.bound c.args.word.now (sym c.is.ensures ∙ c.if-is.false) ∙ sym c.loop-part.invariant ∙ none)

pub returns : goal.returns
returns c =
    let last = onto_last c.args.bound c.in-Some-short_number-2.n c.loop-part.numbers.items c.loop-part.rest.now (parts_at 44 c.loop-part.rest.now) c.in_default.ensures.parts (sym c.short_number-2.ensures ∙ c.in-Some-short_number-2.is) in
    ap Some (c.from_vec-2.ensures ∙ c.in_ok-push-2.ensures.items) ∙ sym (given_all c.args.bound c.args.word.now (sym c.is.ensures ∙ c.if-is.false) ∙ sym c.loop-part.invariant ∙ last)
