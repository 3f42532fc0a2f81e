use Rattle.std.proofs.Common.{◌++◌, ◌∙◌, List, ℕ, get_or, take, ap, sym, refl, arith}
use Rattle.hex.specs.Hex.{encode_lower}
use Rattle.vg_text.proofs.PackingLemmas.{characters_said, digits_part}
use Rattle.vg_text.proofs.spelling.put_part.Goals as goal

pub part_of-requires : goal.part_of-requires
part_of-requires c =
    (digits_part c.args.packed.now (get_or c.args.packed.now 0 0) c.told-count.result refl c.told-count.ensures.next (search (arith, c.if-first-lt128.false)) (search (arith, c.if-first-lt224.true)) c.requires.some c.requires.whole).0

pub returns-in_ok-extend_from_slice-clause-text : goal.returns-in_ok-extend_from_slice-clause-text
returns-in_ok-extend_from_slice-clause-text c =
    c.in_ok-extend_from_slice.ensures.items ∙ ap (λ (l : List ℕ). c.args.out.now.items ++ l) (sym (characters_said (take c.characters-end.result c.args.packed.now) c.characters-end.ensures.are).0)

pub returns-in_ok-extend_from_slice-clause-whole : goal.returns-in_ok-extend_from_slice-clause-whole
returns-in_ok-extend_from_slice-clause-whole c = (characters_said (take c.characters-end.result c.args.packed.now) c.characters-end.ensures.are).1

pub returns-in_ok-put_digits-clause-text : goal.returns-in_ok-put_digits-clause-text
returns-in_ok-put_digits-clause-text c =
    c.in_ok-put_digits.ensures.text ∙ ap (λ (l : List ℕ). c.args.out.now.items ++ l) (ap encode_lower c.part_of.ensures
    ∙ sym (digits_part c.args.packed.now (get_or c.args.packed.now 0 0) c.told-count.result refl c.told-count.ensures.next (search (arith, c.if-first-lt128.false)) (search (arith, c.if-first-lt224.true)) c.requires.some c.requires.whole).1)

pub returns-in_ok-put_digits-clause-whole : goal.returns-in_ok-put_digits-clause-whole
returns-in_ok-put_digits-clause-whole c =
    (digits_part c.args.packed.now (get_or c.args.packed.now 0 0) c.told-count.result refl c.told-count.ensures.next (search (arith, c.if-first-lt128.false)) (search (arith, c.if-first-lt224.true)) c.requires.some c.requires.whole).2

pub returns-in_ok-put_digits-clause-some : goal.returns-in_ok-put_digits-clause-some
returns-in_ok-put_digits-clause-some c =
    let within = (digits_part c.args.packed.now (get_or c.args.packed.now 0 0) c.told-count.result refl c.told-count.ensures.next (search (arith, c.if-first-lt128.false)) (search (arith, c.if-first-lt224.true)) c.requires.some c.requires.whole).0 in
    (omega arith, within)
