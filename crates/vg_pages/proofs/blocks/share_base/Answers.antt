use Rattle.std.proofs.Common.{◌-◌, ◌∙◌, ap, sym, length, take, drop, arith}
use Rattle.std.proofs.lemmas.List.{take-replicate, length-take, length-drop}
use Rattle.vg_pages.proofs.blocks.share_base.Goals as goal

pub returns-then-is_zero_from-clause-bytes : goal.returns-then-is_zero_from-clause-bytes
returns-then-is_zero_from-clause-bytes c =
    let base = c.args.base.now in
    sym (ap (take 4096) (c.is_zero_from.ensures c.if-is_zero_from.true) ∙ take-replicate 4096 (length base - c.args.start) 0 (omega (arith, c.requires)))

pub of-requires : goal.of-requires
of-requires c =
    let base = c.args.base.now in
    ap length c.in_ok-page.ensures ∙ omega (arith, c.requires, length-take 4096 (drop c.args.start base), length-drop c.args.start base)
