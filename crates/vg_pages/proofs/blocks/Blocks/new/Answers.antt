use Rattle.std.proofs.Common.{◌*◌, ◌∙◌, None, ap, replicate, arith}
use Rattle.vg_pages.specs.BlocksWithin.{overlaid}
use Rattle.vg_pages.proofs.Spliced.{overlaid-none}
use Rattle.vg_pages.proofs.blocks.Blocks.new.Goals as goal

pub returns : goal.returns
returns c =
    ap (λ blocks. overlaid blocks c.in_ok-base.base) c.in_ok-blocks.ensures
    ∙ ap (λ base. overlaid (replicate c.args.count None) base) c.in_ok-base.ensures
    ∙ overlaid-none (c.args.count * 4096) c.args.count
    ∙ ap (λ n. replicate n 0) (omega arith)
