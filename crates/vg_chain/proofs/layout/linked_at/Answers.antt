use Rattle.std.proofs.Common.{refl, ◌∙◌}
use Rattle.vg_chain.specs.Made.{parts_of}
use Rattle.vg_chain.proofs.LayoutLemmas.{linked_is}
use Rattle.vg_chain.proofs.layout.linked_at.Goals as goal

pub returns : goal.returns
returns c = λ nexts e.
    let parts = parts_of c.args.most c.args.extent.now.request c.args.extent.now.room c.args.extent.now.base in
    let is = linked_is parts nexts c.args.at c.args.next (λ h. e) in
    let count = c.count_parts-count.ensures.count c.args.extent.now.base in
    is ∙ rw (count, c.link.ensures, c.part_of-part.ensures, c.from.ensures, c.from-2.ensures) refl
