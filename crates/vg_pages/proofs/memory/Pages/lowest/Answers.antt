use Rattle.std.proofs.Common.{ap, sym, ◌∙◌, take}
use Rattle.vg_pages.specs.Memory.{free_pages}
use Rattle.vg_pages.proofs.Marked.{takeable-lowest}
use Rattle.vg_pages.proofs.memory.Pages.lowest.Goals as goal

pub returns-clause-takeable : goal.returns-clause-takeable
returns-clause-takeable c =
    let was = ap (λ memory. memory.taken) (sym c.self.view_is) in
    let items = c.in_ok-pages.ensures.lowest ∙ ap (λ flags. take c.args.n (free_pages flags)) (c.as_slice.ensures.value ∙ sym was) in
    rw items (takeable-lowest c.args.self.now.taken c.args.n)
