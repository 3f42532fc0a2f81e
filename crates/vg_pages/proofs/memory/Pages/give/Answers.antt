-- Pages that are none of those given stay taken.
use Rattle.std.proofs.Common.{ap, sym, subst, ◌∙◌, ◌≤◌, length, false, arith}
use Rattle.vg_pages.specs.Memory.{AreGivable, marked}
use Rattle.vg_pages.proofs.CountLemmas.{count-given, few-free}
use Rattle.vg_pages.proofs.Marked.{below-given, below-less, givable-after_giving, length-marked, marked-in_place}
use Rattle.vg_pages.proofs.memory.Pages.give.Goals as goal

pub returns-clause-others : goal.returns-clause-others
returns-clause-others c =
    let old = c.self.inside.taken.items in
    let pages = c.args.list.now in
    let flags = marked-in_place pages false old _ c.mark.new.flags c.self.inside.taken.len c.as_mut_slice.ensures.value c.mark.ensures (omega arith) in
    let was = ap (λ memory. memory.taken) (sym c.self.view_is) in
    rw flags (λ mine givable apart. givable-after_giving old mine pages (subst (λ taken. AreGivable taken mine) was givable) apart)

pub invariant_of-self : goal.invariant_of-self
invariant_of-self c =
    let old = c.self.inside.taken.items in
    let pages = c.args.list.now in
    let flags = marked-in_place pages false old _ c.mark.new.flags c.self.inside.taken.len c.as_mut_slice.ensures.value c.mark.ensures (omega arith) in
    let was = ap (λ memory. memory.taken) (sym c.self.view_is) in
    let taken = ap length flags ∙ length-marked pages false old in
    let low = c.least-self-inside.result in
    let less : low ≤ c.self.inside.low = c.least-self-inside.ensures.low in
    let fits : low ≤ length old = omega (arith, less, c.self.invariant.1) in (
      (omega (arith, taken, c.self.invariant.0.0), omega (arith, taken, c.self.invariant.0.1), omega (arith, taken, c.self.invariant.0.2)),
      omega (arith, taken, fits),
      rw flags (below-given pages old low fits c.least-self-inside.ensures.pages (below-less old c.self.inside.low low less c.self.invariant.2)),
      rw flags (omega (arith, c.self.invariant.3, count-given old pages (subst (λ taken. AreGivable taken pages) was (record { all_taken = c.requires.all_taken; differ = c.requires.differ })))),
    )

pub overflow_cast-self : goal.overflow_cast-self
overflow_cast-self c =
    let old = c.self.inside.taken.items in
    let pages = c.args.list.now in
    let was = ap (λ memory. memory.taken) (sym c.self.view_is) in
    let counted = count-given old pages (subst (λ taken. AreGivable taken pages) was (record { all_taken = c.requires.all_taken; differ = c.requires.differ })) in
    omega (arith, counted, few-free (marked pages false old), length-marked pages false old, c.self.invariant.3, c.self.invariant.0.2)

pub overflow_add-self : goal.overflow_add-self
overflow_add-self c =
    let old = c.self.inside.taken.items in
    let pages = c.args.list.now in
    let was = ap (λ memory. memory.taken) (sym c.self.view_is) in
    let counted = count-given old pages (subst (λ taken. AreGivable taken pages) was (record { all_taken = c.requires.all_taken; differ = c.requires.differ })) in
    omega (arith, counted, few-free (marked pages false old), length-marked pages false old, c.self.invariant.3, c.self.invariant.0.2)
