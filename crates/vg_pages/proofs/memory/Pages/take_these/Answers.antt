-- Pages that are taken may be given back, and what could be given back still may.
use Rattle.std.proofs.Common.{ap, sym, subst, ◌∙◌, length, true, arith}
use Rattle.vg_pages.specs.Memory.{AreGivable, AreTakeable, AreTakenBelow}
use Rattle.vg_pages.proofs.CountLemmas.{count-taken, few-free}
use Rattle.vg_pages.proofs.Marked.{below-taken, givable-taken, givable-after_taking, length-marked, length-zeroed, marked-in_place}
use Rattle.vg_pages.proofs.memory.Pages.take_these.Goals as goal

pub returns-clause-givable : goal.returns-clause-givable
returns-clause-givable c =
    let old = c.self.inside.taken.items in
    let pages = c.args.list.now in
    let was = ap (λ memory. memory.taken) (sym c.self.view_is) in
    let flags = marked-in_place pages true old _ c.mark.new.flags c.self.inside.taken.len c.as_mut_slice.ensures.value c.mark.ensures (omega arith) in
    rw flags (givable-taken old pages (subst (λ taken. AreTakeable taken pages) was (record { all_free = c.requires.all_free; differ = c.requires.differ })))

pub returns-clause-others : goal.returns-clause-others
returns-clause-others c =
    let old = c.self.inside.taken.items in
    let pages = c.args.list.now in
    let was = ap (λ memory. memory.taken) (sym c.self.view_is) in
    let flags = marked-in_place pages true old _ c.mark.new.flags c.self.inside.taken.len c.as_mut_slice.ensures.value c.mark.ensures (omega arith) in
    rw flags (λ mine givable. givable-after_taking old mine pages (subst (λ taken. AreGivable taken mine) was givable))

pub invariant_of-self : goal.invariant_of-self
invariant_of-self c =
    let was = ap (λ memory. memory.taken) (sym c.self.view_is) in
    let counted = count-taken c.self.inside.taken.items c.args.list.now (subst (λ taken. AreTakeable taken c.args.list.now) was (record { all_free = c.requires.all_free; differ = c.requires.differ })) in
    let old = c.self.inside.taken.items in
    let pages = c.args.list.now in
    let flags = marked-in_place pages true old _ c.mark.new.flags c.self.inside.taken.len c.as_mut_slice.ensures.value c.mark.ensures (omega arith) in
    let taken = ap length flags ∙ length-marked pages true old in
    let bytes = ap length c.zero.ensures ∙ length-zeroed pages c.self.inside.bytes in (
      (omega (arith, bytes, taken, c.self.invariant.0.0), omega (arith, taken, c.self.invariant.0.1), omega (arith, taken, c.self.invariant.0.2)),
      omega (arith, c.next_free-self-inside.ensures.inside, ap length c.as_slice.ensures.value),
      subst (λ flags. AreTakenBelow flags c.next_free-self-inside.result) c.as_slice.ensures.value c.next_free-self-inside.ensures.below,
      rw flags (omega (arith, c.self.invariant.3, counted)),
    )

pub next_free-self-inside-requires-clause-below : goal.next_free-self-inside-requires-clause-below
next_free-self-inside-requires-clause-below c =
    let old = c.self.inside.taken.items in
    let pages = c.args.list.now in
    let flags = marked-in_place pages true old _ c.mark.new.flags c.self.inside.taken.len c.as_mut_slice.ensures.value c.mark.ensures (omega arith) in
    let below = below-taken pages old c.self.inside.low c.self.invariant.1 c.self.invariant.2 in
    subst (λ flags. AreTakenBelow flags c.self.inside.low) (sym (c.as_slice.ensures.value ∙ flags)) below

pub overflow_cast-self : goal.overflow_cast-self
overflow_cast-self c =
    let was = ap (λ memory. memory.taken) (sym c.self.view_is) in
    let counted = count-taken c.self.inside.taken.items c.args.list.now (subst (λ taken. AreTakeable taken c.args.list.now) was (record { all_free = c.requires.all_free; differ = c.requires.differ })) in
    omega (arith, counted, few-free c.self.inside.taken.items, c.self.invariant.0.2)

pub overflow_sub-self : goal.overflow_sub-self
overflow_sub-self c =
    let was = ap (λ memory. memory.taken) (sym c.self.view_is) in
    let counted = count-taken c.self.inside.taken.items c.args.list.now (subst (λ taken. AreTakeable taken c.args.list.now) was (record { all_free = c.requires.all_free; differ = c.requires.differ })) in
    omega (arith, counted, c.self.invariant.3)
