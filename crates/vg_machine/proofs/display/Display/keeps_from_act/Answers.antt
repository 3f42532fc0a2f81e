-- What the flags tell is what the jobs' pages do.
use Rattle.std.proofs.Common.{◌≡◌, [], rules, ap, sym, ◌∙◌}
use Rattle.vg_machine.specs.Blocks.{blocks_act, lent_pages}
use Rattle.vg_machine.proofs.DisplayLemmas.{none-blocks-act}
use Rattle.vg_machine.proofs.display.Display.keeps_from_act.Goals as goal

pub returns-in-Store : goal.returns-in-Store
returns-in-Store c =
    let s = c.self.inside in
    rw (← c.self.view_is) (c.buffer_has.ensures (lent_pages s.loans.jobs) c.flags-flags.ensures ∙ ap (blocks_act s.loans.jobs s.device) (sym c.in-Store.is))

pub returns-in-Load : goal.returns-in-Load
returns-in-Load c =
    let s = c.self.inside in
    rw (← c.self.view_is) (c.buffer_has-in-Load.ensures (lent_pages s.loans.jobs) c.flags-flags.ensures ∙ ap (blocks_act s.loans.jobs s.device) (sym c.in-Load.is))

pub returns-in-Reserve : goal.returns-in-Reserve
returns-in-Reserve c =
    let s = c.self.inside in
    rw (← c.self.view_is) (c.would_take.ensures (lent_pages s.loans.jobs) c.flags-flags.ensures ∙ ap (blocks_act s.loans.jobs s.device) (sym c.in-Reserve.is))

pub returns-then-is_empty : goal.returns-then-is_empty
returns-then-is_empty c =
    let s = c.self.inside in
    let none : s.loans.jobs ≡ [] = search rules in
    rw (← c.self.view_is, none) (sym (none-blocks-act s.device c.args.act.now))
