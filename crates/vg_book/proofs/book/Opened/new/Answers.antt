use Rattle.std.proofs.Common.{ap, sym, ◌∙◌}
use Rattle.vg_book.proofs.Ends.{opens_pushed}
use Rattle.vg_book.proofs.book.Opened.new.Goals as goal

pub new-requires-2 : goal.new-requires-2
new-requires-2 g c = let first = g.M.Machine.state c.of-about.result.value in let same = ap g.M.Machine.state c.of-about.ensures in
    opens_pushed g.M.Machine first _ c.new-slots.result.items _ c.in_ok-push.ensures.items c.new-slots.ensures.items c.new.ensures c.requires.lent (sym same) (ap g.M.Machine.count same ∙ c.requires.count)
