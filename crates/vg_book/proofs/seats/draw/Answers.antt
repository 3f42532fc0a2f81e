use Rattle.std.proofs.Common.{arith}
use Rattle.vg_book.proofs.Looks.{draws_order}
use Rattle.vg_book.proofs.seats.draw.Goals as goal

pub compare_exchange_with-requires : goal.compare_exchange_with-requires
compare_exchange_with-requires g c = let t = c.requires.table in let s = c.requires.client in (t.0, omega (arith, t.1), draws_order g.M.Machine _ _ _ _ s.0 _ (record { account = s.1.accounts; lanes = s.1.lanes; passes = s.1.passes; dones = s.1.dones; root = s.1.root_is }) s.2)
