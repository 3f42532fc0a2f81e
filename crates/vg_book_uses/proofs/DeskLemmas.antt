-- What a client and a lane know of commands that go over a desk.
use Rattle.std.proofs.Common.{ℕ, refl, ◌∙◌, arith}
use Rattle.vg_history.specs.declared.machine.Machine.{Ghosts}
use Rattle.vg_history.proofs.ListLemmas.{prefix_self, prefix_trans}
use Rattle.vg_book_uses.specs.declared.counter.Act.{Act}
use Rattle.vg_book_uses.specs.declared.counter.Counter.{Counter}
use Rattle.vg_book_uses.specs.declared.counter.Request.{Request}
use Rattle.vg_book_uses.specs.Desks.{La, HasServed, IsLaneKnown}

module _ (g : Ghosts Counter Counter Act ℕ Request ℕ ℕ Request) where
  pub served_none : (l : La) → IsLaneKnown g l → HasServed g l l
  served_none l known = record { lane = refl; start = refl; more = prefix_self l.seen; count = omega arith; is_known = known }

  pub served_more : (l m n : La) → HasServed g l m → HasServed g m n → HasServed g l n
  served_more l m n h k = record {
    lane = k.lane ∙ h.lane;
    start = k.start ∙ h.start;
    more = prefix_trans l.seen m.seen n.seen h.more k.more;
    count = omega (arith, h.count, k.count);
    is_known = k.is_known;
  }
