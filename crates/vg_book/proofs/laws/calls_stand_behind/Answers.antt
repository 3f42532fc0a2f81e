use Rattle.vg_book.proofs.PlaceLemmas.{above, act_current, all_seen, back_current, closed_own, drawn_current, made_current, next_placed, watched_current}
use Rattle.vg_book.proofs.laws.calls_stand_behind.Goals as goal

pub returns : goal.returns
returns g c =
    let m = g.M.Machine in
    record {
      made = λ r s h k t. made_current m r s h k t;
      watched = λ k d is t. watched_current m k d is t;
      act = λ k d a n reply is t. act_current m k d a n reply is t;
      drawn = λ k d q p is t may. drawn_current m k d q p is t may;
      back = λ b d f whole t. back_current m b d f whole t;
      apart = λ k i is more has. above m k i is more has;
      placed = λ k es is more. next_placed m k es is more;
      all = λ k i is idle low high. all_seen m k i is idle low high;
      closed = λ r machine es k t joined more is. closed_own m r machine es k t joined more is;
    }
