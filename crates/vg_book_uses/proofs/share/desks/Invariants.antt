use Rattle.std.proofs.Common.{◌≡◌, vec_len}
use Rattle.vg_book_uses.proofs.share.desks.Given as goal

abbrev pub invariant-loop-made : goal.invariant-loop-made
invariant-loop-made g l = vec_len l.desks ≡ l._made
