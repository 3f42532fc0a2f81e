-- The passes of a counter's book.
use Rattle.std.specs.Prelude.{ℕ}
use Rattle.vg_book.specs.Tokens.{Done, Passed}
use Rattle.vg_book_uses.specs.declared.counter.Act.{Act}
use Rattle.vg_book_uses.specs.declared.counter.Counter.{Counter}
use Rattle.vg_book_uses.specs.declared.counter.Request.{Request}

abbrev pub Pa : Type 0
Pa = Passed Counter Counter Act ℕ Request ℕ ℕ Request

abbrev pub Do : Type 0
Do = Done Counter Counter Act ℕ Request ℕ ℕ Request
