-- What a counter does.
use Rattle.std.specs.Prelude.{◌≡◌, ℕ, ◌+◌, ◌%◌, ◌^◌, Bool, true, false, nat_le, [], refl}
use Rattle.vg_wire.specs.declared.request.Queue.TheVariants.{Control}
use Rattle.vg_chain.specs.declared.shape.Shape.TheVariants.{Plain}
use Rattle.vg_chain.specs.declared.asked.Asked.{Asked}
use Rattle.vg_chain.specs.Asks.{asked}
use Rattle.vg_book_uses.specs.declared.counter.Counter.{Counter}
use Rattle.vg_book_uses.specs.declared.counter.Act.{Act}
use Rattle.vg_book_uses.specs.declared.counter.Act.TheVariants.{Add, Stop}
use Rattle.vg_book_uses.specs.declared.counter.Request.{Request}

abbrev pub amount_of : Act → ℕ
amount_of (Add n) = n
amount_of Stop = 0

abbrev pub held_of : ℕ → Act → ℕ
held_of h (Add n) = h
held_of h Stop = 0

abbrev pub is_stop : Act → Bool
is_stop (Add n) = false
is_stop Stop = true

abbrev pub plus : Counter → ℕ → Counter
plus s n = record { entries = s.entries + 1; total = (s.total + n) % 2 ^ 64 }

-- A counter has no bytes: its requests ask for nothing, and a reply is written as the one number that it is.
abbrev pub asks_of : Request → Asked
asks_of q = asked Control [] 0 Plain

pub adds_one : (s : Counter) (n : ℕ) → (plus s n).entries ≡ s.entries + 1
adds_one s n = refl

true_is : (b : Bool) → true ≡ false → b ≡ true
true_is b e = absurd (cc e)

pub keeps : (h : ℕ) (a : Act) (q : Request) → is_stop a ≡ false → nat_le q.n h ≡ true → nat_le q.n (held_of h a) ≡ true
keeps h (Add n) q stays may = may
keeps h Stop q stays may = true_is (nat_le q.n 0) stays
