-- The numbers that a client of the workload draws.
use Rattle.std.specs.Prelude.{ℕ, zero, suc, ◌+◌, ◌*◌, ◌/◌, ◌%◌, ◌^◌}

-- The state of a client's generator after so many draws: a linear congruential generator modulo 2 ^ 64, whose first state is made of the
-- workload's number and the client's. The constant 11,400,714,819,323,198,485 is 0x9e3779b97f4a7c15.
unfoldable pub state : (number client draws : ℕ) → ℕ
state number client zero = (number + client * 11400714819323198485) % 2 ^ 64
state number client (suc n) = (state number client n * 6364136223846793005 + 1442695040888963407) % 2 ^ 64

-- What a client draws, counted from 1: the upper 32 bits of the state.
abbrev pub draw : (number client n : ℕ) → ℕ
draw number client n = state number client n / 2 ^ 32
