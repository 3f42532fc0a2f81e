use Rattle.std.proofs.Common.{◌≡◌, ◌+◌, ◌≤◌, ◌++◌, Some, map, length, take, drop}
use Rattle.std.specs.Prelude.{vec_len, vec_capacity}
use Rattle.vg_front.proofs.desk.put_tokens.Given as goal

abbrev pub invariant-loop-lane : goal.invariant-loop-lane
invariant-loop-lane g l = record {
  tokens : map Some l.tokens.items ≡ map Some l.initial.tokens.items ++ take l.lane l.initial.homes.items;
  left : drop l.lane l.homes.items ≡ drop l.lane l.initial.homes.items;
  same : length l.homes.items ≡ length l.initial.homes.items;
  len : vec_len l.tokens ≡ vec_len l.initial.tokens + l.lane;
  room : vec_capacity l.initial.tokens ≤ vec_capacity l.tokens;
}
