use Rattle.std.proofs.Common.{◌≡◌, take}
use Rattle.vg_shared_bytes.proofs.strips.Strips.share.Given as goal

abbrev pub invariant-loop-strip : goal.invariant-loop-strip
invariant-loop-strip l = l.strips.items ≡ take l.strip-index l.self-inside.strips.items
