use Rattle.std.proofs.Common.{◌≡◌, length}
use Rattle.vg_split.specs.Plays.{device_of}
use Rattle.vg_split.specs.Tells.{TellsTable}
use Rattle.vg_split.proofs.table.read_table.Given as goal

abbrev pub invariant-loop-place : goal.invariant-loop-place
invariant-loop-place g l =
    (l.pass.table_id ≡ l.initial.pass.table_id) × (l.pass.id ≡ l.initial.pass.id) × (l.pass.me ≡ l.initial.pass.me)
    × (length l.table.items ≡ l.place) × TellsTable l.size l.place l.table.items (device_of l.initial.pass.me.0).held
