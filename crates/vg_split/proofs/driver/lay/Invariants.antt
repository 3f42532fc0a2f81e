use Rattle.std.proofs.Common.{◌≡◌, [], take}
use Rattle.vg_chain.specs.Made.{made}
use Rattle.vg_split.specs.declared.views.View.TheVariants.{Driver}
use Rattle.vg_split.specs.Plays.{driver_of, laid}
use Rattle.vg_split.specs.Rule.{stored_at, staged}
use Rattle.vg_cargo.specs.Entries.{AreBack}
use Rattle.vg_split.proofs.driver.lay.Given as goal

abbrev pub invariant-loop-at : goal.invariant-loop-at
invariant-loop-at g l =
    (l.pass.table_id ≡ l.initial.pass.table_id) × (l.pass.id ≡ l.initial.pass.id)
    × AreBack (take l.at (made l.shape l.extent.request l.extent.room l.extent.base l.size l.places).ring)
    × (l.pass.me ≡ (Driver (staged (driver_of l.initial.pass.me.0) (laid (take l.at (stored_at l.places (made l.shape l.extent.request l.extent.room l.extent.base l.size l.places).ring)))), []))
