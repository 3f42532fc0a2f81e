use Rattle.std.proofs.Common.{rules, ◌≡◌, arith}
use Rattle.vg_wire.specs.Modes.{trimmed}
use Rattle.vg_wire.proofs.ModesLemmas.{ends_in_none-trimmed, length-trimmed}
use Rattle.vg_plugs.proofs.plugs.Plugs.told.Goals as goal

pub from_vec-requires : goal.from_vec-requires
from_vec-requires c =
    let same : c.in_ok-modes.modes.items ≡ trimmed c.args.self.now.modes = search rules in
    rw same (omega (arith, length-trimmed c.args.self.now.modes, c.requires), ends_in_none-trimmed c.args.self.now.modes)
