-- What is named by the command that a body spells, if it spells one.
use Rattle.std.specs.Prelude.{ℕ, Option, Some, None}
use Rattle.vg_wire.specs.declared.two_d.Command2d.{Command2d}
use Rattle.vg_wire_ext.specs.declared.command.Command.{Command}
use Rattle.vg_wire_ext.specs.declared.names.Named.{Named}
use Rattle.vg_wire_ext.specs.declared.names.Named.TheVariants.{Nothing}
use Rattle.vg_wire_ext.specs.Named.{named_2d, named_by}

abbrev pub found_2d : Option Command2d → Named
found_2d (Some command) = named_2d command
found_2d None = Nothing

abbrev pub found : ℕ → Option Command → Named
found context (Some command) = named_by context command
found context None = Nothing
