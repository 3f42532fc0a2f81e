use Rattle.std.specs.Prelude.{ℕ, Result, Ok, Err}
use Rattle.vg_wire.specs.declared.header.Header.{Header}
use Rattle.vg_wire.specs.declared.request.Malformed.{Malformed}
use Rattle.vg_wire.specs.declared.two_d.Command2d.{Command2d}
use Rattle.vg_wire.specs.declared.two_d.Command2d.TheVariants as two_d
use Rattle.vg_wire_ext.specs.declared.command.Command.{Command}
use Rattle.vg_wire_ext.specs.declared.command.Command.TheVariants.{TwoD, CtxDestroy, UpdateCursor}
use Rattle.vg_wire_ext.specs.declared.names.Named.{Named}
use Rattle.vg_wire_ext.specs.declared.names.Named.TheVariants.{Nothing, Resource, Flush, Transfer, Context}

-- What a 2D command names that may be away while another command is under way.
abbrev pub named_2d : Command2d → Named
named_2d two_d.DisplayInfo = Nothing
named_2d (two_d.Create2d resource format width height) = Nothing
named_2d (two_d.Unref resource) = Resource resource
named_2d (two_d.SetScanout rect scanout resource) = Nothing
named_2d (two_d.Flush rect resource) = Flush resource
named_2d (two_d.Transfer rect offset resource) = Transfer resource
named_2d (two_d.Attach resource entries) = Resource resource
named_2d (two_d.Detach resource) = Resource resource

-- What any command names, with the context of its header. That of UPDATE_CURSOR is its resource, also where it is 0.
abbrev pub named_by : ℕ → Command → Named
named_by context (TwoD command) = named_2d command
named_by context CtxDestroy = Context context
named_by context (UpdateCursor scanout x y resource hot_x hot_y) = Resource resource
named_by context _ = Nothing

-- What is named by what bytes are; bytes that are no request name nothing.
abbrev pub named_in : Result (Header × Command) Malformed → Named
named_in (Ok (header, command)) = named_by header.ctx_id command
named_in (Err malformed) = Nothing
