-- How long the requests of commands are.
use Rattle.std.proofs.Common.{◌≤◌, length, arith, length-append}
use Rattle.vg_wire.specs.declared.two_d.Command2d.{Command2d}
use Rattle.vg_wire.specs.declared.two_d.Command2d.TheVariants as two_d
use Rattle.vg_wire.specs.TwoD.{body_of_2d}
use Rattle.vg_numbers.proofs.NumberLemmas.{length-le}
use Rattle.vg_wire.proofs.EntryLemmas.{length-entries_bytes}
use Rattle.vg_wire.proofs.TwoDLemmas.{length-attach, length-body_of_2d, length-rect_bytes, length-two}
use Rattle.vg_wire_ext.specs.declared.command.Command.{Command}
use Rattle.vg_wire_ext.specs.declared.command.Command.TheVariants.{TwoD, CapsetInfo, Capset, Edid, AssignUuid, CreateBlob, SetScanoutBlob, CtxCreate, CtxDestroy, CtxAttach, CtxDetach, Submit, UpdateCursor, MoveCursor}
use Rattle.vg_wire_ext.specs.Commands.{command_body}
use Rattle.vg_wire_ext.proofs.CommandLemmas.{length-planes, length-position}
use Rattle.vg_driver.specs.Requests.{IsShort}

short-2d : (command : Command2d) → IsShort (TwoD command) → length (body_of_2d command) ≤ 49128
short-2d (two_d.Attach resource entries) short = omega (arith, length-attach resource entries, short)
short-2d two_d.DisplayInfo short = omega (arith, length-body_of_2d two_d.DisplayInfo)
short-2d (two_d.Create2d resource format width height) short = omega (arith, length-body_of_2d (two_d.Create2d resource format width height))
short-2d (two_d.Unref resource) short = omega (arith, length-body_of_2d (two_d.Unref resource))
short-2d (two_d.SetScanout rect scanout resource) short = omega (arith, length-body_of_2d (two_d.SetScanout rect scanout resource))
short-2d (two_d.Flush rect resource) short = omega (arith, length-body_of_2d (two_d.Flush rect resource))
short-2d (two_d.Transfer rect offset resource) short = omega (arith, length-body_of_2d (two_d.Transfer rect offset resource))
short-2d (two_d.Detach resource) short = omega (arith, length-body_of_2d (two_d.Detach resource))

-- a body of at most 49,128 bytes
pub short-body : (command : Command) → IsShort command → length (command_body command) ≤ 49128
short-body (TwoD command) short = short-2d command short
short-body (CapsetInfo index) short = omega (arith, length-two index 0)
short-body (Capset id version) short = omega (arith, length-two id version)
short-body (Edid scanout) short = omega (arith, length-two scanout 0)
short-body (AssignUuid resource) short = omega (arith, length-two resource 0)
short-body (CreateBlob r m f i s es) short =
    simp length-append (omega (arith, short, length-le 4 r, length-le 4 m, length-le 4 f, length-le 4 (length es), length-le 8 i, length-le 8 s, length-entries_bytes es))
short-body (SetScanoutBlob rect a b c d e f g) short =
    simp length-append (omega (arith, length-rect_bytes rect, length-le 4 a, length-le 4 b, length-le 4 c, length-le 4 d, length-le 4 e, length-le 4 0, length-planes f, length-planes g))
short-body (CtxCreate n c name) short = simp length-append (omega (arith, length-le 4 n, length-le 4 c, short))
short-body CtxDestroy short = omega arith
short-body (CtxAttach resource) short = omega (arith, length-two resource 0)
short-body (CtxDetach resource) short = omega (arith, length-two resource 0)
short-body (Submit stream) short = simp length-append (omega (arith, short, length-le 4 (length stream), length-le 4 0))
short-body (UpdateCursor s x y r h k) short = simp length-append (omega (arith, length-position s x y, length-le 4 r, length-le 4 h, length-le 4 k, length-le 4 0))
short-body (MoveCursor s x y) short = simp length-append (omega (arith, length-position s x y, length-le 4 0))
