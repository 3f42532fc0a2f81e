-- What private contracts say: what a command came to.
use Rattle.std.specs.Prelude.{◌≡◌, ℕ, Bool, true, false, List, drop, Option, Some, None, Result, Ok, Err}
use Rattle.vg_wire.specs.declared.two_d.Command2d.{Command2d}
use Rattle.vg_wire.specs.declared.two_d.Command2d.TheVariants.{DisplayInfo, Create2d, Flush, Transfer, Attach}
use Rattle.vg_wire_ext.specs.declared.command.Command.{Command}
use Rattle.vg_wire_ext.specs.declared.command.Command.TheVariants.{TwoD, CapsetInfo, Capset, Edid, AssignUuid, CreateBlob, CtxCreate, CtxAttach, Submit, UpdateCursor, MoveCursor}
use Rattle.vg_wire_ext.specs.declared.response.Response.{Response}
use Rattle.vg_wire_ext.specs.declared.response.Response.TheVariants as responses
use Rattle.vg_device.specs.State.{State}
use Rattle.vg_device.specs.Step.{command_step, request_refusals}
use Rattle.vg_refusals.specs.Refusals.{refusal_of}
use Rattle.vg_wire.specs.declared.request.Queue.{Queue}
use Rattle.vg_wire.specs.Header.{header_of}
use Rattle.vg_formats.specs.declared.rect.Rect.{Rect}
use Rattle.vg_wire_ext.specs.Commands.{command_of}
use Rattle.vg_device.specs.declared.stop.Stop.{Stop}
use Rattle.vg_device.specs.declared.stop.Stop.TheVariants.{Memory, Refused}

-- The response, which is an error where the command is refused; nothing where memory wanted.
abbrev pub IfDone : Result Response Stop → (Response → Type 0) → Type 0
IfDone (Ok response) P = P response
IfDone (Err (Refused code)) P = P (responses.Error code)
IfDone (Err Memory) P = Unit {0}

-- Memory wanted.
abbrev pub IfWant : Result Response Stop → Type 0 → Type 0
IfWant (Err Memory) P = P
IfWant done P = Unit {0}

-- The 2D commands that take memory: for a list, for pixels, or for an entry of a table; and TRANSFER_TO_HOST_2D, which takes none and
-- stops as for want of it where the pixels are lent.
abbrev pub takes_memory_2d : Command2d → Bool
takes_memory_2d DisplayInfo = true
takes_memory_2d (Create2d resource format width height) = true
takes_memory_2d (Flush rect resource) = true
takes_memory_2d (Transfer rect offset resource) = true
takes_memory_2d (Attach resource entries) = true
takes_memory_2d _ = false

-- The same of all commands.
abbrev pub takes_memory : Command → Bool
takes_memory (TwoD command) = takes_memory_2d command
takes_memory (AssignUuid resource) = true
takes_memory (CreateBlob resource mem flags blob_id size entries) = true
takes_memory (CtxCreate nlen context_init name) = true
takes_memory (CtxAttach resource) = true
takes_memory (UpdateCursor scanout x y resource hot_x hot_y) = true
takes_memory (MoveCursor scanout x y) = true
takes_memory _ = false

-- The 2D commands that change something, unless they are refused.
abbrev pub changes_2d : Command2d → Bool
changes_2d DisplayInfo = false
changes_2d _ = true

-- The same of all commands.
abbrev pub changes : Command → Bool
changes (TwoD command) = changes_2d command
changes (CapsetInfo index) = false
changes (Capset id version) = false
changes (Edid scanout) = false
changes (Submit stream) = false
changes _ = true

-- What a part of the display refused with a code, or did.
abbrev pub nodata : Result Unit ℕ → Result Response Stop
nodata (Ok done) = Ok responses.Nodata
nodata (Err code) = Err (Refused code)

-- The same as a response. A command that takes no memory comes to nothing else.
abbrev pub response_of : Result Unit ℕ → Response
response_of (Ok done) = responses.Nodata
response_of (Err code) = responses.Error code

-- The response of a command that takes no memory, or the code that it is refused with.
abbrev pub or_refused : Result Response ℕ → Result Response Stop
or_refused (Ok response) = Ok response
or_refused (Err code) = Err (Refused code)

-- The same as a response.
abbrev pub told_by : Result Response ℕ → Response
told_by (Ok response) = response
told_by (Err code) = responses.Error code

-- It is refused, with this code.
abbrev pub IfRefused : (ℕ → Type 0) → Stop → Type 0
IfRefused P (Refused code) = P code
IfRefused P Memory = Unit {0}

-- What is answered to a request that was read, with its context, or refused before.
abbrev pub by_read : State → Result (ℕ × Command) ℕ → State × Response
by_read state (Ok (context, command)) = command_step state context command
by_read state (Err code) = (state, responses.Error code)

-- The bytes are a request with this command, which isn't refused before its own refusals.
pub record IsLetIn (state : State) (queue : Queue) (bytes : List ℕ) (command : Command) : Type 0 where
  pub none : refusal_of (request_refusals state queue bytes) ≡ None
  pub reads : command_of (header_of bytes).kind (drop 24 bytes) ≡ Some command

-- The transfer that was read, if it was one: its rectangle, its offset, and its resource.
abbrev pub transfer_of : Command2d → Option (Rect × ℕ × ℕ)
transfer_of (Transfer rect offset resource) = Some (rect, offset, resource)
transfer_of _ = None

abbrev pub transfer_read : Result (ℕ × Command) ℕ → Option (Rect × ℕ × ℕ)
transfer_read (Ok (context, TwoD command)) = transfer_of command
transfer_read _ = None
