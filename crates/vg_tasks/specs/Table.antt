-- The tasks that calls are made of: for each what is done, and what the answer changes.
use Rattle.std.specs.Prelude.{ℕ, ℤ, pos, ◌+◌, ◌-◌, ◌*◌, ◌^◌, min, List, [], map, replicate, Option, Some, None}
use Rattle.vg_formats.specs.declared.rect.Rect.{Rect}
use Rattle.vg_formats.specs.declared.entry.MemEntry.{MemEntry}
use Rattle.vg_pages.specs.Memory.{page_address}
use Rattle.vg_wire.specs.declared.two_d.Command2d.{Command2d}
use Rattle.vg_wire.specs.declared.two_d.Command2d.TheVariants as commands
use Rattle.vg_wire.specs.declared.request.Queue.{Queue}
use Rattle.vg_wire_ext.specs.declared.command.Command as the_command
use Rattle.vg_wire_ext.specs.declared.command.Command.TheVariants.{TwoD, Edid, AssignUuid, CreateBlob, SetScanoutBlob, CtxCreate, CtxDestroy, CtxAttach, CtxDetach, Submit, UpdateCursor, MoveCursor}
use Rattle.vg_chain.specs.declared.shape.Shape.{Shape}
use Rattle.vg_client_holds.specs.declared.act.Act as the_act
use Rattle.vg_client_holds.specs.declared.act.Act.TheVariants as acts
use Rattle.vg_client_holds.specs.declared.act.What.TheVariants.{Name}
use Rattle.vg_calls.specs.declared.call.ContextRef.{ContextRef}
use Rattle.vg_history.specs.Fences.{FenceData}
use Rattle.vg_names.specs.declared.names.Held.{Held}
use Rattle.vg_tasks.specs.declared.task.Change.{Change}
use Rattle.vg_tasks.specs.declared.task.Change.TheVariants.{Nothing, NewBuffer, NewBlob, Imported, EndOfName, Shows, NewContext, EndOfContext, GoesOn}
use Rattle.vg_tasks.specs.declared.task.Deed.TheVariants.{Act, Ask, Wait}
use Rattle.vg_tasks.specs.declared.task.Task.{Task}
use Rattle.vg_driver.specs.declared.ask.Ask.TheVariants.{Command, Raw}
use Rattle.vg_driver.specs.declared.request.Way.{Way}
use Rattle.vg_driver.specs.declared.request.Way.TheVariants.{Control, Timeline, Cursor}

-- A task that changes nothing but by its act; a command that goes a way; a command for no context, and a 2D one.
abbrev pub act_task : the_act.Act → Task
act_task act = record { deed = Act act; change = Nothing }

abbrev pub command_task : Way → the_command.Command → Change → Task
command_task way command change = record { deed = Ask (Command way command); change = change }

abbrev pub control_task : the_command.Command → Change → Task
control_task command change = command_task (Control 0) command change

abbrev pub two_d_task : Command2d → Change → Task
two_d_task command change = control_task (TwoD command) change

-- A rectangle without pixels.
abbrev pub no_rect : Rect
no_rect = record { x = 0; y = 0; width = 0; height = 0 }

-- A page of guest memory as a range of it.
abbrev pub page_entry : ℕ → MemEntry
page_entry page = record { addr = page_address page; length = 4096 }

abbrev pub info_on : Way → Task
info_on way = command_task way (TwoD commands.DisplayInfo) Nothing

abbrev pub info_task : Task
info_task = info_on (Control 0)

abbrev pub edid_task : ℕ → Task
edid_task scanout = control_task (Edid scanout) Nothing

abbrev pub uuid_task : ℕ → Task
uuid_task key = control_task (AssignUuid key) Nothing

-- Bytes as they are.
abbrev pub raw_task : Queue → ℕ → Shape → List ℕ → Task
raw_task queue room shape bytes = record { deed = Ask (Raw queue room shape bytes); change = Nothing }

-- A buffer has pixels of four bytes.
abbrev pub reserve_task : ℕ → ℕ → ℕ → Task
reserve_task width height format = record { deed = Act (acts.Reserve width height format (4 * width * height)); change = NewBuffer width height format }

abbrev pub create_task : ℕ → ℕ → ℕ → ℕ → Task
create_task key width height format = two_d_task (commands.Create2d key format width height) Nothing

abbrev pub attach_task : ℕ → List ℕ → Task
attach_task key pages = two_d_task (commands.Attach key (map page_entry pages)) Nothing

-- A blob is a buffer of bytes: it has no width and no height, and no format.
abbrev pub reserve_blob_task : ℕ → Task
reserve_blob_task size = record { deed = Act (acts.Reserve 0 0 0 size); change = NewBlob size }

-- Its memory is the guest's, and it may be shared (VIRTIO 1.2, 5.7.6.8, BLOB_MEM_GUEST 1 and BLOB_FLAG_USE_SHAREABLE 2).
abbrev pub create_blob_task : ℕ → ℕ → List ℕ → Task
create_blob_task key size pages = control_task (CreateBlob key 1 2 0 size (map page_entry pages)) Nothing

abbrev pub store_task : ℕ → ℕ → List ℕ → ℕ → Task
store_task key offset bytes times = act_task (acts.Store key offset bytes times)

abbrev pub load_task : ℕ → ℕ → ℕ → Task
load_task key offset n = act_task (acts.Load key offset n)

-- The place of a pixel in a buffer of this width; one that no offset can tell is told as the greatest there is, past the end of each
-- buffer too.
abbrev pub offset_of : ℕ → ℕ → ℕ → ℕ
offset_of width x y = min (4 * (width * y + x)) (2 ^ 64 - 1)

-- A transfer takes each pixel from its own place in the buffer; a blob has a width of 0.
abbrev pub send_on : Way → Held → Rect → Task
send_on way held rect = command_task way (TwoD (commands.Transfer rect (offset_of held.width rect.x rect.y) held.key)) Nothing

abbrev pub send_task : Held → Rect → Task
send_task held rect = send_on (Control 0) held rect

abbrev pub export_task : ℕ → Task
export_task key = act_task (acts.Export key)

abbrev pub import_task : ℕ → Task
import_task token = record { deed = Act (acts.Import token); change = Imported }

-- There is no token: that is denied, and the name never is current.
abbrev pub no_import_task : Task
no_import_task = record { deed = Act (acts.Denied Name); change = Imported }

abbrev pub flush_on : Way → ℕ → Rect → Task
flush_on way key rect = command_task way (TwoD (commands.Flush rect key)) Nothing

abbrev pub flush_task : ℕ → Rect → Task
flush_task key rect = flush_on (Control 0) key rect

abbrev pub take_task : ℕ → Task
take_task scanout = act_task (acts.Take scanout)

-- A client shows a buffer on a scanout from a SET_SCANOUT of a show or a flip, or a SET_SCANOUT_BLOB, until a hide or the end of the
-- lease.
abbrev pub show_task : ℕ → ℕ → Rect → Task
show_task scanout key rect = two_d_task (commands.SetScanout rect scanout key) (Shows scanout (Some key))

abbrev pub show_blob_task : ℕ → ℕ → Rect → ℕ → ℕ → ℕ → ℕ → ℕ → Task
show_blob_task scanout key rect width height format stride offset =
    control_task (SetScanoutBlob rect scanout key width height format stride offset) (Shows scanout (Some key))

abbrev pub disable : ℕ → Change → Task
disable scanout change = two_d_task (commands.SetScanout no_rect scanout 0) change

abbrev pub hide_task : ℕ → Task
hide_task scanout = disable scanout (Shows scanout None)

-- A scanout is disabled before it, or what it shows, is given up: that changes nothing of what the client shows for good.
abbrev pub clear_task : ℕ → Task
clear_task scanout = disable scanout Nothing

-- A cursor shows a resource with its hot spot at a position; with resource 0 it is hidden.
abbrev pub cursor_task : ℕ → ℕ → ℤ → ℤ → ℕ → ℕ → Task
cursor_task scanout key x y hot_x hot_y = command_task Cursor (UpdateCursor scanout x y key hot_x hot_y) Nothing

abbrev pub move_task : ℕ → ℤ → ℤ → Task
move_task scanout x y = command_task Cursor (MoveCursor scanout x y) Nothing

-- A cursor is hidden before its scanout is given up, at the corner of the screen.
abbrev pub hide_cursor_task : ℕ → Task
hide_cursor_task scanout = cursor_task scanout 0 (pos 0) (pos 0) 0 0

abbrev pub drop_task : ℕ → Task
drop_task scanout = record { deed = Act (acts.Drop scanout); change = Shows scanout None }

-- Gives up the hold of the buffer that a name stands for.
abbrev pub release_task : Held → Task
release_task held = record { deed = Act (acts.Release held.key); change = EndOfName held.number held.key }

abbrev pub unref_task : ℕ → Task
unref_task key = two_d_task (commands.Unref key) GoesOn

abbrev pub free_task : ℕ → Task
free_task key = act_task (acts.Free key)

-- The device's number of a client's context: that of a client's first 255 contexts is one of its own. One that no number can tell is
-- told as the greatest there is.
abbrev pub context_id : ℕ → ℕ → ℕ
context_id client number = min (256 * client + number) (2 ^ 32 - 1)

-- A command for a context of the client.
abbrev pub context_task : ℕ → ℕ → the_command.Command → Change → Task
context_task client number command change = command_task (Control (context_id client number)) command change

-- A context has no name that the device is told: 64 bytes, of which none counts.
abbrev pub make_context_task : ℕ → ℕ → Task
make_context_task client number = context_task client number (CtxCreate 0 0 (replicate 64 0)) NewContext

abbrev pub end_context_task : ℕ → ℕ → Task
end_context_task client number = context_task client number CtxDestroy (EndOfContext number)

abbrev pub attach_context_task : ℕ → ℕ → ℕ → Task
attach_context_task client number key = context_task client number (CtxAttach key) Nothing

abbrev pub detach_context_task : ℕ → ℕ → ℕ → Task
detach_context_task client number key = context_task client number (CtxDetach key) Nothing

-- The way of a command that is begun: a timeline of a context of the client, or none.
abbrev pub begun_way : ℕ → Option (ContextRef × ℕ) → Way
begun_way client (Some (context, ring)) = Timeline (context_id client context.number) ring
begun_way client None = Control 0

-- The client waits for a fence, and tells so.
abbrev pub wait_task : FenceData → Task
wait_task fence = record { deed = Wait fence; change = Nothing }

-- Commands of no bytes on a timeline of a context.
abbrev pub submit_task : ℕ → ℕ → ℕ → Task
submit_task client number ring = command_task (Timeline (context_id client number) ring) (Submit []) Nothing
