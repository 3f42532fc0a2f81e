-- What the answer to a task says: whether it was accepted, and what follows.
use Rattle.std.specs.Prelude.{ℕ, ◌==◌, Bool, true, false, not, nat_le, ◌||◌, ◌&&◌, if◌then◌else◌, List, [], ◌∷◌, ◌++◌, length}
use Rattle.vg_wire.specs.declared.request.Queue.{Queue}
use Rattle.vg_wire.specs.declared.request.Queue.TheVariants.{Control, Cursor}
use Rattle.vg_wire.specs.Header.{header_of}
use Rattle.vg_wire.specs.Kinds.{OK_DISPLAY_INFO, OK_EDID, OK_NODATA, OK_RESOURCE_UUID}
use Rattle.vg_client_holds.specs.declared.act.Act.{Act}
use Rattle.vg_client_holds.specs.declared.act.Act.TheVariants as acts
use Rattle.vg_client_holds.specs.declared.act.ActReply.{ActReply}
use Rattle.vg_client_holds.specs.declared.act.ActReply.TheVariants as act_replies
use Rattle.vg_machine.specs.Entries.{Entry}
use Rattle.vg_history.specs.declared.entry.Entry.TheVariants as entries
use Rattle.vg_device.specs.declared.request.Reply.{Reply}
use Rattle.vg_device.specs.declared.request.Reply.TheVariants.{Fault, Response}
use Rattle.vg_client.specs.declared.given.Given.{Given}
use Rattle.vg_client.specs.declared.given.Given.TheVariants as givens
use Rattle.vg_tasks.specs.declared.task.Change.{Change}
use Rattle.vg_tasks.specs.declared.task.Change.TheVariants.{NewBuffer, NewBlob, EndOfName, GoesOn}
use Rattle.vg_tasks.specs.declared.task.Task.{Task}
use Rattle.vg_tasks.specs.Table.{attach_task, create_blob_task, create_task, free_task, unref_task}

abbrev pub tells_denial : Act → Bool
tells_denial (acts.Denied what) = true
tells_denial act = false

-- What an act and a command are answered: of the act that tells a denial, that it was denied, too.
abbrev pub given_act : Act → ActReply → Given
given_act act reply = if tells_denial act then givens.Denied reply else givens.Act reply

abbrev pub given_of : Entry → Given
given_of (entries.Act client call act reply) = given_act act reply
given_of (entries.Command client call request reply) = givens.Command request.queue reply

-- A response is accepted where its kind is one of the OK ones (VIRTIO 1.2, 5.7.6.7, enum virtio_gpu_ctrl_type).
abbrev pub is_ok_kind : ℕ → Bool
is_ok_kind kind = kind == OK_NODATA || kind == OK_DISPLAY_INFO || kind == OK_EDID || kind == OK_RESOURCE_UUID

abbrev pub is_ok_reply : Reply → Bool
is_ok_reply (Response bytes) = nat_le 24 (length bytes) && is_ok_kind (header_of bytes).kind
is_ok_reply (Fault fault) = false

-- A cursor command has no response, and counts as accepted.
abbrev pub is_ok : Queue → Reply → Bool
is_ok Control reply = is_ok_reply reply
is_ok Cursor reply = true

abbrev pub is_refused : ActReply → Bool
is_refused (act_replies.Refused refusal) = true
is_refused reply = false

abbrev pub is_accepted : Given → Bool
is_accepted (givens.Denied reply) = false
is_accepted (givens.Act reply) = not (is_refused reply)
is_accepted (givens.Command queue reply) = is_ok queue reply

-- The call goes on whatever the response is; it stops where the command is denied.
abbrev pub goes_on : Change → Given → Bool
goes_on GoesOn (givens.Command queue reply) = true
goes_on change given = false

-- A reserved buffer gets a resource, with the buffer's pages as its backing.
abbrev pub after_reserve : ℕ → ℕ → ℕ → Given → List Task
after_reserve width height format (givens.Act (act_replies.Reserved key pages)) = create_task key width height format ∷ attach_task key pages ∷ []
after_reserve width height format given = []

-- A reserved buffer of bytes gets a blob resource of its pages.
abbrev pub after_reserve_blob : ℕ → Given → List Task
after_reserve_blob size (givens.Act (act_replies.Reserved key pages)) = create_blob_task key size pages ∷ []
after_reserve_blob size given = []

-- Of a buffer that no one holds any more the resource and the pages are given back.
abbrev pub after_release : ℕ → Given → List Task
after_release key (givens.Act act_replies.Last) = unref_task key ∷ free_task key ∷ []
after_release key given = []

abbrev pub follow_ups : Change → Given → List Task
follow_ups (NewBuffer width height format) given = after_reserve width height format given
follow_ups (NewBlob size) given = after_reserve_blob size given
follow_ups (EndOfName number key) given = after_release key given
follow_ups change given = []

-- What is left to do after a task that was answered so. A call that stops does so after its first task that isn't accepted.
abbrev pub left_after : Bool → Change → Given → List Task → List Task
left_after stops change given more = if not stops || goes_on change given || is_accepted given then follow_ups change given ++ more else []
