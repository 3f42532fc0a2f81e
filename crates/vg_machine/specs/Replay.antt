use Rattle.std.specs.Prelude.{List, ◌&&◌, is_none, not}
use Rattle.vg_history.specs.History as history
use Rattle.vg_history.specs.declared.machine.Machine.{Ghosts}
use Rattle.vg_client_holds.specs.declared.setup.Setup.{Setup}
use Rattle.vg_machine.specs.Entries.{Entry}
use Rattle.vg_client_holds.specs.declared.act.Act.{Act}
use Rattle.vg_client_holds.specs.declared.act.ActReply.{ActReply}
use Rattle.vg_client_holds.specs.declared.holds.Holds.{Holds}
use Rattle.vg_device.specs.declared.request.Request.{Request}
use Rattle.vg_device.specs.declared.request.Reply.{Reply}
use Rattle.vg_device.specs.State.{State, start}
use Rattle.vg_device.specs.ActStep.{act_step}
use Rattle.vg_client_holds.specs.Holds.{denied_of, gives_up, update}
use Rattle.vg_device.specs.RequestStep.{request_step}
use Rattle.vg_machine.specs.Blocks.{blocks, blocks_act}
use Rattle.vg_machine.specs.Jobs.{Job, worked}
use Rattle.vg_machine.specs.Lender.{Lender}
use Rattle.vg_machine.specs.Written.{asks_of, read_by, written_in}
use Rattle.vg_wire.specs.Queues.{is_control}
use Rattle.vg_machine.specs.Lines.{rest_of_act, rest_of_command}

-- The display as a machine of which a history is kept.
abbrev pub display : Ghosts Lender State Act ActReply Request Reply Holds Job
display = record {
  state = λ d. d.state;
  count = λ s. s.entries;
  acted = λ s client act. (act_step s client act).0;
  replied = λ s client act. (act_step s client act).1;
  update = update;
  requested = λ s request. (request_step s request).0;
  answered = λ s request. (request_step s request).1;
  allows = λ h request. not h.host && is_none (denied_of h request.queue request.bytes);
  ends_hold = gives_up;
  tagged = λ request. (request.lane, request.ordinal);
  asks = asks_of;
  written = λ request reply. written_in request.room reply;
  read = λ request bytes. read_by request.shape bytes;
  lent = λ d. d.lent;
  asked = λ job. job.asked;
  worked = worked;
  blocks = λ d request. blocks d.lent d.state request;
  blocks_act = λ d act. blocks_act d.lent d.state act;
  is_first = λ request. is_control request.queue;
  act_text = rest_of_act;
  command_text = rest_of_command;
}

-- The display after one entry more.
abbrev pub after : State → Entry → State
after state entry = history.after display state entry

-- The entry's reply is the one that the display gives there.
abbrev pub HasReply : State → Entry → Type 0
HasReply state entry = history.HasReply display state entry

-- The display after these entries, and after a whole history.
abbrev pub replay_from : State → List Entry → State
replay_from state H = history.replay display state H

abbrev pub replay : Setup → List Entry → State
replay setup H = replay_from (start setup) H

-- Each entry's reply is the one that the display gives after the entries before it.
abbrev pub AgreesFrom : State → List Entry → Type 0
AgreesFrom state H = history.AgreesFrom display state H

abbrev pub Agrees : Setup → List Entry → Type 0
Agrees setup H = AgreesFrom (start setup) H
