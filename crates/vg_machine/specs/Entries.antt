-- The entries of a display's history.
use Rattle.vg_history.specs.declared.entry.Entry as history
use Rattle.vg_client_holds.specs.declared.act.Act.{Act}
use Rattle.vg_client_holds.specs.declared.act.ActReply.{ActReply}
use Rattle.vg_device.specs.declared.request.Request.{Request}
use Rattle.vg_device.specs.declared.request.Reply.{Reply}
use Rattle.vg_client_holds.specs.declared.holds.Holds.{Holds}
use Rattle.vg_device.specs.State.{State}
use Rattle.vg_machine.specs.Jobs.{Job}
use Rattle.vg_machine.specs.Lender.{Lender}

-- An act of a client or a command of it, with the reply.
abbrev pub Entry : Type 0
Entry = history.Entry Lender State Act ActReply Request Reply Holds Job
