-- How a journal spells the display's acts and commands.
use Rattle.std.specs.Prelude.{ℕ, List, ◌++◌, codes, decimal}
use Rattle.vg_text.specs.Text.{hex_text}
use Rattle.vg_journal_words.specs.Text.{act_text, act_reply_text, fault_text, shape_text}
use Rattle.vg_client_holds.specs.declared.act.Act.{Act}
use Rattle.vg_client_holds.specs.declared.act.ActReply.{ActReply}
use Rattle.vg_device.specs.declared.request.Request.{Request}
use Rattle.vg_device.specs.declared.request.Reply.{Reply}
use Rattle.vg_device.specs.declared.request.Reply.TheVariants.{Fault, Response}

abbrev pub reply_text : Reply → List ℕ
reply_text (Response bytes) = hex_text bytes
reply_text (Fault fault) = codes "fault " ++ fault_text fault

-- `LANE ORDINAL ROOM SHAPE HEX`
unfoldable pub request_text : Request → List ℕ
request_text request =
    decimal request.lane ++ codes " " ++ decimal request.ordinal ++ codes " " ++ decimal request.room ++ codes " "
    ++ shape_text request.shape ++ codes " " ++ hex_text request.bytes

-- What stands in a line behind the numbers of its entry: `act TEXT = REPLY`
unfoldable pub rest_of_act : Act → ActReply → List ℕ
rest_of_act act reply = codes " act " ++ act_text act ++ codes " = " ++ act_reply_text reply ++ codes "\n"

-- `cmd LANE ORDINAL ROOM SHAPE HEX = HEX` or `.. = fault SHAPE`
unfoldable pub rest_of_command : Request → Reply → List ℕ
rest_of_command request reply = codes " cmd " ++ request_text request ++ codes " = " ++ reply_text reply ++ codes "\n"
