-- The words of a command's request and of its reply, which their text has in a row with a blank between two.
use Rattle.std.specs.Prelude.{ℕ, List, [], ◌∷◌, codes, decimal}
use Rattle.vg_text.specs.Text.{hex_text}
use Rattle.vg_journal_words.specs.Text.{fault_text, shape_text}
use Rattle.vg_device.specs.declared.request.Request.{Request}
use Rattle.vg_device.specs.declared.request.Reply.{Reply}
use Rattle.vg_device.specs.declared.request.Reply.TheVariants.{Fault, Response}

abbrev pub request_words : Request → List (List ℕ)
request_words request =
    decimal request.lane ∷ decimal request.ordinal ∷ decimal request.room ∷ shape_text request.shape ∷ hex_text request.bytes ∷ []

abbrev pub command_reply_words : Reply → List (List ℕ)
command_reply_words (Response bytes) = hex_text bytes ∷ []
command_reply_words (Fault fault) = codes "fault" ∷ fault_text fault ∷ []
