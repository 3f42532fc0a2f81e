-- Which request, or which reply to a command, some words are; or none, where they are no such words.
use Rattle.std.specs.Prelude.{ℕ, ◌^◌, if◌then◌else◌, List, [], ◌∷◌, Option, None, option_map, bytes_eq, codes}
use Rattle.vg_chain.specs.declared.shape.Shape.{Shape}
use Rattle.vg_device.specs.declared.request.Request.{Request}
use Rattle.vg_device.specs.declared.request.Reply.{Reply}
use Rattle.vg_device.specs.declared.request.Reply.TheVariants.{Fault, Response}
use Rattle.vg_line_words.specs.Words.{bytes_within, number_of}
use Rattle.vg_act_lines.specs.Read.{both}
use Rattle.vg_command_lines.specs.Shapes.{fault_of, shape_of}
use Rattle.vg_command_lines.specs.Ranges.{queue_of}

abbrev pub ticket_of : List ℕ → List ℕ → Option (ℕ × ℕ)
ticket_of lane ordinal = both (number_of 66 lane) (number_of (2 ^ 63) ordinal)

abbrev pub layout_of : List ℕ → List ℕ → Option (ℕ × Shape)
layout_of room shape = both (number_of 8193 room) (shape_of shape)

abbrev pub request : ((ℕ × ℕ) × (ℕ × Shape)) × List ℕ → Request
request says = record {
  queue = queue_of says.0.0.0;
  lane = says.0.0.0;
  ordinal = says.0.0.1;
  room = says.0.1.0;
  shape = says.0.1.1;
  bytes = says.1;
}

-- `LANE ORDINAL ROOM SHAPE HEX`
unfoldable pub request_of : List (List ℕ) → Option Request
request_of (lane ∷ ordinal ∷ room ∷ shape ∷ hex ∷ []) =
    option_map request (both (both (ticket_of lane ordinal) (layout_of room shape)) (bytes_within 49152 hex))
request_of words = None

-- `HEX` or `fault SHAPE`
unfoldable pub command_reply_of : List (List ℕ) → Option Reply
command_reply_of (hex ∷ []) = option_map Response (bytes_within 8192 hex)
command_reply_of (word ∷ shape ∷ []) = if bytes_eq word (codes "fault") then option_map Fault (fault_of shape) else None
command_reply_of words = None
