-- The words of a journal's lines, which their text has in a row with a blank between two, and a line end behind them.
use Rattle.std.specs.Prelude.{ℕ, List, [], ◌∷◌, ◌++◌, codes, decimal}
use Rattle.std.specs.List.{join_with_byte}
use Rattle.vg_scanout.specs.declared.scanout.Frame.{Frame}
use Rattle.vg_journal_lines.specs.declared.head.Feature.{Feature}
use Rattle.vg_journal_lines.specs.declared.head.Feature.TheVariants.{Edid, Uuid, Blob, Context}
use Rattle.vg_journal_lines.specs.declared.head.Version.{Version}
use Rattle.vg_journal_lines.specs.declared.head.Version.TheVariants.{One, Two}
use Rattle.vg_journal_lines.specs.declared.counts.FrameHead.{FrameHead}

-- The line that has these words, without its end.
abbrev pub joined : List (List ℕ) → List ℕ
joined words = join_with_byte 32 words

-- The line that has these words.
abbrev pub line_of : List (List ℕ) → List ℕ
line_of words = joined words ++ codes "\n"

abbrev pub version_word : Version → List ℕ
version_word One = codes "1"
version_word Two = codes "2"

abbrev pub title_words : Version → List (List ℕ)
title_words version = codes "vgpu-journal" ∷ version_word version ∷ []

-- `display S W H`
abbrev pub display_words : ℕ → ℕ × ℕ → List (List ℕ)
display_words n size = codes "display" ∷ decimal n ∷ decimal size.0 ∷ decimal size.1 ∷ []

-- `memory P`
abbrev pub memory_words : ℕ → List (List ℕ)
memory_words pages = codes "memory" ∷ decimal pages ∷ []

abbrev pub queues_words : List (List ℕ)
queues_words = codes "queues" ∷ codes "256" ∷ codes "64" ∷ []

abbrev pub feature_name : Feature → List ℕ
feature_name Edid = codes "edid"
feature_name Uuid = codes "uuid"
feature_name Blob = codes "blob"
feature_name Context = codes "context"

-- `without F`
abbrev pub without_words : Feature → List (List ℕ)
without_words feature = codes "without" ∷ feature_name feature ∷ []

-- `clients C`
abbrev pub clients_words : ℕ → List (List ℕ)
clients_words clients = codes "clients" ∷ decimal clients ∷ []

abbrev pub host_words : List (List ℕ)
host_words = codes "host" ∷ []

-- `rings A B`
abbrev pub rings_words : ℕ × ℕ → List (List ℕ)
rings_words counts = codes "rings" ∷ decimal counts.0 ∷ decimal counts.1 ∷ []

-- `frames M`
abbrev pub frames_words : ℕ → List (List ℕ)
frames_words frames = codes "frames" ∷ decimal frames ∷ []

-- A frame, but for its pixels.
abbrev pub head_of : Frame → FrameHead
head_of frame = record { scanout = frame.scanout; width = frame.width; height = frame.height; entry = frame.entry }

-- `frame I S W H E`
abbrev pub frame_words : ℕ → FrameHead → List (List ℕ)
frame_words n head =
    codes "frame" ∷ decimal n ∷ decimal head.scanout ∷ decimal head.width ∷ decimal head.height ∷ decimal head.entry ∷ []

abbrev pub end_words : List (List ℕ)
end_words = codes "end" ∷ []
