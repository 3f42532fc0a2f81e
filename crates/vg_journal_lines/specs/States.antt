-- A journal read piece by piece. A piece is a line, or a frame's pixels, without the line end behind it.
use Rattle.std.specs.Prelude.{ℕ, ◌+◌, ◌-◌, ◌==◌, ◌||◌, not, nat_lt, nat_le, Bool, false, true, if◌then◌else◌, List, [], ◌∷◌, ◌++◌, length, Option, Some, None, option_map, option_and_then}
use Rattle.std.specs.Option.{option_or}
use Rattle.vg_client_holds.specs.Setup.{parties}
use Rattle.vg_machine.specs.Entries.{Entry}
use Rattle.vg_scanout.specs.declared.scanout.Frame.{Frame}
use Rattle.vg_line_words.specs.Words.{lacks, parts_at}
use Rattle.vg_journal_lines.specs.declared.head.Feature.{Feature}
use Rattle.vg_journal_lines.specs.declared.head.Feature.TheVariants.{Edid, Uuid, Blob, Context}
use Rattle.vg_journal_lines.specs.declared.counts.FrameHead.{FrameHead}
use Rattle.vg_journal_lines.specs.declared.state.LeftOut.{LeftOut}
use Rattle.vg_journal_lines.specs.declared.state.Stage.{Stage}
use Rattle.vg_journal_lines.specs.declared.state.Stage.TheVariants as stages
use Rattle.vg_journal_lines.specs.declared.state.State.{State}
use Rattle.vg_journal_lines.specs.declared.head.Version.{Version}
use Rattle.vg_journal_lines.specs.declared.head.Version.TheVariants.{One, Two}
use Rattle.vg_journal_lines.specs.Versions.{limits_of}
use Rattle.vg_journal_lines.specs.Read.{clients_of, display_of, frame_of, frames_of, is_end, is_host, is_queues, memory_of, pixels_of, rings_of, title_of, without_of}
use Rattle.vg_journal_lines.specs.Entries.{entry_of}

-- What a piece gives.
pub data Item : Type 0 where
  Nothing : Item
  AnEntry : Entry → Item
  AFrame : Frame → Item

abbrev pub Next : Type 0
Next = State × Item

abbrev pub none_left_out : LeftOut
none_left_out = record { edid = false; uuid = false; blob = false; context = false }

-- Before the first line.
abbrev pub start : State
start = record {
  stage = stages.Title;
  version = One;
  displays = [];
  pages = 0;
  left_out = none_left_out;
  clients = 0;
  host = false;
  entries = 0;
  control = 0;
  cursor = 0;
  frames = 0;
  bytes = 0;
}

abbrev pub with_version : State → Version → Next
with_version state version = (record state { stage = stages.Displays; version = version }, Nothing)

abbrev pub title_step : State → List (List ℕ) → Option Next
title_step state words = option_map (with_version state) (title_of words)

-- Displays are 1 to 16, numbered from 0.
abbrev pub with_display : State → ℕ × ℕ → Next
with_display state size = (record state { displays = state.displays ++ size ∷ [] }, Nothing)

abbrev pub display_step : State → List (List ℕ) → Option Next
display_step state words =
    if nat_lt (length state.displays) 16 then option_map (with_display state) (display_of (limits_of state.version) (length state.displays) words) else None

-- The line of the queues is version 2's.
abbrev pub behind_pages : Version → Stage
behind_pages One = stages.Features
behind_pages Two = stages.Queues

abbrev pub with_pages : State → ℕ → Next
with_pages state pages = (record state { stage = behind_pages state.version; pages = pages }, Nothing)

abbrev pub memory_step : State → List (List ℕ) → Option Next
memory_step state words = if nat_lt 0 (length state.displays) then option_map (with_pages state) (memory_of words) else None

abbrev pub queues_step : State → List (List ℕ) → Option Next
queues_step state words = if is_queues words then Some (record state { stage = stages.Features }, Nothing) else None

-- A feature's line stands behind those of the features before it.
abbrev pub is_behind : Feature → LeftOut → Bool
is_behind Edid out = not (out.edid || out.uuid || out.blob || out.context)
is_behind Uuid out = not (out.uuid || out.blob || out.context)
is_behind Blob out = not (out.blob || out.context)
is_behind Context out = not out.context

abbrev pub and_out : Feature → LeftOut → LeftOut
and_out Edid out = record out { edid = true }
and_out Uuid out = record out { uuid = true }
and_out Blob out = record out { blob = true }
and_out Context out = record out { context = true }

abbrev pub without_feature : State → Feature → Option Next
without_feature state feature =
    if is_behind feature state.left_out then Some (record state { left_out = and_out feature state.left_out }, Nothing) else None

abbrev pub without_step : State → List (List ℕ) → Option Next
without_step state words = option_and_then (without_feature state) (without_of words)

-- So is that of the host.
abbrev pub behind_clients : Version → Stage
behind_clients One = stages.Entries
behind_clients Two = stages.Host

abbrev pub with_clients : State → ℕ → Next
with_clients state clients = (record state { stage = behind_clients state.version; clients = clients }, Nothing)

abbrev pub clients_step : State → List (List ℕ) → Option Next
clients_step state words = option_map (with_clients state) (clients_of (limits_of state.version) words)

abbrev pub host_step : State → List (List ℕ) → Option Next
host_step state words = if is_host words then Some (record state { stage = stages.Entries; host = true }, Nothing) else None

-- Entries are numbered from 1.
abbrev pub with_entry : State → Entry → Next
with_entry state entry = (record state { stage = stages.Entries; entries = state.entries + 1 }, AnEntry entry)

abbrev pub entry_step : State → List (List ℕ) → Option Next
entry_step state words = option_map (with_entry state) (entry_of (state.entries + 1) (parties state.clients state.host) words)

abbrev pub with_counts : State → ℕ × ℕ → Next
with_counts state counts = (record state { stage = stages.Frames; control = counts.0; cursor = counts.1 }, Nothing)

abbrev pub rings_step : State → List (List ℕ) → Option Next
rings_step state words = option_map (with_counts state) (rings_of words)

abbrev pub with_frames : State → ℕ → Next
with_frames state frames = (record state { stage = stages.Frame frames }, Nothing)

abbrev pub frames_step : State → List (List ℕ) → Option Next
frames_step state words = option_map (with_frames state) (frames_of words)

-- Frames are numbered from 1. All of them have at most 268,435,456 bytes.
abbrev pub with_head : ℕ → State → FrameHead → Option Next
with_head left state head =
    if nat_le (state.bytes + pixels_of head) 268435456
    then Some (record state { stage = stages.Pixels head left; bytes = state.bytes + pixels_of head }, Nothing)
    else None

abbrev pub head_step : ℕ → State → List (List ℕ) → Option Next
head_step left state words = option_and_then (with_head left state) (frame_of (state.frames + 1) words)

abbrev pub end_step : State → List (List ℕ) → Option Next
end_step state words = if is_end words then Some (record state { stage = stages.Done }, Nothing) else None

abbrev pub frame_step : ℕ → State → List (List ℕ) → Option Next
frame_step left state words = if left == 0 then end_step state words else head_step (left - 1) state words

-- An entry, or the counts of commands.
abbrev pub entries_step : State → List (List ℕ) → Option Next
entries_step state words = option_or (rings_step state words) (entry_step state words)

-- The words of a line. Where there may be a host, but its line doesn't come, what comes is what comes behind it.
abbrev pub words_step : Stage → State → List (List ℕ) → Option Next
words_step stages.Title state words = title_step state words
words_step stages.Displays state words = option_or (display_step state words) (memory_step state words)
words_step stages.Queues state words = queues_step state words
words_step stages.Features state words = option_or (without_step state words) (clients_step state words)
words_step stages.Host state words = option_or (host_step state words) (entries_step state words)
words_step stages.Entries state words = entries_step state words
words_step stages.Frames state words = frames_step state words
words_step (stages.Frame left) state words = frame_step left state words
words_step (stages.Pixels head left) state words = None
words_step stages.Done state words = None

-- The pixels of a frame.
abbrev pub frame_with : FrameHead → List ℕ → Frame
frame_with head bytes = record { scanout = head.scanout; width = head.width; height = head.height; entry = head.entry; pixels = bytes }

abbrev pub pixels_step : FrameHead → ℕ → State → List ℕ → Option Next
pixels_step head left state bytes =
    if length bytes == pixels_of head
    then Some (record state { stage = stages.Frame left; frames = state.frames + 1 }, AFrame (frame_with head bytes))
    else None

-- A line, which has no line end in it.
abbrev pub line_step : Stage → State → List ℕ → Option Next
line_step stage state line = if lacks 10 line then words_step stage state (parts_at 32 line) else None

abbrev pub piece_step : Stage → State → List ℕ → Option Next
piece_step stages.Title state piece = line_step stages.Title state piece
piece_step stages.Displays state piece = line_step stages.Displays state piece
piece_step stages.Queues state piece = line_step stages.Queues state piece
piece_step stages.Features state piece = line_step stages.Features state piece
piece_step stages.Host state piece = line_step stages.Host state piece
piece_step stages.Entries state piece = line_step stages.Entries state piece
piece_step stages.Frames state piece = line_step stages.Frames state piece
piece_step (stages.Frame left) state piece = line_step (stages.Frame left) state piece
piece_step (stages.Pixels head left) state piece = pixels_step head left state piece
piece_step stages.Done state piece = None

-- The state after a piece, and what the piece gives, where it may come next.
abbrev pub step : State → List ℕ → Option Next
step state piece = piece_step state.stage state piece

-- The state after pieces, and what each gives, where they may come next.
abbrev pub and_given : Item → Option (State × List Item) → Option (State × List Item)
and_given item None = None
and_given item (Some more) = Some (more.0, item ∷ more.1)

abbrev pub run : State → List (List ℕ) → Option (State × List Item)
run state [] = Some (state, [])
run state (piece ∷ pieces) = option_and_then (λ next. and_given next.1 (run next.0 pieces)) (step state piece)
