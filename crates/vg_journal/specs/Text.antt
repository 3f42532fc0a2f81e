use Rattle.std.specs.Prelude.{ℕ, Bool, ◌==◌, if◌then◌else◌, List, [], ◌++◌, bit_and, length, codes, decimal}
use Rattle.vg_config.specs.Features.{EDID, RESOURCE_BLOB, RESOURCE_UUID, VIRGL}
use Rattle.vg_client_holds.specs.declared.setup.Setup.{Setup}
use Rattle.vg_scanout.specs.declared.scanout.Frame.{Frame}
use Rattle.vg_text.specs.Text.{numbered}
use Rattle.vg_history.specs.Lines as history
use Rattle.vg_machine.specs.Entries.{Entry}
use Rattle.vg_machine.specs.Replay.{display}
use Rattle.vg_journal.specs.declared.journal.Journal.{Journal}

-- The line of an entry, as the display's history has it: `N C K act TEXT = REPLY`, and `N C K cmd LANE ORDINAL ROOM SHAPE HEX = HEX`
-- or `.. = fault SHAPE`.
abbrev pub entry_line : ℕ → Entry → List ℕ
entry_line = history.entry_line display

-- `display S W H`
unfoldable pub display_line : ℕ → ℕ × ℕ → List ℕ
display_line n size = codes "display " ++ decimal n ++ codes " " ++ decimal size.0 ++ codes " " ++ decimal size.1 ++ codes "\n"

-- `frame I S W H E`
unfoldable pub frame_line : ℕ → Frame → List ℕ
frame_line n frame =
    codes "frame " ++ decimal n ++ codes " " ++ decimal frame.scanout ++ codes " " ++ decimal frame.width ++ codes " " ++ decimal frame.height
    ++ codes " " ++ decimal frame.entry ++ codes "\n"

-- A frame's line, its pixels as they are, and a line end.
abbrev pub frame_text : ℕ → Frame → List ℕ
frame_text n frame = frame_line n frame ++ frame.pixels ++ codes "\n"

-- The first line: the format and its version, which goes with the sizes of both queues.
unfoldable pub title_text : ℕ × ℕ → List ℕ
title_text queues = if queues.0 == 64 then codes "vgpu-journal 1\n" else codes "vgpu-journal 2\n"

-- `queues 256 64`, in version 2 alone.
unfoldable pub queues_text : ℕ × ℕ → List ℕ
queues_text queues = if queues.0 == 64 then [] else codes "queues 256 64\n"

-- `host`, where there is one.
unfoldable pub host_text : Bool → List ℕ
host_text host = if host then codes "host\n" else []

-- `without F`, where a feature's bit isn't accepted.
unfoldable pub without_line : ℕ → ℕ → List ℕ → List ℕ
without_line accepted bit name = if bit_and accepted bit == 0 then codes "without " ++ name ++ codes "\n" else []

-- The features that are left out: EDID, UUIDs, blobs and contexts.
unfoldable pub without_text : ℕ → List ℕ
without_text accepted =
    without_line accepted EDID (codes "edid") ++ without_line accepted RESOURCE_UUID (codes "uuid")
    ++ without_line accepted RESOURCE_BLOB (codes "blob") ++ without_line accepted VIRGL (codes "context")

-- The lines before the entries: the title, the displays from 0, the pages, the queues, the features that are left out, the clients,
-- and the host.
unfoldable pub head_text : Setup → List ℕ
head_text setup =
    title_text setup.queues ++ numbered display_line 0 setup.displays ++ codes "memory " ++ decimal setup.pages ++ codes "\n"
    ++ queues_text setup.queues ++ without_text setup.accepted ++ codes "clients " ++ decimal setup.clients ++ codes "\n"
    ++ host_text setup.host

-- `rings A B` and `frames M`
unfoldable pub counts_text : ℕ → ℕ → ℕ → List ℕ
counts_text control cursor frames =
    codes "rings " ++ decimal control ++ codes " " ++ decimal cursor ++ codes "\n" ++ codes "frames " ++ decimal frames ++ codes "\n"

-- The journal in front of its last line: its setup, its history, how many of its commands were on each queue, and the frames.
abbrev pub front_text : Journal → List ℕ
front_text journal =
    head_text journal.setup ++ numbered entry_line 1 journal.entries
    ++ counts_text journal.control journal.cursor (length journal.frames) ++ numbered frame_text 1 journal.frames

-- The text of a journal.
abbrev pub text_of : Journal → List ℕ
text_of journal = front_text journal ++ codes "end\n"
