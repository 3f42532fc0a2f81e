-- What the words of a journal's line say, or nothing where they are no such words.
use Rattle.std.specs.Prelude.{ℕ, ◌+◌, ◌*◌, ◌^◌, ◌==◌, ◌&&◌, nat_le, Bool, false, if◌then◌else◌, List, [], ◌∷◌, Option, Some, None, option_map, option_and_then, bytes_eq, codes}
use Rattle.vg_line_words.specs.Words.{number_of}
use Rattle.vg_act_lines.specs.Read.{both, short, two}
use Rattle.vg_journal_lines.specs.declared.head.Feature.{Feature}
use Rattle.vg_journal_lines.specs.declared.head.Feature.TheVariants.{Edid, Uuid, Blob, Context}
use Rattle.vg_journal_lines.specs.declared.counts.FrameHead.{FrameHead}
use Rattle.vg_journal_lines.specs.declared.head.Version.{Version}
use Rattle.vg_journal_lines.specs.declared.head.Version.TheVariants.{One, Two}
use Rattle.vg_limits.specs.Limits.{Limits}

-- A word is this number, which is below 2 ^ 63.
abbrev pub says : ℕ → Option ℕ → Bool
says n None = false
says n (Some m) = m == n

abbrev pub is_this : ℕ → List ℕ → Bool
is_this n word = says n (number_of (2 ^ 63) word)

-- A number from 1 on.
abbrev pub not_zero : Option ℕ → Option ℕ
not_zero None = None
not_zero (Some n) = if n == 0 then None else Some n

abbrev pub from_one : ℕ → List ℕ → Option ℕ
from_one bound word = not_zero (number_of bound word)

-- The format, and its version
abbrev pub version_in : List ℕ → Option Version
version_in word = if bytes_eq word (codes "1") then Some One else if bytes_eq word (codes "2") then Some Two else None

unfoldable pub title_of : List (List ℕ) → Option Version
title_of (name ∷ version ∷ []) = if bytes_eq name (codes "vgpu-journal") then version_in version else None
title_of words = None

-- `display S W H`, where S is expected, within these limits
unfoldable pub display_of : Limits → ℕ → List (List ℕ) → Option (ℕ × ℕ)
display_of most n (word ∷ number ∷ width ∷ height ∷ []) =
    if bytes_eq word (codes "display") && is_this n number then both (from_one (most.width + 1) width) (from_one (most.height + 1) height) else None
display_of most n words = None

-- `memory P`
unfoldable pub memory_of : List (List ℕ) → Option ℕ
memory_of (word ∷ pages ∷ []) = if bytes_eq word (codes "memory") then from_one 16385 pages else None
memory_of words = None

-- `queues 256 64`
unfoldable pub is_queues : List (List ℕ) → Bool
is_queues (word ∷ control ∷ cursor ∷ []) = bytes_eq word (codes "queues") && bytes_eq control (codes "256") && bytes_eq cursor (codes "64")
is_queues words = false

-- `without F`
abbrev pub feature_of : List ℕ → Option Feature
feature_of name =
    if bytes_eq name (codes "edid") then Some Edid
    else if bytes_eq name (codes "uuid") then Some Uuid
    else if bytes_eq name (codes "blob") then Some Blob
    else if bytes_eq name (codes "context") then Some Context
    else None

unfoldable pub without_of : List (List ℕ) → Option Feature
without_of (word ∷ name ∷ []) = if bytes_eq word (codes "without") then feature_of name else None
without_of words = None

-- `clients C`, within these limits
unfoldable pub clients_of : Limits → List (List ℕ) → Option ℕ
clients_of most (word ∷ clients ∷ []) = if bytes_eq word (codes "clients") then number_of (most.clients + 1) clients else None
clients_of most words = None

unfoldable pub is_host : List (List ℕ) → Bool
is_host (word ∷ []) = bytes_eq word (codes "host")
is_host words = false

-- `rings A B`
unfoldable pub rings_of : List (List ℕ) → Option (ℕ × ℕ)
rings_of (word ∷ control ∷ cursor ∷ []) =
    if bytes_eq word (codes "rings") then both (number_of (2 ^ 63) control) (number_of (2 ^ 63) cursor) else None
rings_of words = None

-- `frames M`
unfoldable pub frames_of : List (List ℕ) → Option ℕ
frames_of (word ∷ frames ∷ []) = if bytes_eq word (codes "frames") then number_of (2 ^ 63) frames else None
frames_of words = None

-- `frame I S W H E`, where I is expected
abbrev pub frame_head : (ℕ × (ℕ × ℕ)) × ℕ → FrameHead
frame_head n = record { scanout = n.0.0; width = n.0.1.0; height = n.0.1.1; entry = n.1 }

-- How many bytes the pixels have, four each.
abbrev pub pixels_of : FrameHead → ℕ
pixels_of head = 4 * head.width * head.height

abbrev pub if_it_fits : FrameHead → Option FrameHead
if_it_fits head = if nat_le (pixels_of head) 33554432 then Some head else None

abbrev pub any_head : (scanout width height entry : List ℕ) → Option FrameHead
any_head scanout width height entry = option_map frame_head (both (both (short scanout) (two width height)) (number_of (2 ^ 63) entry))

unfoldable pub frame_of : ℕ → List (List ℕ) → Option FrameHead
frame_of n (word ∷ number ∷ scanout ∷ width ∷ height ∷ entry ∷ []) =
    if bytes_eq word (codes "frame") && is_this n number then option_and_then if_it_fits (any_head scanout width height entry) else None
frame_of n words = None

unfoldable pub is_end : List (List ℕ) → Bool
is_end (word ∷ []) = bytes_eq word (codes "end")
is_end words = false
