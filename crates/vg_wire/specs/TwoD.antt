use Rattle.std.specs.Prelude.{ℕ, Bool, ◌&&◌, ◌+◌, ◌*◌, ◌^◌, ◌<◌, List, [], ◌++◌, length, ◌==◌, nat_le, if◌then◌else◌, Option, Some, None}
use Rattle.std.specs.List.{All}
use Rattle.vg_wire.specs.declared.two_d.Command2d.{Command2d}
use Rattle.vg_wire.specs.declared.two_d.Command2d.TheVariants.{DisplayInfo, Create2d, Unref, SetScanout, Flush, Transfer, Attach, Detach}
use Rattle.vg_wire.specs.Kinds.{GET_DISPLAY_INFO, RESOURCE_ATTACH_BACKING, RESOURCE_CREATE_2D, RESOURCE_DETACH_BACKING, RESOURCE_FLUSH, RESOURCE_UNREF, SET_SCANOUT, TRANSFER_TO_HOST_2D}
use Rattle.vg_numbers.specs.Numbers.{number_at, le}
use Rattle.vg_wire.specs.Rect.{rect_at, rect_bytes, IsRect}
use Rattle.vg_wire.specs.Entries.{entries_at, entries_bytes, IsEntry}

-- What each command's fields say, each at its place in the bytes after the header (VIRTIO 1.2, 5.7.6.8). Bytes after the
-- fields are not looked at, and padding isn't either.

-- struct virtio_gpu_resource_create_2d: resource_id, format, width, height
unfoldable pub create_2d : List ℕ → Command2d
create_2d body = Create2d (number_at 4 0 body) (number_at 4 4 body) (number_at 4 8 body) (number_at 4 12 body)

-- struct virtio_gpu_resource_unref: resource_id, padding
unfoldable pub unref : List ℕ → Command2d
unref body = Unref (number_at 4 0 body)

-- struct virtio_gpu_set_scanout: r, scanout_id, resource_id
unfoldable pub set_scanout : List ℕ → Command2d
set_scanout body = SetScanout (rect_at 0 body) (number_at 4 16 body) (number_at 4 20 body)

-- struct virtio_gpu_resource_flush: r, resource_id, padding
unfoldable pub flush : List ℕ → Command2d
flush body = Flush (rect_at 0 body) (number_at 4 16 body)

-- struct virtio_gpu_transfer_to_host_2d: r, offset of eight bytes, resource_id, padding
unfoldable pub transfer : List ℕ → Command2d
transfer body = Transfer (rect_at 0 body) (number_at 8 16 body) (number_at 4 24 body)

-- struct virtio_gpu_resource_attach_backing: resource_id, nr_entries, and then as many entries
unfoldable pub attach : List ℕ → Command2d
attach body = Attach (number_at 4 0 body) (entries_at 8 (number_at 4 4 body) body)

-- How many bytes these take: nr_entries counts entries of 16 bytes.
unfoldable pub attach_size : List ℕ → ℕ
attach_size body = 8 + 16 * number_at 4 4 body

-- struct virtio_gpu_resource_detach_backing: resource_id, padding
unfoldable pub detach : List ℕ → Command2d
detach body = Detach (number_at 4 0 body)

-- The command, if the bytes after the header are at least as many as its fields take.
abbrev pub whole : {A : Type 0} → ℕ → List ℕ → A → Option A
whole size body command = if nat_le size (length body) then Some command else None

-- The kinds of the 2D commands.
abbrev pub is_2d : ℕ → Bool
is_2d kind = nat_le GET_DISPLAY_INFO kind && nat_le kind RESOURCE_DETACH_BACKING

-- The command that a kind and the bytes after the header spell. Each row has the kind, how many bytes the fields take, and
-- the fields. None: no 2D command's kind, or fewer bytes.
unfoldable pub two_d_of : ℕ → List ℕ → Option Command2d
two_d_of kind body =
    if kind == GET_DISPLAY_INFO then whole 0 body DisplayInfo
    else if kind == RESOURCE_CREATE_2D then whole 16 body (create_2d body)
    else if kind == RESOURCE_UNREF then whole 8 body (unref body)
    else if kind == SET_SCANOUT then whole 24 body (set_scanout body)
    else if kind == RESOURCE_FLUSH then whole 24 body (flush body)
    else if kind == TRANSFER_TO_HOST_2D then whole 32 body (transfer body)
    else if kind == RESOURCE_ATTACH_BACKING then whole (attach_size body) body (attach body)
    else if kind == RESOURCE_DETACH_BACKING then whole 8 body (detach body)
    else None

-- The kind of a command.
abbrev pub kind_of_2d : Command2d → ℕ
kind_of_2d DisplayInfo = GET_DISPLAY_INFO
kind_of_2d (Create2d resource format width height) = RESOURCE_CREATE_2D
kind_of_2d (Unref resource) = RESOURCE_UNREF
kind_of_2d (SetScanout rect scanout resource) = SET_SCANOUT
kind_of_2d (Flush rect resource) = RESOURCE_FLUSH
kind_of_2d (Transfer rect offset resource) = TRANSFER_TO_HOST_2D
kind_of_2d (Attach resource entries) = RESOURCE_ATTACH_BACKING
kind_of_2d (Detach resource) = RESOURCE_DETACH_BACKING

-- A command's fields, after the header, with padding 0.
abbrev pub body_of_2d : Command2d → List ℕ
body_of_2d DisplayInfo = []
body_of_2d (Create2d resource format width height) = le 4 resource ++ le 4 format ++ le 4 width ++ le 4 height
body_of_2d (Unref resource) = le 4 resource ++ le 4 0
body_of_2d (SetScanout rect scanout resource) = rect_bytes rect ++ le 4 scanout ++ le 4 resource
body_of_2d (Flush rect resource) = rect_bytes rect ++ le 4 resource ++ le 4 0
body_of_2d (Transfer rect offset resource) = rect_bytes rect ++ le 8 offset ++ le 4 resource ++ le 4 0
body_of_2d (Attach resource entries) = le 4 resource ++ le 4 (length entries) ++ entries_bytes entries
body_of_2d (Detach resource) = le 4 resource ++ le 4 0

-- A command whose number of entries fits nr_entries.
abbrev pub FitsCount : Command2d → Type 0
FitsCount (Attach resource entries) = length entries < 2 ^ 32
FitsCount _ = Unit {0}

-- A command whose numbers fit their bytes, as each value of the type does.
abbrev pub IsCommand2d : Command2d → Type 0
IsCommand2d DisplayInfo = Unit {0}
IsCommand2d (Create2d resource format width height) = (resource < 2 ^ 32) × (format < 2 ^ 32) × (width < 2 ^ 32) × (height < 2 ^ 32)
IsCommand2d (Unref resource) = resource < 2 ^ 32
IsCommand2d (SetScanout rect scanout resource) = IsRect rect × (scanout < 2 ^ 32) × (resource < 2 ^ 32)
IsCommand2d (Flush rect resource) = IsRect rect × (resource < 2 ^ 32)
IsCommand2d (Transfer rect offset resource) = IsRect rect × (offset < 2 ^ 64) × (resource < 2 ^ 32)
IsCommand2d (Attach resource entries) = (resource < 2 ^ 32) × All IsEntry entries
IsCommand2d (Detach resource) = resource < 2 ^ 32
