-- What RESOURCE_FLUSH shows and TRANSFER_TO_HOST_2D copies (VIRTIO 1.2, 5.7.6.8), pixel by pixel.
use Rattle.std.specs.Prelude.{◌≡◌, ◌≢◌, ◌⊎◌, ℕ, ◌+◌, ◌*◌, ◌<◌, List, None, Some, slice_get, take, drop}
use Rattle.vg_formats.specs.declared.rect.Rect.{Rect}
use Rattle.vg_formats.specs.Formats.{shown_bytes}
use Rattle.vg_formats.specs.Pixels.{Covers}
use Rattle.vg_places.specs.Pixels.{pixel_of}
use Rattle.vg_resource.specs.declared.resource.Resource.{Resource}
use Rattle.vg_pages.specs.Memory.{Memory}
use Rattle.vg_scanout.specs.declared.scanout.Binding.{Binding}
use Rattle.vg_scanout.specs.Scanout.{Screen}
use Rattle.vg_blob.specs.declared.blobs.Blob.{Blob}
use Rattle.vg_blob.specs.Blobs.{blob_at, blob_bytes}
use Rattle.vg_backing.specs.Backing.{backing_bytes}
use Rattle.vg_transfer.specs.Backings.{entries_at}
use Rattle.vg_resource.specs.Resource.{resource_at}
use Rattle.vg_device.specs.State.{State}

-- Pixel (u, v) of a 2D resource as its format is shown.
abbrev pub pixel_in : Resource → ℕ → ℕ → List ℕ
pixel_in resource u v = shown_bytes resource.format (pixel_of resource.pixels resource.width u v)

-- Pixel (u, v) of a blob as a binding shows it: the four bytes of its guest pages at `offset + stride * v + 4 * u`, as memory has them.
abbrev pub pixel_in_blob : Memory → Blob → Binding → ℕ → ℕ → List ℕ
pixel_in_blob memory blob binding u v =
    shown_bytes binding.format (take 4 (drop (binding.offset + binding.stride * v + 4 * u) (blob_bytes memory blob)))

-- RESOURCE_FLUSH (VIRTIO 1.2, 5.7.6.8): a pixel is the resource's at its point where the flush covers that, and else as before. `value`
-- has the resource's pixels.
abbrev pub ShowsPixel : Rect → (ℕ → ℕ → List ℕ) → Screen → Screen → ℕ → ℕ → Type 0
ShowsPixel rect value old new x y =
    let whole = old.binding.rect in
    (Covers rect (whole.x + x) (whole.y + y) → pixel_of new.pixels whole.width x y ≡ value (whole.x + x) (whole.y + y))
    × (¬ Covers rect (whole.x + x) (whole.y + y) → pixel_of new.pixels whole.width x y ≡ pixel_of old.pixels whole.width x y)

-- RESOURCE_FLUSH (VIRTIO 1.2, 5.7.6.8): a screen of the resource shows each pixel so, and any other is as before.
pub record ShowsScreen (id : ℕ) (rect : Rect) (value : ℕ → ℕ → List ℕ) (old new : Screen) : Type 0 where
  pub binding : new.binding ≡ old.binding
  pub shown : old.binding.resource ≡ id → (x y : ℕ) → x < old.binding.rect.width → y < old.binding.rect.height → ShowsPixel rect value old new x y
  pub other : old.binding.resource ≢ id → new.pixels ≡ old.pixels

-- RESOURCE_FLUSH (VIRTIO 1.2, 5.7.6.8): each scanout that is bound has a screen that shows such pixels so.
abbrev pub ShowsOnEach : Rect → ℕ → (Binding → ℕ → ℕ → List ℕ) → State → State → Type 0
ShowsOnEach rect id value old new =
    (scanout : ℕ) (screen : Screen) → slice_get old.scanouts.screens scanout ≡ Some (Some screen)
    → (next : Screen) × (slice_get new.scanouts.screens scanout ≡ Some (Some next)) × ShowsScreen id rect (value screen.binding) screen next

-- RESOURCE_FLUSH (VIRTIO 1.2, 5.7.6.8): there is a blob, and its pixels are shown so; or there is none, but a 2D resource, and its are.
abbrev pub ShowsEachPixel : Rect → ℕ → State → State → Type 0
ShowsEachPixel rect id old new =
    ((blob : Blob) × (blob_at id old.blobs ≡ Some blob) × ShowsOnEach rect id (pixel_in_blob old.memory blob) old new)
    ⊎ ((resource : Resource) × (blob_at id old.blobs ≡ None) × (resource_at id old.resources ≡ Some resource)
    × ShowsOnEach rect id (λ binding. pixel_in resource) old new)

-- TRANSFER_TO_HOST_2D (VIRTIO 1.2, 5.7.6.8): pixel (i, j) of the rectangle has its bytes of these, and the others are as before.
pub record CopiesPixels (rect : Rect) (offset : ℕ) (bytes : List ℕ) (old new : Resource) : Type 0 where
  pub width : new.width ≡ old.width
  pub height : new.height ≡ old.height
  pub format : new.format ≡ old.format
  pub copied : (i j : ℕ) → i < rect.width → j < rect.height → pixel_of new.pixels old.width (rect.x + i) (rect.y + j) ≡ take 4 (drop (offset + 4 * old.width * j + 4 * i) bytes)
  pub kept : (x y : ℕ) → x < old.width → y < old.height → ¬ Covers rect x y → pixel_of new.pixels old.width x y ≡ pixel_of old.pixels old.width x y

-- TRANSFER_TO_HOST_2D (VIRTIO 1.2, 5.7.6.8): there is a blob, and no pixels change; or there is a 2D resource, whose pixels come so from
-- its backing, and other resources are as before.
abbrev pub CopiesEachPixel : Rect → ℕ → ℕ → State → State → Type 0
CopiesEachPixel rect offset id old new =
    ((blob : Blob) × (blob_at id old.blobs ≡ Some blob) × (new.resources ≡ old.resources))
    ⊎ ((resource : Resource) × (next : Resource) × (resource_at id old.resources ≡ Some resource) × (resource_at id new.resources ≡ Some next)
    × CopiesPixels rect offset (backing_bytes old.memory (entries_at id old.backings)) resource next
    × ((other : ℕ) → other ≢ id → resource_at other new.resources ≡ resource_at other old.resources))
