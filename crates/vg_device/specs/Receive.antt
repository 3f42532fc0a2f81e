-- The resources' pixels as they come from backings (VIRTIO 1.2, 5.7.6.8, TRANSFER_TO_HOST_2D).
use Rattle.std.specs.Prelude.{ℕ, List, Option, Some, None, Result, is_some}
use Rattle.vg_formats.specs.declared.entry.MemEntry.{MemEntry}
use Rattle.vg_formats.specs.declared.rect.Rect.{Rect}
use Rattle.vg_pages.specs.Memory.{Memory}
use Rattle.vg_resource.specs.declared.resource.Resource.{Resource}
use Rattle.vg_transfer.specs.Backings.{entries_at, transfer_refusals, transferred}
use Rattle.vg_refusals.specs.Refusals.{refusal_of, unless_refused}
use Rattle.vg_resource.specs.Resource.{height_of, resource_at, width_of, with_pixels}

-- The refusal of a transfer to the resource that was found.
abbrev pub receive_refusal : ℕ → Rect → ℕ → List (ℕ × List MemEntry) → Option Resource → Option ℕ
receive_refusal id rect offset backings found =
    refusal_of (transfer_refusals (is_some found) id rect offset (width_of found) (height_of found) backings)

-- The resources after a transfer to the one that was found.
abbrev pub with_received : Memory → ℕ → Rect → ℕ → List (ℕ × List MemEntry) → Option Resource → List (ℕ × Resource) → List (ℕ × Resource)
with_received memory id rect offset backings (Some resource) resources =
    with_pixels id resource (transferred memory (entries_at id backings) rect offset resource.width resource.pixels) resources
with_received memory id rect offset backings None resources = resources

unfoldable pub receive : Memory → ℕ → Rect → ℕ → List (ℕ × List MemEntry) → List (ℕ × Resource) → List (ℕ × Resource) × Result Unit ℕ
receive memory id rect offset backings resources =
    unless_refused (receive_refusal id rect offset backings (resource_at id resources)) resources
    (with_received memory id rect offset backings (resource_at id resources) resources)
