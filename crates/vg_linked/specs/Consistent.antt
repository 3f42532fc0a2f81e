-- What holds of the display after every history, whatever its clients have asked.
use Rattle.std.specs.Prelude.{◌≡◌, ℕ, ◌*◌, true, false, is_some, List, length, Some, None}
use Rattle.std.specs.List.{AllByRecursion}
use Rattle.vg_formats.specs.declared.entry.MemEntry.{MemEntry}
use Rattle.vg_pages.specs.Memory.{is_among}
use Rattle.vg_blob.specs.declared.blobs.Blob.{Blob}
use Rattle.vg_blob.specs.Blobs.{blob_at}
use Rattle.vg_share.specs.Share.{buffer_at, pages_at}
use Rattle.vg_client_holds.specs.Holds.{pages_in}
use Rattle.vg_client_holds.specs.declared.setup.Setup.{Setup}
use Rattle.vg_resource.specs.Resource.{resource_at}
use Rattle.vg_scanout.specs.declared.scanout.Binding.{Binding}
use Rattle.vg_scanout.specs.Scanout.{binding_at}
use Rattle.vg_transfer.specs.Backings.{backing_at}
use Rattle.vg_device.specs.State.{IsConsistent, State, has_resource, is_blob}
use Rattle.vg_linked.specs.Rising.{AreRising}

-- A number is that of one buffer, one 2D resource, one backing and one blob at most; no blob has that of a 2D resource, and none has 0.
pub record HaveUniqueIds (state : State) : Type 0 where
  pub buffers : AreRising state.share.buffers
  pub resources : AreRising state.resources
  pub backings : AreRising state.backings
  pub blobs : AreRising state.blobs
  pub apart : (id : ℕ) → is_blob state id ≡ true → resource_at id state.resources ≡ None
  pub not_0 : has_resource state 0 ≡ false

-- A backing is that of a 2D resource that there is, and a scanout is bound to a resource that there is.
pub record BelongTogether (state : State) : Type 0 where
  pub backed : (id : ℕ) → is_some (backing_at id state.backings) ≡ true → is_some (resource_at id state.resources) ≡ true
  pub bound : (scanout : ℕ) (binding : Binding) → binding_at scanout state.scanouts ≡ Some binding → has_resource state binding.resource ≡ true

-- The display has the setup's pages and bytes of memory, its parts fit, ids are unique, and what belongs together is there.
pub record IsReplayed (setup : Setup) (state : State) : Type 0 where
  pub setup_is : state.setup ≡ setup
  pub consistent : IsConsistent state
  pub bytes : length state.memory.bytes ≡ 4096 * setup.pages
  pub ids : HaveUniqueIds state
  pub together : BelongTogether state

-- Each page of memory of this many pages that the entries name is one of these.
abbrev pub AreInPages : ℕ → List MemEntry → List ℕ → Type 0
AreInPages count entries pages = AllByRecursion (λ page. is_among pages page ≡ true) (pages_in count entries)

-- A resource has the number of a live buffer, and the entries of its backing, and of a blob, lie in the pages of that buffer.
pub record AreOfBuffers (state : State) : Type 0 where
  pub live : (id : ℕ) → has_resource state id ≡ true → is_some (buffer_at id state.share) ≡ true
  pub backings : (id : ℕ) (entries : List MemEntry) → backing_at id state.backings ≡ Some entries → AreInPages state.setup.pages entries (pages_at id state.share)
  pub blobs : (id : ℕ) (blob : Blob) → blob_at id state.blobs ≡ Some blob → AreInPages state.setup.pages blob.entries (pages_at id state.share)
