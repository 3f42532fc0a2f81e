-- A blob that was found, by its size or by its bytes.
use Rattle.std.proofs.Common.{◌≡◌, ℕ, List, length, Option, Some, None, sym, refl}
use Rattle.std.specs.Option.{option_map}
use Rattle.vg_laws.proofs.Options.{some-same}
use Rattle.vg_blob.specs.declared.blobs.Blob.{Blob}
use Rattle.vg_blob.specs.Blobs.{blob_at, blob_bytes, size_of}
use Rattle.vg_pages.specs.Memory.{Memory}

sized : (found : Option Blob) (size : ℕ) → ◌≡◌ {A = Option ℕ} (Some size) (option_map (λ blob. blob.size) found) → (blob : Blob) × (found ≡ Some blob) × (blob.size ≡ size)
sized (Some blob) size is = (blob, refl, sym (some-same is))
sized None size is = cc

pub size-found : (id : ℕ) (blobs : List (ℕ × Blob)) (size : ℕ) → ◌≡◌ {A = Option ℕ} (Some size) (option_map (λ blob. blob.size) (blob_at id blobs))
    → (blob : Blob) × (blob_at id blobs ≡ Some blob) × (blob.size ≡ size)
size-found id blobs size is = sized (blob_at id blobs) size is

surfaced : (memory : Memory) (found : Option Blob) (bytes : List ℕ) → ◌≡◌ {A = Option (List ℕ)} (Some bytes) (option_map (blob_bytes memory) found) → length bytes ≡ size_of found
    → (blob : Blob) × (found ≡ Some blob) × (bytes ≡ blob_bytes memory blob) × (length bytes ≡ blob.size)
surfaced memory (Some blob) bytes is long = (blob, refl, some-same is, long)
surfaced memory None bytes is long = cc

pub surface-found : (memory : Memory) (id : ℕ) (blobs : List (ℕ × Blob)) (bytes : List ℕ) → ◌≡◌ {A = Option (List ℕ)} (Some bytes) (option_map (blob_bytes memory) (blob_at id blobs))
    → length bytes ≡ size_of (blob_at id blobs)
    → (blob : Blob) × (blob_at id blobs ≡ Some blob) × (bytes ≡ blob_bytes memory blob) × (length bytes ≡ blob.size)
surface-found memory id blobs bytes is long = surfaced memory (blob_at id blobs) bytes is long
