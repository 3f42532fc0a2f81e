use Rattle.std.proofs.Common.{ℕ, List}
use Rattle.std.specs.List.{All}
use Rattle.vg_pages.specs.Memory.{Memory}
use Rattle.vg_backing.specs.Backing.{AreHeld}
use Rattle.vg_blob.specs.declared.blobs.Blob.{Blob}
use Rattle.vg_blob.specs.Blobs.{IsHeld}

-- what holds of a blob by itself where its entries are held
abbrev pub HasHeld : Memory → Blob → Type 0
HasHeld memory blob = AreHeld memory blob.entries

abbrev pub AllHeld : Memory → List (ℕ × Blob) → Type 0
AllHeld memory blobs = All (IsHeld memory) blobs
