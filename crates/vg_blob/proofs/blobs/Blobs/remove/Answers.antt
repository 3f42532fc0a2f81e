-- The other blobs stay.
use Rattle.std.proofs.Common.{ℕ, List, sym, subst}
use Rattle.std.specs.List.{All}
use Rattle.std.specs.Map.{values_of}
use Rattle.std.specs.Ordering.{nat_cmp}
use Rattle.std.specs.BTreeMap.{is_at}
use Rattle.std.proofs.lemmas.Map.Views.{All-map-remove_entry}
use Rattle.vg_backing.proofs.HeldLemmas.{held-without}
use Rattle.vg_blob.specs.declared.blobs.Blob.{Blob}
use Rattle.vg_blob.specs.Blobs.{IsBlob}
use Rattle.vg_blob.proofs.BlobLemmas.{AllHeld, HasHeld}
use Rattle.vg_blob.proofs.blobs.Blobs.remove.Goals as goal

pub invariant_of-self : goal.invariant_of-self
invariant_of-self c =
    subst (λ (blobs : List (ℕ × Blob)). All IsBlob (values_of blobs)) (sym c.remove.ensures.entries)
    (All-map-remove_entry (is_at (nat_cmp c.args.id)) (λ (entry : ℕ × Blob). entry.1) IsBlob c.self.inside.map.entries c.self.invariant)

pub returns-clause-held : goal.returns-clause-held
returns-clause-held c memory held =
    subst (AllHeld memory) (sym c.remove.ensures.entries)
    (held-without (HasHeld memory) c.self.inside.map.entries (is_at (nat_cmp c.args.id)) (subst (AllHeld memory) (sym c.self.view_is) held))
