-- The new blob has no more bytes than its entries, which are held, and the others stay.
use Rattle.std.proofs.Common.{rules, ℕ, List, sym, subst}
use Rattle.std.specs.List.{All}
use Rattle.std.specs.Map.{values_of}
use Rattle.std.specs.Ordering.{nat_cmp}
use Rattle.std.proofs.lemmas.Map.Views.{All-values-insert_entry}
use Rattle.vg_backing.proofs.HeldLemmas.{held-with}
use Rattle.vg_blob.specs.declared.blobs.Blob.{Blob}
use Rattle.vg_blob.specs.Blobs.{IsBlob}
use Rattle.vg_blob.proofs.BlobLemmas.{AllHeld, HasHeld}
use Rattle.vg_blob.proofs.blobs.Blobs.create.Goals as goal

pub invariant_of-self-2 : goal.invariant_of-self-2
invariant_of-self-2 c =
    let new : Blob = record { size = c.args.size; entries = c.in-Some.entries } in
    let whole : IsBlob new = search rules in
    subst (λ (blobs : List (ℕ × Blob)). All IsBlob (values_of blobs)) (sym c.in_ok-insert.ensures.entries)
    (All-values-insert_entry nat_cmp c.args.id new IsBlob c.self.inside.map.entries c.self.invariant whole)

pub returns-clause-held : goal.returns-clause-held
returns-clause-held c held =
    let memory = c.args.pages.now in
    let new : Blob = record { size = c.args.size; entries = c.in-Some.entries } in
    let there = rw c.in-Some.is at c.in_ok-entries.ensures.held in
    subst (AllHeld memory) (sym c.in_ok-insert.ensures.entries)
    (held-with (HasHeld memory) c.self.inside.map.entries c.args.id new (subst (AllHeld memory) (sym c.self.view_is) held) there)
