use Rattle.std.proofs.Common.{rules, ◌≡◌, sym, subst, Some}
use Rattle.std.specs.Prelude.{IfSome}
use Rattle.std.proofs.lemmas.Map.Entries.{All-lookup}
use Rattle.vg_blob.specs.Blobs.{blob_at}
use Rattle.vg_blob.proofs.BlobLemmas.{HasHeld}
use Rattle.vg_blob.proofs.blobs.Blobs.surface.Goals as goal

pub read-requires-clause-held : goal.read-requires-clause-held
read-requires-clause-held c =
    let memory = c.args.pages.now in
    let found : Some c.in-Some.blob.now ≡ blob_at c.args.id c.args.self.now = search rules in
    subst (λ found. IfSome found (HasHeld memory)) (sym found) (All-lookup (HasHeld memory) _ c.args.self.now c.requires.held)
