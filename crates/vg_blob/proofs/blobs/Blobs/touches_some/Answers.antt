-- No page touches a blob that there isn't.
use Rattle.std.proofs.Common.{◌≡◌, [], Option, None, refl, sym, ap, ◌∙◌, rules}
use Rattle.std.specs.List.{list_any}
use Rattle.std.proofs.lemmas.List.Folds.{list_any_none}
use Rattle.vg_backing.specs.Backing.{touches}
use Rattle.vg_blob.specs.declared.blobs.Blob.{Blob}
use Rattle.vg_blob.specs.Blobs.{blob_at, entries_of}
use Rattle.vg_blob.proofs.blobs.Blobs.touches_some.Goals as goal

pub returns-in-None : goal.returns-in-None
returns-in-None c = λ pages are.
    let none : None ≡ blob_at c.args.id c.args.self.now = search rules in
    sym (list_any_none (λ page. touches page []) pages (λ k d within. refl))
    ∙ ap (λ (found : Option Blob). list_any (λ page. touches page (entries_of found)) pages) none
