-- No page touches a backing that there isn't.
use Rattle.std.proofs.Common.{List, [], Option, refl, sym, ap, ◌∙◌}
use Rattle.std.specs.List.{list_any}
use Rattle.std.specs.Prelude.{unwrap_or}
use Rattle.std.proofs.lemmas.List.Folds.{list_any_none}
use Rattle.vg_formats.specs.declared.entry.MemEntry.{MemEntry}
use Rattle.vg_backing.specs.Backing.{touches}
use Rattle.vg_transfer.proofs.backings.Backings.touches_some.Goals as goal

pub returns-in-None : goal.returns-in-None
returns-in-None c = λ pages are.
    sym (list_any_none (λ page. touches page []) pages (λ k d within. refl))
    ∙ ap (λ (found : Option (List MemEntry)). list_any (λ page. touches page (unwrap_or found [])) pages) c.in-None.ensures.value
