-- Each cursor is one that was never set, which has its image.
use Rattle.std.proofs.Common.{List, sym, subst}
use Rattle.std.specs.List.{All}
use Rattle.std.proofs.lemmas.List.Elements.{All-replicate}
use Rattle.vg_cursor.specs.declared.cursor.Cursor.{Cursor}
use Rattle.vg_cursor.specs.Cursor.{unset, IsWhole}
use Rattle.vg_cursor.proofs.CursorLemmas.{whole-unset}
use Rattle.vg_cursor.proofs.cursor.Cursors.new.Goals as goal

pub invariant_of-result : goal.invariant_of-result
invariant_of-result c =
    subst (λ (cursors : List Cursor). All (λ cursor. IsWhole cursor) cursors) (sym c.loop-cursor.invariant)
    (All-replicate (λ cursor. IsWhole cursor) c.loop-cursor._cursor unset whole-unset)
