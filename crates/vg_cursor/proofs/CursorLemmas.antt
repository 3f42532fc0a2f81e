-- A cursor that was never set.
use Rattle.std.proofs.Common.{◌≡◌, ℕ, ◌∙◌, List, replicate, false, ap, arith}
use Rattle.std.specs.Prelude.{pos}
use Rattle.std.proofs.lemmas.List.{length-replicate}
use Rattle.vg_cursor.specs.declared.cursor.Cursor.{Cursor}
use Rattle.vg_cursor.specs.Cursor.{unset, IsWhole}

pub whole-unset : IsWhole unset
unfolding unset
whole-unset = (length-replicate {A = ℕ} 16384 0, omega arith, omega arith)

pub unset-with : (image : List ℕ) (size : ℕ) → size ≡ 16384 → image ≡ replicate size 0
    → ◌≡◌ {A = Cursor} (record { visible = false; image = image; x = pos 0; y = pos 0; hot_x = 0; hot_y = 0 }) unset
unfolding unset
unset-with image size whole zeros =
    let same : image ≡ replicate 16384 0 = zeros ∙ ap (λ n. replicate n 0) whole in
    ap (λ (bytes : List ℕ). let cursor : Cursor = record { visible = false; image = bytes; x = pos 0; y = pos 0; hot_x = 0; hot_y = 0 } in cursor) same
