-- The pixel formats of VIRTIO 1.2, 5.7.6.8 (enum virtio_gpu_formats).
use Rattle.std.specs.Prelude.{ℕ, ◌==◌, Option, List, [], ◌∷◌, find, slice_index}
use Rattle.vg_formats.specs.declared.format.Format.{Format}
use Rattle.vg_formats.specs.declared.format.Format.TheVariants.{B8G8R8A8, B8G8R8X8, A8R8G8B8, X8R8G8B8, R8G8B8A8, X8B8G8R8, A8B8G8R8, R8G8B8X8}

abbrev pub code_of : Format → ℕ
code_of B8G8R8A8 = 1
code_of B8G8R8X8 = 2
code_of A8R8G8B8 = 3
code_of X8R8G8B8 = 4
code_of R8G8B8A8 = 67
code_of X8B8G8R8 = 68
code_of A8B8G8R8 = 121
code_of R8G8B8X8 = 134

abbrev pub formats : List Format
formats = B8G8R8A8 ∷ B8G8R8X8 ∷ A8R8G8B8 ∷ X8R8G8B8 ∷ R8G8B8A8 ∷ X8B8G8R8 ∷ A8B8G8R8 ∷ R8G8B8X8 ∷ []

-- The format of a code.
abbrev pub format_of : ℕ → Option Format
format_of code = find (λ format. code == code_of format) formats

-- The bytes B, G, R and A of a pixel, from its four bytes in memory, which stand in the order of the
-- format's name. A format with X in place of A has none: its pixels are opaque, with A 255.
abbrev pub shown_bytes : Format → List ℕ → List ℕ
shown_bytes B8G8R8A8 m = slice_index m 0 ∷ slice_index m 1 ∷ slice_index m 2 ∷ slice_index m 3 ∷ []
shown_bytes B8G8R8X8 m = slice_index m 0 ∷ slice_index m 1 ∷ slice_index m 2 ∷ 255 ∷ []
shown_bytes A8R8G8B8 m = slice_index m 3 ∷ slice_index m 2 ∷ slice_index m 1 ∷ slice_index m 0 ∷ []
shown_bytes X8R8G8B8 m = slice_index m 3 ∷ slice_index m 2 ∷ slice_index m 1 ∷ 255 ∷ []
shown_bytes R8G8B8A8 m = slice_index m 2 ∷ slice_index m 1 ∷ slice_index m 0 ∷ slice_index m 3 ∷ []
shown_bytes X8B8G8R8 m = slice_index m 1 ∷ slice_index m 2 ∷ slice_index m 3 ∷ 255 ∷ []
shown_bytes A8B8G8R8 m = slice_index m 1 ∷ slice_index m 2 ∷ slice_index m 3 ∷ slice_index m 0 ∷ []
shown_bytes R8G8B8X8 m = slice_index m 2 ∷ slice_index m 1 ∷ slice_index m 0 ∷ 255 ∷ []
