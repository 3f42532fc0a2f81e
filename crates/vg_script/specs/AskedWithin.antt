-- What a line asks for, as its words say it.
use Rattle.std.specs.Prelude.{ℕ, ◌*◌, ◌&&◌, List, [], ◌∷◌, if◌then◌else◌, bytes_eq, codes}
use Rattle.vg_script_words.specs.Words.{is_number, value, is_within}
use Rattle.vg_script.specs.Asked.{pages_of}
use Rattle.vg_limits.specs.Limits.{version_2}

-- The pages of a buffer of this width and height, where they are numbers within their limits.
unfoldable pub buffer_asks : (width height : List ℕ) → ℕ
buffer_asks width height =
    if is_number width && is_number height && (is_within 1 version_2.width width && is_within 1 version_2.height height)
    then pages_of (4 * value width * value height)
    else 0

-- Those of a blob of this size, where it is a number within its limits.
unfoldable pub blob_asks : (size : List ℕ) → ℕ
blob_asks size = if is_number size && is_within 1 version_2.bytes size then pages_of (value size) else 0

-- buffer A W H F
abbrev pub buffer_args_ask : List (List ℕ) → ℕ
buffer_args_ask (name ∷ width ∷ height ∷ format ∷ []) = buffer_asks width height
buffer_args_ask args = 0

-- blob A SIZE
abbrev pub blob_args_ask : List (List ℕ) → ℕ
blob_args_ask (name ∷ size ∷ []) = blob_asks size
blob_args_ask args = 0

abbrev pub words_ask : List ℕ → List (List ℕ) → ℕ
words_ask word args = if bytes_eq word (codes "buffer") then buffer_args_ask args else if bytes_eq word (codes "blob") then blob_args_ask args else 0
