-- What the code answers of a word, beside what is so.
use Rattle.std.specs.Prelude.{◌≡◌, ℕ, Bool, true, false, List, Result, Ok, Err}
use Rattle.std.specs.Bool.{⊤}
use Rattle.vg_script_words.specs.declared.kind.Kind.{Kind}
use Rattle.vg_script_words.specs.declared.kind.Kind.TheVariants.{Number}
use Rattle.vg_script_words.specs.declared.kind.Stop.{Stop}
use Rattle.vg_script_words.specs.declared.kind.Stop.TheVariants.{Memory, Fault}

-- A test was passed, or the answer is a fault of this kind.
abbrev pub Passes : {X : Type 0} → Bool → Kind → Result X Kind → Type 0
Passes test kind (Ok x) = test ≡ true
Passes test kind (Err k) = (k ≡ kind) × (test ≡ false)

-- A test was passed and the answer is this, or the answer is a fault of this kind.
abbrev pub Yields : {X : Type 0} → Bool → X → Kind → Result X Kind → Type 0
Yields test value kind (Ok x) = (test ≡ true) × (x ≡ value)
Yields test value kind (Err k) = (k ≡ kind) × (test ≡ false)

-- A word was HEX and these are its bytes, or the answer is a fault of a number, where memory may be wanting.
abbrev pub Decodes : Bool → List ℕ → Result (List ℕ) Stop → Type 0
Decodes test bytes (Ok read) = (test ≡ true) × (read ≡ bytes)
Decodes test bytes (Err Memory) = ⊤
Decodes test bytes (Err (Fault kind)) = (kind ≡ Number) × (test ≡ false)
