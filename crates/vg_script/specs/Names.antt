-- Which names are defined, and their numbers, in other words than line by line.
use Rattle.std.specs.Prelude.{◌≡◌, ℕ, ◌+◌, ◌||◌, Bool, false, List, [], ◌∷◌, ◌++◌, All, Option, Some, None, if◌then◌else◌, codes, bytes_eq}
use Rattle.vg_script_words.specs.Words.{words_of}
use Rattle.vg_call_lines.specs.declared.names.NameKind.{NameKind}
use Rattle.vg_call_lines.specs.declared.names.NameKind.TheVariants as kinds
use Rattle.vg_call_lines.specs.declared.names.Named.{Named}
use Rattle.vg_call_lines.specs.Tables.{are_same}

-- The words begin a client.
abbrev pub begin_client : List (List ℕ) → Bool
begin_client [] = false
begin_client (first ∷ more) = bytes_eq first (codes "client")

-- The name that words define, and of what it is the name: they are `buffer` or `blob` and the name, `import`, a label and the name, or
-- `context` and the name.
abbrev pub defined_by : List (List ℕ) → Option (NameKind × List ℕ)
defined_by (first ∷ second ∷ []) = if bytes_eq first (codes "context") then Some (kinds.Context, second) else None
defined_by (first ∷ second ∷ third ∷ more) =
    if bytes_eq first (codes "buffer") || bytes_eq first (codes "blob") then Some (kinds.Buffer, second)
    else if bytes_eq first (codes "import") then Some (kinds.Buffer, third)
    else None
defined_by words = None

-- The name that words end: they are `close` or `endcontext`, and the name.
abbrev pub ended_by : List (List ℕ) → Option (List ℕ)
ended_by (first ∷ second ∷ more) = if bytes_eq first (codes "close") || bytes_eq first (codes "endcontext") then Some second else None
ended_by words = None

abbrev pub is_this : List ℕ → Option (List ℕ) → Bool
is_this name (Some other) = bytes_eq other name
is_this name None = false

-- The words end this name: they begin a client, or end it by itself.
abbrev pub end_name : List ℕ → List (List ℕ) → Bool
end_name name words = begin_client words || is_this name (ended_by words)

-- A name of this kind was defined.
abbrev pub is_of : NameKind → Option (NameKind × List ℕ) → Bool
is_of kind (Some defined) = are_same defined.0 kind
is_of kind None = false

-- How many names of a kind the last client's lines define, where those before had defined so many.
abbrev pub counted : NameKind → List (List ℕ) → ℕ → ℕ
counted kind words count = if begin_client words then 0 else if is_of kind (defined_by words) then count + 1 else count

abbrev pub names_in : NameKind → ℕ → List (List ℕ) → ℕ
names_in kind count [] = count
names_in kind count (line ∷ more) = names_in kind (counted kind (words_of line) count) more

-- Some line defines this name as one of this kind, no line behind it ends the name, and its client's lines have defined so many names
-- of the kind with it.
pub record IsDefinedBy (lines : List (List ℕ)) (name : List ℕ) (named : Named) : Type 0 where
  pub front : List (List ℕ)
  pub defining : List ℕ
  pub behind : List (List ℕ)
  pub parts : lines ≡ front ++ defining ∷ behind
  pub defines : defined_by (words_of defining) ≡ Some (named.kind, name)
  pub kept : All (λ line. end_name name (words_of line) ≡ false) behind
  pub place : named.number ≡ names_in named.kind 0 front + 1
