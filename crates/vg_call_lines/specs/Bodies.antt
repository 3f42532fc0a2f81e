-- What a client can begin: `info`, `send`, `flush` and `submit`, which are lines of their own too, with the same tests; and the timeline
-- that it is begun on.
use Rattle.std.specs.Prelude.{ℕ, ◌==◌, ◌&&◌, ◌||◌, not, Bool, true, false, List, [], ◌∷◌, length, Option, Some, None, option_map, Result, Ok, Err, if◌then◌else◌, codes, bytes_eq}
use Rattle.std.specs.List.{list_any, before_first, after_first}
use Rattle.vg_script_words.specs.declared.kind.Kind.{Kind}
use Rattle.vg_script_words.specs.declared.kind.Kind.TheVariants.{Word, Number, Limit, Name}
use Rattle.vg_formats.specs.declared.rect.Rect.{Rect}
use Rattle.vg_calls.specs.declared.call.Body.{Body}
use Rattle.vg_calls.specs.declared.call.Body.TheVariants.{Info, Send, Flush, Submit}
use Rattle.vg_calls.specs.declared.call.ContextRef.{ContextRef}
use Rattle.vg_call_lines.specs.declared.names.NameKind.TheVariants as kinds
use Rattle.vg_script_words.specs.Words.{is_number, value, is_within, is_no_name}
use Rattle.vg_call_lines.specs.Args.{no_args, two_args, five_args}
use Rattle.vg_call_lines.specs.Tables.{NameTable, is_kind, ref_to, context_ref_to}

-- Any `u32`.
abbrev pub is_any : List ℕ → Bool
is_any word = is_within 0 4294967295 word

-- X Y W H
abbrev pub are_numbers : (x y width height : List ℕ) → Bool
are_numbers x y width height = is_number x && is_number y && is_number width && is_number height

abbrev pub are_any : (x y width height : List ℕ) → Bool
are_any x y width height = is_any x && is_any y && is_any width && is_any height

abbrev pub rect_of : (x y width height : List ℕ) → Rect
rect_of x y width height = record { x = value x; y = value y; width = value width; height = value height }

-- A part of a line: its tests, as a row has them, and what it says.
pub record Part (X : Type 0) : Type 0 where
  pub numbers : Bool
  pub limits : Bool
  pub names : Bool
  pub says : X

-- What a part says, or the least kind of its faults.
abbrev pub judged_part : {X : Type 0} → Part X → Result X Kind
judged_part part =
    if not part.numbers then Err Number
    else if not part.limits then Err Limit
    else if not part.names then Err Name
    else Ok part.says

-- The same where there may be no such part, which is a fault of a word.
abbrev pub judged_body : {X : Type 0} → Option (Part X) → Result X Kind
judged_body None = Err Word
judged_body (Some part) = judged_part part

-- Two parts as one.
abbrev pub together : {X Y : Type 0} → Part X → Part Y → Part (X × Y)
together one other = record {
  numbers = one.numbers && other.numbers;
  limits = one.limits && other.limits;
  names = one.names && other.names;
  says = (one.says, other.says);
}

-- info
unfoldable pub info_body : Option (Part Body)
info_body = Some (record { numbers = true; limits = true; names = true; says = Info })

-- send A X Y W H
unfoldable pub send_body : NameTable → (name x y width height : List ℕ) → Option (Part Body)
send_body table name x y width height = Some (record {
  numbers = are_numbers x y width height;
  limits = are_any x y width height;
  names = is_kind kinds.Buffer (table.names name);
  says = Send (ref_to table name) (rect_of x y width height);
})

-- flush A X Y W H
unfoldable pub flush_body : NameTable → (name x y width height : List ℕ) → Option (Part Body)
flush_body table name x y width height = Some (record {
  numbers = are_numbers x y width height;
  limits = are_any x y width height;
  names = is_kind kinds.Buffer (table.names name);
  says = Flush (ref_to table name) (rect_of x y width height);
})

-- A timeline of a context K, ring index R.
abbrev pub timeline_part : NameTable → (context ring : List ℕ) → Part (ContextRef × ℕ)
timeline_part table context ring = record {
  numbers = is_number ring;
  limits = is_within 0 63 ring;
  names = is_kind kinds.Context (table.names context);
  says = (context_ref_to table context, value ring);
}

-- What is submitted on a timeline, where this holds too.
abbrev pub submitted_if : Bool → Part (ContextRef × ℕ) → Part Body
submitted_if also part = record {
  numbers = part.numbers;
  limits = also && part.limits;
  names = part.names;
  says = Submit part.says.0 part.says.1;
}

-- submit K R
unfoldable pub submit_body : NameTable → (context ring : List ℕ) → Option (Part Body)
submit_body table context ring = Some (submitted_if true (timeline_part table context ring))

-- T of `begin` is `-`, or K and R with a colon (the byte 58) between them, the first one.
abbrev pub is_timeline : List ℕ → Bool
is_timeline word = is_no_name word || list_any (λ b. b == 58) word

abbrev pub timeline_words : List ℕ → Option (List ℕ × List ℕ)
timeline_words word = if is_no_name word then None else Some (before_first (λ b. b == 58) word, after_first (λ b. b == 58) word)

-- The timeline of such words, or none.
abbrev pub on_timeline : NameTable → Option (List ℕ × List ℕ) → Part (Option (ContextRef × ℕ))
on_timeline table None = record { numbers = true; limits = true; names = true; says = None }
on_timeline table (Some words) =
    let part = timeline_part table words.0 words.1 in
    record { numbers = part.numbers; limits = part.limits; names = part.names; says = Some part.says }

-- K and R are those of a timeline.
abbrev pub is_on : Option (List ℕ × List ℕ) → (context ring : List ℕ) → Bool
is_on None context ring = false
is_on (Some words) context ring = bytes_eq words.0 context && bytes_eq words.1 ring

-- submit K R, on a timeline, which has to be that of K and R.
unfoldable pub submit_body_on : NameTable → Option (List ℕ × List ℕ) → (context ring : List ℕ) → Option (Part Body)
submit_body_on table on context ring = Some (submitted_if (is_on on context ring) (timeline_part table context ring))

-- What is begun on a timeline, by its word and the arguments behind it.
unfoldable pub body_of : NameTable → Option (List ℕ × List ℕ) → List ℕ → List (List ℕ) → Option (Part Body)
body_of table on word args =
    if bytes_eq word (codes "info") then no_args info_body args
    else if bytes_eq word (codes "send") then five_args (send_body table) args
    else if bytes_eq word (codes "flush") then five_args (flush_body table) args
    else if bytes_eq word (codes "submit") then two_args (submit_body_on table on) args
    else None

-- There is such a word, and so many arguments stand behind it.
abbrev pub is_body : List ℕ → ℕ → Bool
is_body word count =
    if bytes_eq word (codes "info") then count == 0
    else if bytes_eq word (codes "send") then count == 5
    else if bytes_eq word (codes "flush") then count == 5
    else if bytes_eq word (codes "submit") then count == 2
    else false

-- The label that a line `begin L T BODY` defines, by the arguments behind its first word, where they are of this form.
abbrev pub begun_label : List (List ℕ) → Option (List ℕ)
begun_label [] = None
begun_label (label ∷ []) = None
begun_label (label ∷ on ∷ []) = None
begun_label (label ∷ on ∷ word ∷ args) = if is_timeline on && is_body word (length args) then Some label else None

-- The timeline and the body of a line `begin L T BODY`, by what stands behind L.
unfoldable pub begun_parts : NameTable → (on word : List ℕ) → List (List ℕ) → Option (Part (Option (ContextRef × ℕ) × Body))
begun_parts table on word args =
    if is_timeline on then option_map (together (on_timeline table (timeline_words on))) (body_of table (timeline_words on) word args)
    else None
