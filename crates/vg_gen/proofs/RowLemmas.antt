-- What each line of a workload says, by its row.
use Rattle.std.proofs.Common.{◌≡◌, ℕ, ◌+◌, true, nat_lt, List, [], ◌∷◌, ◌++◌, codes, Some, None, Ok, refl, ap, ◌∙◌}
use Rattle.std.specs.Prelude.{is_none}
use Rattle.vg_script_words.specs.Words.{is_number, is_within, is_name}
use Rattle.vg_calls.specs.declared.call.Call.{Call}
use Rattle.vg_call_lines.specs.declared.names.NameKind.TheVariants as kinds
use Rattle.vg_call_lines.specs.declared.names.LabelKind.TheVariants as labels
use Rattle.vg_call_lines.specs.Tables.{NameTable, with_name, with_context, with_label, is_kind, is_label, is_next, label_number}
use Rattle.vg_call_lines.specs.Rows.{Row, judged_row, row_of, row_of_buffers, row_of_scanouts, row_of_others, row_of_contexts, row_of_shared, row_of_begun, buffer_row, store_row, load_row, send_row, take_row, flip_row, cursor_row, move_row, context_row, export_row, import_row, begin_row, await_row, are_times, is_scanout}
use Rattle.vg_call_lines.specs.Bodies.{begun_parts, body_of, send_body, info_body}
use Rattle.vg_script.specs.Waits.{gives, waits}
use Rattle.vg_gen.specs.Generated.{Words}
use Rattle.vg_gen.proofs.StepLemmas.{Mark}
use Rattle.vg_gen.proofs.WordLemmas.{IsSaid, IsPixel}

-- A line is read: it gives and waits for these labels, and these names are defined behind it.
pub record Reads (displays : ℕ) (table : NameTable) (word : List ℕ) (args : Words) (mark : Mark) (after : NameTable) : Type 0 where
  pub call : Call
  pub judged : judged_row (row_of word displays table args) ≡ Ok (call, after)
  pub marked : (gives call, waits call) ≡ mark

abbrev pub silent : Mark
silent = (None, None)

-- What a row says that has no fault.
by_row : (displays : ℕ) (table : NameTable) (word : List ℕ) (args : Words) (row : Row) (mark : Mark)
    → row_of word displays table args ≡ Some row → row.numbers ≡ true → row.limits ≡ true → row.names ≡ true → (gives row.call, waits row.call) ≡ mark
    → Reads displays table word args mark row.after
by_row displays table word args row mark is numbers limits names marked =
    record { call = row.call; judged = ap judged_row is ∙ rw (numbers, limits, names) refl; marked = marked }

pub buffer : (displays : ℕ) (table : NameTable) (name height : List ℕ) → is_name name ≡ true → is_none (table.names name) ≡ true → is_number height ≡ true → is_within 1 1080 height ≡ true
    → Reads displays table (codes "buffer") (name ∷ codes "64" ∷ height ∷ codes "1" ∷ []) silent (with_name name table)
unfolding row_of row_of_buffers buffer_row
buffer displays table name height named free number within = by_row _ _ _ _ _ _ refl (rw number refl) (rw within refl) (rw (named, free) refl) refl

pub take : (displays : ℕ) (table : NameTable) (scanout : List ℕ) → is_number scanout ≡ true → is_scanout displays scanout ≡ true
    → Reads displays table (codes "take") (scanout ∷ []) silent table
unfolding row_of row_of_buffers row_of_scanouts take_row
take displays table scanout number is = by_row _ _ _ _ _ _ refl number is refl refl

pub context : (displays : ℕ) (table : NameTable) → is_none (table.names (codes "K")) ≡ true → nat_lt table.contexts 255 ≡ true
    → Reads displays table (codes "context") (codes "K" ∷ []) silent (with_context (codes "K") table)
unfolding row_of row_of_buffers row_of_scanouts row_of_others row_of_contexts context_row
context displays table free few = by_row _ _ _ _ _ _ refl refl few (rw free refl) refl

pub export : (displays : ℕ) (table : NameTable) (label : List ℕ) → is_kind kinds.Buffer (table.names (codes "A")) ≡ true → is_name label ≡ true → is_next table label ≡ true
    → Reads displays table (codes "export") (codes "A" ∷ label ∷ []) (Some (table.given + 1), None) (with_label table)
unfolding row_of row_of_buffers row_of_scanouts row_of_others row_of_contexts row_of_shared export_row
export displays table label known named next = by_row _ _ _ _ _ _ refl refl refl (rw (known, named, next) refl) refl

pub begin_send : (displays : ℕ) (table : NameTable) (label ring : List ℕ) → is_kind kinds.Buffer (table.names (codes "A")) ≡ true → is_kind kinds.Context (table.names (codes "K")) ≡ true
    → is_name label ≡ true → is_next table label ≡ true → is_number ring ≡ true → is_within 0 63 ring ≡ true
    → Reads displays table (codes "begin") (label ∷ (codes "K:" ++ ring) ∷ codes "send" ∷ codes "A" ∷ codes "0" ∷ codes "0" ∷ codes "64" ∷ codes "48" ∷ []) (Some (table.given + 1), None) (with_label table)
unfolding row_of row_of_buffers row_of_scanouts row_of_others row_of_contexts row_of_shared row_of_begun begin_row begun_parts body_of send_body
begin_send displays table label ring known context named next number within = by_row _ _ _ _ _ _ refl (rw number refl) (rw within refl) (rw (known, context, named, next) refl) refl

pub begin_info : (displays : ℕ) (table : NameTable) (label : List ℕ) → is_name label ≡ true → is_next table label ≡ true
    → Reads displays table (codes "begin") (label ∷ codes "-" ∷ codes "info" ∷ []) (Some (table.given + 1), None) (with_label table)
unfolding row_of row_of_buffers row_of_scanouts row_of_others row_of_contexts row_of_shared row_of_begun begin_row begun_parts body_of info_body
begin_info displays table label named next = by_row _ _ _ _ _ _ refl refl refl (rw (named, next) refl) refl

pub import : (displays : ℕ) (table : NameTable) (label : List ℕ) → is_name label ≡ true → is_label labels.Token (table.labels label) ≡ true → is_none (table.names (codes "P")) ≡ true
    → Reads displays table (codes "import") (label ∷ codes "P" ∷ []) (None, Some (label_number (table.labels label))) (with_name (codes "P") table)
unfolding row_of row_of_buffers row_of_scanouts row_of_others row_of_contexts row_of_shared import_row
import displays table label named known free = by_row _ _ _ _ _ _ refl refl refl (rw (named, known, free) refl) refl

pub await : (displays : ℕ) (table : NameTable) (label : List ℕ) → is_name label ≡ true → is_label labels.Fence (table.labels label) ≡ true
    → Reads displays table (codes "await") (label ∷ []) (None, Some (label_number (table.labels label))) table
unfolding row_of row_of_buffers row_of_scanouts row_of_others row_of_contexts row_of_shared row_of_begun await_row
await displays table label named known = by_row _ _ _ _ _ _ refl refl refl (rw (named, known) refl) refl

pub load : (displays : ℕ) (table : NameTable) → is_kind kinds.Buffer (table.names (codes "P")) ≡ true
    → Reads displays table (codes "load") (codes "P" ∷ codes "0" ∷ codes "4" ∷ []) silent table
unfolding row_of row_of_buffers load_row
load displays table known = by_row _ _ _ _ _ _ refl refl refl known refl

pub store : (displays : ℕ) (table : NameTable) (name hex times : List ℕ) → is_kind kinds.Buffer (table.names name) ≡ true → IsPixel hex → is_number times ≡ true → are_times 4 times ≡ true
    → Reads displays table (codes "store") (name ∷ codes "0" ∷ hex ∷ times ∷ []) silent table
unfolding row_of row_of_buffers store_row
store displays table name hex times known pixel number within =
    by_row _ _ _ _ _ _ refl (rw (pixel.hex, number) refl) (rw pixel.size within) known refl

pub send : (displays : ℕ) (table : NameTable) → is_kind kinds.Buffer (table.names (codes "C")) ≡ true
    → Reads displays table (codes "send") (codes "C" ∷ codes "0" ∷ codes "0" ∷ codes "64" ∷ codes "64" ∷ []) silent table
unfolding row_of row_of_buffers send_row send_body
send displays table known = by_row _ _ _ _ _ _ refl refl refl known refl

pub flip : (displays : ℕ) (table : NameTable) (scanout name : List ℕ) → is_number scanout ≡ true → is_scanout displays scanout ≡ true → is_kind kinds.Buffer (table.names name) ≡ true
    → Reads displays table (codes "flip") (scanout ∷ name ∷ []) silent table
unfolding row_of row_of_buffers row_of_scanouts flip_row
flip displays table scanout name number is known = by_row _ _ _ _ _ _ refl number is known refl

pub cursor : (displays : ℕ) (table : NameTable) (scanout : List ℕ) → is_number scanout ≡ true → is_scanout displays scanout ≡ true → is_kind kinds.Buffer (table.names (codes "C")) ≡ true
    → Reads displays table (codes "cursor") (scanout ∷ codes "C" ∷ codes "1" ∷ codes "1" ∷ codes "0" ∷ codes "0" ∷ []) silent table
unfolding row_of row_of_buffers row_of_scanouts row_of_others cursor_row
cursor displays table scanout number is known = by_row _ _ _ _ _ _ refl (rw number refl) (rw is refl) (rw known refl) refl

pub move : (displays : ℕ) (table : NameTable) (scanout x y : List ℕ) (i j : ℕ) → is_number scanout ≡ true → is_scanout displays scanout ≡ true → IsSaid x i → IsSaid y j
    → Reads displays table (codes "move") (scanout ∷ x ∷ y ∷ []) silent table
unfolding row_of row_of_buffers row_of_scanouts row_of_others move_row
move displays table scanout x y i j number is a b = by_row _ _ _ _ _ _ refl (rw (number, a.signed, b.signed) refl) (rw (is, a.position, b.position) refl) refl refl
