use Rattle.std.proofs.Common.{◌≡◌, ℕ, ℤ, pos, negsuc, ◌+◌, ◌*◌, ◌<◌, ◌^◌, List, ◌++◌, length, take, drop, Bool, true, Option, Some, option_map, if◌then◌else◌, FitsSigned, w32, refl, ap, ◌∙◌, arith, append_assoc, length-append}
use Rattle.std.specs.Int.{cast_signed, cast_unsigned}
use Rattle.std.proofs.lemmas.Int.{to_z-of_z}
use Rattle.std.proofs.lemmas.List.{take_all}
use Rattle.vg_formats.specs.declared.rect.Rect.{Rect}
use Rattle.vg_formats.specs.declared.entry.MemEntry.{MemEntry}
use Rattle.vg_wire.specs.declared.two_d.Command2d.{Command2d}
use Rattle.vg_wire.specs.declared.two_d.Command2d.TheVariants as two_d
use Rattle.vg_numbers.specs.Numbers.{number, number_at, le}
use Rattle.vg_wire.specs.Rect.{rect_bytes}
use Rattle.vg_wire.specs.Entries.{entries_at, entries_bytes}
use Rattle.vg_wire.specs.TwoD.{body_of_2d, kind_of_2d, two_d_of, is_2d}
use Rattle.vg_numbers.proofs.NumberLemmas.{length-le, number-le}
use Rattle.vg_wire.proofs.EntryLemmas.{entries_at-entries_bytes, length-entries_bytes}
use Rattle.vg_wire.proofs.TwoDLemmas.{rect_at-rect_bytes, whole_of, length-two, length-four, length-rect_bytes, length-body_of_2d, size_of_2d, two_d_of-body_of_2d}
use Rattle.vg_wire_ext.specs.declared.command.Command.{Command}
use Rattle.vg_wire_ext.specs.declared.command.Command.TheVariants.{TwoD, CapsetInfo, Capset, Edid, AssignUuid, CreateBlob, SetScanoutBlob, CtxCreate, CtxDestroy, CtxAttach, CtxDetach, Submit, UpdateCursor, MoveCursor}
use Rattle.vg_wire_ext.specs.Fields.{signed_at, signed_bytes, position, planes}
use Rattle.vg_wire_ext.specs.Commands.{FitsEntries, IsCommand, command_body, command_kind, command_of, row_of, capset_info, capset, edid, assign_uuid, create_blob, create_blob_size, set_scanout_blob, ctx_create, ctx_destroy, ctx_attach, ctx_detach, submit, submit_size, update_cursor, move_cursor}

-- the kind of each 2D command is a 2D command's
pub is-2d : (command : Command2d) → is_2d (kind_of_2d command) ≡ true
is-2d two_d.DisplayInfo = refl
is-2d (two_d.Create2d resource format width height) = refl
is-2d (two_d.Unref resource) = refl
is-2d (two_d.SetScanout rect scanout resource) = refl
is-2d (two_d.Flush rect resource) = refl
is-2d (two_d.Transfer rect offset resource) = refl
is-2d (two_d.Attach resource entries) = refl
is-2d (two_d.Detach resource) = refl

-- what was found as a 2D command
found-2d : (test : Bool) (found : Option Command2d) (other : Option Command) (command : Command2d) → test ≡ true → found ≡ Some command
    → ◌≡◌ {A = Option Command} (if test then option_map TwoD found else other) (Some (TwoD command))
found-2d test found other command is same = rw (is, same) refl

-- a signed number's bytes
fits-unsigned : (x : ℤ) → FitsSigned w32 x → cast_unsigned w32 x < 2 ^ 32
fits-unsigned (pos n) fits =
    let small : n < 2 ^ 31 = fits.sfits in
    omega arith
fits-unsigned (negsuc n) fits = omega arith

number-signed : (x : ℤ) → FitsSigned w32 x → cast_signed w32 (number (signed_bytes x)) ≡ x
unfolding signed_bytes
number-signed x fits = ap (cast_signed w32) (number-le 4 (cast_unsigned w32 x) (fits-unsigned x fits)) ∙ to_z-of_z w32 x fits

same_capset : {a a' b b' : ℕ} → a ≡ a' → b ≡ b' → Capset a b ≡ Capset a' b'
same_capset a b = rw (a, b) refl

same_blob : {a a' b b' c c' d d' e e' : ℕ} {es es' : List MemEntry} → a ≡ a' → b ≡ b' → c ≡ c' → d ≡ d' → e ≡ e' → es ≡ es' → CreateBlob a b c d e es ≡ CreateBlob a' b' c' d' e' es'
same_blob a b c d e es = rw (a, b, c, d, e, es) refl

same_scanout : {rect rect' : Rect} {a a' b b' c c' d d' e e' f f' g g' : ℕ} → rect ≡ rect' → a ≡ a' → b ≡ b' → c ≡ c' → d ≡ d' → e ≡ e' → f ≡ f' → g ≡ g'
    → SetScanoutBlob rect a b c d e f g ≡ SetScanoutBlob rect' a' b' c' d' e' f' g'
same_scanout rect a b c d e f g = rw (rect, a, b, c, d, e, f, g) refl

same_context : {a a' b b' : ℕ} {name name' : List ℕ} → a ≡ a' → b ≡ b' → name ≡ name' → CtxCreate a b name ≡ CtxCreate a' b' name'
same_context a b name = rw (a, b, name) refl

same_update : {a a' r r' h h' k k' : ℕ} {x x' y y' : ℤ} → a ≡ a' → x ≡ x' → y ≡ y' → r ≡ r' → h ≡ h' → k ≡ k' → UpdateCursor a x y r h k ≡ UpdateCursor a' x' y' r' h' k'
same_update a x y r h k = rw (a, x, y, r, h, k) refl

same_move : {a a' : ℕ} {x x' y y' : ℤ} → a ≡ a' → x ≡ x' → y ≡ y' → MoveCursor a x y ≡ MoveCursor a' x' y'
same_move a x y = rw (a, x, y) refl

read-capset_info : (n : ℕ) → n < 2 ^ 32 → capset_info (command_body (CapsetInfo n)) ≡ CapsetInfo n
unfolding capset_info number_at le
read-capset_info n fits = ap CapsetInfo (number-le 4 n fits)

read-capset : (id version : ℕ) → IsCommand (Capset id version) → capset (command_body (Capset id version)) ≡ Capset id version
unfolding capset number_at le
read-capset id version fits = same_capset (number-le 4 id fits.0) (number-le 4 version fits.1)

read-edid : (n : ℕ) → n < 2 ^ 32 → edid (command_body (Edid n)) ≡ Edid n
unfolding edid number_at le
read-edid n fits = ap Edid (number-le 4 n fits)

read-assign_uuid : (n : ℕ) → n < 2 ^ 32 → assign_uuid (command_body (AssignUuid n)) ≡ AssignUuid n
unfolding assign_uuid number_at le
read-assign_uuid n fits = ap AssignUuid (number-le 4 n fits)

read-ctx_attach : (n : ℕ) → n < 2 ^ 32 → ctx_attach (command_body (CtxAttach n)) ≡ CtxAttach n
unfolding ctx_attach number_at le
read-ctx_attach n fits = ap CtxAttach (number-le 4 n fits)

read-ctx_detach : (n : ℕ) → n < 2 ^ 32 → ctx_detach (command_body (CtxDetach n)) ≡ CtxDetach n
unfolding ctx_detach number_at le
read-ctx_detach n fits = ap CtxDetach (number-le 4 n fits)

-- the number in front of a stream
submit-size : (n : ℕ) (rest : List ℕ) → n < 2 ^ 32 → number_at 4 0 (le 4 n ++ le 4 0 ++ rest) ≡ n
unfolding number_at le
submit-size n rest fits = number-le 4 n fits

submit-behind : (n : ℕ) (stream : List ℕ) → drop 8 (le 4 n ++ le 4 0 ++ stream) ≡ stream
unfolding le
submit-behind n stream = refl

read-submit : (stream : List ℕ) → length stream < 2 ^ 32 → submit (command_body (Submit stream)) ≡ Submit stream
unfolding submit
read-submit stream fits =
    ap Submit (ap (λ (n : ℕ). take n (drop 8 (command_body (Submit stream)))) (submit-size (length stream) stream fits)
    ∙ ap (take (length stream)) (submit-behind (length stream) stream) ∙ take_all (length stream) stream (omega arith))

-- the six numbers in front of a blob's entries, however many bytes follow
record BlobFields (r m f n i s : ℕ) (bytes : List ℕ) : Type 0 where
  resource : number_at 4 0 bytes ≡ r
  mem : number_at 4 4 bytes ≡ m
  flags : number_at 4 8 bytes ≡ f
  count : number_at 4 12 bytes ≡ n
  blob_id : number_at 8 16 bytes ≡ i
  size : number_at 8 24 bytes ≡ s

blob-fields : (r m f n i s : ℕ) (rest : List ℕ) → r < 2 ^ 32 → m < 2 ^ 32 → f < 2 ^ 32 → n < 2 ^ 32 → i < 2 ^ 64 → s < 2 ^ 64
    → BlobFields r m f n i s (le 4 r ++ le 4 m ++ le 4 f ++ le 4 n ++ le 8 i ++ le 8 s ++ rest)
unfolding number_at le
blob-fields r m f n i s rest a b c d e g = record {
  resource = number-le 4 r a;
  mem = number-le 4 m b;
  flags = number-le 4 f c;
  count = number-le 4 n d;
  blob_id = number-le 8 i e;
  size = number-le 8 s g;
}

read-create_blob : (r m f i s : ℕ) (es : List MemEntry) → length es < 2 ^ 32 → IsCommand (CreateBlob r m f i s es) → create_blob (command_body (CreateBlob r m f i s es)) ≡ CreateBlob r m f i s es
unfolding create_blob le
read-create_blob r m f i s es count fits =
    let fields = blob-fields r m f (length es) i s (entries_bytes es) fits.0 fits.1 fits.2 count fits.3 fits.4 in
    let front : List ℕ = ((((le 4 r ++ le 4 m) ++ le 4 f) ++ le 4 (length es)) ++ le 8 i) ++ le 8 s in
    let long : length front ≡ 32 = simp length-append (omega (arith, length-le 4 r, length-le 4 m, length-le 4 f, length-le 4 (length es), length-le 8 i, length-le 8 s)) in
    let listed = simp append_assoc at (entries_at-entries_bytes es front 32 long fits.5) in
    same_blob fields.resource fields.mem fields.flags fields.blob_id fields.size
    (ap (λ (n : ℕ). entries_at 32 n (command_body (CreateBlob r m f i s es))) fields.count ∙ listed)

read-set_scanout_blob : (rect : Rect) (a b c d e f g : ℕ) → IsCommand (SetScanoutBlob rect a b c d e f g) → set_scanout_blob (command_body (SetScanoutBlob rect a b c d e f g)) ≡ SetScanoutBlob rect a b c d e f g
unfolding set_scanout_blob planes number_at le rect_bytes
read-set_scanout_blob rect a b c d e f g fits =
    same_scanout (rect_at-rect_bytes rect (le 4 a ++ le 4 b ++ le 4 c ++ le 4 d ++ le 4 e ++ le 4 0 ++ planes f ++ planes g) fits.0)
    (number-le 4 a fits.1) (number-le 4 b fits.2) (number-le 4 c fits.3) (number-le 4 d fits.4) (number-le 4 e fits.5) (number-le 4 f fits.6) (number-le 4 g fits.7)

read-ctx_create : (n c : ℕ) (name : List ℕ) → IsCommand (CtxCreate n c name) → ctx_create (command_body (CtxCreate n c name)) ≡ CtxCreate n c name
unfolding ctx_create number_at le
read-ctx_create n c name fits = same_context (number-le 4 n fits.0) (number-le 4 c fits.1) (take_all 64 name (omega (arith, fits.2)))

read-update_cursor : (s : ℕ) (x y : ℤ) (r h k : ℕ) → IsCommand (UpdateCursor s x y r h k) → update_cursor (command_body (UpdateCursor s x y r h k)) ≡ UpdateCursor s x y r h k
unfolding update_cursor position signed_at signed_bytes number_at le
read-update_cursor s x y r h k fits =
    same_update (number-le 4 s fits.0) (number-signed x fits.1) (number-signed y fits.2) (number-le 4 r fits.3) (number-le 4 h fits.4) (number-le 4 k fits.5)

read-move_cursor : (s : ℕ) (x y : ℤ) → IsCommand (MoveCursor s x y) → move_cursor (command_body (MoveCursor s x y)) ≡ MoveCursor s x y
unfolding move_cursor position signed_at signed_bytes number_at le
read-move_cursor s x y fits = same_move (number-le 4 s fits.0) (number-signed x fits.1) (number-signed y fits.2)

-- how many bytes are written of a command's fields
abbrev pub size_of_command : Command → ℕ
size_of_command (TwoD command) = size_of_2d command
size_of_command (CapsetInfo index) = 8
size_of_command (Capset id version) = 8
size_of_command (Edid scanout) = 8
size_of_command (AssignUuid resource) = 8
size_of_command (CreateBlob resource mem flags blob_id size entries) = 32 + 16 * length entries
size_of_command (SetScanoutBlob rect scanout resource width height format stride offset) = 72
size_of_command (CtxCreate nlen context_init name) = 72
size_of_command CtxDestroy = 0
size_of_command (CtxAttach resource) = 8
size_of_command (CtxDetach resource) = 8
size_of_command (Submit stream) = 8 + length stream
size_of_command (UpdateCursor scanout x y resource hot_x hot_y) = 32
size_of_command (MoveCursor scanout x y) = 32

pub length-planes : (n : ℕ) → length (planes n) ≡ 16
unfolding planes
length-planes n = length-four n 0 0 0

pub length-signed_bytes : (x : ℤ) → length (signed_bytes x) ≡ 4
unfolding signed_bytes
length-signed_bytes x = length-le 4 (cast_unsigned w32 x)

pub length-position : (s : ℕ) (x y : ℤ) → length (position s x y) ≡ 16
unfolding position
length-position s x y = simp length-append (omega (arith, length-le 4 s, length-signed_bytes x, length-signed_bytes y, length-le 4 0))

pub length-command_body : (command : Command) → IsCommand command → length (command_body command) ≡ size_of_command command
length-command_body (TwoD command) good = length-body_of_2d command
length-command_body (CapsetInfo index) good = length-two index 0
length-command_body (Capset id version) good = length-two id version
length-command_body (Edid scanout) good = length-two scanout 0
length-command_body (AssignUuid resource) good = length-two resource 0
length-command_body (CreateBlob r m f i s es) good =
    simp length-append (omega (arith, length-le 4 r, length-le 4 m, length-le 4 f, length-le 4 (length es), length-le 8 i, length-le 8 s, length-entries_bytes es))
length-command_body (SetScanoutBlob rect a b c d e f g) good =
    simp length-append (omega (arith, length-rect_bytes rect, length-le 4 a, length-le 4 b, length-le 4 c, length-le 4 d, length-le 4 e, length-le 4 0, length-planes f, length-planes g))
length-command_body (CtxCreate n c name) good = simp length-append (omega (arith, length-le 4 n, length-le 4 c, good.2))
length-command_body CtxDestroy good = refl
length-command_body (CtxAttach resource) good = length-two resource 0
length-command_body (CtxDetach resource) good = length-two resource 0
length-command_body (Submit stream) good = simp length-append (omega (arith, length-le 4 (length stream), length-le 4 0))
length-command_body (UpdateCursor s x y r h k) good =
    simp length-append (omega (arith, length-position s x y, length-le 4 r, length-le 4 h, length-le 4 k, length-le 4 0))
length-command_body (MoveCursor s x y) good = simp length-append (omega (arith, length-position s x y, length-le 4 0))

-- what is written of a command's fields is read as itself
pub command_of-command_body : (command : Command) → FitsEntries command → IsCommand command → command_of (command_kind command) (command_body command) ≡ Some command
unfolding row_of create_blob_size submit_size ctx_destroy
command_of-command_body (TwoD command) count fits =
    found-2d (is_2d (kind_of_2d command)) (two_d_of (kind_of_2d command) (body_of_2d command)) _ command (is-2d command) (two_d_of-body_of_2d command count fits)
command_of-command_body (CapsetInfo n) count fits =
    whole_of 8 (command_body (CapsetInfo n)) (capset_info (command_body (CapsetInfo n))) (CapsetInfo n) (omega (arith, length-two n 0)) (read-capset_info n fits)
command_of-command_body (Capset id version) count fits =
    whole_of 8 (command_body (Capset id version)) (capset (command_body (Capset id version))) (Capset id version) (omega (arith, length-two id version)) (read-capset id version fits)
command_of-command_body (Edid n) count fits =
    whole_of 8 (command_body (Edid n)) (edid (command_body (Edid n))) (Edid n) (omega (arith, length-two n 0)) (read-edid n fits)
command_of-command_body (AssignUuid n) count fits =
    whole_of 8 (command_body (AssignUuid n)) (assign_uuid (command_body (AssignUuid n))) (AssignUuid n) (omega (arith, length-two n 0)) (read-assign_uuid n fits)
command_of-command_body (CreateBlob r m f i s es) count fits =
    let body : List ℕ = command_body (CreateBlob r m f i s es) in
    let fields = blob-fields r m f (length es) i s (entries_bytes es) fits.0 fits.1 fits.2 count fits.3 fits.4 in
    whole_of (create_blob_size body) body (create_blob body) (CreateBlob r m f i s es) (omega (arith, length-command_body (CreateBlob r m f i s es) fits, fields.count)) (read-create_blob r m f i s es count fits)
command_of-command_body (SetScanoutBlob rect a b c d e f g) count fits =
    let body : List ℕ = command_body (SetScanoutBlob rect a b c d e f g) in
    whole_of 72 body (set_scanout_blob body) (SetScanoutBlob rect a b c d e f g) (omega (arith, length-command_body (SetScanoutBlob rect a b c d e f g) fits)) (read-set_scanout_blob rect a b c d e f g fits)
command_of-command_body (CtxCreate n c name) count fits =
    let body : List ℕ = command_body (CtxCreate n c name) in
    whole_of 72 body (ctx_create body) (CtxCreate n c name) (omega (arith, length-command_body (CtxCreate n c name) fits)) (read-ctx_create n c name fits)
command_of-command_body CtxDestroy count fits = refl
command_of-command_body (CtxAttach n) count fits =
    whole_of 8 (command_body (CtxAttach n)) (ctx_attach (command_body (CtxAttach n))) (CtxAttach n) (omega (arith, length-two n 0)) (read-ctx_attach n fits)
command_of-command_body (CtxDetach n) count fits =
    whole_of 8 (command_body (CtxDetach n)) (ctx_detach (command_body (CtxDetach n))) (CtxDetach n) (omega (arith, length-two n 0)) (read-ctx_detach n fits)
command_of-command_body (Submit stream) count fits =
    let body : List ℕ = command_body (Submit stream) in
    whole_of (submit_size body) body (submit body) (Submit stream) (omega (arith, length-command_body (Submit stream) fits, submit-size (length stream) stream count)) (read-submit stream count)
command_of-command_body (UpdateCursor s x y r h k) count fits =
    let body : List ℕ = command_body (UpdateCursor s x y r h k) in
    whole_of 32 body (update_cursor body) (UpdateCursor s x y r h k) (omega (arith, length-command_body (UpdateCursor s x y r h k) fits)) (read-update_cursor s x y r h k fits)
command_of-command_body (MoveCursor s x y) count fits =
    let body : List ℕ = command_body (MoveCursor s x y) in
    whole_of 32 body (move_cursor body) (MoveCursor s x y) (omega (arith, length-command_body (MoveCursor s x y) fits)) (read-move_cursor s x y fits)
