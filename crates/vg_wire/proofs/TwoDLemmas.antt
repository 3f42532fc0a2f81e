use Rattle.std.proofs.Common.{◌≡◌, ℕ, ◌+◌, ◌*◌, ◌<◌, ◌≤◌, ◌^◌, List, ◌++◌, length, Some, true, nat_le, refl, ap, ◌∙◌, arith, append_assoc, length-append}
use Rattle.std.proofs.lemmas.Bool.Decides.{nat_tests}
use Rattle.vg_formats.specs.declared.rect.Rect.{Rect}
use Rattle.vg_formats.specs.declared.entry.MemEntry.{MemEntry}
use Rattle.vg_wire.specs.declared.two_d.Command2d.{Command2d}
use Rattle.vg_wire.specs.declared.two_d.Command2d.TheVariants.{DisplayInfo, Create2d, Unref, SetScanout, Flush, Transfer, Attach, Detach}
use Rattle.vg_numbers.specs.Numbers.{number_at, le}
use Rattle.vg_wire.specs.Rect.{IsRect, rect_at, rect_bytes}
use Rattle.vg_wire.specs.Entries.{entries_at, entries_bytes}
use Rattle.vg_wire.specs.TwoD.{FitsCount, IsCommand2d, body_of_2d, kind_of_2d, two_d_of, whole, create_2d, unref, set_scanout, flush, transfer, attach, attach_size, detach}
use Rattle.vg_numbers.proofs.NumberLemmas.{length-le, number-le}
use Rattle.vg_wire.proofs.EntryLemmas.{entries_at-entries_bytes, length-entries_bytes}

same_rect : {x x' y y' w w' h h' : ℕ} → x ≡ x' → y ≡ y' → w ≡ w' → h ≡ h'
    → ◌≡◌ {A = Rect} (record { x = x; y = y; width = w; height = h }) (record { x = x'; y = y'; width = w'; height = h' })
same_rect a b c d = rw (a, b, c, d) refl

-- what is written of a rectangle is read as itself
pub rect_at-rect_bytes : (rect : Rect) (rest : List ℕ) → IsRect rect → rect_at 0 (rect_bytes rect ++ rest) ≡ rect
unfolding number_at le rect_bytes
rect_at-rect_bytes rect rest fits = same_rect (number-le 4 rect.x fits.x) (number-le 4 rect.y fits.y) (number-le 4 rect.width fits.width) (number-le 4 rect.height fits.height)

same_create : {r r' f f' w w' h h' : ℕ} → r ≡ r' → f ≡ f' → w ≡ w' → h ≡ h' → Create2d r f w h ≡ Create2d r' f' w' h'
same_create a b c d = rw (a, b, c, d) refl

same_scanout : {rect rect' : Rect} {s s' r r' : ℕ} → rect ≡ rect' → s ≡ s' → r ≡ r' → SetScanout rect s r ≡ SetScanout rect' s' r'
same_scanout a b c = rw (a, b, c) refl

same_flush : {rect rect' : Rect} {r r' : ℕ} → rect ≡ rect' → r ≡ r' → Flush rect r ≡ Flush rect' r'
same_flush a b = rw (a, b) refl

same_transfer : {rect rect' : Rect} {o o' r r' : ℕ} → rect ≡ rect' → o ≡ o' → r ≡ r' → Transfer rect o r ≡ Transfer rect' o' r'
same_transfer a b c = rw (a, b, c) refl

read-create : (r f w h : ℕ) → IsCommand2d (Create2d r f w h) → create_2d (body_of_2d (Create2d r f w h)) ≡ Create2d r f w h
unfolding create_2d number_at le
read-create r f w h fits = same_create (number-le 4 r fits.0) (number-le 4 f fits.1) (number-le 4 w fits.2) (number-le 4 h fits.3)

read-unref : (r : ℕ) → r < 2 ^ 32 → unref (body_of_2d (Unref r)) ≡ Unref r
unfolding unref number_at le
read-unref r fits = ap Unref (number-le 4 r fits)

read-detach : (r : ℕ) → r < 2 ^ 32 → detach (body_of_2d (Detach r)) ≡ Detach r
unfolding detach number_at le
read-detach r fits = ap Detach (number-le 4 r fits)

read-scanout : (rect : Rect) (s r : ℕ) → IsCommand2d (SetScanout rect s r) → set_scanout (body_of_2d (SetScanout rect s r)) ≡ SetScanout rect s r
unfolding set_scanout number_at le rect_bytes
read-scanout rect s r fits = same_scanout (rect_at-rect_bytes rect (le 4 s ++ le 4 r) fits.0) (number-le 4 s fits.1) (number-le 4 r fits.2)

read-flush : (rect : Rect) (r : ℕ) → IsCommand2d (Flush rect r) → flush (body_of_2d (Flush rect r)) ≡ Flush rect r
unfolding flush number_at le rect_bytes
read-flush rect r fits = same_flush (rect_at-rect_bytes rect (le 4 r ++ le 4 0) fits.0) (number-le 4 r fits.1)

read-transfer : (rect : Rect) (o r : ℕ) → IsCommand2d (Transfer rect o r) → transfer (body_of_2d (Transfer rect o r)) ≡ Transfer rect o r
unfolding transfer number_at le rect_bytes
read-transfer rect o r fits = same_transfer (rect_at-rect_bytes rect (le 8 o ++ (le 4 r ++ le 4 0)) fits.0) (number-le 8 o fits.1) (number-le 4 r fits.2)

same_attach : {r r' : ℕ} {es es' : List MemEntry} → r ≡ r' → es ≡ es' → Attach r es ≡ Attach r' es'
same_attach a b = rw (a, b) refl

read-count : (r n : ℕ) (rest : List ℕ) → n < 2 ^ 32 → number_at 4 4 (le 4 r ++ le 4 n ++ rest) ≡ n
unfolding number_at le
read-count r n rest fits = number-le 4 n fits

read-first : (r : ℕ) (rest : List ℕ) → r < 2 ^ 32 → number_at 4 0 (le 4 r ++ rest) ≡ r
unfolding number_at le
read-first r rest fits = number-le 4 r fits

read-attach : (r : ℕ) (es : List MemEntry) → length es < 2 ^ 32 → IsCommand2d (Attach r es) → attach (body_of_2d (Attach r es)) ≡ Attach r es
unfolding attach
read-attach r es count fits =
    let front : List ℕ = le 4 r ++ le 4 (length es) in
    let long : length front ≡ 8 = simp length-append (omega (arith, length-le 4 r, length-le 4 (length es))) in
    let first : number_at 4 0 (front ++ entries_bytes es) ≡ r = simp append_assoc (read-first r (le 4 (length es) ++ entries_bytes es) fits.0) in
    same_attach first (ap (λ (n : ℕ). entries_at 8 n (front ++ entries_bytes es)) (read-count r (length es) (entries_bytes es) count) ∙ entries_at-entries_bytes es front 8 long fits.1)

-- enough bytes give the command
pub whole_of : {A : Type 0} (size : ℕ) (body : List ℕ) (read command : A) → size ≤ length body → read ≡ command → whole size body read ≡ Some command
whole_of size body read command long same =
    let yes : nat_le size (length body) ≡ true = grind (arith, nat_tests) in
    rw (yes, same) refl

pub length-four : (a b c d : ℕ) → length (le 4 a ++ le 4 b ++ le 4 c ++ le 4 d) ≡ 16
length-four a b c d = simp length-append (omega (arith, length-le 4 a, length-le 4 b, length-le 4 c, length-le 4 d))

pub length-two : (a b : ℕ) → length (le 4 a ++ le 4 b) ≡ 8
length-two a b = simp length-append (omega (arith, length-le 4 a, length-le 4 b))

pub length-rect_bytes : (rect : Rect) → length (rect_bytes rect) ≡ 16
unfolding rect_bytes
length-rect_bytes rect = length-four rect.x rect.y rect.width rect.height

pub length-attach : (r : ℕ) (es : List MemEntry) → length (body_of_2d (Attach r es)) ≡ 8 + 16 * length es
length-attach r es = simp length-append (omega (arith, length-le 4 r, length-le 4 (length es), length-entries_bytes es))

abbrev pub size_of_2d : Command2d → ℕ
size_of_2d DisplayInfo = 0
size_of_2d (Create2d r f w h) = 16
size_of_2d (Unref r) = 8
size_of_2d (SetScanout rect s r) = 24
size_of_2d (Flush rect r) = 24
size_of_2d (Transfer rect o r) = 32
size_of_2d (Attach r es) = 8 + 16 * length es
size_of_2d (Detach r) = 8

-- how many bytes are written of a command's fields
pub length-body_of_2d : (command : Command2d) → length (body_of_2d command) ≡ size_of_2d command
length-body_of_2d DisplayInfo = refl
length-body_of_2d (Create2d r f w h) = length-four r f w h
length-body_of_2d (Unref r) = length-two r 0
length-body_of_2d (SetScanout rect s r) = simp length-append (omega (arith, length-rect_bytes rect, length-le 4 s, length-le 4 r))
length-body_of_2d (Flush rect r) = simp length-append (omega (arith, length-rect_bytes rect, length-le 4 r, length-le 4 0))
length-body_of_2d (Transfer rect o r) = simp length-append (omega (arith, length-rect_bytes rect, length-le 8 o, length-le 4 r, length-le 4 0))
length-body_of_2d (Attach r es) = length-attach r es
length-body_of_2d (Detach r) = length-two r 0

-- what is written of a command's fields is read as itself
pub two_d_of-body_of_2d : (command : Command2d) → FitsCount command → IsCommand2d command → two_d_of (kind_of_2d command) (body_of_2d command) ≡ Some command
unfolding two_d_of attach_size
two_d_of-body_of_2d DisplayInfo count fits = refl
two_d_of-body_of_2d (Create2d r f w h) count fits =
    whole_of 16 (body_of_2d (Create2d r f w h)) (create_2d (body_of_2d (Create2d r f w h))) (Create2d r f w h) (omega (arith, length-four r f w h)) (read-create r f w h fits)
two_d_of-body_of_2d (Unref r) count fits =
    whole_of 8 (body_of_2d (Unref r)) (unref (body_of_2d (Unref r))) (Unref r) (omega (arith, length-two r 0)) (read-unref r fits)
two_d_of-body_of_2d (SetScanout rect s r) count fits =
    let long : 24 ≤ length (body_of_2d (SetScanout rect s r)) = simp length-append (omega (arith, length-rect_bytes rect, length-le 4 s, length-le 4 r)) in
    whole_of 24 (body_of_2d (SetScanout rect s r)) (set_scanout (body_of_2d (SetScanout rect s r))) (SetScanout rect s r) long (read-scanout rect s r fits)
two_d_of-body_of_2d (Flush rect r) count fits =
    let long : 24 ≤ length (body_of_2d (Flush rect r)) = simp length-append (omega (arith, length-rect_bytes rect, length-le 4 r, length-le 4 0)) in
    whole_of 24 (body_of_2d (Flush rect r)) (flush (body_of_2d (Flush rect r))) (Flush rect r) long (read-flush rect r fits)
two_d_of-body_of_2d (Transfer rect o r) count fits =
    let long : 32 ≤ length (body_of_2d (Transfer rect o r)) = simp length-append (omega (arith, length-rect_bytes rect, length-le 8 o, length-le 4 r, length-le 4 0)) in
    whole_of 32 (body_of_2d (Transfer rect o r)) (transfer (body_of_2d (Transfer rect o r))) (Transfer rect o r) long (read-transfer rect o r fits)
two_d_of-body_of_2d (Attach r es) count fits =
    let n = read-count r (length es) (entries_bytes es) count in
    whole_of (attach_size (body_of_2d (Attach r es))) (body_of_2d (Attach r es)) (attach (body_of_2d (Attach r es))) (Attach r es) (omega (arith, length-attach r es, n)) (read-attach r es count fits)
two_d_of-body_of_2d (Detach r) count fits =
    whole_of 8 (body_of_2d (Detach r)) (detach (body_of_2d (Detach r))) (Detach r) (omega (arith, length-two r 0)) (read-detach r fits)
