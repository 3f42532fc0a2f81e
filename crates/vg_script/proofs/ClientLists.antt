-- Clients, with one more, and with one more line of the last.
use Rattle.std.proofs.Common.{◌≡◌, ℕ, zero, suc, ◌+◌, ◌==◌, false, ◌≤◌, ◌<◌, slice_index_or, slice_set, List, [], ◌∷◌, ◌++◌, length, arith, refl, ap, ◌∙◌, length-append}
use Rattle.std.specs.Prelude.{sum_by}
use Rattle.std.proofs.lemmas.List.Sums.{sum_by-cons, sum_by-append}
use Rattle.std.proofs.lemmas.Bool.Decides.{nat_tests}
use Rattle.vg_script.specs.declared.types.Line.{Line}
use Rattle.vg_script.specs.Seen.{add_line}
use Rattle.vg_script.specs.Asked.{pages_asked, asked_by, asked_by_all}

pub length-add_line : (clients : List (List Line)) (line : Line) → length (add_line clients line) ≡ length clients
length-add_line [] line = refl
length-add_line (client ∷ []) line = refl
length-add_line (client ∷ next ∷ more) line = ap suc (length-add_line (next ∷ more) line)

behind_one : (client : List Line) (new old : List (List Line)) → sum_by length new ≡ sum_by length old + 1 → sum_by length (client ∷ new) ≡ sum_by length (client ∷ old) + 1
behind_one client new old h = omega (arith, h, sum_by-cons length client new, sum_by-cons length client old)

-- The last of some clients has one line more.
pub one_line_added : (clients : List (List Line)) (line : Line) → 0 < length clients → sum_by length (add_line clients line) ≡ sum_by length clients + 1
one_line_added [] line some = absurd (omega (arith, some))
one_line_added (client ∷ []) line some = omega (arith, length-append client (line ∷ []))
one_line_added (client ∷ next ∷ more) line some = behind_one client (add_line (next ∷ more) line) (next ∷ more) (one_line_added (next ∷ more) line (omega arith))

pub lines-add_line : (clients : List (List Line)) (line : Line) → sum_by length (add_line clients line) ≤ sum_by length clients + 1
lines-add_line [] line = omega arith
lines-add_line (client ∷ more) line = omega (arith, one_line_added (client ∷ more) line (omega arith))

-- What one client more, and one line more, ask for.
pub asked-begun : (clients : List (List Line)) → asked_by_all (clients ++ [] ∷ []) ≡ asked_by_all clients
asked-begun clients = omega (arith, sum_by-append asked_by clients ([] ∷ []))

asked-line : (lines : List Line) (line : Line) → asked_by (lines ++ line ∷ []) ≡ asked_by lines + pages_asked line.call
asked-line lines line = omega (arith, sum_by-append (λ l. pages_asked l.call) lines (line ∷ []))

pub asked-add_line : (clients : List (List Line)) (line : Line) → (length clients == 0) ≡ false → asked_by_all (add_line clients line) ≡ asked_by_all clients + pages_asked line.call
asked-add_line [] line some = absurd (cc some)
asked-add_line (client ∷ []) line some = omega (arith, asked-line client line)
asked-add_line (client ∷ next ∷ more) line some =
    let some_left : (length (next ∷ more) == 0) ≡ false = grind (arith, nat_tests) in
    let rest : asked_by_all (add_line (next ∷ more) line) ≡ asked_by_all (next ∷ more) + pages_asked line.call = asked-add_line (next ∷ more) line some_left in
    omega (arith, rest, sum_by-cons asked_by client (add_line (next ∷ more) line), sum_by-cons asked_by client (next ∷ more))

-- The last client, written in place.
pub written_last : (last : ℕ) (clients : List (List Line)) (line : Line) (old new : List Line) → length clients ≡ suc last → old ≡ slice_index_or clients last old → new ≡ old ++ line ∷ []
    → slice_set clients last new ≡ add_line clients line
written_last last [] line old new l e n = absurd (omega (arith, l))
written_last zero (client ∷ []) line old new l e n = ap (λ ls. ls ∷ []) (n ∙ ap (λ ls. ls ++ line ∷ []) e)
written_last zero (client ∷ next ∷ more) line old new l e n = absurd (omega (arith, l))
written_last (suc last) (client ∷ []) line old new l e n = absurd (omega (arith, l))
written_last (suc last) (client ∷ next ∷ more) line old new l e n = ap (λ ls. client ∷ ls) (written_last last (next ∷ more) line old new (omega (arith, l)) e n)
