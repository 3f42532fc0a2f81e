-- Eleven arguments, from a list of as many references.
use Rattle.std.proofs.Common.{◌≡◌, ℕ, ◌<◌, ◌≤◌, List, [], ◌∷◌, length, map, Option, Bor, get_or, arith, refl, sym, subst}
use Rattle.vg_calls.specs.declared.call.Call.{Call}
use Rattle.vg_script_words.specs.declared.kind.Stop.{Stop}
use Rattle.std.specs.Prelude.{Result}
use Rattle.vg_call_lines.specs.Args.{eleven_args}
use Rattle.vg_call_lines.specs.Tables.{NameTable}
use Rattle.vg_call_lines.specs.Rows.{Row, judged_row}
use Rattle.vg_call_lines.specs.Code.{Judges}

-- The text of the argument at a place.
abbrev pub arg_at : List (Bor (List ℕ)) → ℕ → List ℕ
arg_at args i = (get_or args i (record { ref_ptr = (0, 0); now = [] })).now

pub eleven : {X : Type 0} (given : (a b c d e f g h i j k : List ℕ) → Option X) (args : List (Bor (List ℕ))) → 11 ≤ length args → length args < 12
    → eleven_args given (map (λ arg. arg.now) args) ≡ given (arg_at args 0) (arg_at args 1) (arg_at args 2) (arg_at args 3) (arg_at args 4) (arg_at args 5) (arg_at args 6) (arg_at args 7) (arg_at args 8) (arg_at args 9) (arg_at args 10)
eleven given [] some few = absurd (omega (arith, some))
eleven given (a ∷ []) some few = absurd (omega (arith, some))
eleven given (a ∷ b ∷ []) some few = absurd (omega (arith, some))
eleven given (a ∷ b ∷ c ∷ []) some few = absurd (omega (arith, some))
eleven given (a ∷ b ∷ c ∷ d ∷ []) some few = absurd (omega (arith, some))
eleven given (a ∷ b ∷ c ∷ d ∷ e ∷ []) some few = absurd (omega (arith, some))
eleven given (a ∷ b ∷ c ∷ d ∷ e ∷ f ∷ []) some few = absurd (omega (arith, some))
eleven given (a ∷ b ∷ c ∷ d ∷ e ∷ f ∷ g ∷ []) some few = absurd (omega (arith, some))
eleven given (a ∷ b ∷ c ∷ d ∷ e ∷ f ∷ g ∷ h ∷ []) some few = absurd (omega (arith, some))
eleven given (a ∷ b ∷ c ∷ d ∷ e ∷ f ∷ g ∷ h ∷ i ∷ []) some few = absurd (omega (arith, some))
eleven given (a ∷ b ∷ c ∷ d ∷ e ∷ f ∷ g ∷ h ∷ i ∷ j ∷ []) some few = absurd (omega (arith, some))
eleven given (a ∷ b ∷ c ∷ d ∷ e ∷ f ∷ g ∷ h ∷ i ∷ j ∷ k ∷ []) some few = refl
eleven given (a ∷ b ∷ c ∷ d ∷ e ∷ f ∷ g ∷ h ∷ i ∷ j ∷ k ∷ next ∷ more) some few = absurd (omega (arith, few))

-- What a row of eleven arguments judges.
pub judges_eleven : (table : NameTable) (read : Result Call Stop) (given : (a b c d e f g h i j k : List ℕ) → Option Row) (args : List (Bor (List ℕ))) → 11 ≤ length args → length args < 12
    → Judges table read (judged_row (given (arg_at args 0) (arg_at args 1) (arg_at args 2) (arg_at args 3) (arg_at args 4) (arg_at args 5) (arg_at args 6) (arg_at args 7) (arg_at args 8) (arg_at args 9) (arg_at args 10))) → Judges table read (judged_row (eleven_args given (map (λ arg. arg.now) args)))
judges_eleven table read given args some few h = subst (λ row. Judges table read (judged_row row)) (sym (eleven given args some few)) h
