-- What so many arguments give, and nothing where there are others.
use Rattle.std.specs.Prelude.{ℕ, List, [], ◌∷◌, Option, None}

abbrev pub no_args : {X : Type 0} → Option X → List (List ℕ) → Option X
no_args given [] = given
no_args given args = None

abbrev pub one_arg : {X : Type 0} → ((a : List ℕ) → Option X) → List (List ℕ) → Option X
one_arg given (a ∷ []) = given a
one_arg given args = None

abbrev pub two_args : {X : Type 0} → ((a b : List ℕ) → Option X) → List (List ℕ) → Option X
two_args given (a ∷ b ∷ []) = given a b
two_args given args = None

abbrev pub three_args : {X : Type 0} → ((a b c : List ℕ) → Option X) → List (List ℕ) → Option X
three_args given (a ∷ b ∷ c ∷ []) = given a b c
three_args given args = None

abbrev pub four_args : {X : Type 0} → ((a b c d : List ℕ) → Option X) → List (List ℕ) → Option X
four_args given (a ∷ b ∷ c ∷ d ∷ []) = given a b c d
four_args given args = None

abbrev pub five_args : {X : Type 0} → ((a b c d e : List ℕ) → Option X) → List (List ℕ) → Option X
five_args given (a ∷ b ∷ c ∷ d ∷ e ∷ []) = given a b c d e
five_args given args = None

abbrev pub six_args : {X : Type 0} → ((a b c d e f : List ℕ) → Option X) → List (List ℕ) → Option X
six_args given (a ∷ b ∷ c ∷ d ∷ e ∷ f ∷ []) = given a b c d e f
six_args given args = None

abbrev pub eleven_args : {X : Type 0} → ((a b c d e f g h i j k : List ℕ) → Option X) → List (List ℕ) → Option X
eleven_args given (a ∷ b ∷ c ∷ d ∷ e ∷ f ∷ g ∷ h ∷ i ∷ j ∷ k ∷ []) = given a b c d e f g h i j k
eleven_args given args = None
