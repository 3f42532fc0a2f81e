-- What holds of what so many arguments give, and of nothing, holds for all arguments.
use Rattle.std.proofs.Common.{ℕ, List, [], ◌∷◌, Option, None}
use Rattle.vg_call_lines.specs.Args.{no_args, one_arg, two_args, three_args, four_args, five_args, six_args, eleven_args}

module _ {X : Type 0} (P : Option X → Type 0) (nothing : P None) where
  pub no_args_give : (given : Option X) → (P (given)) → (args : List (List ℕ)) → P (no_args given args)
  no_args_give given holds [] = holds
  no_args_give given holds (next ∷ more) = nothing

  pub one_arg_gives : (given : (a : List ℕ) → Option X) → ((a : List ℕ) → P (given a)) → (args : List (List ℕ)) → P (one_arg given args)
  one_arg_gives given holds [] = nothing
  one_arg_gives given holds (a ∷ []) = holds a
  one_arg_gives given holds (a ∷ next ∷ more) = nothing

  pub two_args_give : (given : (a b : List ℕ) → Option X) → ((a b : List ℕ) → P (given a b)) → (args : List (List ℕ)) → P (two_args given args)
  two_args_give given holds [] = nothing
  two_args_give given holds (a ∷ []) = nothing
  two_args_give given holds (a ∷ b ∷ []) = holds a b
  two_args_give given holds (a ∷ b ∷ next ∷ more) = nothing

  pub three_args_give : (given : (a b c : List ℕ) → Option X) → ((a b c : List ℕ) → P (given a b c)) → (args : List (List ℕ)) → P (three_args given args)
  three_args_give given holds [] = nothing
  three_args_give given holds (a ∷ []) = nothing
  three_args_give given holds (a ∷ b ∷ []) = nothing
  three_args_give given holds (a ∷ b ∷ c ∷ []) = holds a b c
  three_args_give given holds (a ∷ b ∷ c ∷ next ∷ more) = nothing

  pub four_args_give : (given : (a b c d : List ℕ) → Option X) → ((a b c d : List ℕ) → P (given a b c d)) → (args : List (List ℕ)) → P (four_args given args)
  four_args_give given holds [] = nothing
  four_args_give given holds (a ∷ []) = nothing
  four_args_give given holds (a ∷ b ∷ []) = nothing
  four_args_give given holds (a ∷ b ∷ c ∷ []) = nothing
  four_args_give given holds (a ∷ b ∷ c ∷ d ∷ []) = holds a b c d
  four_args_give given holds (a ∷ b ∷ c ∷ d ∷ next ∷ more) = nothing

  pub five_args_give : (given : (a b c d e : List ℕ) → Option X) → ((a b c d e : List ℕ) → P (given a b c d e)) → (args : List (List ℕ)) → P (five_args given args)
  five_args_give given holds [] = nothing
  five_args_give given holds (a ∷ []) = nothing
  five_args_give given holds (a ∷ b ∷ []) = nothing
  five_args_give given holds (a ∷ b ∷ c ∷ []) = nothing
  five_args_give given holds (a ∷ b ∷ c ∷ d ∷ []) = nothing
  five_args_give given holds (a ∷ b ∷ c ∷ d ∷ e ∷ []) = holds a b c d e
  five_args_give given holds (a ∷ b ∷ c ∷ d ∷ e ∷ next ∷ more) = nothing

  pub six_args_give : (given : (a b c d e f : List ℕ) → Option X) → ((a b c d e f : List ℕ) → P (given a b c d e f)) → (args : List (List ℕ)) → P (six_args given args)
  six_args_give given holds [] = nothing
  six_args_give given holds (a ∷ []) = nothing
  six_args_give given holds (a ∷ b ∷ []) = nothing
  six_args_give given holds (a ∷ b ∷ c ∷ []) = nothing
  six_args_give given holds (a ∷ b ∷ c ∷ d ∷ []) = nothing
  six_args_give given holds (a ∷ b ∷ c ∷ d ∷ e ∷ []) = nothing
  six_args_give given holds (a ∷ b ∷ c ∷ d ∷ e ∷ f ∷ []) = holds a b c d e f
  six_args_give given holds (a ∷ b ∷ c ∷ d ∷ e ∷ f ∷ next ∷ more) = nothing

  pub eleven_args_give : (given : (a b c d e f g h i j k : List ℕ) → Option X) → ((a b c d e f g h i j k : List ℕ) → P (given a b c d e f g h i j k)) → (args : List (List ℕ)) → P (eleven_args given args)
  eleven_args_give given holds [] = nothing
  eleven_args_give given holds (a ∷ []) = nothing
  eleven_args_give given holds (a ∷ b ∷ []) = nothing
  eleven_args_give given holds (a ∷ b ∷ c ∷ []) = nothing
  eleven_args_give given holds (a ∷ b ∷ c ∷ d ∷ []) = nothing
  eleven_args_give given holds (a ∷ b ∷ c ∷ d ∷ e ∷ []) = nothing
  eleven_args_give given holds (a ∷ b ∷ c ∷ d ∷ e ∷ f ∷ []) = nothing
  eleven_args_give given holds (a ∷ b ∷ c ∷ d ∷ e ∷ f ∷ g ∷ []) = nothing
  eleven_args_give given holds (a ∷ b ∷ c ∷ d ∷ e ∷ f ∷ g ∷ h ∷ []) = nothing
  eleven_args_give given holds (a ∷ b ∷ c ∷ d ∷ e ∷ f ∷ g ∷ h ∷ i ∷ []) = nothing
  eleven_args_give given holds (a ∷ b ∷ c ∷ d ∷ e ∷ f ∷ g ∷ h ∷ i ∷ j ∷ []) = nothing
  eleven_args_give given holds (a ∷ b ∷ c ∷ d ∷ e ∷ f ∷ g ∷ h ∷ i ∷ j ∷ k ∷ []) = holds a b c d e f g h i j k
  eleven_args_give given holds (a ∷ b ∷ c ∷ d ∷ e ∷ f ∷ g ∷ h ∷ i ∷ j ∷ k ∷ next ∷ more) = nothing
