-- No line of a workload waits, by steps, for itself: what a line waits for stands nearer to the begin of its client.
use Rattle.std.proofs.Common.{◌≡◌, ℕ, zero, suc, ◌+◌, ◌-◌, ◌*◌, ◌<◌, ◌≤◌, ◌⊎◌, inl, inr, List, [], ◌∷◌, ◌++◌, length, map, Option, Some, None, get_or, arith, refl, sym, ap, ◌∙◌, subst}
use Rattle.std.specs.Prelude.{slice_get, option_and_then}
use Rattle.std.proofs.lemmas.Bool.{cases_lt}
use Rattle.vg_script.specs.declared.types.Line.{Line}
use Rattle.vg_script.specs.Waits.{gives, waits, gives_at, waits_at, WaitsFor, AreSteps, HasNoCycle}
use Rattle.vg_gen.proofs.StepLemmas.{Mark, mark_of}
use Rattle.vg_gen.proofs.RowLemmas.{silent}

-- How many labels the clients before one give.
abbrev pub given_before : ℕ → ℕ
given_before n = 3 * n - 1

-- The marks of a client's first lines, where there are so many clients before it.
abbrev pub front : ℕ → List Mark
front zero =
    silent ∷ silent ∷ silent ∷ silent ∷ (Some (given_before zero + 1), None) ∷ (Some (given_before zero + 1 + 1), None) ∷ []
front (suc n) =
    silent ∷ silent ∷ silent ∷ silent ∷ (Some (given_before (suc n) + 1), None) ∷ (Some (given_before (suc n) + 1 + 1), None)
    ∷ (None, Some (given_before n + 1)) ∷ (None, Some (given_before n + 1 + 1)) ∷ silent ∷ (Some (given_before (suc n) + 1 + 1 + 1), None) ∷ []

abbrev pub AreQuiet : List Mark → Type 0
AreQuiet [] = Unit {0}
AreQuiet (mark ∷ marks) = (mark ≡ silent) × AreQuiet marks

abbrev pub GiveNothing : List Mark → Type 0
GiveNothing [] = Unit {0}
GiveNothing (mark ∷ marks) = (mark.0 ≡ None) × GiveNothing marks

-- The marks of a client's lines: behind the first ones some that neither give nor wait, and at the end some that give nothing.
pub record IsShaped (n : ℕ) (lines : List Line) : Type 0 where
  pub middle : List Mark
  pub behind : List Mark
  pub marks : map mark_of lines ≡ front n ++ (middle ++ behind)
  pub quiet : AreQuiet middle
  pub long : 4 ≤ length middle
  pub ends : GiveNothing behind

abbrev pub AreShaped : ℕ → List (List Line) → Type 0
AreShaped n [] = Unit {0}
AreShaped n (lines ∷ more) = IsShaped n lines × AreShaped (n + 1) more

pub shaped_more : (n count : ℕ) (clients : List (List Line)) (lines : List Line) → AreShaped n clients → length clients ≡ count → IsShaped (n + count) lines → AreShaped n (clients ++ lines ∷ [])
shaped_more n count [] lines are size is = (subst (λ k. IsShaped k lines) (omega (arith, size)) is, tt)
shaped_more n zero (one ∷ clients) lines are size is = absurd (omega (arith, size))
shaped_more n (suc count) (one ∷ clients) lines (first, are) size is =
    (first, shaped_more (n + 1) count clients lines are (omega (arith, size)) (subst (λ k. IsShaped k lines) (omega arith) is))

shaped_at : (n : ℕ) (clients : List (List Line)) (i : ℕ) → AreShaped n clients → i < length clients → IsShaped (n + i) (get_or clients i [])
shaped_at n [] i are within = absurd (omega (arith, within))
shaped_at n (lines ∷ more) zero (is, are) within = subst (λ k. IsShaped k lines) (omega arith) is
shaped_at n (lines ∷ more) (suc i) (is, are) within = subst (λ k. IsShaped k (get_or more i [])) (omega arith) (shaped_at (n + 1) more i are (omega (arith, within)))

past_end : (clients : List (List Line)) (i : ℕ) → length clients ≤ i → get_or clients i [] ≡ []
past_end [] i past = refl
past_end (lines ∷ more) zero past = absurd (omega (arith, past))
past_end (lines ∷ more) (suc i) past = past_end more i (omega (arith, past))

-- ---- the marks of places

abbrev gives_mark : List Mark → ℕ → Option ℕ
gives_mark marks j = option_and_then (λ mark. mark.0) (slice_get marks j)

abbrev waits_mark : List Mark → ℕ → Option ℕ
waits_mark marks j = option_and_then (λ mark. mark.1) (slice_get marks j)

gives_as : (lines : List Line) (j : ℕ) → option_and_then (λ line. gives line.call) (slice_get lines j) ≡ gives_mark (map mark_of lines) j
gives_as [] j = refl
gives_as (line ∷ lines) zero = refl
gives_as (line ∷ lines) (suc j) = gives_as lines j

waits_as : (lines : List Line) (j : ℕ) → option_and_then (λ line. waits line.call) (slice_get lines j) ≡ waits_mark (map mark_of lines) j
waits_as [] j = refl
waits_as (line ∷ lines) zero = refl
waits_as (line ∷ lines) (suc j) = waits_as lines j

end_gives : (behind : List Mark) (k : ℕ) → GiveNothing behind → gives_mark behind k ≡ None
end_gives [] k are = refl
end_gives (mark ∷ behind) zero (is, are) = is
end_gives (mark ∷ behind) (suc k) (is, are) = end_gives behind k are

rest_gives : (middle behind : List Mark) (k : ℕ) → AreQuiet middle → GiveNothing behind → gives_mark (middle ++ behind) k ≡ None
rest_gives [] behind k quiet ends = end_gives behind k ends
rest_gives (mark ∷ middle) behind zero (is, quiet) ends = ap (λ m. m.0) is
rest_gives (mark ∷ middle) behind (suc k) (is, quiet) ends = rest_gives middle behind k quiet ends

rest_waits : (middle behind : List Mark) (k l : ℕ) → AreQuiet middle → waits_mark (middle ++ behind) k ≡ Some l → length middle ≤ k
rest_waits [] behind k l quiet is = omega arith
rest_waits (mark ∷ middle) behind zero l (same, quiet) is = let none : mark.1 ≡ None = ap (λ m. m.1) same in absurd (cc (none, is))
rest_waits (mark ∷ middle) behind (suc k) l (same, quiet) is = let more = rest_waits middle behind k l quiet is in omega (arith, more)

-- Where a label is given, and where one is waited for.
abbrev Gives : (n j l : ℕ) → Type 0
Gives n j l = (j ≤ 5) ⊎ ((j ≡ 9) × (1 ≤ n) × (l ≡ given_before n + 3))

abbrev Waits : (n j l : ℕ) → Type 0
Waits n j l = (10 ≤ j) ⊎ ((6 ≤ j) × ((l ≡ given_before (n - 1) + 1) ⊎ (l ≡ given_before (n - 1) + 2)))

is_none : (l : ℕ) (o : Option ℕ) → o ≡ None → o ≡ Some l → ⊥
is_none l o none some = cc (none, some)

same_number : (a b : ℕ) → Some a ≡ Some b → a ≡ b
same_number a b same = cc same

gives_in : (n : ℕ) (middle behind : List Mark) (j l : ℕ) → AreQuiet middle → GiveNothing behind → gives_mark (front n ++ (middle ++ behind)) j ≡ Some l → Gives n j l
gives_in zero middle behind zero l quiet ends is = inl (omega arith)
gives_in zero middle behind (suc zero) l quiet ends is = inl (omega arith)
gives_in zero middle behind (suc (suc zero)) l quiet ends is = inl (omega arith)
gives_in zero middle behind (suc (suc (suc zero))) l quiet ends is = inl (omega arith)
gives_in zero middle behind (suc (suc (suc (suc zero)))) l quiet ends is = inl (omega arith)
gives_in zero middle behind (suc (suc (suc (suc (suc zero))))) l quiet ends is = inl (omega arith)
gives_in zero middle behind (suc (suc (suc (suc (suc (suc k)))))) l quiet ends is = absurd (is_none l _ (rest_gives middle behind k quiet ends) is)
gives_in (suc n) middle behind zero l quiet ends is = inl (omega arith)
gives_in (suc n) middle behind (suc zero) l quiet ends is = inl (omega arith)
gives_in (suc n) middle behind (suc (suc zero)) l quiet ends is = inl (omega arith)
gives_in (suc n) middle behind (suc (suc (suc zero))) l quiet ends is = inl (omega arith)
gives_in (suc n) middle behind (suc (suc (suc (suc zero)))) l quiet ends is = inl (omega arith)
gives_in (suc n) middle behind (suc (suc (suc (suc (suc zero))))) l quiet ends is = inl (omega arith)
gives_in (suc n) middle behind (suc (suc (suc (suc (suc (suc zero)))))) l quiet ends is = absurd (is_none l None refl is)
gives_in (suc n) middle behind (suc (suc (suc (suc (suc (suc (suc zero))))))) l quiet ends is = absurd (is_none l None refl is)
gives_in (suc n) middle behind (suc (suc (suc (suc (suc (suc (suc (suc zero)))))))) l quiet ends is = absurd (is_none l None refl is)
gives_in (suc n) middle behind (suc (suc (suc (suc (suc (suc (suc (suc (suc zero))))))))) l quiet ends is =
    let same = same_number (given_before (suc n) + 1 + 1 + 1) l is in inr (refl, omega arith, omega (arith, same))
gives_in (suc n) middle behind (suc (suc (suc (suc (suc (suc (suc (suc (suc (suc k)))))))))) l quiet ends is = absurd (is_none l _ (rest_gives middle behind k quiet ends) is)

waits_in : (n : ℕ) (middle behind : List Mark) (j l : ℕ) → AreQuiet middle → 4 ≤ length middle → waits_mark (front n ++ (middle ++ behind)) j ≡ Some l → Waits n j l
waits_in zero middle behind zero l quiet long is = absurd (is_none l None refl is)
waits_in zero middle behind (suc zero) l quiet long is = absurd (is_none l None refl is)
waits_in zero middle behind (suc (suc zero)) l quiet long is = absurd (is_none l None refl is)
waits_in zero middle behind (suc (suc (suc zero))) l quiet long is = absurd (is_none l None refl is)
waits_in zero middle behind (suc (suc (suc (suc zero)))) l quiet long is = absurd (is_none l None refl is)
waits_in zero middle behind (suc (suc (suc (suc (suc zero))))) l quiet long is = absurd (is_none l None refl is)
waits_in zero middle behind (suc (suc (suc (suc (suc (suc k)))))) l quiet long is = let past = rest_waits middle behind k l quiet is in inl (omega (arith, past, long))
waits_in (suc n) middle behind zero l quiet long is = absurd (is_none l None refl is)
waits_in (suc n) middle behind (suc zero) l quiet long is = absurd (is_none l None refl is)
waits_in (suc n) middle behind (suc (suc zero)) l quiet long is = absurd (is_none l None refl is)
waits_in (suc n) middle behind (suc (suc (suc zero))) l quiet long is = absurd (is_none l None refl is)
waits_in (suc n) middle behind (suc (suc (suc (suc zero)))) l quiet long is = absurd (is_none l None refl is)
waits_in (suc n) middle behind (suc (suc (suc (suc (suc zero))))) l quiet long is = absurd (is_none l None refl is)
waits_in (suc n) middle behind (suc (suc (suc (suc (suc (suc zero)))))) l quiet long is =
    let same = same_number (given_before n + 1) l is in inr (omega arith, inl (omega (arith, same)))
waits_in (suc n) middle behind (suc (suc (suc (suc (suc (suc (suc zero))))))) l quiet long is =
    let same = same_number (given_before n + 1 + 1) l is in inr (omega arith, inr (omega (arith, same)))
waits_in (suc n) middle behind (suc (suc (suc (suc (suc (suc (suc (suc zero)))))))) l quiet long is = absurd (is_none l None refl is)
waits_in (suc n) middle behind (suc (suc (suc (suc (suc (suc (suc (suc (suc zero))))))))) l quiet long is = absurd (is_none l None refl is)
waits_in (suc n) middle behind (suc (suc (suc (suc (suc (suc (suc (suc (suc (suc k)))))))))) l quiet long is = inl (omega arith)

-- What is waited for stands nearer to its client's begin.
nearer : (m i n j l : ℕ) → Gives m i l → Waits n j l → i < j
nearer m i n j l (inl few) (inl many) = omega (arith, few, many)
nearer m i n j l (inl few) (inr (some, which)) = omega (arith, few, some)
nearer m i n j l (inr (nine, some, is)) (inl many) = omega (arith, nine, many)
nearer m i n j l (inr (nine, some, is)) (inr (six, inl same)) = absurd (omega (arith, some, is, same))
nearer m i n j l (inr (nine, some, is)) (inr (six, inr same)) = absurd (omega (arith, some, is, same))

zero_more : {i : ℕ} → 0 + i ≡ i
zero_more = omega arith

gives_there : (clients : List (List Line)) (i j l : ℕ) → AreShaped 0 clients → gives_at clients (i, j) ≡ Some l → Gives i j l
gives_there clients i j l are is =
    elim (cases_lt i (length clients)) [
      | inl within ↦
          let shape = subst (λ k. IsShaped k (get_or clients i [])) zero_more (shaped_at 0 clients i are within) in
          gives_in i shape.middle shape.behind j l shape.quiet shape.ends (ap (λ ms. gives_mark ms j) (sym shape.marks) ∙ sym (gives_as (get_or clients i []) j) ∙ is)
      | inr past ↦ absurd (is_none l _ (ap (λ ls. option_and_then (λ line. gives line.call) (slice_get ls j)) (past_end clients i past)) is)
    ]

waits_there : (clients : List (List Line)) (i j l : ℕ) → AreShaped 0 clients → waits_at clients (i, j) ≡ Some l → Waits i j l
waits_there clients i j l are is =
    elim (cases_lt i (length clients)) [
      | inl within ↦
          let shape = subst (λ k. IsShaped k (get_or clients i [])) zero_more (shaped_at 0 clients i are within) in
          waits_in i shape.middle shape.behind j l shape.quiet shape.long (ap (λ ms. waits_mark ms j) (sym shape.marks) ∙ sym (waits_as (get_or clients i []) j) ∙ is)
      | inr past ↦ absurd (is_none l _ (ap (λ ls. option_and_then (λ line. waits line.call) (slice_get ls j)) (past_end clients i past)) is)
    ]

one_step : (clients : List (List Line)) (one other : ℕ × ℕ) → AreShaped 0 clients → WaitsFor clients one other → other.1 < one.1
one_step clients one other are (within, inl (same, next)) = omega (arith, next)
one_step clients one other are (within, inr (label, wait, give)) =
    nearer other.0 other.1 one.0 one.1 label (gives_there clients other.0 other.1 label are give) (waits_there clients one.0 one.1 label are wait)

steps : (clients : List (List Line)) (one : ℕ × ℕ) (between : List (ℕ × ℕ)) (other : ℕ × ℕ) → AreShaped 0 clients → AreSteps (WaitsFor clients) one between other → other.1 < one.1
steps clients one [] other are step = one_step clients one other are step
steps clients one (next ∷ more) other are (step, rest) =
    let a = one_step clients one next are step in
    let b = steps clients next more other are rest in
    omega (arith, a, b)

pub no_cycle : (clients : List (List Line)) → AreShaped 0 clients → HasNoCycle clients
no_cycle clients are = λ at cycle. let less = steps clients at cycle.0 at are cycle.1 in omega (arith, less)
