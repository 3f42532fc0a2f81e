-- The tasks of calls: how those of the longer ones grow, how few they are, that they fit, and that each call has one.
use Rattle.std.proofs.Common.{◌≡◌, ◌+◌, ◌-◌, ◌*◌, ◌<◌, ◌≤◌, ◌∙◌, sym, ap, refl, arith, ℕ, zero, suc, Bool, true, false, cond, List, [], ◌∷◌, ◌++◌, length, map, drop, append_assoc, Option}
use Rattle.std.specs.List.{AllByRecursion}
use Rattle.vg_client_holds.specs.Holds.{has_number}
use Rattle.vg_names.specs.declared.names.Held.{Held}
use Rattle.vg_tasks.specs.declared.task.Task.{Task}
use Rattle.vg_tasks.specs.Plans.{weight_of, weights}
use Rattle.vg_tasks.specs.Fits.{IsFit}
use Rattle.vg_tasks.specs.Table.{clear_task, end_context_task, release_task}
use Rattle.vg_tasks.specs.Tasks.{clear_tasks, give_back, is_shown, leases_back}

pub clear-more : (key i : ℕ) (shows : List (Option ℕ)) (items more whole : List Task) (shown : Option ℕ) → drop i shows ≡ shown ∷ drop (i + 1) shows
    → more ≡ items ++ cond (is_shown key shown) (clear_task i ∷ []) [] → items ++ clear_tasks key i (drop i shows) ≡ whole → more ++ clear_tasks key (i + 1) (drop (i + 1) shows) ≡ whole
clear-more key i shows items more whole shown here added made =
    ap (λ (xs : List Task). xs ++ clear_tasks key (i + 1) (drop (i + 1) shows)) added
    ∙ append_assoc items (cond (is_shown key shown) (clear_task i ∷ []) []) (clear_tasks key (i + 1) (drop (i + 1) shows))
    ∙ ap (λ (xs : List (Option ℕ)). items ++ clear_tasks key i xs) (sym here) ∙ made

pub leases-more : (leased : List ℕ) (i count : ℕ) (items more whole : List Task) → i < count
    → more ≡ items ++ cond (has_number i leased) (give_back i) [] → items ++ leases_back leased i (count - i) ≡ whole → more ++ leases_back leased (i + 1) (count - (i + 1)) ≡ whole
leases-more leased i count items more whole within added made =
    let left : count - i ≡ suc (count - (i + 1)) = omega arith in
    ap (λ (xs : List Task). xs ++ leases_back leased (i + 1) (count - (i + 1))) added
    ∙ append_assoc items (cond (has_number i leased) (give_back i) []) (leases_back leased (i + 1) (count - (i + 1)))
    ∙ ap (λ (n : ℕ). items ++ leases_back leased i n) (sym left) ∙ made

pub weights-append : (xs ys : List Task) → weights (xs ++ ys) ≡ weights xs + weights ys
weights-append [] ys = omega arith
weights-append (x ∷ xs) ys = ap (λ (n : ℕ). weight_of x.change + n) (weights-append xs ys) ∙ omega arith

pub fit-append : (xs ys : List Task) → AllByRecursion IsFit xs → AllByRecursion IsFit ys → AllByRecursion IsFit (xs ++ ys)
fit-append [] ys one other = other
fit-append (x ∷ xs) ys one other = (one.0, fit-append xs ys one.1 other)

pub clear-fit : (key n : ℕ) (shows : List (Option ℕ)) → AllByRecursion IsFit (clear_tasks key n shows)
clear-fit key n [] = tt
clear-fit key n (shown ∷ more) = by_test (is_shown key shown) (clear-fit key (n + 1) more)
  where
    by_test : (b : Bool) → AllByRecursion IsFit (clear_tasks key (n + 1) more) → AllByRecursion IsFit (cond b (clear_task n ∷ []) [] ++ clear_tasks key (n + 1) more)
    by_test true fit = ((((tt, tt, refl), tt), tt), fit)
    by_test false fit = fit

pub clear-few : (key n : ℕ) (shows : List (Option ℕ)) → weights (clear_tasks key n shows) ≤ length shows
clear-few key n [] = omega arith
clear-few key n (shown ∷ more) = by_test (is_shown key shown) (clear-few key (n + 1) more)
  where
    by_test : (b : Bool) → weights (clear_tasks key (n + 1) more) ≤ length more → weights (cond b (clear_task n ∷ []) [] ++ clear_tasks key (n + 1) more) ≤ length (shown ∷ more)
    by_test true few = omega arith
    by_test false few = omega arith

leases-fit : (leased : List ℕ) (n count : ℕ) → AllByRecursion IsFit (leases_back leased n count)
leases-fit leased n zero = tt
leases-fit leased n (suc count) = by_test (has_number n leased) (leases-fit leased (n + 1) count)
  where
    by_test : (b : Bool) → AllByRecursion IsFit (leases_back leased (n + 1) count) → AllByRecursion IsFit (cond b (give_back n) [] ++ leases_back leased (n + 1) count)
    by_test true fit = ((((tt, tt, refl), tt), tt), ((((tt, tt, refl), tt), tt), ((tt, tt), fit)))
    by_test false fit = fit

leases-few : (leased : List ℕ) (n count : ℕ) → weights (leases_back leased n count) ≤ 3 * count
leases-few leased n zero = omega arith
leases-few leased n (suc count) = by_test (has_number n leased) (leases-few leased (n + 1) count)
  where
    by_test : (b : Bool) → weights (leases_back leased (n + 1) count) ≤ 3 * count → weights (cond b (give_back n) [] ++ leases_back leased (n + 1) count) ≤ 3 * suc count
    by_test true few = omega arith
    by_test false few = omega arith

releases-fit : (current : List Held) → AllByRecursion IsFit (map release_task current)
releases-fit [] = tt
releases-fit (held ∷ more) = ((tt, tt), releases-fit more)

releases-few : (current : List Held) → weights (map release_task current) ≤ 3 * length current
releases-few [] = omega arith
releases-few (held ∷ more) = let few = releases-few more in omega arith

contexts-fit : (client : ℕ) (current : List ℕ) → AllByRecursion IsFit (map (end_context_task client) current)
contexts-fit client [] = tt
contexts-fit client (number ∷ more) = ((((tt, tt, refl), tt), tt), contexts-fit client more)

contexts-few : (client : ℕ) (current : List ℕ) → weights (map (end_context_task client) current) ≤ length current
contexts-few client [] = omega arith
contexts-few client (number ∷ more) = let few = contexts-few client more in omega arith

pub end-fit : (leased : List ℕ) (count client : ℕ) (contexts : List ℕ) (current : List Held)
    → AllByRecursion IsFit (leases_back leased 0 count ++ map (end_context_task client) contexts ++ map release_task current)
end-fit leased count client contexts current =
    fit-append (leases_back leased 0 count ++ map (end_context_task client) contexts) (map release_task current)
    (fit-append (leases_back leased 0 count) (map (end_context_task client) contexts) (leases-fit leased 0 count) (contexts-fit client contexts))
    (releases-fit current)

pub end-few : (leased : List ℕ) (count client : ℕ) (contexts : List ℕ) (current : List Held)
    → weights (leases_back leased 0 count ++ map (end_context_task client) contexts ++ map release_task current) ≤ 3 * count + length contexts + 3 * length current
end-few leased count client contexts current =
    let leases = leases-few leased 0 count in
    let ends = contexts-few client contexts in
    let releases = releases-few current in
    let first = weights-append (leases_back leased 0 count) (map (end_context_task client) contexts) in
    let both = weights-append (leases_back leased 0 count ++ map (end_context_task client) contexts) (map release_task current) in
    omega (arith, leases, ends, releases, first, both)

pub close-few : (only : Bool) (key : ℕ) (shows : List (Option ℕ)) (held : Held) → length shows ≤ 16 → weights (cond only (clear_tasks key 0 shows) [] ++ release_task held ∷ []) ≤ 19
close-few true key shows held small =
    let one = clear-few key 0 shows in
    let both = weights-append (clear_tasks key 0 shows) (release_task held ∷ []) in
    omega (arith, one, both, small)
close-few false key shows held small = omega arith

pub close-fit : (only : Bool) (key : ℕ) (shows : List (Option ℕ)) (held : Held) → AllByRecursion IsFit (cond only (clear_tasks key 0 shows) [] ++ release_task held ∷ [])
close-fit true key shows held = fit-append (clear_tasks key 0 shows) (release_task held ∷ []) (clear-fit key 0 shows) ((tt, tt), tt)
close-fit false key shows held = ((tt, tt), tt)
