-- Tickets none of which passes the ordinal that its lane has.
use Rattle.std.proofs.Common.{◌≡◌, ℕ, ◌<◌, ◌≤◌, ◌==◌, ◌∷◌, ◌++◌, List, [], Bool, true, false, cond, nat_lt, max, set, get_or, inl, inr, refl, sym, ap, subst, ◌∙◌, arith}
use Rattle.std.specs.List.{AllByRecursion, list_all}
use Rattle.std.proofs.lemmas.Bool.{cases_eq, eqb-true}
use Rattle.std.proofs.lemmas.Bool.Decides.{nat_tests}
use Rattle.std.proofs.lemmas.List.{get_or_default, get_or-set_other, get_or-set_same, length-set}
use Rattle.vg_driver.specs.declared.ticket.Ticket.{Ticket}
use Rattle.vg_client.specs.Accounts.{AreUnder, is_below}

module _ (tops : List ℕ) (tickets : List Ticket) (ticket : Ticket) (lane ordinal top : ℕ) (under : AreUnder tops tickets) (lane_is : lane ≡ ticket.fence.lane) (ordinal_is : ordinal ≡ ticket.fence.ordinal) (less : lane < 66) (top_is : top ≡ get_or tops lane top) where
  top_at : get_or tops lane 0 ≡ top
  top_at = get_or_default tops lane 0 top (let long = under.0 in omega (arith, less, long)) ∙ sym top_is

  -- a ticket that passes what its lane has stands behind all of them
  pub behind_all : top < ordinal → list_all (is_below ticket) tickets ≡ true
  behind_all over = each tickets under.1
    where
      below : (t : Ticket) (b : Bool) → (t.fence.lane == ticket.fence.lane) ≡ b → t.fence.ordinal ≤ get_or tops t.fence.lane 0 → cond b (nat_lt t.fence.ordinal ticket.fence.ordinal) true ≡ true
      below t true same least =
          let at : get_or tops t.fence.lane 0 ≡ top = ap (λ l. get_or tops l 0) (eqb-true t.fence.lane ticket.fence.lane same ∙ sym lane_is) ∙ top_at in
          grind (arith, nat_tests, least, at, over, ordinal_is)
      below t false other least = refl

      each : (ts : List Ticket) → AllByRecursion (λ t. t.fence.ordinal ≤ get_or tops t.fence.lane 0) ts → list_all (is_below ticket) ts ≡ true
      each [] all = refl
      each (t ∷ ts) all = rw (below t _ refl all.0) (each ts all.1)

  -- one more, where its lane has what is as far as it
  pub under_more : (new : List Ticket) → new ≡ tickets ++ ticket ∷ [] → AreUnder (set tops lane (max ordinal top)) new
  under_more new new_is = subst (AreUnder (set tops lane (max ordinal top))) (sym new_is) (length-set tops lane (max ordinal top) ∙ under.0, each tickets under.1)
    where
      here : get_or (set tops lane (max ordinal top)) lane 0 ≡ max ordinal top
      here = get_or-set_same tops lane (max ordinal top) 0 (let long = under.0 in omega (arith, less, long))

      still : (t : Ticket) → t.fence.ordinal ≤ get_or tops t.fence.lane 0 → t.fence.ordinal ≤ get_or (set tops lane (max ordinal top)) t.fence.lane 0
      still t below = elim (cases_eq t.fence.lane lane) [
        | inl same ↦ (
            let was : get_or tops t.fence.lane 0 ≡ top = ap (λ l. get_or tops l 0) same ∙ top_at in
            let is : get_or (set tops lane (max ordinal top)) t.fence.lane 0 ≡ max ordinal top = ap (λ l. get_or (set tops lane (max ordinal top)) l 0) same ∙ here in
            omega (arith, below, was, is)
            )
        | inr other ↦ subst (λ n. t.fence.ordinal ≤ n) (sym (get_or-set_other tops lane t.fence.lane (max ordinal top) 0 other)) below
      ]

      last : ticket.fence.ordinal ≤ get_or (set tops lane (max ordinal top)) ticket.fence.lane 0
      last = let is : get_or (set tops lane (max ordinal top)) ticket.fence.lane 0 ≡ max ordinal top = ap (λ l. get_or (set tops lane (max ordinal top)) l 0) (sym lane_is) ∙ here in omega (arith, is, ordinal_is)

      each : (ts : List Ticket) → AllByRecursion (λ t. t.fence.ordinal ≤ get_or tops t.fence.lane 0) ts → AllByRecursion (λ t. t.fence.ordinal ≤ get_or (set tops lane (max ordinal top)) t.fence.lane 0) (ts ++ ticket ∷ [])
      each [] all = (last, tt)
      each (t ∷ ts) all = (still t all.0, each ts all.1)
