-- An account beside a history that grows, and an account that changes.
use Rattle.std.proofs.Common.{◌≡◌, ◌≢◌, ◌⊎◌, inl, inr, ⊎_elim, ℕ, suc, ◌+◌, ◌≤◌, ◌==◌, true, false, List, [], ◌∷◌, ◌++◌, map, refl, ap, sym, subst, ◌∙◌, arith}
use mathlib.Core.List.{map-append}
use Rattle.vg_laws.proofs.Numbers.{same_or_not}
use Rattle.vg_history.specs.declared.machine.Machine.{Ghosts}
use Rattle.vg_history.specs.declared.entry.Entry.{Entry}
use Rattle.vg_history.specs.declared.entry.Entry.TheVariants.{Act}
use Rattle.vg_history.specs.Lists.{Has, bit, times, upto}
use Rattle.vg_history.specs.Entries.{client_of, call_of, EachOnce}
use Rattle.vg_history.specs.History.{updated, IsAllowed}
use Rattle.vg_history.proofs.ListLemmas.{has_left, has_right, has_last, has_snoc, has_map, times_append, times_has, has_times, upto_has}
use Rattle.vg_history.proofs.EntryLemmas.{one_entry}
use Rattle.vg_history.proofs.HistoryLemmas.{holds_append, allowed_append, updated_other, updated_own, allowed_other}
use Rattle.vg_book.specs.declared.board.Order.{Order}
use Rattle.vg_book.specs.declared.board.Finished.{Finished}
use Rattle.vg_book.specs.declared.board.Account.{Account}
use Rattle.vg_book.specs.Views.{order_call, entry_of, IsEntryOf, without, calls, drawn, ordered_of, settled, given_up, entered}
use Rattle.vg_book.specs.Kept.{Known, Numbered, Accounted, IsFresh}
use Rattle.vg_book.proofs.Updates.{has_of_without, has_without, times_without}

module _ {M S A R Q P H W : Type 0} (g : Ghosts M S A R Q P H W) where
  abbrev E : Type 0
  E = Entry M S A R Q P H W

  abbrev Acc : Type 0
  Acc = Account M S A R Q P H W

  abbrev Ord : Type 0
  Ord = Order M S A R Q P H W

  -- the entry is another client's, or the command of an order that is out
  abbrev pub Fits : E → Acc → Type 0
  Fits e a = (client_of e ≢ a.number) ⊎ ((o : Ord) × Has a.out o × IsEntryOf o e)

  pub numbers_below : (a : Acc) → Numbered g a → (n : ℕ) → Has (calls a) n → n ≤ a.used
  numbers_below a numbers n h = (upto_has a.used n (has_times n (upto a.used) (omega (arith, times_has n (calls a) h, numbers n)))).1

  pub out_below : (a : Acc) → Numbered g a → (o : Ord) → Has a.out o → o.call ≤ a.used
  out_below a numbers o h = numbers_below a numbers o.call (has_right (map call_of a.mine) (map order_call a.out ++ a.spent) o.call (has_left (map order_call a.out) a.spent o.call (has_map order_call a.out o h)))

  pub mine_below : (a : Acc) → Numbered g a → (e : E) → Has a.mine e → call_of e ≤ a.used
  mine_below a numbers e h = numbers_below a numbers (call_of e) (has_left (map call_of a.mine) (map order_call a.out ++ a.spent) (call_of e) (has_map call_of a.mine e h))

  entry_call : (o : Ord) (e : E) → IsEntryOf o e → (client_of e ≡ o.client) × (call_of e ≡ o.call)
  entry_call o e t = (ap client_of t.1, ap call_of t.1)

  -- the client's next number is new
  pub call_below : (log : List E) (a : Acc) → Known g log a → Numbered g a → (e : E) → Has log e → client_of e ≡ a.number → call_of e ≤ a.used
  call_below log a known numbers e h own = ⊎_elim (λ m. mine_below a numbers e m)
      (λ (t : (o : Ord) × Has a.out o × IsEntryOf o e). let same = (entry_call t.0 e t.2).1 in let b = out_below a numbers t.0 t.1 in omega arith) (known e h own)

  updated_fits : (a : Acc) (h : H) (e : E) → Fits e a → updated g a.number h e ≡ h
  updated_fits a h e (inl ne) = updated_other g a.number h e ne
  updated_fits a h e (inr t) = subst (λ (x : E). updated g a.number h x ≡ h) (sym t.2.1) refl

  allowed_fits : (a : Acc) (e : E) → ((o : Ord) → Has a.out o → (o.client ≡ a.number) × (g.allows a.holds o.request ≡ true)) → Fits e a → IsAllowed g a.number a.holds e
  allowed_fits a e outs (inl ne) = allowed_other g a.number a.holds e ne
  allowed_fits a e outs (inr t) = subst (λ (x : E). IsAllowed g a.number a.holds x) (sym t.2.1) (λ _. (outs t.0 t.1).1)

  -- an entry that fits an account leaves it as it is
  pub grown : (log : List E) (a : Acc) (e : E) → Accounted g log a → Fits e a → Accounted g (log ++ e ∷ []) a
  grown log a e is fits = record {
    number = is.number;
    mine = λ f h. (has_left log (e ∷ []) f (is.mine f h).0, (is.mine f h).1);
    known = λ f h own. ⊎_elim (λ old. is.known f old own)
        (λ (same : e ≡ f). ⊎_elim (λ ne. absurd (ne (ap client_of same ∙ own))) (λ (t : (o : Ord) × Has a.out o × IsEntryOf o e). inr (t.0, t.1, subst (λ (x : E). IsEntryOf t.0 x) same t.2)) fits)
        (has_snoc log e f h);
    numbers = is.numbers;
    outs = is.outs;
    allowed = allowed_append g a.number a.opening log (e ∷ []) is.allowed (subst (λ (h : H). IsAllowed g a.number h e) (sym is.held) (allowed_fits a e is.outs fits), tt);
    held = holds_append g a.number a.opening log (e ∷ []) ∙ (ap (λ (h : H). updated g a.number h e) is.held ∙ updated_fits a a.holds e fits);
  }

  calls_more : (a : Acc) (e : E) (n : ℕ) → times n (map call_of (a.mine ++ e ∷ []) ++ (map order_call a.out ++ a.spent)) ≡ times n (calls a) + bit (call_of e == n)
  calls_more a e n = let m = ap (λ (l : List ℕ). times n (l ++ (map order_call a.out ++ a.spent))) (map-append call_of a.mine (e ∷ [])) in
      omega (arith, m, times_append n (map call_of a.mine ++ call_of e ∷ []) (map order_call a.out ++ a.spent), times_append n (map call_of a.mine) (call_of e ∷ []), times_append n (map call_of a.mine) (map order_call a.out ++ a.spent))

  upto_more : (u n : ℕ) → times n (upto (u + 1)) ≡ times n (upto u) + bit (u + 1 == n)
  upto_more u n = let e : u + 1 ≡ suc u = omega arith in
      subst (λ (k : ℕ). times n (upto k) ≡ times n (upto u) + bit (k == n)) (sym e) (omega (arith, times_append n (upto u) (suc u ∷ [])))

  -- the account after an act of its client
  pub acted : (laws : (h : H) (a : A) (r : R) (q : Q) → g.ends_hold a ≡ false → g.allows h q ≡ true → g.allows (g.update h a r) q ≡ true)
      → (log : List E) (a : Acc) (act : A) (r : R) → Accounted g log a → (g.ends_hold act ≡ false) ⊎ (a.out ≡ []) → Accounted g (log ++ Act a.number (a.used + 1) act r ∷ []) (entered g.update a (Act a.number (a.used + 1) act r))
  acted laws log a act r is may = let e : E = Act a.number (a.used + 1) act r in record {
    number = is.number;
    mine = λ f h. ⊎_elim (λ old. (has_left log (e ∷ []) f (is.mine f old).0, (is.mine f old).1)) (λ same. (subst (λ (x : E). Has (log ++ e ∷ []) x) same (has_last log e), ap client_of (sym same))) (has_snoc a.mine e f h);
    known = λ f h own. ⊎_elim (λ old. ⊎_elim (λ m. inl (has_left a.mine (e ∷ []) f m)) (λ o. inr o) (is.known f old own)) (λ (same : e ≡ f). inl (subst (λ (x : E). Has (a.mine ++ e ∷ []) x) same (has_last a.mine e))) (has_snoc log e f h);
    numbers = λ n. omega (arith, calls_more a e n, upto_more a.used n, is.numbers n);
    outs = λ o h. ((is.outs o h).0, ⊎_elim (λ keeps. laws a.holds act r o.request keeps (is.outs o h).1) (λ (none_out : a.out ≡ []). absurd (subst (λ (l : List Ord). Has l o) none_out h)) may);
    allowed = allowed_append g a.number a.opening log (e ∷ []) is.allowed (tt, tt);
    held = holds_append g a.number a.opening log (e ∷ []) ∙ (ap (λ (h : H). updated g a.number h e) is.held ∙ updated_own g a.number (a.used + 1) a.holds act r);
  }

  -- the account after its client made a request
  pub draws : (log : List E) (a : Acc) (q : Q) → Accounted g log a → g.allows a.holds q ≡ true → Accounted g log (drawn a q)
  draws log a q is may = let o : Ord = ordered_of a q in record {
    number = is.number;
    mine = is.mine;
    known = λ f h own. ⊎_elim (λ m. inl m) (λ (t : (o' : Ord) × Has a.out o' × IsEntryOf o' f). inr (t.0, has_left a.out (o ∷ []) t.0 t.1, t.2)) (is.known f h own);
    numbers = λ n. let m = ap (λ (l : List ℕ). times n (map call_of a.mine ++ (l ++ a.spent))) (map-append order_call a.out (o ∷ [])) in
        omega (
          arith,
          m,
          upto_more a.used n,
          is.numbers n,
          times_append n (map call_of a.mine) ((map order_call a.out ++ o.call ∷ []) ++ a.spent),
          times_append n (map order_call a.out ++ o.call ∷ []) a.spent,
          times_append n (map order_call a.out) (o.call ∷ []),
          times_append n (map call_of a.mine) (map order_call a.out ++ a.spent),
          times_append n (map order_call a.out) a.spent,
        );
    outs = λ x h. ⊎_elim (λ old. is.outs x old) (λ (same : o ≡ x). subst (λ (y : Ord). (y.client ≡ a.number) × (g.allows a.holds y.request ≡ true)) same (refl, may)) (has_snoc a.out o x h);
    allowed = is.allowed;
    held = is.held;
  }

  -- the account after an order of it came back with its entry
  pub settles : (log : List E) (a : Acc) (f : Finished M S A R Q P H W) → Accounted g log a → EachOnce log → Has a.out f.order → f.order.client ≡ a.number → Has log (entry_of f) → Accounted g log (settled a f)
  settles log a f is once out own stands = let e : E = entry_of f in record {
    number = is.number;
    mine = λ x h. ⊎_elim (λ old. is.mine x old) (λ (same : e ≡ x). subst (λ (y : E). Has log y × (client_of y ≡ a.number)) same (stands, own)) (has_snoc a.mine e x h);
    known = λ x h mine. ⊎_elim (λ m. inl (has_left a.mine (e ∷ []) x m))
        (λ (t : (o : Ord) × Has a.out o × IsEntryOf o x). let c = entry_call t.0 x t.2 in
        ⊎_elim (λ (same : t.0.call ≡ f.order.call). inl (subst (λ (y : E). Has (a.mine ++ e ∷ []) y) (one_entry log e x once stands h (own ∙ sym mine, sym same ∙ sym c.1)) (has_last a.mine e)))
        (λ (ne : t.0.call ≢ f.order.call). inr (t.0, has_without f.order.call a.out t.0 t.1 ne, t.2)) (same_or_not t.0.call f.order.call))
        (is.known x h mine);
    numbers = λ n. let m = ap (λ (l : List ℕ). times n (l ++ (map order_call (without f.order.call a.out) ++ a.spent))) (map-append call_of a.mine (e ∷ [])) in
        omega (
          arith,
          m,
          is.numbers n,
          times_without n a.out f.order out,
          times_append n (map call_of a.mine ++ f.order.call ∷ []) (map order_call (without f.order.call a.out) ++ a.spent),
          times_append n (map call_of a.mine) (f.order.call ∷ []),
          times_append n (map order_call (without f.order.call a.out)) a.spent,
          times_append n (map call_of a.mine) (map order_call a.out ++ a.spent),
          times_append n (map order_call a.out) a.spent,
        );
    outs = λ x h. is.outs x (has_of_without f.order.call a.out x h);
    allowed = is.allowed;
    held = is.held;
  }

  -- the account after an order of it came back unrun
  pub gives_up : (log : List E) (a : Acc) (o : Ord) → Accounted g log a → Has a.out o → o.client ≡ a.number → IsFresh g log o → Accounted g log (given_up a o)
  gives_up log a o is out own fresh = record {
    number = is.number;
    mine = is.mine;
    known = λ x h mine. ⊎_elim (λ m. inl m)
        (λ (t : (o' : Ord) × Has a.out o' × IsEntryOf o' x). let c = entry_call t.0 x t.2 in
        ⊎_elim (λ (same : t.0.call ≡ o.call). absurd (fresh x h (mine ∙ sym own) (c.1 ∙ same))) (λ (ne : t.0.call ≢ o.call). inr (t.0, has_without o.call a.out t.0 t.1 ne, t.2)) (same_or_not t.0.call o.call))
        (is.known x h mine);
    numbers = λ n. omega (
      arith,
      is.numbers n,
      times_without n a.out o out,
      times_append n (map call_of a.mine) (map order_call (without o.call a.out) ++ (a.spent ++ o.call ∷ [])),
      times_append n (map order_call (without o.call a.out)) (a.spent ++ o.call ∷ []),
      times_append n a.spent (o.call ∷ []),
      times_append n (map call_of a.mine) (map order_call a.out ++ a.spent),
      times_append n (map order_call a.out) a.spent,
    );
    outs = λ x h. is.outs x (has_of_without o.call a.out x h);
    allowed = is.allowed;
    held = is.held;
  }
