-- What a client that adds knows of its entries, one act at a time.
use Rattle.std.proofs.Common.{◌≡◌, ℕ, ◌+◌, ◌<◌, ◌≤◌, List, [], ◌∷◌, ◌++◌, length, map, refl, ap, sym, subst, ◌∙◌, arith, append_assoc, length-append, Option}
use Rattle.std.specs.Prelude.{All, Result, Ok}
use Rattle.std.proofs.lemmas.List.{append-nil}
use mathlib.Core.List.{IsPrefix}
use Rattle.vg_history.specs.declared.machine.Machine.{Ghosts}
use Rattle.vg_history.specs.declared.entry.Entry.TheVariants as entries
use Rattle.vg_history.proofs.ListLemmas.{prefix_self, prefix_more, prefix_trans, has_map}
use Rattle.vg_history.specs.Lists.{Has}
use Rattle.std.specs.declared.alloc.AllocError.{AllocError}
use Rattle.vg_book.specs.Tokens.{Acted, IsClosed}
use Rattle.vg_book_uses.specs.declared.counter.Act.{Act}
use Rattle.vg_book_uses.specs.declared.counter.Act.TheVariants.{Add}
use Rattle.vg_book_uses.specs.declared.counter.Counter.{Counter}
use Rattle.vg_book_uses.specs.declared.counter.Request.{Request}
use Rattle.vg_book_uses.proofs.CrewLemmas.{Gives, found}
use Rattle.vg_jobs.specs.Jobs.{AllGive}
use Rattle.vg_book_uses.specs.Adding.{E, Cl, Ro, account_of, AreAdds, AreNew, HasAdded, HaveAllAdded, IsAddedBy, IsKnown, IsNew}

adds_snoc : (client used k reply : ℕ) (es : List E) → AreAdds client used es → k ≡ (used + length es) + 1 → AreAdds client used (es ++ entries.Act client k (Add 1) reply ∷ [])
adds_snoc client used k reply [] h e = (refl, e ∙ omega arith, refl, tt)
adds_snoc client used k reply (entries.Act c j act r ∷ es) h e = (h.0, h.1, h.2, adds_snoc client (used + 1) k reply es h.3 (e ∙ omega arith))
adds_snoc client used k reply (entries.Command c j request r ∷ es) h e = absurd h

module _ (g : Ghosts Counter Counter Act ℕ Request ℕ ℕ Request) where
  pub added_none : (c : Cl) → IsKnown g c → HasAdded g c 0 c
  added_none c known = record {
    number = refl;
    opening = refl;
    holds = refl;
    used = omega arith;
    out = refl;
    spent = refl;
    added = ([], sym (append-nil c.account.mine), refl, tt);
    more = prefix_self c.seen;
    start = refl;
    is_known = known;
  }

  pub added_more : ((h r : ℕ) → g.update h (Add 1) r ≡ h) → (c d e : Cl) (n k number reply : ℕ) → HasAdded g c n d → Acted g d (Add 1) e number reply → k ≡ n + 1 → HasAdded g c k e
  added_more keeps c d e n k number reply h act is =
      let a = act.account in
      let es = h.added.0 in
      let mine : e.account.mine ≡ c.account.mine ++ (es ++ entries.Act c.account.number (d.account.used + 1) (Add 1) reply ∷ []) =
      ap (λ x. x.mine) a ∙ (ap (λ xs. xs ++ entries.Act d.account.number (d.account.used + 1) (Add 1) reply ∷ []) h.added.1
      ∙ (ap (λ m. (c.account.mine ++ es) ++ entries.Act m (d.account.used + 1) (Add 1) reply ∷ []) h.number ∙ append_assoc c.account.mine es _)) in
      let used : e.account.used ≡ c.account.used + k = ap (λ x. x.used) a ∙ omega (arith, h.used, is) in
      let count : length (es ++ entries.Act c.account.number (d.account.used + 1) (Add 1) reply ∷ []) ≡ k = omega (arith, length-append es (entries.Act c.account.number (d.account.used + 1) (Add 1) reply ∷ []), h.added.2, is) in
      record {
        number = ap (λ x. x.number) a ∙ h.number;
        opening = ap (λ x. x.opening) a ∙ h.opening;
        holds = ap (λ x. x.holds) a ∙ (keeps d.account.holds reply ∙ h.holds);
        used = used;
        out = ap (λ x. x.out) a ∙ h.out;
        spent = ap (λ x. x.spent) a ∙ h.spent;
        added = (es ++ entries.Act c.account.number (d.account.used + 1) (Add 1) reply ∷ [], mine, count, adds_snoc c.account.number c.account.used (d.account.used + 1) reply es h.added.3 (omega (arith, h.used, h.added.2)));
        more = prefix_trans c.seen d.seen e.seen h.more (prefix_trans d.seen act.log e.seen act.more (subst (λ xs. IsPrefix act.log xs) (sym act.seen) (prefix_more act.log act.log _ (prefix_self act.log))));
        start = act.start ∙ h.start;
        is_known = record { history = act.history; known = act.known };
      }

  -- What a job that adds gives.
  module _ {X : Type 0} (client : X → Cl) (times_of : X → ℕ) (times : ℕ) where
    abbrev pub Fits : X → Type 0
    Fits j = times_of j ≡ times

    abbrev pub Gave : X → Cl → Type 0
    Gave j c = HasAdded g (client j) (times_of j) c

    pub same : (j : X) (c : Cl) → Gave j c → c.account.number ≡ (client j).account.number
    same j c h = h.number

    pub idle : (first : Option Counter) (j : X) (c : Cl) → IsNew g first 0 (client j) → Gave j c → c.account.out ≡ []
    idle first j c new h = h.out ∙ new.out

    module _ (first : Option Counter) (count : ℕ) (js : List X) (cs : List Cl) (new : AreNew g first 0 count (map client js)) (fits : All Fits js)
        (ds : List (Result Cl AllocError)) (gave : AllGive (Gives g client 0 Fits Gave same idle) js ds) (all_ok : ds ≡ map Ok cs) where
      added_by : (r : Ro) (m : Counter) (H : List E) → r.accounts ≡ map account_of cs → IsClosed g r m H → (n : ℕ) → 0 < n → n ≤ count → IsAddedBy n times H
      added_by r m H accounts closed n low high =
          let c = found g client 0 Fits Gave same idle first count js cs new fits ds gave all_ok n low high in
          let has : Has r.accounts c.0.account = subst (λ as'. Has as' c.0.account) (sym accounts) (has_map account_of cs c.0 c.1) in
          let j = c.3.0 in
          let h : HasAdded g (client j) times c.0 = subst (λ (k : ℕ). HasAdded g (client j) k c.0) c.3.2 c.3.3 in
          let es = h.added.0 in
          let mine : c.0.account.mine ≡ es = h.added.1 ∙ ap (λ xs. xs ++ es) c.3.1.mine in
          let number : (client j).account.number ≡ n = sym h.number ∙ c.2 in (
            es,
            h.added.2,
            subst (λ (x : ℕ × ℕ). AreAdds x.0 x.1 es) (λ i. (number i, c.3.1.used i)) h.added.3,
            (λ e at. ((closed.known c.0.account has).mine e (subst (λ (xs : List E). Has xs e) (sym mine) at)).0),
            (λ e at is. subst (λ (xs : List E). Has xs e) mine (closed.mine c.0.account has e at (is ∙ sym c.2))),
          )

      pub have_all_added : (r : Ro) (m : Counter) (H : List E) → r.given ≡ count → r.accounts ≡ map account_of cs → IsClosed g r m H → HaveAllAdded count times H
      have_all_added r m H given accounts closed = record {
        each = added_by r m H accounts closed;
        only = λ e at. let w = closed.clients e at in (w.0, omega arith);
      }
