-- A client's next call stands behind those of its calls that it has seen.
use Rattle.std.proofs.Common.{◌≡◌, ⊎_elim, ℕ, ◌+◌, ◌<◌, ◌≤◌, true, List, [], ◌∷◌, ◌++◌, map, Option, sym, ap, subst, ◌∙◌, arith, append_assoc}
use mathlib.Core.List.{IsPrefix}
use Rattle.vg_history.specs.declared.machine.Machine.{Ghosts}
use Rattle.vg_history.specs.declared.entry.Entry.{Entry}
use Rattle.vg_history.specs.declared.entry.Entry.TheVariants.{Act}
use Rattle.vg_history.specs.Lists.{Has, upto}
use Rattle.vg_history.specs.Entries.{call_of, EachOnce}
use Rattle.vg_history.proofs.ListLemmas.{has_append, has_times, has_upto, map_has, prefix_more, times_has}
use Rattle.vg_book.specs.declared.board.Account.{Account}
use Rattle.vg_book.specs.Kept.{Accounted, IsHistory}
use Rattle.vg_book.specs.Own.{own}
use Rattle.vg_book.specs.Places.{HasCall, IsCurrent, IsPlaced, begun_of}
use Rattle.vg_book.specs.Tokens.{Acted, Client, Done, Drawn, IsClosed, MakesClient, Passed, Rooted, TakesBack, Watched}
use Rattle.vg_book.specs.Views.{calls, order_call}
use Rattle.vg_book.proofs.Accounts.{call_below, draws}
use Rattle.vg_book.proofs.OwnLemmas.{own_same}

module _ {M S A R Q P H W : Type 0} (g : Ghosts M S A R Q P H W) where
  abbrev En : Type 0
  En = Entry M S A R Q P H W

  abbrev Acc : Type 0
  Acc = Account M S A R Q P H W

  abbrev Cl : Type 0
  Cl = Client M S A R Q P H W

  -- a number that wasn't drawn is no entry's
  pub above : (c : Cl) (i : ℕ) → IsCurrent g c → c.account.used < i → HasCall c.seen c.account.number i → ⊥
  above c i is more (e, has, owner, call) = let below = call_below g c.seen c.account is.known.known is.known.numbers e has owner in absurd (omega (arith, below, call, more))

  -- a number that was drawn is an entry's, or that of an order that is out
  drawn_before : (c : Cl) (i : ℕ) → IsCurrent g c → 0 < i → i ≤ c.account.used → (Has (begun_of c.account) i → ⊥) → HasCall c.seen c.account.number i
  drawn_before c i is low high ready =
      let a = c.account in
      let once = times_has i (upto a.used) (has_upto a.used i low high) in
      let among : Has (calls a) i = has_times i (calls a) (omega (arith, once, is.known.numbers i)) in
      let spent : Has a.spent i → ⊥ = λ h. subst (λ (ns : List ℕ). Has ns i) is.whole h in
      ⊎_elim (λ h. let e = map_has call_of a.mine i h in let m = is.known.mine e.0 e.1 in (e.0, m.0, m.1, e.2))
      (λ h. ⊎_elim (λ out. absurd (ready out)) (λ s. absurd (spent s)) (has_append (map order_call a.out) a.spent i h))
      (has_append (map call_of a.mine) (map order_call a.out ++ a.spent) i among)

  pub all_seen : (c : Cl) (i : ℕ) → IsCurrent g c → c.account.out ≡ [] → 0 < i → i ≤ c.account.used → HasCall c.seen c.account.number i
  all_seen c i is idle low high = drawn_before c i is low high (λ h. subst (λ (ns : List ℕ). Has ns i) (ap (map order_call) idle) h)

  pub next_placed : (c : Cl) (es : List En) → IsCurrent g c → IsPrefix c.seen es → IsPlaced es c.account.number (begun_of c.account) (c.account.used + 1)
  next_placed c es is more i low below ready = record {
    front = c.seen;
    begins = more;
    has = drawn_before c i is low (omega (arith, below)) ready;
    apart = above c (c.account.used + 1) is (omega arith);
  }

  pub made_current : (r s : Rooted M S A R Q P H W) (h : H) (c : Cl) → MakesClient g r h s c → IsCurrent g c
  made_current r s h c t =
      let start : c.start ≡ s.start = ap (λ (x : Cl). x.start) t.client ∙ sym t.start in
      let seen : c.seen ≡ s.seen = ap (λ (x : Cl). x.seen) t.client in
      record {
        known = t.known;
        history = subst (λ (x : Option S × List En). IsHistory g x.0 x.1) (λ i. ((sym start) i, (sym seen) i)) t.history;
        whole = ap (λ (x : Cl). x.account.spent) t.client;
      }

  pub watched_current : (c d : Cl) → IsCurrent g c → Watched g c d → IsCurrent g d
  watched_current c d is t = record { known = t.known; history = t.history; whole = ap (λ (a : Acc). a.spent) t.account ∙ is.whole }

  pub act_current : (c d : Cl) (act : A) (number : ℕ) (reply : R) → IsCurrent g c → Acted g c act d number reply → IsCurrent g d × IsPlaced d.seen c.account.number (begun_of c.account) (c.account.used + 1)
  act_current c d act number reply is t =
      let e : En = Act c.account.number (c.account.used + 1) act reply in
      let more : IsPrefix c.seen d.seen = subst (λ (es : List En). IsPrefix c.seen es) (sym t.seen) (prefix_more c.seen t.log (e ∷ []) t.more) in
      let current : IsCurrent g d = record { known = t.known; history = t.history; whole = ap (λ (a : Acc). a.spent) t.account ∙ is.whole } in
      (current, next_placed c d.seen is more)

  pub drawn_current : (c d : Cl) (q : Q) (p : Passed M S A R Q P H W) → IsCurrent g c → Drawn g c q d p → g.allows c.account.holds q ≡ true → IsCurrent g d
  drawn_current c d q p is t may = record {
    known = subst (λ (x : List En × Acc). Accounted g x.0 x.1) (λ i. ((sym t.seen) i, (sym t.account) i)) (draws g c.seen c.account q is.known may);
    history = subst (λ (x : Option S × List En). IsHistory g x.0 x.1) (λ i. ((sym t.start) i, (sym t.seen) i)) is.history;
    whole = ap (λ (a : Acc). a.spent) t.account ∙ is.whole;
  }

  pub back_current : (b d : Cl) (f : Done M S A R Q P H W) → b.account.spent ≡ [] → TakesBack g b f d → IsCurrent g d
  back_current b d f whole t = record { known = t.known; history = t.history; whole = ap (λ (a : Acc). a.spent) t.account ∙ whole }

  pub closed_own : (r : Rooted M S A R Q P H W) (machine : M) (es : List En) (c : Cl) → IsClosed g r machine es → Has r.accounts c.account → IsPrefix c.seen r.seen → IsCurrent g c → own c.account.number es ≡ own c.account.number c.seen
  closed_own r machine es c t joined more is =
      let whole : es ≡ c.seen ++ (more.0 ++ t.more.0) = sym t.more.1 ∙ ap (λ s. s ++ t.more.0) (sym more.1) ∙ append_assoc c.seen more.0 t.more.0 in
      ap (own c.account.number) whole
      ∙ own_same c.account.number c.seen (more.0 ++ t.more.0) (subst EachOnce whole t.history.once)
      (λ f h at. (is.known.mine f (t.mine c.account joined f (subst (λ (s : List En). Has s f) (sym whole) h) at)).0)
