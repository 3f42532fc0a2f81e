-- Clients that are made for jobs, one each, and what the jobs give is taken in.
use Rattle.std.proofs.Common.{◌≡◌, ℕ, suc, ◌+◌, ◌<◌, ◌≤◌, inl, inr, List, [], ◌∷◌, ◌++◌, map, refl, ap, sym, subst, ◌∙◌, arith, append_assoc, Option}
use Rattle.std.specs.Prelude.{All, Result, Ok, IfOk}
use Rattle.std.proofs.lemmas.List.{map-append}
use Rattle.std.proofs.lemmas.List.Elements.{All-append, All-nil}
use Rattle.std.proofs.lemmas.Simd.{map-map}
use Rattle.vg_history.specs.declared.machine.Machine.{Ghosts}
use Rattle.vg_history.specs.Lists.{Has, upto}
use Rattle.vg_history.proofs.ListLemmas.{has_map, map_has, has_upto, upto_more}
use Rattle.vg_book.specs.declared.board.Counted.{Counted}
use Rattle.std.specs.declared.alloc.AllocError.{AllocError}
use Rattle.vg_laws.proofs.Lists.{all_one}
use Rattle.vg_book.specs.Kept.{IsHistory}
use Rattle.vg_book.specs.Tokens.{AllJoined, MakesClient, TakesIn}
use Rattle.vg_book_uses.specs.declared.counter.Act.{Act}
use Rattle.vg_book_uses.specs.declared.counter.Counter.{Counter}
use Rattle.vg_book_uses.specs.declared.counter.Request.{Request}
use Rattle.vg_jobs.specs.Jobs.{AllGive}
use Rattle.vg_jobs.proofs.JobLemmas.{all_of_map, given_all, given_ok, given_same, ok_more}
use Rattle.vg_book_uses.specs.Adding.{E, Cl, Ro, number_of, account_of, AreNew, HasTakenAll, IsNew, IsRootWith}

module _ (g : Ghosts Counter Counter Act ℕ Request ℕ ℕ Request) where
  module _ {X : Type 0} (client : X → Cl) (held : ℕ) (Fits : X → Type 0) where
    -- So many new clients were made, for jobs that have them.
    abbrev pub IsMade : ℕ → Ro → Ro → List X → Type 0
    IsMade n r s js = IsRootWith n r s × AreNew g r.start held n (map client js) × All Fits js

    pub made_none : (r : Ro) → (r.given ≡ 0) × (r.accounts ≡ []) × (r.lanes ≡ []) → (js : List X) → js ≡ [] → IsMade 0 r r js
    made_none r first js e = subst (λ (xs : List X). IsMade 0 r r xs) (sym e) (
      record { given = first.0; accounts = first.1; lanes = first.2; lanes_made = refl; start = refl },
      record { numbers = refl; new = All-nil _ },
      All-nil _,
    )

    pub made_more : (n : ℕ) (r s t : Ro) (c : Cl) (js ks : List X) (j : X) → IsMade n r s js → MakesClient g s held t c → client j ≡ c → Fits j → ks ≡ js ++ j ∷ [] → IsMade (n + 1) r t ks
    made_more n r s t c js ks j h m is fits e =
        let root = h.0 in
        let number : c.account.number ≡ n + 1 = ap (λ x. x.account.number) m.client ∙ ap (λ k. k + 1) root.given in
        let numbers : map number_of (map client (js ++ j ∷ [])) ≡ upto (n + 1) =
        ap (map number_of) (map-append client js (j ∷ [])) ∙ (map-append number_of (map client js) (client j ∷ [])
        ∙ (ap (λ ns. ns ++ number_of (client j) ∷ []) h.1.numbers ∙ (ap (λ k. upto n ++ k ∷ []) (ap number_of is ∙ number) ∙ upto_more n))) in
        let starts = m.start ∙ sym (ap (λ x. x.start) m.client) in
        let sees = sym (ap (λ x. x.seen) m.client) in
        let new : IsNew g r.start held c = record {
          used = ap (λ x. x.account.used) m.client;
          holds = ap (λ x. x.account.holds) m.client;
          mine = ap (λ x. x.account.mine) m.client;
          out = ap (λ x. x.account.out) m.client;
          spent = ap (λ x. x.account.spent) m.client;
          start = ap (λ x. x.start) m.client ∙ root.start;
          is_known = record { history = subst (λ (x : Option Counter × List E). IsHistory g x.0 x.1) (λ i. (starts i, sees i)) m.history; known = m.known };
        } in
        let root' : IsRootWith (n + 1) r t = record {
          given = m.given ∙ ap (λ k. k + 1) root.given;
          accounts = m.accounts ∙ root.accounts;
          lanes = m.lanes ∙ root.lanes;
          lanes_made = m.lanes_made ∙ root.lanes_made;
          start = m.start ∙ root.start;
        } in
        let all : All (IsNew g r.start held) (map client (js ++ j ∷ [])) =
        subst (λ (xs : List Cl). All (IsNew g r.start held) xs) (sym (map-append client js (j ∷ [])))
        (All-append (IsNew g r.start held) (map client js) (client j ∷ []) h.1.new (all_one (IsNew g r.start held) (client j) (subst (λ x. IsNew g r.start held x) (sym is) new))) in
        subst (λ (xs : List X). IsMade (n + 1) r t xs) (sym e) (root', record { numbers = numbers; new = all }, All-append Fits js (j ∷ []) h.2 (all_one Fits j fits))

    -- Each job gives its client, with the same number and nothing outstanding.
    module _ (Gave : X → Cl → Type 0) (same : (j : X) (c : Cl) → Gave j c → c.account.number ≡ (client j).account.number)
        (idle : (first : Option Counter) (j : X) (c : Cl) → IsNew g first held (client j) → Gave j c → c.account.out ≡ []) where
      abbrev pub Gives : X → Result Cl AllocError → Type 0
      Gives j result = IfOk result (Gave j)

      pub with_nothing_out : (first : Option Counter) (js : List X) (ds : List (Result Cl AllocError)) → AllGive Gives js ds → All (λ j. IsNew g first held (client j)) js → All (λ d. IfOk d (λ c. c.account.out ≡ [])) ds
      with_nothing_out first js ds h new = given_all Gives (λ j. IsNew g first held (client j)) (λ d. IfOk d (λ c. c.account.out ≡ [])) js ds h new
          (λ j d is gave. ok_more d (Gave j) (λ c. c.account.out ≡ []) gave (λ c a. idle first j c is a))

      same_numbers : (js : List X) (cs : List Cl) → AllGive Gives js (map Ok cs) → map number_of cs ≡ map number_of (map client js)
      same_numbers js cs h = given_same Gave (λ j. number_of (client j)) number_of js cs (given_ok AllocError Gave js cs h) same ∙ sym (map-map number_of client js)

      -- The job that gave a client.
      giver : (first : Option Counter) (js : List X) (cs : List Cl) → AllGive Gives js (map Ok cs) → All (λ j. IsNew g first held (client j)) js → All Fits js
          → (c : Cl) → Has cs c → (j : X) × IsNew g first held (client j) × Fits j × Gave j c
      giver first js [] h new fits c at = absurd at
      giver first [] (d ∷ cs) h new fits c at = absurd h
      giver first (j ∷ js) (d ∷ cs) h new fits c (inl e) = (j, new 0 j (omega arith), fits 0 j (omega arith), subst (λ x. Gave j x) e h.0)
      giver first (j ∷ js) (d ∷ cs) h new fits c (inr at) = giver first js cs h.1 (λ i y l. new (suc i) y (omega arith)) (λ i y l. fits (suc i) y (omega arith)) c at

      module _ (first : Option Counter) (count : ℕ) (js : List X) (cs : List Cl) (new : AreNew g first held count (map client js)) (fits : All Fits js)
          (ds : List (Result Cl AllocError)) (gave : AllGive Gives js ds) (all_ok : ds ≡ map Ok cs) where
        gives : AllGive Gives js (map Ok cs)
        gives = subst (λ (xs : List (Result Cl AllocError)). AllGive Gives js xs) all_ok gave

        -- The client with this number, and its job.
        pub found : (n : ℕ) → 0 < n → n ≤ count → (c : Cl) × Has cs c × (c.account.number ≡ n) × ((j : X) × IsNew g first held (client j) × Fits j × Gave j c)
        found n low high =
            let c = map_has number_of cs n (subst (λ (ns : List ℕ). Has ns n) (sym (same_numbers js cs gives ∙ new.numbers)) (has_upto count n low high)) in
            (c.0, c.1, c.2, giver first js cs gives (all_of_map (IsNew g first held) client js new.new) fits c.0 c.1)

        pub all_joined : (r : Ro) → r.given ≡ count → r.accounts ≡ map account_of cs → ((l : ℕ) → l < r.lanes_made → (x : Counted) × Has r.lanes x × (x.lane ≡ l)) → AllJoined g r
        all_joined r given accounts lanes = record {
          clients = λ n low high.
              let c = found n low (omega arith) in
              (c.0.account, subst (λ as'. Has as' c.0.account) (sym accounts) (has_map account_of cs c.0 c.1), c.2);
          lanes = lanes;
        }

  pub taken_more : (r s t : Ro) (ys : List (Result Cl AllocError)) (y : Result Cl AllocError) (c : Cl) → HasTakenAll r ys s → y ≡ Ok c → TakesIn g s c.seen t → t.accounts ≡ s.accounts ++ c.account ∷ [] → t.lanes ≡ s.lanes → HasTakenAll r (ys ++ y ∷ []) t
  taken_more r s t ys y c h e takes accounts lanes = record {
    given = takes.given ∙ h.given;
    lanes = lanes ∙ h.lanes;
    lanes_made = takes.lanes_made ∙ h.lanes_made;
    start = takes.start ∙ h.start;
    taken = (
      h.taken.0 ++ c ∷ [],
      ap (λ l. l ++ y ∷ []) h.taken.1 ∙ (ap (λ z. map Ok h.taken.0 ++ z ∷ []) e ∙ sym (map-append Ok h.taken.0 (c ∷ []))),
      accounts ∙ (ap (λ l. l ++ c.account ∷ []) h.taken.2 ∙ (append_assoc r.accounts (map account_of h.taken.0) (c.account ∷ []) ∙ ap (λ l. r.accounts ++ l) (sym (map-append account_of h.taken.0 (c ∷ []))))),
    );
  }
