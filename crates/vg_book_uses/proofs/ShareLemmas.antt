-- Clients that add and ask, and lanes that serve, on threads.
use Rattle.std.proofs.Common.{◌≡◌, ℕ, zero, suc, ◌+◌, ◌<◌, ◌≤◌, List, [], ◌∷◌, ◌++◌, map, refl, ap, sym, subst, ◌∙◌, arith, append_assoc, Option, Some, None}
use Rattle.std.specs.Prelude.{All, Result, Ok}
use Rattle.std.proofs.lemmas.List.{map-append}
use Rattle.std.proofs.lemmas.List.Elements.{All-append, All-nil}
use mathlib.Core.Logic.{dite}
use native.Mathlib.Decide.{ℕ_discrete}
use mathlib.Core.List.{IsPrefix}
use Rattle.vg_history.specs.declared.machine.Machine.{Ghosts}
use Rattle.vg_history.specs.Lists.{Has}
use Rattle.vg_history.proofs.ListLemmas.{prefix_self, prefix_more, prefix_trans, has_map, map_has, has_left, has_last}
use Rattle.vg_book.specs.declared.board.Counted.{Counted}
use Rattle.std.specs.declared.alloc.AllocError.{AllocError}
use Rattle.vg_laws.proofs.Lists.{all_one}
use Rattle.vg_book.specs.Opening.{first_lanes}
use Rattle.vg_book.specs.Tokens.{Acted, IsClosed}
use Rattle.vg_book_uses.specs.declared.counter.Act.{Act}
use Rattle.vg_book_uses.specs.declared.counter.Act.TheVariants.{Add}
use Rattle.vg_book_uses.specs.declared.counter.Counter.{Counter}
use Rattle.vg_book_uses.specs.declared.counter.Request.{Request}
use Rattle.vg_jobs.specs.Jobs.{AllGive}
use Rattle.vg_book_uses.specs.Adding.{E, Cl, Ro, account_of, AreNew, IsNew}
use Rattle.vg_book_uses.specs.Desks.{La, HasAsked, HasServed, IsLaneKnown}
use Rattle.vg_book_uses.specs.Sharing.{counted_of, HasTakenLanes, HasTalked, HaveShared, IsSettled, MayTalk}
use Rattle.vg_book_uses.proofs.CrewLemmas.{Gives, found}

abbrev pub lane_of : La → ℕ
lane_of l = l.lane

pub lanes_more : (r s t : Ro) (ls : List La) (l : La) → HasTakenLanes r ls s → (t.given ≡ s.given) × (t.lanes_made ≡ s.lanes_made) × (t.start ≡ s.start) → t.accounts ≡ s.accounts → t.lanes ≡ s.lanes ++ counted_of l ∷ [] → HasTakenLanes r (ls ++ l ∷ []) t
lanes_more r s t ls l h told accounts lanes = record {
  given = told.0 ∙ h.given;
  accounts = accounts ∙ h.accounts;
  lanes_made = told.1 ∙ h.lanes_made;
  start = told.2 ∙ h.start;
  taken = lanes ∙ (ap (λ xs. xs ++ counted_of l ∷ []) h.taken ∙ (append_assoc r.lanes (map counted_of ls) (counted_of l ∷ []) ∙ ap (λ xs. r.lanes ++ xs) (sym (map-append counted_of ls (l ∷ [])))));
}

lane_there : (start : Option Counter) (n l : ℕ) → l < n → Has (map lane_of (first_lanes start n)) l
lane_there start zero l lt = absurd (omega arith)
lane_there start (suc n) l lt =
    let ls : List La = first_lanes start n in
    let x : La = record { lane = n; count = 0; seen = []; start = start } in
    subst (λ (ns : List ℕ). Has ns l) (sym (map-append lane_of ls (x ∷ [])))
    (dite (ℕ_discrete l n) (λ e. subst (λ k. Has (map lane_of ls ++ n ∷ []) k) (sym e) (has_last (map lane_of ls) n))
    (λ ne. has_left (map lane_of ls) (n ∷ []) l (lane_there start n l (omega arith))))

module _ (g : Ghosts Counter Counter Act ℕ Request ℕ ℕ Request) where
  pub talked_none : (c : Cl) → MayTalk g c → HasTalked g c 0 c
  talked_none c may = record { number = refl; opening = refl; holds = refl; used = omega arith; out = may.out; more = prefix_self c.seen; start = refl; is_known = may.is_known }

  pub talked_act : ((h r : ℕ) → g.update h (Add 1) r ≡ h) → (c d e : Cl) (n number reply : ℕ) → HasTalked g c n d → Acted g d (Add 1) e number reply → HasTalked g c (n + 1) e
  talked_act keeps c d e n number reply h act =
      let a = act.account in
      let used : e.account.used ≡ c.account.used + (n + 1) = ap (λ x. x.used) a ∙ omega (arith, h.used) in
      record {
        number = ap (λ x. x.number) a ∙ h.number;
        opening = ap (λ x. x.opening) a ∙ h.opening;
        holds = ap (λ x. x.holds) a ∙ (keeps d.account.holds reply ∙ h.holds);
        used = used;
        out = ap (λ x. x.out) a ∙ h.out;
        more = prefix_trans c.seen d.seen e.seen h.more (prefix_trans d.seen act.log e.seen act.more (subst (λ xs. IsPrefix act.log xs) (sym act.seen) (prefix_more act.log act.log _ (prefix_self act.log))));
        start = act.start ∙ h.start;
        is_known = record { history = act.history; known = act.known };
      }

  record Draws (d e : Cl) : Type 0 where
    number : e.account.number ≡ d.account.number
    opening : e.account.opening ≡ d.account.opening
    holds : e.account.holds ≡ d.account.holds
    used : e.account.used ≡ d.account.used + 1

  draws : (d e : Cl) (lane n : ℕ) (reply : Option ℕ) → HasAsked g d lane n e reply → Draws d e
  draws d e lane n (Some r) h = let a = h.comes.1 in record { number = ap (λ x. x.number) a; opening = ap (λ x. x.opening) a; holds = ap (λ x. x.holds) a; used = ap (λ x. x.used) a }
  draws d e lane n None h = let a = h.comes in record { number = ap (λ x. x.number) a; opening = ap (λ x. x.opening) a; holds = ap (λ x. x.holds) a; used = ap (λ x. x.used) a }

  pub talked_ask : (c d e : Cl) (n k lane m : ℕ) (reply : Option ℕ) → HasTalked g c n d → HasAsked g d lane m e reply → e.account.out ≡ [] → k ≡ n + 1 → HasTalked g c k e
  talked_ask c d e n k lane m reply h asks out is =
      let w = draws d e lane m reply asks in
      let used : e.account.used ≡ c.account.used + k = omega (arith, w.used, h.used, is) in
      record {
        number = w.number ∙ h.number;
        opening = w.opening ∙ h.opening;
        holds = w.holds ∙ h.holds;
        used = used;
        out = out;
        more = prefix_trans c.seen d.seen e.seen h.more asks.more;
        start = asks.start ∙ h.start;
        is_known = asks.is_known;
      }

  -- The first lanes have run nothing.
  pub lanes_known : (start : Option Counter) (n : ℕ) → All (IsLaneKnown g) (first_lanes start n)
  lanes_known start zero = All-nil _
  lanes_known start (suc n) =
      All-append (IsLaneKnown g) (first_lanes start n) (record { lane = n; count = 0; seen = []; start = start } ∷ []) (lanes_known start n)
      (all_one (IsLaneKnown g) (record { lane = n; count = 0; seen = []; start = start })
      (record { history = record { agrees = λ s e. tt; once = tt; ordered = λ l. (0, refl) }; ordinals_are = refl }))

  module _ {Y : Type 0} (lane : Y → La) where
    same_lanes : (js : List Y) (ls : List La) → AllGive (λ j l. HasServed g (lane j) l) js ls → map lane_of ls ≡ map lane_of (map lane js)
    same_lanes [] [] h = refl
    same_lanes [] (l ∷ ls) h = absurd h
    same_lanes (j ∷ js) [] h = absurd h
    same_lanes (j ∷ js) (l ∷ ls) h = λ i. h.0.lane i ∷ same_lanes js ls h.1 i

    -- Each lane that was made is among those that were served.
    pub lanes_joined : (start : Option Counter) (n : ℕ) (js : List Y) (ls : List La) → map lane js ≡ first_lanes start n → AllGive (λ j l. HasServed g (lane j) l) js ls
        → (l : ℕ) → l < n → (x : Counted) × Has (map counted_of ls) x × (x.lane ≡ l)
    lanes_joined start n js ls first gave l lt =
        let at = map_has lane_of ls l (subst (λ (ns : List ℕ). Has ns l) (sym (same_lanes js ls gave ∙ ap (map lane_of) first)) (lane_there start n l lt)) in
        (counted_of at.0, has_map counted_of ls at.0 at.1, at.2)

  -- What a job that talks gives.
  module _ {X : Type 0} (client : X → Cl) (Fits : X → Type 0) (drawn_by : X → ℕ) (drawn : ℕ) (fit : (j : X) → Fits j → drawn_by j ≡ drawn) where
    abbrev pub Gave : X → Cl → Type 0
    Gave j c = HasTalked g (client j) (drawn_by j) c

    pub same : (j : X) (c : Cl) → Gave j c → c.account.number ≡ (client j).account.number
    same j c h = h.number

    pub idle : (first : Option Counter) (j : X) (c : Cl) → IsNew g first 1 (client j) → Gave j c → c.account.out ≡ []
    idle first j c new h = h.out

    module _ (first : Option Counter) (count : ℕ) (js : List X) (cs : List Cl) (new : AreNew g first 1 count (map client js)) (fits : All Fits js)
        (ds : List (Result Cl AllocError)) (gave : AllGive (Gives g client 1 Fits Gave same idle) js ds) (all_ok : ds ≡ map Ok cs) where
      settled_by : (r : Ro) (m : Counter) (H : List E) → r.accounts ≡ map account_of cs → IsClosed g r m H → (n : ℕ) → 0 < n → n ≤ count → IsSettled g n drawn H
      settled_by r m H accounts closed n low high =
          let c = found g client 1 Fits Gave same idle first count js cs new fits ds gave all_ok n low high in
          let has : Has r.accounts c.0.account = subst (λ as'. Has as' c.0.account) (sym accounts) (has_map account_of cs c.0 c.1) in
          let h = c.3.3 in
          let used : c.0.account.used ≡ drawn = omega (arith, h.used, c.3.1.used, fit c.3.0 c.3.2) in
          record {
            account = c.0.account;
            number = c.2;
            used = used;
            out = h.out;
            accounted = closed.known c.0.account has;
            mine = λ e at is. closed.mine c.0.account has e at (is ∙ sym c.2);
          }

      pub have_shared : (r : Ro) (m : Counter) (H : List E) → r.given ≡ count → r.accounts ≡ map account_of cs → IsClosed g r m H → HaveShared g count drawn H
      have_shared r m H given accounts closed = record {
        each = settled_by r m H accounts closed;
        only = λ e at. let w = closed.clients e at in (w.0, omega arith);
      }

  pub may_talk : (first : Option Counter) (c : Cl) → IsNew g first 1 c → MayTalk g c
  may_talk first c new = record { used = new.used; out = new.out; holds = omega (arith, new.holds); is_known = new.is_known }
