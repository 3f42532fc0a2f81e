-- What a client's token says stays so while commands of it are out.
use Rattle.std.proofs.Common.{◌≡◌, ◌≢◌, ◌⊎◌, inl, inr, ⊎_elim, ◌+◌, ◌-◌, ◌<◌, ◌≤◌, ◌==◌, ◌∙◌, sym, ap, refl, subst, arith, eq-eqb, ℕ, zero, suc, Bool, true, false, cond, not, ◌&&◌, List, [], ◌∷◌, ◌++◌, map, filter, append_assoc, append-nil, Option, Some, None, is_none}
use Rattle.std.specs.List.{range_with_len}
use Rattle.std.proofs.lemmas.Bool.Decides.{nat_tests}
use mathlib.Core.List.{IsPrefix}
use mathlib.Core.Logic.{dite}
use native.Mathlib.Decide.{dec_lt}
use Rattle.vg_laws.proofs.Bools.{and-both}
use Rattle.vg_history.specs.Entries.{EachOnce, IsSameCall}
use Rattle.vg_history.specs.History as history
use Rattle.vg_history.specs.History.{AllowedBy, HasFence, Ordered, holds_after, ordinals}
use Rattle.vg_history.specs.Lists.{Has, upto}
use Rattle.vg_history.specs.declared.entry.Entry.TheVariants.{Act, Command}
use Rattle.vg_history.proofs.HistoryLemmas.{holds_append, ordinal_of, ordinals_append}
use Rattle.vg_history.proofs.ListLemmas.{has_left, has_map, has_prefix, has_right, has_snoc, has_times, prefix_more, prefix_self, times_has, upto_has}
use Rattle.vg_book.specs.Places.{HasCall, IsCurrent}
use Rattle.vg_book.specs.Tokens.{Acted}
use Rattle.vg_book.specs.Views.{IsEntryOf, calls, drawn, order_call, ordered_of}
use Rattle.vg_book.proofs.OwnLemmas.{twice}
use Rattle.vg_client_holds.specs.declared.act.Act as the_act
use Rattle.vg_client_holds.specs.declared.act.Act.TheVariants as acts
use Rattle.vg_client_holds.specs.declared.act.ActReply.{ActReply}
use Rattle.vg_client_holds.specs.declared.act.What.{What}
use Rattle.vg_client_holds.specs.declared.holds.Holds.{Holds}
use Rattle.vg_client_holds.specs.declared.setup.Setup.{Setup}
use Rattle.vg_client_holds.specs.Holds.{Allowed, denied_of, first_holds, update}
use Rattle.vg_machine.specs.Entries.{Entry}
use Rattle.vg_device.specs.declared.request.Reply.{Reply}
use Rattle.vg_device.specs.declared.request.Request.{Request}
use Rattle.vg_machine.specs.Lane.{lane_of}
use Rattle.vg_machine.specs.Order.{FenceOrder, IsAllowed, IsFirst, SyncOrder, call_of, client_of, holds_of, is_leave, is_of_lane, of_client}
use Rattle.vg_machine.specs.Replay.{display}
use Rattle.vg_driver.specs.Tickets.{Account, Order, Token}
use Rattle.vg_client.specs.Accounts.{IsKnown, IsPresent, IsStanding, MayAct, mine_of}
use Rattle.vg_client.specs.Own.{OwnStand, StandsOwn}
use Rattle.vg_client.proofs.OwnLemmas.{all-has, all-of, filter-in, own-append, own-in, own-numbers, own-of, range-split, upto-range}

-- an entry that stands in a list stands once
once-apart : (xs ys : List Entry) (e f : Entry) → EachOnce (xs ++ (e ∷ ys)) → Has xs f → IsSameCall f e → ⊥
once-apart [] ys e f once has same = has
once-apart (x ∷ xs) ys e f once (inl is) same = once.0 e (has_right xs (e ∷ ys) e (inl refl)) (subst (λ (g : Entry). IsSameCall g e) (sym is) same)
once-apart (x ∷ xs) ys e f once (inr has) same = once-apart xs ys e f once.1 has same

once-front : (xs ys : List Entry) → EachOnce (xs ++ ys) → EachOnce xs
once-front [] ys once = tt
once-front (x ∷ xs) ys once = ((λ f h same. once.0 f (has_left xs ys f h) same), once-front xs ys once.1)

-- a lane's ordinals rise
ordinal-here : (client call : ℕ) (request : Request) (reply : Reply) (ys : List Entry) → ordinals display request.lane (Command client call request reply ∷ ys) ≡ request.ordinal ∷ ordinals display request.lane ys
ordinal-here client call request reply ys = ap (λ (b : Bool). cond b (request.ordinal ∷ []) [] ++ ordinals display request.lane ys) (eq-eqb request.lane request.lane refl)

command-rises : (xs ys : List Entry) (client call : ℕ) (request : Request) (reply : Reply) (client' call' : ℕ) (request' : Request) (reply' : Reply) → Ordered display (xs ++ (Command client call request reply ∷ ys)) → Has xs (Command client' call' request' reply')
    → request'.lane ≡ request.lane → request'.ordinal < request.ordinal
command-rises xs ys client call request reply client' call' request' reply' ordered has same =
    let lane : ℕ = request.lane in
    let t = ordered lane in
    let whole : ordinals display lane xs ++ (request.ordinal ∷ ordinals display lane ys) ≡ range_with_len 1 t.0 =
    ap (λ (ns : List ℕ). ordinals display lane xs ++ ns) (sym (ordinal-here client call request reply ys)) ∙ sym (ordinals_append display lane xs (Command client call request reply ∷ ys)) ∙ t.1 ∙ upto-range t.0 in
    let there : Has (ordinals display lane xs) request'.ordinal = subst (λ (l : ℕ). Has (ordinals display l xs) request'.ordinal) same (ordinal_of display xs client' call' request' reply' has) in
    range-split 1 t.0 (ordinals display lane xs) (ordinals display lane ys) request.ordinal request'.ordinal whole there

-- what was allowed at its place
allowed-at : (client : ℕ) (holds : Holds) (xs ys : List Entry) (e : Entry) → AllowedBy display client holds (xs ++ (e ∷ ys)) → history.IsAllowed display client (holds_after display client holds xs) e
allowed-at client holds [] ys e all = all.0
allowed-at client holds (x ∷ xs) ys e all = allowed-at client (history.updated display client holds x) xs ys e all.1

not-is : (b : Bool) → not b ≡ true → b ≡ false
not-is true is = absurd (cc is)
not-is false is = refl

none-is : (o : Option What) → is_none o ≡ true → o ≡ None
none-is None is = refl
none-is (Some what) is = absurd (cc is)

-- what the machine allows the client may ask
asked-allowed : (holds : Holds) (request : Request) → display.allows holds request ≡ true → Allowed holds request.queue request.bytes × (holds.host ≡ false)
asked-allowed holds request allows =
    let both = and-both (not holds.host) (is_none (denied_of holds request.queue request.bytes)) allows in
    (none-is (denied_of holds request.queue request.bytes) both.1, not-is holds.host both.0)

-- commands don't change what a client holds
abbrev IsCommand : Entry → Type 0
IsCommand (Act client call act reply) = ⊥
IsCommand (Command client call request reply) = Unit {0}

updated-still : (client : ℕ) (holds : Holds) (e : Entry) → (client_of e ≡ client → IsCommand e) → history.updated display client holds e ≡ holds
updated-still client holds (Act by call act reply) commands = by_test (by == client) refl
  where
    by_test : (b : Bool) → (by == client) ≡ b → cond b (update holds act reply) holds ≡ holds
    by_test true is = absurd (commands (grind (arith, nat_tests, is)))
    by_test false is = refl
updated-still client holds (Command by call request reply) commands = refl

holds-still : (client : ℕ) (holds : Holds) (es : List Entry) → ((e : Entry) → Has es e → client_of e ≡ client → IsCommand e) → holds_after display client holds es ≡ holds
holds-still client holds [] commands = refl
holds-still client holds (e ∷ es) commands =
    ap (λ (h : Holds). holds_after display client h es) (updated-still client holds e (commands e (inl refl))) ∙ holds-still client holds es (λ f h. commands f (inr h))

-- an entry that the client knows of: it has come back, or its order is out
abbrev pub Owned : Token → Entry → Type 0
Owned token e = Has (mine_of token) e ⊎ ((o : Order) × Has token.account.out o × IsEntryOf o e)

-- the number of a call that the client knows of is one that it has drawn
call-known : (token : Token) (n : ℕ) → IsCurrent display token → Has (calls token.account) n → (0 < n) × (n ≤ token.account.used)
call-known token n current has =
    let once = times_has n (calls token.account) has in
    let numbers = current.known.numbers n in
    upto_has token.account.used n (has_times n (upto token.account.used) (omega (arith, once, numbers)))

pub mine-call : (token : Token) (e : Entry) → IsCurrent display token → Has (mine_of token) e → (0 < call_of e) × (call_of e ≤ token.account.used)
mine-call token e current has =
    let a = token.account in
    call-known token (call_of e) current (has_left (map call_of a.mine) (map order_call a.out ++ a.spent) (call_of e) (has_map call_of a.mine e has))

pub out-call : (token : Token) (o : Order) → IsCurrent display token → Has token.account.out o → (0 < o.call) × (o.call ≤ token.account.used)
out-call token o current has =
    let a = token.account in
    call-known token o.call current
    (has_right (map call_of a.mine) (map order_call a.out ++ a.spent) o.call (has_left (map order_call a.out) a.spent o.call (has_map order_call a.out o has)))

pub owned-call : (token : Token) (e : Entry) → IsCurrent display token → Owned token e → (0 < call_of e) × (call_of e ≤ token.account.used)
owned-call token e current (inl has) = mine-call token e current has
owned-call token e current (inr (o, has, is)) = subst (λ (f : Entry). (0 < call_of f) × (call_of f ≤ token.account.used)) (sym is.1) (out-call token o current has)

owned-present : (token : Token) (e : Entry) → IsPresent token → Owned token e → is_leave e ≡ false
owned-present token e present (inl has) = all-has (λ f. is_leave f ≡ false) (mine_of token) e present has
owned-present token e present (inr (o, has, is)) = ap is_leave is.1

-- of a list that the client sees, longer than what it has seen
pub record IsWhole (setup : Setup) (client : ℕ) (H : List Entry) : Type 0 where
  pub once : EachOnce H
  pub ordered : Ordered display H
  pub allowed : AllowedBy display client (first_holds setup client) H

pub record IsLonger (token : Token) (before : List Entry) : Type 0 where
  pub more : IsPrefix token.seen before
  pub owned : (e : Entry) → Has before e → client_of e ≡ token.account.number → Owned token e

-- a command of the lane that stands before an order's entry has a smaller number
lane-below : (setup : Setup) (token : Token) (before ys : List Entry) (o : Order) (reply : Reply) (f : Entry) → IsStanding setup token → Has token.account.out o → Ordered display (before ++ (Command o.client o.call o.request reply ∷ ys))
    → Has before f → Owned token f → is_of_lane o.request.lane f ≡ true → call_of f ≢ o.call → call_of f < o.call
lane-below setup token before ys o reply (Act client call act r) is out ordered has owned lane other = absurd (cc lane)
lane-below setup token before ys o reply (Command client call request r) is out ordered has owned lane other =
    let same : request.lane ≡ o.request.lane = grind (arith, nat_tests, lane) in
    let rises : request.ordinal < o.request.ordinal = command-rises before ys o.client o.call o.request reply client call request r ordered has same in
    dite (dec_lt call o.call) (λ below. below) (λ no. absurd (by_owned owned same rises (omega (arith, no, other))))
  where
    by_owned : Owned token (Command client call request r) → request.lane ≡ o.request.lane → request.ordinal < o.request.ordinal → o.call < call → ⊥
    by_owned (inl mine) same rises above = let behind = is.rising_mine o client call request r out mine same above in omega (arith, rises, behind)
    by_owned (inr (p, there, is_of)) same rises above =
        let at = is_of.1 in
        let number : call ≡ p.call = cc at in
        let asked : request ≡ p.request = cc at in
        let lanes : p.request.lane ≡ o.request.lane = ap (λ (q : Request). q.lane) (sym asked) ∙ same in
        let ordinal : request.ordinal ≡ p.request.ordinal = ap (λ (q : Request). q.ordinal) asked in
        let behind = is.rising o p out there lanes (omega (arith, above, number)) in
        omega (arith, rises, behind, ordinal)

-- an order's entry stands rightly wherever it came
stands-command : (setup : Setup) (token : Token) (before ys : List Entry) (o : Order) (reply : Reply) → IsStanding setup token → IsPresent token → Has token.account.out o → IsLonger token before
    → IsWhole setup token.account.number (before ++ (Command o.client o.call o.request reply ∷ ys)) → StandsOwn setup before (Command o.client o.call o.request reply)
stands-command setup token before ys o reply is present out longer whole =
    let n : ℕ = token.account.number in
    let entry : Entry = Command o.client o.call o.request reply in
    let owner : o.client ≡ n = (is.current.known.outs o out).0 in
    let number = out-call token o is.current out in
    let own : (f : Entry) → Has (of_client o.client before) f → Has before f × (client_of f ≡ o.client) = λ f h. own-in o.client before f h in
    let known : (f : Entry) → Has (of_client o.client before) f → Owned token f = λ f h. let at = own f h in longer.owned f at.0 (at.1 ∙ owner) in
    let apart : (f : Entry) → Has (of_client o.client before) f → call_of f ≢ o.call = λ f h same. let at = own f h in absurd (once-apart before ys entry f whole.once at.0 (at.1, same)) in
    let entered = is.entered (omega (arith, number)) in
    let first : Has (of_client o.client before) entered.0 = own-of o.client before entered.0 (has_prefix token.seen before entered.0 longer.more entered.1) (entered.2 ∙ sym owner) in
    let allow : display.allows (holds_of setup n before) o.request ≡ true = allowed-at n (first_holds setup n) before ys entry whole.allowed owner in
    record {
      lane = is.lanes o out;
      call = record {
        counted = omega (arith, number.0);
        fresh = all-of (λ f. call_of f ≢ o.call) (of_client o.client before) apart;
        rising = all-of (λ f. call_of f < o.call) (filter (is_of_lane o.request.lane) (of_client o.client before))
            (λ f h. let at = filter-in (is_of_lane o.request.lane) (of_client o.client before) f h in
            lane-below setup token before ys o reply f is out whole.ordered (own f at.0).0 (known f at.0) at.1 (apart f at.0));
        first = λ empty. absurd (subst (λ (es : List Entry). Has es entered.0) empty first);
        present = all-of (λ f. is_leave f ≡ false) (of_client o.client before) (λ f h. owned-present token f present (known f h));
      };
      give_up = tt;
      fence = tt;
      sync = tt;
      allowed = asked-allowed (holds_of setup o.client before) o.request (subst (λ (c : ℕ). display.allows (holds_of setup c before) o.request ≡ true) (sym owner) allow);
    }

stands-order : (setup : Setup) (token : Token) (before ys : List Entry) (e : Entry) (o : Order) → IsStanding setup token → IsPresent token → Has token.account.out o → IsEntryOf o e → IsLonger token before → IsWhole setup token.account.number (before ++ (e ∷ ys)) → StandsOwn setup before e
stands-order setup token before ys e o is present out (reply, same) longer whole =
    subst (λ (f : Entry). StandsOwn setup before f) (sym same)
    (stands-command setup token before ys o reply is present out longer (subst (λ (f : Entry). IsWhole setup token.account.number (before ++ (f ∷ ys))) same whole))

-- and so do all of the client's entries behind what it had seen
pub own-longer : (setup : Setup) (token : Token) (before mid tail : List Entry) → IsStanding setup token → IsPresent token → IsPrefix token.seen before → ((e : Entry) → Has (before ++ mid) e → client_of e ≡ token.account.number → Owned token e)
    → IsWhole setup token.account.number (before ++ (mid ++ tail)) → OwnStand setup token.account.number before mid
own-longer setup token before [] tail is present more owned whole = tt
own-longer setup token before (e ∷ mid) tail is present more owned whole =
    let n : ℕ = token.account.number in
    let here : (before ++ e ∷ []) ++ mid ≡ before ++ (e ∷ mid) = append_assoc before (e ∷ []) mid in
    let all : (before ++ e ∷ []) ++ (mid ++ tail) ≡ before ++ (e ∷ (mid ++ tail)) = append_assoc before (e ∷ []) (mid ++ tail) in
    let known : (f : Entry) → Has before f → client_of f ≡ n → Owned token f = λ f h at. owned f (has_left before (e ∷ mid) f h) at in
    let stands : client_of e ≡ n → StandsOwn setup before e = λ at.
    ⊎_elim (λ (mine : Has (mine_of token) e). absurd (twice before (e ∷ (mid ++ tail)) e whole.once (has_prefix token.seen before e more (is.current.known.mine e mine).0) (inl refl)))
    (λ (o : (o : Order) × Has token.account.out o × IsEntryOf o e). stands-order setup token before (mid ++ tail) e o.0 is present o.1 o.2 (record { more = more; owned = known }) whole)
    (owned e (has_right before (e ∷ mid) e (inl refl)) at) in (
      stands,
      own-longer setup token (before ++ e ∷ []) mid tail is present (prefix_more token.seen before (e ∷ []) more)
          (λ f h at. owned f (subst (λ (es : List Entry). Has es f) here h) at) (subst (λ (es : List Entry). IsWhole setup n es) (sym all) whole),
    )

-- a client that has seen more, or has taken orders back
pub record IsLater (token token' : Token) : Type 0 where
  pub current : IsCurrent display token'
  pub start : token'.start ≡ token.start
  pub number : token'.account.number ≡ token.account.number
  pub opening : token'.account.opening ≡ token.account.opening
  pub used : token'.account.used ≡ token.account.used
  pub more : IsPrefix token.seen token'.seen
  pub out : (o : Order) → Has token'.account.out o → Has token.account.out o
  pub mine : (e : Entry) → Has (mine_of token') e → Owned token e

pub present-later : (token token' : Token) → IsPresent token → IsLater token token' → IsPresent token'
present-later token token' present later = all-of (λ f. is_leave f ≡ false) (mine_of token') (λ f h. owned-present token f present (later.mine f h))

pub whole-of : (setup : Setup) (token token' : Token) → IsStanding setup token → IsCurrent display token' → token'.account.number ≡ token.account.number → token'.account.opening ≡ token.account.opening → IsWhole setup token.account.number token'.seen
whole-of setup token token' is current number opening =
    let P : ℕ → Holds → Type 0 = λ n h. AllowedBy display n h token'.seen in
    record {
      once = current.history.once;
      ordered = current.history.ordered;
      allowed = subst (λ (h : Holds). P token.account.number h) (opening ∙ is.opening) (subst (λ (n : ℕ). P n token'.account.opening) number current.known.allowed);
    }

pub standing-later : (setup : Setup) (token token' : Token) → IsStanding setup token → IsPresent token → IsLater token token' → IsStanding setup token'
standing-later setup token token' is present later =
    let n : ℕ = token.account.number in
    let rest : List Entry = later.more.0 in
    let owned : (e : Entry) → Has token'.seen e → client_of e ≡ n → Owned token e = λ e h at.
    ⊎_elim (λ (mine : Has (mine_of token') e). later.mine e mine)
    (λ (o : (o : Order) × Has token'.account.out o × IsEntryOf o e). inr (o.0, later.out o.0 o.1, o.2))
    (later.current.known.known e h (at ∙ sym later.number)) in
    let whole : IsWhole setup n token'.seen = whole-of setup token token' is later.current later.number later.opening in
    let split : token'.seen ≡ token.seen ++ (rest ++ []) = sym later.more.1 ∙ ap (λ (es : List Entry). token.seen ++ es) (sym (append-nil rest)) in
    let grown : OwnStand setup n token.seen rest = own-longer setup token token.seen rest [] is present (prefix_self token.seen)
    (λ e h at. owned e (subst (λ (es : List Entry). Has es e) later.more.1 h) at) (subst (λ (es : List Entry). IsWhole setup n es) split whole) in
    let own : OwnStand setup n [] token'.seen = subst (λ (es : List Entry). OwnStand setup n [] es) later.more.1 (own-append setup n [] token.seen rest is.own grown) in
    record {
      current = later.current;
      begun = later.start ∙ is.begun;
      opening = later.opening ∙ is.opening ∙ ap (first_holds setup) (sym later.number);
      own = subst (λ (c : ℕ). OwnStand setup c [] token'.seen) (sym later.number) own;
      entered = λ some. let e = is.entered (subst (λ (k : ℕ). 1 ≤ k) later.used some) in (e.0, has_prefix token.seen token'.seen e.0 later.more e.1, e.2 ∙ sym later.number);
      lanes = λ o h. is.lanes o (later.out o h);
      rising = λ o p h k same above. is.rising o p (later.out o h) (later.out p k) same above;
      rising_mine = λ o client call request reply h k same above. by_owned o client call request reply (later.out o h) (later.mine (Command client call request reply) k) same above;
    }
  where
    by_owned : (o : Order) (client call : ℕ) (request : Request) (reply : Reply) → Has token.account.out o → Owned token (Command client call request reply) → request.lane ≡ o.request.lane → o.call < call → o.request.ordinal < request.ordinal
    by_owned o client call request reply h (inl mine) same above = is.rising_mine o client call request reply h mine same above
    by_owned o client call request reply h (inr (p, k, is_of)) same above =
        let at = is_of.1 in
        let number : call ≡ p.call = cc at in
        let asked : request ≡ p.request = cc at in
        let lanes : p.request.lane ≡ o.request.lane = ap (λ (q : Request). q.lane) (sym asked) ∙ same in
        let ordinal : request.ordinal ≡ p.request.ordinal = ap (λ (q : Request). q.ordinal) asked in
        let behind = is.rising o p h k lanes (omega (arith, above, number)) in
        omega (arith, behind, ordinal)

none-used : (used : ℕ) → (1 ≤ used → ⊥) → used ≡ 0
none-used zero none = refl
none-used (suc used) none = absurd (none (omega arith))

first-act : (client call used : ℕ) (act : the_act.Act) (reply : ActReply) → call ≡ used + 1 → (used ≡ 0 → act ≡ acts.Enter) → used ≡ 0 → IsFirst (Act client call act reply)
first-act client call used act reply number first none =
    let P : the_act.Act → Type 0 = λ a. IsFirst (Act client call a reply) in
    let one : call ≡ 1 = omega arith in
    subst P (sym (first none)) one

-- each number that the client has drawn is an entry's that it has seen
abbrev pub AllSeen : Token → Type 0
AllSeen token = (i : ℕ) → 0 < i → i ≤ token.account.used → HasCall token.seen token.account.number i

-- a fence that is known stays so
fence-more : (lane ordinal : ℕ) (seen log : List Entry) → IsPrefix seen log → HasFence display lane ordinal seen → HasFence display lane ordinal log
fence-more lane ordinal seen log more fence = λ j above below.
    let t = fence j above below in
    (t.0, t.1, t.2, t.3, has_prefix seen log (Command t.0 t.1 t.2 t.3) more t.4, t.5)

fence-order : (client call : ℕ) (act : the_act.Act) (reply : ActReply) (seen log : List Entry) → IsPrefix seen log → IsKnown seen act → FenceOrder log (Act client call act reply)
fence-order client call (acts.Await lane ordinal) reply seen log more known = fence-more lane ordinal seen log more known
fence-order client call act reply seen log more known = tt

-- and so does what the host did
sync-order : (client call : ℕ) (act : the_act.Act) (reply : ActReply) (seen log : List Entry) → IsPrefix seen log → IsKnown seen act → SyncOrder log (Act client call act reply)
sync-order client call (acts.Sync n) reply seen log more known = (known.0, has_prefix seen log known.0 more known.1, known.2)
sync-order client call act reply seen log more known = tt

own-command : (token : Token) (e : Entry) → Owned token e → (Has (mine_of token) e → ⊥) → IsCommand e
own-command token e (inl mine) none = absurd (none mine)
own-command token e (inr (o, has, is)) none = subst IsCommand (sym is.1) tt

stands-act : (setup : Setup) (token : Token) (rest : List Entry) (act : the_act.Act) (reply : ActReply) → IsStanding setup token → MayAct token act → (token.account.out ≡ [] → AllSeen token) → IsLonger token (token.seen ++ rest) → EachOnce (token.seen ++ rest)
    → StandsOwn setup (token.seen ++ rest) (Act token.account.number (token.account.used + 1) act reply)
stands-act setup token rest act reply is may all longer once =
    let n : ℕ = token.account.number in
    let used : ℕ = token.account.used in
    let call : ℕ = used + 1 in
    let log : List Entry = token.seen ++ rest in
    let own : (f : Entry) → Has (of_client n log) f → Has log f × (client_of f ≡ n) = λ f h. own-in n log f h in
    let known : (f : Entry) → Has (of_client n log) f → Owned token f = λ f h. let at = own f h in longer.owned f at.0 at.1 in
    let within : (f : Entry) → Owned token f → (0 < call_of f) × (call_of f ≤ used) = λ f owned. owned-call token f is.current owned in
    let below : (f : Entry) → Has (of_client n log) f → call_of f < call = λ f h. let low = (within f (known f h)).1 in omega (arith, low) in
    let Holds_allow : Holds → Type 0 = λ h. IsAllowed h (Act n call act reply) in
    let commands : (f : Entry) → Has rest f → client_of f ≡ n → IsCommand f = λ f h at.
    own-command token f (longer.owned f (has_right token.seen rest f h) at) (λ mine. twice token.seen rest f once (is.current.known.mine f mine).0 h) in
    let held : holds_of setup n log ≡ token.account.holds =
    holds_append display n (first_holds setup n) token.seen rest ∙ holds-still n (holds_of setup n token.seen) rest commands
    ∙ ap (λ (h : Holds). holds_after display n h token.seen) (sym is.opening) ∙ is.current.known.held in
    record {
      lane = tt;
      call = record {
        counted = omega arith;
        fresh = all-of (λ f. call_of f ≢ call) (of_client n log) (λ f h same. let low = below f h in absurd (omega (arith, low, same)));
        rising = all-of (λ f. call_of f < call) (of_client n log) below;
        first = λ empty. first-act n call used act reply refl may.first
            (none-used used (λ some. let e = is.entered some in subst (λ (es : List Entry). Has es e.0) empty (own-of n log e.0 (has_left token.seen rest e.0 e.1) e.2)));
        present = all-of (λ f. is_leave f ≡ false) (of_client n log) (λ f h. owned-present token f may.present (known f h));
      };
      give_up = λ gives.
          let last : used ≡ call - 1 = omega arith in
          own-numbers n used log once (λ f h at. within f (longer.owned f h at))
          (λ i low high. let c = all (may.idle gives) i low high in (c.0, has_left token.seen rest c.0 c.1, c.2, c.3)) ∙ ap (range_with_len 1) last;
      fence = fence-order n call act reply token.seen log (rest, refl) may.known;
      sync = sync-order n call act reply token.seen log (rest, refl) may.known;
      allowed = subst Holds_allow (sym held) (may.denied, may.part);
    }

pub standing-act : (setup : Setup) (token token' : Token) (act : the_act.Act) (number : ℕ) (reply : ActReply) → IsStanding setup token → MayAct token act → (token.account.out ≡ [] → AllSeen token) → IsCurrent display token' → Acted display token act token' number reply → IsStanding setup token'
standing-act setup token token' act number reply is may all current acted =
    let n : ℕ = token.account.number in
    let call : ℕ = token.account.used + 1 in
    let entry : Entry = Act n call act reply in
    let told = acted.account in
    let same : token'.account.number ≡ n = ap (λ (a : Account). a.number) told in
    let outs : token'.account.out ≡ token.account.out = ap (λ (a : Account). a.out) told in
    let mine : mine_of token' ≡ mine_of token ++ entry ∷ [] = ap (λ (a : Account). a.mine) told in
    let rest : List Entry = acted.more.0 in
    let log : List Entry = token.seen ++ rest in
    let seen : token'.seen ≡ log ++ entry ∷ [] = acted.seen ∙ ap (λ (es : List Entry). es ++ entry ∷ []) (sym acted.more.1) in
    let whole : IsWhole setup n (log ++ entry ∷ []) = subst (λ (es : List Entry). IsWhole setup n es) seen (whole-of setup token token' is current same (ap (λ (a : Account). a.opening) told)) in
    let owned : (e : Entry) → Has log e → client_of e ≡ n → Owned token e = λ e h at.
    ⊎_elim (λ (m : Has (mine_of token') e). ⊎_elim (λ (old : Has (mine_of token) e). inl old) (λ (new : entry ≡ e). absurd (twice log (entry ∷ []) e whole.once h (inl new)))
    (has_snoc (mine_of token) entry e (subst (λ (es : List Entry). Has es e) mine m)))
    (λ (o : (o : Order) × Has token'.account.out o × IsEntryOf o e). inr (o.0, subst (λ (os : List Order). Has os o.0) outs o.1, o.2))
    (current.known.known e (subst (λ (es : List Entry). Has es e) (sym seen) (has_left log (entry ∷ []) e h)) (at ∙ sym same)) in
    let split : log ++ entry ∷ [] ≡ token.seen ++ (rest ++ entry ∷ []) = append_assoc token.seen rest (entry ∷ []) in
    let grown : OwnStand setup n token.seen rest = own-longer setup token token.seen rest (entry ∷ []) is may.present (prefix_self token.seen) owned (subst (λ (es : List Entry). IsWhole setup n es) split whole) in
    let once : EachOnce log = once-front log (entry ∷ []) whole.once in
    let last : StandsOwn setup log entry = stands-act setup token rest act reply is may all (record { more = (rest, refl); owned = owned }) once in
    let own : OwnStand setup n [] (log ++ entry ∷ []) = own-append setup n [] log (entry ∷ []) (own-append setup n [] token.seen rest is.own grown) (λ _. last, tt) in
    record {
      current = current;
      begun = acted.start ∙ is.begun;
      opening = ap (λ (a : Account). a.opening) told ∙ is.opening ∙ ap (first_holds setup) (sym same);
      own = subst (λ (c : ℕ). OwnStand setup c [] token'.seen) (sym same) (subst (λ (es : List Entry). OwnStand setup n [] es) (sym seen) own);
      entered = λ _. (entry, subst (λ (es : List Entry). Has es entry) (sym seen) (has_right log (entry ∷ []) entry (inl refl)), sym same);
      lanes = λ o h. is.lanes o (subst (λ (os : List Order). Has os o) outs h);
      rising = λ o p h k. is.rising o p (subst (λ (os : List Order). Has os o) outs h) (subst (λ (os : List Order). Has os p) outs k);
      rising_mine = λ o client call request reply' h k lane above.
          ⊎_elim (λ (old : Has (mine_of token) (Command client call request reply')). is.rising_mine o client call request reply' (subst (λ (os : List Order). Has os o) outs h) old lane above)
          (λ (new : entry ≡ Command client call request reply'). absurd (cc new))
          (has_snoc (mine_of token) entry (Command client call request reply') (subst (λ (es : List Entry). Has es (Command client call request reply')) mine k));
    }

-- a request was made a pass
pub record IsDrawn (token : Token) (request : Request) (token' : Token) : Type 0 where
  pub current : IsCurrent display token'
  pub account : token'.account ≡ drawn token.account request
  pub seen : token'.seen ≡ token.seen
  pub start : token'.start ≡ token.start
  pub lane : request.lane ≡ lane_of request.queue request.bytes
  pub above : (o : Order) → Has token.account.out o → o.request.lane ≡ request.lane → o.request.ordinal < request.ordinal

pub standing-drawn : (setup : Setup) (token token' : Token) (request : Request) → IsStanding setup token → 1 ≤ token.account.used → IsDrawn token request token' → IsStanding setup token'
standing-drawn setup token token' request is some made =
    let n : ℕ = token.account.number in
    let new : Order = ordered_of token.account request in
    let told = made.account in
    let same : token'.account.number ≡ n = ap (λ (a : Account). a.number) told in
    let outs : token'.account.out ≡ token.account.out ++ new ∷ [] = ap (λ (a : Account). a.out) told in
    let mine : mine_of token' ≡ mine_of token = ap (λ (a : Account). a.mine) told in
    let among : (o : Order) → Has token'.account.out o → Has token.account.out o ⊎ (new ≡ o) = λ o h. has_snoc token.account.out new o (subst (λ (os : List Order). Has os o) outs h) in
    let low : (o : Order) → Has token.account.out o → o.call ≤ token.account.used = λ o h. (out-call token o is.current h).1 in
    record {
      current = made.current;
      begun = made.start ∙ is.begun;
      opening = ap (λ (a : Account). a.opening) told ∙ is.opening ∙ ap (first_holds setup) (sym same);
      own = subst (λ (c : ℕ). OwnStand setup c [] token'.seen) (sym same) (subst (λ (es : List Entry). OwnStand setup n [] es) (sym made.seen) is.own);
      entered = λ _. let e = is.entered some in (e.0, subst (λ (es : List Entry). Has es e.0) (sym made.seen) e.1, e.2 ∙ sym same);
      lanes = λ o h. ⊎_elim (λ (old : Has token.account.out o). is.lanes o old) (λ (at : new ≡ o). subst (λ (p : Order). p.request.lane ≡ lane_of p.request.queue p.request.bytes) at made.lane) (among o h);
      rising = λ o p h k lane above. by_both o p (among o h) (among p k) lane above;
      rising_mine = λ o client call asked reply h k lane above.
          let old : Has (mine_of token) (Command client call asked reply) = subst (λ (es : List Entry). Has es (Command client call asked reply)) mine k in
          ⊎_elim (λ (there : Has token.account.out o). is.rising_mine o client call asked reply there old lane above)
          (λ (at : new ≡ o). let number = ap (λ (p : Order). p.call) at in let most = (mine-call token (Command client call asked reply) is.current old).1 in absurd (omega (arith, above, number, most)))
          (among o h);
    }
  where
    by_both : (o p : Order) → Has token.account.out o ⊎ (ordered_of token.account request ≡ o) → Has token.account.out p ⊎ (ordered_of token.account request ≡ p) → p.request.lane ≡ o.request.lane → o.call < p.call → o.request.ordinal < p.request.ordinal
    by_both o p (inl h) (inl k) lane above = is.rising o p h k lane above
    by_both o p (inl h) (inr at) lane above =
        let lanes : o.request.lane ≡ request.lane = sym lane ∙ ap (λ (q : Order). q.request.lane) (sym at) in
        let behind = made.above o h lanes in
        let ordinal : request.ordinal ≡ p.request.ordinal = ap (λ (q : Order). q.request.ordinal) at in
        omega (arith, behind, ordinal)
    by_both o p (inr at) (inl k) lane above =
        let number : token.account.used + 1 ≡ o.call = ap (λ (q : Order). q.call) at in
        let most = (out-call token p is.current k).1 in
        absurd (omega (arith, above, number, most))
    by_both o p (inr at) (inr too) lane above =
        let number : token.account.used + 1 ≡ o.call = ap (λ (q : Order). q.call) at in
        let other : token.account.used + 1 ≡ p.call = ap (λ (q : Order). q.call) too in
        absurd (omega (arith, above, number, other))
