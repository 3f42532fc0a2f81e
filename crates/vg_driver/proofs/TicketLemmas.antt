-- What came back of a call is the ticket's order.
use Rattle.std.proofs.Common.{◌≡◌, ◌⊎◌, inl, inr, ℕ, ◌==◌, ◌≤◌, Bool, true, false, cond, List, [], ◌∷◌, ◌++◌, map, Result, Ok, Err, refl, sym, ap, subst, ◌∙◌, arith, eq-eqb, true≢false}
use Rattle.std.specs.Prelude.{MatchResult}
use mathlib.Core.List.{map-append}
use Rattle.vg_history.specs.declared.entry.Entry.{Entry}
use Rattle.vg_history.specs.Entries.{call_of}
use Rattle.vg_history.specs.Lists.{Has, times, upto}
use Rattle.vg_history.proofs.ListLemmas.{has_map, prefix_trans, times_append, times_has, upto_one}
use Rattle.vg_book.specs.Outcomes.{asks_of, told_by}
use Rattle.vg_book.specs.Tokens.{TakesBack, TakesUnrun, Watched, finished_of}
use Rattle.vg_book.specs.Views.{calls, entry_of, given_up, order_call, settled, without}
use Rattle.vg_history.specs.Fences.{FenceData}
use Rattle.vg_client_holds.specs.declared.act.Act.{Act}
use Rattle.vg_client_holds.specs.declared.act.ActReply.{ActReply}
use Rattle.vg_device.specs.declared.request.Reply.{Reply}
use Rattle.vg_device.specs.declared.request.Request.{Request}
use Rattle.vg_client_holds.specs.declared.holds.Holds.{Holds}
use Rattle.vg_device.specs.State.{State}
use Rattle.vg_machine.specs.Jobs.{Job}
use Rattle.vg_machine.specs.Lender.{Lender}
use Rattle.vg_machine.specs.Replay.{display}
use Rattle.vg_driver.specs.declared.ticket.Ticket.{Ticket}
use Rattle.vg_chain.specs.declared.shape.Shape.{Shape}
use Rattle.vg_cargo.specs.Cargo.{Tells}
use Rattle.vg_book.specs.declared.outcome.Carried.{Carried}
use Rattle.vg_book.specs.declared.outcome.Carried.TheVariants as carried
use Rattle.vg_machine.specs.Written.{read_by, written_in}
use Rattle.vg_driver.specs.Halves as halves
use Rattle.vg_driver.specs.Halves.{Signals}
use Rattle.vg_driver.specs.Tickets.{Account, Awaited, DonePass, IsOf, IsOut, IsTold, Order, Pass, Token}

abbrev Back : Type 0 → Type 0
Back B = Carried Lender B State Act ActReply Request Reply Holds Job

abbrev En : Type 0
En = Entry Lender State Act ActReply Request Reply Holds Job

-- an order stands alone among those with its number, where none is left without the first of them
alone : (n : ℕ) (os : List Order) (o p : Order) → Has os o → Has os p → o.call ≡ n → p.call ≡ n → times n (map order_call (without n os)) ≡ 0 → o ≡ p
alone n [] o p h k a b none = absurd h
alone n (x ∷ xs) o p h k a b none = by_test (x.call == n) refl h k none (λ c d nothing. alone n xs o p c d a b nothing)
  where
    gone : (q : Order) → Has xs q → q.call ≡ n → times n (map order_call xs) ≡ 0 → ⊥
    gone q there is nothing = let one = times_has n (map order_call xs) (subst (Has (map order_call xs)) is (has_map order_call xs q there)) in omega (arith, one, nothing)

    other : (q : Order) → (x.call == n) ≡ false → x ≡ q → q.call ≡ n → ⊥
    other q not same is = true≢false (sym (eq-eqb x.call n (ap order_call same ∙ is)) ∙ not)

    by_test : (t : Bool) → (x.call == n) ≡ t → Has (x ∷ xs) o → Has (x ∷ xs) p → times n (map order_call (cond t xs (x ∷ without n xs))) ≡ 0 → (Has xs o → Has xs p → times n (map order_call (without n xs)) ≡ 0 → o ≡ p) → o ≡ p
    by_test true is (inl c) (inl d) nothing rest = sym c ∙ d
    by_test true is (inl c) (inr d) nothing rest = absurd (gone p d b nothing)
    by_test true is (inr c) d nothing rest = absurd (gone o c a nothing)
    by_test false is (inl c) d nothing rest = absurd (other o is c a)
    by_test false is (inr c) (inl d) nothing rest = absurd (other p is d b)
    by_test false is (inr c) (inr d) nothing rest = rest c d (omega (arith, nothing))

-- the client's numbers stand once each among those that it knows of
none_left : (n : ℕ) (mine : List En) (e : En) (os : List Order) (spent : List ℕ) (used : ℕ) → call_of e ≡ n → times n (map call_of (mine ++ e ∷ []) ++ (map order_call os ++ spent)) ≡ times n (upto used) → times n (map order_call os) ≡ 0
none_left n mine e os spent used is numbers =
    let front = ap (times n) (map-append call_of mine (e ∷ [])) in
    let last : 1 ≤ times n (map call_of (e ∷ [])) = times_has n (map call_of (e ∷ [])) (inl is) in
    omega (arith, numbers, front, last, upto_one used n, times_append n (map call_of (mine ++ e ∷ [])) (map order_call os ++ spent), times_append n (map order_call os) spent, times_append n (map call_of mine) (map call_of (e ∷ [])))

none_spent : (n : ℕ) (mine : List En) (os : List Order) (spent : List ℕ) (used : ℕ) → times n (map call_of mine ++ (map order_call os ++ (spent ++ n ∷ []))) ≡ times n (upto used) → times n (map order_call os) ≡ 0
none_spent n mine os spent used numbers =
    let last : 1 ≤ times n (n ∷ []) = times_has n (n ∷ []) (inl refl) in
    omega (arith, numbers, last, upto_one used n, times_append n (map call_of mine) (map order_call os ++ (spent ++ n ∷ [])), times_append n (map order_call os) (spent ++ n ∷ []), times_append n spent (n ∷ []))

-- what was taken back is the ticket's
pub ticket_done : (old : Token) (ticket : Ticket) (f : DonePass) (new : Token) → IsOut old.account ticket → f.order.call ≡ ticket.call → TakesBack display old f new → IsOf ticket f.order
ticket_done old ticket f new (order, has, is) call t =
    let n : ℕ = f.order.call in
    let numbers : times n (calls (settled old.account (finished_of display f))) ≡ times n (upto old.account.used) = subst (λ (a : Account). times n (calls a) ≡ times n (upto a.used)) t.account (t.known.numbers n) in
    let none = none_left n old.account.mine (entry_of (finished_of display f)) (without n old.account.out) old.account.spent old.account.used refl numbers in
    let same : f.order ≡ order = alone n old.account.out f.order order t.out has refl (is.call ∙ sym call) none in
    subst (IsOf ticket) (sym same) is

pub ticket_unrun : (old : Token) (ticket : Ticket) (p : Pass) (new : Token) → IsOut old.account ticket → p.order.call ≡ ticket.call → TakesUnrun display old p new → IsOf ticket p.order
ticket_unrun old ticket p new (order, has, is) call t =
    let n : ℕ = p.order.call in
    let numbers : times n (calls (given_up old.account p.order)) ≡ times n (upto old.account.used) = subst (λ (a : Account). times n (calls a) ≡ times n (upto a.used)) t.account (t.known.numbers n) in
    let none = none_spent n old.account.mine (without n old.account.out) old.account.spent old.account.used numbers in
    let same : p.order ≡ order = alone n old.account.out p.order order t.out has refl (is.call ∙ sym call) none in
    subst (IsOf ticket) (sym same) is

-- what came back of a call and wasn't run has its number
pub call_unrun : {B : Type 0} (back : Back B) (p : Pass) (client call : ℕ) → (back ≡ carried.Wanted p) ⊎ (back ≡ carried.Unrun p) → halves.IsOf client call back → p.order.call ≡ call
call_unrun back p client call (inl is) of = (subst (halves.IsOf client call) is of).1
call_unrun back p client call (inr is) of = (subst (halves.IsOf client call) is of).1

-- what is read in the room of a command that was run is its entry's reply
pub reply_done : {B : Type 0} (f : DonePass) (back : Back B) (shape : Shape) (bytes : List ℕ) → back ≡ carried.Done f → (asks_of display back).shape ≡ shape → Tells (told_by display back) bytes
    → read_by f.order.request.shape (written_in f.order.request.room f.reply) ≡ f.reply → read_by shape bytes ≡ f.reply
reply_done f back shape bytes is shape_is told read =
    let same : f.order.request.shape ≡ shape = subst (λ (r : Back _). (asks_of display r).shape ≡ shape) is shape_is in
    let bytes_are : bytes ≡ written_in f.order.request.room f.reply = subst (λ (r : Back _). Tells (told_by display r) bytes) is told in
    ap (λ (s : Shape). read_by s bytes) (sym same) ∙ ap (read_by f.order.request.shape) bytes_are ∙ read

-- a client that has at most seen more, twice
watched_on : (c d e : Token) → Watched display c d → Watched display d e → Watched display c e
watched_on c d e first second = record {
  more = prefix_trans c.seen d.seen e.seen first.more second.more;
  account = second.account ∙ first.account;
  start = second.start ∙ first.start;
  history = second.history;
  known = second.known;
}

-- the client has met a fence, and told of it
pub awaited : {E : Type 0} (old met new : Token) (fence : FenceData) (result : Result ℕ E) → Signals display old fence true met → MatchResult result (λ entry. IsTold met fence entry new) (λ e. Watched display met new)
    → MatchResult result (λ entry. Awaited old fence entry new) (λ e. Watched display old new)
awaited old met new fence (Ok entry) signals told = record { met = met; watched = signals.1; known = signals.0; reply = told.0; acted = told.1 }
awaited old met new fence (Err e) signals watched = watched_on old met new signals.1 watched
