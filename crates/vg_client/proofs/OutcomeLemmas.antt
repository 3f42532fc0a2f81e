-- The numbers of a client's entries, and what the last of them was answered.
use Rattle.std.proofs.Common.{◌≡◌, ◌+◌, ◌<◌, ◌≤◌, ◌∙◌, sym, ap, refl, subst, arith, ℕ, zero, suc, Bool, true, false, cond, List, [], ◌∷◌, ◌++◌, length, length-append, Option, Some, None}
use Rattle.std.specs.Prelude.{IsSome}
use mathlib.Core.List.{IsPrefix}
use mathlib.Core.Logic.{dite}
use mathlib.Core.Option.{some, some-ne-none}
use native.Mathlib.Decide.{dec_le}
use lib.ListN.{get_elem?}
use Rattle.vg_history.specs.declared.entry.Entry.TheVariants.{Act, Command}
use Rattle.vg_history.proofs.ListLemmas.{has_at}
use Rattle.vg_book.specs.Places.{HasCall}
use Rattle.vg_machine.specs.Entries.{Entry}
use Rattle.vg_machine.specs.Order.{call_of, client_of}
use Rattle.vg_driver.specs.Tickets.{Token}
use Rattle.vg_client.specs.declared.given.Added.{Added}
use Rattle.vg_client.specs.declared.given.Given.TheVariants as givens
use Rattle.vg_client.specs.declared.outcome.Last.{Last}
use Rattle.vg_client.specs.declared.outcome.Last.TheVariants as lasts
use Rattle.vg_client.specs.declared.outcome.Outcome.{Outcome}
use Rattle.vg_client.specs.declared.outcome.Played.{Played}
use Rattle.vg_client.specs.Given.{given_of, tells_denial}
use Rattle.vg_client.specs.Outcomes.{AreNumbered, EndsAt, EndsWith, HasPlayed, IsNumbered, IsOutcome, last_given, last_of}

-- an entry stands where it stood
at-left : (xs more : List Entry) (place : ℕ) (e : Entry) → get_elem? xs place ≡ some e → get_elem? (xs ++ more) place ≡ some e
at-left [] more place e at = absurd (some-ne-none e (sym at))
at-left (x ∷ xs) more zero e at = at
at-left (x ∷ xs) more (suc place) e at = at-left xs more place e at

at-back : (xs more : List Entry) (place : ℕ) (e : Entry) → place < length xs → get_elem? (xs ++ more) place ≡ some e → get_elem? xs place ≡ some e
at-back [] more place e below at = absurd (omega (arith, below))
at-back (x ∷ xs) more zero e below at = at
at-back (x ∷ xs) more (suc place) e below at = at-back xs more place e (omega (arith, below)) at

at-within : (xs : List Entry) (place : ℕ) (e : Entry) → get_elem? xs place ≡ some e → place < length xs
at-within [] place e at = absurd (some-ne-none e (sym at))
at-within (x ∷ xs) zero e at = omega arith
at-within (x ∷ xs) (suc place) e at = let here = at-within xs place e at in omega (arith, here)

pub at-last : (xs : List Entry) (e : Entry) (n : ℕ) → length xs ≡ n → get_elem? (xs ++ e ∷ []) n ≡ some e
at-last [] e zero same = refl
at-last [] e (suc n) same = absurd (omega (arith, same))
at-last (x ∷ xs) e zero same = absurd (omega (arith, same))
at-last (x ∷ xs) e (suc n) same = at-last xs e n (omega (arith, same))

pub prefix-length : (xs ys : List Entry) → IsPrefix xs ys → length xs ≤ length ys
prefix-length xs ys p =
    let longer : length (xs ++ p.0) ≡ length ys = ap (λ (zs : List Entry). length zs) p.1 in
    let both = length-append xs p.0 in
    omega (arith, longer, both)

numbered-still : (seen seen' : List Entry) (number : ℕ) (entry : Entry) → IsPrefix seen seen' → IsNumbered seen number entry → IsNumbered seen' number entry
numbered-still seen seen' number entry p (place, is, at) = (place, is, subst (λ (xs : List Entry). get_elem? xs place ≡ some entry) p.1 (at-left seen p.0 place entry at))

numbered-within : (seen : List Entry) (number : ℕ) (entry : Entry) → IsNumbered seen number entry → number ≤ length seen
numbered-within seen number entry (place, is, at) = let below = at-within seen place entry at in omega (arith, is, below)

-- the number of one entry more, behind all that was seen
pub numbered-more : (seen seen' : List Entry) (above : ℕ) (numbers : List ℕ) (mine : List Entry) (number : ℕ) (entry : Entry) → AreNumbered seen above numbers mine → IsPrefix seen seen' → above ≤ length seen → length seen < number → IsNumbered seen' number entry
    → AreNumbered seen' above (numbers ++ number ∷ []) (mine ++ entry ∷ [])
numbered-more seen seen' above [] [] number entry are p low behind here = (omega (arith, low, behind), here, tt)
numbered-more seen seen' above [] (e ∷ mine) number entry are p low behind here = absurd are
numbered-more seen seen' above (n ∷ numbers) [] number entry are p low behind here = absurd are
numbered-more seen seen' above (n ∷ numbers) (e ∷ mine) number entry are p low behind here =
    (are.0, numbered-still seen seen' n e p are.1, numbered-more seen seen' n numbers mine number entry are.2 p (numbered-within seen n e are.1) behind here)

-- what a maker is told of an entry is what the entry was answered
last-is : (number : ℕ) (entry : Entry) → last_given number (given_of entry) ≡ last_of number entry
last-is number (Act client call act reply) = by_test (tells_denial act)
  where
    by_test : (b : Bool) → last_given number (cond b (givens.Denied reply) (givens.Act reply)) ≡ lasts.Act reply
    by_test true = refl
    by_test false = refl
last-is number (Command client call request reply) = refl

pub played-none : (seen : List Entry) (played : Played) → played.entries.items ≡ [] → played.last ≡ None → HasPlayed seen [] seen played
played-none seen played entries last =
    let Numbers : List ℕ → Type 0 = λ ns. AreNumbered seen (length seen) ns [] in
    let Ends : Option Last → Type 0 = λ l. EndsAt played.entries.items [] l in
    let none : Ends None = refl in
    record { numbered = subst Numbers (sym entries) tt; ends = subst Ends (sym last) none }

-- what one task more has given
pub played-more : (seen0 seen seen' mine : List Entry) (entry : Entry) (played played' : Played) (added : Added) → HasPlayed seen0 mine seen played → IsPrefix seen0 seen → IsPrefix seen seen' → added.given ≡ given_of entry → IsNumbered seen' added.number entry → length seen < added.number
    → played'.entries.items ≡ played.entries.items ++ added.number ∷ [] → played'.last ≡ Some (last_given added.number added.given) → HasPlayed seen0 (mine ++ entry ∷ []) seen' played'
played-more seen0 seen seen' mine entry played played' added has p p' given numbered behind entries last =
    let Numbers : List ℕ → Type 0 = λ ns. AreNumbered seen' (length seen0) ns (mine ++ entry ∷ []) in
    let Ends : Option Last → Type 0 = λ l. EndsAt played'.entries.items (mine ++ entry ∷ []) l in
    let ends : Ends (Some (last_given added.number added.given)) = record {
      numbers_before = played.entries.items;
      number = added.number;
      before = mine;
      entry = entry;
      numbers_are = entries;
      mine_are = refl;
      last_is = ap (last_given added.number) given ∙ last-is added.number entry;
    } in
    record {
      numbered = subst Numbers (sym entries) (numbered-more seen seen' (length seen0) played.entries.items mine added.number entry has.numbered p' (prefix-length seen0 seen p) behind numbered);
      ends = subst Ends (sym last) ends;
    }

-- of a call that gave an entry something is told
pub ends-some : (numbers : List ℕ) (mine : List Entry) (last : Option Last) → EndsAt numbers mine last → (mine ≡ [] → ⊥) → IsSome last
ends-some numbers mine None ends gave = absurd (gave ends)
ends-some numbers mine (Some last) ends gave = refl

pub outcome-is : (seen mine seen' : List Entry) (played : Played) (outcome : Outcome) → HasPlayed seen mine seen' played → outcome.entries ≡ played.entries.items → played.last ≡ Some outcome.last → IsOutcome seen mine seen' outcome
outcome-is seen mine seen' played outcome has entries last =
    let Numbers : List ℕ → Type 0 = λ ns. AreNumbered seen' (length seen) ns mine in
    let Ends : List ℕ → Type 0 = λ ns. EndsWith ns mine outcome.last in
    let Told : Option Last → Type 0 = λ l. EndsAt played.entries.items mine l in
    let ends : EndsWith played.entries.items mine outcome.last = subst Told last has.ends in
    record { numbered = subst Numbers (sym entries) has.numbered; ends = subst Ends (sym entries) ends }

-- an entry with a client's next number stands behind all that the client had seen
pub stands-behind : (token : Token) (seen' : List Entry) (place : ℕ) (entry : Entry) → (HasCall token.seen token.account.number (token.account.used + 1) → ⊥) → IsPrefix token.seen seen' → client_of entry ≡ token.account.number
    → call_of entry ≡ token.account.used + 1 → get_elem? seen' place ≡ some entry → length token.seen ≤ place
stands-behind token seen' place entry new p owner call at = dite (dec_le (length token.seen) place) (λ behind. behind) (λ no. absurd (apart (omega (arith, no))))
  where
    apart : place < length token.seen → ⊥
    apart below =
        let old : get_elem? token.seen place ≡ some entry = at-back token.seen p.0 place entry below (subst (λ (xs : List Entry). get_elem? xs place ≡ some entry) (sym p.1) at) in
        new (entry, has_at token.seen place entry old, owner, call)
