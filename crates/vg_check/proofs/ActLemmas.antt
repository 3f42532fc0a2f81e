-- An act that passes the tests is right, and one that is right passes them.
use Rattle.std.proofs.Common.{◌≡◌, ◌≢◌, ◌≤◌, ◌<◌, ◌-◌, ◌==◌, ◌&&◌, ◌||◌, ℕ, Bool, true, false, not, nat_le, nat_lt, List, [], map, get_or, refl, ap, sym, subst, ◌∙◌, arith, eq-eqb}
use Rattle.std.specs.List.{count_by}
use Rattle.std.proofs.lemmas.Bool.{and_from, and_parts, eqb-true, false≢true, not-true, not_from_false}
use Rattle.std.proofs.lemmas.Bool.Decides.{nat_tests}
use Rattle.vg_laws.proofs.Numbers.{test-below}
use Rattle.vg_call_numbers.specs.Numbers.{UsedNumbers, is_in_gap, is_used}
use Rattle.vg_client_holds.specs.declared.act.Act.{Act}
use Rattle.vg_client_holds.specs.declared.act.Act.TheVariants as acts
use Rattle.vg_client_holds.specs.declared.act.ActReply.{ActReply}
use Rattle.vg_client_holds.specs.declared.setup.Setup.{Setup}
use Rattle.vg_history.specs.declared.entry.Entry.TheVariants as entries
use Rattle.vg_device.specs.ActStep.{act_step}
use Rattle.vg_machine.specs.Entries.{Entry}
use Rattle.vg_machine.specs.Order.{AreInOrder, CallOrder, FenceOrder, GiveUp, IsAllowed, IsFirst, SyncOrder, call_of, is_of_lane, of_client}
use Rattle.vg_machine.specs.Replay.{replay}
use Rattle.vg_device.specs.State.{State}
use Rattle.vg_check.specs.declared.seen.Seen.{Seen}
use Rattle.vg_check.specs.Checked.{HasSeen}
use Rattle.vg_check.specs.Right.{IsRightly}
use Rattle.vg_check.specs.TestsWithin.{MayGiveUp, PassesAct, is_first, is_known, is_next_act}
use Rattle.vg_check.proofs.EntryLemmas.{all-map, leaves-none, map-all, map-by_call, none-leaves}
use Rattle.vg_check.proofs.FenceLemmas.{fence-there, there-fence}
use Rattle.vg_check.proofs.SeenLemmas.{NumberLaws, has-none, none-has}

-- ---- tests

pub below-test : (a b : ℕ) → nat_lt a b ≡ true → a < b
below-test a b is = grind (arith, nat_tests)

pub most-test : (a b : ℕ) → nat_le a b ≡ true → a ≤ b
most-test a b is = grind (arith, nat_tests)

pub test-most : (a b : ℕ) → a ≤ b → nat_le a b ≡ true
test-most a b is = grind (arith, nat_tests)

pub zero-test : (n : ℕ) → (n == 0) ≡ true → n ≡ 0
zero-test n is = eqb-true n 0 is

unused-by : (n top : ℕ) (gap low : Bool) → nat_le n top ≡ low → top < n → (nat_le 1 n && (low && gap)) ≡ false
unused-by n top gap true is above = let most = most-test n top is in absurd (omega (arith, above, most))
unused-by n top gap false is above = off (nat_le 1 n)
  where
    off : (b : Bool) → (b && false) ≡ false
    off true = refl
    off false = refl

-- a number above all isn't used
pub above-unused : (numbers : UsedNumbers) (n : ℕ) → numbers.top < n → is_used numbers n ≡ false
above-unused numbers n above = unused-by n numbers.top (not (is_in_gap n numbers.gaps)) (nat_le n numbers.top) refl above

-- ---- the first entry

first-is : (client call : ℕ) (act : Act) (reply : ActReply) → is_first act call ≡ true → IsFirst (entries.Act client call act reply)
first-is client call acts.Enter reply is = eqb-true call 1 is
first-is client call act reply is = absurd (false≢true is)

is-first : (client call : ℕ) (act : Act) (reply : ActReply) → IsFirst (entries.Act client call act reply) → is_first act call ≡ true
is-first client call acts.Enter reply is = eq-eqb call 1 is
is-first client call act reply is = absurd is

first-of : (b first : Bool) → (not b || first) ≡ true → b ≡ true → first ≡ true
first-of true first is none = is
first-of false first is none = absurd (false≢true none)

of-first : (b first : Bool) → (b ≡ true → first ≡ true) → (not b || first) ≡ true
of-first true first is = is refl
of-first false first is = refl

-- ---- a wait's fence

fence-is : (H : List Entry) (lanes : List ℕ) (client call : ℕ) (act : Act) (reply : ActReply) → AreInOrder [] H → ((lane : ℕ) → get_or lanes lane 0 ≡ count_by (is_of_lane lane) H)
    → is_known lanes act ≡ true → FenceOrder H (entries.Act client call act reply)
fence-is H lanes client call (acts.Await lane ordinal) reply order counts is =
    let most = most-test ordinal (get_or lanes lane 0) is in
    fence-there lane ordinal H order (subst (λ (n : ℕ). ordinal ≤ n) (counts lane) most)
fence-is H lanes client call act reply order counts is = tt

is-fence : (H : List Entry) (lanes : List ℕ) (client call : ℕ) (act : Act) (reply : ActReply) → AreInOrder [] H → ((lane : ℕ) → get_or lanes lane 0 ≡ count_by (is_of_lane lane) H)
    → FenceOrder H (entries.Act client call act reply) → is_known lanes act ≡ true
is-fence H lanes client call (acts.Await lane ordinal) reply order counts is =
    test-most ordinal (get_or lanes lane 0) (subst (λ (n : ℕ). ordinal ≤ n) (sym (counts lane)) (there-fence lane ordinal H order is))
is-fence H lanes client call act reply order counts is = refl

-- ---- all of it

module _ (laws : NumberLaws) (setup : Setup) (H : List Entry) (seen : Seen) (client call : ℕ) (act : Act) (reply : ActReply) (is : HasSeen setup client H seen) where
  abbrev entry : Entry
  entry = entries.Act client call act reply

  abbrev taken : List ℕ
  taken = map call_of (of_client client H)

  next-order : is_next_act seen call act ≡ true → CallOrder H entry
  next-order next =
      let first = and_parts (nat_lt seen.numbers.top call) _ next in
      let second = and_parts (not seen.left) _ first.1 in
      let above = below-test seen.numbers.top call first.0 in
      let counted : 1 ≤ call = omega (arith, above) in
      record {
        counted = counted;
        fresh = all-map (λ n. n ≢ call) (of_client client H) ((laws.fresh seen.numbers call taken is.numbers).0 (above-unused seen.numbers call above));
        rising = all-map (λ n. n < call) (of_client client H) ((laws.above seen.numbers call taken counted is.numbers).0 above);
        first = λ none. first-is client call act reply (first-of (seen.numbers.top == 0) (is_first act call) second.1 (eq-eqb seen.numbers.top 0 (none-has setup client H seen is none)));
        present = none-leaves (of_client client H) (sym is.left ∙ not-true seen.left second.0);
      }

  order-next : CallOrder H entry → is_next_act seen call act ≡ true
  order-next order =
      let above = (laws.above seen.numbers call taken order.counted is.numbers).1 (map-all (λ n. n < call) (of_client client H) order.rising) in
      and_from (nat_lt seen.numbers.top call) _ (test-below seen.numbers.top call above)
      (and_from (not seen.left) _ (not_from_false seen.left (is.left ∙ leaves-none (of_client client H) order.present))
      (of-first (seen.numbers.top == 0) (is_first act call)
      (λ none. is-first client call act reply (order.first (has-none setup client H seen is (zero-test seen.numbers.top none))))))

  give-up : MayGiveUp seen.numbers call act → GiveUp H entry
  give-up may gives = map-by_call (of_client client H) ∙ (laws.all seen.numbers taken (call - 1) is.numbers).0 (may gives)

  up-give : GiveUp H entry → MayGiveUp seen.numbers call act
  up-give is' gives = (laws.all seen.numbers taken (call - 1) is.numbers).1 (sym (map-by_call (of_client client H)) ∙ is' gives)

  pub passes-right : (state : State) (lanes : List ℕ) → state ≡ replay setup H → AreInOrder [] H → ((lane : ℕ) → get_or lanes lane 0 ≡ count_by (is_of_lane lane) H)
      → SyncOrder H entry → PassesAct state lanes seen client call act reply → IsRightly setup H entry
  passes-right state lanes at order counts sync passes = record {
    order = record {
      lane = tt;
      call = next-order passes.may.next;
      give_up = give-up passes.may.give_up;
      fence = fence-is H lanes client call act reply order counts passes.may.known;
      sync = sync;
    };
    allowed = subst (λ h. IsAllowed h entry) is.holds (passes.may.denied, passes.may.part);
    reply = passes.replied ∙ ap (λ (s : State). (act_step s client act).1) at;
  }

  pub right-passes : (state : State) (lanes : List ℕ) → state ≡ replay setup H → AreInOrder [] H → ((lane : ℕ) → get_or lanes lane 0 ≡ count_by (is_of_lane lane) H)
      → IsRightly setup H entry → PassesAct state lanes seen client call act reply
  right-passes state lanes at order counts right =
      let allowed = subst (λ h. IsAllowed h entry) (sym is.holds) right.allowed in
      record {
        may = record {
          next = order-next right.order.call;
          give_up = up-give right.order.give_up;
          known = is-fence H lanes client call act reply order counts right.order.fence;
          denied = allowed.0;
          part = allowed.1;
        };
        replied = right.reply ∙ ap (λ (s : State). (act_step s client act).1) (sym at);
      }

pub is-above : (seen : Seen) (call : ℕ) (act : Act) → is_next_act seen call act ≡ true → seen.numbers.top < call
is-above seen call act next = below-test seen.numbers.top call (and_parts (nat_lt seen.numbers.top call) _ next).0
