-- A command that passes the tests is right, and one that is right passes them.
use Rattle.std.proofs.Common.{◌≡◌, ◌≢◌, ◌≤◌, ◌<◌, ◌+◌, ◌==◌, ◌&&◌, ℕ, Bool, true, false, cond, not, is_none, nat_le, List, length, map, filter, get_or, refl, ap, sym, subst, ◌∙◌, arith, eq-eqb, bit_and}
use Rattle.std.specs.Prelude.{Option, Some, None}
use Rattle.std.specs.List.{count_by}
use Rattle.std.proofs.lemmas.Bool.{and_from, and_parts, eqb-true, false≢true, not-true, not_from_false, ne_eqb}
use Rattle.vg_laws.proofs.Numbers.{test-below}
use Rattle.vg_call_numbers.specs.Numbers.{is_used}
use Rattle.vg_client_holds.specs.declared.act.What.{What}
use Rattle.vg_client_holds.specs.declared.setup.Setup.{Setup}
use Rattle.vg_client_holds.specs.Holds.{denied_of}
use Rattle.vg_history.specs.declared.entry.Entry.TheVariants as entries
use Rattle.vg_wire.specs.declared.header.Header.{Header}
use Rattle.vg_wire.specs.declared.request.Queue.{Queue}
use Rattle.vg_wire.specs.declared.request.Queue.TheVariants.{Control, Cursor}
use Rattle.vg_wire.specs.Header.{header_of}
use Rattle.vg_machine.specs.Entries.{Entry}
use Rattle.vg_machine.specs.Lane.{lane_of, lane_of_header}
use Rattle.vg_machine.specs.Order.{CallOrder, IsAllowed, LaneOrder, call_of, is_of_lane, of_client}
use Rattle.vg_machine.specs.Replay.{replay}
use Rattle.vg_device.specs.RequestStep.{request_step}
use Rattle.vg_device.specs.State.{State}
use Rattle.vg_device.specs.declared.request.Request.{Request}
use Rattle.vg_device.specs.declared.request.Reply.{Reply}
use Rattle.vg_check.specs.declared.seen.Seen.{Seen}
use Rattle.vg_check.specs.Checked.{HasSeen, calls_on}
use Rattle.vg_check.specs.Right.{IsRightly}
use Rattle.vg_check.specs.TestsWithin.{PassesCommand, is_next_command, is_next_on_lane}
use Rattle.vg_check.proofs.ActLemmas.{below-test, most-test, test-most}
use Rattle.vg_check.proofs.EntryLemmas.{all-below, all-map, below-all, leaves-none, map-all, none-leaves}
use Rattle.vg_check.proofs.SeenLemmas.{NumberLaws, has-none, none-has}

-- ---- lanes

header-lane : (flag : Bool) (ring : ℕ) (low : Bool) → nat_le ring 63 ≡ low → cond (flag && low) (1 + ring) 0 < 66
header-lane true ring true is = let most = most-test ring 63 is in omega (arith, most)
header-lane true ring false is = omega arith
header-lane false ring low is = omega arith

choice : (b : Bool) (n : ℕ) → n < 66 → cond b n 0 < 66
choice true n low = low
choice false n low = omega arith

-- there are 66 lanes
pub lane-low : (queue : Queue) (bytes : List ℕ) → lane_of queue bytes < 66
lane-low Cursor bytes = omega arith
lane-low Control bytes =
    let header : Header = header_of bytes in
    choice (nat_le 24 (length bytes)) (lane_of_header header) (header-lane (bit_and header.flags 2 == 2) header.ring_idx (nat_le header.ring_idx 63) refl)

pub is-on : (request : Request) (lane : ℕ) → request.lane ≡ lane → (request.lane == lane) ≡ true
is-on request lane on = eq-eqb request.lane lane on

pub is-off : (request : Request) (lane : ℕ) → request.lane ≢ lane → (request.lane == lane) ≡ false
is-off request lane off = ne_eqb request.lane lane off

-- ---- what is denied

none-denied : (denied : Option What) → is_none denied ≡ true → denied ≡ None
none-denied None is = refl
none-denied (Some what) is = absurd (false≢true is)

-- ---- all of it

pub not-zero : (n : ℕ) → (n == 0) ≡ false → n ≢ 0
not-zero n is e = false≢true (sym is ∙ eq-eqb n 0 e)

module _ (laws : NumberLaws) (setup : Setup) (H : List Entry) (seen : Seen) (client call : ℕ) (request : Request) (reply : Reply) (is : HasSeen setup client H seen) where
  abbrev entry : Entry
  entry = entries.Command client call request reply

  abbrev taken : List ℕ
  taken = map call_of (of_client client H)

  -- what the test says
  pub record Parts : Type 0 where
    pub counted : 1 ≤ call
    pub fresh : is_used seen.numbers call ≡ false
    pub stays : seen.left ≡ false
    pub entered : seen.numbers.top ≢ 0
    pub above : get_or seen.last.items request.lane 0 < call

  pub parts-of : is_next_command seen call request.lane ≡ true → Parts
  parts-of next =
      let a = and_parts (nat_le 1 call) _ next in
      let b = and_parts (not (is_used seen.numbers call)) _ a.1 in
      let c = and_parts (not seen.left) _ b.1 in
      let d = and_parts (not (seen.numbers.top == 0)) _ c.1 in
      record {
        counted = most-test 1 call a.0;
        fresh = not-true (is_used seen.numbers call) b.0;
        stays = not-true seen.left c.0;
        entered = not-zero seen.numbers.top (not-true (seen.numbers.top == 0) d.0);
        above = below-test (get_or seen.last.items request.lane 0) call d.1;
      }

  next-order : Parts → CallOrder H entry
  next-order parts = record {
    counted = parts.counted;
    fresh = all-map (λ n. n ≢ call) (of_client client H) ((laws.fresh seen.numbers call taken is.numbers).0 parts.fresh);
    rising = all-map (λ n. n < call) (filter (is_of_lane request.lane) (of_client client H))
        (all-below call (calls_on client request.lane H) (subst (λ (n : ℕ). n < call) (is.last request.lane) parts.above));
    first = λ none. parts.entered (none-has setup client H seen is none);
    present = none-leaves (of_client client H) (sym is.left ∙ parts.stays);
  }

  order-next : CallOrder H entry → is_next_command seen call request.lane ≡ true
  order-next order =
      let fresh = (laws.fresh seen.numbers call taken is.numbers).1 (map-all (λ n. n ≢ call) (of_client client H) order.fresh) in
      let below = below-all call (calls_on client request.lane H) order.counted (map-all (λ n. n < call) (filter (is_of_lane request.lane) (of_client client H)) order.rising) in
      let above = subst (λ (n : ℕ). n < call) (sym (is.last request.lane)) below in
      and_from (nat_le 1 call) _ (test-most 1 call order.counted)
      (and_from (not (is_used seen.numbers call)) _ (not_from_false (is_used seen.numbers call) fresh)
      (and_from (not seen.left) _ (not_from_false seen.left (is.left ∙ leaves-none (of_client client H) order.present))
      (and_from (not (seen.numbers.top == 0)) _ (not_from_false (seen.numbers.top == 0) (ne_eqb seen.numbers.top 0 (λ none. order.first (has-none setup client H seen is none))))
      (test-below (get_or seen.last.items request.lane 0) call above))))

  lane-is : (lanes : List ℕ) → ((lane : ℕ) → get_or lanes lane 0 ≡ count_by (is_of_lane lane) H) → is_next_on_lane lanes request ≡ true → LaneOrder H entry
  lane-is lanes counts next =
      let parts = and_parts (request.lane == lane_of request.queue request.bytes) _ next in (
        eqb-true request.lane (lane_of request.queue request.bytes) parts.0,
        eqb-true request.ordinal (get_or lanes request.lane 0 + 1) parts.1 ∙ ap (λ (n : ℕ). n + 1) (counts request.lane),
      )

  is-lane : (lanes : List ℕ) → ((lane : ℕ) → get_or lanes lane 0 ≡ count_by (is_of_lane lane) H) → LaneOrder H entry → is_next_on_lane lanes request ≡ true
  is-lane lanes counts order =
      and_from (request.lane == lane_of request.queue request.bytes) _ (eq-eqb request.lane (lane_of request.queue request.bytes) order.0)
      (eq-eqb request.ordinal (get_or lanes request.lane 0 + 1) (order.1 ∙ ap (λ (n : ℕ). n + 1) (sym (counts request.lane))))

  pub passes-right : (state : State) (lanes : List ℕ) → state ≡ replay setup H → ((lane : ℕ) → get_or lanes lane 0 ≡ count_by (is_of_lane lane) H)
      → PassesCommand state lanes seen call request reply → IsRightly setup H entry
  passes-right state lanes at counts passes = record {
    order = record {
      lane = lane-is lanes counts passes.may.lane;
      call = next-order (parts-of passes.may.next);
      give_up = tt;
      fence = tt;
      sync = tt;
    };
    allowed = subst (λ h. IsAllowed h entry) is.holds (none-denied (denied_of seen.holds request.queue request.bytes) passes.may.allowed, passes.may.guest);
    reply = passes.replied ∙ ap (λ (s : State). (request_step s request).1) at;
  }

  pub right-passes : (state : State) (lanes : List ℕ) → state ≡ replay setup H → ((lane : ℕ) → get_or lanes lane 0 ≡ count_by (is_of_lane lane) H)
      → IsRightly setup H entry → PassesCommand state lanes seen call request reply
  right-passes state lanes at counts right =
      let allowed : (denied_of seen.holds request.queue request.bytes ≡ None) × (seen.holds.host ≡ false) = subst (λ h. IsAllowed h entry) (sym is.holds) right.allowed in
      record {
        may = record {
          next = order-next right.order.call;
          lane = is-lane lanes counts right.order.lane;
          allowed = ap (λ (d : Option What). is_none d) allowed.0;
          guest = allowed.1;
        };
        replied = right.reply ∙ ap (λ (s : State). (request_step s request).1) (sym at);
      }
