-- A request that may be published next.
use Rattle.std.proofs.Common.{◌≡◌, ℕ, ◌+◌, ◌-◌, ◌^◌, ◌==◌, ◌<◌, ◌≤◌, ◌&&◌, nat_le, nat_lt, bit_and, Bool, true, false, cond, List, [], ◌∷◌, length, None, Result, Ok, Err, refl, sym, ap, subst, ◌∙◌, arith, length-append, ne_eqb}
use Rattle.std.specs.Prelude.{IfOk}
use Rattle.std.proofs.lemmas.Bool.Decides.{nat_tests}
use Rattle.vg_chain.specs.declared.shape.Shape.{Shape}
use Rattle.vg_chain.specs.declared.shape.Shape.TheVariants.{Plain, Indirect}
use Rattle.vg_chain.specs.Made.{IsCount, IsNeeded}
use Rattle.vg_wire.specs.declared.header.Header.{Header}
use Rattle.vg_wire.specs.declared.request.Queue.{Queue}
use Rattle.vg_wire.specs.declared.request.Queue.TheVariants as queues
use Rattle.vg_wire.specs.declared.two_d.Command2d.TheVariants as commands
use Rattle.vg_wire.specs.Header.{header_of}
use Rattle.vg_wire.proofs.HeaderLemmas.{length-header_bytes}
use Rattle.vg_wire_ext.specs.declared.command.Command.{Command}
use Rattle.vg_wire_ext.specs.declared.command.Command.TheVariants.{TwoD, Edid, AssignUuid, CreateBlob}
use Rattle.vg_wire_ext.specs.Commands.{command_body, command_kind}
use Rattle.vg_wire_ext.specs.Request.{request_bytes, request_of}
use Rattle.vg_cargo.specs.Cargo.{IsLane}
use Rattle.vg_cargo.specs.Ends.{DriverLists, HasRoom}
use Rattle.vg_cargo.specs.declared.entries.Entry as ring
use Rattle.vg_cargo.specs.Entries.{lane_count}
use Rattle.vg_device.specs.declared.request.Request.{Request}
use Rattle.vg_client_holds.specs.declared.holds.Holds.{Holds}
use Rattle.vg_client_holds.specs.Holds.{denied_of, denied_request}
use Rattle.vg_machine.specs.Lane.{lane_of, lane_of_header}
use Rattle.vg_driver.proofs.ShortLemmas.{short-body}
use Rattle.vg_driver.specs.declared.request.Way.{Way}
use Rattle.vg_driver.specs.declared.request.Way.TheVariants.{Control, Timeline, Cursor}
use Rattle.vg_driver.specs.declared.ticket.Ticket.{Ticket}
use Rattle.vg_driver.specs.Requests.{IsShort, IsWay, MayGo, denied_by, header_by, lane_by, queue_by, raw_request, request_by, room_on, shape_of}
use Rattle.vg_driver.specs.declared.ask.Ask.{Ask}
use Rattle.vg_driver.specs.declared.ask.Ask.TheVariants as asks
use Rattle.vg_driver.specs.Asks.{IsAsk, IsMadeFor, IsNeededFor, denied_for, lane_for, queue_for, request_for}
use Rattle.vg_driver.specs.OffersWithin.{IsNext}
use Rattle.vg_driver.proofs.HalfLemmas.{lane_small}
use Rattle.vg_driver.specs.Tickets.{Submitted, Token}

-- what is denied has nothing to do with the ordinal
denied_with : (holds : Holds) (way : Way) (ordinal : ℕ) (command : Command) → denied_request holds (Ok (header_by way (command_kind command) ordinal, command)) ≡ denied_by holds way command
denied_with holds (Control context) ordinal command = refl
denied_with holds (Timeline context ring) ordinal command = refl
denied_with holds Cursor ordinal command = refl

-- the lane of bytes is one of their queue
header_lane : (header : Header) → lane_of_header header ≤ 64
header_lane header = by_test (bit_and header.flags 2 == 2) (nat_le header.ring_idx 63) refl
  where
    by_test : (a b : Bool) → nat_le header.ring_idx 63 ≡ b → cond (a && b) (1 + header.ring_idx) 0 ≤ 64
    by_test true true e = let small : header.ring_idx ≤ 63 = grind (arith, nat_tests, e) in omega (arith, small)
    by_test true false e = omega arith
    by_test false b e = omega arith

pub bytes_lane : (queue : Queue) (bytes : List ℕ) → IsLane queue (lane_of queue bytes)
bytes_lane queues.Cursor bytes = refl
bytes_lane queues.Control bytes = by_test (nat_le 24 (length bytes))
  where
    by_test : (b : Bool) → cond b (lane_of_header (header_of bytes)) 0 ≤ 64
    by_test true = header_lane (header_of bytes)
    by_test false = omega arith

way_lane : (way : Way) → IsWay way → IsLane (queue_by way) (lane_by way)
way_lane (Control context) is = omega arith
way_lane (Timeline context ring) is = omega (arith, is)
way_lane Cursor is = refl

-- a command's request is laid out plain, or by a table
some_bytes : (k : ℕ) → (24 + k == 0) ≡ false
some_bytes k = ne_eqb (24 + k) 0 (λ same. absurd (omega (arith, same)))

plain_longer : (r c k : ℕ) → IsNeeded Plain 24 r c → IsNeeded Plain (24 + k) r c
plain_longer r c k is = λ base q places. rw (some_bytes k) (is base q places)

longer : (b : Bool) (r c k : ℕ) → IsNeeded (cond b Indirect Plain) 24 r c → IsNeeded (cond b Indirect Plain) (24 + k) r c
longer true r c k is = λ base q places. is base q places
longer false r c k is = plain_longer r c k is

pub needed_longer : (command : Command) (r c k : ℕ) → IsNeeded (shape_of command) 24 r c → IsNeeded (shape_of command) (24 + k) r c
needed_longer (TwoD (commands.Attach resource entries)) r c k is = longer (nat_lt 8 (length entries)) r c k is
needed_longer (CreateBlob resource mem flags blob_id size entries) r c k is = longer (nat_lt 8 (length entries)) r c k is
needed_longer command r c k is = plain_longer r c k is

counts : (b : Bool) → IsCount (cond b Indirect Plain)
counts true = tt
counts false = tt

pub shape_counts : (command : Command) → IsCount (shape_of command)
shape_counts (TwoD (commands.Attach resource entries)) = counts (nat_lt 8 (length entries))
shape_counts (CreateBlob resource mem flags blob_id size entries) = counts (nat_lt 8 (length entries))
shape_counts command = tt

small_room : (queue : Queue) (command : Command) → room_on queue command ≤ 8192
small_room queues.Cursor command = omega arith
small_room queues.Control (TwoD commands.DisplayInfo) = omega arith
small_room queues.Control (Edid scanout) = omega arith
small_room queues.Control (AssignUuid resource) = omega arith
small_room queues.Control command = omega arith

request_long : (header : Header) (command : Command) → length (request_bytes header command) ≡ 24 + length (command_body command)
request_long header command = simp length-append (omega (arith, length-header_bytes header))

-- a lane has at most all entries
lane_few : (lane : ℕ) (es : List ring.Entry) → lane_count lane es ≤ length es
lane_few lane [] = omega arith
lane_few lane (e ∷ es) = by_test (e.lane == lane) (lane_few lane es)
  where
    by_test : (b : Bool) → lane_count lane es ≤ length es → cond b 1 0 + lane_count lane es ≤ length (e ∷ es)
    by_test true few = omega (arith, few)
    by_test false few = omega (arith, few)

-- a request that may be published has a fence
pub next_fence : (holds : Holds) (lists : DriverLists) (request : Request) → IsNext holds lists request → (1 ≤ request.ordinal) × (request.ordinal < 2 ^ 63)
next_fence holds lists request next =
    let few = lane_few request.lane lists.published in
    let ordinal = next.ordinal in
    let last = next.last in
    (omega (arith, ordinal), omega (arith, ordinal, few, last))

-- what is made of a command, and of bytes
pub made_command : (way : Way) (command : Command) (ordinal : ℕ) (request : Request) → MayGo way command → IsShort command
    → request ≡ request_by way command ordinal → lane_of (queue_by way) request.bytes ≡ lane_by way → request_of (queue_by way) request.bytes ≡ Ok (header_by way (command_kind command) ordinal, command)
    → IsMadeFor (asks.Command way command) ordinal request
made_command way command ordinal request may short is lane reads =
    let header = header_by way (command_kind command) ordinal in
    let bytes = request.bytes in
    let bytes_are : bytes ≡ request_bytes header command = ap (λ q. q.bytes) is in
    let long : length bytes ≡ 24 + length (command_body command) = ap {B = ℕ} length bytes_are ∙ request_long header command in
    let same : request_by way command ordinal ≡ request = sym is in
    record {
      is = is;
      lane = subst (λ (q : Request). IsLane q.queue q.lane) same (way_lane way may.0);
      lane_is = ap (λ q. q.lane) is ∙ (sym lane ∙ ap (λ q. lane_of q bytes) (sym (ap (λ q. q.queue) is)));
      short = let fits = short-body command short in omega (arith, long, fits);
      room = subst (λ (q : Request). q.room ≤ 8192) same (small_room (queue_by way) command);
      count = subst (λ (q : Request). IsCount q.shape) same (shape_counts command);
      needed = λ count is_needed. subst (λ (q : Request). IsNeeded q.shape (length bytes) q.room count) same (subst (λ n. IsNeeded (shape_of command) n (room_on (queue_by way) command) count) (sym long) (is_needed (length (command_body command))));
      denied = λ holds. ap (λ q. denied_of holds q bytes) (ap (λ q. q.queue) is) ∙ (ap (denied_request holds) reads ∙ denied_with holds way ordinal command);
    }

pub made_command-if : {E : Type 0} (way : Way) (command : Command) (ordinal : ℕ) (made : Result Request E) → MayGo way command → IsShort command → IfOk made (λ request. request ≡ request_by way command ordinal)
    → IfOk made (λ request. lane_of (queue_by way) request.bytes ≡ lane_by way) → IfOk made (λ request. request_of (queue_by way) request.bytes ≡ Ok (header_by way (command_kind command) ordinal, command))
    → IfOk made (IsMadeFor (asks.Command way command) ordinal)
made_command-if way command ordinal (Ok request) may short is lane reads = made_command way command ordinal request may short is lane reads
made_command-if way command ordinal (Err error) may short is lane reads = tt

pub made_raw : (queue : Queue) (room : ℕ) (shape : Shape) (bytes : List ℕ) (ordinal : ℕ) (request : Request) → length bytes ≤ 49152 → room ≤ 8192 → IsCount shape → request ≡ raw_request queue room shape bytes ordinal
    → IsMadeFor (asks.Raw queue room shape bytes) ordinal request
made_raw queue room shape bytes ordinal request short small is_count is =
    subst (IsMadeFor (asks.Raw queue room shape bytes) ordinal) (sym is) (record {
      is = refl;
      lane = bytes_lane queue bytes;
      lane_is = refl;
      short = short;
      room = small;
      count = is_count;
      needed = λ count is_needed. is_needed;
      denied = λ holds. refl;
    })

-- what is made has the queue, the lane and the ordinal
pub made_queue : (ask : Ask) (ordinal : ℕ) → (request_for ask ordinal).queue ≡ queue_for ask
made_queue (asks.Command way command) ordinal = refl
made_queue (asks.Raw queue room shape bytes) ordinal = refl

made_lane : (ask : Ask) (ordinal : ℕ) → (request_for ask ordinal).lane ≡ lane_for ask
made_lane (asks.Command way command) ordinal = refl
made_lane (asks.Raw queue room shape bytes) ordinal = refl

made_ordinal : (ask : Ask) (ordinal : ℕ) → (request_for ask ordinal).ordinal ≡ ordinal
made_ordinal (asks.Command way command) ordinal = refl
made_ordinal (asks.Raw queue room shape bytes) ordinal = refl

pub next_for : (ask : Ask) (holds : Holds) (lists : DriverLists) (ordinal : ℕ) (request : Request) (count : ℕ) → IsMadeFor ask ordinal request → denied_for holds ask ≡ None → holds.host ≡ false → queue_for ask ≡ lists.queue
    → ordinal ≡ lane_count (lane_for ask) lists.published + 1 → IsNeededFor ask count → HasRoom lists count → length lists.published < 2 ^ 63 - 1 → IsNext holds lists request
next_for ask holds lists ordinal request count made allowed guest queue next needed room last = record {
  queue_is = ap (λ q. q.queue) made.is ∙ (made_queue ask ordinal ∙ queue);
  lane = made.lane;
  lane_is = made.lane_is;
  ordinal = ap (λ q. q.ordinal) made.is ∙ (made_ordinal ask ordinal ∙ (next ∙ ap (λ l. lane_count l lists.published + 1) (sym (ap (λ q. q.lane) made.is ∙ made_lane ask ordinal))));
  short = made.short;
  room = made.room;
  count = made.count;
  needed = (count, made.needed count needed, room);
  last = last;
  allowed = made.denied holds ∙ allowed;
  guest = guest;
}

-- the lane that it goes by is one that there is
pub lane_below : (ask : Ask) → IsAsk ask → lane_for ask < 66
lane_below (asks.Command way command) is = lane_small (queue_by way) (lane_by way) (way_lane way is.0.0)
lane_below (asks.Raw queue room shape bytes) is = lane_small queue (lane_of queue bytes) (bytes_lane queue bytes)

-- the request is made of its own ordinal
pub made_as : (ask : Ask) (ordinal : ℕ) (request : Request) → IsMadeFor ask ordinal request → request ≡ request_for ask request.ordinal
made_as ask ordinal request made = made.is ∙ ap (request_for ask) (sym (ap (λ q. q.ordinal) made.is ∙ made_ordinal ask ordinal))

-- the request is this function of its ordinal
pub submitted_as : (old : Token) (f : ℕ → Request) (request : Request) (ticket : Ticket) (new : Token) → request ≡ f request.ordinal → Submitted old (λ n. request) ticket new → Submitted old f ticket new
submitted_as old f request ticket new is s =
    let same : request ≡ f ticket.fence.ordinal = is ∙ ap f (sym s.ordinal) in
    let t : Submitted old (λ n. f ticket.fence.ordinal) ticket new = subst (λ (q : Request). Submitted old (λ n. q) ticket new) same s in
    record { pass = t.pass; drawn = t.drawn; lane = t.lane; ordinal = t.ordinal; call = t.call; of_bytes = t.of_bytes; allowed = t.allowed }
