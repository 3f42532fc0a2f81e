-- What a seat has, and how seats are cut in two and joined.
use Rattle.std.specs.Prelude.{◌≡◌, ◌⊎◌, ℕ, ◌+◌, ◌==◌, true, false, List, [], ◌∷◌, ◌++◌, map, length, Option, Some, None, if◌then◌else◌}
use mathlib.Core.Option as maybe
use mathlib.Core.Option.{some}
use Rattle.vg_history.specs.declared.entry.Entry.{Entry}
use Rattle.vg_history.specs.declared.entry.Entry.TheVariants.{Act, Command}
use Rattle.vg_history.specs.Lists.{Has}
use Rattle.vg_history.specs.Entries.{call_of}
use Rattle.vg_book.specs.declared.board.Slot.{Slot}
use Rattle.vg_book.specs.declared.board.Slot.TheVariants.{Held, Told, Asked}
use Rattle.vg_book.specs.declared.board.Order.{Order}
use Rattle.vg_book.specs.declared.board.Finished.{Finished}
use Rattle.vg_book.specs.declared.board.Account.{Account}
use Rattle.vg_book.specs.declared.board.Counted.{Counted}
use Rattle.vg_book.specs.declared.board.View.{View}

abbrev pub counted_up : Counted → Counted
counted_up l = record l { count = l.count + 1 }

module _ {M S A R Q P H W : Type 0} where
  abbrev pub order_call : Order M S A R Q P H W → ℕ
  order_call o = o.call

  abbrev pub order_of : Finished M S A R Q P H W → Order M S A R Q P H W
  order_of f = f.order

  -- The entry of an order that was run.
  abbrev pub entry_of : Finished M S A R Q P H W → Entry M S A R Q P H W
  entry_of f = Command f.order.client f.order.call f.order.request f.reply

  -- The entry is the order's command.
  abbrev pub IsEntryOf : Order M S A R Q P H W → Entry M S A R Q P H W → Type 0
  IsEntryOf o e = (p : P) × (e ≡ Command o.client o.call o.request p)

  -- These orders but the first with this number.
  abbrev pub without : ℕ → List (Order M S A R Q P H W) → List (Order M S A R Q P H W)
  without n [] = []
  without n (o ∷ os) = if o.call == n then os else o ∷ without n os

  -- The call numbers that a client knows of: of its entries, of its outstanding requests, and those that are spent.
  abbrev pub calls : Account M S A R Q P H W → List ℕ
  calls a = map call_of a.mine ++ (map order_call a.out ++ a.spent)

  -- What the seat carries for a client.
  abbrev pub Carries : View M S A R Q P H W → Order M S A R Q P H W → Type 0
  Carries v o = Has v.passes o ⊎ ((f : Finished M S A R Q P H W) × Has v.dones f × (f.order ≡ o))

  abbrev pub newborn : ℕ → H → Account M S A R Q P H W
  newborn n h = record { number = n; opening = h; holds = h; used = 0; mine = []; out = []; spent = [] }

  abbrev pub first_account : Account M S A R Q P H W → List (Account M S A R Q P H W) → Account M S A R Q P H W
  first_account d [] = d
  first_account d (a ∷ more) = a

  abbrev pub first_view : S → View M S A R Q P H W
  first_view s = record { start = Some s; seen = []; heard = []; accounts = []; lanes = []; passes = []; dones = []; is_root = true; given = 0; lanes_made = 0; told = None; holding = false; outs = [] }

  -- A seat that has nothing left.
  abbrev pub nothing : View M S A R Q P H W
  nothing = record { start = None; seen = []; heard = []; accounts = []; lanes = []; passes = []; dones = []; is_root = false; given = 0; lanes_made = 0; told = None; holding = false; outs = [] }

  -- A seat that knows what this one does, and has nothing.
  abbrev pub noted : View M S A R Q P H W → View M S A R Q P H W
  noted v = record { start = v.start; seen = v.seen; heard = []; accounts = []; lanes = []; passes = []; dones = []; is_root = false; given = 0; lanes_made = 0; told = None; holding = false; outs = [] }

  -- What a seat carries goes to a new one.
  abbrev pub emptied : View M S A R Q P H W → View M S A R Q P H W
  emptied v = record v { passes = []; dones = [] }

  abbrev pub handed : View M S A R Q P H W → View M S A R Q P H W
  handed v = record (noted v) { passes = v.passes; dones = v.dones }

  abbrev pub accounts_told : ℕ → Option H → List (Account M S A R Q P H W)
  accounts_told n None = []
  accounts_told n (Some h) = newborn n h ∷ []

  -- The root's seat makes a client with the holds that it was told.
  abbrev pub with_client : View M S A R Q P H W → View M S A R Q P H W
  with_client v = record v { given = v.given + 1; told = None }

  abbrev pub client_made : View M S A R Q P H W → View M S A R Q P H W
  client_made v = record (noted v) { accounts = accounts_told (v.given + 1) v.told }

  -- The root's seat makes a lane.
  abbrev pub with_lane : View M S A R Q P H W → View M S A R Q P H W
  with_lane v = record v { lanes_made = v.lanes_made + 1 }

  abbrev pub lane_made : View M S A R Q P H W → View M S A R Q P H W
  lane_made v = record (noted v) { lanes = record { lane = v.lanes_made; count = 0 } ∷ [] }

  -- A seat takes in all that another has, and hears what it has seen.
  abbrev pub joined : View M S A R Q P H W → View M S A R Q P H W → View M S A R Q P H W
  joined v w = record v {
    heard = w.seen;
    accounts = v.accounts ++ w.accounts;
    lanes = v.lanes ++ w.lanes;
    passes = v.passes ++ w.passes;
    dones = v.dones ++ w.dones;
  }

  -- The seat after a look at the whole history.
  abbrev pub looked : View M S A R Q P H W → List (Entry M S A R Q P H W) → View M S A R Q P H W
  looked v log = record v { seen = log; heard = [] }

  -- The seat once it has the turn, with these jobs out of the machine.
  abbrev pub taking : View M S A R Q P H W → List (Entry M S A R Q P H W) → List W → View M S A R Q P H W
  taking v log lent = record v { seen = log; heard = []; holding = true; outs = lent }

  abbrev pub giving : View M S A R Q P H W → View M S A R Q P H W
  giving v = record v { holding = false; outs = [] }

  -- The seat after it gave the turn back with a job lent.
  abbrev pub lending : View M S A R Q P H W → W → View M S A R Q P H W
  lending v j = record v { holding = false; outs = j ∷ [] }

  abbrev pub ordered_of : Account M S A R Q P H W → Q → Order M S A R Q P H W
  ordered_of a q = record { client = a.number; call = a.used + 1; request = q }

  -- The account after a request was made.
  abbrev pub drawn : Account M S A R Q P H W → Q → Account M S A R Q P H W
  drawn a q = record a { used = a.used + 1; out = a.out ++ ordered_of a q ∷ [] }

  -- The account after an order of it came back, run or unrun.
  abbrev pub settled : Account M S A R Q P H W → Finished M S A R Q P H W → Account M S A R Q P H W
  settled a f = record a { mine = a.mine ++ entry_of f ∷ []; out = without f.order.call a.out }

  abbrev pub given_up : Account M S A R Q P H W → Order M S A R Q P H W → Account M S A R Q P H W
  given_up a o = record a { spent = a.spent ++ o.call ∷ []; out = without o.call a.out }

  -- What the slot in hand has as the history.
  abbrev pub entries_in : List (ℕ × Slot M S A R Q P H W) → List (Entry M S A R Q P H W)
  entries_in ((k, Held c) ∷ more) = c.history.entries
  entries_in _ = []

  -- The jobs that are out of the machine in the slot in hand.
  abbrev pub outs_in : (M → List W) → List (ℕ × Slot M S A R Q P H W) → List W
  outs_in lent ((k, Held c) ∷ more) = lent c.machine
  outs_in lent _ = []

  -- The account after this act of its client was entered.
  abbrev pub entered : (H → A → R → H) → Account M S A R Q P H W → Entry M S A R Q P H W → Account M S A R Q P H W
  entered update a (Act client call act reply) = record a { used = a.used + 1; mine = a.mine ++ Act client call act reply ∷ []; holds = update a.holds act reply }
  entered update a (Command client call request reply) = a

  -- The seat after its client's act was entered, and after its pass was run.
  abbrev pub wrote : (H → A → R → H) → View M S A R Q P H W → Entry M S A R Q P H W → View M S A R Q P H W
  wrote update v e = record v { seen = v.seen ++ e ∷ []; holding = false; outs = []; accounts = map (λ a. entered update a e) v.accounts }

  abbrev pub finished : List (Order M S A R Q P H W) → Entry M S A R Q P H W → ℕ → List (Finished M S A R Q P H W)
  finished [] e place = []
  finished (o ∷ more) (Act client call act reply) place = []
  finished (o ∷ more) (Command client call request reply) place = record { order = o; reply = reply; place = place } ∷ []

  abbrev pub ran : View M S A R Q P H W → Entry M S A R Q P H W → View M S A R Q P H W
  ran v e = record v { seen = v.seen ++ e ∷ []; holding = false; outs = []; lanes = map counted_up v.lanes; passes = []; dones = finished v.passes e (length v.seen) }

  -- The root's seat is told what the next client holds.
  abbrev pub telling : View M S A R Q P H W → List (Entry M S A R Q P H W) → H → View M S A R Q P H W
  telling v log h = record v { seen = log; heard = []; told = Some h }

  abbrev pub told_said : View M S A R Q P H W → List (Entry M S A R Q P H W) → maybe.Option (Slot M S A R Q P H W) → View M S A R Q P H W
  told_said v log (some (Told x)) = telling v log x.value
  told_said v log _ = v

  -- A client's seat makes a request, and carries the order.
  abbrev pub drawing : View M S A R Q P H W → Q → View M S A R Q P H W
  drawing v q = record v { accounts = map (λ a. drawn a q) v.accounts; passes = map (λ a. ordered_of a q) v.accounts }

  abbrev pub drawn_said : View M S A R Q P H W → maybe.Option (Slot M S A R Q P H W) → View M S A R Q P H W
  drawn_said v (some (Asked x)) = drawing v x.value
  drawn_said v _ = v

  -- The slot tells this request.
  abbrev pub IsAsked : Q → Slot M S A R Q P H W → Type 0
  IsAsked request (Asked x) = request ≡ x.value
  IsAsked request (Told x) = ⊥
  IsAsked request (Held core) = ⊥

  -- A client's seat settles an order that came back, run or unrun.
  abbrev pub settle_first : List (Account M S A R Q P H W) → List (Finished M S A R Q P H W) → List (Account M S A R Q P H W)
  settle_first [] fs = []
  settle_first (a ∷ more) [] = a ∷ more
  settle_first (a ∷ more) (f ∷ fs) = settled a f ∷ more

  abbrev pub settling : View M S A R Q P H W → List (Entry M S A R Q P H W) → View M S A R Q P H W
  settling v log = record v { seen = log; heard = []; accounts = settle_first v.accounts v.dones; dones = [] }

  abbrev pub give_up_first : List (Account M S A R Q P H W) → List (Order M S A R Q P H W) → List (Account M S A R Q P H W)
  give_up_first [] os = []
  give_up_first (a ∷ more) [] = a ∷ more
  give_up_first (a ∷ more) (o ∷ os) = given_up a o ∷ more

  abbrev pub returning : View M S A R Q P H W → List (Entry M S A R Q P H W) → View M S A R Q P H W
  returning v log = record v { seen = log; heard = []; accounts = give_up_first v.accounts v.passes; passes = [] }
