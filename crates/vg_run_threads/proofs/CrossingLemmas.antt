-- What was completed on a lane is what its commands in the history ask for.
use Rattle.std.proofs.Common.{◌≡◌, inl, inr, ◌+◌, ◌==◌, ◌≤◌, ◌∙◌, sym, ap, refl, subst, arith, eq-eqb, eqb-true, ℕ, Bool, true, false, cond, List, [], ◌∷◌, ◌++◌, append-nil, length, length-append, map}
use Rattle.std.proofs.lemmas.Simd.{map-map}
use Rattle.std.proofs.lemmas.List.{length-map}
use mathlib.Core.List.{IsPrefix}
use Rattle.vg_history.specs.declared.entry.Entry.TheVariants as entries
use Rattle.vg_history.specs.History.{ordinals}
use Rattle.vg_history.specs.Lists.{Has, upto}
use Rattle.vg_history.proofs.ListLemmas.{has_map, has_prefix, map_has}
use Rattle.vg_cargo.specs.declared.entries.Answer.{Answer}
use Rattle.vg_cargo.specs.declared.entries.Entry as ring
use Rattle.vg_cargo.specs.Entries as ring_entries
use Rattle.vg_cargo.specs.Entries.{weigh}
use Rattle.vg_front.specs.Lanes.{of_lane}
use Rattle.vg_device.specs.declared.request.Reply.{Reply}
use Rattle.vg_device.specs.declared.request.Request.{Request}
use Rattle.vg_machine.specs.Entries.{Entry}
use Rattle.vg_machine.specs.Replay.{display}
use Rattle.vg_driver.specs.Halves.{HasAsked}
use Rattle.vg_driver.specs.Tickets.{Order}
use Rattle.vg_run_threads.specs.Session.{AreAsked, Crossing, commands_of, crossing_by, crossing_of}
use Rattle.vg_run_threads.proofs.RisingLemmas.{same-list}

-- a front that is as long is the whole
none-long : {X : Type 0} (xs : List X) → length xs ≡ 0 → xs ≡ []
none-long [] is = refl
none-long (x ∷ xs) is = absurd (omega (arith, is))

prefix-whole : {X : Type 0} (xs ys : List X) → IsPrefix xs ys → length ys ≤ length xs → ys ≡ xs
prefix-whole xs ys front long =
    let split : length ys ≡ length xs + length front.0 = sym (ap length front.1) ∙ length-append xs front.0 in
    let none : front.0 ≡ [] = none-long front.0 (omega (arith, split, long)) in
    sym front.1 ∙ ap (λ zs. xs ++ zs) none ∙ append-nil xs

-- entries are as many as they weigh where each weighs 1
weigh-one : (es : List ring.Entry) → weigh (λ (e : ring.Entry). 1) es ≡ length es
weigh-one [] = refl
weigh-one (e ∷ es) = let rest = weigh-one es in omega (arith, rest)

-- what came back is all that was completed, where as many came back as were published
pub all-back : (published fetched held : List ring.Entry) (completed reaped : List Answer) → IsPrefix fetched published → IsPrefix reaped completed
    → ((f : ring.Entry → ℕ) → weigh f fetched ≡ weigh f (ring_entries.entries completed) + weigh f held) → length reaped ≡ length published → completed ≡ reaped
all-back published fetched held completed reaped front back each as-many =
    let ones : ring.Entry → ℕ = λ (e : ring.Entry). 1 in
    let balance = each ones in
    let one = weigh-one fetched in
    let two = weigh-one (ring_entries.entries completed) in
    let three : length (ring_entries.entries completed) ≡ length completed = length-map completed ring_entries.entry_of in
    let split : length published ≡ length fetched + length front.0 = sym (ap length front.1) ∙ length-append fetched front.0 in
    prefix-whole reaped completed back (omega (arith, balance, one, two, three, split, as-many))

-- an entry of a lane
of_lane-has : (lane : ℕ) (es : List ring.Entry) (e : ring.Entry) → Has (of_lane lane es) e → Has es e × (e.lane ≡ lane)
of_lane-has lane [] e at = absurd at
of_lane-has lane (first ∷ more) e at = by_test (first.lane == lane) refl (of_lane-has lane more e) at
  where
    by_test : (b : Bool) → (first.lane == lane) ≡ b → (Has (of_lane lane more) e → Has more e × (e.lane ≡ lane)) → Has (cond b (first ∷ of_lane lane more) (of_lane lane more)) e → Has (first ∷ more) e × (e.lane ≡ lane)
    by_test true is rest (inl same) = (inl same, sym (ap (λ (x : ring.Entry). x.lane) same) ∙ eqb-true first.lane lane is)
    by_test true is rest (inr there) = let found = rest there in (inr found.0, found.1)
    by_test false is rest there = let found = rest there in (inr found.0, found.1)

-- a command of a lane
has-command : (lane : ℕ) (H : List Entry) (client call : ℕ) (request : Request) (reply : Reply) → Has H (entries.Command client call request reply) → request.lane ≡ lane
    → Has (commands_of lane H) (record { client = client; call = call; request = request })
has-command lane [] client call request reply at is = absurd at
has-command lane (entries.Act c n act answer ∷ more) client call request reply (inl same) is = absurd (cc)
has-command lane (entries.Act c n act answer ∷ more) client call request reply (inr there) is = has-command lane more client call request reply there is
has-command lane (entries.Command c n q answer ∷ more) client call request reply at is = by_test (q.lane == lane) refl (λ there. has-command lane more client call request reply there is) at
  where
    order : Order
    order = record { client = client; call = call; request = request }

    other : Order
    other = record { client = c; call = n; request = q }

    by_test : (b : Bool) → (q.lane == lane) ≡ b → (Has more (entries.Command client call request reply) → Has (commands_of lane more) order)
        → Has {X = Entry} (entries.Command c n q answer ∷ more) (entries.Command client call request reply) → Has (cond b (other ∷ commands_of lane more) (commands_of lane more)) order
    by_test true test rest (inl same) = inl (cc)
    by_test true test rest (inr there) = inr (rest there)
    by_test false test rest (inl same) =
        let here : q ≡ request = cc in
        let no : (q.lane == lane) ≡ true = eq-eqb q.lane lane (ap (λ (r : Request). r.lane) here ∙ is) in
        absurd (cc)
    by_test false test rest (inr there) = rest there

-- the ordinals of a lane's commands
abbrev ordinal-by : Order → ℕ
ordinal-by order = order.request.ordinal

command-ordinals : (lane : ℕ) (H : List Entry) → map ordinal-by (commands_of lane H) ≡ ordinals display lane H
command-ordinals lane [] = refl
command-ordinals lane (entries.Act client call act reply ∷ more) = command-ordinals lane more
command-ordinals lane (entries.Command client call request reply ∷ more) = by_test (request.lane == lane) (command-ordinals lane more)
  where
    by_test : (b : Bool) → map ordinal-by (commands_of lane more) ≡ ordinals display lane more
        → map ordinal-by (cond b (record { client = client; call = call; request = request } ∷ commands_of lane more) (commands_of lane more)) ≡ cond b (request.ordinal ∷ []) [] ++ ordinals display lane more
    by_test true e = ap (λ (ns : List ℕ). request.ordinal ∷ ns) e
    by_test false e = e

-- what was known of a beginning of the history
asked-more : (e : ring.Entry) (seen H : List Entry) → IsPrefix seen H → HasAsked display e seen → HasAsked display e H
asked-more e seen H more asked = (asked.0, asked.1, asked.2, asked.3, has_prefix seen H _ more asked.4, asked.5, asked.6)

pub all-asked-more : (answers : List Answer) (seen H : List Entry) → IsPrefix seen H → AreAsked answers seen → AreAsked answers H
all-asked-more answers seen H more all = λ answer at. asked-more answer.entry seen H more (all answer at)

-- a command that asks for an entry
crossing-has : (lane : ℕ) (H : List Entry) (e : ring.Entry) → e.lane ≡ lane → HasAsked display e H → Has (map crossing_by (commands_of lane H)) (crossing_of e)
crossing-has lane H e is asked =
    let client = asked.0 in
    let call = asked.1 in
    let request = asked.2 in
    let reply = asked.3 in
    let tag = asked.5 in
    let order : Order = record { client = client; call = call; request = request } in
    let lane-is : request.lane ≡ lane = ap (λ (t : ℕ × ℕ). t.0) tag ∙ is in
    let ordinal-is : request.ordinal ≡ e.ordinal = ap (λ (t : ℕ × ℕ). t.1) tag in
    let same : crossing_by order ≡ crossing_of e = λ i. record { ordinal = ordinal-is i; asked = asked.6 i } in
    subst (Has (map crossing_by (commands_of lane H))) same (has_map crossing_by (commands_of lane H) order (has-command lane H client call request reply asked.4 lane-is))

abbrev ordinal-of : Crossing → ℕ
ordinal-of c = c.ordinal

pub completed-lane : (lane n : ℕ) (H : List Entry) (completed : List Answer) → map (λ (e : ring.Entry). e.ordinal) (of_lane lane (ring_entries.entries completed)) ≡ upto n → ordinals display lane H ≡ upto n → AreAsked completed H
    → map crossing_of (of_lane lane (ring_entries.entries completed)) ≡ map crossing_by (commands_of lane H)
completed-lane lane n H completed left right all =
    let es : List ring.Entry = of_lane lane (ring_entries.entries completed) in
    let orders : List Order = commands_of lane H in
    let each : (x : Crossing) → Has (map crossing_of es) x → Has (map crossing_by orders) x = λ x at.
    let entry = map_has crossing_of es x at in
    let its = of_lane-has lane (ring_entries.entries completed) entry.0 entry.1 in
    let answer = map_has ring_entries.entry_of completed entry.0 its.0 in
    let known : HasAsked display entry.0 H = subst (λ (e : ring.Entry). HasAsked display e H) answer.2 (all answer.0 answer.1) in
    subst (Has (map crossing_by orders)) entry.2 (crossing-has lane H entry.0 its.1 known) in
    same-list ordinal-of n (map crossing_of es) (map crossing_by orders) (map-map ordinal-of crossing_of es ∙ left) (map-map ordinal-of crossing_by orders ∙ command-ordinals lane H ∙ right) each
