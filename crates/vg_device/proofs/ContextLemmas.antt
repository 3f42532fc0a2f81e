-- The contexts as a part of the display: what they did by their own refusals is what the display does by them.
use Rattle.std.proofs.Common.{◌≡◌, ℕ, Bool, true, false, not, List, [], ◌∷◌, None, Result}
use Rattle.vg_context.specs.Contexts.{Context, attach, attached, create, create_refusals, created, destroy, destroy_refusals, destroyed, detach, detach_refusals, detached, is_live, submit, submit_refusals}
use Rattle.vg_refusals.specs.Refusals.{refusal_of, unless_refused}
use Rattle.vg_wire_ext.specs.declared.response.Response.{Response}
use Rattle.vg_device.specs.Answered.{answered_by}
use Rattle.vg_device.specs.FitsWithin.{response_of}
use Rattle.vg_device.specs.State.{State}
use Rattle.vg_device.proofs.KeepLemmas.{lifted}

pub lifted-created : (around : List (ℕ × Context) → State) (id nlen context_init : ℕ) (old new : List (ℕ × Context)) (done : Result (Unit {0}) ℕ)
    → ◌≡◌ {A = List (ℕ × Context) × Result (Unit {0}) ℕ} (new, done) (create id nlen context_init old)
    → ◌≡◌ {A = State × Response} (answered_by (refusal_of (create_refusals id nlen context_init old)) (around old) (around (created id context_init old))) (around new, response_of done)
unfolding create
lifted-created around id nlen context_init old new done step = lifted around _ old new _ done step

pub lifted-destroyed : (around : List (ℕ × Context) → State) (id : ℕ) (old new : List (ℕ × Context)) (done : Result (Unit {0}) ℕ)
    → ◌≡◌ {A = List (ℕ × Context) × Result (Unit {0}) ℕ} (new, done) (destroy id old)
    → ◌≡◌ {A = State × Response} (answered_by (refusal_of (destroy_refusals id old)) (around old) (around (destroyed id old))) (around new, response_of done)
unfolding destroy
lifted-destroyed around id old new done step = lifted around _ old new _ done step

attached-by : (around : List (ℕ × Context) → State) (live known : Bool) (old new next : List (ℕ × Context)) (done : Result (Unit {0}) ℕ)
    → live ≡ true → known ≡ true → ◌≡◌ {A = List (ℕ × Context) × Result (Unit {0}) ℕ} (new, done) (unless_refused (refusal_of ((not live, 0x1204) ∷ [])) old next)
    → ◌≡◌ {A = State × Response} (answered_by (refusal_of ((not live, 0x1204) ∷ (not known, 0x1203) ∷ [])) (around old) (around next)) (around new, response_of done)
attached-by around true true old new next done live is step = lifted around None old new next done step
attached-by around true false old new next done live is step = cc
attached-by around false known old new next done live is step = cc

pub lifted-attached : (around : List (ℕ × Context) → State) (id resource : ℕ) (known : Bool) (old new : List (ℕ × Context)) (done : Result (Unit {0}) ℕ)
    → is_live id old ≡ true → known ≡ true → ◌≡◌ {A = List (ℕ × Context) × Result (Unit {0}) ℕ} (new, done) (attach id resource old)
    → ◌≡◌ {A = State × Response} (answered_by (refusal_of ((not (is_live id old), 0x1204) ∷ (not known, 0x1203) ∷ [])) (around old) (around (attached id resource old))) (around new, response_of done)
unfolding attach
lifted-attached around id resource known old new done live is step = attached-by around (is_live id old) known old new (attached id resource old) done live is step

pub lifted-detached : (around : List (ℕ × Context) → State) (id resource : ℕ) (old new : List (ℕ × Context)) (done : Result (Unit {0}) ℕ)
    → ◌≡◌ {A = List (ℕ × Context) × Result (Unit {0}) ℕ} (new, done) (detach id resource old)
    → ◌≡◌ {A = State × Response} (answered_by (refusal_of (detach_refusals id resource old)) (around old) (around (detached id resource old))) (around new, response_of done)
unfolding detach
lifted-detached around id resource old new done step = lifted around _ old new _ done step

pub lifted-submitted : (around : List (ℕ × Context) → State) (id : ℕ) (stream : List ℕ) (old : List (ℕ × Context)) (done : Result (Unit {0}) ℕ)
    → ◌≡◌ {A = List (ℕ × Context) × Result (Unit {0}) ℕ} (old, done) (submit id stream old)
    → ◌≡◌ {A = State × Response} (answered_by (refusal_of (submit_refusals id stream old)) (around old) (around old)) (around old, response_of done)
unfolding submit
lifted-submitted around id stream old done step = lifted around _ old old _ done step
