-- What a display's reply writes into the room is read there as the reply. As in Counted, a ghost member cites this.
use Rattle.std.proofs.Common.{◌≡◌, ◌∙◌, ap, refl, sym, subst, ℕ, List, length, take, ◌≤◌}
use Rattle.std.proofs.Math.Nat.{min-eq_left, min-le_left}
use Rattle.std.proofs.Math.Seq.{take-length}
use Rattle.std.proofs.lemmas.List.{length-take}
use Rattle.vg_chain.specs.declared.shape.Shape.{Shape}
use Rattle.vg_chain.specs.declared.shape.Shape.TheVariants.{Plain, Pieces, Indirect, Mixed, Bad}
use Rattle.vg_device.specs.declared.request.Request.{Request}
use Rattle.vg_device.specs.declared.request.Reply.{Reply}
use Rattle.vg_device.specs.declared.request.Reply.TheVariants.{Response}
use Rattle.vg_device.specs.State.{State, counted}
use Rattle.vg_wire_ext.specs.Response.{response_bytes, response_kind}
use Rattle.vg_device.specs.Step.{answer_header, answer_of, step}
use Rattle.vg_device.specs.RequestStep.{plain_step, request_step, shaped_step}
use Rattle.vg_machine.specs.Written.{read_by, within, written_in}

-- what is cut to the room is within it
within-cut : (room : ℕ) (xs : List ℕ) → within room (take room xs) ≡ take room xs
within-cut room xs =
    let cut = take room xs in
    let few : length cut ≤ room = subst (λ n. n ≤ room) (sym (length-take room xs)) (min-le_left room (length xs)) in
    ap (λ n. take n cut) (min-eq_left few) ∙ take-length cut

-- the same of the reply to a request that is run
plain-read : (state : State) (request : Request) → ◌≡◌ {A = Reply} (Response (within request.room (step state request.queue request.bytes request.room).1)) (plain_step state request).1
plain-read state request =
    let done = answer_of (counted state) request.queue request.bytes in
    ap Response (within-cut request.room (response_bytes (answer_header request.bytes (response_kind done.1)) done.1))

shaped-read : (shape : Shape) (state : State) (request : Request) → read_by shape (written_in request.room (shaped_step shape state request).1) ≡ (shaped_step shape state request).1
shaped-read Plain state request = plain-read state request
shaped-read (Pieces n) state request = plain-read state request
shaped-read Indirect state request = plain-read state request
shaped-read Mixed state request = plain-read state request
shaped-read (Bad fault) state request = refl

pub reads-request : (state : State) (request : Request) → read_by request.shape (written_in request.room (request_step state request).1) ≡ (request_step state request).1
reads-request state request = shaped-read request.shape state request
