-- A request whose shape isn't bad runs as its bytes say.
use Rattle.std.proofs.Common.{◌≡◌, ℕ, List, refl, sym, ap, ◌∙◌}
use Rattle.vg_chain.specs.declared.chain.ChainFault.{ChainFault}
use Rattle.vg_chain.specs.declared.shape.Shape.{Shape}
use Rattle.vg_chain.specs.declared.shape.Shape.TheVariants.{Plain, Pieces, Indirect, Mixed, Bad}
use Rattle.vg_device.specs.declared.request.Request.{Request}
use Rattle.vg_device.specs.declared.request.Reply.{Reply}
use Rattle.vg_device.specs.declared.request.Reply.TheVariants as replies
use Rattle.vg_device.specs.RequestStep.{plain_step, request_step, shaped_step}
use Rattle.vg_device.specs.State.{State}
use Rattle.vg_device.specs.Step as steps

shaped-whole : (shape : Shape) (state : State) (request : Request) → ((fault : ChainFault) → shape ≡ Bad fault → ⊥) → shaped_step shape state request ≡ plain_step state request
shaped-whole Plain state request not = refl
shaped-whole (Pieces n) state request not = refl
shaped-whole Indirect state request not = refl
shaped-whole Mixed state request not = refl
shaped-whole (Bad fault) state request not = absurd (not fault refl)

pub request-given : (state now : State) (request : Request) (sent items given : List ℕ) → ((fault : ChainFault) → request.shape ≡ Bad fault → ⊥) → sent ≡ request.bytes
    → ◌≡◌ {A = State × List ℕ} (now, items) (steps.step state request.queue sent request.room) → given ≡ items
    → ◌≡◌ {A = State × Reply} (now, replies.Response given) (request_step state request)
request-given state now request sent items given not same step is =
    ap (λ (g : List ℕ). (now, replies.Response g)) is
    ∙ ap (λ (p : State × List ℕ). (p.0, replies.Response p.1)) (step ∙ ap (λ (b : List ℕ). steps.step state request.queue b request.room) same)
    ∙ sym (shaped-whole request.shape state request not)
