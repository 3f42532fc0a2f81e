-- A display whose setup has other queues does and answers the same, and its setup has these queues still.
use Rattle.std.proofs.Common.{◌≡◌, ◌==◌, ℕ, Bool, true, false, cond, drop, Option, Some, None, List, refl, ap, arith}
use Rattle.vg_formats.specs.declared.format.Format.{Format}
use Rattle.vg_formats.specs.declared.rect.Rect.{Rect}
use Rattle.vg_formats.specs.Formats.{format_of}
use Rattle.vg_wire.specs.Header.{header_of}
use Rattle.vg_wire.specs.declared.request.Queue.{Queue}
use Rattle.vg_wire.specs.declared.two_d.Command2d.{Command2d}
use Rattle.vg_wire.specs.declared.two_d.Command2d.TheVariants.{DisplayInfo}
use Rattle.vg_wire_ext.specs.Commands.{command_of}
use Rattle.vg_wire_ext.specs.declared.command.Command.{Command}
use Rattle.vg_wire_ext.specs.declared.command.Command.TheVariants.{TwoD, SetScanoutBlob}
use Rattle.vg_wire_ext.specs.declared.response.Response.{Response}
use Rattle.vg_wire_ext.specs.declared.response.Response.TheVariants as responses
use Rattle.vg_chain.specs.declared.shape.Shape.{Shape}
use Rattle.vg_chain.specs.declared.shape.Shape.TheVariants.{Plain, Bad}
use Rattle.vg_client_holds.specs.declared.act.Act.{Act}
use Rattle.vg_client_holds.specs.declared.act.Act.TheVariants.{Enter}
use Rattle.vg_device.specs.ActStep.{effect_of}
use Rattle.vg_device.specs.Answered.{answered_with}
use Rattle.vg_device.specs.BlobStep.{with_shown_blob}
use Rattle.vg_device.specs.RequestStep.{shaped_step}
use Rattle.vg_device.specs.State.{State, counted}
use Rattle.vg_device.specs.Step.{answer_of, answered, command_step, refused_or_ran, request_refusals, two_d_step}
use Rattle.vg_device.specs.declared.blobs.Layout.{Layout}
use Rattle.vg_device.specs.declared.request.Reply.TheVariants as replies
use Rattle.vg_device.specs.declared.request.Request.{Request}
use Rattle.vg_refusals.specs.Refusals.{refusal_of}
use Rattle.vg_queue_sizes.specs.Queues.{requeued}

-- What was done and what was answered, with these queues in the display.
abbrev pub also : {X : Type 0} → ℕ × ℕ → State × X → State × X
also q done = (requeued done.0 q, done.1)

-- ---- commands

-- A scanout shows a blob, in a format that there is or isn't, or is turned off.
blob-shown : (q : ℕ × ℕ) (s off : State) (rect : Rect) (scanout id : ℕ) (layout : Layout) (format : Option Format) (b : Bool) (refusal : Option ℕ)
    → answered_with refusal (requeued s q) (cond b (requeued off q) (with_shown_blob (requeued s q) rect scanout id layout format)) responses.Nodata
    ≡ also q (answered_with refusal s (cond b off (with_shown_blob s rect scanout id layout format)) responses.Nodata)
blob-shown q s off rect scanout id layout format b (Some code) = refl
blob-shown q s off rect scanout id layout format true None = refl
blob-shown q s off rect scanout id layout (Some format) false None = refl
blob-shown q s off rect scanout id layout None false None = refl

two_d : (q : ℕ × ℕ) (s : State) (c : Command2d) → two_d_step (requeued s q) c ≡ also q (two_d_step s c)
two_d q s DisplayInfo = refl
two_d q s c = grind arith

command : (q : ℕ × ℕ) (s : State) (context : ℕ) (c : Command) → command_step (requeued s q) context c ≡ also q (command_step s context c)
command q s context (TwoD c) = two_d q s c
command q s context (SetScanoutBlob rect scanout id width height format stride offset) =
    blob-shown q s _ rect scanout id (record { width = width; height = height; format = format; stride = stride; offset = offset }) (format_of format) (id == 0) _
command q s context c = grind arith

ran : (q : ℕ × ℕ) (s : State) (context : ℕ) (refusal : Option ℕ) (c : Option Command) → refused_or_ran refusal (requeued s q) context c ≡ also q (refused_or_ran refusal s context c)
ran q s context (Some code) c = refl
ran q s context None (Some c) = command q s context c
ran q s context None None = refl

answer : (q : ℕ × ℕ) (s : State) (queue : Queue) (bytes : List ℕ) → answer_of (requeued s q) queue bytes ≡ also q (answer_of s queue bytes)
answer q s queue bytes = ran q s (header_of bytes).ctx_id (refusal_of (request_refusals s queue bytes)) (command_of (header_of bytes).kind (drop 24 bytes))

plain : (q : ℕ × ℕ) (s : State) (request : Request) → shaped_step Plain (requeued s q) request ≡ also q (shaped_step Plain s request)
plain q s request = ap (λ (done : State × Response). (done.0, replies.Response (answered request.bytes request.room done.1))) (answer q (counted s) request.queue request.bytes)

pub request : (q : ℕ × ℕ) (shape : Shape) (s : State) (r : Request) → shaped_step shape (requeued s q) r ≡ also q (shaped_step shape s r)
request q (Bad fault) s r = refl
request q shape s r = plain q s r

pub act : (q : ℕ × ℕ) (s : State) (client : ℕ) (a : Act) → effect_of (requeued s q) client a ≡ also q (effect_of s client a)
act q s client Enter = refl
act q s client a = grind arith
