-- A request, whatever shape its descriptor chain has.
use Rattle.vg_chain.specs.declared.shape.Shape.TheVariants.{Bad}
use Rattle.vg_chain.specs.declared.shape.Shape.{Shape}
use Rattle.vg_device.specs.declared.request.Request.{Request}
use Rattle.vg_device.specs.declared.request.Reply.{Reply}
use Rattle.vg_device.specs.declared.request.Reply.TheVariants as replies
use Rattle.vg_device.specs.State.{State, counted}
use Rattle.vg_device.specs.Step.{step}

-- A request as its bytes say: the display after it, and the reply.
abbrev pub plain_step : State → Request → State × Reply
plain_step state request =
    let done = step state request.queue request.bytes request.room in
    (done.0, replies.Response done.1)

-- A request of this shape: its bytes come whole in each but Bad, whose fault is the reply and which does nothing.
abbrev pub shaped_step : Shape → State → Request → State × Reply
shaped_step (Bad fault) state request = (counted state, replies.Fault fault)
shaped_step _ state request = plain_step state request

-- A request: the display after it, and the reply.
abbrev pub request_step : State → Request → State × Reply
request_step state request = shaped_step request.shape state request
