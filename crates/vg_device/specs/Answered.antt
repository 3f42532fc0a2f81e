-- What a command answers: the first of its refusals that holds, and else what it does.
use Rattle.std.specs.Prelude.{ℕ, Option, Some, None}
use Rattle.vg_wire_ext.specs.declared.response.Response.{Response}
use Rattle.vg_wire_ext.specs.declared.response.Response.TheVariants as responses
use Rattle.vg_device.specs.State.{State}

-- A command whose refusals are these: the first that holds is answered, and the display stays as it was; where none does the
-- display becomes `next`, and the answer is this response.
abbrev pub answered_with : Option ℕ → State → State → Response → State × Response
answered_with (Some code) state next response = (state, responses.Error code)
answered_with None state next response = (next, response)

-- The same where the answer is OK_NODATA.
abbrev pub answered_by : Option ℕ → State → State → State × Response
answered_by refusal state next = answered_with refusal state next responses.Nodata
