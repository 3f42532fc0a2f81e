-- What the commands of contexts do and answer (VIRTIO 1.2, 5.7.6.9, CTX_CREATE to SUBMIT_3D). The context is the header's.
use Rattle.std.specs.Prelude.{ℕ, Bool, not, List, [], ◌∷◌}
use Rattle.vg_refusals.specs.Refusals.{refusal_of}
use Rattle.vg_wire.specs.Kinds.{ERR_INVALID_CONTEXT_ID, ERR_INVALID_RESOURCE_ID}
use Rattle.vg_wire_ext.specs.declared.response.Response.{Response}
use Rattle.vg_context.specs.Contexts.{attached, create_refusals, created, destroy_refusals, destroyed, detach_refusals, detached, is_live, submit_refusals}
use Rattle.vg_device.specs.Answered.{answered_by}
use Rattle.vg_device.specs.State.{State, has_resource}

-- CTX_CREATE is refused as `create_refusals` (vg_context) says, and CTX_DESTROY as `destroy_refusals`.
abbrev pub ctx_create_step : State → ℕ → ℕ → ℕ → State × Response
ctx_create_step state id nlen context_init =
    answered_by (refusal_of (create_refusals id nlen context_init state.contexts)) state
    (record state { contexts = created id context_init state.contexts })

abbrev pub ctx_destroy_step : State → ℕ → State × Response
ctx_destroy_step state id =
    answered_by (refusal_of (destroy_refusals id state.contexts)) state (record state { contexts = destroyed id state.contexts })

-- CTX_ATTACH_RESOURCE is refused for a context that there isn't; a resource that there isn't.
abbrev pub ctx_attach_refusals : State → ℕ → ℕ → List (Bool × ℕ)
ctx_attach_refusals state id resource =
    (not (is_live id state.contexts), ERR_INVALID_CONTEXT_ID)
    ∷ (not (has_resource state resource), ERR_INVALID_RESOURCE_ID)
    ∷ []

abbrev pub ctx_attach_step : State → ℕ → ℕ → State × Response
ctx_attach_step state id resource =
    answered_by (refusal_of (ctx_attach_refusals state id resource)) state
    (record state { contexts = attached id resource state.contexts })

-- CTX_DETACH_RESOURCE is refused as `detach_refusals` (vg_context) says, and SUBMIT_3D, which changes nothing, as `submit_refusals`.
abbrev pub ctx_detach_step : State → ℕ → ℕ → State × Response
ctx_detach_step state id resource =
    answered_by (refusal_of (detach_refusals id resource state.contexts)) state
    (record state { contexts = detached id resource state.contexts })

abbrev pub submit_step : State → ℕ → List ℕ → State × Response
submit_step state id stream = answered_by (refusal_of (submit_refusals id stream state.contexts)) state state
