-- The contexts by their ids, rising (VIRTIO 1.2, 5.7.6.9, CTX_CREATE, CTX_DESTROY, CTX_ATTACH_RESOURCE, CTX_DETACH_RESOURCE and
-- SUBMIT_3D).
use Rattle.std.specs.Prelude.{ℕ, ◌==◌, ◌||◌, ◌%◌, Bool, false, not, nat_lt, is_some, List, [], ◌∷◌, length, map, Option, Some, None, Result}
use Rattle.std.specs.List.{filter, list_any}
use Rattle.std.specs.Ordering.{nat_cmp}
use Rattle.std.specs.Map.{lookup, remove_entry, set_value}
use Rattle.std.specs.BTreeMap.{insert_entry, is_at}
use Rattle.std.specs.BTreeSet.{insert_key}
use Rattle.vg_wire.specs.Kinds.{ERR_INVALID_CONTEXT_ID, ERR_INVALID_PARAMETER, ERR_INVALID_RESOURCE_ID, ERR_UNSPEC}
use Rattle.vg_refusals.specs.Refusals.{refusal_of, unless_refused}

-- A context: what it was made with, and the ids of the resources that are attached to it, rising, each once.
pub record Context : Type 0 where
  pub context_init : ℕ
  pub resources : List ℕ

abbrev pub context_at : ℕ → List (ℕ × Context) → Option Context
context_at id contexts = lookup (is_at (nat_cmp id)) contexts

-- A context that is live.
abbrev pub is_live : ℕ → List (ℕ × Context) → Bool
is_live id contexts = is_some (context_at id contexts)

-- Whether the resource is attached to a context, if there is one.
abbrev pub is_attached : ℕ → Option Context → Bool
is_attached resource (Some context) = list_any (is_at (nat_cmp resource)) context.resources
is_attached resource None = false

-- How many bytes the name of a context may have.
abbrev pub NAME_BYTES : ℕ
NAME_BYTES = 64

-- CTX_CREATE is refused for an id that is 0 or live; a name of too many bytes, or a set of capabilities (the low 8 bits of
-- context_init), of which there is none.
abbrev pub create_refusals : ℕ → ℕ → ℕ → List (ℕ × Context) → List (Bool × ℕ)
create_refusals id nlen context_init contexts =
    (id == 0 || is_live id contexts, ERR_INVALID_CONTEXT_ID)
    ∷ (nat_lt NAME_BYTES nlen || not (context_init % 256 == 0), ERR_INVALID_PARAMETER)
    ∷ []

-- With a context to which nothing is attached.
abbrev pub created : ℕ → ℕ → List (ℕ × Context) → List (ℕ × Context)
created id context_init contexts = insert_entry nat_cmp contexts id (record { context_init = context_init; resources = [] })

unfoldable pub create : ℕ → ℕ → ℕ → List (ℕ × Context) → List (ℕ × Context) × Result Unit ℕ
create id nlen context_init contexts =
    unless_refused (refusal_of (create_refusals id nlen context_init contexts)) contexts (created id context_init contexts)

-- CTX_DESTROY is refused for a context that isn't live.
abbrev pub destroy_refusals : ℕ → List (ℕ × Context) → List (Bool × ℕ)
destroy_refusals id contexts = (not (is_live id contexts), ERR_INVALID_CONTEXT_ID) ∷ []

abbrev pub destroyed : ℕ → List (ℕ × Context) → List (ℕ × Context)
destroyed id contexts = remove_entry (is_at (nat_cmp id)) contexts

unfoldable pub destroy : ℕ → List (ℕ × Context) → List (ℕ × Context) × Result Unit ℕ
destroy id contexts = unless_refused (refusal_of (destroy_refusals id contexts)) contexts (destroyed id contexts)

-- The contexts after the one that was found has become another.
abbrev pub changed : ℕ → (Context → Context) → Option Context → List (ℕ × Context) → List (ℕ × Context)
changed id change (Some context) contexts = set_value (is_at (nat_cmp id)) contexts (change context)
changed id change None contexts = contexts

-- The context has the resource.
abbrev pub with_resource : ℕ → Context → Context
with_resource resource context = record context { resources = insert_key nat_cmp context.resources resource }

-- The context doesn't have the resource.
abbrev pub without_resource : ℕ → Context → Context
without_resource resource context = record context { resources = filter (λ one. not (one == resource)) context.resources }

-- CTX_ATTACH_RESOURCE is refused for a context that isn't live.
abbrev pub attach_refusals : ℕ → List (ℕ × Context) → List (Bool × ℕ)
attach_refusals id contexts = (not (is_live id contexts), ERR_INVALID_CONTEXT_ID) ∷ []

-- A resource that is attached already stays so.
abbrev pub attached : ℕ → ℕ → List (ℕ × Context) → List (ℕ × Context)
attached id resource contexts = changed id (with_resource resource) (context_at id contexts) contexts

unfoldable pub attach : ℕ → ℕ → List (ℕ × Context) → List (ℕ × Context) × Result Unit ℕ
attach id resource contexts = unless_refused (refusal_of (attach_refusals id contexts)) contexts (attached id resource contexts)

-- CTX_DETACH_RESOURCE is refused for a context that isn't live; a resource that isn't attached to it.
abbrev pub detach_refusals : ℕ → ℕ → List (ℕ × Context) → List (Bool × ℕ)
detach_refusals id resource contexts =
    (not (is_live id contexts), ERR_INVALID_CONTEXT_ID)
    ∷ (not (is_attached resource (context_at id contexts)), ERR_INVALID_RESOURCE_ID)
    ∷ []

abbrev pub detached : ℕ → ℕ → List (ℕ × Context) → List (ℕ × Context)
detached id resource contexts = changed id (without_resource resource) (context_at id contexts) contexts

unfoldable pub detach : ℕ → ℕ → List (ℕ × Context) → List (ℕ × Context) × Result Unit ℕ
detach id resource contexts = unless_refused (refusal_of (detach_refusals id resource contexts)) contexts (detached id resource contexts)

-- SUBMIT_3D is refused for a context that isn't live; a stream of commands for it, of which there is none that is known.
abbrev pub submit_refusals : ℕ → List ℕ → List (ℕ × Context) → List (Bool × ℕ)
submit_refusals id stream contexts =
    (not (is_live id contexts), ERR_INVALID_CONTEXT_ID)
    ∷ (not (length stream == 0), ERR_UNSPEC)
    ∷ []

unfoldable pub submit : ℕ → List ℕ → List (ℕ × Context) → List (ℕ × Context) × Result Unit ℕ
submit id stream contexts = unless_refused (refusal_of (submit_refusals id stream contexts)) contexts contexts

-- No context has the resource.
abbrev pub forgotten : ℕ → List (ℕ × Context) → List (ℕ × Context)
forgotten resource contexts = map (λ entry. (entry.0, without_resource resource entry.1)) contexts
