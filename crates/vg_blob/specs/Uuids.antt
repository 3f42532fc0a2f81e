-- The UUIDs of resources (VIRTIO 1.2, 5.7.6.8, RESOURCE_ASSIGN_UUID).
use Rattle.std.specs.Prelude.{ℕ, ◌+◌, Bool, not, is_some, if◌then◌else◌, List, [], ◌∷◌, Option}
use Rattle.std.specs.Int.{to_be_bytes, w128}
use Rattle.std.specs.Option.{unwrap_or}
use Rattle.std.specs.Ordering.{nat_cmp}
use Rattle.std.specs.Map.{lookup, remove_entry}
use Rattle.std.specs.BTreeMap.{insert_entry, is_at}
use Rattle.vg_wire.specs.Kinds.{ERR_INVALID_RESOURCE_ID}

-- The resources that have a UUID, by their ids, rising, each with the number of its UUID; and how many UUIDs were given so far.
pub record UuidState : Type 0 where
  pub numbers : List (ℕ × ℕ)
  pub given : ℕ

abbrev pub number_at : ℕ → UuidState → Option ℕ
number_at id uuids = lookup (is_at (nat_cmp id)) uuids.numbers

-- The number of a resource's UUID: its own, and else the next.
abbrev pub number_for : ℕ → UuidState → ℕ
number_for id uuids = unwrap_or (number_at id uuids) (uuids.given + 1)

-- The bytes of the UUID of a number, the highest first (RFC 9562, 4 and 5.8: variant 10, version 8).
unfoldable pub uuid_bytes : ℕ → List ℕ
uuid_bytes n = to_be_bytes w128 (0x76677055000080008000000000000000 + n)

-- A resource without a UUID has the next one, and one with a UUID keeps it.
abbrev pub assigned : ℕ → UuidState → UuidState
assigned id uuids =
    if is_some (number_at id uuids) then uuids
    else record { numbers = insert_entry nat_cmp uuids.numbers id (uuids.given + 1); given = uuids.given + 1 }

-- The resource's UUID has ended.
abbrev pub forgotten : ℕ → UuidState → UuidState
forgotten id uuids = record uuids { numbers = remove_entry (is_at (nat_cmp id)) uuids.numbers }

-- RESOURCE_ASSIGN_UUID is refused for a resource that there isn't (`known` says whether there is).
abbrev pub assign_refusals : Bool → List (Bool × ℕ)
assign_refusals known = (not known, ERR_INVALID_RESOURCE_ID) ∷ []
