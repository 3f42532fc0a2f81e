use Rattle.std.specs.Prelude.{◌≡◌, ◌<◌, ◌+◌, ◌-◌, ◌/◌, ◌%◌, ◌^◌, ◌==◌, ◌&&◌, ℕ, Bool, false, not, ◌||◌}

-- The bits of the features that the device offers: those that commands need (VIRTIO 1.2, 5.7.3, VIRTIO_GPU_F_VIRGL and so on),
-- and three that any device may have (VIRTIO 1.2, 6, VIRTIO_F_INDIRECT_DESC, VIRTIO_F_EVENT_IDX and VIRTIO_F_VERSION_1).
abbrev pub VIRGL_BIT : ℕ
VIRGL_BIT = 0

abbrev pub EDID_BIT : ℕ
EDID_BIT = 1

abbrev pub RESOURCE_UUID_BIT : ℕ
RESOURCE_UUID_BIT = 2

abbrev pub RESOURCE_BLOB_BIT : ℕ
RESOURCE_BLOB_BIT = 3

abbrev pub CONTEXT_INIT_BIT : ℕ
CONTEXT_INIT_BIT = 4

abbrev pub INDIRECT_DESC_BIT : ℕ
INDIRECT_DESC_BIT = 28

abbrev pub EVENT_IDX_BIT : ℕ
EVENT_IDX_BIT = 29

abbrev pub VERSION_1_BIT : ℕ
VERSION_1_BIT = 32

-- The same features by the values of their bits, as a set has them.
abbrev pub VIRGL : ℕ
VIRGL = 2 ^ VIRGL_BIT

abbrev pub EDID : ℕ
EDID = 2 ^ EDID_BIT

abbrev pub RESOURCE_UUID : ℕ
RESOURCE_UUID = 2 ^ RESOURCE_UUID_BIT

abbrev pub RESOURCE_BLOB : ℕ
RESOURCE_BLOB = 2 ^ RESOURCE_BLOB_BIT

abbrev pub CONTEXT_INIT : ℕ
CONTEXT_INIT = 2 ^ CONTEXT_INIT_BIT

abbrev pub INDIRECT_DESC : ℕ
INDIRECT_DESC = 2 ^ INDIRECT_DESC_BIT

abbrev pub EVENT_IDX : ℕ
EVENT_IDX = 2 ^ EVENT_IDX_BIT

abbrev pub VERSION_1 : ℕ
VERSION_1 = 2 ^ VERSION_1_BIT

-- The set that the device offers.
abbrev pub offered : ℕ
offered = VIRGL + EDID + RESOURCE_UUID + RESOURCE_BLOB + CONTEXT_INIT + INDIRECT_DESC + EVENT_IDX + VERSION_1

-- Those of them that a setup keeps: how kicks are made (VIRTIO 1.2, 2.7.10) leaves no trace in a history.
abbrev pub kept : ℕ
kept = offered - EVENT_IDX

-- Feature n is in a set of features, which has bit n for it (VIRTIO 1.2, 2.2).
abbrev pub has : ℕ → ℕ → Bool
has features n = features / 2 ^ n % 2 == 1

-- CONTEXT_INIT is in a set without VIRGL, which it needs (VIRTIO 1.2, 5.7.3).
abbrev pub lacks_virgl : ℕ → Bool
lacks_virgl features = has features CONTEXT_INIT_BIT && not (has features VIRGL_BIT)

-- What is wrong with feature n of a set that a driver accepts (VIRTIO 1.2, 2.2, 5.7.3 and 6.1): it is in the set and isn't
-- offered; it is CONTEXT_INIT, without VIRGL; or it is VERSION_1, which isn't in the set.
abbrev pub is_faulty : ℕ → ℕ → Bool
is_faulty features n =
    ((has features n && not (has offered n)) || (n == CONTEXT_INIT_BIT && lacks_virgl features)) || (n == VERSION_1_BIT && not (has features VERSION_1_BIT))

-- A set with nothing wrong.
pub record IsFaultless (features : ℕ) : Type 0 where
  pub each : (n : ℕ) → n < 64 → is_faulty features n ≡ false

-- These are the faulty bits of a set, all of them and no others.
pub record AreFaulty (features faulty : ℕ) : Type 0 where
  pub each : (n : ℕ) → n < 64 → has faulty n ≡ is_faulty features n
