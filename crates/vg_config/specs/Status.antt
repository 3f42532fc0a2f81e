use Rattle.std.specs.Prelude.{ℕ, Option, Some, None, bit_or}

-- How far the device and its driver are: the device status byte (VIRTIO 1.2, 2.1), and the features that were accepted last.
pub record Stage : Type 0 where
  pub status : ℕ
  pub accepted : Option ℕ

-- ACKNOWLEDGE 1 and DRIVER 2 are set, and no features are accepted yet (VIRTIO 1.2, 3.1.1).
abbrev pub first_stage : Stage
first_stage = record { status = 3; accepted = None }

abbrev pub with_accepted : Stage → ℕ → Stage
with_accepted stage features = record { status = stage.status; accepted = Some features }

-- A bit of the status byte is set, as all that were set.
abbrev pub with_bit : Stage → ℕ → Stage
with_bit stage bit = record { status = bit_or stage.status bit; accepted = stage.accepted }
