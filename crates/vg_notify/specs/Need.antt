use Rattle.std.specs.Prelude.{ℕ, ◌+◌, ◌-◌, ◌%◌, Bool, nat_lt}

-- VIRTIO 1.2, 2.7.10 and appendix A (virtq_need_event): (u16)(new - event - 1) < (u16)(new - old).
abbrev pub needs_event : ℕ → ℕ → ℕ → Bool
needs_event event new old = nat_lt ((new + 65535 - event) % 65536) ((new + 65536 - old) % 65536)

-- The same of whole counts, of which the indices are the last 16 bits.
abbrev pub calls_for : ℕ → ℕ → ℕ → Bool
calls_for event new old = needs_event (event % 65536) (new % 65536) (old % 65536)
