-- The versions of the journal, and what goes with each.
use Rattle.std.specs.Prelude.{ℕ, ◌==◌, if◌then◌else◌}
use Rattle.vg_limits.specs.Limits.{Limits, version_1, version_2}
use Rattle.vg_journal_lines.specs.declared.head.Version.{Version}
use Rattle.vg_journal_lines.specs.declared.head.Version.TheVariants.{One, Two}

-- The sizes of both queues.
abbrev pub queues_of : Version → ℕ × ℕ
queues_of One = (64, 16)
queues_of Two = (256, 64)

-- The version that goes with them.
abbrev pub version_of : ℕ × ℕ → Version
version_of queues = if queues.0 == 64 then One else Two

-- The limits of what a journal has.
abbrev pub limits_of : Version → Limits
limits_of One = version_1
limits_of Two = version_2
