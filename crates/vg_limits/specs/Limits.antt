-- The limits of scripts and of journals, each of them once.
use Rattle.std.specs.Prelude.{ℕ, ◌==◌, if◌then◌else◌}

-- What a script can give at the most, and what a journal has at the most.
pub record Limits : Type 0 where
  -- a row of a display or of a buffer, in pixels
  pub width : ℕ
  -- their rows
  pub height : ℕ
  -- a buffer in bytes, which are four for each of its pixels
  pub bytes : ℕ
  -- how often bytes are stored one behind another: as often as a buffer has pixels
  pub times : ℕ
  -- clients
  pub clients : ℕ
  -- a journal that is read, in bytes
  pub journal : ℕ

-- Those of version 1 of the journal, and of the scripts whose runs write it.
abbrev pub version_1 : Limits
version_1 = record { width = 640; height = 480; bytes = 1228800; times = 307200; clients = 16; journal = 1073741824 }

-- Those of version 2.
abbrev pub version_2 : Limits
version_2 = record { width = 1920; height = 1080; bytes = 8294400; times = 2073600; clients = 32; journal = 2147483648 }

-- Those that go with the sizes of the control queue and of the cursor queue: 64 and 16 in version 1, 256 and 64 in version 2.
abbrev pub of_queues : ℕ × ℕ → Limits
of_queues queues = if queues.0 == 64 then version_1 else version_2
