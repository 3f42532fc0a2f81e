-- The features that a journal's lines leave accepted.
use Rattle.std.specs.Prelude.{ℕ}
use Rattle.vg_client_holds.specs.Setup.{features_without}
use Rattle.vg_journal_lines.specs.declared.state.LeftOut.{LeftOut}

-- The features that are accepted where these are left out.
abbrev pub accepted_by_lines : LeftOut → ℕ
accepted_by_lines out = features_without out.edid out.uuid out.blob out.context
