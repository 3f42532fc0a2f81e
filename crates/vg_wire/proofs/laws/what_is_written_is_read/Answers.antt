use Rattle.vg_wire.proofs.HeaderLemmas.{header_of-header_bytes}
use Rattle.vg_wire.proofs.TwoDLemmas.{two_d_of-body_of_2d}
use Rattle.vg_wire.proofs.SlotLemmas.{read-modes_bytes}
use Rattle.vg_wire.proofs.laws.what_is_written_is_read.Goals as goal

pub returns-clause-header : goal.returns-clause-header
returns-clause-header c = header_of-header_bytes

pub returns-clause-command : goal.returns-clause-command
returns-clause-command c = two_d_of-body_of_2d

pub returns-clause-modes : goal.returns-clause-modes
returns-clause-modes c = read-modes_bytes
