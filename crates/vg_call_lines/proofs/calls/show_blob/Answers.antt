use Rattle.vg_call_lines.specs.Code.{table_of}
use Rattle.vg_call_lines.specs.Rows.{showblob_row}
use Rattle.vg_call_lines.proofs.ArgLemmas.{judges_eleven}
use Rattle.vg_call_lines.proofs.calls.show_blob.Goals as goal

pub returns-in-len11 : goal.returns-in-len11
returns-in-len11 c = judges_eleven (table_of c.args.names.now) c.show_blob.result (showblob_row c.args.displays (table_of c.args.names.now)) c.args.args.now c.in-len11.len_at_least c.in-len11.len_below c.show_blob.ensures
