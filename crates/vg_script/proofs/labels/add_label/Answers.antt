use Rattle.std.proofs.Common.{rules, ◌≡◌, true}
use Rattle.std.specs.Prelude.{is_none}
use Rattle.vg_call_lines.specs.Tables.{labels_in}
use Rattle.vg_script.proofs.LabelLemmas.{labelled}
use Rattle.vg_script.proofs.labels.add_label.Goals as goal

pub returns-in_ok-insert : goal.returns-in_ok-insert
returns-in_ok-insert c =
    let none : is_none (labels_in c.args.labels.now c.args.text.now) ≡ true = search rules in
    labelled c.args.labels.now c.insert.new.self c.args.text.now c.args.label c.in_ok-insert.ensures.updates none
