use Rattle.std.proofs.Common.{◌≡◌, ◌++◌, take}
use Rattle.vg_text.specs.Text.{numbered}
use Rattle.vg_journal.specs.Text.{display_line}
use Rattle.vg_run.proofs.upgrade_command.put_displays.Given as goal

abbrev pub invariant-loop-number : goal.invariant-loop-number
invariant-loop-number l = l.out.items ≡ l.initial.out.items ++ numbered display_line 0 (take l.number l.displays)
