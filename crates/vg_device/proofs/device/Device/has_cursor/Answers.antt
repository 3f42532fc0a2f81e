use Rattle.std.proofs.Common.{◌≡◌, ◌≤◌, false, length, sym, ◌∙◌, arith}
use Rattle.std.specs.Prelude.{nat_lt}
use Rattle.std.proofs.lemmas.Bool.Decides.{nat_tests}
use Rattle.vg_device.proofs.CursorLemmas.{hidden-past}
use Rattle.vg_device.proofs.device.Device.has_cursor.Goals as goal

pub returns-else-scanout-len : goal.returns-else-scanout-len
returns-else-scanout-len c =
    let past : length c.self.inside.cursors ≤ c.args.scanout = omega (arith, c.len.ensures, c.if-scanout-len.false, c.self.invariant.cursors) in
    let test : nat_lt c.args.scanout c.len.result ≡ false = grind (arith, nat_tests, c.if-scanout-len.false) in
    rw (← c.self.view_is) (test ∙ sym (hidden-past c.self.inside.cursors c.args.scanout past))
