use Rattle.std.proofs.Common.{◌≡◌, ◌*◌, false, arith}
use Rattle.std.specs.Prelude.{nat_lt}
use Rattle.std.proofs.lemmas.Bool.Decides.{nat_tests}
use Rattle.vg_scanout.proofs.PanelLemmas.{bound-done}
use Rattle.vg_scanout.proofs.scanout.Scanouts.bind.Goals as goal

pub returns : goal.returns
returns c =
    let binding = c.args.binding in
    let small : nat_lt 33554432 (4 * binding.rect.width * binding.rect.height) ≡ false = grind (arith, nat_tests, c.pixel_bytes-size.ensures, c.if-size-from.false) in
    rw (← c.self.view_is) (bound-done c.args.scanout binding c.self.inside.frames.items c.self.inside.panels.items small)
