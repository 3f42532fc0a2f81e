-- As many bytes were lent as were asked for.
use Rattle.std.proofs.Common.{rules, length, take, drop, ap, arith}
use Rattle.std.proofs.lemmas.List.{length-take, length-drop}
use Rattle.vg_backing.specs.Backing.{AreHeld, backing_bytes}
use Rattle.vg_backing.proofs.BackingLemmas.{length-backing_bytes}
use Rattle.vg_tests.proofs.lending.lent_before_a_write.Goals as goal

pub read-requires : goal.read-requires
read-requires g c =
    let bytes = backing_bytes c.in_ok-pages.pages c.in_ok-backing.backing in
    let held : AreHeld c.in_ok-pages.pages c.in_ok-backing.backing = search rules in
    omega (arith, ap (λ xs. length xs) c.in_ok-lent.ensures.bytes, length-take 4 (drop 0 bytes), length-drop 0 bytes, length-backing_bytes c.in_ok-pages.pages c.in_ok-backing.backing held, c.length.ensures)
