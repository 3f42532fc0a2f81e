use Rattle.std.proofs.Common.{◌≡◌, ◌∙◌, ◌+◌, ◌++◌, ◌∷◌, [], length, length-append, ap, sym, subst, arith}
use Rattle.vg_split.specs.Plays.{device_of}
use Rattle.vg_split.specs.Tells.{TellsTable, TellsDescriptor}
use Rattle.vg_split.proofs.TableLemmas.{table_more}
use Rattle.vg_split.proofs.table.read_table.Goals as goal

pub loop-place-preserved : goal.loop-place-preserved
loop-place-preserved g c =
    let held = (device_of c.args.pass.now.me.0).held in
    let place = c.loop-place.place in
    let items = c.loop-place.table.items in
    let x = c.read_descriptor.result in
    let inv = c.loop-place.invariant in
    let read = c.read_descriptor.ensures in
    let told = subst (λ es. TellsDescriptor c.args.size place x es) (ap (λ m. (device_of m.0).held) inv.2) read.descriptor in
    let pushed = c.in_ok-push.ensures.items in
    let grown = length-append items (x ∷ []) in
    let long = inv.3 in
    let new : length (items ++ x ∷ []) ≡ place + 1 = omega (arith, grown, long) in (
      read.line.0 ∙ inv.0,
      read.line.1 ∙ inv.1,
      read.line.2 ∙ inv.2,
      ap length pushed ∙ new,
      subst (λ xs. TellsTable c.args.size (place + 1) xs held) (sym pushed) (table_more c.args.size place items x held inv.3 inv.4 told),
    )
