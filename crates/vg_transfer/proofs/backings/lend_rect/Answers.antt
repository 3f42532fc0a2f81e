-- The backing has all bytes that the transfer reads.
use Rattle.std.proofs.Common.{◌≡◌, length, take, drop, ap, arith}
use Rattle.std.proofs.lemmas.List.{length-take, length-drop}
use Rattle.std.proofs.lemmas.Result.{IfOk-weaker}
use Rattle.vg_backing.specs.Backing.{backing_bytes}
use Rattle.vg_backing.proofs.BackingLemmas.{length-backing_bytes}
use Rattle.vg_transfer.proofs.backings.lend_rect.Goals as goal

pub returns-clause-long : goal.returns-clause-long
returns-clause-long c =
    let region = c.args.region.now in
    let bytes = backing_bytes c.args.pages.now c.args.backing.now in
    let n = c.end_of-count.result in
    let from = drop region.offset bytes in
    IfOk-weaker c.lend.result (λ lent. lent.bytes ≡ take n from) _
    (λ lent is.
    omega (arith, ap (λ xs. length xs) is, length-take n from, length-drop region.offset bytes, length-backing_bytes c.args.pages.now c.args.backing.now c.requires.held, c.requires.source, c.end_of-count.ensures))
    c.lend.ensures.bytes
