use Rattle.std.proofs.Common.{ap, arith, length, length-append}
use Rattle.vg_book.proofs.Updates.{length_without}
use Rattle.vg_book_uses.proofs.walk.command.Goals as goal

pub returns-in-Ok-clause-out : goal.returns-in-Ok-clause-out
returns-in-Ok-clause-out g c = let t = c.take_back.ensures.back in
    let gone = ap (λ a. length a.out) t.account in
    let one = length_without _ _ t.out in
    let more = simp length-append at (ap (λ a. length a.out) c.pass-pass.ensures.account) in
    omega (arith, gone, one, more)

pub returns-in-Err-clause-out : goal.returns-in-Err-clause-out
returns-in-Err-clause-out g c = let t = c.take_unrun.ensures in
    let gone = ap (λ a. length a.out) t.account in
    let one = length_without _ _ t.out in
    let more = simp length-append at (ap (λ a. length a.out) c.pass-pass.ensures.account) in
    omega (arith, gone, one, more)
