use Rattle.std.proofs.Common.{◌≡◌, ◌+◌, ◌-◌, ◌≤◌, ◌++◌, ◌∙◌, length, take, drop, ap, arith}
use Rattle.std.proofs.lemmas.List.{length-take, length-drop, drop-drop, take_all}
use Rattle.vg_pages.specs.Lending.{Lending}
use Rattle.vg_pages.proofs.Spliced.{read-on}
use Rattle.vg_pages.proofs.lent.LentBytes.read.Goals as goal

pub loop-done-preserved : goal.loop-done-preserved
loop-done-preserved c =
    let was = c.loop-done.invariant in
    let xs = c.args.self.now.bytes in
    let old = c.args.out.now in
    let out = c.loop-done.out in
    let done = c.loop-done.done in
    let n = c.peek-n.result in
    let m = length out - done in
    let part = c.peek-n.new.out in
    let lent : length (take m (drop done out)) ≡ m = omega (arith, length-take m (drop done out), length-drop done out) in
    let whole : take m (drop done out) ≡ drop done out = take_all m (drop done out) (omega (arith, length-drop done out)) in
    let room : done + n ≤ length old = omega (arith, c.peek-n.ensures.most, lent, c.loop-done.auto.out, was.fits) in
    let left : c.loop-done.self.bytes ≡ drop done xs = ap (λ (l : Lending). l.bytes) was.self in
    let read : part ≡ take n (drop done xs) ++ drop n (drop done out) =
    c.peek-n.ensures.out ∙ ap (λ ys. take n c.loop-done.self.bytes ++ drop n ys) whole ∙ ap (λ ys. take n ys ++ drop n (drop done out)) left in
    record {
      fits = room;
      out = read-on xs old out part done n was.out was.fits (omega (arith, room, c.requires)) read;
      self =
          c.skip.ensures ∙ ap (λ (l : Lending). record l { bytes = drop n l.bytes }) was.self
          ∙ ap (λ ys. record { bytes = ys; pages = c.args.self.now.pages }) (drop-drop n done xs);
    }
