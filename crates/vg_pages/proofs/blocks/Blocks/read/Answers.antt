use Rattle.std.proofs.Common.{◌≡◌, ◌+◌, ◌-◌, ◌≤◌, length, take, drop, ap, sym, ◌++◌, ◌∙◌, arith}
use Rattle.std.proofs.lemmas.List.{length-take, length-drop, drop-drop}
use borrow.Rule.Slice.PartMut.{put_mid}
use Rattle.vg_laws.proofs.Lists.{more-written}
use Rattle.vg_pages.proofs.blocks.Blocks.read.Goals as goal

pub loop-done-preserved : goal.loop-done-preserved
loop-done-preserved c =
    let all = c.args.self.now in
    let old = c.args.out.now in
    let start = c.args.start in
    let done = c.loop-done.done in
    let n = c.min-n.result in
    let part = c.read_in_page.new.out in
    let size : done + n - done ≡ n = omega arith in
    let room : done + n ≤ length old = omega (arith, c.min-n.ensures, c.loop-done-test.true, c.loop-done.auto.out) in
    let long : length (take (done + n - done) (drop done c.loop-done.out)) ≡ n =
    omega (arith, size, length-take (done + n - done) (drop done c.loop-done.out), length-drop done c.loop-done.out, room, c.loop-done.auto.out) in
    let read : part ≡ take n (drop done (drop start all)) =
    c.read_in_page.ensures ∙ ap (λ m. take m (drop (start + done) all)) long ∙ ap (take n) (sym (drop-drop done start all)) in
    let enough : done + n ≤ length (drop start all) = omega (arith, room, length-drop start all, c.requires) in
    record {
      fits = room;
      out =
          ap (λ xs. put_mid done (done + n - done) xs part) c.loop-done.invariant.out
          ∙ ap (λ m. put_mid done m (take done (drop start all) ++ drop done old) part) size
          ∙ more-written (drop start all) old part done n enough (omega arith) read;
    }
