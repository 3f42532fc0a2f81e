use Rattle.std.proofs.Common.{◌≡◌, ◌+◌, ◌-◌, ◌≤◌, List, ℕ, length, take, drop, ap, sym, ◌∙◌, arith}
use Rattle.std.proofs.lemmas.List.{take_all}
use Rattle.vg_pages.specs.BlocksWithin.{spliced}
use Rattle.vg_pages.proofs.Spliced.{splice-none, splice-on}
use Rattle.vg_pages.proofs.blocks.Blocks.write.Goals as goal

pub loop-done-init : goal.loop-done-init
loop-done-init c = record { fits = omega arith; self = sym (splice-none c.args.start c.args.bytes.now c.args.self.now) }

pub loop-done-preserved : goal.loop-done-preserved
loop-done-preserved c =
    let bytes = c.args.bytes.now in
    let start = c.args.start in
    let done = c.loop-done.done in
    let n = c.min-n.result in
    let was = c.loop-done.invariant in
    let room : done + n ≤ length bytes = omega (arith, c.min-n.ensures, c.loop-done-test.true) in
    let Piece : List ℕ → List ℕ → List ℕ = λ piece all. spliced (start + done) piece all in
    let size : done + n - done ≡ n = omega arith in
    record {
      fits = room;
      self =
          c.write_in_page.ensures
          ∙ ap (λ m. Piece (take m (drop done bytes)) c.loop-done.self) size
          ∙ ap (Piece (take n (drop done bytes))) was.self
          ∙ splice-on start done n bytes c.args.self.now room c.requires;
    }

pub returns : goal.returns
returns c =
    let bytes = c.args.bytes.now in
    c.loop-done.invariant.self ∙ ap (λ piece. spliced c.args.start piece c.args.self.now) (take_all c.loop-done.done bytes (omega (arith, c.loop-done-test.false)))
