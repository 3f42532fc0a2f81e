use Rattle.std.proofs.Common.{vec_len, rules, ◌≡◌, ◌+◌, ◌-◌, ◌++◌, List, ℕ, drop, length, take, ap, ◌∙◌, arith}
use Rattle.std.proofs.lemmas.List.{length-append, length-take}
use Rattle.vg_shared_bytes.proofs.PutLemmas.{part-more}
use Rattle.vg_shared_bytes.proofs.strips.Strips.part.Goals as goal

pub loop-bytes-preserved : goal.loop-bytes-preserved
loop-bytes-preserved c =
    let front = c.loop-bytes.bytes.items in
    let more = c.args.to - c.args.from - c.len-in-loop-bytes-2.result in
    let now = c.extend_from_slice.new.self.items in
    let piece = c.piece-piece.result.now in
    let whole : vec_len c.loop-bytes.bytes ≡ length front = search rules in
    let added : now ≡ front ++ take more piece = c.in_ok-extend_from_slice.ensures.items ∙ ap (λ (xs : List ℕ). front ++ xs) c.start_of.ensures in (
      part-more c.args.self.now front piece now c.args.from more c.loop-bytes.invariant.0 (c.piece-piece.ensures.bytes ∙ ap (λ n. take (length piece) (drop (c.args.from + n) c.args.self.now)) (c.len-in-loop-bytes.ensures ∙ whole)) added,
      omega (arith, ap length added, length-append front (take more piece), length-take more piece, c.loop-bytes.invariant.1, c.requires.order, c.len-in-loop-bytes-2.ensures),
    )
