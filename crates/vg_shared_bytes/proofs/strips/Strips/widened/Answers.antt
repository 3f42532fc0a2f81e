use Rattle.std.proofs.Common.{◌≡◌, ◌+◌, ◌-◌, ◌*◌, ◌/◌, ◌%◌, ◌++◌, List, ℕ, drop, length, take, ap, ◌∙◌, inl, refl}
use Rattle.vg_shared_bytes.proofs.PutLemmas.{wide-is}
use Rattle.vg_shared_bytes.proofs.strips.Strips.widened.Goals as goal

pub returns : goal.returns
returns c =
    let end = c.args.at + length c.args.bytes.now in
    let front : c.extend_from_slice.new.self.items ≡ c.in_front.result.now = c.in_ok-extend_from_slice.ensures.items ∙ ap (λ (xs : List ℕ). xs ++ c.in_front.result.now) c.in_ok-wide.ensures.items in
    wide-is c.args.at (1024 - end % 1024) c.args.bytes.now c.args.self.now c.extend_from_slice-3.new.self.items c.requires.within
    (c.in_ok-extend_from_slice-3.ensures.items
    ∙ ap (λ (xs : List ℕ). xs ++ c.behind.result.now) (c.in_ok-extend_from_slice-2.ensures.items ∙ ap (λ (xs : List ℕ). xs ++ c.args.bytes.now) (front ∙ c.in_front.ensures))
    ∙ ap (λ (xs : List ℕ). take (c.args.at % 1024) (drop (1024 * (c.args.at / 1024)) c.args.self.now) ++ c.args.bytes.now ++ xs) c.behind.ensures)
    (inl refl)
