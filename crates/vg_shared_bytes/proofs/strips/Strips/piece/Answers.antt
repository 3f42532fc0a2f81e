use Rattle.std.proofs.Common.{◌≡◌, ◌+◌, ◌<◌, ◌≤◌, List, ℕ, drop, length, take, subst, sym}
use Rattle.vg_shared_bytes.proofs.StripLemmas.{piece-of}
use Rattle.vg_shared_bytes.proofs.strips.Strips.piece.Goals as goal

pub rest_of-requires : goal.rest_of-requires
rest_of-requires c = (piece-of c.args.self.now c.self.inside.strips.items c.args.at c.index.result.now c.as_slice.result.now (sym c.self.view_is) c.self.invariant.1 c.requires c.index.ensures c.as_slice.ensures).0

pub returns-clause-bytes : goal.returns-clause-bytes
returns-clause-bytes c =
    let here = piece-of c.args.self.now c.self.inside.strips.items c.args.at c.index.result.now c.as_slice.result.now (sym c.self.view_is) c.self.invariant.1 c.requires c.index.ensures c.as_slice.ensures in
    subst (λ (rest : List ℕ). rest ≡ take (length rest) (drop c.args.at c.args.self.now)) (sym c.rest_of.ensures) here.1.bytes_are

pub returns-clause-some : goal.returns-clause-some
returns-clause-some c =
    let here = piece-of c.args.self.now c.self.inside.strips.items c.args.at c.index.result.now c.as_slice.result.now (sym c.self.view_is) c.self.invariant.1 c.requires c.index.ensures c.as_slice.ensures in
    subst (λ (rest : List ℕ). 0 < length rest) (sym c.rest_of.ensures) here.1.some

pub returns-clause-within : goal.returns-clause-within
returns-clause-within c =
    let here = piece-of c.args.self.now c.self.inside.strips.items c.args.at c.index.result.now c.as_slice.result.now (sym c.self.view_is) c.self.invariant.1 c.requires c.index.ensures c.as_slice.ensures in
    subst (λ (rest : List ℕ). c.args.at + length rest ≤ length c.args.self.now) (sym c.rest_of.ensures) here.1.fits
