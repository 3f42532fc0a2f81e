use Rattle.std.proofs.Common.{◌≡◌, ◌∙◌, ◌++◌, ◌∷◌, ◌+◌, [], ℕ, length, length-append, sym, ap, subst, arith}
use Rattle.vg_front.specs.Desks.{AreNew}
use Rattle.vg_front.proofs.FrontLemmas.{new_apart}
use Rattle.vg_front.proofs.front.Front.new.Goals as goal

pub new-requires-clause-tokens : goal.new-requires-clause-tokens
new-requires-clause-tokens g c =
    let popped : c.args.tokens.items ≡ c.pop.new.self.items ++ c.unwrap.result ∷ [] = rw c.unwrap.ensures at c.pop.ensures.items in
    (new_apart g.T.Turn.lane_of g.T.Turn.count_of 0 c.pop.new.self.items c.unwrap.result (subst (AreNew g.T.Turn.lane_of g.T.Turn.count_of 0) popped c.requires.tokens.1)).0

pub new-requires-2-clause-tokens : goal.new-requires-2-clause-tokens
new-requires-2-clause-tokens g c =
    let popped : c.args.tokens.items ≡ c.pop.new.self.items ++ c.unwrap.result ∷ [] = rw c.unwrap.ensures at c.pop.ensures.items in
    let last = (new_apart g.T.Turn.lane_of g.T.Turn.count_of 0 c.pop.new.self.items c.unwrap.result (subst (AreNew g.T.Turn.lane_of g.T.Turn.count_of 0) popped c.requires.tokens.1)).1 in
    let long : 0 + length c.pop.new.self.items ≡ 65 = (let all = c.requires.tokens.0 in let cut = ap {B = ℕ} length popped in let both = length-append c.pop.new.self.items (c.unwrap.result ∷ []) in omega (arith, all, cut, both)) in
    let pushed : c.push.new.self.items ≡ c.in_ok-last.last.items ++ c.unwrap.result ∷ [] = rw c.in_ok-push.was at c.push.ensures.items in
    let alone = pushed ∙ ap (λ xs. xs ++ c.unwrap.result ∷ []) c.in_ok-last.ensures.items in
    subst (AreNew g.T.Turn.lane_of g.T.Turn.count_of 65) (sym alone) (subst (λ n. AreNew g.T.Turn.lane_of g.T.Turn.count_of n (c.unwrap.result ∷ [])) long last)
