use Rattle.std.proofs.Common.{Vec, Global, append-nil, ◌≡◌, ◌+◌, ◌++◌, [], ◌∷◌, cond, ℕ, ap, sym, ◌∙◌, arith}
use Rattle.std.specs.List.{filter, range_with_len}
use Rattle.vg_drawn.specs.Words.{has_client}
use Rattle.vg_drawn.proofs.WordLemmas.{filter-more}
use Rattle.vg_drawn.proofs.clients.clients_of.Goals as goal
use Rattle.vg_drawn.proofs.clients.clients_of.Goals.{then-has_client+in_ok-push, else-has_client}

pub loop-before-preserved : goal.loop-before-preserved
loop-before-preserved c =
    let set = c.args.set in
    let n = c.loop-before.before in
    let so_far = filter (has_client set) (range_with_len 1 n) in
    let next : 1 + n ≡ n + 1 = omega arith in
    let all : filter (has_client set) (range_with_len 1 (n + 1)) ≡ so_far ++ cond (has_client set (n + 1)) ((n + 1) ∷ []) [] =
    filter-more (has_client set) n ∙ ap (λ k. so_far ++ cond (has_client set k) (k ∷ []) []) next
    in
    elim c.if-has_client.branch [
      | then-has_client+in_ok-push w ↦
          ap (λ (v : Vec ℕ Global). v.items) w.clients-is ∙ w.in_ok-push.ensures.items ∙ ap (λ xs. xs ++ (n + 1) ∷ []) c.loop-before.invariant
          ∙ sym (all ∙ ap (λ b. so_far ++ cond b ((n + 1) ∷ []) []) (sym c.has_client.ensures ∙ w.if-has_client.true))
      | else-has_client w ↦
          ap (λ (v : Vec ℕ Global). v.items) w.clients-is ∙ c.loop-before.invariant ∙ sym (append-nil so_far)
          ∙ sym (all ∙ ap (λ b. so_far ++ cond b ((n + 1) ∷ []) []) (sym c.has_client.ensures ∙ w.if-has_client.false))
    ]

pub returns : goal.returns
returns c =
    let end : c.loop-before.before ≡ 33 = omega (arith, c.loop-before-test.false, c.loop-before.auto.before-end) in
    c.loop-before.invariant ∙ ap (λ (n : ℕ). filter (has_client c.args.set) (range_with_len 1 n)) end
