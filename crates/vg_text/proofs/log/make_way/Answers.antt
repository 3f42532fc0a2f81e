use Rattle.std.proofs.Common.{List, ℕ, [], ◌∷◌, ◌++◌, ap, ◌∙◌}
use Rattle.vg_text.proofs.LogLemmas.{turned}
use Rattle.vg_text.proofs.log.make_way.Goals as goal

pub returns-in_ok-next : goal.returns-in_ok-next
returns-in_ok-next c =
    turned c.args.full.now.items c.push_reserved.new.self.items c.args.last.now c.replace.new.dest
    (c.push_reserved.ensures.items ∙ ap (λ (l : List (List ℕ)). l ++ c.replace.result ∷ []) c.in_ok-reserve.ensures.items ∙ ap (λ (x : List ℕ). c.args.full.now.items ++ x ∷ []) c.replace.ensures.value)
    (c.replace.ensures.after ∙ c.in_ok-next.ensures)
