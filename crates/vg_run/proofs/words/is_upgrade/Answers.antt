use Rattle.std.proofs.Common.{arith, ◌↔◌, ◌∙◌, sym, ap, subst, ℕ, List, [], ◌∷◌, string_bytes, IsTrue}
use Rattle.vg_run.specs.Checks.{IsUpgrade}
use Rattle.vg_run.proofs.WordLemmas.{one}
use Rattle.vg_run.proofs.words.is_upgrade.Goals as goal

pub returns-in-len1 : goal.returns-in-len1
returns-in-len1 c =
    let same = one string_bytes c.args.words.now c.word-item.result (omega arith) c.word-item.is ∙ ap (λ (bytes : List ℕ). bytes ∷ []) (sym c.as_str.ensures.value) in
    let P : List (List ℕ) → Type 0 = λ words. IsTrue c.is_upgrade_word.result ↔ IsUpgrade words in
    subst P (sym same) c.is_upgrade_word.ensures
