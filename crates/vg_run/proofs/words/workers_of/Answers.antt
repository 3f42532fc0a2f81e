use Rattle.std.proofs.Common.{◌∙◌, sym, ap, arith, ℕ, List, [], ◌∷◌, map, string_bytes}
use Rattle.vg_run.proofs.WordLemmas.{one, told-of}
use Rattle.vg_run.proofs.words.workers_of.Goals as goal

pub returns-in-len1 : goal.returns-in-len1
returns-in-len1 c =
    told-of c.in_one.result (map string_bytes c.args.words.now) (c.as_str.result.now ∷ [])
    (one string_bytes c.args.words.now c.word-item.result (omega arith) c.word-item.is ∙ ap (λ (bytes : List ℕ). bytes ∷ []) (sym c.as_str.ensures.value)) c.in_one.ensures
