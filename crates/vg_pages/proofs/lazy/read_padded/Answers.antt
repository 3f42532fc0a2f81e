use Rattle.std.proofs.Common.{◌∙◌, ◌-◌, ◌++◌, ℕ, List, ap, arith, length, take, drop, refl, min, replicate}
use Rattle.std.proofs.lemmas.List.{length-drop, take_all}
use Rattle.vg_pages.proofs.Padded.{padded-read}
use Rattle.vg_pages.proofs.lazy.read_padded.Goals as goal

pub returns : goal.returns
returns c =
    let front = c.args.front.now in
    let rest = drop c.min.result front in
    let n = length c.args.out.now in
    let Filled : List ℕ → List ℕ = λ xs. take (min (length xs) n) xs ++ replicate (n - min (length xs) n) 0 in
    c.fill_from.ensures ∙ ap Filled (take_all (length front - c.min.result) rest (omega (arith, length-drop c.min.result front)))
    ∙ padded-read c.args.size c.args.start n c.min.result (min (length rest) n) front c.requires.inside c.requires.front c.min.ensures refl
