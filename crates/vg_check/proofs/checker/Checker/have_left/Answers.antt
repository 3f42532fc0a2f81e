use Rattle.std.proofs.Common.{ap, sym, ◌∙◌}
use Rattle.std.specs.List.{list_all}
use Rattle.vg_check.specs.StepWithin.{is_gone}
use Rattle.vg_check.proofs.LeftLemmas.{all-left, left-all}
use Rattle.vg_check.proofs.checker.Checker.have_left.Goals as goal

pub returns : goal.returns
returns c =
    let are = c.are_gone.ensures ∙ ap (λ all. list_all is_gone all) c.as_slice.ensures.value in
    λ setup H is. (
      (λ left. all-left setup H c.args.self.now is (sym are ∙ left)),
      (λ all. are ∙ left-all setup H c.args.self.now is all),
    )
