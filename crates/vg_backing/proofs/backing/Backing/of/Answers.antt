-- The runs of entries whose ends are in range have their bytes.
use Rattle.std.proofs.Common.{◌≡◌, rules, subst, sym, ap, ◌∙◌}
use Rattle.vg_backing.specs.Backing.{total}
use Rattle.vg_backing.specs.Fits.{IsTable}
use Rattle.vg_backing.specs.Runs.{runs_of}
use Rattle.vg_backing.proofs.RunLemmas.{is-table}
use Rattle.vg_backing.proofs.backing.Backing.of.Goals as goal

pub invariant_of-result : goal.invariant_of-result
invariant_of-result c =
    let entries = c.args.entries.now in
    let same : c.in_ok-entries.entries.items ≡ entries = search rules in
    let runs : c.in_ok-runs.runs.items ≡ runs_of entries = c.in_ok-runs.ensures.runs in (
      runs ∙ ap runs_of (sym same),
      c.in_ok-runs.ensures.length ∙ ap (λ es. total es) (sym same),
      c.in_ok-runs.ensures.small,
      subst (λ es. IsTable es c.in_ok-runs.runs.items) (sym same) (subst (IsTable entries) (sym runs) (is-table entries c.requires.ends)),
    )
