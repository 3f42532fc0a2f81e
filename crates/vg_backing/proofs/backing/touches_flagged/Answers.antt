-- A run without bytes is touched by no page.
use Rattle.std.proofs.Common.{◌≡◌, ◌+◌, ◌==◌, ◌&&◌, false, sym, ap, ◌∙◌}
use Rattle.std.specs.Prelude.{not, nat_lt}
use Rattle.std.proofs.lemmas.Bool.{eq-eqb}
use Rattle.vg_pages.specs.Memory.{page_address}
use Rattle.vg_backing.specs.Backing.{is_touched}
use Rattle.vg_backing.specs.Fits.{entry_of}
use Rattle.vg_backing.proofs.FlagLemmas.{none-of}
use Rattle.vg_backing.proofs.backing.touches_flagged.Goals as goal

pub returns-else-run-ne0 : goal.returns-else-run-ne0
returns-else-run-ne0 c = λ pages are.
    let run = c.args.run.now in
    let none : not (run.length == 0) ≡ false = ap not (eq-eqb run.length 0 c.if-run-ne0.false) in
    none
    ∙ sym (none-of (λ page. is_touched page (entry_of run)) pages (λ page among.
    ap (λ b. b && nat_lt run.addr (page_address page + 4096) && nat_lt (page_address page) (run.addr + run.length)) none))
