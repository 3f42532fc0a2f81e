use Rattle.std.proofs.Common.{◌∙◌, List, ℕ, Option, Some, ap, refl, sym, subst}
use Rattle.vg_pages.specs.BlocksWithin.{IsWritten, spliced}
use Rattle.vg_pages.proofs.Spliced.{written-behind}
use Rattle.vg_pages.proofs.blocks.write_page.Goals as goal

pub returns : goal.returns
returns c =
    let base = c.args.base.now in
    let start = c.args.start in
    let block : List ℕ = c.in-Some.block in
    let Old : Option (List ℕ) → Type 0 = λ old. IsWritten start c.args.from c.args.bytes.now old c.write_base-2.result base c.write_base-2.new.base in
    subst Old (sym c.in-Some.is)
    (written-behind base c.write-2.new.self c.write_base-2.new.base block c.args.bytes.now c.write_base-2.result start c.args.from c.requires.inside c.write.ensures.size
    (c.write-2.ensures ∙ ap (λ xs. spliced start xs base) (c.as_slice.ensures.bytes ∙ c.write.ensures.kept c.if-write.false)) c.write_base-2.ensures)

pub returns-then-write : goal.returns-then-write
returns-then-write c =
    let base = c.args.base.now in
    let Old : Option (List ℕ) → Type 0 = λ old. IsWritten c.args.start c.args.from c.args.bytes.now old (Some c.write.new.self) base base in
    subst Old (sym c.in-Some.is)
    (record { size = refl; long = c.write.ensures.size; page = c.write.ensures.done c.if-write.true; rest = λ k out. refl })
