use Rattle.std.proofs.Common.{◌≡◌, ◌+◌, ◌*◌, ◌/◌, ◌%◌, ◌<◌, ℕ, List, Option, None, ap, sym, ◌∙◌, subst, length, get_or, arith}
use Rattle.std.proofs.lemmas.List.{get_or_default, set-set}
use Rattle.vg_pages.specs.BlocksWithin.{IsWritten, overlaid, spliced}
use Rattle.vg_pages.proofs.Spliced.{length-overlaid, page-written}
use Rattle.vg_pages.proofs.blocks.Blocks.write_in_page.Goals as goal

pub index_mut-requires : goal.index_mut-requires
index_mut-requires c =
    omega (arith, c.requires, ap length c.self.view_is, length-overlaid c.self.inside.blocks.items c.self.inside.base, c.self.invariant, c.self.inside.blocks.ok)

pub write_page-requires-clause-inside : goal.write_page-requires-clause-inside
write_page-requires-clause-inside c =
    omega (arith, c.requires, ap length c.self.view_is, length-overlaid c.self.inside.blocks.items c.self.inside.base, c.self.invariant)

pub index_mut-requires-2 : goal.index_mut-requires-2
index_mut-requires-2 c =
    omega (arith, c.requires, ap length c.self.view_is, length-overlaid c.self.inside.blocks.items c.self.inside.base, c.self.invariant, c.self.inside.blocks.ok)

pub returns : goal.returns
returns c =
    let blocks = c.self.inside.blocks.items in
    let base = c.self.inside.base in
    let at = c.args.at in
    let page = at / 4096 in
    let from = at % 4096 in
    let bytes = c.args.bytes.now in
    let size : length (overlaid blocks base) ≡ length c.args.self.now = ap length c.self.view_is in
    let within : page < length blocks = omega (arith, c.requires, size, length-overlaid blocks base, c.self.invariant) in
    let found : c.replace-block.result ≡ get_or blocks page None =
    c.replace-block.ensures.value ∙ c.index_mut.ensures.value ∙ get_or_default blocks page c.index_mut.result.now None within in
    let new = c.write_page.result in
    let after = c.write_page.new.base in
    let is : at ≡ page * 4096 + from = omega arith in
    let Written : Option (List ℕ) → Type 0 = λ old. IsWritten (page * 4096) from bytes old new base after in
    let written : Written (get_or blocks page None) = subst Written found c.write_page.ensures in
    ap (λ bs. overlaid bs after) (set-set blocks page c.replace-block.new.dest new)
    ∙ page-written blocks new base after bytes page from within c.self.invariant c.requires.page written
    ∙ ap (λ k. spliced k bytes (overlaid blocks base)) (sym is) ∙ ap (λ xs. spliced at bytes xs) c.self.view_is
