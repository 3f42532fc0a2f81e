use Rattle.std.proofs.Common.{◌≡◌, ◌+◌, ◌*◌, ◌<◌, ◌≤◌, ◌++◌, ℕ, List, None, ap, sym, ◌∙◌, length, take, drop, replicate, arith}
use Rattle.std.proofs.lemmas.List.{length-replicate, length-set}
use Rattle.vg_pages.specs.BlocksWithin.{overlaid}
use Rattle.vg_pages.proofs.Spliced.{length-overlaid, length-splice, page-zeroed}
use Rattle.vg_pages.proofs.blocks.Blocks.zero.Goals as goal

pub index_mut-requires : goal.index_mut-requires
index_mut-requires c = omega (arith, c.requires, ap length c.self.view_is, length-overlaid c.self.inside.blocks.items c.self.inside.base, c.self.invariant, c.self.inside.blocks.ok)

pub zero-requires : goal.zero-requires
zero-requires c = omega (arith, c.requires, ap length c.self.view_is, length-overlaid c.self.inside.blocks.items c.self.inside.base)

pub invariant_of-self : goal.invariant_of-self
invariant_of-self c =
    let blocks = c.self.inside.blocks.items in
    let base = c.self.inside.base in
    let page = c.args.page in
    let size : length (overlaid blocks base) ≡ length c.args.self.now = ap length c.self.view_is in
    let room : page * 4096 + 4096 ≤ length base = omega (arith, c.requires, size, length-overlaid blocks base) in
    let zeros : List ℕ = replicate 4096 0 in
    let many : length zeros ≡ 4096 = length-replicate {A = ℕ} 4096 0 in
    let Spliced : ℕ → List ℕ = λ n. (take (page * 4096) base ++ zeros) ++ drop (page * 4096 + n) base in
    let same = c.zero.ensures ∙ ap Spliced (sym many) in
    ap length same ∙ length-splice (page * 4096) zeros base (omega (arith, room, many)) ∙ c.self.invariant
    ∙ ap (λ n. 4096 * n) (sym (length-set blocks page None))

pub returns : goal.returns
returns c =
    let blocks = c.self.inside.blocks.items in
    let base = c.self.inside.base in
    let page = c.args.page in
    let size : length (overlaid blocks base) ≡ length c.args.self.now = ap length c.self.view_is in
    let within : page < length blocks = omega (arith, c.requires, size, length-overlaid blocks base, c.self.invariant) in
    let Zeroed : List ℕ → List ℕ = λ all. (take (page * 4096) all ++ replicate 4096 0) ++ drop (page * 4096 + 4096) all in
    page-zeroed blocks base c.zero.new.self page within c.self.invariant c.zero.ensures ∙ ap Zeroed c.self.view_is
