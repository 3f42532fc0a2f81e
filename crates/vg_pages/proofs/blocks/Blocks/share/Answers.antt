use Rattle.std.proofs.Common.{◌≡◌, ◌+◌, ◌*◌, ◌/◌, ◌%◌, ◌<◌, ◌≤◌, ◌∙◌, None, ap, length, take, drop, get_or, arith}
use Rattle.std.proofs.lemmas.List.{get_or-take, get_or-drop, get_or_default, length-take, length-drop}
use Rattle.vg_pages.specs.BlocksWithin.{overlaid, page_of, shared_bytes}
use Rattle.vg_pages.proofs.Spliced.{length-overlaid, page-read}
use Rattle.vg_pages.proofs.blocks.Blocks.share.Goals as goal

pub index-requires : goal.index-requires
index-requires c =
    omega (arith, c.requires, ap length c.self.view_is, length-overlaid c.self.inside.blocks.items c.self.inside.base, c.self.invariant, c.self.inside.blocks.ok)

pub share_page-requires : goal.share_page-requires
share_page-requires c =
    omega (arith, c.requires, ap length c.self.view_is, length-overlaid c.self.inside.blocks.items c.self.inside.base, c.self.invariant)

pub returns-clause-bytes : goal.returns-clause-bytes
returns-clause-bytes c =
    let blocks = c.self.inside.blocks.items in
    let base = c.self.inside.base in
    let at = c.args.at in
    let page = at / 4096 in
    let from = at % 4096 in
    let n = c.min-length.result in
    let shared = shared_bytes c.in_ok-block.block in
    let out = c.of.result in
    let size : length (overlaid blocks base) ≡ length c.args.self.now = ap length c.self.view_is in
    let inside : at + c.args.most ≤ length base = omega (arith, c.requires.inside, size, length-overlaid blocks base) in
    let within : page < length blocks = omega (arith, inside, c.requires.some, c.self.invariant) in
    let found : shared ≡ page_of (get_or blocks page None) base (page * 4096) =
    c.in_ok-block.ensures.bytes ∙ ap (λ b. page_of b base (page * 4096)) (c.index.ensures ∙ get_or_default blocks page c.index.result.now None within) in
    let fits : from + n ≤ 4096 = omega (arith, c.min-length.ensures) in
    let few : n ≤ c.args.most = omega (arith, c.min-length.ensures) in
    let long : length out ≡ n = ap length c.of.ensures ∙ omega (arith, length-take n (drop from shared), length-drop from shared, c.in_ok-block.ensures.size, fits) in
    page-read blocks base out at page from (omega arith) (omega (arith, long, fits)) (omega (arith, long, few, inside))
    (λ k low.
    ap (λ xs. get_or xs k 0) c.of.ensures ∙ get_or-take n (drop from shared) k 0 (omega (arith, low, long)) ∙ get_or-drop from shared k 0
    ∙ ap (λ xs. get_or xs (from + k) 0) found)
    ∙ ap (λ xs. take (length out) (drop at xs)) c.self.view_is
