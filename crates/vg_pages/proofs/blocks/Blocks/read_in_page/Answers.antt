use Rattle.std.proofs.Common.{◌≡◌, ◌+◌, ◌*◌, ◌-◌, ◌/◌, ◌%◌, ◌<◌, ◌≤◌, ℕ, List, Some, None, ap, sym, ◌∙◌, length, take, drop, get_or, arith}
use Rattle.std.proofs.lemmas.List.{get_or-take, get_or-drop, get_or_default, length-take, length-drop}
use Rattle.vg_pages.specs.BlocksWithin.{overlaid, page_of}
use Rattle.vg_pages.proofs.Spliced.{length-overlaid, page-read}
use Rattle.vg_pages.proofs.blocks.Blocks.read_in_page.Goals as goal

pub index-requires : goal.index-requires
index-requires c =
    omega (arith, c.requires, ap length c.self.view_is, length-overlaid c.self.inside.blocks.items c.self.inside.base, c.self.invariant, c.self.inside.blocks.ok)

pub read-requires : goal.read-requires
read-requires c = omega (arith, c.requires.inside, ap length c.self.view_is, length-overlaid c.self.inside.blocks.items c.self.inside.base)

pub returns-in-Some : goal.returns-in-Some
returns-in-Some c =
    let blocks = c.self.inside.blocks.items in
    let base = c.self.inside.base in
    let at = c.args.at in
    let out = c.copy_from_slice.new.self in
    let n = length c.args.out.now in
    let block : List ℕ = c.in-Some.block in
    let size : length (overlaid blocks base) ≡ length c.args.self.now = ap length c.self.view_is in
    let inside : at + n ≤ length base = omega (arith, c.requires.inside, size, length-overlaid blocks base) in
    let within : at / 4096 < length blocks = omega (arith, inside, c.requires.some, c.self.invariant) in
    let found : Some block ≡ get_or blocks (at / 4096) None = sym c.in-Some.is ∙ c.index.ensures ∙ get_or_default blocks (at / 4096) c.index.result.now None within in
    let long : length out ≡ n = c.copy_from_slice.ensures.len in
    let m = at % 4096 + n - at % 4096 in
    let wide : m ≡ n = omega arith in
    let read : out ≡ take m (drop (at % 4096) block) = c.copy_from_slice.ensures.after ∙ ap (λ xs. take m (drop (at % 4096) xs)) c.as_slice.ensures.bytes in
    let is : at ≡ at / 4096 * 4096 + at % 4096 = omega arith in
    page-read blocks base out at (at / 4096) (at % 4096) is (omega (arith, long, c.requires.page)) (omega (arith, long, inside))
    (λ k low.
    ap (λ xs. get_or xs k 0) read ∙ get_or-take m (drop (at % 4096) block) k 0 (omega (arith, low, long, wide)) ∙ get_or-drop (at % 4096) block k 0
    ∙ ap (λ b. get_or (page_of b base (at / 4096 * 4096)) (at % 4096 + k) 0) found)
    ∙ ap (λ j. take j (drop at (overlaid blocks base))) long ∙ ap (λ xs. take n (drop at xs)) c.self.view_is

pub returns-in-None : goal.returns-in-None
returns-in-None c =
    let blocks = c.self.inside.blocks.items in
    let base = c.self.inside.base in
    let at = c.args.at in
    let out = c.read.new.out in
    let n = length c.args.out.now in
    let page = at / 4096 in
    let from = at % 4096 in
    let size : length (overlaid blocks base) ≡ length c.args.self.now = ap length c.self.view_is in
    let inside : at + n ≤ length base = omega (arith, c.requires.inside, size, length-overlaid blocks base) in
    let within : page < length blocks = omega (arith, inside, c.requires.some, c.self.invariant) in
    let found : None ≡ get_or blocks page None = sym c.in-None.is ∙ c.index.ensures ∙ get_or_default blocks page c.index.result.now None within in
    let long : length out ≡ n = ap length c.read.ensures ∙ omega (arith, length-take n (drop at base), length-drop at base, inside) in
    let is : at ≡ page * 4096 + from = omega arith in
    let all = drop (page * 4096) base in
    page-read blocks base out at page from is (omega (arith, long, c.requires.page)) (omega (arith, long, inside))
    (λ k low.
    let there : at + k ≡ page * 4096 + (from + k) = omega (arith, is) in
    ap (λ xs. get_or xs k 0) c.read.ensures ∙ get_or-take n (drop at base) k 0 (omega (arith, low, long)) ∙ get_or-drop at base k 0
    ∙ ap (λ j. get_or base j 0) there
    ∙ sym (get_or-drop (page * 4096) base (from + k) 0) ∙ sym (get_or-take 4096 all (from + k) 0 (omega (arith, low, long, c.requires.page)))
    ∙ ap (λ b. get_or (page_of b base (page * 4096)) (from + k) 0) found)
    ∙ ap (λ j. take j (drop at (overlaid blocks base))) long ∙ ap (λ xs. take n (drop at xs)) c.self.view_is
