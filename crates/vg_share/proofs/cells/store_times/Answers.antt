-- Whole blocks, and the front of one more.
use Rattle.std.proofs.Common.{◌≡◌, ◌*◌, ◌%◌, ◌<◌, ◌∙◌, length, ap, arith}
use Rattle.std.proofs.lemmas.Bool.Decides.{nat_tests}
use Rattle.vg_share.specs.Cells.{stored}
use Rattle.vg_share.proofs.CellLemmas.{blocks-and-rest, front-of-block, length-repeated, repeated_none, stored_blocks, stored_none}
use Rattle.vg_share.proofs.cells.store_times.Goals as goal

pub returns-then-is_empty-clause-stored : goal.returns-then-is_empty-clause-stored
returns-then-is_empty-clause-stored c =
    let pages = c.args.pages.now in
    let bytes = c.args.memory.now.bytes in
    let empty : length c.args.bytes.now ≡ 0 = grind (arith, nat_tests) in
    let none : length c.args.bytes.now * c.args.times ≡ 0 = rw empty (omega arith) in
    ap (λ all. record { bytes = all; taken = c.args.memory.now.taken })
    (stored_none pages c.args.offset bytes ∙ ap (λ piece. stored pages c.args.offset piece bytes) (repeated_none c.args.bytes.now c.args.times none))

pub store_each-end-requires-clause-inside : goal.store_each-end-requires-clause-inside
store_each-end-requires-clause-inside c =
    let bytes = c.args.bytes.now in
    let turns = c.min-turns.result in
    let size : length c.as_slice.result.now ≡ length bytes * turns = ap length (c.as_slice.ensures.value ∙ c.in_ok-block.ensures) ∙ length-repeated bytes turns in
    omega (arith, c.requires.inside, blocks-and-rest (length bytes) turns c.args.times (length c.as_slice.result.now) size)

pub store_each-end-requires-clause-limit : goal.store_each-end-requires-clause-limit
store_each-end-requires-clause-limit c =
    let bytes = c.args.bytes.now in
    let turns = c.min-turns.result in
    let size : length c.as_slice.result.now ≡ length bytes * turns = ap length (c.as_slice.ensures.value ∙ c.in_ok-block.ensures) ∙ length-repeated bytes turns in
    omega (arith, c.requires.limit, blocks-and-rest (length bytes) turns c.args.times (length c.as_slice.result.now) size)

pub slice_bounds-store-end : goal.slice_bounds-store-end
slice_bounds-store-end c =
    let bytes = c.args.bytes.now in
    let turns = c.min-turns.result in
    let some : 0 < turns = omega (arith, c.if-turns-lt2.false) in
    let rest = front-of-block bytes c.deref.result.now turns c.args.times some (c.deref.ensures.value ∙ c.in_ok-block.ensures) in
    omega (arith, ap length rest, length-repeated bytes (c.args.times % turns))

pub store-requires-clause-inside : goal.store-requires-clause-inside
store-requires-clause-inside c =
    let bytes = c.args.bytes.now in
    let turns = c.min-turns.result in
    let some : 0 < turns = omega (arith, c.if-turns-lt2.false) in
    let rest = front-of-block bytes c.deref.result.now turns c.args.times some (c.deref.ensures.value ∙ c.in_ok-block.ensures) in
    let size : length c.as_slice.result.now ≡ length bytes * turns = ap length (c.as_slice.ensures.value ∙ c.in_ok-block.ensures) ∙ length-repeated bytes turns in
    omega (arith, c.requires.inside, c.store_each-end.ensures.end, blocks-and-rest (length bytes) turns c.args.times (length c.as_slice.result.now) size, ap length rest, length-repeated bytes (c.args.times % turns))

pub returns-clause-stored : goal.returns-clause-stored
returns-clause-stored c =
    let bytes = c.args.bytes.now in
    let turns = c.min-turns.result in
    let some : 0 < turns = omega (arith, c.if-turns-lt2.false) in
    let rest = front-of-block bytes c.deref.result.now turns c.args.times some (c.deref.ensures.value ∙ c.in_ok-block.ensures) in
    stored_blocks c.args.memory.now c.store_each-end.new.memory c.store.new.memory c.args.pages.now c.args.offset c.store_each-end.result bytes c.as_slice.result.now _ turns c.args.times
    some (c.as_slice.ensures.value ∙ c.in_ok-block.ensures) c.store_each-end.ensures.stored c.store_each-end.ensures.end rest c.store.ensures
