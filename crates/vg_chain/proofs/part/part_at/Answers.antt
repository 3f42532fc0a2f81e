use Rattle.std.proofs.Common.{◌≡◌, ◌+◌, ◌-◌, ◌*◌, ◌<◌, ◌⊎◌, min, length, refl, sym, inl, inr, ◌∙◌, arith}
use Rattle.vg_chain.specs.Made.{pieces, room_of}
use Rattle.vg_chain.proofs.CountLemmas.{piece_at, get_front, get_back, some_room, no_room}
use Rattle.vg_chain.proofs.part.part_at.Goals as goal
use Rattle.vg_chain.proofs.part.part_at.Goals.{else-at-count-2-via-then-at-count-2+else-extent-gt0, else-at-count-2-via-else-at-count-2}

pub overflow_sub-from : goal.overflow_sub-from
overflow_sub-from c =
    let count = c.count_pieces-count.ensures.count c.args.addr in
    let same : c.from.result * c.from-then-at-count.result ≡ c.args.at * c.args.size = rw (c.from.ensures, c.from-then-at-count.ensures) refl in
    let piece = piece_at c.args.most c.args.size c.args.addr c.args.request c.args.at (c.args.addr + c.args.at * c.args.size) (min c.args.size (c.args.request - c.args.at * c.args.size)) (omega (arith, count)) (omega arith) (omega arith) in
    omega (arith, piece.0, same)

pub overflow_add-result : goal.overflow_add-result
overflow_add-result c =
    let count = c.count_pieces-count.ensures.count c.args.addr in
    let same : c.from.result * c.from-then-at-count.result ≡ c.args.at * c.args.size = rw (c.from.ensures, c.from-then-at-count.ensures) refl in
    let piece = piece_at c.args.most c.args.size c.args.addr c.args.request c.args.at (c.args.addr + c.args.at * c.args.size) (min c.args.size (c.args.request - c.args.at * c.args.size)) (omega (arith, count)) (omega arith) (omega arith) in
    omega (arith, piece.0, same)

pub returns-then-at-count : goal.returns-then-at-count
returns-then-at-count c =
    let count = c.count_pieces-count.ensures.count c.args.addr in
    let front : c.args.at < length (pieces c.args.most c.args.size c.args.addr c.args.request) = omega (arith, count) in
    let same : c.from.result * c.from-then-at-count.result ≡ c.args.at * c.args.size = rw (c.from.ensures, c.from-then-at-count.ensures) refl in
    let len : c.min.result ≡ min c.args.size (c.args.request - c.args.at * c.args.size) = c.min.ensures ∙ rw (same, c.from-then-at-count-2.ensures) refl in
    let piece = piece_at c.args.most c.args.size c.args.addr c.args.request c.args.at (c.args.addr + c.from.result * c.from-then-at-count.result) c.min.result front (omega (arith, same)) len in
    sym (get_front _ (room_of c.args.extent.now.room c.args.extent.now.base) c.args.at front ∙ piece.1)

pub returns-then-extent-gt0 : goal.returns-then-extent-gt0
returns-then-extent-gt0 c =
    let count = c.count_pieces-count.ensures.count c.args.addr in
    let room = some_room c.args.extent.now.room c.args.extent.now.base (omega arith) in
    sym (get_back (pieces c.args.most c.args.size c.args.addr c.args.request) (room_of c.args.extent.now.room c.args.extent.now.base) c.args.at 0 (omega (arith, count)) ∙ room)

pub returns-else-at-count-2 : goal.returns-else-at-count-2
returns-else-at-count-2 c =
    let count = c.count_pieces-count.ensures.count c.args.addr in
    let back : c.args.at ≡ length (pieces c.args.most c.args.size c.args.addr c.args.request) + (c.args.at - c.count_pieces-count.result) = omega (arith, count) in
    let past : (0 < c.args.at - c.count_pieces-count.result) ⊎ (c.args.extent.now.room ≡ 0) =
    elim c.else-at-count-2.branch [ else-at-count-2-via-then-at-count-2+else-extent-gt0 w ↦ inr (omega arith) | else-at-count-2-via-else-at-count-2 w ↦ inl (omega arith) ] in
    sym (get_back (pieces c.args.most c.args.size c.args.addr c.args.request) (room_of c.args.extent.now.room c.args.extent.now.base) c.args.at (c.args.at - c.count_pieces-count.result) back ∙ no_room c.args.extent.now.room c.args.extent.now.base (c.args.at - c.count_pieces-count.result) past)
