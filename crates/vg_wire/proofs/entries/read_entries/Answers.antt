use Rattle.std.proofs.Common.{rules, ◌≡◌, ◌∙◌, ◌+◌, ◌*◌, sym, arith}
use Rattle.std.proofs.lemmas.List.FromFn.{length-range_with_len, map-range_with_len_more}
use Rattle.std.proofs.lemmas.List.{length-map}
use Rattle.vg_wire.specs.Entries.{entry_at}
use Rattle.vg_wire.proofs.entries.read_entries.Goals as goal

pub loop-place-preserved : goal.loop-place-preserved
loop-place-preserved c =
    rw (c.in_ok-push.ensures.items, c.loop-place.invariant, c.entry_at.ensures) (sym (map-range_with_len_more (λ i. entry_at (c.args.at + 16 * i) c.args.bytes.now) 0 c.loop-place.place c.loop-place.place (omega arith)))

pub returns-clause-count : goal.returns-clause-count
returns-clause-count c =
    let all : c.loop-place.place ≡ c.args.count = search rules in
    rw (c.from_vec.ensures, c.loop-place.invariant, length-map) (length-range_with_len 0 c.loop-place.place ∙ all)
