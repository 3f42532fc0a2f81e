use Rattle.std.proofs.Common.{◌∙◌, refl, sym, ap, arith}
use Rattle.vg_ring.proofs.MadeLemmas.{kept_new, tended_new}
use Rattle.vg_ring.proofs.ring.Ring.make.Goals as goal

pub invariant_of-result : goal.invariant_of-result
invariant_of-result g c =
    let line = c.in_ok-line in
    let one = c.in_ok-line-2.ensures.ok in
    let other = c.in_ok-other.ensures in
    let table = ap (λ l. l.shared.table_id) one in
    let again = ap (λ l. l.shared.table_id) other in
    let key = ap (λ l. l.shared.key) one ∙ line.ensures.table.2 in
    let words = ap (λ t. t.words) table ∙ line.ensures.table.0 in
    let slots = ap (λ t. t.slots) table ∙ line.ensures.table.1 in
    let least = c.requires.least in
    let made = c.in_ok-places.ensures in (
      other,
      record {
        driver_line = record { table_is = refl; seat_is = line.ensures.seats.0 ∙ sym table; words = words; slots = slots; queue_is = ap (λ k. k.queue) key; size_is = ap (λ k. k.count) key; some = omega (arith, least); least = least; small = c.requires.most };
        device_line = record { table_is = again; seat_is = line.ensures.seats.1 ∙ (sym table ∙ sym again); words = ap (λ t. t.words) again ∙ words; slots = ap (λ t. t.slots) again ∙ slots; queue_is = ap (λ k. k.queue) key; size_is = ap (λ k. k.count) key; some = omega (arith, least); least = least; small = c.requires.most };
        driver_view = line.ensures.views.0;
        device_view = line.ensures.views.1;
        driver_kept = kept_new c.args.size c.in_ok-places.places.free.items c.in_ok-places.places.links.items c.in_ok-places.places.at c.in_ok-counts.counts.items made.free made.at made.links c.in_ok-counts.ensures;
        device_kept = tended_new c.args.queue c.args.size c.in_ok-tags.tags.items c.in_ok-tags.ensures;
      },
    )
