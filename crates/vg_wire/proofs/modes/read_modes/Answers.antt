use Rattle.std.proofs.Common.{◌≡◌, ◌+◌, ◌*◌, ap, ◌∙◌, sym, arith, length, is_some, cond}
use Rattle.std.proofs.lemmas.List.FromFn.{map-range_with_len_more}
use Rattle.vg_wire.specs.Modes.{slot_at, slots_of}
use Rattle.vg_wire.proofs.ModesLemmas.{take-enabled, ends_in_none-trimmed, length-trimmed, length-slots, length-slots_of, trimmed-all}
use Rattle.vg_wire.proofs.modes.read_modes.Goals as goal
use Rattle.vg_wire.proofs.modes.read_modes.Goals.{then-is_some, else-is_some}

pub loop-slot-preserved : goal.loop-slot-preserved
loop-slot-preserved c =
    let next : c.if-is_some.enabled ≡ cond (is_some c.read_slot-mode.result) (c.loop-slot.slot + 1) c.loop-slot.enabled =
    elim c.if-is_some.branch [
      | then-is_some w ↦ rw (← c.is_some.ensures, w.if-is_some.true) w.enabled-is
      | else-is_some w ↦ rw (← c.is_some.ensures, w.if-is_some.false) w.enabled-is
    ] in
    record {
      read = rw (c.in_ok-push.ensures.items, c.loop-slot.invariant.read, c.read_slot-mode.ensures) (sym (map-range_with_len_more (λ slot. slot_at c.args.bytes.now (24 + 24 * slot)) 0 c.loop-slot.slot c.loop-slot.slot (omega arith)));
      trimmed = rw (next, c.in_ok-push.ensures.items) (take-enabled c.loop-slot.modes.items c.read_slot-mode.result c.loop-slot.enabled c.loop-slot.slot (ap length c.loop-slot.invariant.read ∙ length-slots c.loop-slot.slot c.args.bytes.now) c.loop-slot.invariant.within c.loop-slot.invariant.trimmed);
      within = elim c.if-is_some.branch [ then-is_some w ↦ omega arith | else-is_some w ↦ omega arith ];
    }

pub from_vec-requires : goal.from_vec-requires
from_vec-requires c =
    let kept = trimmed-all c.truncate.new.self.items c.loop-slot.modes.items c.loop-slot.enabled c.loop-slot.slot c.args.bytes.now c.truncate.ensures.items c.loop-slot.invariant.trimmed c.loop-slot.invariant.read (omega arith) in
    rw kept (omega (arith, length-trimmed (slots_of c.args.bytes.now), length-slots_of c.args.bytes.now), ends_in_none-trimmed (slots_of c.args.bytes.now))

pub returns : goal.returns
returns c =
    c.from_vec.ensures
    ∙ trimmed-all c.truncate.new.self.items c.loop-slot.modes.items c.loop-slot.enabled c.loop-slot.slot c.args.bytes.now c.truncate.ensures.items c.loop-slot.invariant.trimmed c.loop-slot.invariant.read (omega arith)
