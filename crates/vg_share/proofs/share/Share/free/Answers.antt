-- The pages that are given back are the buffer's alone.
use Rattle.std.proofs.Common.{◌≡◌, ℕ, List, Some, ap, sym, subst}
use Rattle.std.specs.Map.{lookup}
use Rattle.std.specs.BTreeMap.{is_at}
use Rattle.std.specs.Ordering.{nat_cmp}
use Rattle.vg_pages.specs.Memory.{Memory}
use Rattle.vg_share.specs.declared.share.Buffer.{Buffer}
use Rattle.vg_share.specs.Share.{ShareState, SharesPages}
use Rattle.vg_share.proofs.ShareLemmas.{live-givable, shares-freed}
use Rattle.vg_share.proofs.share.Share.free.Goals as goal
use Rattle.vg_share.proofs.share.Share.free.Goals.{in-Some-remove, in_default-remove}

pub give-requires : goal.give-requires
give-requires c =
    let inside = c.self.inside in
    let share : ShareState = record { buffers = inside.buffers.entries; reserved = inside.reserved; exports = inside.exports.items; leases = inside.leases.items; clients = inside.clients.entries } in
    let found : lookup (is_at (nat_cmp c.args.key)) inside.buffers.entries ≡ Some c.in-Some-remove.buffer = sym c.in-Some-remove.ensures.value in
    live-givable c.args.pages.now share (is_at (nat_cmp c.args.key)) c.in-Some-remove.buffer c.as_slice.result.now found c.as_slice.ensures
    (subst (SharesPages c.args.pages.now) (sym c.self.view_is) c.requires)

pub returns-clause-share : goal.returns-clause-share
returns-clause-share c =
    let inside = c.self.inside in
    let test = is_at (nat_cmp c.args.key) in
    let shares = subst (SharesPages c.args.pages.now) (sym c.self.view_is) c.requires in
    elim c.match-remove.branch [
      | in-Some-remove w ↦
          let found : lookup test inside.buffers.entries ≡ Some w.in-Some-remove.buffer = sym w.in-Some-remove.ensures.value in
          rw w.pages-is
          (shares-freed c.args.pages.now w.give.new.self inside.buffers.entries c.remove.new.self.entries inside.reserved inside.exports.items inside.leases.items inside.clients.entries
          test w.in-Some-remove.buffer w.as_slice.result.now found w.as_slice.ensures (ap (λ (memory : Memory). memory.taken) w.give.ensures.after)
          w.give.ensures.others c.remove.ensures.entries shares)
      | in_default-remove w ↦
          let same : c.remove.new.self.entries ≡ inside.buffers.entries = w.in_default-remove.ensures.unchanged in
          let whole = λ (es : List (ℕ × Buffer)). SharesPages c.args.pages.now (record { buffers = es; reserved = inside.reserved; exports = inside.exports.items; leases = inside.leases.items; clients = inside.clients.entries }) in
          rw w.pages-is (subst whole (sym same) shares)
    ]
