use Rattle.std.proofs.Common.{arith}
use Rattle.std.proofs.lemmas.List.{length-replicate}
use Rattle.vg_cursor.specs.Cursor.{unset}
use Rattle.vg_device.proofs.BoundLemmas.{none-showing}
use Rattle.vg_device.proofs.EdidLemmas.{as-many, sizes-are}
use Rattle.vg_device.proofs.device.Device.new.Goals as goal

pub invariant_of-result : goal.invariant_of-result
invariant_of-result c =
    let same = c.in_ok-copy_of.ensures in
    let count = c.len-count.ensures in
    record {
      setup = rw same (record { some = c.requires.some; at_most = c.requires.at_most; displays = c.requires.displays; one_page = c.requires.one_page; pages = c.requires.pages; accepted = c.requires.accepted; clients = c.requires.clients; queues = c.requires.queues; host = c.requires.host });
      pages = rw same c.in_ok-new.ensures.count;
      backings = rw c.new-7.ensures (λ k d within. absurd (omega (arith, within)));
      blobs = rw c.new-8.ensures (λ k d within. absurd (omega (arith, within)));
      screens = rw (c.in_ok-new-3.ensures, same, ← count) (length-replicate _ _);
      showing = rw (c.in_ok-new-3.ensures) (none-showing c.new-8.result c.new-6.result.resources c.len-count.result);
      leases = rw (c.in_ok-new-4.ensures.none, same, ← count) (length-replicate _ _);
      share = rw c.in_ok-new.ensures.fresh (c.in_ok-new-4.ensures.share c.args.setup.now.pages);
      reserved = rw c.in_ok-new-4.ensures.none (omega arith);
      exports = rw c.in_ok-new-4.ensures.none (omega arith);
      given = rw c.new-10.ensures (omega arith);
      cursors = rw (c.in_ok-new-2.ensures, same, ← count) (length-replicate c.len-count.result unset);
      plugs = rw (c.in_ok-new-5.ensures, c.as_slice.ensures, same) (as-many c.args.setup.now.displays);
    }

pub new-requires-5 : goal.new-requires-5
new-requires-5 c = rw c.as_slice.ensures (sizes-are c.args.setup.now.queues c.args.setup.now.displays c.requires.displays)
