use Rattle.std.proofs.Common.{refl}
use Rattle.vg_laws.proofs.Results.{on_err}
use Rattle.vg_wire.specs.Entries.{entry_bytes}
use Rattle.vg_wire.proofs.EntryLemmas.{bytes-more, fit-more, front-more}
use Rattle.vg_wire.proofs.entries.put_entries.Goals as goal

pub loop-entry-preserved : goal.loop-entry-preserved
loop-entry-preserved c =
    let i = c.loop-entry.entry-index in
    let inside = c.loop-entry-test.true in
    record {
      bytes = bytes-more c.put_entry.new.out.items c.loop-entry.out.items c.args.out.now.items c.args.entries.now i (record { addr = 0; length = 0 }) inside c.loop-entry.invariant.bytes c.in_ok-put_entry.ensures.bytes;
      fit = fit-more c.args.entries.now i (record { addr = 0; length = 0 }) inside c.loop-entry.invariant.fit c.put_entry.ensures.fits;
    }

pub returns-in_err-put_entry-clause-err : goal.returns-in_err-put_entry-clause-err
returns-in_err-put_entry-clause-err c =
    on_err _ (front-more entry_bytes c.args.entries.now c.loop-entry.entry-index _ (record { addr = 0; length = 0 }) _ _ _ c.loop-entry-test.true refl c.loop-entry.invariant.bytes c.in_err-put_entry.ensures.err)
