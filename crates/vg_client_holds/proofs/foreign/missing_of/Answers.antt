use Rattle.std.proofs.Common.{sym}
use Rattle.vg_formats.specs.declared.entry.MemEntry.{MemEntry}
use Rattle.vg_client_holds.proofs.ForeignLemmas.{missing-here, missing-later}
use Rattle.vg_client_holds.proofs.foreign.missing_of.Goals as goal

abbrev nothing : MemEntry
nothing = record { addr = 0; length = 0 }

pub returns-then-is_some : goal.returns-then-is_some
returns-then-is_some c =
    missing-here c.args.own.now c.args.count c.args.entries.now c.loop-entry.entry-index nothing c.missing_in-missing.result _ c.loop-entry-test.true c.missing_in-missing.ensures
    (sym c.if-is_some.ensures) c.loop-entry.invariant

pub loop-entry-preserved : goal.loop-entry-preserved
loop-entry-preserved c =
    missing-later c.args.own.now c.args.count c.args.entries.now c.loop-entry.entry-index nothing c.missing_in-missing.result _ c.loop-entry-test.true c.missing_in-missing.ensures
    (sym c.if-is_some.ensures) c.loop-entry.invariant
