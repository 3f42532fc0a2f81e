use Rattle.vg_formats.specs.declared.entry.MemEntry.{MemEntry}
use Rattle.vg_client_holds.specs.ForeignWithin.{is_outside}
use Rattle.vg_client_holds.proofs.ForeignLemmas.{found-end, found-later}
use Rattle.vg_client_holds.proofs.foreign.are_each.Goals as goal

abbrev nothing : MemEntry
nothing = record { addr = 0; length = 0 }

pub returns : goal.returns
returns c = λ _. found-end (is_outside c.args.pages.now) c.args.count c.args.entries.now c.loop-place.place c.loop-place-test.false c.loop-place.invariant

pub loop-place-preserved : goal.loop-place-preserved
loop-place-preserved c =
    found-later (is_outside c.args.pages.now) c.args.count c.args.entries.now c.loop-place.place nothing c.loop-place-test.true (c.is_page_at.ensures c.if-not-is_page_at.false) c.loop-place.invariant
