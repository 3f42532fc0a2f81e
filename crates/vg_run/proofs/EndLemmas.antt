-- How the run of a script ended, by how its journal was written.
use Rattle.std.proofs.Common.{subst, ℕ, List, Option}
use Rattle.vg_io.specs.Streams.{Takes, TakesPart, TakesSome}
use Rattle.vg_script.specs.declared.types.Script.{Script}
use Rattle.vg_journal.specs.declared.journal.Journal.{Journal}
use Rattle.vg_journal.specs.Text.{text_of}
use Rattle.vg_legal.specs.Legal.{IsLegalJournal}
use Rattle.vg_run.specs.declared.top.Status.{Status}
use Rattle.vg_run.specs.declared.top.Status.TheVariants as statuses
use Rattle.vg_run.specs.declared.top.Status.TheVariants.{Done, Usage, ReadFault, WriteFault, TooLong, NoMemory}
use Rattle.vg_run.specs.PrintingWithin.{Written}
use Rattle.vg_run.specs.Status.{Ended}

-- a journal that was written is that of a run that ended so
pub written-ends : (status : Status) (script : Script) (journal : Journal) (held held' : Option (List ℕ)) (faults faults' : ℕ) → IsLegalJournal script journal → Written status (text_of journal) held held' faults faults'
    → Ended status script held held' faults faults'
written-ends Done script journal held held' faults faults' (H, legal, is) (takes, same) =
    let P : Journal → Type 0 = λ j. Takes held held' (text_of j) in
    ((H, legal, subst P is takes), same)
written-ends WriteFault script journal held held' faults faults' (H, legal, is) (rose, takes) =
    let P : Journal → Type 0 = λ j. TakesSome held held' (text_of j) in
    (rose, (H, legal, subst P is takes))
written-ends NoMemory script journal held held' faults faults' (H, legal, is) (takes, same) =
    let P : Journal → Type 0 = λ j. TakesPart held held' (text_of j) in
    ((H, legal, subst P is takes), same)
written-ends Usage script journal held held' faults faults' legal written = written
written-ends (statuses.Wrong entry) script journal held held' faults faults' legal written = written
written-ends (statuses.Journal line) script journal held held' faults faults' legal written = written
written-ends (statuses.Script line kind) script journal held held' faults faults' legal written = written
written-ends ReadFault script journal held held' faults faults' legal written = written
written-ends TooLong script journal held held' faults faults' legal written = written
