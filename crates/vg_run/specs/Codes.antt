use Rattle.std.specs.Prelude.{ℕ, ◌==◌, if◌then◌else◌, Option, None, Some}
use Rattle.vg_run.specs.declared.top.Status.{Status}
use Rattle.vg_run.specs.declared.top.Status.TheVariants.{Done, Usage, ReadFault, WriteFault, TooLong, NoMemory}
use Rattle.vg_run.specs.declared.top.Status.TheVariants as statuses
use Rattle.vg_run.specs.declared.fault.Kind.{Kind}
use Rattle.vg_run.specs.declared.fault.Kind.TheVariants.{Text, Word, Number, Limit, Name, WaitCycle}
use Rattle.vg_run.specs.declared.fault.Fault.{Fault}
use Rattle.vg_run.specs.declared.fault.Fault.TheVariants as faults

-- The exit status of each way that a call ends.
abbrev pub exit_code : Status → ℕ
exit_code Done = 0
exit_code (statuses.Wrong entry) = 1
exit_code Usage = 2
exit_code (statuses.Script line kind) = 3
exit_code (statuses.Journal line) = 3
exit_code ReadFault = 4
exit_code WriteFault = 5
exit_code TooLong = 6
exit_code NoMemory = 7

-- What is wrong with a line, by its number from 1 to 6.
abbrev pub kind_told : ℕ → Kind
kind_told number =
    if number == 1 then Text
    else if number == 2 then Word
    else if number == 3 then Number
    else if number == 4 then Limit
    else if number == 5 then Name
    else WaitCycle

-- What is said of each way that a call ends: nothing where all is done, or a journal is wrong.
abbrev pub fault_told : Status → Option Fault
fault_told Done = None
fault_told (statuses.Wrong entry) = None
fault_told Usage = Some faults.Usage
fault_told (statuses.Script line kind) = Some (faults.Script line (kind_told kind))
fault_told (statuses.Journal line) = Some (faults.Journal line)
fault_told ReadFault = Some faults.ReadFault
fault_told WriteFault = Some faults.WriteFault
fault_told TooLong = Some faults.TooLong
fault_told NoMemory = Some faults.NoMemory
