use Rattle.std.specs.Prelude.{ℕ, ◌+◌, false, not, nat_lt, ◌==◌, if◌then◌else◌}
use Rattle.vg_notify.specs.declared.views.RingerStage.{RingerStage}
use Rattle.vg_notify.specs.declared.views.RingerStage.TheVariants as ringer
use Rattle.vg_notify.specs.declared.views.RingerView.{RingerView}
use Rattle.vg_notify.specs.declared.views.SleeperView.{SleeperView}
use Rattle.vg_notify.specs.declared.views.View.{View}
use Rattle.vg_notify.specs.declared.views.View.TheVariants.{Rings, Sleeps, Note}
use Rattle.vg_notify.specs.Need.{calls_for}

-- What the two halves know at first.
abbrev pub new_ringer : RingerView
new_ringer = record { count = 0; rung = 0; looks = 0; seen = 0; stage = ringer.Resting }

abbrev pub new_sleeper : SleeperView
new_sleeper = record { event = 0; loaded = 0; asleep = false; hears = 0; heard = 0; looks = 0; seen = 0; noted_count = 0; noted_rung = 0 }

abbrev pub ringer_of : View → RingerView
ringer_of (Rings r) = r
ringer_of _ = new_ringer

abbrev pub sleeper_of : View → SleeperView
sleeper_of (Sleeps z) = z
sleeper_of _ = new_sleeper

-- What a note says.
abbrev pub count_noted : View → ℕ
count_noted (Note count rung) = count
count_noted _ = 0

abbrev pub rung_noted : View → ℕ
rung_noted (Note count rung) = rung
rung_noted _ = 0

abbrev pub staged : RingerView → RingerStage → RingerView
staged r stage = record r { stage = stage }

-- What the ringer knows once the count is stored, the event is loaded, and a kick is raised.
abbrev pub stored : RingerView → ℕ → RingerView
stored r count = record r { count = count; stage = ringer.Stored r.count }

abbrev pub stage_found : ℕ → ℕ → RingerStage → RingerStage
stage_found event count ringer.Resting = ringer.Resting
stage_found event count (ringer.Stored old) = if calls_for event count old then ringer.Raising else ringer.Resting
stage_found event count ringer.Raising = ringer.Raising

abbrev pub found_in : RingerView → ℕ → RingerView
found_in r event = record r { looks = r.looks + 1; seen = event; stage = stage_found event r.count r.stage }

abbrev pub raised : RingerView → RingerView
raised r = record r { rung = r.rung + 1; stage = ringer.Resting }

-- What the sleeper knows once the kicks are loaded, the event is stored and the count is loaded.
abbrev pub roused : SleeperView → ℕ → SleeperView
roused z kicks = record z { loaded = kicks; asleep = false; hears = z.hears + 1; heard = kicks }

abbrev pub waiting_for : SleeperView → ℕ → SleeperView
waiting_for z event = record z { event = event }

abbrev pub counted : SleeperView → ℕ → SleeperView
counted z count = record z { looks = z.looks + 1; seen = count; asleep = count == z.event }

-- The same once it has looked for a kick, and once it has a note.
abbrev pub listened : SleeperView → ℕ → SleeperView
listened z kicks = record z { hears = z.hears + 1; heard = kicks; asleep = not (nat_lt z.loaded kicks) }

abbrev pub noted : SleeperView → ℕ → ℕ → SleeperView
noted z count rung = record z { noted_count = count; noted_rung = rung }
