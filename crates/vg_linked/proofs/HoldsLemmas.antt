-- A client's holds have its number, and the setup's displays and pages.
use Rattle.std.proofs.Common.{◌==◌, ℕ, Bool, true, false, cond, List, [], ◌∷◌, refl}
use Rattle.vg_client_holds.specs.declared.act.Act.{Act}
use Rattle.vg_client_holds.specs.declared.act.Act.TheVariants.{Enter, Reserve, Store, Load, Export, Import, Release, Free, Take, Drop, Await, Denied, Mode, Unplug, Sync, Events, Ack, Leave}
use Rattle.vg_client_holds.specs.declared.act.ActReply.{ActReply}
use Rattle.vg_client_holds.specs.declared.act.ActReply.TheVariants.{Ok, Reserved, Bytes, Exported, Imported, Kept, Last, Refused}
use Rattle.vg_client_holds.specs.declared.act.ActReply.TheVariants as replies
use Rattle.vg_client_holds.specs.declared.holds.Holds.{Holds}
use Rattle.vg_client_holds.specs.declared.setup.Setup.{Setup}
use Rattle.vg_client_holds.specs.Holds.{first_holds, update}
use Rattle.vg_history.specs.declared.entry.Entry.TheVariants as entries
use Rattle.vg_history.specs.History as history
use Rattle.vg_machine.specs.Entries.{Entry}
use Rattle.vg_machine.specs.Order.{holds_of}
use Rattle.vg_machine.specs.Replay.{display}
use Rattle.vg_linked.specs.Linked.{AreOf}

of-updated : (setup : Setup) (client : ℕ) (holds : Holds) (act : Act) (reply : ActReply) → AreOf setup client holds → AreOf setup client (update holds act reply)
of-updated setup client holds Enter reply was = was
of-updated setup client holds (Store key offset bytes times) reply was = was
of-updated setup client holds (Load key offset n) reply was = was
of-updated setup client holds (Export key) reply was = was
of-updated setup client holds (Await lane ordinal) reply was = was
of-updated setup client holds (Denied what) reply was = was
of-updated setup client holds (Mode scanout width height) reply was = was
of-updated setup client holds (Unplug scanout) reply was = was
of-updated setup client holds (Sync number) reply was = was
of-updated setup client holds Events reply was = was
of-updated setup client holds Ack reply was = was
of-updated setup client holds Leave reply was = was
of-updated setup client holds (Reserve width height format bytes) Ok was = was
of-updated setup client holds (Reserve width height format bytes) (Reserved k pages) was = was
of-updated setup client holds (Reserve width height format bytes) (Bytes cells) was = was
of-updated setup client holds (Reserve width height format bytes) (Exported number) was = was
of-updated setup client holds (Reserve width height format bytes) (Imported k geometry pages) was = was
of-updated setup client holds (Reserve width height format bytes) Kept was = was
of-updated setup client holds (Reserve width height format bytes) Last was = was
of-updated setup client holds (Reserve width height format bytes) (replies.Events set) was = was
of-updated setup client holds (Reserve width height format bytes) (Refused refusal) was = was
of-updated setup client holds (Import token) Ok was = was
of-updated setup client holds (Import token) (Reserved k pages) was = was
of-updated setup client holds (Import token) (Bytes cells) was = was
of-updated setup client holds (Import token) (Exported number) was = was
of-updated setup client holds (Import token) (Imported k geometry pages) was = was
of-updated setup client holds (Import token) Kept was = was
of-updated setup client holds (Import token) Last was = was
of-updated setup client holds (Import token) (replies.Events set) was = was
of-updated setup client holds (Import token) (Refused refusal) was = was
of-updated setup client holds (Release key) Ok was = was
of-updated setup client holds (Release key) (Reserved k pages) was = was
of-updated setup client holds (Release key) (Bytes cells) was = was
of-updated setup client holds (Release key) (Exported number) was = was
of-updated setup client holds (Release key) (Imported k geometry pages) was = was
of-updated setup client holds (Release key) Kept was = was
of-updated setup client holds (Release key) Last was = was
of-updated setup client holds (Release key) (replies.Events set) was = was
of-updated setup client holds (Release key) (Refused refusal) was = was
of-updated setup client holds (Free key) Ok was = was
of-updated setup client holds (Free key) (Reserved k pages) was = was
of-updated setup client holds (Free key) (Bytes cells) was = was
of-updated setup client holds (Free key) (Exported number) was = was
of-updated setup client holds (Free key) (Imported k geometry pages) was = was
of-updated setup client holds (Free key) Kept was = was
of-updated setup client holds (Free key) Last was = was
of-updated setup client holds (Free key) (replies.Events set) was = was
of-updated setup client holds (Free key) (Refused refusal) was = was
of-updated setup client holds (Take scanout) Ok was = was
of-updated setup client holds (Take scanout) (Reserved k pages) was = was
of-updated setup client holds (Take scanout) (Bytes cells) was = was
of-updated setup client holds (Take scanout) (Exported number) was = was
of-updated setup client holds (Take scanout) (Imported k geometry pages) was = was
of-updated setup client holds (Take scanout) Kept was = was
of-updated setup client holds (Take scanout) Last was = was
of-updated setup client holds (Take scanout) (replies.Events set) was = was
of-updated setup client holds (Take scanout) (Refused refusal) was = was
of-updated setup client holds (Drop scanout) Ok was = was
of-updated setup client holds (Drop scanout) (Reserved k pages) was = was
of-updated setup client holds (Drop scanout) (Bytes cells) was = was
of-updated setup client holds (Drop scanout) (Exported number) was = was
of-updated setup client holds (Drop scanout) (Imported k geometry pages) was = was
of-updated setup client holds (Drop scanout) Kept was = was
of-updated setup client holds (Drop scanout) Last was = was
of-updated setup client holds (Drop scanout) (replies.Events set) was = was
of-updated setup client holds (Drop scanout) (Refused refusal) was = was

of-either : (setup : Setup) (client : ℕ) (b : Bool) (holds new : Holds) → AreOf setup client holds → AreOf setup client new → AreOf setup client (cond b new holds)
of-either setup client true holds new was is = is
of-either setup client false holds new was is = was

of-from : (setup : Setup) (client : ℕ) (holds : Holds) (H : List Entry) → AreOf setup client holds → AreOf setup client (history.holds_after display client holds H)
of-from setup client holds [] was = was
of-from setup client holds (entries.Act other call act reply ∷ rest) was =
    of-from setup client (cond (other == client) (update holds act reply) holds) rest (of-either setup client (other == client) holds (update holds act reply) was (of-updated setup client holds act reply was))
of-from setup client holds (entries.Command other call request reply ∷ rest) was = of-from setup client holds rest was

pub holds-of : (setup : Setup) (H : List Entry) (client : ℕ) → AreOf setup client (holds_of setup client H)
holds-of setup H client = of-from setup client (first_holds setup client) H (refl, refl, refl)
