-- What a client holds after one entry more, and what was allowed to it.
use Rattle.std.proofs.Common.{◌≡◌, refl}
use Rattle.vg_client_holds.specs.declared.holds.Holds.{Holds}
use Rattle.vg_client_holds.specs.declared.act.Act.{Act}
use Rattle.vg_client_holds.specs.declared.act.Act.TheVariants.{Reserve, Import, Release, Free, Take, Drop}
use Rattle.vg_client_holds.specs.declared.act.ActReply.{ActReply}
use Rattle.vg_client_holds.specs.declared.act.ActReply.TheVariants as act_replies
use Rattle.vg_machine.specs.Entries.{Entry}
use Rattle.vg_history.specs.declared.entry.Entry.TheVariants as entries
use Rattle.vg_client_holds.specs.Holds.{update}
use Rattle.vg_client_holds.proofs.GrowingLemmas.{host-stays}
use Rattle.vg_machine.specs.Order.{updated}

-- an act doesn't change how many displays there are
update-displays : (holds : Holds) (act : Act) (reply : ActReply) → (update holds act reply).displays ≡ holds.displays
update-displays holds (Reserve width height format bytes) (act_replies.Reserved key pages) = refl
update-displays holds (Import token) (act_replies.Imported key geometry pages) = refl
update-displays holds (Release key) act_replies.Kept = refl
update-displays holds (Release key) act_replies.Last = refl
update-displays holds (Free key) act_replies.Ok = refl
update-displays holds (Take scanout) act_replies.Ok = refl
update-displays holds (Drop scanout) act_replies.Ok = refl
update-displays holds act reply = refl

pub updated-displays : (holds : Holds) (entry : Entry) → (updated holds entry).displays ≡ holds.displays
updated-displays holds (entries.Act client call act reply) = update-displays holds act reply
updated-displays holds (entries.Command client call request reply) = refl

-- nor who the client is
pub updated-host : (holds : Holds) (entry : Entry) → (updated holds entry).host ≡ holds.host
updated-host holds (entries.Act client call act reply) = host-stays holds act reply
updated-host holds (entries.Command client call request reply) = refl
