-- The numbers that the words of acts and replies may have.
use Rattle.std.specs.Prelude.{ℕ, ◌<◌, ◌^◌}
use Rattle.std.specs.Bool.{⊤}
use Rattle.vg_client_holds.specs.declared.act.Act.{Act}
use Rattle.vg_client_holds.specs.declared.act.Act.TheVariants.{Enter, Reserve, Store, Load, Export, Import, Release, Free, Take, Drop, Await, Denied, Mode, Unplug, Sync, Events, Ack, Leave}
use Rattle.vg_client_holds.specs.declared.act.What.{What}
use Rattle.vg_client_holds.specs.declared.act.What.TheVariants as whats
use Rattle.vg_client_holds.specs.declared.act.ActReply.{ActReply}
use Rattle.vg_client_holds.specs.declared.act.ActReply.TheVariants as replies
use Rattle.vg_share.specs.declared.share.Geometry.{Geometry}
use Rattle.vg_share.specs.declared.share.ShareRefusal.{ShareRefusal}
use Rattle.vg_share.specs.declared.share.ShareRefusal.TheVariants.{GuestFull, UnknownKey, NotHeld, ScanoutHeld, OutOfRange, InUse, ResourceLive}
use Rattle.vg_line_words.specs.Words.{AreBelow}

abbrev pub IsShort : ℕ → Type 0
IsShort n = n < 2 ^ 32

abbrev pub WhatInRange : What → Type 0
WhatInRange whats.Name = ⊤
WhatInRange (whats.Resource n) = IsShort n
WhatInRange (whats.Scanout n) = IsShort n
WhatInRange (whats.Context n) = IsShort n
WhatInRange (whats.Page n) = IsShort n

abbrev pub ActInRange : Act → Type 0
ActInRange Enter = ⊤
ActInRange (Reserve width height format bytes) = IsShort width × IsShort height × IsShort format × IsShort bytes
ActInRange (Store key offset bytes times) = IsShort key × IsShort offset × AreBelow 256 bytes × IsShort times
ActInRange (Load key offset n) = IsShort key × IsShort offset × IsShort n
ActInRange (Export key) = IsShort key
ActInRange (Import token) = IsShort token
ActInRange (Release key) = IsShort key
ActInRange (Free key) = IsShort key
ActInRange (Take scanout) = IsShort scanout
ActInRange (Drop scanout) = IsShort scanout
-- any lane: what isn't one has no command
ActInRange (Await lane ordinal) = IsShort lane × (ordinal < 2 ^ 63)
ActInRange (Denied what) = WhatInRange what
ActInRange (Mode scanout width height) = IsShort scanout × IsShort width × IsShort height
ActInRange (Unplug scanout) = IsShort scanout
ActInRange (Sync call) = call < 2 ^ 63
ActInRange Events = ⊤
ActInRange Ack = ⊤
ActInRange Leave = ⊤

abbrev pub RefusalInRange : ShareRefusal → Type 0
RefusalInRange (GuestFull free) = IsShort free
RefusalInRange UnknownKey = ⊤
RefusalInRange NotHeld = ⊤
RefusalInRange (ScanoutHeld by) = IsShort by
RefusalInRange (OutOfRange bytes) = IsShort bytes
RefusalInRange (InUse scanout) = IsShort scanout
RefusalInRange ResourceLive = ⊤

abbrev pub GeometryInRange : Geometry → Type 0
GeometryInRange geometry = IsShort geometry.width × IsShort geometry.height × IsShort geometry.format × IsShort geometry.bytes

abbrev pub ReplyInRange : ActReply → Type 0
ReplyInRange replies.Ok = ⊤
ReplyInRange (replies.Reserved key pages) = IsShort key × AreBelow (2 ^ 32) pages
ReplyInRange (replies.Bytes bytes) = AreBelow 256 bytes
ReplyInRange (replies.Exported token) = IsShort token
ReplyInRange (replies.Imported key geometry pages) = IsShort key × GeometryInRange geometry × AreBelow (2 ^ 32) pages
ReplyInRange replies.Kept = ⊤
ReplyInRange replies.Last = ⊤
ReplyInRange (replies.Events set) = ⊤
ReplyInRange (replies.Refused refusal) = RefusalInRange refusal
