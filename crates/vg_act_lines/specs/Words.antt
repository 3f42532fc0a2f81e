-- The words of an act and of its reply, which its text has in a row with a blank between two.
use Rattle.std.specs.Prelude.{ℕ, List, [], ◌∷◌, codes, decimal}
use Rattle.vg_client_holds.specs.declared.act.Act.{Act}
use Rattle.vg_client_holds.specs.declared.act.Act.TheVariants.{Enter, Reserve, Store, Load, Export, Import, Release, Free, Take, Drop, Await, Denied, Mode, Unplug, Sync, Events, Ack, Leave}
use Rattle.vg_client_holds.specs.declared.act.What.{What}
use Rattle.vg_client_holds.specs.declared.act.What.TheVariants as whats
use Rattle.vg_client_holds.specs.declared.act.ActReply.{ActReply}
use Rattle.vg_client_holds.specs.declared.act.ActReply.TheVariants as replies
use Rattle.vg_share.specs.declared.share.ShareRefusal.{ShareRefusal}
use Rattle.vg_share.specs.declared.share.ShareRefusal.TheVariants.{GuestFull, UnknownKey, NotHeld, ScanoutHeld, OutOfRange, InUse, ResourceLive}
use Rattle.vg_journal_words.specs.Text.{bit_text}
use Rattle.vg_text.specs.Text.{hex_text}
use Rattle.vg_line_words.specs.Words.{numbers_text}

abbrev pub what_words : What → List (List ℕ)
what_words whats.Name = codes "name" ∷ []
what_words (whats.Resource n) = codes "resource" ∷ decimal n ∷ []
what_words (whats.Scanout n) = codes "scanout" ∷ decimal n ∷ []
what_words (whats.Context n) = codes "context" ∷ decimal n ∷ []
what_words (whats.Page n) = codes "page" ∷ decimal n ∷ []

abbrev pub act_words : Act → List (List ℕ)
act_words Enter = codes "enter" ∷ []
act_words (Reserve width height format bytes) = codes "reserve" ∷ decimal width ∷ decimal height ∷ decimal format ∷ decimal bytes ∷ []
act_words (Store key offset bytes times) = codes "store" ∷ decimal key ∷ decimal offset ∷ hex_text bytes ∷ decimal times ∷ []
act_words (Load key offset n) = codes "load" ∷ decimal key ∷ decimal offset ∷ decimal n ∷ []
act_words (Export key) = codes "export" ∷ decimal key ∷ []
act_words (Import token) = codes "import" ∷ decimal token ∷ []
act_words (Release key) = codes "release" ∷ decimal key ∷ []
act_words (Free key) = codes "free" ∷ decimal key ∷ []
act_words (Take scanout) = codes "take" ∷ decimal scanout ∷ []
act_words (Drop scanout) = codes "drop" ∷ decimal scanout ∷ []
act_words (Await lane ordinal) = codes "await" ∷ decimal lane ∷ decimal ordinal ∷ []
act_words (Denied what) = codes "denied" ∷ what_words what
act_words (Mode scanout width height) = codes "mode" ∷ decimal scanout ∷ decimal width ∷ decimal height ∷ []
act_words (Unplug scanout) = codes "unplug" ∷ decimal scanout ∷ []
act_words (Sync call) = codes "sync" ∷ decimal call ∷ []
act_words Events = codes "events" ∷ []
act_words Ack = codes "ack" ∷ []
act_words Leave = codes "leave" ∷ []

abbrev pub refusal_words : ShareRefusal → List (List ℕ)
refusal_words (GuestFull free) = codes "full" ∷ decimal free ∷ []
refusal_words UnknownKey = codes "unknown" ∷ []
refusal_words NotHeld = codes "notheld" ∷ []
refusal_words (ScanoutHeld by) = codes "held" ∷ decimal by ∷ []
refusal_words (OutOfRange bytes) = codes "range" ∷ decimal bytes ∷ []
refusal_words (InUse scanout) = codes "inuse" ∷ decimal scanout ∷ []
refusal_words ResourceLive = codes "live" ∷ []

abbrev pub reply_words : ActReply → List (List ℕ)
reply_words replies.Ok = codes "ok" ∷ []
reply_words (replies.Reserved key pages) = codes "key" ∷ decimal key ∷ codes "pages" ∷ numbers_text pages ∷ []
reply_words (replies.Bytes bytes) = codes "bytes" ∷ hex_text bytes ∷ []
reply_words (replies.Exported token) = codes "token" ∷ decimal token ∷ []
reply_words (replies.Imported key geometry pages) =
    codes "key" ∷ decimal key ∷ codes "size" ∷ decimal geometry.width ∷ decimal geometry.height ∷ decimal geometry.format ∷ decimal geometry.bytes ∷ codes "pages" ∷ numbers_text pages ∷ []
reply_words replies.Kept = codes "kept" ∷ []
reply_words replies.Last = codes "last" ∷ []
reply_words (replies.Events set) = codes "events" ∷ bit_text set ∷ []
reply_words (replies.Refused refusal) = refusal_words refusal
