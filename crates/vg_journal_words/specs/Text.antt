-- The words of a journal's lines, and how it spells acts and their replies.
use Rattle.std.specs.Prelude.{ℕ, Bool, true, false, List, [], ◌∷◌, ◌++◌, codes, decimal}
use Rattle.vg_chain.specs.declared.chain.ChainFault.{ChainFault}
use Rattle.vg_chain.specs.declared.chain.ChainFault.TheVariants.{Index, Loop, Nested, NextWithIndirect, TableLength, Order, Range}
use Rattle.vg_chain.specs.declared.shape.Shape.{Shape}
use Rattle.vg_chain.specs.declared.shape.Shape.TheVariants.{Plain, Pieces, Indirect, Mixed, Bad}
use Rattle.vg_client_holds.specs.declared.act.Act.{Act}
use Rattle.vg_client_holds.specs.declared.act.Act.TheVariants.{Enter, Reserve, Store, Load, Export, Import, Release, Free, Take, Drop, Await, Denied, Mode, Unplug, Sync, Events, Ack, Leave}
use Rattle.vg_client_holds.specs.declared.act.What.{What}
use Rattle.vg_client_holds.specs.declared.act.What.TheVariants as whats
use Rattle.vg_share.specs.declared.share.Geometry.{Geometry}
use Rattle.vg_share.specs.declared.share.ShareRefusal.{ShareRefusal}
use Rattle.vg_share.specs.declared.share.ShareRefusal.TheVariants.{GuestFull, UnknownKey, NotHeld, ScanoutHeld, OutOfRange, InUse, ResourceLive}
use Rattle.vg_client_holds.specs.declared.act.ActReply.{ActReply}
use Rattle.vg_client_holds.specs.declared.act.ActReply.TheVariants as act_replies
use Rattle.vg_text.specs.Text.{numbered, hex_text}

abbrev pub what_text : What → List ℕ
what_text whats.Name = codes "name"
what_text (whats.Resource n) = codes "resource " ++ decimal n
what_text (whats.Scanout n) = codes "scanout " ++ decimal n
what_text (whats.Context n) = codes "context " ++ decimal n
what_text (whats.Page n) = codes "page " ++ decimal n

-- `reserve W H F B`
unfoldable pub reserve_text : ℕ → ℕ → ℕ → ℕ → List ℕ
reserve_text width height format bytes =
    codes "reserve " ++ decimal width ++ codes " " ++ decimal height ++ codes " " ++ decimal format ++ codes " " ++ decimal bytes

-- `store K O HEX T`
unfoldable pub store_text : ℕ → ℕ → List ℕ → ℕ → List ℕ
store_text key offset bytes times =
    codes "store " ++ decimal key ++ codes " " ++ decimal offset ++ codes " " ++ hex_text bytes ++ codes " " ++ decimal times

-- `load K O L`
unfoldable pub load_text : ℕ → ℕ → ℕ → List ℕ
load_text key offset n = codes "load " ++ decimal key ++ codes " " ++ decimal offset ++ codes " " ++ decimal n

-- `await L N`
unfoldable pub await_text : ℕ → ℕ → List ℕ
await_text lane ordinal = codes "await " ++ decimal lane ++ codes " " ++ decimal ordinal

-- `mode S W H`
unfoldable pub mode_text : ℕ → ℕ → ℕ → List ℕ
mode_text scanout width height = codes "mode " ++ decimal scanout ++ codes " " ++ decimal width ++ codes " " ++ decimal height

abbrev pub act_text : Act → List ℕ
act_text Enter = codes "enter"
act_text (Reserve width height format bytes) = reserve_text width height format bytes
act_text (Store key offset bytes times) = store_text key offset bytes times
act_text (Load key offset n) = load_text key offset n
act_text (Export key) = codes "export " ++ decimal key
act_text (Import token) = codes "import " ++ decimal token
act_text (Release key) = codes "release " ++ decimal key
act_text (Free key) = codes "free " ++ decimal key
act_text (Take scanout) = codes "take " ++ decimal scanout
act_text (Drop scanout) = codes "drop " ++ decimal scanout
act_text (Await lane ordinal) = await_text lane ordinal
act_text (Denied what) = codes "denied " ++ what_text what
act_text (Mode scanout width height) = mode_text scanout width height
act_text (Unplug scanout) = codes "unplug " ++ decimal scanout
act_text (Sync call) = codes "sync " ++ decimal call
act_text Events = codes "events"
act_text Ack = codes "ack"
act_text Leave = codes "leave"

abbrev pub refusal_text : ShareRefusal → List ℕ
refusal_text (GuestFull free) = codes "full " ++ decimal free
refusal_text UnknownKey = codes "unknown"
refusal_text NotHeld = codes "notheld"
refusal_text (ScanoutHeld by) = codes "held " ++ decimal by
refusal_text (OutOfRange bytes) = codes "range " ++ decimal bytes
refusal_text (InUse scanout) = codes "inuse " ++ decimal scanout
refusal_text ResourceLive = codes "live"

-- A comma and a number.
unfoldable pub comma_text : ℕ → ℕ → List ℕ
comma_text n page = codes "," ++ decimal page

-- Page numbers, parted by commas; `-` for none.
abbrev pub pages_text : List ℕ → List ℕ
pages_text [] = codes "-"
pages_text (page ∷ more) = decimal page ++ numbered comma_text 0 more

-- `key K pages P,P,..`
unfoldable pub reserved_text : ℕ → List ℕ → List ℕ
reserved_text key pages = codes "key " ++ decimal key ++ codes " pages " ++ pages_text pages

-- ` size W H F B`
unfoldable pub size_text : Geometry → List ℕ
size_text geometry =
    codes " size " ++ decimal geometry.width ++ codes " " ++ decimal geometry.height ++ codes " " ++ decimal geometry.format ++ codes " " ++ decimal geometry.bytes

-- `key K size W H F B pages P,P,..`
unfoldable pub imported_text : ℕ → Geometry → List ℕ → List ℕ
imported_text key geometry pages = codes "key " ++ decimal key ++ size_text geometry ++ codes " pages " ++ pages_text pages

-- `1` where a bit is set, else `0`
abbrev pub bit_text : Bool → List ℕ
bit_text true = codes "1"
bit_text false = codes "0"

abbrev pub act_reply_text : ActReply → List ℕ
act_reply_text act_replies.Ok = codes "ok"
act_reply_text (act_replies.Reserved key pages) = reserved_text key pages
act_reply_text (act_replies.Bytes bytes) = codes "bytes " ++ hex_text bytes
act_reply_text (act_replies.Exported token) = codes "token " ++ decimal token
act_reply_text (act_replies.Imported key geometry pages) = imported_text key geometry pages
act_reply_text act_replies.Kept = codes "kept"
act_reply_text act_replies.Last = codes "last"
act_reply_text (act_replies.Events set) = codes "events " ++ bit_text set
act_reply_text (act_replies.Refused refusal) = refusal_text refusal

-- A chain's fault, by the layout that has it.
abbrev pub fault_text : ChainFault → List ℕ
fault_text Index = codes "index"
fault_text Loop = codes "loop"
fault_text Nested = codes "nested"
fault_text NextWithIndirect = codes "nextindirect"
fault_text TableLength = codes "tablelength"
fault_text Order = codes "order"
fault_text Range = codes "range"

abbrev pub shape_text : Shape → List ℕ
shape_text Plain = codes "plain"
shape_text (Pieces n) = codes "pieces" ++ decimal n
shape_text Indirect = codes "indirect"
shape_text Mixed = codes "mixed"
shape_text (Bad fault) = fault_text fault
