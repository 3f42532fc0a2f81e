-- Which act, or which reply, some words are; or none, where they are no such words.
use Rattle.std.specs.Prelude.{ℕ, ◌^◌, ◌&&◌, true, false, if◌then◌else◌, List, [], ◌∷◌, Option, Some, None, option_map, option_and_then, bytes_eq, codes}
use Rattle.vg_client_holds.specs.declared.act.Act.{Act}
use Rattle.vg_client_holds.specs.declared.act.Act.TheVariants.{Enter, Reserve, Store, Load, Export, Import, Release, Free, Take, Drop, Await, Denied, Mode, Unplug, Sync, Events, Ack, Leave}
use Rattle.vg_client_holds.specs.declared.act.What.{What}
use Rattle.vg_client_holds.specs.declared.act.What.TheVariants as whats
use Rattle.vg_client_holds.specs.declared.act.ActReply.{ActReply}
use Rattle.vg_client_holds.specs.declared.act.ActReply.TheVariants as replies
use Rattle.vg_share.specs.declared.share.Geometry.{Geometry}
use Rattle.vg_share.specs.declared.share.ShareRefusal.{ShareRefusal}
use Rattle.vg_share.specs.declared.share.ShareRefusal.TheVariants.{GuestFull, UnknownKey, NotHeld, ScanoutHeld, OutOfRange, InUse, ResourceLive}
use Rattle.vg_line_words.specs.Words.{bytes_of, number_of, numbers_of}

-- What two words say, where each says something.
abbrev pub both : {X Y : Type 0} → Option X → Option Y → Option (X × Y)
both None p = None
both (Some x) None = None
both (Some x) (Some y) = Some (x, y)

-- What a first word says with nothing behind it.
abbrev pub alone : {X : Type 0} → X → List (List ℕ) → Option X
alone x [] = Some x
alone x (word ∷ words) = None

-- A number below 2 ^ 32, two, and four.
abbrev pub short : List ℕ → Option ℕ
short word = number_of (2 ^ 32) word

abbrev pub two : List ℕ → List ℕ → Option (ℕ × ℕ)
two a b = both (short a) (short b)

abbrev pub four : List ℕ → List ℕ → List ℕ → List ℕ → Option ((ℕ × ℕ) × (ℕ × ℕ))
four a b c d = both (two a b) (two c d)

-- A word of its own that is a number.
abbrev pub one_number : List (List ℕ) → Option ℕ
one_number (n ∷ []) = short n
one_number words = None

-- W, and what stands behind it.
abbrev pub numbered_what : List ℕ → ℕ → Option What
numbered_what word n =
    if bytes_eq word (codes "resource") then Some (whats.Resource n)
    else if bytes_eq word (codes "scanout") then Some (whats.Scanout n)
    else if bytes_eq word (codes "context") then Some (whats.Context n)
    else if bytes_eq word (codes "page") then Some (whats.Page n)
    else None

unfoldable pub what_of : List (List ℕ) → Option What
what_of (word ∷ []) = if bytes_eq word (codes "name") then Some whats.Name else None
what_of (word ∷ n ∷ []) = option_and_then (numbered_what word) (short n)
what_of words = None

-- Acts that have one number.
abbrev pub numbered_act : List ℕ → ℕ → Option Act
numbered_act word n =
    if bytes_eq word (codes "export") then Some (Export n)
    else if bytes_eq word (codes "import") then Some (Import n)
    else if bytes_eq word (codes "release") then Some (Release n)
    else if bytes_eq word (codes "free") then Some (Free n)
    else if bytes_eq word (codes "take") then Some (Take n)
    else if bytes_eq word (codes "drop") then Some (Drop n)
    else if bytes_eq word (codes "unplug") then Some (Unplug n)
    else None

-- `reserve W H F B`
abbrev pub reserve : (ℕ × ℕ) × (ℕ × ℕ) → Act
reserve n = Reserve n.0.0 n.0.1 n.1.0 n.1.1

unfoldable pub reserve_of : List (List ℕ) → Option Act
reserve_of (width ∷ height ∷ format ∷ bytes ∷ []) = option_map reserve (four width height format bytes)
reserve_of words = None

-- `store K O HEX T`
abbrev pub store : ((ℕ × ℕ) × ℕ) × List ℕ → Act
store n = Store n.0.0.0 n.0.0.1 n.1 n.0.1

unfoldable pub store_of : List (List ℕ) → Option Act
store_of (key ∷ offset ∷ hex ∷ times ∷ []) = option_map store (both (both (two key offset) (short times)) (bytes_of hex))
store_of words = None

-- `load K O L`
abbrev pub load : (ℕ × ℕ) × ℕ → Act
load n = Load n.0.0 n.0.1 n.1

unfoldable pub load_of : List (List ℕ) → Option Act
load_of (key ∷ offset ∷ n ∷ []) = option_map load (both (two key offset) (short n))
load_of words = None

-- `await L N`
abbrev pub await : ℕ × ℕ → Act
await n = Await n.0 n.1

unfoldable pub await_of : List (List ℕ) → Option Act
await_of (lane ∷ ordinal ∷ []) = option_map await (both (short lane) (number_of (2 ^ 63) ordinal))
await_of words = None

-- `mode S W H`
abbrev pub mode : (ℕ × ℕ) × ℕ → Act
mode n = Mode n.0.0 n.0.1 n.1

unfoldable pub mode_of : List (List ℕ) → Option Act
mode_of (scanout ∷ width ∷ height ∷ []) = option_map mode (both (two scanout width) (short height))
mode_of words = None

-- `sync K`
unfoldable pub sync_of : List (List ℕ) → Option Act
sync_of (call ∷ []) = option_map Sync (number_of (2 ^ 63) call)
sync_of words = None

-- An act by its first word.
unfoldable pub buffer_act : List ℕ → List (List ℕ) → Option Act
buffer_act word args =
    if bytes_eq word (codes "reserve") then reserve_of args
    else if bytes_eq word (codes "store") then store_of args
    else if bytes_eq word (codes "load") then load_of args
    else option_and_then (numbered_act word) (one_number args)

unfoldable pub plug_act : List ℕ → List (List ℕ) → Option Act
plug_act word args =
    if bytes_eq word (codes "mode") then mode_of args
    else if bytes_eq word (codes "sync") then sync_of args
    else if bytes_eq word (codes "events") then alone Events args
    else if bytes_eq word (codes "ack") then alone Ack args
    else buffer_act word args

unfoldable pub act_by : List ℕ → List (List ℕ) → Option Act
act_by word args =
    if bytes_eq word (codes "enter") then alone Enter args
    else if bytes_eq word (codes "leave") then alone Leave args
    else if bytes_eq word (codes "denied") then option_map Denied (what_of args)
    else if bytes_eq word (codes "await") then await_of args
    else plug_act word args

abbrev pub act_of : List (List ℕ) → Option Act
act_of [] = None
act_of (word ∷ args) = act_by word args

-- A refusal by its first word.
abbrev pub numbered_refusal : List ℕ → ℕ → Option ShareRefusal
numbered_refusal word n =
    if bytes_eq word (codes "full") then Some (GuestFull n)
    else if bytes_eq word (codes "held") then Some (ScanoutHeld n)
    else if bytes_eq word (codes "range") then Some (OutOfRange n)
    else if bytes_eq word (codes "inuse") then Some (InUse n)
    else None

unfoldable pub refusal_by : List ℕ → List (List ℕ) → Option ShareRefusal
refusal_by word args =
    if bytes_eq word (codes "unknown") then alone UnknownKey args
    else if bytes_eq word (codes "notheld") then alone NotHeld args
    else if bytes_eq word (codes "live") then alone ResourceLive args
    else option_and_then (numbered_refusal word) (one_number args)

-- `bytes HEX`
unfoldable pub loaded_of : List (List ℕ) → Option ActReply
loaded_of (hex ∷ []) = option_map replies.Bytes (bytes_of hex)
loaded_of words = None

-- `events E`
unfoldable pub events_of : List (List ℕ) → Option ActReply
events_of (bit ∷ []) =
    if bytes_eq bit (codes "0") then Some (replies.Events false)
    else if bytes_eq bit (codes "1") then Some (replies.Events true)
    else None
events_of words = None

-- `key K pages P,P,..`
abbrev pub reserved : ℕ × List ℕ → ActReply
reserved n = replies.Reserved n.0 n.1

unfoldable pub reserved_of : List ℕ → List ℕ → List ℕ → Option ActReply
reserved_of key word pages =
    if bytes_eq word (codes "pages") then option_map reserved (both (short key) (numbers_of (2 ^ 32) pages)) else None

-- `key K size W H F B pages P,P,..`
abbrev pub geometry : (ℕ × ℕ) × (ℕ × ℕ) → Geometry
geometry n = record { width = n.0.0; height = n.0.1; format = n.1.0; bytes = n.1.1 }

abbrev pub imported : (ℕ × Geometry) × List ℕ → ActReply
imported n = replies.Imported n.0.0 n.0.1 n.1

unfoldable pub imported_of : (key word width height format bytes more pages : List ℕ) → Option ActReply
imported_of key word width height format bytes more pages =
    if bytes_eq word (codes "size") && bytes_eq more (codes "pages")
    then option_map imported (both (both (short key) (option_map geometry (four width height format bytes))) (numbers_of (2 ^ 32) pages))
    else None

unfoldable pub keyed_of : List (List ℕ) → Option ActReply
keyed_of (key ∷ word ∷ pages ∷ []) = reserved_of key word pages
keyed_of (key ∷ word ∷ width ∷ height ∷ format ∷ bytes ∷ more ∷ pages ∷ []) = imported_of key word width height format bytes more pages
keyed_of words = None

-- A reply by its first word.
unfoldable pub given_by : List ℕ → List (List ℕ) → Option ActReply
given_by word args =
    if bytes_eq word (codes "key") then keyed_of args
    else if bytes_eq word (codes "bytes") then loaded_of args
    else if bytes_eq word (codes "token") then option_map replies.Exported (one_number args)
    else if bytes_eq word (codes "events") then events_of args
    else option_map replies.Refused (refusal_by word args)

unfoldable pub reply_by : List ℕ → List (List ℕ) → Option ActReply
reply_by word args =
    if bytes_eq word (codes "ok") then alone replies.Ok args
    else if bytes_eq word (codes "kept") then alone replies.Kept args
    else if bytes_eq word (codes "last") then alone replies.Last args
    else given_by word args

abbrev pub reply_of : List (List ℕ) → Option ActReply
reply_of [] = None
reply_of (word ∷ args) = reply_by word args
