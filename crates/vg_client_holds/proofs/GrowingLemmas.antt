-- What a client holds only grows until it gives something up.
use Rattle.std.proofs.Common.{◌≡◌, ℕ, ◌==◌, ◌^◌, Bool, true, false, List, [], ◌∷◌, ◌++◌, refl, sym, ap, ◌∙◌, Some, None, Ok, Err}
use Rattle.std.specs.Prelude.{◌||◌, ◌&&◌, not, is_none, nat_le, if◌then◌else◌, Option, Result}
use Rattle.std.proofs.lemmas.List.Folds.{list_any-append}
use Rattle.std.specs.List.{list_any}
use Rattle.vg_laws.proofs.Bools.{and-both, left-true, clash}
use Rattle.vg_wire.specs.declared.header.Header.{Header}
use Rattle.vg_wire_ext.specs.declared.command.Command.{Command}
use Rattle.vg_wire.specs.declared.request.Malformed.{Malformed}
use Rattle.vg_wire.specs.declared.request.Queue.{Queue}
use Rattle.vg_wire_ext.specs.Request.{request_of}
use Rattle.vg_client_holds.specs.declared.act.Act.{Act}
use Rattle.vg_client_holds.specs.declared.act.Act.TheVariants.{Enter, Reserve, Store, Load, Export, Import, Release, Free, Take, Drop, Await, Denied, Mode, Unplug, Sync, Events, Ack, Leave}
use Rattle.vg_client_holds.specs.declared.act.ActReply.{ActReply}
use Rattle.vg_client_holds.specs.declared.act.ActReply.TheVariants as replies
use Rattle.vg_client_holds.specs.declared.act.What.{What}
use Rattle.vg_client_holds.specs.declared.act.What.TheVariants.{Name, Resource, Scanout, Context, Page}
use Rattle.vg_client_holds.specs.declared.holds.Holds.{Holds}
use Rattle.vg_share.specs.Lists.{is_number}
use Rattle.vg_client_holds.specs.Holds.{Allowed, denied_of, denied_request, first_denied, gives_up, has_key, has_number, has_page, is_allowed, is_creating, key_of, names_of, update}

or_more : (a b c d : Bool) → (b ≡ true → c ≡ true) → ((a || b) || d) ≡ true → ((a || c) || d) ≡ true
or_more true b c d f h = refl
or_more false true true d f h = refl
or_more false true false d f h = absurd (clash (f refl))
or_more false false true d f h = refl
or_more false false false d f h = h

or_right : (a b c : Bool) → (b ≡ true → c ≡ true) → (a || b) ≡ true → (a || c) ≡ true
or_right true b c f h = refl
or_right false b c f h = f h

any_more : {X : Type 0} (p : X → Bool) (xs ys : List X) → list_any p xs ≡ true → list_any p (xs ++ ys) ≡ true
any_more p xs ys h = list_any-append p xs ys ∙ left-true (list_any p xs) (list_any p ys) h

-- What may be named still may.
abbrev IsMore : Holds → Holds → Type 0
IsMore h k = (k.pages ≡ h.pages) × ((command : Command) (what : What) → is_allowed h command what ≡ true → is_allowed k command what ≡ true)

allowed_first : (b : Bool) (what : What) (rest : Option What) → (if b then rest else Some what) ≡ None → (b ≡ true) × (rest ≡ None)
allowed_first true what rest e = (refl, e)
allowed_first false what rest e = absurd (cc e)

denies_none : (b : Bool) (what : What) (rest : Option What) → b ≡ true → rest ≡ None → (if b then rest else Some what) ≡ None
denies_none true what rest e r = r
denies_none false what rest e r = absurd (clash e)

none_denied : (h k : Holds) → IsMore h k → (command : Command) (whats : List What) → first_denied h command whats ≡ None → first_denied k command whats ≡ None
none_denied h k more command [] e = refl
none_denied h k more command (what ∷ whats) e =
    let a = allowed_first (is_allowed h command what) what (first_denied h command whats) e in
    denies_none (is_allowed k command what) what (first_denied k command whats) (more.1 command what a.0) (none_denied h k more command whats a.1)

still_none : (h k : Holds) → IsMore h k → (read : Result (Header × Command) Malformed) → denied_request h read ≡ None → denied_request k read ≡ None
still_none h k more (Ok (header, command)) e =
    none_denied h k more command (names_of k.pages header command) (ap (λ count. first_denied h command (names_of count header command)) more.0 ∙ e)
still_none h k more (Err malformed) e = refl

more_itself : (h : Holds) → IsMore h h
more_itself h = (refl, λ command what a. a)

buffers_allow : (h : Holds) (pair : ℕ × List ℕ) (command : Command) (what : What) → is_allowed h command what ≡ true → is_allowed (record h { buffers = h.buffers ++ pair ∷ [] }) command what ≡ true
buffers_allow h pair command Name a = refl
buffers_allow h pair command (Resource n) a =
    or_more (n == 0 || (nat_le (2 ^ 31) n && not (is_creating command))) (list_any (has_key n) h.buffers) _ (has_number n h.taking_down) (any_more (has_key n) h.buffers (pair ∷ [])) a
buffers_allow h pair command (Scanout n) a = a
buffers_allow h pair command (Context n) a = a
buffers_allow h pair command (Page n) a = any_more (has_page (key_of command) n) h.buffers (pair ∷ []) a

more_buffers : (h : Holds) (pair : ℕ × List ℕ) → IsMore h (record h { buffers = h.buffers ++ pair ∷ [] })
more_buffers h pair = (refl, buffers_allow h pair)

scanouts_allow : (h : Holds) (scanout : ℕ) (command : Command) (what : What) → is_allowed h command what ≡ true → is_allowed (record h { scanouts = h.scanouts ++ scanout ∷ [] }) command what ≡ true
scanouts_allow h scanout command Name a = refl
scanouts_allow h scanout command (Resource n) a = a
scanouts_allow h scanout command (Scanout n) a = or_right (nat_le h.displays n) (has_number n h.scanouts) _ (any_more (is_number n) h.scanouts (scanout ∷ [])) a
scanouts_allow h scanout command (Context n) a = a
scanouts_allow h scanout command (Page n) a = a

more_scanouts : (h : Holds) (scanout : ℕ) → IsMore h (record h { scanouts = h.scanouts ++ scanout ∷ [] })
more_scanouts h scanout = (refl, scanouts_allow h scanout)

grows : (h : Holds) (act : Act) (reply : ActReply) → gives_up act ≡ false → IsMore h (update h act reply)
grows h Enter reply e = more_itself h
grows h (Reserve width height format bytes) (replies.Reserved key pages) e = more_buffers h (key, pages)
grows h (Reserve width height format bytes) replies.Ok e = more_itself h
grows h (Reserve width height format bytes) (replies.Exported token) e = more_itself h
grows h (Reserve width height format bytes) (replies.Imported key geometry pages) e = more_itself h
grows h (Reserve width height format bytes) (replies.Bytes bs) e = more_itself h
grows h (Reserve width height format bytes) replies.Kept e = more_itself h
grows h (Reserve width height format bytes) (replies.Events set) e = more_itself h
grows h (Reserve width height format bytes) replies.Last e = more_itself h
grows h (Reserve width height format bytes) (replies.Refused refusal) e = more_itself h
grows h (Store key offset bytes times) reply e = more_itself h
grows h (Load key offset n) reply e = more_itself h
grows h (Export key) reply e = more_itself h
grows h (Import token) (replies.Imported key geometry pages) e = more_buffers h (key, pages)
grows h (Import token) replies.Ok e = more_itself h
grows h (Import token) (replies.Reserved key pages) e = more_itself h
grows h (Import token) (replies.Exported given) e = more_itself h
grows h (Import token) (replies.Bytes bs) e = more_itself h
grows h (Import token) replies.Kept e = more_itself h
grows h (Import token) (replies.Events set) e = more_itself h
grows h (Import token) replies.Last e = more_itself h
grows h (Import token) (replies.Refused refusal) e = more_itself h
grows h (Release key) reply e = absurd (clash (sym e))
grows h (Free key) reply e = absurd (clash (sym e))
grows h (Take scanout) replies.Ok e = more_scanouts h scanout
grows h (Take scanout) (replies.Reserved key pages) e = more_itself h
grows h (Take scanout) (replies.Exported token) e = more_itself h
grows h (Take scanout) (replies.Imported key geometry pages) e = more_itself h
grows h (Take scanout) (replies.Bytes bs) e = more_itself h
grows h (Take scanout) replies.Kept e = more_itself h
grows h (Take scanout) (replies.Events set) e = more_itself h
grows h (Take scanout) replies.Last e = more_itself h
grows h (Take scanout) (replies.Refused refusal) e = more_itself h
grows h (Drop scanout) reply e = absurd (clash (sym e))
grows h (Await lane ordinal) reply e = more_itself h
grows h (Denied what) reply e = more_itself h
grows h (Mode scanout width height) reply e = more_itself h
grows h (Unplug scanout) reply e = more_itself h
grows h (Sync call) reply e = more_itself h
grows h Events reply e = more_itself h
grows h Ack reply e = more_itself h
grows h Leave reply e = absurd (clash (sym e))

pub still_allowed : (h : Holds) (act : Act) (reply : ActReply) (queue : Queue) (bytes : List ℕ) → gives_up act ≡ false → Allowed h queue bytes → Allowed (update h act reply) queue bytes
still_allowed h act reply queue bytes e may = still_none h (update h act reply) (grows h act reply e) (request_of queue bytes) may

none-by : (denied : Option What) → is_none denied ≡ true → denied ≡ None
none-by (Some what) e = absurd (cc e)
none-by None e = refl

by-none : (denied : Option What) → denied ≡ None → is_none denied ≡ true
by-none (Some what) e = absurd (cc e)
by-none None e = refl

-- who the client is stays
update-host : (h : Holds) (act : Act) (reply : ActReply) → (update h act reply).host ≡ h.host
update-host h (Reserve width height format bytes) (replies.Reserved key pages) = refl
update-host h (Import token) (replies.Imported key geometry pages) = refl
update-host h (Release key) replies.Kept = refl
update-host h (Release key) replies.Last = refl
update-host h (Free key) replies.Ok = refl
update-host h (Take scanout) replies.Ok = refl
update-host h (Drop scanout) replies.Ok = refl
update-host h act reply = refl

pub host-stays : (h : Holds) (act : Act) (reply : ActReply) → (update h act reply).host ≡ h.host
host-stays h act reply = update-host h act reply

both-true : (a b : Bool) → a ≡ true → b ≡ true → (a && b) ≡ true
both-true true b is also = also
both-true false b is also = absurd (cc is)

-- the same as a test, which the machine's law has
pub keeps-allowed : (holds : Holds) (act : Act) (reply : ActReply) (queue : Queue) (bytes : List ℕ) → gives_up act ≡ false
    → (not holds.host && is_none (denied_of holds queue bytes)) ≡ true → (not (update holds act reply).host && is_none (denied_of (update holds act reply) queue bytes)) ≡ true
keeps-allowed holds act reply queue bytes stays may =
    let was = and-both (not holds.host) (is_none (denied_of holds queue bytes)) may in
    both-true _ _ (ap not (host-stays holds act reply) ∙ was.0) (by-none _ (still_allowed holds act reply queue bytes stays (none-by _ was.1)))
