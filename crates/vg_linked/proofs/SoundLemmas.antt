-- What is made and given lies in buffers, at each moment of a sound history.
use Rattle.std.proofs.Common.{◌≡◌, ◌≤◌, ◌^◌, ℕ, ◌==◌, ◌||◌, ◌&&◌, not, Bool, true, false, cond, List, [], ◌∷◌, ◌++◌, map, take, drop, Option, Some, None, refl, ap, sym, subst, ◌∙◌, arith, append-nil, append_assoc, take-append-drop}
use Rattle.std.specs.Prelude.{is_some, nat_le}
use Rattle.std.specs.List.{All, AllByRecursion, list_any}
use Rattle.std.proofs.lemmas.Bool.Decides.{nat_tests}
use Rattle.std.proofs.lemmas.List.Elements.{All-head, All-tail}
use Rattle.vg_laws.proofs.Numbers.{same-number}
use Rattle.vg_laws.proofs.Bools.{and-both}
use Rattle.vg_pages.specs.Memory.{is_among}
use Rattle.vg_refusals.specs.Refusals.{refusal_of}
use Rattle.vg_wire.specs.Header.{header_of}
use Rattle.vg_wire.specs.declared.header.Header.{Header}
use Rattle.vg_wire.specs.declared.two_d.Command2d.{Command2d}
use Rattle.vg_wire.specs.declared.two_d.Command2d.TheVariants.{DisplayInfo, Create2d, Unref, SetScanout, Flush, Transfer, Attach, Detach}
use Rattle.vg_wire_ext.specs.Commands.{command_of}
use Rattle.vg_wire_ext.specs.declared.command.Command.{Command}
use Rattle.vg_wire_ext.specs.declared.command.Command.TheVariants.{TwoD, CapsetInfo, Capset, Edid, AssignUuid, CreateBlob, SetScanoutBlob, CtxCreate, CtxDestroy, CtxAttach, CtxDetach, Submit, UpdateCursor, MoveCursor}
use Rattle.vg_share.specs.declared.share.Buffer.{Buffer}
use Rattle.vg_share.specs.Lists.{is_number}
use Rattle.vg_share.specs.Share.{ShareState, buffer_at, pages_at}
use Rattle.vg_client_holds.specs.declared.act.What.{What}
use Rattle.vg_client_holds.specs.declared.act.What.TheVariants.{Page, Resource}
use Rattle.vg_client_holds.specs.declared.holds.Holds.{Holds}
use Rattle.vg_client_holds.specs.declared.setup.Setup.{Setup}
use Rattle.vg_client_holds.specs.Holds.{Allowed, context_in, denied_command, denied_request, entries_in, first_denied, has_key, has_number, has_page, is_allowed, is_allowed_page, is_allowed_resource, key_of, names_in, pages_in}
use Rattle.vg_history.specs.declared.entry.Entry.TheVariants as entries
use Rattle.vg_history.proofs.HistoryLemmas.{agrees_beginning}
use Rattle.vg_device.specs.State.{State, counted, start}
use Rattle.vg_device.specs.Step.{request_refusals}
use Rattle.vg_device.specs.declared.request.Request.{Request}
use Rattle.vg_machine.proofs.LeaveLemmas.{read-of}
use Rattle.vg_machine.specs.Entries.{Entry}
use Rattle.vg_machine.specs.Order.{AreAllowed, IsAllowed, Sound, client_of, holds_of}
use Rattle.vg_machine.specs.Replay.{Agrees, after, display, replay}
use Rattle.vg_machine.proofs.ReplayLemmas.{replay-more}
use Rattle.vg_linked.specs.Consistent.{AreInPages, AreOfBuffers}
use Rattle.vg_linked.specs.Linked.{Linked, is_taken_by, one_if, parts_of}
use Rattle.vg_linked.proofs.BufferLemmas.{HasBuffer, InBuffer, IsBuffered, IsOfAct, buffered, buffered_commands, of-buffered, of_acts}
use Rattle.vg_linked.proofs.CountLemmas.{some-counted}
use Rattle.vg_linked.proofs.HoldsLemmas.{holds-of}
use Rattle.vg_linked.proofs.IdLemmas.{ids-stand}
use Rattle.vg_linked.proofs.LinkHistory.{linked-whole, stands}
use Rattle.vg_linked.proofs.MoveLemmas.{Anything, Anywhere, Made, Made2d, MadeIf, commands_leave, effect-kept, made_if, request-kept}
use Rattle.vg_linked.proofs.SizeLemmas.{as-many}

-- ---- what an allowed command names

pub one-allowed : (b : Bool) (rest : Option What) (what : What) → cond b rest (Some what) ≡ None → (b ≡ true) × (rest ≡ None)
one-allowed true rest what is = (refl, is)
one-allowed false rest what is = cc

pub both-allowed : (holds : Holds) (command : Command) (xs ys : List What) → first_denied holds command (xs ++ ys) ≡ None → (first_denied holds command xs ≡ None) × (first_denied holds command ys ≡ None)
both-allowed holds command [] ys is = (refl, is)
both-allowed holds command (x ∷ xs) ys is =
    let here = one-allowed (is_allowed holds command x) (first_denied holds command (xs ++ ys)) x is in
    let rest = both-allowed holds command xs ys here.1 in
    (ap (λ b. cond b (first_denied holds command xs) (Some x)) here.0 ∙ rest.0, rest.1)

-- a number that one has something of is a buffer's
found-by : (client : ℕ) (found : Option Buffer) → 1 ≤ parts_of client found → is_some found ≡ true
found-by client (Some buffer) some = refl
found-by client None some = absurd (omega (arith, some))

taken-found : (client : ℕ) (found : Option Buffer) → 1 ≤ one_if (is_taken_by client found) → is_some found ≡ true
taken-found client (Some buffer) some = refl
taken-found client None some = absurd (omega (arith, some))

one-of : (a b c d : Bool) → (a || (b && not true) || c || d) ≡ true → a ≡ false → (c || d) ≡ true
one-of true b c d is isnt = cc
one-of false true c d is isnt = is
one-of false false c d is isnt = is

pub either-of : {P : Type 0} (a b : Bool) → (a || b) ≡ true → (a ≡ true → P) → (b ≡ true → P) → P
either-of true b is first second = first refl
either-of false b is first second = second is

has-buffer : (client : ℕ) (holds : Holds) (share : ShareState) (id : ℕ) → Linked client holds share → is_allowed_resource holds true id ≡ true → HasBuffer share id
has-buffer client holds share id linked may some =
    let isnt : (id == 0) ≡ false = grind (arith, nat_tests, some) in
    either-of (list_any (has_key id) holds.buffers) (has_number id holds.taking_down)
    (one-of (id == 0) (nat_le (2 ^ 31) id) (list_any (has_key id) holds.buffers) (has_number id holds.taking_down) may isnt)
    (λ has. found-by client (buffer_at id share) (subst (λ n. 1 ≤ n) (linked.buffers id) (some-counted (has_key id) holds.buffers has)))
    (λ has. taken-found client (buffer_at id share) (subst (λ n. 1 ≤ n) (linked.taking_down id) (some-counted (is_number id) holds.taking_down has)))

-- one of a list passes
any-gives : {X : Type 0} {Q : Type 0} (P : X → Type 0) (test : X → Bool) (xs : List X) → All P xs → list_any test xs ≡ true → ((x : X) → test x ≡ true → P x → Q) → Q
any-gives P test [] all any gives = cc
any-gives P test (x ∷ xs) all any gives =
    either-of (test x) (list_any test xs) any (λ is. gives x is (All-head P x xs all)) (λ more. any-gives P test xs (All-tail P x xs all) more gives)

page-in : (client : ℕ) (holds : Holds) (share : ShareState) (key page : ℕ) → Linked client holds share → is_allowed_page holds key page ≡ true → is_among (pages_at key share) page ≡ true
page-in client holds share key page linked may =
    any-gives (λ (pair : ℕ × List ℕ). pair.1 ≡ pages_at pair.0 share) (has_page key page) holds.buffers linked.pages may (λ pair is pages.
    let both = and-both (pair.0 == key) (is_among pair.1 page) is in
    subst (λ n. is_among (pages_at n share) page ≡ true) (same-number pair.0 key both.0) (subst (λ list. is_among list page ≡ true) pages both.1))

pages-allowed : (client : ℕ) (holds : Holds) (share : ShareState) (command : Command) (pages : List ℕ) → Linked client holds share → first_denied holds command (map Page pages) ≡ None
    → AllByRecursion (λ page. is_among (pages_at (key_of command) share) page ≡ true) pages
pages-allowed client holds share command [] linked may = tt
pages-allowed client holds share command (page ∷ more) linked may =
    let here = one-allowed (is_allowed_page holds (key_of command) page) (first_denied holds command (map Page more)) (Page page) may in
    (page-in client holds share (key_of command) page linked here.0, pages-allowed client holds share command more linked here.1)

-- ---- what an allowed command makes and gives

module _ (client count : ℕ) (holds : Holds) (share : ShareState) (linked : Linked client holds share) (many : holds.pages ≡ count) where
  gives : (header : Header) (command : Command) → denied_command holds header command ≡ None → AreInPages count (entries_in command) (pages_at (key_of command) share)
  gives header command may =
      let all = pages-allowed client holds share command (pages_in holds.pages (entries_in command)) linked
      (both-allowed holds command (names_in command ++ context_in header command) (map Page (pages_in holds.pages (entries_in command))) may).1
      in
      subst (λ n. AreInPages n (entries_in command) (pages_at (key_of command) share)) many all

  named : (header : Header) (command : Command) → denied_command holds header command ≡ None → first_denied holds command (names_in command) ≡ None
  named header command may =
      (both-allowed holds command (names_in command) (context_in header command)
      (both-allowed holds command (names_in command ++ context_in header command) (map Page (pages_in holds.pages (entries_in command))) may).0).0

  made_2d : (header : Header) (command : Command2d) → denied_command holds header (TwoD command) ≡ None → Made2d (HasBuffer share) (InBuffer share count) command
  made_2d header DisplayInfo may = tt
  made_2d header (Create2d id format width height) may =
      has-buffer client holds share id linked (one-allowed (is_allowed_resource holds true id) None (Resource id) (named header (TwoD (Create2d id format width height)) may)).0
  made_2d header (Unref id) may = tt
  made_2d header (SetScanout rect scanout id) may = tt
  made_2d header (Flush rect id) may = tt
  made_2d header (Transfer rect offset id) may = tt
  made_2d header (Attach id ranges) may = gives header (TwoD (Attach id ranges)) may
  made_2d header (Detach id) may = tt

  made : (header : Header) (command : Command) → denied_command holds header command ≡ None → Made (HasBuffer share) (InBuffer share count) command
  made header (TwoD command) may = made_2d header command may
  made header (CapsetInfo index) may = tt
  made header (Capset id version) may = tt
  made header (Edid scanout) may = tt
  made header (AssignUuid id) may = tt
  made header (CreateBlob id mem flags blob_id size ranges) may = (
    has-buffer client holds share id linked
        (one-allowed (is_allowed_resource holds true id) None (Resource id) (named header (CreateBlob id mem flags blob_id size ranges) may)).0,
    gives header (CreateBlob id mem flags blob_id size ranges) may,
  )
  made header (SetScanoutBlob rect scanout id width height format stride offset) may = tt
  made header (CtxCreate nlen context_init name) may = tt
  made header CtxDestroy may = tt
  made header (CtxAttach id) may = tt
  made header (CtxDetach id) may = tt
  made header (Submit stream) may = tt
  made header (UpdateCursor scanout x y id hot_x hot_y) may = tt
  made header (MoveCursor scanout x y) may = tt

  may-make : (s : State) (request : Request) → Allowed holds request.queue request.bytes → refusal_of (request_refusals s request.queue request.bytes) ≡ None
      → MadeIf (HasBuffer share) (InBuffer share count) (command_of (header_of request.bytes).kind (drop 24 request.bytes))
  may-make s request may none = by (command_of (header_of request.bytes).kind (drop 24 request.bytes)) refl
    where
      by : (found : Option Command) → command_of (header_of request.bytes).kind (drop 24 request.bytes) ≡ found → MadeIf (HasBuffer share) (InBuffer share count) found
      by None is = tt
      by (Some command) is =
          let read = read-of s request.queue request.bytes command none is in
          made (header_of request.bytes) command (sym (ap (denied_request holds) read) ∙ may)

-- ---- an entry, and a history

counted-of : (s : State) → AreOfBuffers s → AreOfBuffers (counted s)
counted-of s was = record { live = was.live; backings = was.backings; blobs = was.blobs }

after-of : (setup : Setup) (before : List Entry) (entry : Entry) → Agrees setup before → IsAllowed (holds_of setup (client_of entry) before) entry → AreOfBuffers (replay setup before)
    → AreOfBuffers (after (replay setup before) entry)
after-of setup before (entries.Act client call act reply) agrees may was =
    let s = replay setup before in
    (effect-kept IsOfAct IsOfAct of_acts (counted s) client act (record { ids = ids-stand setup before; share = stands setup before; of = counted-of s was })).of
after-of setup before (entries.Command client call request reply) agrees may was =
    let s = replay setup before in
    let entry : Entry = entries.Command client call request reply in
    let share = s.share in
    let count = s.setup.pages in
    let holds = holds_of setup client before in
    let many : holds.pages ≡ count = (holds-of setup before client).2 ∙ ap (λ (now : Setup). now.pages) (sym (as-many setup before).setup_is) in
    let same = request-kept (λ (state : State). state.share ≡ share) (λ (state : State). state.share ≡ share) Anything Anywhere (commands_leave (λ memory now plugs. now ≡ share)) s request
    (λ none. made_if (command_of (header_of request.bytes).kind (drop 24 request.bytes))) refl
    in
    let large : (after s entry).setup.pages ≡ count =
    ap (λ (state : State). state.setup.pages) (sym (replay-more setup before entry))
    ∙ ap (λ (now : Setup). now.pages) ((as-many setup (before ++ entry ∷ [])).setup_is ∙ sym (as-many setup before).setup_is)
    in
    of-buffered share count (after s entry) same large
    (request-kept (IsBuffered share count) (IsBuffered share count) (HasBuffer share) (InBuffer share count) (buffered_commands share count) s request
    (may-make client count holds share (linked-whole setup before client agrees) many (counted s) request may.0)
    (buffered (counted s) (ids-stand setup before) (counted-of s was)))

of-from : (setup : Setup) (before more : List Entry) → Agrees setup (before ++ more) → AreAllowed setup before more → AreOfBuffers (replay setup before) → AreOfBuffers (replay setup (before ++ more))
of-from setup before [] agrees may was = subst (λ es. AreOfBuffers (replay setup es)) (sym (append-nil before)) was
of-from setup before (entry ∷ more) agrees may was =
    let regroup : (before ++ entry ∷ []) ++ more ≡ before ++ (entry ∷ more) = append_assoc before (entry ∷ []) more in
    let next = subst AreOfBuffers (sym (replay-more setup before entry))
    (after-of setup before entry (agrees_beginning display (start setup) before (entry ∷ more) agrees) may.0 was)
    in
    subst (λ es. AreOfBuffers (replay setup es)) regroup
    (of-from setup (before ++ entry ∷ []) more (subst (λ es. Agrees setup es) (sym regroup) agrees) may.1 next)

pub allowed-front : (setup : Setup) (before xs ys : List Entry) → AreAllowed setup before (xs ++ ys) → AreAllowed setup before xs
allowed-front setup before [] ys may = tt
allowed-front setup before (x ∷ xs) ys may = (may.0, allowed-front setup (before ++ x ∷ []) xs ys may.1)

of-start : (setup : Setup) → AreOfBuffers (start setup)
of-start setup = record { live = λ id there. cc; backings = λ id ranges is. cc; blobs = λ id blob is. cc }

pub of-buffers : (setup : Setup) (H : List Entry) (i : ℕ) → Sound setup H → AreOfBuffers (replay setup (take i H))
of-buffers setup H i sound =
    let whole : take i H ++ drop i H ≡ H = take-append-drop i H in
    let agrees : Agrees setup (take i H) = agrees_beginning display (start setup) (take i H) (drop i H) (subst (λ es. Agrees setup es) (sym whole) sound.agrees) in
    of-from setup [] (take i H) agrees (allowed-front setup [] (take i H) (drop i H) (subst (λ es. AreAllowed setup [] es) (sym whole) sound.allowed)) (of-start setup)
