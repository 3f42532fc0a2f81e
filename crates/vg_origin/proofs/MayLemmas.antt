-- What a client may show: resources whose buffers it has, on scanouts that are leased to it.
use Rattle.std.proofs.Common.{◌≡◌, ◌≢◌, ◌≤◌, ◌<◌, ◌^◌, ℕ, ◌==◌, ◌||◌, ◌&&◌, not, Bool, true, false, List, [], ◌∷◌, ◌++◌, map, take, nat_le, slice_get, zero, suc, Option, Some, None, refl, ap, sym, subst, ◌∙◌, arith, append-nil, append_assoc, ne_eqb}
use Rattle.std.specs.Prelude.{nat_lt, ℤ}
use Rattle.std.specs.List.{list_any}
use Rattle.std.proofs.lemmas.Bool.Decides.{nat_tests}
use Rattle.vg_laws.proofs.Bools.{or-true}
use Rattle.vg_wire.specs.declared.header.Header.{Header}
use Rattle.vg_wire.specs.declared.two_d.Command2d.{Command2d}
use Rattle.vg_wire.specs.declared.two_d.Command2d.TheVariants.{DisplayInfo, Create2d, Unref, SetScanout, Flush, Transfer, Attach, Detach}
use Rattle.vg_wire_ext.specs.declared.command.Command.{Command}
use Rattle.vg_wire_ext.specs.declared.command.Command.TheVariants.{TwoD, CapsetInfo, Capset, Edid, AssignUuid, CreateBlob, SetScanoutBlob, CtxCreate, CtxDestroy, CtxAttach, CtxDetach, Submit, UpdateCursor, MoveCursor}
use Rattle.vg_share.specs.declared.share.Buffer.{Buffer}
use Rattle.vg_share.specs.Lists.{is_number}
use Rattle.vg_share.specs.Share.{ShareState, buffer_at, holds_in, is_given, is_holder, is_leased}
use Rattle.vg_client_holds.specs.declared.act.What.TheVariants.{Page, Resource, Scanout}
use Rattle.vg_client_holds.specs.declared.holds.Holds.{Holds}
use Rattle.vg_client_holds.specs.declared.setup.Setup.{Setup}
use Rattle.vg_client_holds.specs.Holds.{context_in, denied_command, entries_in, first_denied, has_key, has_number, is_allowed_resource, is_allowed_scanout, names_in, pages_in}
use Rattle.vg_machine.specs.Entries.{Entry}
use Rattle.vg_machine.specs.Order.{AreAllowed, IsAllowed, client_of, holds_of}
use Rattle.vg_linked.specs.Linked.{Linked, is_taken_by, one_if, parts_of}
use Rattle.vg_linked.proofs.CountLemmas.{some-counted}
use Rattle.vg_linked.proofs.SoundLemmas.{both-allowed, either-of, one-allowed}
use Rattle.vg_origin.specs.Shown.{IsFair, keeps_buffer}
use Rattle.vg_origin.proofs.BindLemmas.{Binds, Binds2d}

-- ---- who has a part of a buffer keeps it

pub holder-by : (client : ℕ) (holders : List (ℕ × ℕ)) → 1 ≤ holds_in client holders → nat_lt 0 (holds_in client holders) ≡ true
holder-by client holders some = grind (arith, nat_tests, some)

keeps-by : (client : ℕ) (buffer : Buffer) (b : Bool) → is_given client buffer.taker ≡ b → 1 ≤ parts_of client (Some buffer) → (is_holder client buffer || is_given client buffer.taker) ≡ true
keeps-by client buffer true is some = ap (λ b. is_holder client buffer || b) is ∙ or-true (is_holder client buffer)
keeps-by client buffer false is some =
    let none : one_if (is_given client buffer.taker) ≡ 0 = ap {B = ℕ} one_if is in
    ap (λ b. b || is_given client buffer.taker) (holder-by client buffer.holders (omega (arith, some, none)))

keeps-of : (client : ℕ) (found : Option Buffer) → 1 ≤ parts_of client found → keeps_buffer client found ≡ true
keeps-of client (Some buffer) some = keeps-by client buffer (is_given client buffer.taker) refl some
keeps-of client None some = absurd (omega (arith, some))

takes-of : (client : ℕ) (found : Option Buffer) → 1 ≤ one_if (is_taken_by client found) → keeps_buffer client found ≡ true
takes-of client (Some buffer) some = keeps-of client (Some buffer) (omega (arith, some))
takes-of client None some = absurd (omega (arith, some))

one-true : (b : Bool) → 1 ≤ one_if b → b ≡ true
one-true true some = refl
one-true false some = absurd (omega (arith, some))

-- ---- what is allowed

pub record MayShow (holds : Holds) (scanout key : ℕ) : Type 0 where
  pub resource : is_allowed_resource holds false key ≡ true
  pub on : is_allowed_scanout holds scanout ≡ true

pub named : (holds : Holds) (header : Header) (command : Command) → denied_command holds header command ≡ None → first_denied holds command (names_in command) ≡ None
named holds header command may =
    (both-allowed holds command (names_in command) (context_in header command)
    (both-allowed holds command (names_in command ++ context_in header command) (map Page (pages_in holds.pages (entries_in command))) may).0).0

moved : (holds : Holds) (at id scanout key : ℕ) → (at ≡ scanout) × (id ≡ key) → MayShow holds at id → MayShow holds scanout key
moved holds at id scanout key (there, is) may = subst (λ n. MayShow holds n key) there (subst (λ n. MayShow holds at n) is may)

may-bind-2d : (holds : Holds) (scanout key : ℕ) (command : Command2d) → Binds2d scanout key command → first_denied holds (TwoD command) (names_in (TwoD command)) ≡ None → MayShow holds scanout key
may-bind-2d holds scanout key (SetScanout rect at id) binds may =
    let command = TwoD (SetScanout rect at id) in
    let first = one-allowed (is_allowed_resource holds false id) (first_denied holds command (Scanout at ∷ [])) (Resource id) may in
    let second = one-allowed (is_allowed_scanout holds at) None (Scanout at) first.1 in
    moved holds at id scanout key binds (record { resource = first.0; on = second.0 })
may-bind-2d holds scanout key DisplayInfo binds may = absurd binds
may-bind-2d holds scanout key (Create2d id format width height) binds may = absurd binds
may-bind-2d holds scanout key (Unref id) binds may = absurd binds
may-bind-2d holds scanout key (Flush rect id) binds may = absurd binds
may-bind-2d holds scanout key (Transfer rect offset id) binds may = absurd binds
may-bind-2d holds scanout key (Attach id ranges) binds may = absurd binds
may-bind-2d holds scanout key (Detach id) binds may = absurd binds

pub may-bind : (holds : Holds) (scanout key : ℕ) (command : Command) → Binds scanout key command → first_denied holds command (names_in command) ≡ None → MayShow holds scanout key
may-bind holds scanout key (TwoD command) binds may = may-bind-2d holds scanout key command binds may
may-bind holds scanout key (SetScanoutBlob rect at id width height format stride offset) binds may =
    let command = SetScanoutBlob rect at id width height format stride offset in
    let first = one-allowed (is_allowed_resource holds false id) (first_denied holds command (Scanout at ∷ [])) (Resource id) may in
    let second = one-allowed (is_allowed_scanout holds at) None (Scanout at) first.1 in
    moved holds at id scanout key binds (record { resource = first.0; on = second.0 })
may-bind holds scanout key (CapsetInfo index) binds may = absurd binds
may-bind holds scanout key (Capset id version) binds may = absurd binds
may-bind holds scanout key (Edid at) binds may = absurd binds
may-bind holds scanout key (AssignUuid id) binds may = absurd binds
may-bind holds scanout key (CreateBlob id mem flags blob_id size ranges) binds may = absurd binds
may-bind holds scanout key (CtxCreate nlen context_init name) binds may = absurd binds
may-bind holds scanout key CtxDestroy binds may = absurd binds
may-bind holds scanout key (CtxAttach id) binds may = absurd binds
may-bind holds scanout key (CtxDetach id) binds may = absurd binds
may-bind holds scanout key (Submit stream) binds may = absurd binds
may-bind holds scanout key (UpdateCursor at x y id hot_x hot_y) binds may = absurd binds
may-bind holds scanout key (MoveCursor at x y) binds may = absurd binds

-- the same of a cursor that is updated
pub may-point : (holds : Holds) (scanout key hot_x hot_y : ℕ) (x y : ℤ) → first_denied holds (UpdateCursor scanout x y key hot_x hot_y) (Resource key ∷ Scanout scanout ∷ []) ≡ None → MayShow holds scanout key
may-point holds scanout key hot_x hot_y x y may =
    let first = one-allowed (is_allowed_resource holds false key) (first_denied holds (UpdateCursor scanout x y key hot_x hot_y) (Scanout scanout ∷ [])) (Resource key) may in
    let second = one-allowed (is_allowed_scanout holds scanout) None (Scanout scanout) first.1 in
    record { resource = first.0; on = second.0 }

one-of : (a b c d : Bool) → (a || (b && not false) || c || d) ≡ true → a ≡ false → b ≡ false → (c || d) ≡ true
one-of true b c d is isnt low = cc
one-of false true c d is isnt low = cc
one-of false false c d is isnt low = is

second-of : (a b : Bool) → (a || b) ≡ true → a ≡ false → b ≡ true
second-of true b is isnt = cc
second-of false b is isnt = is

-- what a client may show it has
pub fair : (client scanout key displays : ℕ) (holds : Holds) (share : ShareState) → Linked client holds share → holds.displays ≡ displays → scanout < displays → key ≢ 0 → key < 2 ^ 31
    → MayShow holds scanout key → IsFair share scanout key
fair client scanout key displays holds share linked many within some low may =
    let isnt : (key == 0) ≡ false = ne_eqb key 0 some in
    let small : nat_le (2 ^ 31) key ≡ false = grind (arith, nat_tests, low) in
    let there : nat_le holds.displays scanout ≡ false = grind (arith, nat_tests, within, many) in
    record {
      client = client;
      leased = one-true (is_leased client scanout share)
          (subst (λ n. 1 ≤ n) (linked.scanouts scanout)
          (some-counted (is_number scanout) holds.scanouts (second-of (nat_le holds.displays scanout) (has_number scanout holds.scanouts) may.on there)));
      keeps = either-of (list_any (has_key key) holds.buffers) (has_number key holds.taking_down)
          (one-of (key == 0) (nat_le (2 ^ 31) key) (list_any (has_key key) holds.buffers) (has_number key holds.taking_down) may.resource isnt small)
          (λ has. keeps-of client (buffer_at key share) (subst (λ n. 1 ≤ n) (linked.buffers key) (some-counted (has_key key) holds.buffers has)))
          (λ has. takes-of client (buffer_at key share) (subst (λ n. 1 ≤ n) (linked.taking_down key) (some-counted (is_number key) holds.taking_down has)));
    }

-- ---- an entry at its place is allowed

pub allowed-at : (setup : Setup) (before more : List Entry) (i : ℕ) (entry : Entry) → slice_get more i ≡ Some entry → AreAllowed setup before more
    → IsAllowed (holds_of setup (client_of entry) (before ++ take i more)) entry
allowed-at setup before [] i entry is may = cc
allowed-at setup before (x ∷ more) zero entry is may =
    let same : x ≡ entry = cc in
    subst (λ (e : Entry). IsAllowed (holds_of setup (client_of e) (before ++ [])) e) same
    (subst (λ (es : List Entry). IsAllowed (holds_of setup (client_of x) es) x) (sym (append-nil before)) may.0)
allowed-at setup before (x ∷ more) (suc i) entry is may =
    subst (λ (es : List Entry). IsAllowed (holds_of setup (client_of entry) es) entry) (append_assoc before (x ∷ []) (take i more)) (allowed-at setup (before ++ x ∷ []) more i entry is may.1)
