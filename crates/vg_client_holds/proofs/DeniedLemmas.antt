-- What a request is denied is the first of what it names, part by part, and is something that may be denied.
use Rattle.std.proofs.Common.{◌≡◌, ◌<◌, ◌≤◌, ◌+◌, ◌-◌, ◌*◌, ◌==◌, ◌^◌, ◌||◌, ◌&&◌, ℕ, zero, suc, Bool, true, false, cond, not, List, [], ◌∷◌, ◌++◌, map, Option, Some, None, Result, Ok, Err, refl, sym, ap, ◌∙◌, subst, arith}
use Rattle.std.specs.Prelude.{IfOk, IfSome, nat_le, option_map, bit_and}
use Rattle.std.specs.List.{list_any, range_with_len, AllByRecursion}
use Rattle.std.proofs.lemmas.Bool.Decides.{nat_tests}
use Rattle.vg_laws.proofs.Bools.{or-false}
use Rattle.vg_formats.specs.declared.entry.MemEntry.{MemEntry}
use Rattle.vg_wire.specs.declared.header.Header.{Header}
use Rattle.vg_wire.specs.declared.two_d.Command2d.{Command2d}
use Rattle.vg_wire.specs.declared.two_d.Command2d.TheVariants.{DisplayInfo, Create2d, Unref, SetScanout, Flush, Transfer, Attach, Detach}
use Rattle.vg_wire_ext.specs.declared.command.Command.{Command}
use Rattle.vg_wire_ext.specs.declared.command.Command.TheVariants.{TwoD, CapsetInfo, Capset, Edid, AssignUuid, CreateBlob, SetScanoutBlob, CtxCreate, CtxDestroy, CtxAttach, CtxDetach, Submit, UpdateCursor, MoveCursor}
use Rattle.vg_client_holds.specs.declared.act.What.{What}
use Rattle.vg_client_holds.specs.declared.act.What.TheVariants.{Name, Resource, Scanout, Context, Page}
use Rattle.vg_client_holds.specs.declared.holds.Holds.{Holds}
use Rattle.vg_client_holds.specs.ForeignWithin.{foreign_page}
use Rattle.vg_client_holds.specs.Holds.{Deniable, context_in, denied_command, entries_in, first_denied, has_key, has_number, is_allowed, is_allowed_page, is_creating, is_in_memory, is_of_context, is_own_context, key_of, names_in, names_of, names_of_2d, page_of, pages_from_to, pages_in, pages_in_entry}

-- what is denied of one part, and else of the rest
or_denied : Option What → Option What → Option What
or_denied (Some what) rest = Some what
or_denied None rest = rest

denied-append-by : (b : Bool) (what : What) (one all rest : Option What) → all ≡ or_denied one rest → cond b all (Some what) ≡ or_denied (cond b one (Some what)) rest
unfolding or_denied
denied-append-by true what one all rest e = e
denied-append-by false what one all rest e = refl

denied-append : (holds : Holds) (command : Command) (xs ys : List What) → first_denied holds command (xs ++ ys) ≡ or_denied (first_denied holds command xs) (first_denied holds command ys)
unfolding or_denied
denied-append holds command [] ys = refl
denied-append holds command (what ∷ xs) ys =
    denied-append-by (is_allowed holds command what) what (first_denied holds command xs) _ (first_denied holds command ys) (denied-append holds command xs ys)

denied-parts : (holds : Holds) (header : Header) (command : Command) → denied_command holds header command
    ≡ or_denied (or_denied (first_denied holds command (names_in command)) (first_denied holds command (context_in header command)))
    (first_denied holds command (map Page (pages_in holds.pages (entries_in command))))
denied-parts holds header command =
    let pages = map Page (pages_in holds.pages (entries_in command)) in
    denied-append holds command (names_in command ++ context_in header command) pages
    ∙ ap (λ one. or_denied one (first_denied holds command pages)) (denied-append holds command (names_in command) (context_in header command))

-- the first part names something that isn't allowed
pub denied-first : (holds : Holds) (header : Header) (command : Command) (what : What) → Some what ≡ first_denied holds command (names_in command) → Some what ≡ denied_command holds header command
unfolding or_denied
denied-first holds header command what e =
    let rest = first_denied holds command (context_in header command) in
    let pages = first_denied holds command (map Page (pages_in holds.pages (entries_in command))) in
    ap (λ one. or_denied (or_denied one rest) pages) e ∙ sym (denied-parts holds header command)

-- the second does
pub denied-second : (holds : Holds) (header : Header) (command : Command) (what : What) → None ≡ first_denied holds command (names_in command)
    → Some what ≡ first_denied holds command (context_in header command) → Some what ≡ denied_command holds header command
unfolding or_denied
denied-second holds header command what none e =
    let rest = first_denied holds command (context_in header command) in
    let pages = first_denied holds command (map Page (pages_in holds.pages (entries_in command))) in
    ap (λ one. or_denied one pages) e ∙ ap (λ one. or_denied (or_denied one rest) pages) none ∙ sym (denied-parts holds header command)

-- of pages it is the first that isn't one of the key's buffer
foreign-by : (b : Bool) (page : ℕ) (more : Option What) (rest : Option ℕ) → more ≡ option_map Page rest → cond b more (Some (Page page)) ≡ option_map Page (cond (not b) (Some page) rest)
foreign-by true page more rest e = e
foreign-by false page more rest e = refl

pub denied-pages : (holds : Holds) (command : Command) (pages : List ℕ) → first_denied holds command (map Page pages) ≡ foreign_page holds (key_of command) pages
denied-pages holds command [] = refl
denied-pages holds command (page ∷ more) = foreign-by (is_allowed_page holds (key_of command) page) page _ _ (denied-pages holds command more)

pub page-denied : {E : Type 0} (result : Result (Option What) E) (holds : Holds) (command : Command) (key : ℕ) (entries : List MemEntry) → key_of command ≡ key → entries_in command ≡ entries
    → IfOk result (λ what. what ≡ foreign_page holds key (pages_in holds.pages entries))
    → IfOk result (λ what. what ≡ first_denied holds command (map Page (pages_in holds.pages (entries_in command))))
page-denied (Ok what) holds command key entries one same e =
    e
    ∙ ap (λ n. foreign_page holds n (pages_in holds.pages entries)) (sym one)
    ∙ ap (λ es. foreign_page holds (key_of command) (pages_in holds.pages es)) (sym same)
    ∙ sym (denied-pages holds command (pages_in holds.pages (entries_in command)))
page-denied (Err error) holds command key entries one same e = tt

-- a page is named only where there is one
abbrev IsThere : Holds → What → Type 0
IsThere holds (Page n) = n < holds.pages
IsThere holds what = Unit {0}

abbrev AreThere : Holds → List What → Type 0
AreThere holds [] = Unit {0}
AreThere holds (what ∷ more) = IsThere holds what × AreThere holds more

there-append : (holds : Holds) (xs ys : List What) → AreThere holds xs → AreThere holds ys → AreThere holds (xs ++ ys)
there-append holds [] ys there more = more
there-append holds (what ∷ xs) ys there more = (there.0, there-append holds xs ys there.1 more)

there-2d : (holds : Holds) (command : Command2d) → AreThere holds (names_of_2d command)
there-2d holds DisplayInfo = tt
there-2d holds (Create2d resource format width height) = (tt, tt)
there-2d holds (Unref resource) = (tt, tt)
there-2d holds (SetScanout rect scanout resource) = (tt, (tt, tt))
there-2d holds (Flush rect resource) = (tt, tt)
there-2d holds (Transfer rect offset resource) = (tt, tt)
there-2d holds (Attach resource entries) = (tt, tt)
there-2d holds (Detach resource) = (tt, tt)

there-in : (holds : Holds) (command : Command) → AreThere holds (names_in command)
there-in holds (TwoD command) = there-2d holds command
there-in holds (CapsetInfo index) = tt
there-in holds (Capset id version) = tt
there-in holds (Edid scanout) = tt
there-in holds (AssignUuid resource) = (tt, tt)
there-in holds (CreateBlob resource mem flags blob_id size entries) = (tt, tt)
there-in holds (SetScanoutBlob rect scanout resource width height format stride offset) = (tt, (tt, tt))
there-in holds (CtxCreate nlen context_init name) = tt
there-in holds CtxDestroy = tt
there-in holds (CtxAttach resource) = (tt, tt)
there-in holds (CtxDetach resource) = (tt, tt)
there-in holds (Submit stream) = tt
there-in holds (UpdateCursor scanout x y resource hot_x hot_y) = (tt, (tt, tt))
there-in holds (MoveCursor scanout x y) = (tt, tt)

there-context : (holds : Holds) (named : Bool) (n : ℕ) → AreThere holds (cond named (Context n ∷ []) [])
there-context holds true n = (tt, tt)
there-context holds false n = tt

there-pages : (holds : Holds) (pages : List ℕ) → AllByRecursion (λ page. page < holds.pages) pages → AreThere holds (map Page pages)
there-pages holds [] below = tt
there-pages holds (page ∷ more) below = (below.0, there-pages holds more below.1)

below-append : (count : ℕ) (xs ys : List ℕ) → AllByRecursion (λ page. page < count) xs → AllByRecursion (λ page. page < count) ys → AllByRecursion (λ page. page < count) (xs ++ ys)
below-append count [] ys below more = more
below-append count (page ∷ xs) ys below more = (below.0, below-append count xs ys below.1 more)

below-range : (a n count : ℕ) → a + n ≤ count → AllByRecursion (λ page. page < count) (range_with_len a n)
below-range a zero count within = tt
below-range a (suc n) count within = (omega (arith, within), below-range (a + 1) n count (omega (arith, within)))

last-below : (count : ℕ) (entry : MemEntry) → is_in_memory count entry ≡ true → page_of entry.addr + (page_of (entry.addr + entry.length - 1) + 1 - page_of entry.addr) ≤ count
last-below count entry inside =
    let some : 1 ≤ entry.length = grind (arith, nat_tests) in
    let above : 1048576 ≤ entry.addr = grind (arith, nat_tests) in
    let under : entry.addr + entry.length ≤ 1048576 + 4096 * count = grind (arith, nat_tests) in
    omega (arith, some, above, under)

below-entry : (count : ℕ) (entry : MemEntry) (inside : Bool) → is_in_memory count entry ≡ inside → AllByRecursion (λ page. page < count) (cond inside (pages_from_to entry) [])
below-entry count entry true is = below-range (page_of entry.addr) _ count (last-below count entry is)
below-entry count entry false is = tt

pub below-pages : (count : ℕ) (entries : List MemEntry) → AllByRecursion (λ page. page < count) (pages_in count entries)
below-pages count [] = tt
below-pages count (entry ∷ more) =
    below-append count (pages_in_entry count entry) (pages_in count more) (below-entry count entry (is_in_memory count entry) refl) (below-pages count more)

there-named : (holds : Holds) (header : Header) (command : Command) → AreThere holds (names_of holds.pages header command)
there-named holds header command =
    there-append holds (names_in command ++ context_in header command) (map Page (pages_in holds.pages (entries_in command)))
    (there-append holds (names_in command) (context_in header command) (there-in holds command)
    (there-context holds (is_of_context command || bit_and header.flags 2 == 2) header.ctx_id))
    (there-pages holds (pages_in holds.pages (entries_in command)) (below-pages holds.pages (entries_in command)))

none-of : (a b c d : Bool) → (a || b || c || d) ≡ false → (a ≡ false) × (c ≡ false)
none-of true b c d e = absurd (cc e)
none-of false true c d e = absurd (cc e)
none-of false false true d e = absurd (cc e)
none-of false false false d e = (refl, refl)

three-of : (a b c : Bool) → (a || b || c) ≡ false → (a ≡ false) × (b ≡ false) × (c ≡ false)
three-of true b c e = absurd (cc e)
three-of false true c e = absurd (cc e)
three-of false false true e = absurd (cc e)
three-of false false false e = (refl, refl, refl)

-- what isn't allowed may be denied
may-deny : (holds : Holds) (command : Command) (what : What) → IsThere holds what → is_allowed holds command what ≡ false → Deniable holds what
may-deny holds command Name there e = tt
may-deny holds command (Resource n) there e =
    let parts = none-of (n == 0) (nat_le (2 ^ 31) n && not (is_creating command)) (list_any (has_key n) holds.buffers) (has_number n holds.taking_down) e in
    (grind (arith, nat_tests, parts.0), parts.1)
may-deny holds command (Scanout n) there e =
    let parts = or-false (nat_le holds.displays n) (has_number n holds.scanouts) e in
    (grind (arith, nat_tests, parts.0), parts.1)
may-deny holds command (Context n) there e =
    let parts = three-of (n == 0) (nat_le (2 ^ 31) n) (is_own_context holds n) e in
    (grind (arith, nat_tests, parts.0), grind (arith, nat_tests, parts.1), parts.2)
may-deny holds command (Page n) there e = there

first-deniable : (holds : Holds) (command : Command) (whats : List What) → AreThere holds whats → IfSome (first_denied holds command whats) (Deniable holds)
first-deniable holds command [] there = tt
first-deniable holds command (what ∷ more) there = by_test (is_allowed holds command what) refl (first-deniable holds command more there.1)
  where
    by_test : (b : Bool) → is_allowed holds command what ≡ b → IfSome (first_denied holds command more) (Deniable holds) → IfSome (cond b (first_denied holds command more) (Some what)) (Deniable holds)
    by_test true is rest = rest
    by_test false is rest = may-deny holds command what there.0 is

pub denied-deniable : {E : Type 0} (result : Result (Option What) E) (holds : Holds) (header : Header) (command : Command)
    → IfOk result (λ what. what ≡ denied_command holds header command) → IfOk result (λ what. IfSome what (Deniable holds))
denied-deniable (Ok what) holds header command e =
    subst (λ (w : Option What). IfSome w (Deniable holds)) (sym e) (first-deniable holds command (names_of holds.pages header command) (there-named holds header command))
denied-deniable (Err error) holds header command e = tt
