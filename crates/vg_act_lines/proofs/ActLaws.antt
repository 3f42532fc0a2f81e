-- An act and its words.
use Rattle.std.proofs.Common.{◌≡◌, ℕ, ◌^◌, Bool, true, false, List, [], ◌∷◌, ◌++◌, decimal, bytes_eq, codes, if◌then◌else◌, Some, None, option_map, option_and_then, arith, refl, sym, ap, ◌∙◌, subst, append_assoc}
use Rattle.std.proofs.lemmas.Bool.{and_from}
use Rattle.std.proofs.lemmas.List.Sums.{AllPass-from_list_all}
use Rattle.std.specs.List.{All, list_all, join_with_byte}
use Rattle.vg_laws.proofs.Options.{some_is}
use Rattle.vg_client_holds.specs.declared.act.Act.{Act}
use Rattle.vg_client_holds.specs.declared.act.Act.TheVariants.{Enter, Reserve, Store, Load, Export, Import, Release, Free, Take, Drop, Await, Denied, Mode, Unplug, Sync, Events, Ack, Leave}
use Rattle.vg_client_holds.specs.declared.act.What.{What}
use Rattle.vg_client_holds.specs.declared.act.What.TheVariants as whats
use Rattle.vg_journal_words.specs.Text.{act_text, await_text, load_text, mode_text, reserve_text, store_text, what_text}
use Rattle.vg_line_words.specs.Words.{bytes_of, is_plain, number_of, parts_at}
use Rattle.vg_line_words.proofs.HexLaws.{bytes_back, bytes_only, bytes_range, plain_bytes}
use Rattle.vg_line_words.proofs.NumberLaws.{number_back, number_only, number_range, plain_decimal}
use Rattle.vg_act_lines.specs.Words.{act_words, what_words}
use Rattle.vg_act_lines.specs.Ranges.{ActInRange, IsShort, WhatInRange}
use Rattle.vg_act_lines.specs.Read.{act_by, act_of, alone, await, await_of, both, buffer_act, four, load, load_of, mode, mode_of, numbered_act, numbered_what, one_number, plug_act, reserve, reserve_of, short, store, store_of, sync_of, two, what_of}
use Rattle.vg_act_lines.proofs.PartLaws.{both_parts, last_plain, line_parts, map_parts, named, named_alone, named_number, no_more, one_only, plain_short, short_back, short_only, then_parts, two_back, two_only}

-- The text is the words.
pub text_what : (what : What) → codes "denied " ++ what_text what ≡ join_with_byte 32 (codes "denied" ∷ what_words what)
text_what whats.Name = refl
text_what (whats.Resource n) = refl
text_what (whats.Scanout n) = refl
text_what (whats.Context n) = refl
text_what (whats.Page n) = refl

pub text_act : (act : Act) → act_text act ≡ join_with_byte 32 (act_words act)
unfolding reserve_text store_text load_text await_text mode_text
text_act Enter = refl
text_act (Reserve width height format bytes) = simp append_assoc
text_act (Store key offset bytes times) = simp append_assoc
text_act (Load key offset n) = simp append_assoc
text_act (Export key) = refl
text_act (Import token) = refl
text_act (Release key) = refl
text_act (Free key) = refl
text_act (Take scanout) = refl
text_act (Drop scanout) = refl
text_act (Await lane ordinal) = simp append_assoc
text_act (Denied what) = text_what what
text_act (Mode scanout width height) = simp append_assoc
text_act (Unplug scanout) = refl
text_act (Sync call) = refl
text_act Events = refl
text_act Ack = refl
text_act Leave = refl

-- The words are plain.
plain_what : (what : What) → WhatInRange what → list_all is_plain (what_words what) ≡ true
unfolding is_plain
plain_what whats.Name r = refl
plain_what (whats.Resource n) r = last_plain _ (plain_short n r)
plain_what (whats.Scanout n) r = last_plain _ (plain_short n r)
plain_what (whats.Context n) r = last_plain _ (plain_short n r)
plain_what (whats.Page n) r = last_plain _ (plain_short n r)

are_plain : (act : Act) → ActInRange act → list_all is_plain (act_words act) ≡ true
unfolding is_plain
are_plain Enter r = refl
are_plain (Reserve width height format bytes) r = and_from _ _ (plain_short width r.0) (and_from _ _ (plain_short height r.1) (and_from _ _ (plain_short format r.2) (last_plain _ (plain_short bytes r.3))))
are_plain (Store key offset bytes times) r = and_from _ _ (plain_short key r.0) (and_from _ _ (plain_short offset r.1) (and_from _ _ (plain_bytes bytes r.2) (last_plain _ (plain_short times r.3))))
are_plain (Load key offset n) r = and_from _ _ (plain_short key r.0) (and_from _ _ (plain_short offset r.1) (last_plain _ (plain_short n r.2)))
are_plain (Export key) r = last_plain _ (plain_short key r)
are_plain (Import token) r = last_plain _ (plain_short token r)
are_plain (Release key) r = last_plain _ (plain_short key r)
are_plain (Free key) r = last_plain _ (plain_short key r)
are_plain (Take scanout) r = last_plain _ (plain_short scanout r)
are_plain (Drop scanout) r = last_plain _ (plain_short scanout r)
are_plain (Await lane ordinal) r = and_from _ _ (plain_decimal lane (omega (arith, r.0))) (last_plain _ (plain_decimal ordinal (omega (arith, r.1))))
are_plain (Denied what) r = plain_what what r
are_plain (Mode scanout width height) r = and_from _ _ (plain_short scanout r.0) (and_from _ _ (plain_short width r.1) (last_plain _ (plain_short height r.2)))
are_plain (Unplug scanout) r = last_plain _ (plain_short scanout r)
are_plain (Sync call) r = last_plain _ (plain_decimal call (omega (arith, r)))
are_plain Events r = refl
are_plain Ack r = refl
are_plain Leave r = refl

pub plain_act : (act : Act) → ActInRange act → All (λ w. is_plain w ≡ true) (act_words act)
plain_act act r = AllPass-from_list_all is_plain (act_words act) (are_plain act r)

-- The words say the act.
pub what_said : (what : What) → WhatInRange what → what_of (what_words what) ≡ Some what
unfolding what_of
what_said whats.Name r = refl
what_said (whats.Resource n) r = ap (option_and_then (numbered_what (codes "resource"))) (short_back n r)
what_said (whats.Scanout n) r = ap (option_and_then (numbered_what (codes "scanout"))) (short_back n r)
what_said (whats.Context n) r = ap (option_and_then (numbered_what (codes "context"))) (short_back n r)
what_said (whats.Page n) r = ap (option_and_then (numbered_what (codes "page"))) (short_back n r)

pub act_said : (act : Act) → ActInRange act → act_of (act_words act) ≡ Some act
unfolding act_by plug_act buffer_act reserve_of store_of load_of await_of mode_of sync_of
act_said Enter r = refl
act_said (Reserve width height format bytes) r = λ i. option_map reserve (both (two_back width height r.0 r.1 i) (two_back format bytes r.2 r.3 i))
act_said (Store key offset bytes times) r = λ i. option_map store (both (both (two_back key offset r.0 r.1 i) (short_back times r.3 i)) (bytes_back bytes r.2 i))
act_said (Load key offset n) r = λ i. option_map load (both (two_back key offset r.0 r.1 i) (short_back n r.2 i))
act_said (Export key) r = ap (option_and_then (numbered_act (codes "export"))) (short_back key r)
act_said (Import token) r = ap (option_and_then (numbered_act (codes "import"))) (short_back token r)
act_said (Release key) r = ap (option_and_then (numbered_act (codes "release"))) (short_back key r)
act_said (Free key) r = ap (option_and_then (numbered_act (codes "free"))) (short_back key r)
act_said (Take scanout) r = ap (option_and_then (numbered_act (codes "take"))) (short_back scanout r)
act_said (Drop scanout) r = ap (option_and_then (numbered_act (codes "drop"))) (short_back scanout r)
act_said (Await lane ordinal) r = λ i. option_map await (both (number_back (2 ^ 32) lane r.0 (omega arith) i) (number_back (2 ^ 63) ordinal r.1 (omega arith) i))
act_said (Denied what) r = ap (option_map Denied) (what_said what r)
act_said (Mode scanout width height) r = λ i. option_map mode (both (two_back scanout width r.0 r.1 i) (short_back height r.2 i))
act_said (Unplug scanout) r = ap (option_and_then (numbered_act (codes "unplug"))) (short_back scanout r)
act_said (Sync call) r = ap (option_map Sync) (number_back (2 ^ 63) call r (omega arith))
act_said Events r = refl
act_said Ack r = refl
act_said Leave r = refl

pub act_parts : (act : Act) → ActInRange act → parts_at 32 (join_with_byte 32 (act_words act)) ≡ act_words act
act_parts act r = line_parts (act_words act) (λ none. let no : None ≡ Some act = ap act_of (sym none) ∙ act_said act r in absurd cc) (plain_act act r)

pub act_back : (act : Act) → ActInRange act → act_of (parts_at 32 (act_text act)) ≡ Some act
act_back act r = ap (λ t. act_of (parts_at 32 t)) (text_act act) ∙ ap act_of (act_parts act r) ∙ act_said act r

pub one_act : (a b : Act) → ActInRange a → ActInRange b → act_text a ≡ act_text b → a ≡ b
one_act a b r s same = some_is a b (sym (act_back a r) ∙ ap (λ t. act_of (parts_at 32 t)) same ∙ act_back b s)

-- No other words say it.
abbrev IsWhat : List (List ℕ) → What → Type 0
IsWhat words what = (words ≡ what_words what) × WhatInRange what

abbrev IsAct : List (List ℕ) → Act → Type 0
IsAct words act = (words ≡ act_words act) × ActInRange act

what_by : (a b c d : Bool) (word : List ℕ) (n : ℕ) (what : What) → IsShort n
    → bytes_eq word (codes "resource") ≡ a
    → bytes_eq word (codes "scanout") ≡ b
    → bytes_eq word (codes "context") ≡ c
    → bytes_eq word (codes "page") ≡ d
    → (if a then Some (whats.Resource n) else if b then Some (whats.Scanout n) else if c then Some (whats.Context n) else if d then Some (whats.Page n) else None) ≡ Some what
    → IsWhat (word ∷ decimal n ∷ []) what
what_by true b c d word n what r first second third fourth is = named_number IsWhat word (codes "resource") n (whats.Resource n) what first is (refl, r)
what_by false true c d word n what r first second third fourth is = named_number IsWhat word (codes "scanout") n (whats.Scanout n) what second is (refl, r)
what_by false false true d word n what r first second third fourth is = named_number IsWhat word (codes "context") n (whats.Context n) what third is (refl, r)
what_by false false false true word n what r first second third fourth is = named_number IsWhat word (codes "page") n (whats.Page n) what fourth is (refl, r)
what_by false false false false word n what r first second third fourth is = no_more what is

numbered_what_only : (word : List ℕ) (n : ℕ) (what : What) → IsShort n → numbered_what word n ≡ Some what → IsWhat (word ∷ decimal n ∷ []) what
numbered_what_only word n what r is =
    what_by (bytes_eq word (codes "resource")) (bytes_eq word (codes "scanout")) (bytes_eq word (codes "context")) (bytes_eq word (codes "page")) word n what r refl refl refl refl is

name_by : (b : Bool) (word : List ℕ) (what : What) → bytes_eq word (codes "name") ≡ b → (if b then Some whats.Name else None) ≡ Some what → IsWhat (word ∷ []) what
name_by true word what same is = named IsWhat word (codes "name") [] what same (subst (IsWhat (codes "name" ∷ [])) (some_is whats.Name what is) (refl, tt))
name_by false word what same is = no_more what is

what_only : (words : List (List ℕ)) (what : What) → what_of words ≡ Some what → IsWhat words what
unfolding what_of
what_only [] what is = no_more what is
what_only (word ∷ []) what is = name_by (bytes_eq word (codes "name")) word what refl is
what_only (word ∷ n ∷ []) what is =
    let m = then_parts (numbered_what word) (short n) what is in
    let read = short_only n m.0 m.1 in
    subst (λ v. IsWhat (word ∷ v ∷ []) what) (sym read.0) (numbered_what_only word m.0 what read.1 m.2)
what_only (word ∷ n ∷ more ∷ words) what is = no_more what is

act_numbered_by : (a b c d e f g : Bool) (word : List ℕ) (n : ℕ) (act : Act) → IsShort n
    → bytes_eq word (codes "export") ≡ a
    → bytes_eq word (codes "import") ≡ b
    → bytes_eq word (codes "release") ≡ c
    → bytes_eq word (codes "free") ≡ d
    → bytes_eq word (codes "take") ≡ e
    → bytes_eq word (codes "drop") ≡ f
    → bytes_eq word (codes "unplug") ≡ g
    → (if a then Some (Export n) else if b then Some (Import n) else if c then Some (Release n) else if d then Some (Free n) else if e then Some (Take n) else if f then Some (Drop n) else if g then Some (Unplug n) else None) ≡ Some act
    → IsAct (word ∷ decimal n ∷ []) act
act_numbered_by true b c d e f g word n act r u v w x y z o is = named_number IsAct word (codes "export") n (Export n) act u is (refl, r)
act_numbered_by false true c d e f g word n act r u v w x y z o is = named_number IsAct word (codes "import") n (Import n) act v is (refl, r)
act_numbered_by false false true d e f g word n act r u v w x y z o is = named_number IsAct word (codes "release") n (Release n) act w is (refl, r)
act_numbered_by false false false true e f g word n act r u v w x y z o is = named_number IsAct word (codes "free") n (Free n) act x is (refl, r)
act_numbered_by false false false false true f g word n act r u v w x y z o is = named_number IsAct word (codes "take") n (Take n) act y is (refl, r)
act_numbered_by false false false false false true g word n act r u v w x y z o is = named_number IsAct word (codes "drop") n (Drop n) act z is (refl, r)
act_numbered_by false false false false false false true word n act r u v w x y z o is = named_number IsAct word (codes "unplug") n (Unplug n) act o is (refl, r)
act_numbered_by false false false false false false false word n act r u v w x y z o is = no_more act is

numbered_act_only : (word : List ℕ) (args : List (List ℕ)) (act : Act) → option_and_then (numbered_act word) (one_number args) ≡ Some act → IsAct (word ∷ args) act
numbered_act_only word args act is =
    let m = then_parts (numbered_act word) (one_number args) act is in
    let read = one_only args m.0 m.1 in
    subst (λ v. IsAct (word ∷ v) act) (sym read.0)
    (act_numbered_by (bytes_eq word (codes "export")) (bytes_eq word (codes "import")) (bytes_eq word (codes "release")) (bytes_eq word (codes "free")) (bytes_eq word (codes "take")) (bytes_eq word (codes "drop")) (bytes_eq word (codes "unplug")) word m.0 act read.1 refl refl refl refl refl refl refl m.2)

reserve_only : (args : List (List ℕ)) (act : Act) → reserve_of args ≡ Some act → IsAct (codes "reserve" ∷ args) act
unfolding reserve_of
reserve_only (a ∷ b ∷ c ∷ d ∷ []) act is =
    let m = map_parts reserve (four a b c d) act is in
    let parts = both_parts (two a b) (two c d) m.0 m.1 in
    let first = two_only a b m.0.0 parts.0 in
    let second = two_only c d m.0.1 parts.1 in
    subst (IsAct (codes "reserve" ∷ a ∷ b ∷ c ∷ d ∷ [])) m.2 (λ i. codes "reserve" ∷ first.0 i ∷ first.1 i ∷ second.0 i ∷ second.1 i ∷ [], (first.2, first.3, second.2, second.3))
reserve_only args act is = no_more act is

store_only : (args : List (List ℕ)) (act : Act) → store_of args ≡ Some act → IsAct (codes "store" ∷ args) act
unfolding store_of
store_only (a ∷ b ∷ c ∷ d ∷ []) act is =
    let m = map_parts store (both (both (two a b) (short d)) (bytes_of c)) act is in
    let parts = both_parts (both (two a b) (short d)) (bytes_of c) m.0 m.1 in
    let numbers = both_parts (two a b) (short d) m.0.0 parts.0 in
    let first = two_only a b m.0.0.0 numbers.0 in
    let times = short_only d m.0.0.1 numbers.1 in
    let bytes = bytes_only c m.0.1 parts.1 in
    subst (IsAct (codes "store" ∷ a ∷ b ∷ c ∷ d ∷ [])) m.2 (λ i. codes "store" ∷ first.0 i ∷ first.1 i ∷ bytes i ∷ times.0 i ∷ [], (first.2, first.3, bytes_range c m.0.1 parts.1, times.1))
store_only args act is = no_more act is

load_only : (args : List (List ℕ)) (act : Act) → load_of args ≡ Some act → IsAct (codes "load" ∷ args) act
unfolding load_of
load_only (a ∷ b ∷ c ∷ []) act is =
    let m = map_parts load (both (two a b) (short c)) act is in
    let parts = both_parts (two a b) (short c) m.0 m.1 in
    let first = two_only a b m.0.0 parts.0 in
    let count = short_only c m.0.1 parts.1 in
    subst (IsAct (codes "load" ∷ a ∷ b ∷ c ∷ [])) m.2 (λ i. codes "load" ∷ first.0 i ∷ first.1 i ∷ count.0 i ∷ [], (first.2, first.3, count.1))
load_only args act is = no_more act is

await_only : (args : List (List ℕ)) (act : Act) → await_of args ≡ Some act → IsAct (codes "await" ∷ args) act
unfolding await_of
await_only (a ∷ b ∷ []) act is =
    let m = map_parts await (both (number_of (2 ^ 32) a) (number_of (2 ^ 63) b)) act is in
    let parts = both_parts (number_of (2 ^ 32) a) (number_of (2 ^ 63) b) m.0 m.1 in
    let lane = number_only (2 ^ 32) m.0.0 a (omega arith) parts.0 in
    let ordinal = number_only (2 ^ 63) m.0.1 b (omega arith) parts.1 in
    subst (IsAct (codes "await" ∷ a ∷ b ∷ [])) m.2 (λ i. codes "await" ∷ lane i ∷ ordinal i ∷ [], (number_range (2 ^ 32) m.0.0 a parts.0, number_range (2 ^ 63) m.0.1 b parts.1))
await_only args act is = no_more act is

denied_only : (args : List (List ℕ)) (act : Act) → option_map Denied (what_of args) ≡ Some act → IsAct (codes "denied" ∷ args) act
denied_only args act is =
    let m = map_parts Denied (what_of args) act is in
    let read = what_only args m.0 m.1 in
    subst (IsAct (codes "denied" ∷ args)) m.2 (ap (λ v. codes "denied" ∷ v) read.0, read.1)

buffer_by : (a b c : Bool) (word : List ℕ) (args : List (List ℕ)) (act : Act)
    → bytes_eq word (codes "reserve") ≡ a
    → bytes_eq word (codes "store") ≡ b
    → bytes_eq word (codes "load") ≡ c
    → (if a then reserve_of args else if b then store_of args else if c then load_of args else option_and_then (numbered_act word) (one_number args)) ≡ Some act
    → IsAct (word ∷ args) act
buffer_by true b c word args act u v w is = named IsAct word (codes "reserve") args act u (reserve_only args act is)
buffer_by false true c word args act u v w is = named IsAct word (codes "store") args act v (store_only args act is)
buffer_by false false true word args act u v w is = named IsAct word (codes "load") args act w (load_only args act is)
buffer_by false false false word args act u v w is = numbered_act_only word args act is

buffer_only : (word : List ℕ) (args : List (List ℕ)) (act : Act) → buffer_act word args ≡ Some act → IsAct (word ∷ args) act
unfolding buffer_act
buffer_only word args act is = buffer_by (bytes_eq word (codes "reserve")) (bytes_eq word (codes "store")) (bytes_eq word (codes "load")) word args act refl refl refl is

mode_only : (args : List (List ℕ)) (act : Act) → mode_of args ≡ Some act → IsAct (codes "mode" ∷ args) act
unfolding mode_of
mode_only (a ∷ b ∷ c ∷ []) act is =
    let m = map_parts mode (both (two a b) (short c)) act is in
    let parts = both_parts (two a b) (short c) m.0 m.1 in
    let first = two_only a b m.0.0 parts.0 in
    let high = short_only c m.0.1 parts.1 in
    subst (IsAct (codes "mode" ∷ a ∷ b ∷ c ∷ [])) m.2 (λ i. codes "mode" ∷ first.0 i ∷ first.1 i ∷ high.0 i ∷ [], (first.2, first.3, high.1))
mode_only args act is = no_more act is

sync_only : (args : List (List ℕ)) (act : Act) → sync_of args ≡ Some act → IsAct (codes "sync" ∷ args) act
unfolding sync_of
sync_only [] act is = no_more act is
sync_only (a ∷ []) act is =
    let m = map_parts Sync (number_of (2 ^ 63) a) act is in
    let call = number_only (2 ^ 63) m.0 a (omega arith) m.1 in
    subst (IsAct (codes "sync" ∷ a ∷ [])) m.2 (λ i. codes "sync" ∷ call i ∷ [], number_range (2 ^ 63) m.0 a m.1)
sync_only (a ∷ b ∷ args) act is = no_more act is

plug_by : (a b c d : Bool) (word : List ℕ) (args : List (List ℕ)) (act : Act)
    → bytes_eq word (codes "mode") ≡ a
    → bytes_eq word (codes "sync") ≡ b
    → bytes_eq word (codes "events") ≡ c
    → bytes_eq word (codes "ack") ≡ d
    → (if a then mode_of args else if b then sync_of args else if c then alone Events args else if d then alone Ack args else buffer_act word args) ≡ Some act
    → IsAct (word ∷ args) act
plug_by true b c d word args act u v w x is = named IsAct word (codes "mode") args act u (mode_only args act is)
plug_by false true c d word args act u v w x is = named IsAct word (codes "sync") args act v (sync_only args act is)
plug_by false false true d word args act u v w x is = named_alone IsAct word (codes "events") args Events act w is (refl, tt)
plug_by false false false true word args act u v w x is = named_alone IsAct word (codes "ack") args Ack act x is (refl, tt)
plug_by false false false false word args act u v w x is = buffer_only word args act is

plug_only : (word : List ℕ) (args : List (List ℕ)) (act : Act) → plug_act word args ≡ Some act → IsAct (word ∷ args) act
unfolding plug_act
plug_only word args act is = plug_by (bytes_eq word (codes "mode")) (bytes_eq word (codes "sync")) (bytes_eq word (codes "events")) (bytes_eq word (codes "ack")) word args act refl refl refl refl is

named_by : (a b c d : Bool) (word : List ℕ) (args : List (List ℕ)) (act : Act)
    → bytes_eq word (codes "enter") ≡ a
    → bytes_eq word (codes "leave") ≡ b
    → bytes_eq word (codes "denied") ≡ c
    → bytes_eq word (codes "await") ≡ d
    → (if a then alone Enter args else if b then alone Leave args else if c then option_map Denied (what_of args) else if d then await_of args else plug_act word args) ≡ Some act
    → IsAct (word ∷ args) act
named_by true b c d word args act u v w x is = named_alone IsAct word (codes "enter") args Enter act u is (refl, tt)
named_by false true c d word args act u v w x is = named_alone IsAct word (codes "leave") args Leave act v is (refl, tt)
named_by false false true d word args act u v w x is = named IsAct word (codes "denied") args act w (denied_only args act is)
named_by false false false true word args act u v w x is = named IsAct word (codes "await") args act x (await_only args act is)
named_by false false false false word args act u v w x is = plug_only word args act is

pub act_only : (act : Act) (words : List (List ℕ)) → act_of words ≡ Some act → (words ≡ act_words act) × ActInRange act
unfolding act_by
act_only act [] is = no_more act is
act_only act (word ∷ args) is = named_by (bytes_eq word (codes "enter")) (bytes_eq word (codes "leave")) (bytes_eq word (codes "denied")) (bytes_eq word (codes "await")) word args act refl refl refl refl is
