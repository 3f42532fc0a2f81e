-- A reply and its words.
use Rattle.std.proofs.Common.{◌≡◌, ℕ, ◌^◌, ◌&&◌, Bool, true, false, List, [], ◌∷◌, ◌++◌, decimal, bytes_eq, codes, if◌then◌else◌, Some, None, option_map, option_and_then, arith, refl, sym, ap, ◌∙◌, subst, append_assoc}
use Rattle.std.proofs.lemmas.Bool.{and_from, and_parts}
use Rattle.std.proofs.lemmas.List.Sums.{AllPass-from_list_all}
use Rattle.std.specs.List.{All, list_all, join_with_byte}
use Rattle.vg_laws.proofs.Lists.{same_bytes}
use Rattle.vg_laws.proofs.Options.{some_is}
use Rattle.vg_client_holds.specs.declared.act.ActReply.{ActReply}
use Rattle.vg_client_holds.specs.declared.act.ActReply.TheVariants as replies
use Rattle.vg_share.specs.declared.share.Geometry.{Geometry}
use Rattle.vg_share.specs.declared.share.ShareRefusal.{ShareRefusal}
use Rattle.vg_share.specs.declared.share.ShareRefusal.TheVariants.{GuestFull, UnknownKey, NotHeld, ScanoutHeld, OutOfRange, InUse, ResourceLive}
use Rattle.vg_journal_words.specs.Text.{act_reply_text, bit_text, imported_text, pages_text, refusal_text, reserved_text, size_text}
use Rattle.vg_line_words.specs.Words.{AreBelow, bytes_of, is_plain, numbers_of, numbers_text, parts_at}
use Rattle.vg_line_words.proofs.HexLaws.{bytes_back, bytes_only, bytes_range, plain_bytes}
use Rattle.vg_line_words.proofs.ListLaws.{below_weaker, numbers_back, numbers_only, numbers_range, plain_numbers}
use Rattle.vg_act_lines.specs.Words.{refusal_words, reply_words}
use Rattle.vg_act_lines.specs.Ranges.{GeometryInRange, IsShort, RefusalInRange, ReplyInRange}
use Rattle.vg_act_lines.specs.Read.{alone, both, events_of, four, geometry, given_by, imported, imported_of, keyed_of, loaded_of, numbered_refusal, one_number, refusal_by, reply_by, reply_of, reserved, reserved_of, short, two}
use Rattle.vg_act_lines.proofs.PartLaws.{both_parts, last_plain, line_parts, map_parts, named, named_alone, named_number, no_more, one_only, pages_numbers, plain_short, short_back, short_only, then_parts, two_back, two_only}

-- The text is the words.
text_refusal : (refusal : ShareRefusal) → refusal_text refusal ≡ join_with_byte 32 (refusal_words refusal)
text_refusal (GuestFull free) = refl
text_refusal UnknownKey = refl
text_refusal NotHeld = refl
text_refusal (ScanoutHeld by) = refl
text_refusal (OutOfRange bytes) = refl
text_refusal (InUse scanout) = refl
text_refusal ResourceLive = refl

size_flat : (w h f b : List ℕ) → codes " size " ++ w ++ codes " " ++ h ++ codes " " ++ f ++ codes " " ++ b ≡ 32 ∷ join_with_byte 32 (codes "size" ∷ w ∷ h ∷ f ∷ b ∷ [])
size_flat w h f b = simp append_assoc

imported_flat : (key w h f b pages : List ℕ)
    → codes "key " ++ key ++ (codes " size " ++ w ++ codes " " ++ h ++ codes " " ++ f ++ codes " " ++ b) ++ codes " pages " ++ pages
    ≡ join_with_byte 32 (codes "key" ∷ key ∷ codes "size" ∷ w ∷ h ∷ f ∷ b ∷ codes "pages" ∷ pages ∷ [])
imported_flat key w h f b pages = ap (λ t. codes "key " ++ key ++ t ++ codes " pages " ++ pages) (size_flat w h f b) ∙ simp append_assoc

pub text_reply : (reply : ActReply) → act_reply_text reply ≡ join_with_byte 32 (reply_words reply)
unfolding reserved_text imported_text size_text
text_reply replies.Ok = refl
text_reply (replies.Reserved key pages) =
    ap (λ t. codes "key " ++ decimal key ++ codes " pages " ++ t) (pages_numbers pages) ∙ simp append_assoc
text_reply (replies.Bytes bytes) = refl
text_reply (replies.Exported token) = refl
text_reply (replies.Imported key size pages) =
    ap (λ t. codes "key " ++ decimal key ++ size_text size ++ codes " pages " ++ t) (pages_numbers pages)
    ∙ imported_flat (decimal key) (decimal size.width) (decimal size.height) (decimal size.format) (decimal size.bytes) (numbers_text pages)
text_reply replies.Kept = refl
text_reply replies.Last = refl
text_reply (replies.Events set) = refl
text_reply (replies.Refused refusal) = text_refusal refusal

-- The words are plain.
plain_refusal : (refusal : ShareRefusal) → RefusalInRange refusal → list_all is_plain (refusal_words refusal) ≡ true
unfolding is_plain
plain_refusal (GuestFull free) r = last_plain _ (plain_short free r)
plain_refusal UnknownKey r = refl
plain_refusal NotHeld r = refl
plain_refusal (ScanoutHeld by) r = last_plain _ (plain_short by r)
plain_refusal (OutOfRange bytes) r = last_plain _ (plain_short bytes r)
plain_refusal (InUse scanout) r = last_plain _ (plain_short scanout r)
plain_refusal ResourceLive r = refl

plain_pages : (pages : List ℕ) → AreBelow (2 ^ 32) pages → is_plain (numbers_text pages) ≡ true
plain_pages pages r = plain_numbers pages (below_weaker (2 ^ 32) (2 ^ 64) pages (omega arith) r)

plain_bit : (set : Bool) → is_plain (bit_text set) ≡ true
unfolding is_plain
plain_bit true = refl
plain_bit false = refl

are_plain : (reply : ActReply) → ReplyInRange reply → list_all is_plain (reply_words reply) ≡ true
unfolding is_plain
are_plain replies.Ok r = refl
are_plain (replies.Reserved key pages) r = and_from _ _ (plain_short key r.0) (last_plain _ (plain_pages pages r.1))
are_plain (replies.Bytes bytes) r = last_plain _ (plain_bytes bytes r)
are_plain (replies.Exported token) r = last_plain _ (plain_short token r)
are_plain (replies.Imported key size pages) r =
    and_from _ _ (plain_short key r.0) (and_from _ _ (plain_short size.width r.1.0) (and_from _ _ (plain_short size.height r.1.1) (and_from _ _ (plain_short size.format r.1.2) (and_from _ _ (plain_short size.bytes r.1.3) (last_plain _ (plain_pages pages r.2))))))
are_plain replies.Kept r = refl
are_plain replies.Last r = refl
are_plain (replies.Events set) r = last_plain _ (plain_bit set)
are_plain (replies.Refused refusal) r = plain_refusal refusal r

pub plain_reply : (reply : ActReply) → ReplyInRange reply → All (λ w. is_plain w ≡ true) (reply_words reply)
plain_reply reply r = AllPass-from_list_all is_plain (reply_words reply) (are_plain reply r)

-- The words say the reply.
refusal_said : (refusal : ShareRefusal) → RefusalInRange refusal → reply_of (refusal_words refusal) ≡ Some (replies.Refused refusal)
unfolding reply_by given_by refusal_by
refusal_said (GuestFull free) r = ap (λ o. option_map replies.Refused (option_and_then (numbered_refusal (codes "full")) o)) (short_back free r)
refusal_said UnknownKey r = refl
refusal_said NotHeld r = refl
refusal_said (ScanoutHeld by) r = ap (λ o. option_map replies.Refused (option_and_then (numbered_refusal (codes "held")) o)) (short_back by r)
refusal_said (OutOfRange bytes) r = ap (λ o. option_map replies.Refused (option_and_then (numbered_refusal (codes "range")) o)) (short_back bytes r)
refusal_said (InUse scanout) r = ap (λ o. option_map replies.Refused (option_and_then (numbered_refusal (codes "inuse")) o)) (short_back scanout r)
refusal_said ResourceLive r = refl

pages_back : (pages : List ℕ) → AreBelow (2 ^ 32) pages → numbers_of (2 ^ 32) (numbers_text pages) ≡ Some pages
pages_back pages r = numbers_back (2 ^ 32) pages r (omega arith)

events_said : (set : Bool) → events_of (bit_text set ∷ []) ≡ Some (replies.Events set)
unfolding events_of
events_said true = refl
events_said false = refl

pub reply_said : (reply : ActReply) → ReplyInRange reply → reply_of (reply_words reply) ≡ Some reply
unfolding reply_by given_by keyed_of reserved_of imported_of loaded_of
reply_said replies.Ok r = refl
reply_said (replies.Reserved key pages) r = λ i. option_map reserved (both (short_back key r.0 i) (pages_back pages r.1 i))
reply_said (replies.Bytes bytes) r = ap (option_map replies.Bytes) (bytes_back bytes r)
reply_said (replies.Exported token) r = ap (option_map replies.Exported) (short_back token r)
reply_said (replies.Imported key size pages) r =
    λ i. option_map imported (both (both (short_back key r.0 i) (option_map geometry (both (two_back size.width size.height r.1.0 r.1.1 i) (two_back size.format size.bytes r.1.2 r.1.3 i)))) (pages_back pages r.2 i))
reply_said replies.Kept r = refl
reply_said replies.Last r = refl
reply_said (replies.Events set) r = events_said set
reply_said (replies.Refused refusal) r = refusal_said refusal r

pub reply_parts : (reply : ActReply) → ReplyInRange reply → parts_at 32 (join_with_byte 32 (reply_words reply)) ≡ reply_words reply
reply_parts reply r = line_parts (reply_words reply) (λ none. let no : None ≡ Some reply = ap reply_of (sym none) ∙ reply_said reply r in absurd cc) (plain_reply reply r)

pub reply_back : (reply : ActReply) → ReplyInRange reply → reply_of (parts_at 32 (act_reply_text reply)) ≡ Some reply
reply_back reply r = ap (λ t. reply_of (parts_at 32 t)) (text_reply reply) ∙ ap reply_of (reply_parts reply r) ∙ reply_said reply r

pub one_reply : (a b : ActReply) → ReplyInRange a → ReplyInRange b → act_reply_text a ≡ act_reply_text b → a ≡ b
one_reply a b r s same = some_is a b (sym (reply_back a r) ∙ ap (λ t. reply_of (parts_at 32 t)) same ∙ reply_back b s)

-- No other words say it.
abbrev IsRefusal : List (List ℕ) → ShareRefusal → Type 0
IsRefusal words refusal = (words ≡ refusal_words refusal) × RefusalInRange refusal

abbrev IsReply : List (List ℕ) → ActReply → Type 0
IsReply words reply = (words ≡ reply_words reply) × ReplyInRange reply

refusal_numbered_by : (a b c d : Bool) (word : List ℕ) (n : ℕ) (refusal : ShareRefusal) → IsShort n
    → bytes_eq word (codes "full") ≡ a
    → bytes_eq word (codes "held") ≡ b
    → bytes_eq word (codes "range") ≡ c
    → bytes_eq word (codes "inuse") ≡ d
    → (if a then Some (GuestFull n) else if b then Some (ScanoutHeld n) else if c then Some (OutOfRange n) else if d then Some (InUse n) else None) ≡ Some refusal
    → IsRefusal (word ∷ decimal n ∷ []) refusal
refusal_numbered_by true b c d word n refusal r u v w x is = named_number IsRefusal word (codes "full") n (GuestFull n) refusal u is (refl, r)
refusal_numbered_by false true c d word n refusal r u v w x is = named_number IsRefusal word (codes "held") n (ScanoutHeld n) refusal v is (refl, r)
refusal_numbered_by false false true d word n refusal r u v w x is = named_number IsRefusal word (codes "range") n (OutOfRange n) refusal w is (refl, r)
refusal_numbered_by false false false true word n refusal r u v w x is = named_number IsRefusal word (codes "inuse") n (InUse n) refusal x is (refl, r)
refusal_numbered_by false false false false word n refusal r u v w x is = no_more refusal is

numbered_refusal_only : (word : List ℕ) (args : List (List ℕ)) (refusal : ShareRefusal) → option_and_then (numbered_refusal word) (one_number args) ≡ Some refusal → IsRefusal (word ∷ args) refusal
numbered_refusal_only word args refusal is =
    let m = then_parts (numbered_refusal word) (one_number args) refusal is in
    let read = one_only args m.0 m.1 in
    subst (λ v. IsRefusal (word ∷ v) refusal) (sym read.0)
    (refusal_numbered_by (bytes_eq word (codes "full")) (bytes_eq word (codes "held")) (bytes_eq word (codes "range")) (bytes_eq word (codes "inuse")) word m.0 refusal read.1 refl refl refl refl m.2)

refusal_named_by : (a b c : Bool) (word : List ℕ) (args : List (List ℕ)) (refusal : ShareRefusal)
    → bytes_eq word (codes "unknown") ≡ a
    → bytes_eq word (codes "notheld") ≡ b
    → bytes_eq word (codes "live") ≡ c
    → (if a then alone UnknownKey args else if b then alone NotHeld args else if c then alone ResourceLive args else option_and_then (numbered_refusal word) (one_number args)) ≡ Some refusal
    → IsRefusal (word ∷ args) refusal
refusal_named_by true b c word args refusal u v w is = named_alone IsRefusal word (codes "unknown") args UnknownKey refusal u is (refl, tt)
refusal_named_by false true c word args refusal u v w is = named_alone IsRefusal word (codes "notheld") args NotHeld refusal v is (refl, tt)
refusal_named_by false false true word args refusal u v w is = named_alone IsRefusal word (codes "live") args ResourceLive refusal w is (refl, tt)
refusal_named_by false false false word args refusal u v w is = numbered_refusal_only word args refusal is

refusal_only : (word : List ℕ) (args : List (List ℕ)) (refusal : ShareRefusal) → refusal_by word args ≡ Some refusal → IsRefusal (word ∷ args) refusal
unfolding refusal_by
refusal_only word args refusal is = refusal_named_by (bytes_eq word (codes "unknown")) (bytes_eq word (codes "notheld")) (bytes_eq word (codes "live")) word args refusal refl refl refl is

loaded_only : (args : List (List ℕ)) (reply : ActReply) → loaded_of args ≡ Some reply → IsReply (codes "bytes" ∷ args) reply
unfolding loaded_of
loaded_only [] reply is = no_more reply is
loaded_only (hex ∷ []) reply is =
    let m = map_parts replies.Bytes (bytes_of hex) reply is in
    let bytes = bytes_only hex m.0 m.1 in
    subst (IsReply (codes "bytes" ∷ hex ∷ [])) m.2 (λ i. codes "bytes" ∷ bytes i ∷ [], bytes_range hex m.0 m.1)
loaded_only (hex ∷ more ∷ args) reply is = no_more reply is

exported_only : (args : List (List ℕ)) (reply : ActReply) → option_map replies.Exported (one_number args) ≡ Some reply → IsReply (codes "token" ∷ args) reply
exported_only args reply is =
    let m = map_parts replies.Exported (one_number args) reply is in
    let read = one_only args m.0 m.1 in
    subst (IsReply (codes "token" ∷ args)) m.2 (ap (λ v. codes "token" ∷ v) read.0, read.1)

refused_only : (word : List ℕ) (args : List (List ℕ)) (reply : ActReply) → option_map replies.Refused (refusal_by word args) ≡ Some reply → IsReply (word ∷ args) reply
refused_only word args reply is =
    let m = map_parts replies.Refused (refusal_by word args) reply is in
    let read = refusal_only word args m.0 m.1 in
    subst (IsReply (word ∷ args)) m.2 read

reserved_by : (a : Bool) (key word pages : List ℕ) (reply : ActReply)
    → bytes_eq word (codes "pages") ≡ a
    → (if a then option_map reserved (both (short key) (numbers_of (2 ^ 32) pages)) else None) ≡ Some reply
    → IsReply (codes "key" ∷ key ∷ word ∷ pages ∷ []) reply
reserved_by true key word pages reply u is =
    let m = map_parts reserved (both (short key) (numbers_of (2 ^ 32) pages)) reply is in
    let parts = both_parts (short key) (numbers_of (2 ^ 32) pages) m.0 m.1 in
    let number = short_only key m.0.0 parts.0 in
    let list = numbers_only (2 ^ 32) pages m.0.1 (omega arith) parts.1 in
    let this = same_bytes word (codes "pages") u in
    subst (IsReply (codes "key" ∷ key ∷ word ∷ pages ∷ [])) m.2 (λ i. codes "key" ∷ number.0 i ∷ this i ∷ list i ∷ [], (number.1, numbers_range (2 ^ 32) pages m.0.1 parts.1))
reserved_by false key word pages reply u is = no_more reply is

geometry_only : (a b c d : List ℕ) (size : Geometry) → option_map geometry (four a b c d) ≡ Some size
    → (a ≡ decimal size.width) × (b ≡ decimal size.height) × (c ≡ decimal size.format) × (d ≡ decimal size.bytes) × GeometryInRange size
geometry_only a b c d size is =
    let m = map_parts geometry (four a b c d) size is in
    let parts = both_parts (two a b) (two c d) m.0 m.1 in
    let first = two_only a b m.0.0 parts.0 in
    let second = two_only c d m.0.1 parts.1 in
    subst (λ s. (a ≡ decimal s.width) × (b ≡ decimal s.height) × (c ≡ decimal s.format) × (d ≡ decimal s.bytes) × GeometryInRange s) m.2
    (first.0, first.1, second.0, second.1, (first.2, first.3, second.2, second.3))

imported_by : (a : Bool) (key word width height format bytes more pages : List ℕ) (reply : ActReply)
    → (bytes_eq word (codes "size") && bytes_eq more (codes "pages")) ≡ a
    → (if a then option_map imported (both (both (short key) (option_map geometry (four width height format bytes))) (numbers_of (2 ^ 32) pages)) else None) ≡ Some reply
    → IsReply (codes "key" ∷ key ∷ word ∷ width ∷ height ∷ format ∷ bytes ∷ more ∷ pages ∷ []) reply
imported_by true key word width height format bytes more pages reply u is =
    let m = map_parts imported (both (both (short key) (option_map geometry (four width height format bytes))) (numbers_of (2 ^ 32) pages)) reply is in
    let parts = both_parts (both (short key) (option_map geometry (four width height format bytes))) (numbers_of (2 ^ 32) pages) m.0 m.1 in
    let front = both_parts (short key) (option_map geometry (four width height format bytes)) m.0.0 parts.0 in
    let number = short_only key m.0.0.0 front.0 in
    let size = geometry_only width height format bytes m.0.0.1 front.1 in
    let list = numbers_only (2 ^ 32) pages m.0.1 (omega arith) parts.1 in
    let these = and_parts (bytes_eq word (codes "size")) (bytes_eq more (codes "pages")) u in
    let first = same_bytes word (codes "size") these.0 in
    let second = same_bytes more (codes "pages") these.1 in
    subst (IsReply (codes "key" ∷ key ∷ word ∷ width ∷ height ∷ format ∷ bytes ∷ more ∷ pages ∷ [])) m.2
    (λ i. codes "key" ∷ number.0 i ∷ first i ∷ size.0 i ∷ size.1 i ∷ size.2 i ∷ size.3 i ∷ second i ∷ list i ∷ [], (number.1, size.4, numbers_range (2 ^ 32) pages m.0.1 parts.1))
imported_by false key word width height format bytes more pages reply u is = no_more reply is

keyed_only : (args : List (List ℕ)) (reply : ActReply) → keyed_of args ≡ Some reply → IsReply (codes "key" ∷ args) reply
unfolding keyed_of reserved_of imported_of
keyed_only (key ∷ word ∷ pages ∷ []) reply is = reserved_by (bytes_eq word (codes "pages")) key word pages reply refl is
keyed_only (key ∷ word ∷ width ∷ height ∷ format ∷ bytes ∷ more ∷ pages ∷ []) reply is =
    imported_by (bytes_eq word (codes "size") && bytes_eq more (codes "pages")) key word width height format bytes more pages reply refl is
keyed_only args reply is = no_more reply is

events_by : (a b : Bool) (bit : List ℕ) (reply : ActReply)
    → bytes_eq bit (codes "0") ≡ a
    → bytes_eq bit (codes "1") ≡ b
    → (if a then Some (replies.Events false) else if b then Some (replies.Events true) else None) ≡ Some reply
    → IsReply (codes "events" ∷ bit ∷ []) reply
events_by true b bit reply u v is =
    subst (λ w. IsReply (codes "events" ∷ w ∷ []) reply) (sym (same_bytes bit (codes "0") u)) (subst (IsReply (codes "events" ∷ codes "0" ∷ [])) (some_is (replies.Events false) reply is) (refl, tt))
events_by false true bit reply u v is =
    subst (λ w. IsReply (codes "events" ∷ w ∷ []) reply) (sym (same_bytes bit (codes "1") v)) (subst (IsReply (codes "events" ∷ codes "1" ∷ [])) (some_is (replies.Events true) reply is) (refl, tt))
events_by false false bit reply u v is = no_more reply is

events_only : (args : List (List ℕ)) (reply : ActReply) → events_of args ≡ Some reply → IsReply (codes "events" ∷ args) reply
unfolding events_of
events_only [] reply is = no_more reply is
events_only (bit ∷ []) reply is = events_by (bytes_eq bit (codes "0")) (bytes_eq bit (codes "1")) bit reply refl refl is
events_only (bit ∷ more ∷ args) reply is = no_more reply is

given_named_by : (a b c d : Bool) (word : List ℕ) (args : List (List ℕ)) (reply : ActReply)
    → bytes_eq word (codes "key") ≡ a
    → bytes_eq word (codes "bytes") ≡ b
    → bytes_eq word (codes "token") ≡ c
    → bytes_eq word (codes "events") ≡ d
    → (if a then keyed_of args else if b then loaded_of args else if c then option_map replies.Exported (one_number args) else if d then events_of args else option_map replies.Refused (refusal_by word args)) ≡ Some reply
    → IsReply (word ∷ args) reply
given_named_by true b c d word args reply u v w x is = named IsReply word (codes "key") args reply u (keyed_only args reply is)
given_named_by false true c d word args reply u v w x is = named IsReply word (codes "bytes") args reply v (loaded_only args reply is)
given_named_by false false true d word args reply u v w x is = named IsReply word (codes "token") args reply w (exported_only args reply is)
given_named_by false false false true word args reply u v w x is = named IsReply word (codes "events") args reply x (events_only args reply is)
given_named_by false false false false word args reply u v w x is = refused_only word args reply is

given_only : (word : List ℕ) (args : List (List ℕ)) (reply : ActReply) → given_by word args ≡ Some reply → IsReply (word ∷ args) reply
unfolding given_by
given_only word args reply is = given_named_by (bytes_eq word (codes "key")) (bytes_eq word (codes "bytes")) (bytes_eq word (codes "token")) (bytes_eq word (codes "events")) word args reply refl refl refl refl is

named_by : (a b c : Bool) (word : List ℕ) (args : List (List ℕ)) (reply : ActReply)
    → bytes_eq word (codes "ok") ≡ a
    → bytes_eq word (codes "kept") ≡ b
    → bytes_eq word (codes "last") ≡ c
    → (if a then alone replies.Ok args else if b then alone replies.Kept args else if c then alone replies.Last args else given_by word args) ≡ Some reply
    → IsReply (word ∷ args) reply
named_by true b c word args reply u v w is = named_alone IsReply word (codes "ok") args replies.Ok reply u is (refl, tt)
named_by false true c word args reply u v w is = named_alone IsReply word (codes "kept") args replies.Kept reply v is (refl, tt)
named_by false false true word args reply u v w is = named_alone IsReply word (codes "last") args replies.Last reply w is (refl, tt)
named_by false false false word args reply u v w is = given_only word args reply is

pub reply_only : (reply : ActReply) (words : List (List ℕ)) → reply_of words ≡ Some reply → (words ≡ reply_words reply) × ReplyInRange reply
unfolding reply_by
reply_only reply [] is = no_more reply is
reply_only reply (word ∷ args) is = named_by (bytes_eq word (codes "ok")) (bytes_eq word (codes "kept")) (bytes_eq word (codes "last")) word args reply refl refl refl is

-- Pages and their text.
pub pages_text_back : (pages : List ℕ) → AreBelow (2 ^ 32) pages → numbers_of (2 ^ 32) (pages_text pages) ≡ Some pages
pages_text_back pages r = ap (numbers_of (2 ^ 32)) (pages_numbers pages) ∙ pages_back pages r

pub pages_text_only : (word pages : List ℕ) → numbers_of (2 ^ 32) word ≡ Some pages → (word ≡ pages_text pages) × AreBelow (2 ^ 32) pages
pages_text_only word pages is = (numbers_only (2 ^ 32) word pages (omega arith) is ∙ sym (pages_numbers pages), numbers_range (2 ^ 32) word pages is)
