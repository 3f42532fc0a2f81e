-- The lines before the entries, and their words.
use Rattle.std.proofs.Common.{◌≡◌, inl, inr, ℕ, ◌+◌, ◌≤◌, ◌==◌, ◌&&◌, Bool, true, false, List, [], ◌∷◌, ◌++◌, bit_and, decimal, bytes_eq, codes, if◌then◌else◌, Some, None, arith, refl, sym, ap, ◌∙◌, subst, append_assoc}
use Rattle.std.proofs.lemmas.Bool.{and_from, and_parts, false≢true}
use Rattle.std.proofs.lemmas.List.Sums.{AllPass-from_list_all}
use Rattle.std.specs.List.{All, list_all}
use Rattle.vg_laws.proofs.Lists.{same_bytes}
use Rattle.vg_laws.proofs.Options.{some_is}
use Rattle.vg_client_holds.specs.Setup.{AreQueues, IsDisplay, parties}
use Rattle.vg_journal.specs.Text.{display_line, host_text, queues_text, title_text, without_line}
use Rattle.vg_line_words.specs.Words.{is_plain, number_of}
use Rattle.vg_line_words.proofs.NumberLaws.{number_back, number_only, number_range, plain_decimal}
use Rattle.vg_act_lines.specs.Read.{both}
use Rattle.vg_act_lines.proofs.PartLaws.{both_parts, last_plain, no_more}
use Rattle.vg_journal_lines.specs.declared.head.Feature.{Feature}
use Rattle.vg_journal_lines.specs.declared.head.Feature.TheVariants.{Edid, Uuid, Blob, Context}
use Rattle.vg_journal_lines.specs.declared.head.Version.{Version}
use Rattle.vg_journal_lines.specs.declared.head.Version.TheVariants.{One, Two}
use Rattle.vg_journal_lines.specs.Versions.{limits_of, queues_of, version_of}
use Rattle.vg_journal_lines.specs.Words.{clients_words, display_words, feature_name, host_words, line_of, memory_words, queues_words, title_words, version_word, without_words}
use Rattle.vg_journal_lines.specs.Read.{clients_of, display_of, feature_of, from_one, is_host, is_queues, is_this, memory_of, title_of, version_in, without_of}
use Rattle.vg_journal_lines.specs.Pieces.{host_pieces, queues_pieces, whole}
use Rattle.vg_journal_lines.specs.Ranges.{IsCount}
use Rattle.vg_journal_lines.proofs.TestLaws.{from_one_back, from_one_only, known_this, passes, this_back}
use Rattle.vg_limits.specs.Limits.{Limits, of_queues, version_1, version_2}

-- What the versions are.
pub queues_told : (queues : ℕ × ℕ) → AreQueues queues → queues_of (version_of queues) ≡ queues
queues_told queues (inl is) = subst (λ q. queues_of (version_of q) ≡ q) (sym is) refl
queues_told queues (inr is) = subst (λ q. queues_of (version_of q) ≡ q) (sym is) refl

-- In the first there is no host.
pub host_told : (queues : ℕ × ℕ) (host : Bool) → AreQueues queues → (queues ≡ (64, 16) → host ≡ false) → version_of queues ≡ One → host ≡ false
host_told queues host (inl is) none first = none is
host_told queues host (inr is) none first = let no : Two ≡ One = ap version_of (sym is) ∙ first in absurd cc

pub version_told : (version : Version) → version_of (queues_of version) ≡ version
version_told One = refl
version_told Two = refl

pub limits_back : (version : Version) → of_queues (queues_of version) ≡ limits_of version
limits_back One = refl
limits_back Two = refl

pub are_queues : (version : Version) → AreQueues (queues_of version)
are_queues One = inl refl
are_queues Two = inr refl

pub host_back_told : (version : Version) (host : Bool) → (version ≡ One → host ≡ false) → queues_of version ≡ (64, 16) → host ≡ false
host_back_told One host none first = none refl
host_back_told Two host none first = let no : 256 ≡ 64 = ap (λ (q : ℕ × ℕ). q.0) first in absurd (omega (arith, no))

limits_by : (b : Bool) → (if b then version_1 else version_2) ≡ limits_of (if b then One else Two)
limits_by true = refl
limits_by false = refl

pub limits_told : (queues : ℕ × ℕ) → of_queues queues ≡ limits_of (version_of queues)
limits_told queues = limits_by (queues.0 == 64)

-- No limit of a version is above those of the second.
pub record AreSmall (most : Limits) : Type 0 where
  pub width : most.width ≤ 1920
  pub height : most.height ≤ 1080
  pub clients : most.clients ≤ version_2.clients

pub small_limits : (version : Version) → AreSmall (limits_of version)
small_limits One = record { width = omega arith; height = omega arith; clients = omega arith }
small_limits Two = record { width = omega arith; height = omega arith; clients = omega arith }

-- With the host there is one more at the most.
pub few_parties : (version : Version) (clients : ℕ) (host : Bool) → clients ≤ (limits_of version).clients → parties clients host ≤ version_2.clients + 1
few_parties version clients true few = let small = (small_limits version).clients in omega (arith, few, small)
few_parties version clients false few = let small = (small_limits version).clients in omega (arith, few, small)

-- The title.
text_title_by : (b : Bool) → (if b then codes "vgpu-journal 1\n" else codes "vgpu-journal 2\n") ≡ line_of (title_words (if b then One else Two))
text_title_by true = refl
text_title_by false = refl

pub text_title : (queues : ℕ × ℕ) → title_text queues ≡ line_of (title_words (version_of queues))
unfolding title_text
text_title queues = text_title_by (queues.0 == 64)

pub plain_title : (version : Version) → All (λ w. is_plain w ≡ true) (title_words version)
unfolding is_plain
plain_title One = AllPass-from_list_all is_plain (title_words One) refl
plain_title Two = AllPass-from_list_all is_plain (title_words Two) refl

pub title_back : (version : Version) → title_of (title_words version) ≡ Some version
unfolding title_of
title_back One = refl
title_back Two = refl

version_by : (a b : Bool) (word : List ℕ) (version : Version)
    → bytes_eq word (codes "1") ≡ a
    → bytes_eq word (codes "2") ≡ b
    → (if a then Some One else if b then Some Two else None) ≡ Some version
    → word ≡ version_word version
version_by true b word version u v is = same_bytes word (codes "1") u ∙ ap version_word (some_is One version is)
version_by false true word version u v is = same_bytes word (codes "2") v ∙ ap version_word (some_is Two version is)
version_by false false word version u v is = no_more version is

pub title_only : (version : Version) (words : List (List ℕ)) → title_of words ≡ Some version → words ≡ title_words version
unfolding title_of
title_only version (name ∷ word ∷ []) is =
    let told = passes (bytes_eq name (codes "vgpu-journal")) (version_in word) version is in
    let first = same_bytes name (codes "vgpu-journal") told.0 in
    let second = version_by (bytes_eq word (codes "1")) (bytes_eq word (codes "2")) word version refl refl told.1 in
    λ i. first i ∷ second i ∷ []
title_only version words is = no_more version is

-- Displays.
pub text_display : (n : ℕ) (size : ℕ × ℕ) → display_line n size ≡ line_of (display_words n size)
unfolding display_line
text_display n size = simp append_assoc

module _ (version : Version) (n : ℕ) (size : ℕ × ℕ) where
  plain_sides : IsCount n → IsDisplay (limits_of version) size → list_all is_plain (display_words n size) ≡ true
  unfolding is_plain
  plain_sides small r =
      let most = small_limits version in
      let width = r.1 in
      let height = r.3 in
      let wide = most.width in
      let high = most.height in
      and_from _ _ (plain_decimal n (omega (arith, small))) (and_from _ _ (plain_decimal size.0 (omega (arith, width, wide))) (last_plain _ (plain_decimal size.1 (omega (arith, height, high)))))

  pub plain_display : IsCount n → IsDisplay (limits_of version) size → All (λ w. is_plain w ≡ true) (display_words n size)
  plain_display small r = AllPass-from_list_all is_plain (display_words n size) (plain_sides small r)

  pub display_back : IsCount n → IsDisplay (limits_of version) size → display_of (limits_of version) n (display_words n size) ≡ Some size
  unfolding display_of
  display_back small r =
      let most = limits_of version in
      let wide = (small_limits version).width in
      let tall = (small_limits version).height in
      let low : 1 ≤ size.0 = r.0 in
      let high : size.0 ≤ most.width = r.1 in
      let low' : 1 ≤ size.1 = r.2 in
      let high' : size.1 ≤ most.height = r.3 in
      let width = from_one_back (most.width + 1) size.0 low (omega (arith, high)) (omega (arith, wide)) in
      let height = from_one_back (most.height + 1) size.1 low' (omega (arith, high')) (omega (arith, tall)) in
      ap (λ b. if b then both (from_one (most.width + 1) (decimal size.0)) (from_one (most.height + 1) (decimal size.1)) else None) (this_back n small) ∙ (λ i. both (width i) (height i))

pub display_only : (version : Version) (n : ℕ) (size : ℕ × ℕ) (words : List (List ℕ)) → display_of (limits_of version) n words ≡ Some size → (words ≡ display_words n size) × IsCount n × IsDisplay (limits_of version) size
unfolding display_of
display_only version n size (word ∷ number ∷ width ∷ height ∷ []) is =
    let most = limits_of version in
    let wide = (small_limits version).width in
    let tall = (small_limits version).height in
    let told = passes (bytes_eq word (codes "display") && is_this n number) (both (from_one (most.width + 1) width) (from_one (most.height + 1) height)) size is in
    let front = known_this word (codes "display") number n told.0 in
    let sides = both_parts (from_one (most.width + 1) width) (from_one (most.height + 1) height) size told.1 in
    let first = from_one_only (most.width + 1) size.0 width (omega (arith, wide)) sides.0 in
    let second = from_one_only (most.height + 1) size.1 height (omega (arith, tall)) sides.1 in
    let high = first.2 in
    let high' = second.2 in
    (λ i. front.0 i ∷ front.1 i ∷ first.0 i ∷ second.0 i ∷ [], front.2, (first.1, omega (arith, high), second.1, omega (arith, high')))
display_only version n size words is = no_more size is

-- Pages.
pub text_memory : (pages : ℕ) → codes "memory " ++ decimal pages ++ codes "\n" ≡ line_of (memory_words pages)
text_memory pages = refl

pub plain_memory : (pages : ℕ) → pages ≤ 16384 → All (λ w. is_plain w ≡ true) (memory_words pages)
unfolding is_plain
plain_memory pages few = AllPass-from_list_all is_plain (memory_words pages) (last_plain _ (plain_decimal pages (omega (arith, few))))

pub memory_back : (pages : ℕ) → 1 ≤ pages → pages ≤ 16384 → memory_of (memory_words pages) ≡ Some pages
unfolding memory_of
memory_back pages some few = from_one_back 16385 pages some (omega (arith, few)) (omega arith)

pub memory_only : (pages : ℕ) (words : List (List ℕ)) → memory_of words ≡ Some pages → (words ≡ memory_words pages) × (1 ≤ pages) × (pages ≤ 16384)
unfolding memory_of
memory_only pages (word ∷ number ∷ []) is =
    let told = passes (bytes_eq word (codes "memory")) (from_one 16385 number) pages is in
    let this = same_bytes word (codes "memory") told.0 in
    let read = from_one_only 16385 pages number (omega arith) told.1 in
    let high = read.2 in
    (λ i. this i ∷ read.0 i ∷ [], read.1, omega (arith, high))
memory_only pages words is = no_more pages is

-- Queues.
text_queues_by : (b : Bool) → (if b then [] else codes "queues 256 64\n") ≡ whole (queues_pieces (if b then One else Two))
text_queues_by true = refl
text_queues_by false = refl

pub text_queues : (queues : ℕ × ℕ) → queues_text queues ≡ whole (queues_pieces (version_of queues))
unfolding queues_text
text_queues queues = text_queues_by (queues.0 == 64)

pub plain_queues : All (λ w. is_plain w ≡ true) queues_words
unfolding is_plain
plain_queues = AllPass-from_list_all is_plain queues_words refl

pub queues_back : is_queues queues_words ≡ true
unfolding is_queues
queues_back = refl

pub queues_only : (words : List (List ℕ)) → is_queues words ≡ true → words ≡ queues_words
unfolding is_queues
queues_only (word ∷ control ∷ cursor ∷ []) is =
    let last = and_parts (bytes_eq word (codes "queues") && bytes_eq control (codes "256")) (bytes_eq cursor (codes "64")) is in
    let two = and_parts (bytes_eq word (codes "queues")) (bytes_eq control (codes "256")) last.0 in
    let first = same_bytes word (codes "queues") two.0 in
    let second = same_bytes control (codes "256") two.1 in
    let third = same_bytes cursor (codes "64") last.1 in
    λ i. first i ∷ second i ∷ third i ∷ []
queues_only words is = absurd (false≢true is)

-- Features that are left out.
pub text_without : (accepted bit : ℕ) (feature : Feature) → without_line accepted bit (feature_name feature) ≡ (if bit_and accepted bit == 0 then line_of (without_words feature) else [])
unfolding without_line
text_without accepted bit Edid = refl
text_without accepted bit Uuid = refl
text_without accepted bit Blob = refl
text_without accepted bit Context = refl

plain_feature : (feature : Feature) → list_all is_plain (without_words feature) ≡ true
unfolding is_plain
plain_feature Edid = refl
plain_feature Uuid = refl
plain_feature Blob = refl
plain_feature Context = refl

pub plain_without : (feature : Feature) → All (λ w. is_plain w ≡ true) (without_words feature)
plain_without feature = AllPass-from_list_all is_plain (without_words feature) (plain_feature feature)

pub without_back : (feature : Feature) → without_of (without_words feature) ≡ Some feature
unfolding without_of
without_back Edid = refl
without_back Uuid = refl
without_back Blob = refl
without_back Context = refl

named_feature : (name this : List ℕ) (read feature : Feature) → bytes_eq name this ≡ true → feature_name read ≡ this → Some read ≡ Some feature → name ≡ feature_name feature
named_feature name this read feature same says is = same_bytes name this same ∙ sym says ∙ ap feature_name (some_is read feature is)

feature_by : (a b c d : Bool) (name : List ℕ) (feature : Feature)
    → bytes_eq name (codes "edid") ≡ a
    → bytes_eq name (codes "uuid") ≡ b
    → bytes_eq name (codes "blob") ≡ c
    → bytes_eq name (codes "context") ≡ d
    → (if a then Some Edid else if b then Some Uuid else if c then Some Blob else if d then Some Context else None) ≡ Some feature
    → name ≡ feature_name feature
feature_by true b c d name feature u v w x is = named_feature name (codes "edid") Edid feature u refl is
feature_by false true c d name feature u v w x is = named_feature name (codes "uuid") Uuid feature v refl is
feature_by false false true d name feature u v w x is = named_feature name (codes "blob") Blob feature w refl is
feature_by false false false true name feature u v w x is = named_feature name (codes "context") Context feature x refl is
feature_by false false false false name feature u v w x is = no_more feature is

pub without_only : (feature : Feature) (words : List (List ℕ)) → without_of words ≡ Some feature → words ≡ without_words feature
unfolding without_of
without_only feature (word ∷ name ∷ []) is =
    let told = passes (bytes_eq word (codes "without")) (feature_of name) feature is in
    let this = same_bytes word (codes "without") told.0 in
    let named = feature_by (bytes_eq name (codes "edid")) (bytes_eq name (codes "uuid")) (bytes_eq name (codes "blob")) (bytes_eq name (codes "context")) name feature refl refl refl refl told.1 in
    λ i. this i ∷ named i ∷ []
without_only feature words is = no_more feature is

-- Clients.
pub text_clients : (clients : ℕ) → codes "clients " ++ decimal clients ++ codes "\n" ≡ line_of (clients_words clients)
text_clients clients = refl

pub plain_clients : (version : Version) (clients : ℕ) → clients ≤ (limits_of version).clients → All (λ w. is_plain w ≡ true) (clients_words clients)
unfolding is_plain
plain_clients version clients few =
    let small = (small_limits version).clients in
    AllPass-from_list_all is_plain (clients_words clients) (last_plain _ (plain_decimal clients (omega (arith, few, small))))

pub clients_back : (version : Version) (clients : ℕ) → clients ≤ (limits_of version).clients → clients_of (limits_of version) (clients_words clients) ≡ Some clients
unfolding clients_of
clients_back version clients few =
    let small = (small_limits version).clients in
    number_back ((limits_of version).clients + 1) clients (omega (arith, few)) (omega (arith, small))

pub clients_only : (version : Version) (clients : ℕ) (words : List (List ℕ)) → clients_of (limits_of version) words ≡ Some clients → (words ≡ clients_words clients) × (clients ≤ (limits_of version).clients)
unfolding clients_of
clients_only version clients (word ∷ number ∷ []) is =
    let most = (limits_of version).clients in
    let small = (small_limits version).clients in
    let told = passes (bytes_eq word (codes "clients")) (number_of (most + 1) number) clients is in
    let this = same_bytes word (codes "clients") told.0 in
    let read = number_only (most + 1) clients number (omega (arith, small)) told.1 in
    let high = number_range (most + 1) clients number told.1 in
    (λ i. this i ∷ read i ∷ [], omega (arith, high))
clients_only version clients words is = no_more clients is

-- The host.
pub text_host : (host : Bool) → host_text host ≡ whole (host_pieces host)
unfolding host_text
text_host true = refl
text_host false = refl

pub plain_host : All (λ w. is_plain w ≡ true) host_words
unfolding is_plain
plain_host = AllPass-from_list_all is_plain host_words refl

pub host_back : is_host host_words ≡ true
unfolding is_host
host_back = refl

pub host_only : (words : List (List ℕ)) → is_host words ≡ true → words ≡ host_words
unfolding is_host
host_only (word ∷ []) is = let this = same_bytes word (codes "host") is in λ i. this i ∷ []
host_only words is = absurd (false≢true is)
