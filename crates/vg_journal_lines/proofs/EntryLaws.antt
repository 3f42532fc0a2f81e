-- An entry's line and its words.
use Rattle.std.proofs.Common.{◌≡◌, ℕ, ◌+◌, ◌≤◌, ◌^◌, Bool, true, false, List, [], ◌∷◌, ◌++◌, decimal, bytes_eq, codes, if◌then◌else◌, Option, Some, None, option_map, option_and_then, arith, refl, sym, ap, ◌∙◌, subst, append_assoc}
use Rattle.std.proofs.lemmas.Bool.{false_from_ne_true}
use Rattle.std.proofs.lemmas.List.{append_cancel_right}
use Rattle.std.proofs.lemmas.List.Elements.{All-head, All-tail, All-cons, All-append, All-nil, All-weaker}
use Rattle.std.proofs.lemmas.Slice.Eq.{bytes_eq-Decides}
use Rattle.std.specs.List.{All}
use Rattle.vg_laws.proofs.Lists.{same_bytes}
use Rattle.vg_laws.proofs.Options.{some_is}
use Rattle.vg_history.specs.declared.entry.Entry.TheVariants as entries
use Rattle.vg_history.specs.Lines.{entry_line}
use Rattle.vg_client_holds.specs.declared.act.Act.{Act}
use Rattle.vg_client_holds.specs.declared.act.Act.TheVariants.{Enter, Reserve, Store, Load, Export, Import, Release, Free, Take, Drop, Await, Denied, Mode, Unplug, Sync, Events, Ack, Leave}
use Rattle.vg_client_holds.specs.declared.act.ActReply.{ActReply}
use Rattle.vg_client_holds.specs.declared.act.ActReply.TheVariants as act_replies
use Rattle.vg_share.specs.declared.share.ShareRefusal.{ShareRefusal}
use Rattle.vg_share.specs.declared.share.ShareRefusal.TheVariants.{GuestFull, UnknownKey, NotHeld, ScanoutHeld, OutOfRange, InUse, ResourceLive}
use Rattle.vg_device.specs.declared.request.Request.{Request}
use Rattle.vg_device.specs.declared.request.Reply.{Reply}
use Rattle.vg_device.specs.declared.request.Reply.TheVariants.{Fault, Response}
use Rattle.vg_machine.specs.Entries.{Entry}
use Rattle.vg_machine.specs.Lines.{reply_text, request_text, rest_of_act, rest_of_command}
use Rattle.vg_journal.specs.Text as journal
use Rattle.vg_line_words.specs.Words.{is_plain, lacks, number_of, parts_at}
use Rattle.vg_line_words.proofs.NumberLaws.{number_back, number_only, number_range, plain_decimal}
use Rattle.vg_line_words.proofs.PlainLemmas.{plain_blank, plain_line_end, plain_other}
use Rattle.vg_act_lines.specs.Words.{act_words, refusal_words, reply_words}
use Rattle.vg_act_lines.specs.Read.{act_of, both, reply_of}
use Rattle.vg_act_lines.proofs.PartLaws.{both_parts, map_parts, no_more, then_parts}
use Rattle.vg_act_lines.proofs.ActLaws.{act_only, act_said, plain_act, text_act}
use Rattle.vg_act_lines.proofs.ReplyLaws as replies
use Rattle.vg_command_lines.specs.Words.{command_reply_words, request_words}
use Rattle.vg_command_lines.specs.Read.{command_reply_of, request_of}
use Rattle.vg_command_lines.specs.Ranges.{CommandReplyInRange, RequestInRange}
use Rattle.vg_journal_lines.specs.Words.{joined, line_of}
use Rattle.vg_journal_lines.specs.Read.{from_one, is_this}
use Rattle.vg_journal_lines.specs.Ranges.{IsCount}
use Rattle.vg_journal_lines.specs.Entries.{EntryInRange, Sides, act_entry, act_in, and_before, command_entry, command_in, entry_by, entry_of, entry_words, sides, who_of}
use Rattle.vg_journal_lines.proofs.TestLaws.{from_one_back, from_one_only, passes, this_back, this_only}
use Rattle.vg_journal_lines.proofs.JoinLemmas.{AreWords, HasWord, joined_both, joined_more, words_line, words_parts}
use Rattle.vg_limits.specs.Limits.{version_2}

-- What is known of requests and of the replies to commands.
pub record CommandsAreSaid : Type 0 where
  pub text_request : (request : Request) → request_text request ≡ joined (request_words request)
  pub text_reply : (reply : Reply) → reply_text reply ≡ joined (command_reply_words reply)
  pub plain_request : (request : Request) → RequestInRange request → All (λ w. is_plain w ≡ true) (request_words request)
  pub plain_reply : (reply : Reply) → CommandReplyInRange reply → All (λ w. is_plain w ≡ true) (command_reply_words reply)
  pub request_said : (request : Request) → RequestInRange request → request_of (request_words request) ≡ Some request
  pub reply_said : (reply : Reply) → CommandReplyInRange reply → command_reply_of (command_reply_words reply) ≡ Some reply
  pub request_only : (request : Request) (words : List (List ℕ)) → request_of words ≡ Some request → (words ≡ request_words request) × RequestInRange request
  pub reply_only : (reply : Reply) (words : List (List ℕ)) → command_reply_of words ≡ Some reply → (words ≡ command_reply_words reply) × CommandReplyInRange reply

-- There are words.
act_some : (act : Act) → HasWord (act_words act)
act_some Enter = record { word = _; more = _; is = refl }
act_some (Reserve width height format bytes) = record { word = _; more = _; is = refl }
act_some (Store key offset bytes times) = record { word = _; more = _; is = refl }
act_some (Load key offset n) = record { word = _; more = _; is = refl }
act_some (Export key) = record { word = _; more = _; is = refl }
act_some (Import token) = record { word = _; more = _; is = refl }
act_some (Release key) = record { word = _; more = _; is = refl }
act_some (Free key) = record { word = _; more = _; is = refl }
act_some (Take scanout) = record { word = _; more = _; is = refl }
act_some (Drop scanout) = record { word = _; more = _; is = refl }
act_some (Await lane ordinal) = record { word = _; more = _; is = refl }
act_some (Denied what) = record { word = _; more = _; is = refl }
act_some (Mode scanout width height) = record { word = _; more = _; is = refl }
act_some (Unplug scanout) = record { word = _; more = _; is = refl }
act_some (Sync call) = record { word = _; more = _; is = refl }
act_some Events = record { word = _; more = _; is = refl }
act_some Ack = record { word = _; more = _; is = refl }
act_some Leave = record { word = _; more = _; is = refl }

refusal_some : (refusal : ShareRefusal) → HasWord (refusal_words refusal)
refusal_some (GuestFull free) = record { word = _; more = _; is = refl }
refusal_some UnknownKey = record { word = _; more = _; is = refl }
refusal_some NotHeld = record { word = _; more = _; is = refl }
refusal_some (ScanoutHeld by) = record { word = _; more = _; is = refl }
refusal_some (OutOfRange bytes) = record { word = _; more = _; is = refl }
refusal_some (InUse scanout) = record { word = _; more = _; is = refl }
refusal_some ResourceLive = record { word = _; more = _; is = refl }

reply_some : (reply : ActReply) → HasWord (reply_words reply)
reply_some act_replies.Ok = record { word = _; more = _; is = refl }
reply_some (act_replies.Reserved key pages) = record { word = _; more = _; is = refl }
reply_some (act_replies.Bytes bytes) = record { word = _; more = _; is = refl }
reply_some (act_replies.Exported token) = record { word = _; more = _; is = refl }
reply_some (act_replies.Imported key geometry pages) = record { word = _; more = _; is = refl }
reply_some act_replies.Kept = record { word = _; more = _; is = refl }
reply_some act_replies.Last = record { word = _; more = _; is = refl }
reply_some (act_replies.Events set) = record { word = _; more = _; is = refl }
reply_some (act_replies.Refused refusal) = refusal_some refusal

request_some : (request : Request) → HasWord (request_words request)
request_some request = record { word = _; more = _; is = refl }

command_reply_some : (reply : Reply) → HasWord (command_reply_words reply)
command_reply_some (Response bytes) = record { word = _; more = _; is = refl }
command_reply_some (Fault fault) = record { word = _; more = _; is = refl }

-- The text is the words.
flat : (n client call kind says reply : List ℕ)
    → n ++ codes " " ++ client ++ codes " " ++ call ++ (32 ∷ (kind ++ codes " " ++ says ++ codes " = " ++ reply ++ codes "\n"))
    ≡ (n ++ 32 ∷ (client ++ 32 ∷ (call ++ 32 ∷ (kind ++ 32 ∷ (says ++ 32 ∷ (codes "=" ++ 32 ∷ reply)))))) ++ codes "\n"
flat n client call kind says reply = simp append_assoc

signed : (front behind : List (List ℕ)) → HasWord front → HasWord behind → joined (front ++ codes "=" ∷ behind) ≡ joined front ++ 32 ∷ (codes "=" ++ 32 ∷ joined behind)
signed front behind first last =
    joined_both front (codes "=" ∷ behind) first (record { word = codes "="; more = behind; is = refl })
    ∙ ap (λ l. joined front ++ 32 ∷ l) (joined_more (codes "=") behind last)

has_front : (front words : List (List ℕ)) → HasWord front → HasWord (front ++ words)
has_front front words some = record { word = some.word; more = some.more ++ words; is = ap (λ ws. ws ++ words) some.is }

-- Four words, and those on both sides of `=`.
entry_joined : (n client call kind : List ℕ) (front behind : List (List ℕ)) → HasWord front → HasWord behind
    → joined (n ∷ client ∷ call ∷ kind ∷ (front ++ codes "=" ∷ behind))
    ≡ n ++ 32 ∷ (client ++ 32 ∷ (call ++ 32 ∷ (kind ++ 32 ∷ (joined front ++ 32 ∷ (codes "=" ++ 32 ∷ joined behind)))))
entry_joined n client call kind front behind first last =
    ap (λ l. n ++ 32 ∷ (client ++ 32 ∷ (call ++ 32 ∷ l))) (joined_more kind (front ++ codes "=" ∷ behind) (has_front front (codes "=" ∷ behind) first) ∙ ap (λ l. kind ++ 32 ∷ l) (signed front behind first last))

pub text_entry : CommandsAreSaid → (n : ℕ) (entry : Entry) → journal.entry_line n entry ≡ line_of (entry_words n entry)
unfolding entry_line rest_of_act rest_of_command
text_entry commands n (entries.Act client call act reply) =
    (λ i. decimal n ++ codes " " ++ decimal client ++ codes " " ++ decimal call ++ (codes " act " ++ text_act act i ++ codes " = " ++ replies.text_reply reply i ++ codes "\n"))
    ∙ flat (decimal n) (decimal client) (decimal call) (codes "act") (joined (act_words act)) (joined (reply_words reply))
    ∙ ap (λ l. l ++ codes "\n") (sym (entry_joined (decimal n) (decimal client) (decimal call) (codes "act") (act_words act) (reply_words reply) (act_some act) (reply_some reply)))
text_entry commands n (entries.Command client call request reply) =
    (λ i. decimal n ++ codes " " ++ decimal client ++ codes " " ++ decimal call ++ (codes " cmd " ++ commands.text_request request i ++ codes " = " ++ commands.text_reply reply i ++ codes "\n"))
    ∙ flat (decimal n) (decimal client) (decimal call) (codes "cmd") (joined (request_words request)) (joined (command_reply_words reply))
    ∙ ap (λ l. l ++ codes "\n") (sym (entry_joined (decimal n) (decimal client) (decimal call) (codes "cmd") (request_words request) (command_reply_words reply) (request_some request) (command_reply_some reply)))

-- Cut at the first `=`.
not_sign : (word : List ℕ) → is_plain word ≡ true → bytes_eq word (codes "=") ≡ false
not_sign word plain = false_from_ne_true _ (λ is. plain_other word plain ((bytes_eq-Decides word (codes "=")).0 is))

pub sides_back : (front behind : List (List ℕ)) → All (λ w. is_plain w ≡ true) front → sides (front ++ codes "=" ∷ behind) ≡ Some (front, behind)
unfolding sides
sides_back [] behind are = refl
sides_back (word ∷ front) behind are =
    ap (λ b. if b then Some ([], front ++ codes "=" ∷ behind) else and_before (word ∷ []) (sides (front ++ codes "=" ∷ behind))) (not_sign word (All-head (λ w. is_plain w ≡ true) word front are))
    ∙ ap (and_before (word ∷ [])) (sides_back front behind (All-tail (λ w. is_plain w ≡ true) word front are))

before_parts : (front : List (List ℕ)) (o : Option Sides) (both : Sides) → and_before front o ≡ Some both → (s : Sides) × (o ≡ Some s) × ((front ++ s.0, s.1) ≡ both)
before_parts front None both is = absurd cc
before_parts front (Some s) both is = (s, refl, some_is _ both is)

sides_by : (b : Bool) (word : List ℕ) (words : List (List ℕ)) (both : Sides) → bytes_eq word (codes "=") ≡ b
    → ((s : Sides) → sides words ≡ Some s → words ≡ s.0 ++ codes "=" ∷ s.1)
    → (if b then Some ([], words) else and_before (word ∷ []) (sides words)) ≡ Some both → word ∷ words ≡ both.0 ++ codes "=" ∷ both.1
sides_by true word words both sign more is =
    let this = same_bytes word (codes "=") sign in
    ap (λ w. w ∷ words) this ∙ ap (λ s. s.0 ++ codes "=" ∷ s.1) (some_is ([], words) both is)
sides_by false word words both sign more is =
    let rest = before_parts (word ∷ []) (sides words) both is in
    ap (λ ws. word ∷ ws) (more rest.0 rest.1) ∙ ap (λ s. s.0 ++ codes "=" ∷ s.1) rest.2

sides_only : (words : List (List ℕ)) (both : Sides) → sides words ≡ Some both → words ≡ both.0 ++ codes "=" ∷ both.1
unfolding sides
sides_only [] both is = no_more both is
sides_only (word ∷ words) both is = sides_by (bytes_eq word (codes "=")) word words both refl (λ s said. sides_only words s said) is

-- The client and its own number.
who_back : (n clients client call : ℕ) → clients ≤ version_2.clients + 1 → IsCount n → 1 ≤ client → client ≤ clients → IsCount call → who_of n clients (decimal n) (decimal client) (decimal call) ≡ Some (client, call)
who_back n clients client call most small some few count =
    ap (λ b. if b then both (from_one (clients + 1) (decimal client)) (number_of (2 ^ 63) (decimal call)) else None) (this_back n small)
    ∙ (λ i. both (from_one_back (clients + 1) client some (omega (arith, few)) (omega (arith, most)) i) (number_back (2 ^ 63) call count (omega arith) i))

record IsWho (n clients : ℕ) (number client call : List ℕ) (who : ℕ × ℕ) : Type 0 where
  number_is : number ≡ decimal n
  small : IsCount n
  client_is : client ≡ decimal who.0
  some : 1 ≤ who.0
  few : who.0 ≤ clients
  call_is : call ≡ decimal who.1
  count : IsCount who.1

who_only : (n clients : ℕ) (number client call : List ℕ) (who : ℕ × ℕ) → clients ≤ version_2.clients + 1 → who_of n clients number client call ≡ Some who → IsWho n clients number client call who
who_only n clients number client call who most is =
    let told = passes (is_this n number) (both (from_one (clients + 1) client) (number_of (2 ^ 63) call)) who is in
    let this = this_only n number told.0 in
    let parts = both_parts (from_one (clients + 1) client) (number_of (2 ^ 63) call) who told.1 in
    let first = from_one_only (clients + 1) who.0 client (omega (arith, most)) parts.0 in
    let high = first.2 in
    record {
      number_is = this.0;
      small = this.1;
      client_is = first.0;
      some = first.1;
      few = omega (arith, high);
      call_is = number_only (2 ^ 63) who.1 call (omega arith) parts.1;
      count = number_range (2 ^ 63) who.1 call parts.1;
    }

-- The words say the entry.
pub entry_back : CommandsAreSaid → (n clients : ℕ) (entry : Entry) → clients ≤ version_2.clients + 1 → IsCount n → EntryInRange clients entry → entry_of n clients (entry_words n entry) ≡ Some entry
unfolding entry_of
entry_back commands n clients (entries.Act client call act reply) most small r =
    (λ i. option_and_then (entry_by (codes "act")) (both (who_back n clients client call most small r.0 r.1 r.2 i) (sides_back (act_words act) (reply_words reply) (plain_act act r.3) i)))
    ∙ (λ i. option_map (act_entry (client, call)) (both (act_said act r.3 i) (replies.reply_said reply r.4 i)))
entry_back commands n clients (entries.Command client call request reply) most small r =
    (λ i. option_and_then (entry_by (codes "cmd")) (both (who_back n clients client call most small r.0 r.1 r.2 i) (sides_back (request_words request) (command_reply_words reply) (commands.plain_request request r.3) i)))
    ∙ (λ i. option_map (command_entry (client, call)) (both (commands.request_said request r.3 i) (commands.reply_said reply r.4 i)))

-- No other words say it.
abbrev IsEntry : ℕ → ℕ → List (List ℕ) → Entry → Type 0
IsEntry n clients words entry = (words ≡ entry_words n entry) × IsCount n × EntryInRange clients entry

act_in_only : (n clients : ℕ) (number client call : List ℕ) (who : ℕ × ℕ) (words : Sides) (entry : Entry) → IsWho n clients number client call who → act_in who words ≡ Some entry
    → IsEntry n clients (number ∷ client ∷ call ∷ codes "act" ∷ (words.0 ++ codes "=" ∷ words.1)) entry
act_in_only n clients number client call who words entry is said =
    let m = map_parts (act_entry who) (both (act_of words.0) (reply_of words.1)) entry said in
    let parts = both_parts (act_of words.0) (reply_of words.1) m.0 m.1 in
    let act = act_only m.0.0 words.0 parts.0 in
    let reply = replies.reply_only m.0.1 words.1 parts.1 in
    subst (IsEntry n clients (number ∷ client ∷ call ∷ codes "act" ∷ (words.0 ++ codes "=" ∷ words.1))) m.2
    (λ i. is.number_is i ∷ is.client_is i ∷ is.call_is i ∷ codes "act" ∷ (act.0 i ++ codes "=" ∷ reply.0 i), is.small, (is.some, is.few, is.count, act.1, reply.1))

command_in_only : CommandsAreSaid → (n clients : ℕ) (number client call : List ℕ) (who : ℕ × ℕ) (words : Sides) (entry : Entry) → IsWho n clients number client call who → command_in who words ≡ Some entry
    → IsEntry n clients (number ∷ client ∷ call ∷ codes "cmd" ∷ (words.0 ++ codes "=" ∷ words.1)) entry
command_in_only commands n clients number client call who words entry is said =
    let m = map_parts (command_entry who) (both (request_of words.0) (command_reply_of words.1)) entry said in
    let parts = both_parts (request_of words.0) (command_reply_of words.1) m.0 m.1 in
    let request = commands.request_only m.0.0 words.0 parts.0 in
    let reply = commands.reply_only m.0.1 words.1 parts.1 in
    subst (IsEntry n clients (number ∷ client ∷ call ∷ codes "cmd" ∷ (words.0 ++ codes "=" ∷ words.1))) m.2
    (λ i. is.number_is i ∷ is.client_is i ∷ is.call_is i ∷ codes "cmd" ∷ (request.0 i ++ codes "=" ∷ reply.0 i), is.small, (is.some, is.few, is.count, request.1, reply.1))

kind_by : CommandsAreSaid → (a b : Bool) (n clients : ℕ) (number client call kind : List ℕ) (who : ℕ × ℕ) (words : Sides) (entry : Entry) → IsWho n clients number client call who
    → bytes_eq kind (codes "act") ≡ a
    → bytes_eq kind (codes "cmd") ≡ b
    → (if a then act_in who words else if b then command_in who words else None) ≡ Some entry
    → IsEntry n clients (number ∷ client ∷ call ∷ kind ∷ (words.0 ++ codes "=" ∷ words.1)) entry
kind_by commands true b n clients number client call kind who words entry is u v said =
    subst (λ k. IsEntry n clients (number ∷ client ∷ call ∷ k ∷ (words.0 ++ codes "=" ∷ words.1)) entry) (sym (same_bytes kind (codes "act") u)) (act_in_only n clients number client call who words entry is said)
kind_by commands false true n clients number client call kind who words entry is u v said =
    subst (λ k. IsEntry n clients (number ∷ client ∷ call ∷ k ∷ (words.0 ++ codes "=" ∷ words.1)) entry) (sym (same_bytes kind (codes "cmd") v)) (command_in_only commands n clients number client call who words entry is said)
kind_by commands false false n clients number client call kind who words entry is u v said = no_more entry said

pub entry_only : CommandsAreSaid → (n clients : ℕ) (entry : Entry) (words : List (List ℕ)) → clients ≤ version_2.clients + 1 → entry_of n clients words ≡ Some entry → (words ≡ entry_words n entry) × IsCount n × EntryInRange clients entry
unfolding entry_of
entry_only commands n clients entry (number ∷ client ∷ call ∷ kind ∷ words) most is =
    let m = then_parts (entry_by kind) (both (who_of n clients number client call) (sides words)) entry is in
    let parts = both_parts (who_of n clients number client call) (sides words) m.0 m.1 in
    let who = who_only n clients number client call m.0.0 most parts.0 in
    subst (λ ws. IsEntry n clients (number ∷ client ∷ call ∷ kind ∷ ws) entry) (sym (sides_only words m.0.1 parts.1))
    (kind_by commands (bytes_eq kind (codes "act")) (bytes_eq kind (codes "cmd")) n clients number client call kind m.0.0 m.0.1 entry who refl refl m.2)
entry_only commands n clients entry words most is = no_more entry is

-- The words have no blank and no line end.
lacking : (p : ℕ) (n client call kind : List ℕ) (front behind : List (List ℕ)) → ((w : List ℕ) → is_plain w ≡ true → lacks p w ≡ true) → lacks p (codes "=") ≡ true
    → All (λ w. is_plain w ≡ true) (n ∷ client ∷ call ∷ kind ∷ []) → All (λ w. is_plain w ≡ true) front → All (λ w. is_plain w ≡ true) behind
    → All (λ w. lacks p w ≡ true) (n ∷ client ∷ call ∷ kind ∷ (front ++ codes "=" ∷ behind))
lacking p n client call kind front behind weaker sign four first last =
    let lacking = λ (ws : List (List ℕ)). λ (are : All (λ w. is_plain w ≡ true) ws). All-weaker (λ w. is_plain w ≡ true) (λ w. lacks p w ≡ true) weaker ws are in
    All-append (λ w. lacks p w ≡ true) (n ∷ client ∷ call ∷ kind ∷ []) (front ++ codes "=" ∷ behind) (lacking (n ∷ client ∷ call ∷ kind ∷ []) four)
    (All-append (λ w. lacks p w ≡ true) front (codes "=" ∷ behind) (lacking front first) (All-cons (λ w. lacks p w ≡ true) (codes "=") behind sign (lacking behind last)))

four_plain : (n clients client call : ℕ) (kind : List ℕ) → clients ≤ version_2.clients + 1 → IsCount n → client ≤ clients → IsCount call → is_plain kind ≡ true → All (λ w. is_plain w ≡ true) (decimal n ∷ decimal client ∷ decimal call ∷ kind ∷ [])
four_plain n clients client call kind most small few count plain =
    let P : List ℕ → Type 0 = λ w. is_plain w ≡ true in
    All-cons P (decimal n) (decimal client ∷ decimal call ∷ kind ∷ []) (plain_decimal n (omega (arith, small)))
    (All-cons P (decimal client) (decimal call ∷ kind ∷ []) (plain_decimal client (omega (arith, few, most)))
    (All-cons P (decimal call) (kind ∷ []) (plain_decimal call (omega (arith, count)))
    (All-cons P kind [] plain (All-nil P))))

plain_act_word : is_plain (codes "act") ≡ true
unfolding is_plain
plain_act_word = refl

plain_command_word : is_plain (codes "cmd") ≡ true
unfolding is_plain
plain_command_word = refl

pub entry_are_words : CommandsAreSaid → (n clients : ℕ) (entry : Entry) → clients ≤ version_2.clients + 1 → IsCount n → EntryInRange clients entry → AreWords (entry_words n entry)
entry_are_words commands n clients (entries.Act client call act reply) most small r =
    let four = four_plain n clients client call (codes "act") most small r.1 r.2 plain_act_word in
    let first = plain_act act r.3 in
    let last = replies.plain_reply reply r.4 in
    record {
      some = record { word = _; more = _; is = refl };
      blanks = lacking 32 (decimal n) (decimal client) (decimal call) (codes "act") (act_words act) (reply_words reply) plain_blank refl four first last;
      ends = lacking 10 (decimal n) (decimal client) (decimal call) (codes "act") (act_words act) (reply_words reply) plain_line_end refl four first last;
    }
entry_are_words commands n clients (entries.Command client call request reply) most small r =
    let four = four_plain n clients client call (codes "cmd") most small r.1 r.2 plain_command_word in
    let first = commands.plain_request request r.3 in
    let last = commands.plain_reply reply r.4 in
    record {
      some = record { word = _; more = _; is = refl };
      blanks = lacking 32 (decimal n) (decimal client) (decimal call) (codes "cmd") (request_words request) (command_reply_words reply) plain_blank refl four first last;
      ends = lacking 10 (decimal n) (decimal client) (decimal call) (codes "cmd") (request_words request) (command_reply_words reply) plain_line_end refl four first last;
    }

pub entry_parts : CommandsAreSaid → (n clients : ℕ) (entry : Entry) → clients ≤ version_2.clients + 1 → IsCount n → EntryInRange clients entry → parts_at 32 (joined (entry_words n entry)) ≡ entry_words n entry
entry_parts commands n clients entry most small r = words_parts (entry_words n entry) (entry_are_words commands n clients entry most small r)

pub entry_ends : CommandsAreSaid → (n clients : ℕ) (entry : Entry) → clients ≤ version_2.clients + 1 → IsCount n → EntryInRange clients entry → lacks 10 (joined (entry_words n entry)) ≡ true
entry_ends commands n clients entry most small r = words_line (entry_words n entry) (entry_are_words commands n clients entry most small r)

entry_said : CommandsAreSaid → (n clients : ℕ) (entry : Entry) → clients ≤ version_2.clients + 1 → IsCount n → EntryInRange clients entry → entry_of n clients (parts_at 32 (joined (entry_words n entry))) ≡ Some entry
entry_said commands n clients entry most small r = ap (entry_of n clients) (entry_parts commands n clients entry most small r) ∙ entry_back commands n clients entry most small r

pub one_entry : CommandsAreSaid → (n clients : ℕ) (a b : Entry) → clients ≤ version_2.clients + 1 → IsCount n → EntryInRange clients a → EntryInRange clients b → journal.entry_line n a ≡ journal.entry_line n b → a ≡ b
one_entry commands n clients a b most small r s same =
    let lines : line_of (entry_words n a) ≡ line_of (entry_words n b) = sym (text_entry commands n a) ∙ same ∙ text_entry commands n b in
    let words : joined (entry_words n a) ≡ joined (entry_words n b) = append_cancel_right (joined (entry_words n a)) (joined (entry_words n b)) (codes "\n") lines in
    some_is a b (sym (entry_said commands n clients a most small r) ∙ ap (λ l. entry_of n clients (parts_at 32 l)) words ∙ entry_said commands n clients b most small s)
