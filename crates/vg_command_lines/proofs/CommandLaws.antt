-- A request, a reply to a command, and their words.
use Rattle.std.proofs.Common.{◌≡◌, ℕ, ◌≤◌, ◌^◌, Bool, true, false, List, [], ◌∷◌, length, bytes_eq, codes, cond, Some, None, option_map, arith, refl, sym, ap, ◌∙◌, subst, append_assoc}
use Rattle.std.proofs.lemmas.Bool.{and_from}
use Rattle.std.proofs.lemmas.List.Sums.{AllPass-from_list_all}
use Rattle.std.specs.List.{All, list_all, join_with_byte}
use Rattle.vg_laws.proofs.Lists.{same_bytes}
use Rattle.vg_laws.proofs.Options.{some_is}
use Rattle.vg_chain.specs.declared.shape.Shape.{Shape}
use Rattle.vg_device.specs.declared.request.Request.{Request}
use Rattle.vg_device.specs.declared.request.Reply.{Reply}
use Rattle.vg_device.specs.declared.request.Reply.TheVariants.{Fault, Response}
use Rattle.vg_machine.specs.Lines.{reply_text, request_text}
use Rattle.vg_text.specs.Text.{hex_text}
use Rattle.vg_line_words.specs.Words.{AreBelow, bytes_of, bytes_within, is_plain, number_of, parts_at}
use Rattle.vg_line_words.proofs.HexLaws.{bytes_back, bytes_read, plain_bytes, within_few, within_parts}
use Rattle.vg_line_words.proofs.NumberLaws.{number_back, number_only, number_range, plain_decimal}
use Rattle.vg_act_lines.specs.Read.{both}
use Rattle.vg_command_lines.specs.Ranges.{CommandReplyInRange, RequestInRange}
use Rattle.vg_command_lines.specs.Read.{command_reply_of, layout_of, request, request_of, ticket_of}
use Rattle.vg_command_lines.specs.Shapes.{fault_of, shape_of}
use Rattle.vg_command_lines.specs.Words.{command_reply_words, request_words}
use Rattle.vg_act_lines.proofs.PartLaws.{both_parts, last_plain, line_parts, map_parts}
use Rattle.vg_command_lines.proofs.ShapeLaws.{fault_back, fault_only, plain_fault, plain_shape, shape_back, shape_only}

bytes_said : (most : ℕ) (bytes : List ℕ) → AreBelow 256 bytes → length bytes ≤ most → bytes_within most (hex_text bytes) ≡ Some bytes
bytes_said most bytes are few = within_few most (hex_text bytes) bytes (bytes_back bytes are) few

-- what a word of bytes has
record HasBytes (most : ℕ) (word bytes : List ℕ) : Type 0 where
  is : word ≡ hex_text bytes
  are : AreBelow 256 bytes
  few : length bytes ≤ most

has_bytes : (most : ℕ) (word bytes : List ℕ) → bytes_within most word ≡ Some bytes → HasBytes most word bytes
has_bytes most word bytes said =
    let within = within_parts most (bytes_of word) bytes said in
    let read = bytes_read word bytes within.0 in
    record { is = read.0; are = read.1; few = within.1 }

-- ---- requests

pub text_request : (request : Request) → request_text request ≡ join_with_byte 32 (request_words request)
unfolding request_text
text_request request = simp append_assoc

pub plain_request : (request : Request) → RequestInRange request → All (λ w. is_plain w ≡ true) (request_words request)
plain_request request r =
    AllPass-from_list_all is_plain (request_words request)
    (and_from _ _ (plain_decimal request.lane (omega (arith, r.lane)))
    (and_from _ _ (plain_decimal request.ordinal (omega (arith, r.ordinal)))
    (and_from _ _ (plain_decimal request.room (omega (arith, r.room)))
    (and_from _ _ (plain_shape request.shape r.shape)
    (last_plain _ (plain_bytes request.bytes r.bytes))))))

pub request_said : (request : Request) → RequestInRange request → request_of (request_words request) ≡ Some request
unfolding request_of
request_said asked r =
    (λ i. option_map request (both
    (both (both (number_back 66 asked.lane r.lane (omega arith) i) (number_back (2 ^ 63) asked.ordinal r.ordinal (omega arith) i))
    (both (number_back 8193 asked.room (omega (arith, r.room)) (omega arith) i) (shape_back asked.shape r.shape i)))
    (bytes_said 49152 asked.bytes r.bytes r.few i)))
    ∙ ap (λ queue. let one : Request = record asked { queue = queue } in Some one) (sym r.queue)

request_parts : (request : Request) → RequestInRange request → parts_at 32 (join_with_byte 32 (request_words request)) ≡ request_words request
request_parts request r = line_parts (request_words request) (λ none. absurd cc) (plain_request request r)

pub request_back : (request : Request) → RequestInRange request → request_of (parts_at 32 (request_text request)) ≡ Some request
request_back request r = ap (λ t. request_of (parts_at 32 t)) (text_request request) ∙ ap request_of (request_parts request r) ∙ request_said request r

pub one_request : (a b : Request) → RequestInRange a → RequestInRange b → request_text a ≡ request_text b → a ≡ b
one_request a b r s same = some_is a b (sym (request_back a r) ∙ ap (λ t. request_of (parts_at 32 t)) same ∙ request_back b s)

abbrev IsRequest : List (List ℕ) → Request → Type 0
IsRequest words request = (words ≡ request_words request) × RequestInRange request

-- what five words say
five_only : (lane ordinal room shape hex : List ℕ) (says : ((ℕ × ℕ) × (ℕ × Shape)) × List ℕ)
    → both (both (ticket_of lane ordinal) (layout_of room shape)) (bytes_within 49152 hex) ≡ Some says
    → IsRequest (lane ∷ ordinal ∷ room ∷ shape ∷ hex ∷ []) (request says)
five_only lane ordinal room shape hex says is =
    let parts = both_parts (both (ticket_of lane ordinal) (layout_of room shape)) (bytes_within 49152 hex) says is in
    let front = both_parts (ticket_of lane ordinal) (layout_of room shape) says.0 parts.0 in
    let ticket = both_parts (number_of 66 lane) (number_of (2 ^ 63) ordinal) says.0.0 front.0 in
    let layout = both_parts (number_of 8193 room) (shape_of shape) says.0.1 front.1 in
    let bytes = has_bytes 49152 hex says.1 parts.1 in
    let shaped = shape_only says.0.1.1 shape layout.1 in
    let in_room = number_range 8193 says.0.1.0 room layout.0 in
    let e0 = number_only 66 says.0.0.0 lane (omega arith) ticket.0 in
    let e1 = number_only (2 ^ 63) says.0.0.1 ordinal (omega arith) ticket.1 in
    let e2 = number_only 8193 says.0.1.0 room (omega arith) layout.0 in
    let e3 = shaped.0 in
    let e4 = bytes.is in (
      (λ i. e0 i ∷ e1 i ∷ e2 i ∷ e3 i ∷ e4 i ∷ []),
      record {
        lane = number_range 66 says.0.0.0 lane ticket.0;
        queue = refl;
        ordinal = number_range (2 ^ 63) says.0.0.1 ordinal ticket.1;
        room = omega (arith, in_room);
        shape = shaped.1;
        bytes = bytes.are;
        few = bytes.few;
      },
    )

pub request_only : (request : Request) (words : List (List ℕ)) → request_of words ≡ Some request → IsRequest words request
unfolding request_of
request_only asked [] is = absurd cc
request_only asked (a ∷ []) is = absurd cc
request_only asked (a ∷ b ∷ []) is = absurd cc
request_only asked (a ∷ b ∷ c ∷ []) is = absurd cc
request_only asked (a ∷ b ∷ c ∷ d ∷ []) is = absurd cc
request_only asked (lane ∷ ordinal ∷ room ∷ shape ∷ hex ∷ []) is =
    let parts = map_parts request (both (both (ticket_of lane ordinal) (layout_of room shape)) (bytes_within 49152 hex)) asked is in
    subst (IsRequest (lane ∷ ordinal ∷ room ∷ shape ∷ hex ∷ [])) parts.2 (five_only lane ordinal room shape hex parts.0 parts.1)
request_only asked (a ∷ b ∷ c ∷ d ∷ e ∷ f ∷ more) is = absurd cc

-- ---- replies

pub text_reply : (reply : Reply) → reply_text reply ≡ join_with_byte 32 (command_reply_words reply)
text_reply (Response bytes) = refl
text_reply (Fault fault) = refl

are_plain : (reply : Reply) → CommandReplyInRange reply → list_all is_plain (command_reply_words reply) ≡ true
unfolding is_plain
are_plain (Response bytes) r = last_plain _ (plain_bytes bytes r.0)
are_plain (Fault fault) r = last_plain _ (plain_fault fault)

pub plain_reply : (reply : Reply) → CommandReplyInRange reply → All (λ w. is_plain w ≡ true) (command_reply_words reply)
plain_reply reply r = AllPass-from_list_all is_plain (command_reply_words reply) (are_plain reply r)

pub reply_said : (reply : Reply) → CommandReplyInRange reply → command_reply_of (command_reply_words reply) ≡ Some reply
unfolding command_reply_of
reply_said (Response bytes) r = ap (option_map Response) (bytes_said 8192 bytes r.0 r.1)
reply_said (Fault fault) r = ap (option_map Fault) (fault_back fault)

some_words : (reply : Reply) → command_reply_words reply ≡ [] → ⊥
some_words (Response bytes) none = absurd cc
some_words (Fault fault) none = absurd cc

pub reply_back : (reply : Reply) → CommandReplyInRange reply → command_reply_of (parts_at 32 (reply_text reply)) ≡ Some reply
reply_back reply r =
    ap (λ t. command_reply_of (parts_at 32 t)) (text_reply reply)
    ∙ ap command_reply_of (line_parts (command_reply_words reply) (some_words reply) (plain_reply reply r)) ∙ reply_said reply r

pub one_reply : (a b : Reply) → CommandReplyInRange a → CommandReplyInRange b → reply_text a ≡ reply_text b → a ≡ b
one_reply a b r s same = some_is a b (sym (reply_back a r) ∙ ap (λ t. command_reply_of (parts_at 32 t)) same ∙ reply_back b s)

abbrev IsReply : List (List ℕ) → Reply → Type 0
IsReply words reply = (words ≡ command_reply_words reply) × CommandReplyInRange reply

fault_reply : (word shape : List ℕ) (reply : Reply) (b : Bool) → bytes_eq word (codes "fault") ≡ b
    → cond b (option_map Fault (fault_of shape)) None ≡ Some reply → IsReply (word ∷ shape ∷ []) reply
fault_reply word shape reply true same is =
    let parts = map_parts Fault (fault_of shape) reply is in
    let first = same_bytes word (codes "fault") same in
    let second = fault_only shape parts.0 parts.1 in
    subst (IsReply (word ∷ shape ∷ [])) parts.2 ((λ i. first i ∷ second i ∷ []), tt)
fault_reply word shape reply false same is = absurd cc

pub reply_only : (reply : Reply) (words : List (List ℕ)) → command_reply_of words ≡ Some reply → IsReply words reply
unfolding command_reply_of
reply_only reply [] is = absurd cc
reply_only reply (hex ∷ []) is =
    let parts = map_parts Response (bytes_within 8192 hex) reply is in
    let bytes = has_bytes 8192 hex parts.0 parts.1 in
    subst (IsReply (hex ∷ [])) parts.2 (ap (λ w. w ∷ []) bytes.is, (bytes.are, bytes.few))
reply_only reply (word ∷ shape ∷ []) is = fault_reply word shape reply (bytes_eq word (codes "fault")) refl is
reply_only reply (a ∷ b ∷ c ∷ more) is = absurd cc
