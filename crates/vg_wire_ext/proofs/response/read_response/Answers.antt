use Rattle.std.proofs.Common.{◌≡◌, ◌∙◌, sym, ap, Some, Option, arith, length, refl, ℕ, ◌<◌, List}
use Rattle.std.proofs.lemmas.Slice.Eq.{bytes_eq-Decides}
use Rattle.vg_wire.specs.declared.header.Header.{Header}
use Rattle.vg_wire_ext.specs.declared.response.Response.{Response}
use Rattle.vg_wire.specs.Header.{header_of}
use Rattle.vg_wire_ext.specs.Response.{body_of, response_bytes}
use Rattle.vg_wire_ext.proofs.ResponseLemmas.{Found, spelled-found, body_of-valid}
use Rattle.vg_wire_ext.proofs.response.read_response.Goals as goal

pub returns-in_default-clause-only : goal.returns-in_default-clause-only
returns-in_default-clause-only c = λ header response good fits spells.
    let found = spelled-found c.args.bytes.now header response good fits spells in
    let short : length c.args.bytes.now < 24 = c.in_default.ensures.short.0 refl in
    absurd (omega (arith, found.long))

-- the header and the response that were read are those that the bytes spell
same_header : (bytes : List ℕ) (read header : Header) (response : Response) → read ≡ header_of bytes → Found bytes header response → read ≡ header
same_header bytes read header response fields found = fields ∙ found.header_is

same_body : (bytes : List ℕ) (read header : Header) (body : Option Response) (response : Response) → read ≡ header_of bytes → body ≡ body_of read.kind bytes → Found bytes header response → body ≡ Some response
same_body bytes read header body response fields is found = is ∙ ap (λ (h : Header). body_of h.kind bytes) fields ∙ found.body_is

pub returns-in_default-2-clause-only : goal.returns-in_default-2-clause-only
returns-in_default-2-clause-only c = λ header response good fits spells.
    let found = spelled-found c.args.bytes.now header response good fits spells in
    let same = same_body c.args.bytes.now c.in-Some.header header c.in_ok-response.field-0 response c.in-Some.ensures.fields c.in_ok-response.ensures.value found in
    let none = c.in_default-2.is in
    cc (same, none)

pub write_response-requires : goal.write_response-requires
write_response-requires c = (body_of-valid c.in-Some.header.kind c.args.bytes.now c.in-Some-2.response (sym c.in_ok-response.ensures.value ∙ c.in-Some-2.is)).1

pub returns-then-eq : goal.returns-then-eq
returns-then-eq c =
    let good = body_of-valid c.in-Some.header.kind c.args.bytes.now c.in-Some-2.response (sym c.in_ok-response.ensures.value ∙ c.in-Some-2.is) in
    let same = (bytes_eq-Decides c.as_slice.result.now c.args.bytes.now).0 (sym c.eq.ensures ∙ c.if-eq.true) in
    record {
      found = record { valid = good.0; kind = good.1; spelled = sym same ∙ c.as_slice.ensures.value ∙ c.in_ok-spelled.ensures };
      only = λ header response good fits spells.
          let found = spelled-found c.args.bytes.now header response good fits spells in
          let head = same_header c.args.bytes.now c.in-Some.header header response c.in-Some.ensures.fields found in
          let body = same_body c.args.bytes.now c.in-Some.header header c.in_ok-response.field-0 response c.in-Some.ensures.fields c.in_ok-response.ensures.value found in
          let read = c.in-Some-2.is in
          cc (head, body, read);
      memory = tt;
    }

pub returns-else-eq-clause-only : goal.returns-else-eq-clause-only
returns-else-eq-clause-only c = λ header response good fits spells.
    let found = spelled-found c.args.bytes.now header response good fits spells in
    let head = same_header c.args.bytes.now c.in-Some.header header response c.in-Some.ensures.fields found in
    let body = same_body c.args.bytes.now c.in-Some.header header c.in_ok-response.field-0 response c.in-Some.ensures.fields c.in_ok-response.ensures.value found in
    let read = c.in-Some-2.is in
    let response_is : c.in-Some-2.response ≡ response = cc (body, read) in
    let spelled : c.as_slice.result.now ≡ c.args.bytes.now = c.as_slice.ensures.value ∙ c.in_ok-spelled.ensures ∙ ap (λ (h : Header). response_bytes h c.in-Some-2.response) head ∙ ap (response_bytes header) response_is ∙ sym spells.spelled in
    let yes = (bytes_eq-Decides c.as_slice.result.now c.args.bytes.now).1 spelled in
    let is = c.eq.ensures in
    let no = c.if-eq.false in
    cc (yes, is, no)
