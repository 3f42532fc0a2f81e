-- A job that is lent stays so while what isn't blocked runs, and what it comes to in the end.
use Rattle.std.proofs.Common.{◌≡◌, ℕ, ◌==◌, ◌&&◌, not, Bool, true, false, cond, List, [], ◌∷◌, length, drop, Option, Some, None, ap, sym, ◌∙◌, refl, subst}
use Rattle.std.specs.Prelude.{bit_and, is_none, is_some, nat_le, nat_lt}
use Rattle.std.specs.Option.{unwrap_or}
use Rattle.vg_laws.proofs.Bools.{and-right}
use Rattle.vg_formats.specs.declared.rect.Rect.{Rect}
use Rattle.vg_formats.specs.declared.entry.MemEntry.{MemEntry}
use Rattle.vg_formats.specs.Pixels.{is_empty, is_inside}
use Rattle.vg_pages.specs.Memory.{Memory}
use Rattle.vg_backing.specs.Backing.{total}
use Rattle.vg_refusals.specs.Refusals.{refusal_of}
use Rattle.vg_resource.specs.declared.resource.Resource.{Resource}
use Rattle.vg_resource.specs.Resource.{resource_at, with_pixels}
use Rattle.vg_context.specs.Contexts.{is_live}
use Rattle.vg_transfer.specs.Backings.{entries_at, transfer_end, transfer_refusals, transferred}
use Rattle.vg_chain.specs.declared.shape.Shape.{Shape}
use Rattle.vg_chain.specs.declared.shape.Shape.TheVariants.{Plain, Pieces, Indirect, Mixed, Bad}
use Rattle.vg_wire.specs.declared.request.Queue.{Queue}
use Rattle.vg_wire.specs.Header.{header_of}
use Rattle.vg_wire_ext.specs.declared.response.Response.{Response}
use Rattle.vg_wire_ext.specs.declared.response.Response.TheVariants as responses
use Rattle.vg_wire_ext.specs.Commands.{command_of, is_known}
use Rattle.vg_config.specs.Features.{CONTEXT_INIT}
use Rattle.vg_device.specs.declared.request.Request.{Request}
use Rattle.vg_device.specs.declared.request.Reply.TheVariants as replies
use Rattle.vg_device.specs.Answered.{answered_by}
use Rattle.vg_device.specs.Features.{has_feature, is_usable}
use Rattle.vg_wire.specs.Kinds.{ERR_INVALID_CONTEXT_ID, ERR_INVALID_PARAMETER, ERR_UNSPEC}
use Rattle.vg_wire_ext.specs.Request.{is_queue_of}
use Rattle.vg_device.specs.Receive.{receive_refusal, with_received}
use Rattle.vg_device.specs.RequestStep.{plain_step, request_step, shaped_step}
use Rattle.vg_device.specs.State.{State, counted}
use Rattle.vg_device.specs.Step.{answer_of, answered, names_timeline, refused_or_ran, request_refusals, transfer_2d_step}
use Rattle.vg_pages.specs.Lending.{AreSameIn}
use Rattle.vg_machine.specs.Jobs.{Job, after_placing, worked}
use Rattle.vg_machine.specs.OutWithin.{IsOut}
use Rattle.vg_device.specs.Copies.{IsRun}
use Rattle.vg_machine.proofs.LeaveLemmas.{Leaves, same-itself}

same-on : (pages : List ℕ) (one other third : Memory) → AreSameIn pages one other → AreSameIn pages other third → AreSameIn pages one third
same-on pages one other third first second = record { size = second.size ∙ first.size; each = λ place among. second.each place among ∙ first.each place among }

-- the last test, of a context that is named and was live
last-kept : (names live now : Bool) (code : ℕ) → (names ≡ true → live ≡ true → now ≡ true) → refusal_of ((names && not live, code) ∷ []) ≡ None → refusal_of ((names && not now, code) ∷ []) ≡ None
last-kept true true now code kept none = rw (kept refl refl) refl
last-kept true false now code kept none = cc
last-kept false live now code kept none = refl

-- seven tests, of which only the last looks at what may have changed
admitted : (a b c d e f names live now : Bool) (r s t : ℕ) → (names ≡ true → live ≡ true → now ≡ true)
    → refusal_of ((a, r) ∷ (b, r) ∷ (c, r) ∷ (d, r) ∷ (e, r) ∷ (f, s) ∷ (names && not live, t) ∷ []) ≡ None
    → refusal_of ((a, r) ∷ (b, r) ∷ (c, r) ∷ (d, r) ∷ (e, r) ∷ (f, s) ∷ (names && not now, t) ∷ []) ≡ None
admitted true b c d e f names live now r s t kept none = cc
admitted false true c d e f names live now r s t kept none = cc
admitted false false true d e f names live now r s t kept none = cc
admitted false false false true e f names live now r s t kept none = cc
admitted false false false false true f names live now r s t kept none = cc
admitted false false false false false true names live now r s t kept none = cc
admitted false false false false false false names live now r s t kept none = last-kept names live now t kept none

-- a request that was let in still is
let-in-kept : (old new : State) (queue : Queue) (bytes : List ℕ) → new.setup ≡ old.setup
    → ((bit_and (header_of bytes).flags 2 == 2) ≡ true → is_live (header_of bytes).ctx_id old.contexts ≡ true → is_live (header_of bytes).ctx_id new.contexts ≡ true)
    → refusal_of (request_refusals old queue bytes) ≡ None → refusal_of (request_refusals new queue bytes) ≡ None
let-in-kept old new queue bytes setup kept none =
    let here : refusal_of (request_refusals (record old { setup = new.setup }) queue bytes) ≡ None
    = subst (λ s. refusal_of (request_refusals (record old { setup = s }) queue bytes) ≡ None) (sym setup) none in
    let names = names_timeline new.setup (header_of bytes) in
    admitted (nat_lt (length bytes) 24) (not (is_known (header_of bytes).kind)) (not (is_queue_of (header_of bytes).kind queue)) (not (is_usable new.setup.accepted (header_of bytes).kind))
    (is_none (command_of (header_of bytes).kind (drop 24 bytes))) (names && nat_le 64 (header_of bytes).ring_idx) names
    (is_live (header_of bytes).ctx_id old.contexts) (is_live (header_of bytes).ctx_id new.contexts) ERR_UNSPEC ERR_INVALID_PARAMETER ERR_INVALID_CONTEXT_ID
    (λ named. kept (and-right (has_feature new.setup.accepted CONTEXT_INIT) (bit_and (header_of bytes).flags 2 == 2) named)) here

pub out-kept : (old new : State) (job : Job) → Leaves old new job → IsOut old job → IsOut new job
out-kept old new job leaves out = record {
  found = out.found;
  offset = out.offset;
  bytes = out.bytes;
  lent = out.lent;
  there = leaves.resource ∙ out.there;
  pixels = out.pixels;
  width = out.width;
  no_blob = leaves.blob ∙ out.no_blob;
  accepted = ap (λ (found : Option (List MemEntry)). refusal_of (
      (not true, 0x1203)
      ∷ (is_none found, 0x1200)
      ∷ (not (is_inside job.rect out.found.width out.found.height), 0x1205)
      ∷ (not (is_empty job.rect) && nat_lt (total (unwrap_or found [])) (transfer_end job.rect out.offset out.found.width), 0x1205)
      ∷ [])) leaves.backing ∙ out.accepted;
  same = λ other agree.
      out.same other (same-on job.pages old.memory new.memory other leaves.memory agree)
      ∙ ap (λ (found : Option (List MemEntry)). transferred other (unwrap_or found []) job.rect out.offset job.width job.pixels) (sym leaves.backing);
  run = out.run;
  reads = out.reads;
  let_in = let-in-kept old new job.asked.queue job.asked.bytes leaves.setup leaves.context out.let_in;
  answers = out.answers;
}

-- one entry more changes nothing of it
pub out-counted : (state : State) (job : Job) → IsOut state job → IsOut (counted state) job
out-counted state job out = record {
  found = out.found;
  offset = out.offset;
  bytes = out.bytes;
  lent = out.lent;
  there = out.there;
  pixels = out.pixels;
  width = out.width;
  no_blob = out.no_blob;
  accepted = out.accepted;
  same = out.same;
  run = out.run;
  reads = out.reads;
  let_in = out.let_in;
  answers = out.answers;
}

-- what its request does
by-resource : (state : State) (rect : Rect) (offset id : ℕ) (resource : Resource) → resource_at id state.resources ≡ Some resource
    → refusal_of (transfer_refusals true id rect offset resource.width resource.height state.backings) ≡ None
    → transfer_2d_step state rect offset id
    ≡ (record state { resources = with_pixels id resource (transferred state.memory (entries_at id state.backings) rect offset resource.width resource.pixels) state.resources }, responses.Nodata)
by-resource state rect offset id resource there accepted =
    ap (λ (found : Option Resource). answered_by (receive_refusal id rect offset state.backings found) state (record state { resources = with_received state.memory id rect offset state.backings found state.resources })) there
    ∙ ap (λ refusal. answered_by refusal state (record state { resources = with_received state.memory id rect offset state.backings (Some resource) state.resources })) accepted

pub out-answer : (state : State) (job : Job) (out : IsOut state job)
    → answer_of state job.asked.queue job.asked.bytes
    ≡ (record state { resources = with_pixels job.resource out.found (worked job).pixels state.resources }, responses.Nodata)
out-answer state job out =
    let step = by-resource state job.rect out.offset job.resource out.found out.there out.accepted in
    let context = (header_of job.asked.bytes).ctx_id in
    let moved : transferred state.memory (entries_at job.resource state.backings) job.rect out.offset out.found.width out.found.pixels ≡ (worked job).pixels =
    ap (λ width. transferred state.memory (entries_at job.resource state.backings) job.rect out.offset width out.found.pixels) out.width
    ∙ ap (λ pixels. transferred state.memory (entries_at job.resource state.backings) job.rect out.offset job.width pixels) out.pixels
    ∙ sym (out.same state.memory (same-itself job.pages state.memory))
    ∙ sym (ap (λ (bytes : Option (List ℕ)). (after_placing bytes job).pixels) out.lent) in
    ap (λ refusal. refused_or_ran refusal state context (command_of (header_of job.asked.bytes).kind (drop 24 job.asked.bytes))) out.let_in
    ∙ ap (λ command. refused_or_ran None state context command) out.reads
    ∙ ap (λ found. cond (is_some found) (state, responses.Nodata) (transfer_2d_step state job.rect out.offset job.resource)) out.no_blob
    ∙ step
    ∙ ap (λ pixels. (record state { resources = with_pixels job.resource out.found pixels state.resources }, responses.Nodata)) moved

shaped-run : (shape : Shape) (state : State) (request : Request) → IsRun shape → shaped_step shape state request ≡ plain_step state request
shaped-run Plain state request run = refl
shaped-run (Pieces n) state request run = refl
shaped-run Indirect state request run = refl
shaped-run Mixed state request run = refl
shaped-run (Bad fault) state request run = absurd run

pub out-step : (state : State) (job : Job) (out : IsOut state job)
    → request_step state job.asked ≡ (record (counted state) { resources = with_pixels job.resource out.found (worked job).pixels state.resources }, job.reply)
unfolding out-counted
out-step state job out =
    shaped-run job.asked.shape state job.asked out.run
    ∙ ap (λ (done : State × Response). (done.0, replies.Response (answered job.asked.bytes job.asked.room done.1))) (out-answer (counted state) job (out-counted state job out))
    ∙ ap (λ reply. (record (counted state) { resources = with_pixels job.resource out.found (worked job).pixels state.resources }, reply)) (sym out.answers)
