-- To which resources a command leaves scanouts bound.
use Rattle.std.proofs.Common.{◌≡◌, ◌⊎◌, inl, inr, ℕ, zero, suc, ◌==◌, Bool, true, false, cond, List, [], ◌∷◌, map, drop, slice_get, slice_set, Option, Some, None, refl, ap}
use Rattle.vg_laws.proofs.Numbers.{same-number}
use Rattle.vg_formats.specs.declared.format.Format.{Format}
use Rattle.vg_formats.specs.declared.rect.Rect.{Rect}
use Rattle.vg_formats.specs.Formats.{format_of}
use Rattle.vg_refusals.specs.Refusals.{refusal_of}
use Rattle.vg_resource.specs.declared.resource.Resource.{Resource}
use Rattle.vg_resource.specs.Resource.{resource_at}
use Rattle.vg_scanout.specs.declared.scanout.Binding.{Binding}
use Rattle.vg_scanout.specs.Scanout.{Screen, after_flush, binding_at, binding_of_screen, flushed_screen, fresh_screen, is_bound_to, is_flushed, unbound, unbound_screen}
use Rattle.vg_chain.specs.declared.shape.Shape.{Shape}
use Rattle.vg_chain.specs.declared.shape.Shape.TheVariants.{Plain, Pieces, Indirect, Mixed, Bad}
use Rattle.vg_wire.specs.Header.{header_of}
use Rattle.vg_wire.specs.declared.two_d.Command2d.{Command2d}
use Rattle.vg_wire.specs.declared.two_d.Command2d.TheVariants.{DisplayInfo, Create2d, Unref, SetScanout, Flush, Transfer, Attach, Detach}
use Rattle.vg_wire_ext.specs.Commands.{command_of}
use Rattle.vg_wire_ext.specs.declared.command.Command.{Command}
use Rattle.vg_wire_ext.specs.declared.command.Command.TheVariants.{TwoD, CapsetInfo, Capset, Edid, AssignUuid, CreateBlob, SetScanoutBlob, CtxCreate, CtxDestroy, CtxAttach, CtxDetach, Submit, UpdateCursor, MoveCursor}
use Rattle.vg_wire_ext.specs.declared.response.Response.{Response}
use Rattle.vg_wire_ext.specs.declared.response.Response.TheVariants as responses
use Rattle.vg_device.specs.declared.blobs.Layout.{Layout}
use Rattle.vg_device.specs.declared.request.Request.{Request}
use Rattle.vg_device.specs.ActStep.{shows_key}
use Rattle.vg_device.specs.Answered.{answered_by, answered_with}
use Rattle.vg_device.specs.BlobStep.{blob_binding, create_blob_refusals, set_scanout_blob_refusals, with_scanout_blob, with_shown_blob}
use Rattle.vg_device.specs.ContextStep.{ctx_attach_refusals}
use Rattle.vg_context.specs.Contexts as contexts
use Rattle.vg_blob.specs.Uuids.{assign_refusals, number_for, uuid_bytes}
use Rattle.vg_device.specs.Receive.{receive_refusal}
use Rattle.vg_device.specs.RequestStep.{shaped_step}
use Rattle.vg_device.specs.State.{State, counted, has_resource, is_blob}
use Rattle.vg_device.specs.Step.{attach_2d_refusals, binding_of, block_of, command_step, create_2d_refusals, cursor_refusals, detach_2d_refusals, edid_refusals, flush_refusals, flushed_by, move_refusals, refused_or_ran, request_refusals, set_scanout_refusals, surface_of, two_d_step, unref_refusals, unreferenced, with_scanout, with_shown}

-- the scanout is bound to the resource
abbrev pub Bound : ℕ → ℕ → State → Type 0
Bound scanout key s = shows_key key (binding_at scanout s.scanouts) ≡ true

-- the command binds it so
abbrev pub Binds2d : ℕ → ℕ → Command2d → Type 0
Binds2d scanout key (SetScanout rect at id) = (at ≡ scanout) × (id ≡ key)
Binds2d scanout key _ = ⊥

abbrev pub Binds : ℕ → ℕ → Command → Type 0
Binds scanout key (TwoD command) = Binds2d scanout key command
Binds scanout key (SetScanoutBlob rect at id width height format stride offset) = (at ≡ scanout) × (id ≡ key)
Binds scanout key _ = ⊥

-- one that is bound afterwards was before, or was bound by what is said
record Backs (scanout key : ℕ) (R : Type 0) (s next : State) : Type 0 where
  pub back : Bound scanout key next → Bound scanout key s ⊎ R

-- ---- lists of screens

abbrev Shows : ℕ → Option Screen → Type 0
Shows key screen = shows_key key (binding_of_screen (Some screen)) ≡ true

map-bound : (key : ℕ) (f : Option Screen → Option Screen) → ((x : Option Screen) → Shows key (f x) → Shows key x) → (screens : List (Option Screen)) (n : ℕ)
    → shows_key key (binding_of_screen (slice_get (map f screens) n)) ≡ true → shows_key key (binding_of_screen (slice_get screens n)) ≡ true
map-bound key f back [] n is = is
map-bound key f back (x ∷ xs) zero is = back x is
map-bound key f back (x ∷ xs) (suc n) is = map-bound key f back xs n is

set-bound : (key : ℕ) (new : Option Screen) (screens : List (Option Screen)) (at n : ℕ) → shows_key key (binding_of_screen (slice_get (slice_set screens at new) n)) ≡ true
    → (shows_key key (binding_of_screen (slice_get screens n)) ≡ true) ⊎ ((at ≡ n) × Shows key new)
set-bound key new [] at n is = inl is
set-bound key new (x ∷ xs) zero zero is = inr (refl, is)
set-bound key new (x ∷ xs) zero (suc n) is = inl is
set-bound key new (x ∷ xs) (suc at) zero is = inl is
set-bound key new (x ∷ xs) (suc at) (suc n) is =
    elim (set-bound key new xs at n is) [
      | inl was ↦ inl was
      | inr (same, now) ↦ inr (ap suc same, now)
    ]

unbound-one : (key : ℕ) (b : Bool) (screen : Option Screen) → Shows key (cond b None screen) → Shows key screen
unbound-one key true screen is = cc
unbound-one key false screen is = is

flushed-one : (key : ℕ) (rect : Rect) (surface : List ℕ) (b : Bool) (screen : Option Screen) → Shows key (cond b (flushed_screen rect surface screen) screen) → Shows key screen
flushed-one key rect surface true (Some screen) is = is
flushed-one key rect surface true None is = is
flushed-one key rect surface false screen is = is

fresh-shows : (key : ℕ) (binding : Binding) → Shows key (Some (fresh_screen binding)) → binding.resource ≡ key
unfolding fresh_screen
fresh-shows key binding is = same-number binding.resource key is

-- ---- commands

module _ (scanout key : ℕ) where
  itself : (R : Type 0) (s : State) → Backs scanout key R s s
  itself R s = record { back = λ is. inl is }

  answered : (R : Type 0) (refusal : Option ℕ) (s next : State) (response : Response) → Backs scanout key R s next → Backs scanout key R s (answered_with refusal s next response).0
  answered R (Some code) s next response backs = itself R s
  answered R None s next response backs = backs

  set-backs : (s : State) (at : ℕ) (binding : Binding)
      → Backs scanout key ((at ≡ scanout) × (binding.resource ≡ key)) s (record s { scanouts = record s.scanouts { screens = slice_set s.scanouts.screens at (Some (fresh_screen binding)) } })
  set-backs s at binding = record {
    back = λ is. elim (set-bound key (Some (fresh_screen binding)) s.scanouts.screens at scanout is) [
      | inl was ↦ inl was
      | inr (same, now) ↦ inr (same, fresh-shows key binding now)
    ];
  }

  none-shows : {R : Type 0} → Shows key None → R
  none-shows is = cc

  unset-backs : (R : Type 0) (s : State) (at : ℕ) → Backs scanout key R s (record s { scanouts = unbound at s.scanouts })
  unset-backs R s at = record {
    back = λ is. elim (set-bound key None s.scanouts.screens at scanout is) [
      | inl was ↦ inl was
      | inr (same, now) ↦ none-shows now
    ];
  }

  shown-backs : (s : State) (rect : Rect) (at id : ℕ) (found : Option Resource) → Backs scanout key ((at ≡ scanout) × (id ≡ key)) s (with_shown s rect at id found)
  shown-backs s rect at id (Some resource) = set-backs s at (binding_of id rect resource)
  shown-backs s rect at id None = itself ((at ≡ scanout) × (id ≡ key)) s

  shown-blob-backs : (s : State) (rect : Rect) (at id : ℕ) (layout : Layout) (format : Option Format) → Backs scanout key ((at ≡ scanout) × (id ≡ key)) s (with_shown_blob s rect at id layout format)
  shown-blob-backs s rect at id layout (Some format) = set-backs s at (blob_binding id rect layout format)
  shown-blob-backs s rect at id layout None = itself ((at ≡ scanout) × (id ≡ key)) s

  either-backs : (R : Type 0) (b : Bool) (s one other : State) → Backs scanout key R s one → Backs scanout key R s other → Backs scanout key R s (cond b one other)
  either-backs R true s one other first second = first
  either-backs R false s one other first second = second

  transferred-backs : (R : Type 0) (b : Bool) (refusal : Option ℕ) (s next : State) → Backs scanout key R s next → Backs scanout key R s (cond b (s, responses.Nodata) (answered_by refusal s next)).0
  transferred-backs R true refusal s next backs = itself R s
  transferred-backs R false refusal s next backs = answered R refusal s next responses.Nodata backs

  two_d-backs : (s : State) (command : Command2d) → Backs scanout key (Binds2d scanout key command) s (two_d_step s command).0
  two_d-backs s DisplayInfo = itself ⊥ s
  two_d-backs s (Create2d id format width height) = answered ⊥ (refusal_of (create_2d_refusals s id format width height)) s _ responses.Nodata (record { back = λ is. inl is })
  two_d-backs s (Unref id) =
      answered ⊥ (refusal_of (unref_refusals s id)) s (unreferenced s id) responses.Nodata
      (record { back = λ is. inl (map-bound key (unbound_screen id) (λ screen now. unbound-one key (is_bound_to id screen) screen now) s.scanouts.screens scanout is) })
  two_d-backs s (SetScanout rect at id) =
      answered ((at ≡ scanout) × (id ≡ key)) (refusal_of (set_scanout_refusals s rect at id)) s (with_scanout s rect at id) responses.Nodata
      (either-backs ((at ≡ scanout) × (id ≡ key)) (id == 0) s (record s { scanouts = unbound at s.scanouts }) (with_shown s rect at id (resource_at id s.resources)) (unset-backs ((at ≡ scanout) × (id ≡ key)) s at)
      (shown-backs s rect at id (resource_at id s.resources)))
  two_d-backs s (Flush rect id) =
      answered ⊥ (refusal_of (flush_refusals s rect id)) s (record s { scanouts = flushed_by s rect id }) responses.Nodata
      (record { back = λ is. inl (map-bound key (after_flush id rect (surface_of s id)) (λ screen now. flushed-one key rect (surface_of s id) (is_flushed id rect screen) screen now) s.scanouts.screens scanout is) })
  two_d-backs s (Transfer rect offset id) = transferred-backs ⊥ (is_blob s id) (receive_refusal id rect offset s.backings (resource_at id s.resources)) s _ (record { back = λ is. inl is })
  two_d-backs s (Attach id ranges) = answered ⊥ (refusal_of (attach_2d_refusals s id ranges)) s _ responses.Nodata (record { back = λ is. inl is })
  two_d-backs s (Detach id) = answered ⊥ (refusal_of (detach_2d_refusals s id)) s _ responses.Nodata (record { back = λ is. inl is })

  command-backs : (s : State) (context : ℕ) (command : Command) → Backs scanout key (Binds scanout key command) s (command_step s context command).0
  command-backs s context (TwoD command) = two_d-backs s command
  command-backs s context (CapsetInfo index) = itself ⊥ s
  command-backs s context (Capset id version) = itself ⊥ s
  command-backs s context (Edid at) = answered ⊥ (refusal_of (edid_refusals s.plugs at)) s s _ (itself ⊥ s)
  command-backs s context (AssignUuid id) = answered ⊥ (refusal_of (assign_refusals (has_resource s id))) s _ (responses.Uuid (uuid_bytes (number_for id s.uuids))) (record { back = λ is. inl is })
  command-backs s context (CreateBlob id mem flags blob_id size ranges) = answered ⊥ (refusal_of (create_blob_refusals s id mem flags size ranges)) s _ responses.Nodata (record { back = λ is. inl is })
  command-backs s context (SetScanoutBlob rect at id width height format stride offset) =
      let layout : Layout = record { width = width; height = height; format = format; stride = stride; offset = offset } in
      answered ((at ≡ scanout) × (id ≡ key)) (refusal_of (set_scanout_blob_refusals s rect at id layout)) s (with_scanout_blob s rect at id layout) responses.Nodata
      (either-backs ((at ≡ scanout) × (id ≡ key)) (id == 0) s (record s { scanouts = unbound at s.scanouts }) (with_shown_blob s rect at id layout (format_of format)) (unset-backs ((at ≡ scanout) × (id ≡ key)) s at)
      (shown-blob-backs s rect at id layout (format_of format)))
  command-backs s context (CtxCreate nlen context_init name) = answered ⊥ (refusal_of (contexts.create_refusals context nlen context_init s.contexts)) s _ responses.Nodata (record { back = λ is. inl is })
  command-backs s context CtxDestroy = answered ⊥ (refusal_of (contexts.destroy_refusals context s.contexts)) s _ responses.Nodata (record { back = λ is. inl is })
  command-backs s context (CtxAttach id) = answered ⊥ (refusal_of (ctx_attach_refusals s context id)) s _ responses.Nodata (record { back = λ is. inl is })
  command-backs s context (CtxDetach id) = answered ⊥ (refusal_of (contexts.detach_refusals context id s.contexts)) s _ responses.Nodata (record { back = λ is. inl is })
  command-backs s context (Submit stream) = answered ⊥ (refusal_of (contexts.submit_refusals context stream s.contexts)) s s responses.Nodata (itself ⊥ s)
  command-backs s context (UpdateCursor at x y id hot_x hot_y) = answered ⊥ (refusal_of (cursor_refusals s at id hot_x hot_y)) s _ responses.Nodata (record { back = λ is. inl is })
  command-backs s context (MoveCursor at x y) = answered ⊥ (refusal_of (move_refusals s at)) s _ responses.Nodata (record { back = λ is. inl is })

-- ---- requests

-- a request that is let in and is read as a command that binds the scanout so
pub record Asked (s : State) (request : Request) (scanout key : ℕ) : Type 0 where
  pub let_in : refusal_of (request_refusals (counted s) request.queue request.bytes) ≡ None
  pub command : Command
  pub reads : command_of (header_of request.bytes).kind (drop 24 request.bytes) ≡ Some command
  pub binds : Binds scanout key command

module _ (scanout key : ℕ) (s : State) (request : Request) where
  ran-backs : (refusal : Option ℕ) (found : Option Command) → refusal_of (request_refusals (counted s) request.queue request.bytes) ≡ refusal
      → command_of (header_of request.bytes).kind (drop 24 request.bytes) ≡ found
      → Backs scanout key (Asked s request scanout key) (counted s) (refused_or_ran refusal (counted s) (header_of request.bytes).ctx_id found).0
  ran-backs (Some code) found none reads = record { back = λ is. inl is }
  ran-backs None None none reads = record { back = λ is. inl is }
  ran-backs None (Some command) none reads = record {
    back = λ is. elim ((command-backs scanout key (counted s) (header_of request.bytes).ctx_id command).back is) [
      | inl was ↦ inl was
      | inr binds ↦ inr (record { let_in = none; command = command; reads = reads; binds = binds })
    ];
  }

  plain-backs : Backs scanout key (Asked s request scanout key) (counted s)
      (refused_or_ran (refusal_of (request_refusals (counted s) request.queue request.bytes)) (counted s) (header_of request.bytes).ctx_id
      (command_of (header_of request.bytes).kind (drop 24 request.bytes))).0
  plain-backs = ran-backs (refusal_of (request_refusals (counted s) request.queue request.bytes)) (command_of (header_of request.bytes).kind (drop 24 request.bytes)) refl refl

  pub shaped-backs : (shape : Shape) → Bound scanout key (shaped_step shape s request).0 → Bound scanout key s ⊎ Asked s request scanout key
  shaped-backs Plain is = plain-backs.back is
  shaped-backs (Pieces n) is = plain-backs.back is
  shaped-backs Indirect is = plain-backs.back is
  shaped-backs Mixed is = plain-backs.back is
  shaped-backs (Bad fault) is = inl is
