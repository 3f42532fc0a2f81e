-- A request that is read as a transfer, and what it copies.
use Rattle.std.proofs.Common.{◌≡◌, ◌≢◌, ◌≤◌, ℕ, ◌+◌, ◌*◌, ◌&&◌, not, Bool, true, false, List, [], ◌∷◌, length, arith, Option, Some, None, Result, Ok, Err, drop, ap, sym, ◌∙◌, refl, subst}
use Rattle.std.specs.Prelude.{is_none, nat_lt, IfErr, IfOk}
use Rattle.vg_formats.specs.declared.rect.Rect.{Rect}
use Rattle.std.specs.Option.{option_map}
use Rattle.std.proofs.lemmas.Bool.Decides.{nat_tests}
use Rattle.vg_formats.specs.Pixels.{is_empty, is_inside}
use Rattle.vg_backing.specs.Backing.{total}
use Rattle.vg_resource.specs.declared.resource.Resource.{Resource}
use Rattle.vg_resource.specs.Resource.{pixels_at}
use Rattle.vg_transfer.specs.Backings.{backing_at, entries_at, transfer_end}
use Rattle.vg_wire.specs.Kinds.{ERR_INVALID_PARAMETER, ERR_INVALID_RESOURCE_ID, ERR_UNSPEC}
use Rattle.vg_refusals.specs.Refusals.{refusal_of}
use Rattle.vg_chain.specs.declared.shape.Shape.{Shape}
use Rattle.vg_chain.specs.declared.shape.Shape.TheVariants.{Plain, Pieces, Indirect, Mixed, Bad}
use Rattle.vg_wire.specs.declared.two_d.Command2d.{Command2d}
use Rattle.vg_wire.specs.declared.two_d.Command2d.TheVariants.{DisplayInfo, Create2d, Unref, SetScanout, Flush, Transfer, Attach, Detach}
use Rattle.vg_wire.specs.Header.{header_of}
use Rattle.vg_wire_ext.specs.declared.command.Command.{Command}
use Rattle.vg_wire_ext.specs.declared.command.Command.TheVariants.{TwoD, CapsetInfo, Capset, Edid, AssignUuid, CreateBlob, SetScanoutBlob, CtxCreate, CtxDestroy, CtxAttach, CtxDetach, Submit, UpdateCursor, MoveCursor}
use Rattle.vg_wire_ext.specs.Commands.{command_of}
use Rattle.vg_device.specs.declared.copies.Copy.{Copy}
use Rattle.vg_device.specs.declared.request.Request.{Request}
use Rattle.vg_device.specs.Copies.{AsksFor, IsAccepted, IsRun, copies, copies_2d, copies_by, copies_by_2d, copies_plain, copies_shaped}
use Rattle.vg_device.specs.FitsWithin.{IsLetIn, transfer_of, transfer_read}
use Rattle.vg_device.specs.State.{State}
use Rattle.vg_device.specs.Step.{request_refusals}

pub is-run : (shape : Shape) → ((fault : _) → shape ≢ Bad fault) → IsRun shape
is-run Plain other = tt
is-run (Pieces n) other = tt
is-run Indirect other = tt
is-run Mixed other = tt
is-run (Bad fault) other = absurd (other fault refl)

shaped-plain : (shape : Shape) (state : State) (request : Request) → IsRun shape → copies_shaped shape state request ≡ copies_plain state request
shaped-plain Plain state request run = refl
shaped-plain (Pieces n) state request run = refl
shaped-plain Indirect state request run = refl
shaped-plain Mixed state request run = refl
shaped-plain (Bad fault) state request run = absurd run

-- what was read was a transfer
one-read-2d : (command : Command2d) (rect : Rect) (offset id : ℕ) → transfer_of command ≡ Some (rect, offset, id) → command ≡ Transfer rect offset id
one-read-2d DisplayInfo rect offset id is = cc
one-read-2d (Create2d resource format width height) rect offset id is = cc
one-read-2d (Unref resource) rect offset id is = cc
one-read-2d (SetScanout area scanout resource) rect offset id is = cc
one-read-2d (Flush area resource) rect offset id is = cc
one-read-2d (Transfer area at resource) rect offset id is = ap (by Transfer) (some-is is)
  where
    by : (Rect → ℕ → ℕ → Command2d) → Rect × ℕ × ℕ → Command2d
    by make (area, at, resource) = make area at resource

    some-is : {x y : Rect × ℕ × ℕ} → ◌≡◌ {A = Option (Rect × ℕ × ℕ)} (Some x) (Some y) → x ≡ y
    some-is same = cc
one-read-2d (Attach resource entries) rect offset id is = cc
one-read-2d (Detach resource) rect offset id is = cc

by-none : (state : State) (command : Command2d) → transfer_of command ≡ None → copies_by_2d state command ≡ false
by-none state DisplayInfo none = refl
by-none state (Create2d resource format width height) none = refl
by-none state (Unref resource) none = refl
by-none state (SetScanout area scanout resource) none = refl
by-none state (Flush area resource) none = refl
by-none state (Transfer area at resource) none = cc
by-none state (Attach resource entries) none = refl
by-none state (Detach resource) none = refl

by-other : (state : State) (context : ℕ) (command : Command) → transfer_read (Ok (context, command)) ≡ None → copies_by state (Some command) ≡ false
by-other state context (TwoD command) none = by-none state command none
by-other state context (CapsetInfo index) none = refl
by-other state context (Capset id version) none = refl
by-other state context (Edid scanout) none = refl
by-other state context (AssignUuid resource) none = refl
by-other state context (CreateBlob resource mem flags blob_id size entries) none = refl
by-other state context (SetScanoutBlob rect scanout resource width height format stride offset) none = refl
by-other state context (CtxCreate nlen context_init name) none = refl
by-other state context CtxDestroy none = refl
by-other state context (CtxAttach resource) none = refl
by-other state context (CtxDetach resource) none = refl
by-other state context (Submit stream) none = refl
by-other state context (UpdateCursor scanout x y resource hot_x hot_y) none = refl
by-other state context (MoveCursor scanout x y) none = refl

one-read : (read : Result (ℕ × Command) ℕ) (rect : Rect) (offset id : ℕ) → transfer_read read ≡ Some (rect, offset, id) → (context : ℕ) × (read ≡ Ok (context, TwoD (Transfer rect offset id)))
one-read (Ok (context, TwoD command)) rect offset id is = (context, ap (λ c. Ok (context, TwoD c)) (one-read-2d command rect offset id is))
one-read (Ok (context, CapsetInfo index)) rect offset id is = cc
one-read (Ok (context, Capset i version)) rect offset id is = cc
one-read (Ok (context, Edid scanout)) rect offset id is = cc
one-read (Ok (context, AssignUuid resource)) rect offset id is = cc
one-read (Ok (context, CreateBlob resource mem flags blob_id size entries)) rect offset id is = cc
one-read (Ok (context, SetScanoutBlob area scanout resource width height format stride at)) rect offset id is = cc
one-read (Ok (context, CtxCreate nlen context_init name)) rect offset id is = cc
one-read (Ok (context, CtxDestroy)) rect offset id is = cc
one-read (Ok (context, CtxAttach resource)) rect offset id is = cc
one-read (Ok (context, CtxDetach resource)) rect offset id is = cc
one-read (Ok (context, Submit stream)) rect offset id is = cc
one-read (Ok (context, UpdateCursor scanout x y resource hot_x hot_y)) rect offset id is = cc
one-read (Ok (context, MoveCursor scanout x y)) rect offset id is = cc
one-read (Err code) rect offset id is = cc

-- the request is that transfer
pub asks-one : (state : State) (request : Request) (read : Result (ℕ × Command) ℕ) (rect : Rect) (offset id : ℕ) → IsRun request.shape → transfer_read read ≡ Some (rect, offset, id)
    → IfOk read (λ found. IsLetIn state request.queue request.bytes found.1)
    → (copy : Copy) → (copy.resource ≡ id) × (copy.region.rect ≡ rect) × (copy.region.offset ≡ offset) → AsksFor state request copy
asks-one state request read rect offset id run is told copy (to, area, at) =
    let (context, found) = one-read read rect offset id is in
    let let_in = subst (λ r. IfOk r (λ found. IsLetIn state request.queue request.bytes found.1)) found told in
    record {
      run = run;
      let_in = let_in.none;
      reads = let_in.reads ∙ sym (ap (λ a. Some (TwoD (Transfer a offset id))) area) ∙ sym (ap (λ o. Some (TwoD (Transfer copy.region.rect o id))) at) ∙ sym (ap (λ r. Some (TwoD (Transfer copy.region.rect copy.region.offset r))) to);
    }

-- and copies something, or nothing
pub copies-one : (state : State) (request : Request) (read : Result (ℕ × Command) ℕ) (rect : Rect) (offset id : ℕ) → IsRun request.shape → transfer_read read ≡ Some (rect, offset, id)
    → IfOk read (λ found. IsLetIn state request.queue request.bytes found.1) → copies state request ≡ copies_2d state rect offset id
copies-one state request read rect offset id run is told =
    let (context, found) = one-read read rect offset id is in
    let let_in = subst (λ r. IfOk r (λ found. IsLetIn state request.queue request.bytes found.1)) found told in
    shaped-plain request.shape state request run
    ∙ ap (λ refusal. is_none refusal && copies_by state (command_of (header_of request.bytes).kind (drop 24 request.bytes))) let_in.none
    ∙ ap (λ command. copies_by state command) let_in.reads

pub copies-none : (state : State) (request : Request) (read : Result (ℕ × Command) ℕ) → IsRun request.shape → transfer_read read ≡ None
    → IfOk read (λ found. IsLetIn state request.queue request.bytes found.1) → IfErr read (λ code. refusal_of (request_refusals state request.queue request.bytes) ≡ Some code)
    → copies state request ≡ false
copies-none state request (Ok (context, command)) run none let_in refused =
    shaped-plain request.shape state request run
    ∙ ap (λ refusal. is_none refusal && copies_by state (command_of (header_of request.bytes).kind (drop 24 request.bytes))) let_in.none
    ∙ ap (λ found. copies_by state found) let_in.reads
    ∙ by-other state context command none
copies-none state request (Err code) run none let_in refused =
    shaped-plain request.shape state request run
    ∙ ap (λ refusal. is_none refusal && copies_by state (command_of (header_of request.bytes).kind (drop 24 request.bytes))) refused

-- a rectangle that isn't refused lies inside of its resource
inside-of : (a b c : Bool) (r s t : ℕ) (more : List (Bool × ℕ)) → refusal_of ((a, r) ∷ (b, s) ∷ (not c, t) ∷ more) ≡ None → c ≡ true
inside-of true b c r s t more none = cc
inside-of false true c r s t more none = cc
inside-of false false false r s t more none = cc
inside-of false false true r s t more none = refl

pub copy-inside : (state : State) (copy : Copy) → IsAccepted state copy → is_inside copy.region.rect copy.region.width copy.region.height ≡ true
copy-inside state copy is =
    let region = copy.region in
    inside-of (not true) (is_none (backing_at copy.resource state.backings)) (is_inside region.rect region.width region.height) ERR_INVALID_RESOURCE_ID ERR_UNSPEC ERR_INVALID_PARAMETER
    ((not (is_empty region.rect) && nat_lt (total (entries_at copy.resource state.backings)) (transfer_end region.rect region.offset region.width), ERR_INVALID_PARAMETER) ∷ []) is.accepted

pub copy-columns : (state : State) (copy : Copy) → IsAccepted state copy → copy.region.rect.x + copy.region.rect.width ≤ copy.region.width
copy-columns state copy is = grind (arith, nat_tests, copy-inside state copy is)

rows-fit : (width height end : ℕ) → end ≤ height → 4 * width * end ≤ 4 * width * height
rows-fit width height end few = grind (arith)

pub copy-rows : (state : State) (copy : Copy) (pixels : List ℕ) → IsAccepted state copy → pixels_at copy.resource state.resources ≡ Some pixels
    → 4 * copy.region.width * (copy.region.rect.y + copy.region.rect.height) ≤ length pixels
copy-rows state copy pixels is given =
    let inside = copy-inside state copy is in
    let down : copy.region.rect.y + copy.region.rect.height ≤ copy.region.height = grind (arith, nat_tests, inside) in
    let same : is.found.pixels ≡ pixels = some-items (sym (ap (option_map (λ (resource : Resource). resource.pixels)) is.there) ∙ given) in
    let long : length pixels ≡ 4 * copy.region.width * copy.region.height =
    ap length (sym same) ∙ is.whole.0 ∙ ap (λ width. 4 * width * is.found.height) is.width ∙ ap (λ height. 4 * copy.region.width * height) is.height in
    subst (λ n. 4 * copy.region.width * (copy.region.rect.y + copy.region.rect.height) ≤ n) (sym long) (rows-fit copy.region.width copy.region.height (copy.region.rect.y + copy.region.rect.height) down)
  where
    some-items : {xs ys : List ℕ} → ◌≡◌ {A = Option (List ℕ)} (Some xs) (Some ys) → xs ≡ ys
    some-items same = cc
