use Rattle.std.proofs.Common.{◌≡◌, ◌∙◌, ℕ, ◌==◌, ◌||◌, Bool, true, false, not, if◌then◌else◌, List, Option, Some, None, Err, is_some, length, drop, nat_lt, ap, sym, refl}
use Rattle.std.specs.Prelude.{ok_or, option_map}
use Rattle.vg_wire.specs.declared.header.Header.{Header}
use Rattle.vg_wire.specs.declared.request.Queue.{Queue}
use Rattle.vg_wire.specs.declared.request.Malformed.TheVariants.{ShortHeader, UnknownKind, WrongQueue, ShortBody}
use Rattle.vg_wire.specs.declared.two_d.Command2d.{Command2d}
use Rattle.vg_wire.specs.declared.two_d.Command2d.TheVariants.{DisplayInfo}
use Rattle.vg_wire.specs.Header.{header_of}
use Rattle.vg_wire.specs.Kinds.{RESOURCE_ATTACH_BACKING, RESOURCE_DETACH_BACKING, RESOURCE_FLUSH, RESOURCE_UNREF, TRANSFER_TO_HOST_2D, CTX_DESTROY, UPDATE_CURSOR}
use Rattle.vg_wire.specs.TwoD.{is_2d, two_d_of, whole, create_2d, set_scanout}
use Rattle.vg_wire_ext.specs.declared.command.Command.{Command}
use Rattle.vg_wire_ext.specs.declared.command.Command.TheVariants.{TwoD}
use Rattle.vg_wire_ext.specs.Commands.{Row, fixed, by_row, row_of, is_known, command_of, capset_info, capset, edid, assign_uuid, create_blob, create_blob_size, set_scanout_blob, ctx_create, ctx_attach, ctx_detach, submit, submit_size, move_cursor}
use Rattle.vg_wire_ext.specs.Request.{is_queue_of, request_of}
use Rattle.vg_wire_ext.specs.declared.names.Named.TheVariants.{Nothing}
use Rattle.vg_wire_ext.specs.Named.{named_2d, named_by, named_in}
use Rattle.vg_wire_ext.specs.NamedWithin.{found, found_2d}

-- a rung of a ladder: what holds of both holds of the choice, and of a choice that isn't taken only the rest counts
either : {A : Type 0} (P : A → Type 0) (b : Bool) (x y : A) → P x → P y → P (if b then x else y)
either P true x y p q = p
either P false x y p q = q

past : {A : Type 0} (P : A → Type 0) (b : Bool) (x y : A) → b ≡ false → P y → P (if b then x else y)
past P b x y not q = rw not q

-- a command that names nothing does so whether it is whole or not
nothing-2d : (enough : Bool) (command : Command2d) → named_2d command ≡ Nothing → found_2d (if enough then Some command else None) ≡ Nothing
nothing-2d true command p = p
nothing-2d false command p = refl

nothing : (enough : Bool) (context : ℕ) (command : Command) → named_by context command ≡ Nothing → found context (if enough then Some command else None) ≡ Nothing
nothing true context command p = p
nothing false context command p = refl

-- what holds of each 2D command that names nothing holds of that of any kind but these
none-of-2d : (P : Option Command2d → Type 0) (kind : ℕ) (body : List ℕ) → (kind == RESOURCE_UNREF) ≡ false → (kind == RESOURCE_FLUSH) ≡ false
    → (kind == TRANSFER_TO_HOST_2D) ≡ false → (kind == RESOURCE_ATTACH_BACKING) ≡ false → (kind == RESOURCE_DETACH_BACKING) ≡ false
    → P (whole 0 body DisplayInfo) → P (whole 16 body (create_2d body)) → P (whole 24 body (set_scanout body)) → P None → P (two_d_of kind body)
unfolding two_d_of
none-of-2d P kind body unref flush transfer attach detach info create show none =
    either P _ _ _ info (either P _ _ _ create (past P _ _ _ unref (either P _ _ _ show
    (past P _ _ _ flush (past P _ _ _ transfer (past P _ _ _ attach (past P _ _ _ detach none)))))))

pub other-2d : (kind : ℕ) (body : List ℕ) → (kind == RESOURCE_UNREF) ≡ false → (kind == RESOURCE_FLUSH) ≡ false → (kind == TRANSFER_TO_HOST_2D) ≡ false
    → (kind == RESOURCE_ATTACH_BACKING) ≡ false → (kind == RESOURCE_DETACH_BACKING) ≡ false → found_2d (two_d_of kind body) ≡ Nothing
unfolding create_2d set_scanout
other-2d kind body unref flush transfer attach detach =
    none-of-2d (λ command. found_2d command ≡ Nothing) kind body unref flush transfer attach detach
    (nothing-2d _ DisplayInfo refl) (nothing-2d _ (create_2d body) refl) (nothing-2d _ (set_scanout body) refl) refl

-- the same of the rows of the other commands
none-of-rows : (P : Option Row → Type 0) (kind : ℕ) → (kind == CTX_DESTROY) ≡ false → (kind == UPDATE_CURSOR) ≡ false
    → P (fixed 8 capset_info) → P (fixed 8 capset) → P (fixed 8 edid) → P (fixed 8 assign_uuid) → P (Some (record { size = create_blob_size; fields = create_blob }))
    → P (fixed 72 set_scanout_blob) → P (fixed 72 ctx_create) → P (fixed 8 ctx_attach) → P (fixed 8 ctx_detach) → P (Some (record { size = submit_size; fields = submit })) → P (fixed 32 move_cursor) → P None
    → P (row_of kind)
unfolding row_of
none-of-rows P kind destroy cursor info set display uuid blob show create attach detach commands move none =
    either P _ _ _ info (either P _ _ _ set (either P _ _ _ display (either P _ _ _ uuid (either P _ _ _ blob (either P _ _ _ show (either P _ _ _ create
    (past P _ _ _ destroy (either P _ _ _ attach (either P _ _ _ detach (either P _ _ _ commands (past P _ _ _ cursor (either P _ _ _ move none))))))))))))

pub other-row : (kind context : ℕ) (body : List ℕ) → (kind == CTX_DESTROY) ≡ false → (kind == UPDATE_CURSOR) ≡ false → found context (by_row (row_of kind) body) ≡ Nothing
unfolding capset_info capset edid assign_uuid create_blob set_scanout_blob ctx_create ctx_attach ctx_detach submit move_cursor
other-row kind context body destroy cursor =
    let none : (enough : Bool) (command : Command) → named_by context command ≡ Nothing → found context (if enough then Some command else None) ≡ Nothing
    = λ enough command. nothing enough context command in
    none-of-rows (λ row. found context (by_row row body) ≡ Nothing) kind destroy cursor
    (none _ (capset_info body) refl) (none _ (capset body) refl) (none _ (edid body) refl) (none _ (assign_uuid body) refl) (none _ (create_blob body) refl)
    (none _ (set_scanout_blob body) refl) (none _ (ctx_create body) refl) (none _ (ctx_attach body) refl) (none _ (ctx_detach body) refl)
    (none _ (submit body) refl) (none _ (move_cursor body) refl) refl

-- an unknown kind spells no command
unknown-none : (two_d : Bool) (command : Option Command2d) (row : Option Row) (body : List ℕ) → (two_d || is_some row) ≡ false
    → (if two_d then option_map TwoD command else by_row row body) ≡ None
unknown-none true command row body unknown = cc
unknown-none false command None body unknown = refl
unknown-none false command (Some row) body unknown = cc

by_tests : (short known right : Bool) (header : Header) (read : Option Command) → short ≡ false → right ≡ true → (known ≡ false → read ≡ None)
    → found header.ctx_id read
    ≡ named_in (if short then Err ShortHeader else if not known then Err (UnknownKind header.kind) else if not right then Err WrongQueue
    else ok_or (option_map (λ command. (header, command)) read) ShortBody)
by_tests true known right header read long is unknown = cc
by_tests false false right header read long is unknown = ap (found header.ctx_id) (unknown refl)
by_tests false true false header read long is unknown = cc
by_tests false true true header None long is unknown = refl
by_tests false true true header (Some command) long is unknown = refl

-- what is named by whole bytes on their queue is what their body's command names
pub read_named : (queue : Queue) (bytes body : List ℕ) (header : Header) → nat_lt (length bytes) 24 ≡ false → header ≡ header_of bytes
    → is_queue_of header.kind queue ≡ true → body ≡ drop 24 bytes → found header.ctx_id (command_of header.kind body) ≡ named_in (request_of queue bytes)
read_named queue bytes body header long same right rest =
    let kind : ℕ = (header_of bytes).kind in
    let on : is_queue_of kind queue ≡ true = ap (λ (h : Header). is_queue_of h.kind queue) (sym same) ∙ right in
    ap (λ (h : Header). found h.ctx_id (command_of h.kind body)) same
    ∙ ap (λ (b : List ℕ). found (header_of bytes).ctx_id (command_of kind b)) rest
    ∙ by_tests (nat_lt (length bytes) 24) (is_known kind) (is_queue_of kind queue) (header_of bytes) (command_of kind (drop 24 bytes)) long on
    (unknown-none (is_2d kind) (two_d_of kind (drop 24 bytes)) (row_of kind) (drop 24 bytes))
