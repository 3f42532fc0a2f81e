use Rattle.std.proofs.Common.{◌≡◌, ℕ, Bool, true, false, not, ◌||◌, List, ◌++◌, length, drop, ◌≤◌, Option, Some, Result, Ok, Err, is_some, if◌then◌else◌, arith, refl, ap, sym, length-append, nat_lt, ◌∙◌}
use Rattle.std.specs.Prelude.{ok_or, option_map}
use Rattle.std.proofs.lemmas.Bool.Decides.{nat_tests}
use Rattle.std.proofs.lemmas.List.{drop_at}
use Rattle.vg_wire.specs.declared.header.Header.{Header}
use Rattle.vg_wire.specs.declared.request.Queue.{Queue}
use Rattle.vg_wire.specs.declared.request.Queue.TheVariants.{Control}
use Rattle.vg_wire.specs.declared.request.Malformed.{Malformed}
use Rattle.vg_wire.specs.declared.request.Malformed.TheVariants.{UnknownKind, WrongQueue, ShortBody}
use Rattle.vg_wire.specs.declared.two_d.Command2d.{Command2d}
use Rattle.vg_wire.specs.declared.two_d.Command2d.TheVariants as two_d
use Rattle.vg_wire.specs.Header.{header_of, header_bytes, IsHeader}
use Rattle.vg_wire.specs.TwoD.{kind_of_2d}
use Rattle.vg_wire.proofs.HeaderLemmas.{header_of-header_bytes, length-header_bytes}
use Rattle.vg_wire_ext.specs.declared.command.Command.{Command}
use Rattle.vg_wire_ext.specs.declared.command.Command.TheVariants.{TwoD, CapsetInfo, Capset, Edid, AssignUuid, CreateBlob, SetScanoutBlob, CtxCreate, CtxDestroy, CtxAttach, CtxDetach, Submit, UpdateCursor, MoveCursor}
use Rattle.vg_wire_ext.specs.Commands.{FitsEntries, IsCommand, is_known, row_of, command_of, command_body, command_kind}
use Rattle.vg_wire_ext.specs.Request.{is_queue_of, request_of, request_after, request_bytes, queue_of}
use Rattle.vg_wire_ext.proofs.CommandLemmas.{is-2d, command_of-command_body}

-- whole bytes are read as their header says
read_by_header : (queue : Queue) (bytes : List ℕ) (header : Header) → nat_lt (length bytes) 24 ≡ false → header_of bytes ≡ header → request_of queue bytes ≡ request_after queue header (drop 24 bytes)
read_by_header queue bytes header long same = rw long (ap (λ (h : Header). request_after queue h (drop 24 bytes)) same)

-- the kind of each command is known
known : (command : Command) → is_known (command_kind command) ≡ true
unfolding row_of
known (TwoD command) = ap (λ (two_d : Bool). two_d || is_some (row_of (kind_of_2d command))) (is-2d command)
known (CapsetInfo index) = refl
known (Capset id version) = refl
known (Edid scanout) = refl
known (AssignUuid resource) = refl
known (CreateBlob resource mem flags blob_id size entries) = refl
known (SetScanoutBlob rect scanout resource width height format stride offset) = refl
known (CtxCreate nlen context_init name) = refl
known CtxDestroy = refl
known (CtxAttach resource) = refl
known (CtxDetach resource) = refl
known (Submit stream) = refl
known (UpdateCursor scanout x y resource hot_x hot_y) = refl
known (MoveCursor scanout x y) = refl

-- each kind belongs to its command's queue
control-2d : (command : Command2d) → is_queue_of (kind_of_2d command) Control ≡ true
control-2d two_d.DisplayInfo = refl
control-2d (two_d.Create2d resource format width height) = refl
control-2d (two_d.Unref resource) = refl
control-2d (two_d.SetScanout rect scanout resource) = refl
control-2d (two_d.Flush rect resource) = refl
control-2d (two_d.Transfer rect offset resource) = refl
control-2d (two_d.Attach resource entries) = refl
control-2d (two_d.Detach resource) = refl

right-queue : (command : Command) → is_queue_of (command_kind command) (queue_of command) ≡ true
right-queue (TwoD command) = control-2d command
right-queue (CapsetInfo index) = refl
right-queue (Capset id version) = refl
right-queue (Edid scanout) = refl
right-queue (AssignUuid resource) = refl
right-queue (CreateBlob resource mem flags blob_id size entries) = refl
right-queue (SetScanoutBlob rect scanout resource width height format stride offset) = refl
right-queue (CtxCreate nlen context_init name) = refl
right-queue CtxDestroy = refl
right-queue (CtxAttach resource) = refl
right-queue (CtxDetach resource) = refl
right-queue (Submit stream) = refl
right-queue (UpdateCursor scanout x y resource hot_x hot_y) = refl
right-queue (MoveCursor scanout x y) = refl

-- what passes each test is the request, or too short
passed : (known right : Bool) (header : Header) (read found : Option Command) → known ≡ true → right ≡ true → found ≡ read
    → ◌≡◌ {A = Result (Header × Command) Malformed}
    (if not known then Err (UnknownKind header.kind) else if not right then Err WrongQueue else ok_or (option_map (λ c. (header, c)) read) ShortBody)
    (ok_or (option_map (λ c. (header, c)) found) ShortBody)
passed known right header read found a b c = rw (a, b, c) refl

-- what whole bytes of a known kind are, by the command that is read behind the header
pub read_by_tests : (queue : Queue) (bytes body : List ℕ) (header : Header) (found : Option Command)
    → 24 ≤ length bytes → header ≡ header_of bytes → is_known header.kind ≡ true → is_queue_of header.kind queue ≡ true → body ≡ drop 24 bytes → found ≡ command_of header.kind body
    → request_of queue bytes ≡ ok_or (option_map (λ c. (header, c)) found) ShortBody
read_by_tests queue bytes body header found long same known right rest read =
    let enough : nat_lt (length bytes) 24 ≡ false = grind (arith, nat_tests) in
    read_by_header queue bytes header enough (sym same)
    ∙ ap (request_after queue header) (sym rest)
    ∙ passed (is_known header.kind) (is_queue_of header.kind queue) header (command_of header.kind body) found known right read

-- what is written of a request is read as itself
pub request_of-request_bytes : (header : Header) (command : Command) → IsHeader header → IsCommand command → FitsEntries command → header.kind ≡ command_kind command
    → request_of (queue_of command) (request_bytes header command) ≡ Ok (header, command)
request_of-request_bytes header command fits good count kind =
    let body : List ℕ = command_body command in
    let bytes : List ℕ = header_bytes header ++ body in
    let long : 24 ≤ length bytes = simp length-append (omega (arith, length-header_bytes header)) in
    let is : is_known header.kind ≡ true = ap is_known kind ∙ known command in
    let right : is_queue_of header.kind (queue_of command) ≡ true = ap (λ (k : ℕ). is_queue_of k (queue_of command)) kind ∙ right-queue command in
    let read : command_of header.kind body ≡ Some command = ap (λ (k : ℕ). command_of k body) kind ∙ command_of-command_body command count good in
    read_by_tests (queue_of command) bytes body header (Some command) long (sym (header_of-header_bytes header body fits)) is right (sym (drop_at (header_bytes header) body 24 (length-header_bytes header))) (sym read)
