-- A display that stores clients' numbers has in each place the client of the byte there.
use Rattle.std.proofs.Common.{◌≡◌, ℕ, zero, suc, ◌+◌, ◌-◌, ◌*◌, ◌%◌, ◌<◌, ◌==◌, ◌&&◌, Bool, true, false, cond, nat_le, nat_lt, List, [], ◌∷◌, length, map, replicate, drop, Option, Some, None, slice_index, arith, refl, sym, ap, subst, ◌∙◌}
use Rattle.std.proofs.lemmas.Bool.{and_parts, leb-true, ltb-true, ne_eqb}
use Rattle.std.proofs.lemmas.Nat.{mod_below}
use Rattle.std.proofs.lemmas.List.{length-replicate}
use Rattle.vg_refusals.specs.Refusals.{refusal_of}
use Rattle.vg_share.specs.Cells.{place_in_buffer}
use Rattle.vg_share.specs.Share.{pages_at, place_refusal}
use Rattle.vg_wire.specs.Header.{header_of}
use Rattle.vg_wire.specs.declared.two_d.Command2d.{Command2d}
use Rattle.vg_wire.specs.declared.two_d.Command2d.TheVariants.{DisplayInfo, Create2d, Unref, SetScanout, Flush, Transfer, Attach, Detach}
use Rattle.vg_wire_ext.specs.Commands.{command_of}
use Rattle.vg_wire_ext.specs.declared.command.Command.{Command}
use Rattle.vg_wire_ext.specs.declared.command.Command.TheVariants.{TwoD, CapsetInfo, Capset, Edid, AssignUuid, CreateBlob, SetScanoutBlob, CtxCreate, CtxDestroy, CtxAttach, CtxDetach, Submit, UpdateCursor, MoveCursor}
use Rattle.vg_chain.specs.declared.shape.Shape.{Shape}
use Rattle.vg_chain.specs.declared.shape.Shape.TheVariants.{Plain, Pieces, Indirect, Mixed, Bad}
use Rattle.vg_client_holds.specs.declared.act.Act as acts
use Rattle.vg_client_holds.specs.declared.act.Act.TheVariants.{Enter, Reserve, Store, Load, Export, Import, Release, Free, Take, Drop, Await, Denied, Mode, Unplug, Sync, Events, Ack, Leave}
use Rattle.vg_client_holds.specs.declared.setup.Setup.{Setup}
use Rattle.vg_history.specs.declared.entry.Entry.TheVariants as entries
use Rattle.vg_device.specs.declared.request.Request.{Request}
use Rattle.vg_device.specs.State.{State, counted, start}
use Rattle.vg_device.specs.Step.{request_refusals}
use Rattle.vg_machine.specs.Entries.{Entry}
use Rattle.vg_machine.specs.Replay.{after, replay}
use Rattle.vg_painted.specs.Clients.{Clients, clients}
use Rattle.vg_painted.specs.Ink.{Ink, Painting}
use Rattle.vg_painted.specs.Inks.{numbers}
use Rattle.vg_painted.specs.Paint.{acted, commanded, commanded_2d, framed, fresh, moved, painted, painting, painting_from, ran, requested, stored_at, unless}
use Rattle.vg_painted.specs.Painted.{AreRelated, IsAt, IsPainted}
use Rattle.vg_painted.proofs.RelatedLemmas.{AreBy, AreLike, painting-related}
use Rattle.vg_drawers.specs.Drawers.{AreOfClients, StandFor, StandsFor, act_by_client, by_client}
use Rattle.vg_drawers.proofs.AlikeLemmas.{Alike, counted-alike}
use Rattle.vg_drawers.proofs.HistoryLemmas.{after-alike}
use Rattle.vg_drawers.proofs.PaintLemmas.{framed-alike, moved-alike}

-- Each byte that is stored has the value of its client's number.
abbrev pub drawers : Ink ℕ ℕ
drawers = record numbers { stored = λ entry client page byte. client }

get-replicated : (n x k : ℕ) → k < n → slice_index (replicate n x) k ≡ x
get-replicated zero x k within = absurd (omega (arith, within))
get-replicated (suc n) x zero within = refl
get-replicated (suc n) x (suc k) within = get-replicated n x k (omega (arith, within))

chosen : (b c : Bool) (x y old : ℕ) → b ≡ c → (c ≡ true → x ≡ y) → cond b x old ≡ cond c y old
chosen b true x y old same then = ap (λ q. cond q x old) same ∙ then refl
chosen b false x y old same then = ap (λ q. cond q x old) same

within-piece : (n times offset b : ℕ) → nat_lt b (offset + n * times) ≡ true → nat_le offset b ≡ true → (b - offset) % n < n
within-piece zero times offset b below from = let small = ltb-true _ _ below in let large = leb-true _ _ from in absurd (omega (arith, small, large))
within-piece (suc n) times offset b below from = mod_below (b - offset) (suc n) (omega arith)

stored-same : (size entry client : ℕ) (pages : List ℕ) (offset : ℕ) (bytes : List ℕ) (times : ℕ) (memory : ℕ → ℕ) (place : ℕ)
    → stored_at numbers size entry client pages offset (replicate (length bytes) client) times memory place ≡ stored_at drawers size entry client pages offset bytes times memory place
stored-same size entry client pages offset bytes times memory place =
    let n = length bytes in
    let m = length (replicate {A = ℕ} n client) in
    let b = place_in_buffer pages place in
    let long : m ≡ n = length-replicate n client in
    chosen (nat_lt place size && (nat_le offset b && nat_lt b (offset + m * times))) (nat_lt place size && (nat_le offset b && nat_lt b (offset + n * times)))
    (slice_index (replicate n client) ((b - offset) % m)) client (memory place)
    (ap (λ k. nat_lt place size && (nat_le offset b && nat_lt b (offset + k * times))) long)
    (λ holds.
    let parts = and_parts (nat_le offset b) (nat_lt b (offset + n * times)) (and_parts (nat_lt place size) (nat_le offset b && nat_lt b (offset + n * times)) holds).1 in
    ap (λ k. slice_index (replicate n client) ((b - offset) % k)) long
    ∙ get-replicated n client ((b - offset) % n) (within-piece n times offset b parts.1 parts.0))

acted-same : (z : State) (client : ℕ) (a : acts.Act) (p : Painting ℕ ℕ) → acted numbers z client (act_by_client client a) p ≡ acted drawers z client a p
acted-same z client Enter p = refl
acted-same z client (Reserve w h format bytes) p = refl
acted-same z client (Store key offset bytes times) p = λ i.
    unless (place_refusal client key offset (length-replicate {A = ℕ} (length bytes) client i * times) z.share) p
    (record p { memory = λ place. stored-same (length z.memory.bytes) z.entries client (pages_at key z.share) offset bytes times p.memory place i })
acted-same z client (Load key offset n) p = refl
acted-same z client (Export key) p = refl
acted-same z client (Import token) p = refl
acted-same z client (Release key) p = refl
acted-same z client (Free key) p = refl
acted-same z client (Take n) p = refl
acted-same z client (Drop n) p = refl
acted-same z client (Await lane ordinal) p = refl
acted-same z client (Denied what) p = refl
acted-same z client (Mode scanout width height) p = refl
acted-same z client (Unplug scanout) p = refl
acted-same z client (Sync number) p = refl
acted-same z client Events p = refl
acted-same z client Ack p = refl
acted-same z client Leave p = refl

two_d-same : (z : State) (c : Command2d) (p : Painting ℕ ℕ) → commanded_2d numbers z c p ≡ commanded_2d drawers z c p
two_d-same z DisplayInfo p = refl
two_d-same z (Create2d id format w h) p = refl
two_d-same z (Unref id) p = refl
two_d-same z (SetScanout rect n id) p = refl
two_d-same z (Flush rect id) p = refl
two_d-same z (Transfer rect offset id) p = refl
two_d-same z (Attach id entries) p = refl
two_d-same z (Detach id) p = refl

commanded-same : (z : State) (c : Command) (p : Painting ℕ ℕ) → commanded numbers z c p ≡ commanded drawers z c p
commanded-same z (TwoD c) p = two_d-same z c p
commanded-same z (CapsetInfo index) p = refl
commanded-same z (Capset id version) p = refl
commanded-same z (Edid n) p = refl
commanded-same z (AssignUuid id) p = refl
commanded-same z (CreateBlob id mem flags blob_id size entries) p = refl
commanded-same z (SetScanoutBlob rect n id w h format stride offset) p = refl
commanded-same z (CtxCreate nlen init name) p = refl
commanded-same z CtxDestroy p = refl
commanded-same z (CtxAttach id) p = refl
commanded-same z (CtxDetach id) p = refl
commanded-same z (Submit stream) p = refl
commanded-same z (UpdateCursor n x y id hot_x hot_y) p = refl
commanded-same z (MoveCursor n x y) p = refl

ran-same : (z : State) (c : Option Command) (p : Painting ℕ ℕ) → ran numbers z c p ≡ ran drawers z c p
ran-same z (Some c) p = commanded-same z c p
ran-same z None p = refl

asked-same : (z : State) (request : Request) (p : Painting ℕ ℕ)
    → unless (refusal_of (request_refusals z request.queue request.bytes)) p (ran numbers z (command_of (header_of request.bytes).kind (drop 24 request.bytes)) p)
    ≡ unless (refusal_of (request_refusals z request.queue request.bytes)) p (ran drawers z (command_of (header_of request.bytes).kind (drop 24 request.bytes)) p)
asked-same z request p = ap (unless (refusal_of (request_refusals z request.queue request.bytes)) p) (ran-same z (command_of (header_of request.bytes).kind (drop 24 request.bytes)) p)

requested-same : (shape : Shape) (z : State) (request : Request) (p : Painting ℕ ℕ) → requested numbers shape z request p ≡ requested drawers shape z request p
requested-same (Bad fault) z request p = refl
requested-same Plain z request p = asked-same z request p
requested-same (Pieces n) z request p = asked-same z request p
requested-same Indirect z request p = asked-same z request p
requested-same Mixed z request p = asked-same z request p

moved-same : (z : State) (entry : Entry) (p : Painting ℕ ℕ) → moved numbers z (by_client entry) p ≡ moved drawers z entry p
moved-same z (entries.Act client call a reply) p = acted-same z client a p
moved-same z (entries.Command client call request reply) p = requested-same request.shape z request p

painted-same : (s z : State) (entry : Entry) (p : Painting ℕ ℕ) → Alike s z → painted numbers z (by_client entry) p ≡ painted drawers s entry p
painted-same s z entry p e =
    ap (framed numbers z (after z (by_client entry))) (moved-same (counted z) entry p ∙ sym (moved-alike drawers (counted s) (counted z) entry p (counted-alike s z e)))
    ∙ sym (framed-alike drawers s z (after s entry) (after z (by_client entry)) (moved drawers (counted s) entry p) e (after-alike s z entry e))

from-same : (s z : State) (H : List Entry) (p : Painting ℕ ℕ) → Alike s z → painting_from numbers z (map by_client H) p ≡ painting_from drawers s H p
from-same s z [] p e = refl
from-same s z (entry ∷ more) p e =
    ap (painting_from numbers (after z (by_client entry)) (map by_client more)) (painted-same s z entry p e)
    ∙ from-same (after s entry) (after z (by_client entry)) more (painted drawers s entry p) (after-alike s z entry e)

pub painting-same : (setup : Setup) (H : List Entry) → painting numbers setup (map by_client H) ≡ painting drawers setup H
painting-same setup H = from-same (start setup) (start setup) H (fresh numbers) refl

-- ---- numbers and sets

no-one : (client byte : ℕ) → (client ≡ byte → ⊥) → false ≡ (client == byte)
no-one client byte apart = sym (ne_eqb client byte apart)

drawers-like : AreLike (λ n client. Unit {0}) StandsFor (λ byte set. Unit {0}) drawers clients
drawers-like = record {
  blank = λ client one few. no-one client 0 (λ is. omega (arith, is, one));
  opaque = λ client one few. no-one client 255 (λ is. omega (arith, is, few));
  stored = λ entry client page byte by one low high. refl;
  fetched = λ entry x y are. are;
  shown = λ entry x y are. are;
  plain = λ x y are. tt;
  blended = λ x y x1 y1 x2 y2 are first second. tt;
  solid = tt;
}

all-by : (n : ℕ) (H : List Entry) → AreBy (λ n client. Unit {0}) n H
all-by n [] = tt
all-by n (entry ∷ more) = (tt, all-by (n + 1) more)

related : (setup : Setup) (H : List Entry) → AreRelated StandsFor (λ byte set. Unit {0}) (painting drawers setup H) (painting clients setup H)
related setup H = painting-related (λ n client. Unit {0}) StandsFor (λ byte set. Unit {0}) drawers clients drawers-like setup H (all-by 0 H)

at-places : (bytes : List ℕ) (at at' : ℕ → ℕ) (sets : ℕ → Clients) → IsAt bytes at → at ≡ at' → ((place : ℕ) → StandsFor (at' place) (sets place)) → StandFor bytes sets
at-places bytes at at' sets is same stand = λ place. subst (λ byte. StandsFor byte (sets place)) (sym (is place ∙ (λ i. same i place))) (stand place)

pub of-clients : (setup : Setup) (H : List Entry) → IsPainted (replay setup (map by_client H)) (painting numbers setup (map by_client H)) → AreOfClients (replay setup (map by_client H)) (painting clients setup H)
of-clients setup H are =
    let same = painting-same setup H in
    let stand = related setup H in
    record {
      memory = at-places _ _ _ _ are.memory (ap (λ (p : Painting ℕ ℕ). p.memory) same) stand.memory;
      pixels = λ id resource is. at-places _ _ _ _ (are.pixels id resource is) (ap (λ (p : Painting ℕ ℕ). p.pixels id) same) (stand.pixels id);
      screens = λ n screen is. at-places _ _ _ _ (are.screens n screen is) (ap (λ (p : Painting ℕ ℕ). p.screens n) same) (stand.screens n);
      images = λ n cursor is. at-places _ _ _ _ (are.images n cursor is) (ap (λ (p : Painting ℕ ℕ). p.images n) same) (stand.images n);
    }
