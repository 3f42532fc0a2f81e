-- What clients hold and what the shares say of it agree after each beginning of a history.
use Rattle.std.proofs.Common.{◌≡◌, ◌≢◌, ◌*◌, ℕ, zero, suc, Bool, true, false, cond, List, [], ◌∷◌, length, drop, take, Option, Some, None, replicate, refl, ap, sym, subst, ◌∙◌, eq-eqb, ne_eqb, take-append-drop}
use mathlib.Core.Logic.{dite}
use native.Mathlib.Decide.{ℕ_discrete}
use Rattle.std.specs.Prelude.{slice_get}
use Rattle.std.proofs.lemmas.List.Elements.{All-nil}
use Rattle.vg_share.specs.declared.share.Geometry.{Geometry}
use Rattle.vg_share.specs.declared.share.ShareRefusal.{ShareRefusal}
use Rattle.vg_share.specs.Share.{ShareState, drop_refusal, export_refusal, free_refusal, has_holder, import_refusal, is_lease_of, new_pages, pages_at, place_refusal, release_refusal, released, reserve_refusal, some_hold, some_holder, take_refusal, without_hold}
use Rattle.vg_client_holds.specs.declared.act.Act.{Act}
use Rattle.vg_client_holds.specs.declared.act.Act.TheVariants.{Enter, Reserve, Store, Load, Export, Import, Release, Free, Take, Drop, Await, Denied, Mode, Unplug, Sync, Events, Ack, Leave}
use Rattle.vg_client_holds.specs.declared.act.ActReply.{ActReply}
use Rattle.vg_client_holds.specs.declared.act.ActReply.TheVariants as act_replies
use Rattle.vg_client_holds.specs.declared.holds.Holds.{Holds}
use Rattle.vg_client_holds.specs.declared.setup.Setup.{Setup}
use Rattle.vg_client_holds.specs.Holds.{first_holds, update}
use Rattle.vg_device.specs.ActStep.{effect_of, is_in_use, replied_by, shown_at}
use Rattle.vg_device.specs.State.{State, counted, has_resource, start}
use Rattle.vg_history.specs.declared.entry.Entry.TheVariants as entries
use Rattle.vg_history.specs.History as history
use Rattle.vg_history.proofs.HistoryLemmas.{agrees_beginning}
use Rattle.vg_machine.specs.Entries.{Entry}
use Rattle.vg_machine.specs.Order.{holds_of}
use Rattle.vg_machine.specs.Replay.{Agrees, AgreesFrom, HasReply, after, display, replay, replay_from}
use Rattle.vg_linked.specs.Linked.{AreAlone, Linked, one_if}
use Rattle.vg_linked.proofs.HeldLemmas.{IsHeld, ShareStands, may-free, may-import, may-release, released-found, stands-else, stands-freed, stands-imported, stands-released, stands-reserved}
use Rattle.vg_linked.proofs.LinkLemmas.{linked-else, linked-freed, linked-imported, linked-kept, linked-last, linked-leased, linked-reserved, linked-unleased, may-drop, may-take, other-freed, other-imported, other-leased, other-released, other-reserved, other-unleased}
use Rattle.vg_linked.proofs.MoveLemmas.{AllMoves, Anything, Anywhere, after-kept, commands_leave, made_if, replay-kept, request-kept}

-- ---- the shares stand

abbrev pub Stand : State → Type 0
Stand s = ShareStands s.share

pub moves_stand : AllMoves Stand Stand
moves_stand = record {
  count = λ s was. was;
  commands = commands_leave (λ memory share plugs. ShareStands share);
  acts = record {
    stay = λ s was. was;
    reserve = λ s client geometry none was. stands-reserved client geometry (new_pages geometry.bytes s.memory) s.share was;
    store = λ s client key offset bytes times none was. was;
    export = λ s key was. stands-else s.share _ s.share.leases s.share.clients was;
    import = λ s client token none was. stands-imported client token s.share (may-import token s.share none) was;
    release = λ s client key none was. stands-released client key s.share (may-release client key (shown_at client key s) s.share none) was;
    free = λ s client key none was. stands-freed key s.share was;
    take = λ s client scanout none was. stands-else s.share s.share.exports _ s.share.clients was;
    drop = λ s client scanout none was. stands-else s.share s.share.exports _ s.share.clients was;
    plug = λ s plugs many was. was;
    leave = λ s client was. stands-else s.share s.share.exports s.share.leases _ was;
  };
}

stands-start : (setup : Setup) → Stand (start setup)
stands-start setup = record { rising = tt; given = tt; alone = λ key. tt }

pub stands : (setup : Setup) (H : List Entry) → ShareStands (replay setup H).share
stands setup H = replay-kept Stand Stand moves_stand (start setup) H (stands-start setup)

-- ---- an act of the client

replied-own : (client : ℕ) (holds : Holds) (act : Act) (refusal : Option ShareRefusal) (s next : State) (reply : ActReply)
    → ((why : ShareRefusal) → Linked client (update holds act (act_replies.Refused why)) s.share) → (refusal ≡ None → Linked client (update holds act reply) next.share)
    → Linked client (update holds act (replied_by refusal s next reply).1) (replied_by refusal s next reply).0.share
replied-own client holds act (Some why) s next reply was would = was why
replied-own client holds act None s next reply was would = would refl

released-own : (client key : ℕ) (holds : Holds) (share : ShareState) → ShareStands share → (held : IsHeld client key share) → Linked client holds share
    → (b : Bool) → has_holder key (released client key share) ≡ b → Linked client (update holds (Release key) (cond b act_replies.Kept act_replies.Last)) (released client key share)
released-own client key holds share stand held linked b is =
    by b (sym (ap some_holder (released-found client key share held.buffer held.found)) ∙ is)
  where
    by : (b : Bool) → some_hold (without_hold client held.buffer.holders) ≡ b
        → Linked client (update holds (Release key) (cond b act_replies.Kept act_replies.Last)) (released client key share)
    by true is = linked-kept client key holds share stand held is linked
    by false is = linked-last client key holds share stand held is linked

linked-own : (client : ℕ) (holds : Holds) (s : State) (act : Act) → Stand s → Linked client holds s.share
    → Linked client (update holds act (effect_of s client act).1) (effect_of s client act).0.share
linked-own client holds s Enter stand linked = linked
linked-own client holds s (Reserve width height format bytes) stand linked =
    let geometry : Geometry = record { width = width; height = height; format = format; bytes = bytes } in
    replied-own client holds (Reserve width height format bytes) (reserve_refusal bytes s.memory) s _ _ (λ why. linked)
    (λ none. linked-reserved client geometry (new_pages bytes s.memory) holds s.share stand linked)
linked-own client holds s (Store key offset bytes times) stand linked =
    replied-own client holds (Store key offset bytes times) (place_refusal client key offset (length bytes * times) s.share) s _ _ (λ why. linked) (λ none. linked)
linked-own client holds s (Load key offset n) stand linked =
    replied-own client holds (Load key offset n) (place_refusal client key offset n s.share) s _ _ (λ why. linked) (λ none. linked)
linked-own client holds s (Export key) stand linked =
    replied-own client holds (Export key) (export_refusal client key s.share) s _ _ (λ why. linked) (λ none. linked-else client holds s.share _ s.share.clients linked)
linked-own client holds s (Import token) stand linked =
    replied-own client holds (Import token) (import_refusal token s.share) s _ _ (λ why. linked) (λ none. linked-imported client token holds s.share (may-import token s.share none) linked)
linked-own client holds s (Release key) stand linked =
    replied-own client holds (Release key) (release_refusal client key (shown_at client key s) s.share) s _ _ (λ why. linked)
    (λ none. released-own client key holds s.share stand (may-release client key (shown_at client key s) s.share none) linked (has_holder key (released client key s.share)) refl)
linked-own client holds s (Free key) stand linked =
    replied-own client holds (Free key) (free_refusal client key (has_resource s key) s.share) s _ _ (λ why. linked)
    (λ none. linked-freed client key (has_resource s key) holds s.share stand (may-free client key (has_resource s key) s.share none) linked)
linked-own client holds s (Take scanout) stand linked =
    replied-own client holds (Take scanout) (take_refusal scanout s.share) s _ _ (λ why. linked) (λ none. linked-leased client scanout holds s.share (may-take scanout s.share none) linked)
linked-own client holds s (Drop scanout) stand linked =
    replied-own client holds (Drop scanout) (drop_refusal client scanout (is_in_use s scanout) s.share) s _ _ (λ why. linked)
    (λ none. linked-unleased client scanout (is_in_use s scanout) holds s.share (may-drop client scanout (is_in_use s scanout) s.share none) linked)
linked-own client holds s (Await lane ordinal) stand linked = linked
linked-own client holds s (Denied what) stand linked = linked
linked-own client holds s (Mode scanout width height) stand linked = linked
linked-own client holds s (Unplug scanout) stand linked = linked
linked-own client holds s (Sync number) stand linked = linked
linked-own client holds s Events stand linked = linked
linked-own client holds s Ack stand linked = linked
linked-own client holds s Leave stand linked = linked-else client holds s.share s.share.exports _ linked

-- ---- an act of another client

replied-other : (client : ℕ) (holds : Holds) (refusal : Option ShareRefusal) (s next : State) (reply : ActReply) → Linked client holds s.share → (refusal ≡ None → Linked client holds next.share)
    → Linked client holds (replied_by refusal s next reply).0.share
replied-other client holds (Some why) s next reply was would = was
replied-other client holds None s next reply was would = would refl

linked-other : (client other : ℕ) (holds : Holds) (s : State) (act : Act) → other ≢ client → Stand s → Linked client holds s.share → Linked client holds (effect_of s other act).0.share
linked-other client other holds s Enter apart stand linked = linked
linked-other client other holds s (Reserve width height format bytes) apart stand linked =
    let geometry : Geometry = record { width = width; height = height; format = format; bytes = bytes } in
    replied-other client holds (reserve_refusal bytes s.memory) s _ _ linked (λ none. other-reserved client other geometry (new_pages bytes s.memory) holds s.share apart stand linked)
linked-other client other holds s (Store key offset bytes times) apart stand linked =
    replied-other client holds (place_refusal other key offset (length bytes * times) s.share) s _ _ linked (λ none. linked)
linked-other client other holds s (Load key offset n) apart stand linked = replied-other client holds (place_refusal other key offset n s.share) s _ _ linked (λ none. linked)
linked-other client other holds s (Export key) apart stand linked =
    replied-other client holds (export_refusal other key s.share) s _ _ linked (λ none. linked-else client holds s.share _ s.share.clients linked)
linked-other client other holds s (Import token) apart stand linked =
    replied-other client holds (import_refusal token s.share) s _ _ linked (λ none. other-imported client other token holds s.share apart (may-import token s.share none) linked)
linked-other client other holds s (Release key) apart stand linked =
    replied-other client holds (release_refusal other key (shown_at other key s) s.share) s _ _ linked
    (λ none. other-released client other key holds s.share apart stand (may-release other key (shown_at other key s) s.share none) linked)
linked-other client other holds s (Free key) apart stand linked =
    replied-other client holds (free_refusal other key (has_resource s key) s.share) s _ _ linked
    (λ none. other-freed client other key (has_resource s key) holds s.share apart stand (may-free other key (has_resource s key) s.share none) linked)
linked-other client other holds s (Take scanout) apart stand linked =
    replied-other client holds (take_refusal scanout s.share) s _ _ linked (λ none. other-leased client other scanout holds s.share apart (may-take scanout s.share none) linked)
linked-other client other holds s (Drop scanout) apart stand linked =
    replied-other client holds (drop_refusal other scanout (is_in_use s scanout) s.share) s _ _ linked
    (λ none. other-unleased client other scanout (is_in_use s scanout) holds s.share apart (may-drop other scanout (is_in_use s scanout) s.share none) linked)
linked-other client other holds s (Await lane ordinal) apart stand linked = linked
linked-other client other holds s (Denied what) apart stand linked = linked
linked-other client other holds s (Mode scanout width height) apart stand linked = linked
linked-other client other holds s (Unplug scanout) apart stand linked = linked
linked-other client other holds s (Sync number) apart stand linked = linked
linked-other client other holds s Events apart stand linked = linked
linked-other client other holds s Ack apart stand linked = linked
linked-other client other holds s Leave apart stand linked = linked-else client holds s.share s.share.exports _ linked

-- ---- an entry, and a history

after-linked : (client : ℕ) (holds : Holds) (s : State) (entry : Entry) → HasReply s entry → Stand s → Linked client holds s.share
    → Linked client (history.updated display client holds entry) (after s entry).share
after-linked client holds s (entries.Act other call act reply) is stand linked =
    let now = (effect_of (counted s) other act).0.share in
    dite (ℕ_discrete other client)
    (λ same. subst (λ (b : Bool). Linked client (cond b (update holds act reply) holds) now) (sym (eq-eqb other client same))
    (subst (λ (r : ActReply). Linked client (update holds act r) now) (sym is)
    (subst (λ (k : ℕ). Linked client (update holds act (effect_of (counted s) k act).1) (effect_of (counted s) k act).0.share) (sym same)
    (linked-own client holds (counted s) act stand linked))))
    (λ apart. subst (λ (b : Bool). Linked client (cond b (update holds act reply) holds) now) (sym (ne_eqb other client apart))
    (linked-other client other holds (counted s) act apart stand linked))
after-linked client holds s (entries.Command other call request reply) is stand linked =
    request-kept (λ (state : State). Linked client holds state.share) (λ (state : State). Linked client holds state.share) Anything Anywhere (commands_leave (λ memory share plugs. Linked client holds share)) s request (λ none. made_if _) linked

linked-from : (client : ℕ) (holds : Holds) (s : State) (H : List Entry) → AgreesFrom s H → Stand s → Linked client holds s.share
    → Linked client (history.holds_after display client holds H) (replay_from s H).share
linked-from client holds s [] agrees stand linked = linked
linked-from client holds s (entry ∷ rest) agrees stand linked =
    linked-from client (history.updated display client holds entry) (after s entry) rest agrees.1 (after-kept Stand Stand moves_stand s entry stand)
    (after-linked client holds s entry agrees.0 stand linked)

none-leased : (client n k : ℕ) → is_lease_of client (slice_get (replicate n None) k) ≡ false
none-leased client zero k = refl
none-leased client (suc n) zero = refl
none-leased client (suc n) (suc k) = none-leased client n k

linked-start : (setup : Setup) (client : ℕ) → Linked client (first_holds setup client) (start setup).share
linked-start setup client = record {
  buffers = λ key. refl;
  pages = All-nil (λ (pair : ℕ × List ℕ). pair.1 ≡ pages_at pair.0 (start setup).share);
  taking_down = λ key. refl;
  scanouts = λ scanout. ap {B = ℕ} one_if (sym (none-leased client (length setup.displays) scanout));
}

pub linked-whole : (setup : Setup) (H : List Entry) (client : ℕ) → Agrees setup H → Linked client (holds_of setup client H) (replay setup H).share
linked-whole setup H client agrees = linked-from client (first_holds setup client) (start setup) H agrees (stands-start setup) (linked-start setup client)

pub holds-linked : (setup : Setup) (H : List Entry) (i client : ℕ) → Agrees setup H → Linked client (holds_of setup client (take i H)) (replay setup (take i H)).share
holds-linked setup H i client agrees =
    let front : AgreesFrom (start setup) (take i H) =
    agrees_beginning display (start setup) (take i H) (drop i H) (subst (λ es. AgreesFrom (start setup) es) (sym (take-append-drop i H)) agrees)
    in
    linked-from client (first_holds setup client) (start setup) (take i H) front (stands-start setup) (linked-start setup client)

pub buffers-alone : (setup : Setup) (H : List Entry) (i : ℕ) → AreAlone (replay setup (take i H)).share
buffers-alone setup H i = (stands setup (take i H)).alone
