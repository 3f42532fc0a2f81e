-- What an entry does to the tags of screens and images.
use Rattle.std.proofs.Common.{rules, ◌≡◌, ◌⊎◌, inl, inr, ℕ, List, drop, Option, Some, None, refl}
use Rattle.vg_refusals.specs.Refusals.{refusal_of}
use Rattle.vg_share.specs.declared.share.ShareRefusal.{ShareRefusal}
use Rattle.vg_chain.specs.declared.shape.Shape.{Shape}
use Rattle.vg_chain.specs.declared.shape.Shape.TheVariants.{Plain, Pieces, Indirect, Mixed, Bad}
use Rattle.vg_wire.specs.Header.{header_of}
use Rattle.vg_wire_ext.specs.Commands.{command_of}
use Rattle.vg_wire_ext.specs.declared.command.Command.{Command}
use Rattle.vg_client_holds.specs.declared.act.Act.{Act}
use Rattle.vg_client_holds.specs.declared.act.Act.TheVariants.{Enter, Reserve, Store, Load, Export, Import, Release, Free, Take, Drop, Await, Denied, Mode, Unplug, Sync, Events, Ack, Leave}
use Rattle.vg_client_holds.specs.declared.act.ActReply.{ActReply}
use Rattle.vg_history.specs.declared.entry.Entry.TheVariants as entries
use Rattle.vg_device.specs.declared.request.Request.{Request}
use Rattle.vg_device.specs.ActStep.{effect_of, replied_by}
use Rattle.vg_device.specs.Copies.{IsRun}
use Rattle.vg_device.specs.RequestStep.{shaped_step}
use Rattle.vg_device.specs.State.{State, counted}
use Rattle.vg_device.specs.Step.{refused_or_ran, request_refusals}
use Rattle.vg_machine.specs.Entries.{Entry}
use Rattle.vg_machine.specs.Replay.{after}
use Rattle.vg_painted.specs.Ink.{Painting}
use Rattle.vg_painted.specs.Inks.{Tag, tags}
use Rattle.vg_painted.specs.Paint.{acted, painted, ran, requested, unless}
use Rattle.vg_origin.specs.Shown.{PointsTo, Updates}
use Rattle.vg_origin.proofs.KeptLemmas.{shaped-beside}
use Rattle.vg_origin.proofs.ShownLemmas.{AllShow, command-shows}

-- ---- requests

-- nothing is shown anew
pub record Still (old new : State) (p q : Painting Tag (List Tag)) : Type 0 where
  pub scanouts : new.scanouts ≡ old.scanouts
  pub cursors : new.cursors ≡ old.cursors
  pub screens : q.screens ≡ p.screens
  pub images : q.images ≡ p.images

-- a command is done
record Goes (state new : State) (refusal : Option ℕ) (found : Option Command) (p q : Painting Tag (List Tag)) : Type 0 where
  let_in : refusal ≡ None
  command : Command
  reads : found ≡ Some command
  shows : AllShow state command new p q

ran-goes : (refusal : Option ℕ) (found : Option Command) (state : State) (context : ℕ) (p : Painting Tag (List Tag))
    → Still state (refused_or_ran refusal state context found).0 p (unless refusal p (ran tags state found p)) ⊎ Goes state (refused_or_ran refusal state context found).0 refusal found p (unless refusal p (ran tags state found p))
ran-goes (Some code) found state context p = inl (record { scanouts = refl; cursors = refl; screens = refl; images = refl })
ran-goes None None state context p = inl (record { scanouts = refl; cursors = refl; screens = refl; images = refl })
ran-goes None (Some command) state context p = inr (record { let_in = refl; command = command; reads = refl; shows = command-shows state context command p })

-- one of this shape
record Runs (shape : Shape) (state : State) (request : Request) (p : Painting Tag (List Tag)) : Type 0 where
  run : IsRun shape
  let_in : refusal_of (request_refusals (counted state) request.queue request.bytes) ≡ None
  command : Command
  reads : command_of (header_of request.bytes).kind (drop 24 request.bytes) ≡ Some command
  shows : AllShow (counted state) command (shaped_step shape state request).0 p (requested tags shape (counted state) request p)

shaped-goes : (shape : Shape) (state : State) (request : Request) (p : Painting Tag (List Tag)) → Still (counted state) (shaped_step shape state request).0 p (requested tags shape (counted state) request p) ⊎ Runs shape state request p
shaped-goes (Bad fault) state request p = inl (record { scanouts = refl; cursors = refl; screens = refl; images = refl })
shaped-goes Plain state request p =
    elim (ran-goes (refusal_of (request_refusals (counted state) request.queue request.bytes)) (command_of (header_of request.bytes).kind (drop 24 request.bytes)) (counted state) (header_of request.bytes).ctx_id p) [
      | inl still ↦ inl still
      | inr goes ↦ inr (record { run = tt; let_in = goes.let_in; command = goes.command; reads = goes.reads; shows = goes.shows })
    ]
shaped-goes (Pieces n) state request p =
    elim (ran-goes (refusal_of (request_refusals (counted state) request.queue request.bytes)) (command_of (header_of request.bytes).kind (drop 24 request.bytes)) (counted state) (header_of request.bytes).ctx_id p) [
      | inl still ↦ inl still
      | inr goes ↦ inr (record { run = tt; let_in = goes.let_in; command = goes.command; reads = goes.reads; shows = goes.shows })
    ]
shaped-goes Indirect state request p =
    elim (ran-goes (refusal_of (request_refusals (counted state) request.queue request.bytes)) (command_of (header_of request.bytes).kind (drop 24 request.bytes)) (counted state) (header_of request.bytes).ctx_id p) [
      | inl still ↦ inl still
      | inr goes ↦ inr (record { run = tt; let_in = goes.let_in; command = goes.command; reads = goes.reads; shows = goes.shows })
    ]
shaped-goes Mixed state request p =
    elim (ran-goes (refusal_of (request_refusals (counted state) request.queue request.bytes)) (command_of (header_of request.bytes).kind (drop 24 request.bytes)) (counted state) (header_of request.bytes).ctx_id p) [
      | inl still ↦ inl still
      | inr goes ↦ inr (record { run = tt; let_in = goes.let_in; command = goes.command; reads = goes.reads; shows = goes.shows })
    ]

-- ---- acts

pub record SameShown (old new : State) : Type 0 where
  pub scanouts : new.scanouts ≡ old.scanouts
  pub cursors : new.cursors ≡ old.cursors

itself : (state : State) → SameShown state state
itself state = record { scanouts = refl; cursors = refl }

replied-same : (refusal : Option ShareRefusal) (state next : State) (reply : ActReply) → SameShown state next → SameShown state (replied_by refusal state next reply).0
replied-same (Some refusal) state next reply is = itself state
replied-same None state next reply is = is

pub effect-same : (state : State) (client : ℕ) (act : Act) → SameShown state (effect_of state client act).0
effect-same state client Enter = itself state
effect-same state client (Reserve width height format bytes) = search (rules, replied-same)
effect-same state client (Store key offset bytes times) = search (rules, replied-same)
effect-same state client (Load key offset n) = search (rules, replied-same)
effect-same state client (Export key) = search (rules, replied-same)
effect-same state client (Import token) = search (rules, replied-same)
effect-same state client (Release key) = search (rules, replied-same)
effect-same state client (Free key) = search (rules, replied-same)
effect-same state client (Take scanout) = search (rules, replied-same)
effect-same state client (Drop scanout) = search (rules, replied-same)
effect-same state client (Await lane ordinal) = itself state
effect-same state client (Denied what) = itself state
effect-same state client (Mode scanout width height) = record { scanouts = refl; cursors = refl }
effect-same state client (Unplug scanout) = record { scanouts = refl; cursors = refl }
effect-same state client (Sync number) = itself state
effect-same state client Events = itself state
effect-same state client Ack = record { scanouts = refl; cursors = refl }
effect-same state client Leave = record { scanouts = refl; cursors = refl }

record SameWritten (p q : Painting Tag (List Tag)) : Type 0 where
  screens : q.screens ≡ p.screens
  images : q.images ≡ p.images

unless-same : {E : Type 0} (refusal : Option E) (p q : Painting Tag (List Tag)) → SameWritten p q → SameWritten p (unless refusal p q)
unless-same (Some refusal) p q are = record { screens = refl; images = refl }
unless-same None p q are = are

acted-same : (state : State) (client : ℕ) (act : Act) (p : Painting Tag (List Tag)) → SameWritten p (acted tags state client act p)
acted-same state client (Reserve width height format bytes) p = search (rules, unless-same)
acted-same state client (Store key offset bytes times) p = search (rules, unless-same)
acted-same state client _ p = record { screens = refl; images = refl }

-- ---- entries

-- an entry is a command that is done
pub record Commands (state : State) (entry : Entry) (p : Painting Tag (List Tag)) : Type 0 where
  pub command : Command
  pub share : (after state entry).share ≡ state.share
  pub updates : (scanout key : ℕ) → PointsTo (counted state) command scanout key → Updates state entry scanout key
  pub shows : AllShow (counted state) command (after state entry) p (painted tags state entry p)

pub entry-shows : (state : State) (entry : Entry) (p : Painting Tag (List Tag)) → Still state (after state entry) p (painted tags state entry p) ⊎ Commands state entry p
entry-shows state (entries.Act client call act reply) p =
    let shown = effect-same (counted state) client act in
    let written = acted-same (counted state) client act p in
    inl (record { scanouts = shown.scanouts; cursors = shown.cursors; screens = written.screens; images = written.images })
entry-shows state (entries.Command client call request reply) p =
    elim (shaped-goes request.shape state request p) [
      | inl still ↦ inl (record { scanouts = still.scanouts; cursors = still.cursors; screens = still.screens; images = still.images })
      | inr runs ↦
          inr (record {
            command = runs.command;
            share = (shaped-beside request.shape state request).share;
            updates = λ scanout key points. record {
              client = client;
              call = call;
              request = request;
              reply = reply;
              is = refl;
              run = runs.run;
              let_in = runs.let_in;
              command = runs.command;
              reads = runs.reads;
              points = points;
            };
            shows = record { screens = runs.shows.screens; images = runs.shows.images };
          })
    ]
