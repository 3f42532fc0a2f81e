-- Histories that store other bytes, as many, leave displays of one shape.
use Rattle.std.proofs.Common.{ℕ, List, [], ◌∷◌, length, map, replicate, refl, sym}
use Rattle.std.proofs.lemmas.List.{length-replicate}
use Rattle.vg_chain.specs.declared.shape.Shape.{Shape}
use Rattle.vg_chain.specs.declared.shape.Shape.TheVariants.{Plain, Pieces, Indirect, Mixed, Bad}
use Rattle.vg_client_holds.specs.declared.act.Act.{Act}
use Rattle.vg_client_holds.specs.declared.act.Act.TheVariants.{Enter, Reserve, Store, Load, Export, Import, Release, Free, Take, Drop, Await, Denied, Mode, Unplug, Sync, Events, Ack, Leave}
use Rattle.vg_client_holds.specs.declared.setup.Setup.{Setup}
use Rattle.vg_history.specs.declared.entry.Entry.TheVariants as entries
use Rattle.vg_device.specs.declared.request.Request.{Request}
use Rattle.vg_device.specs.ActStep.{effect_of}
use Rattle.vg_device.specs.RequestStep.{shaped_step}
use Rattle.vg_device.specs.State.{State, counted, start}
use Rattle.vg_machine.specs.Entries.{Entry}
use Rattle.vg_machine.specs.Replay.{after, replay, replay_from}
use Rattle.vg_drawers.specs.Drawers.{act_by_client, by_client}
use Rattle.vg_drawers.proofs.AlikeLemmas.{Alike, act, answer, counted-alike, store}

acted : (s z : State) (client : ℕ) (a : Act) → Alike s z → Alike (effect_of s client a).0 (effect_of z client (act_by_client client a)).0
acted s z client Enter e = act s z client Enter e
acted s z client (Reserve w h format bytes) e = act s z client (Reserve w h format bytes) e
acted s z client (Store key offset bytes times) e = store s z client key offset bytes (replicate (length bytes) client) times e (sym (length-replicate (length bytes) client))
acted s z client (Load key offset n) e = act s z client (Load key offset n) e
acted s z client (Export key) e = act s z client (Export key) e
acted s z client (Import token) e = act s z client (Import token) e
acted s z client (Release key) e = act s z client (Release key) e
acted s z client (Free key) e = act s z client (Free key) e
acted s z client (Take n) e = act s z client (Take n) e
acted s z client (Drop n) e = act s z client (Drop n) e
acted s z client (Await lane ordinal) e = act s z client (Await lane ordinal) e
acted s z client (Denied what) e = act s z client (Denied what) e
acted s z client (Mode scanout width height) e = act s z client (Mode scanout width height) e
acted s z client (Unplug scanout) e = act s z client (Unplug scanout) e
acted s z client (Sync number) e = act s z client (Sync number) e
acted s z client Events e = act s z client Events e
acted s z client Ack e = act s z client Ack e
acted s z client Leave e = act s z client Leave e

requested : (shape : Shape) (s z : State) (request : Request) → Alike s z → Alike (shaped_step shape s request).0 (shaped_step shape z request).0
requested (Bad fault) s z request e = counted-alike s z e
requested Plain s z request e = answer (counted s) (counted z) request.queue request.bytes (counted-alike s z e)
requested (Pieces size) s z request e = answer (counted s) (counted z) request.queue request.bytes (counted-alike s z e)
requested Indirect s z request e = answer (counted s) (counted z) request.queue request.bytes (counted-alike s z e)
requested Mixed s z request e = answer (counted s) (counted z) request.queue request.bytes (counted-alike s z e)

pub after-alike : (s z : State) (entry : Entry) → Alike s z → Alike (after s entry) (after z (by_client entry))
after-alike s z (entries.Act client call a reply) e = acted (counted s) (counted z) client a (counted-alike s z e)
after-alike s z (entries.Command client call request reply) e = requested request.shape s z request e

from-alike : (s z : State) (H : List Entry) → Alike s z → Alike (replay_from s H) (replay_from z (map by_client H))
from-alike s z [] e = e
from-alike s z (entry ∷ more) e = from-alike (after s entry) (after z (by_client entry)) more (after-alike s z entry e)

pub replay-alike : (setup : Setup) (H : List Entry) → Alike (replay setup H) (replay setup (map by_client H))
replay-alike setup H = from-alike (start setup) (start setup) H refl
