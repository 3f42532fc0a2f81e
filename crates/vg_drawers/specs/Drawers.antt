-- A display whose bytes are the numbers of the clients that stored them.
use Rattle.std.specs.Prelude.{◌≡◌, ◌≤◌, ◌==◌, ℕ, List, Some, length, replicate, slice_get, slice_index}
use Rattle.vg_cursor.specs.declared.cursor.Cursor.{Cursor}
use Rattle.vg_resource.specs.declared.resource.Resource.{Resource}
use Rattle.vg_resource.specs.Resource.{resource_at}
use Rattle.vg_scanout.specs.Scanout.{Screen}
use Rattle.vg_client_holds.specs.declared.act.Act as acts
use Rattle.vg_client_holds.specs.declared.act.Act.TheVariants.{Store}
use Rattle.vg_history.specs.declared.entry.Entry.TheVariants as entries
use Rattle.vg_device.specs.State.{State}
use Rattle.vg_machine.specs.Entries.{Entry}
use Rattle.vg_painted.specs.Clients.{Clients}
use Rattle.vg_painted.specs.Ink.{Painting}

-- A client's act, which stores in each place the client's number.
abbrev pub act_by_client : ℕ → acts.Act → acts.Act
act_by_client client (Store key offset bytes times) = Store key offset (replicate (length bytes) client) times
act_by_client client act = act

abbrev pub by_client : Entry → Entry
by_client (entries.Act client call act reply) = entries.Act client call (act_by_client client act) reply
by_client (entries.Command client call request reply) = entries.Command client call request reply

-- A byte stands for a set of clients: that of its number from 1 to 16, and for no client where it is another number.
abbrev pub StandsFor : ℕ → Clients → Type 0
StandsFor byte set = (client : ℕ) → 1 ≤ client → client ≤ 16 → set client ≡ (client == byte)

-- Each byte of these stands for the set at its place.
abbrev pub StandFor : List ℕ → (ℕ → Clients) → Type 0
StandFor bytes sets = (place : ℕ) → StandsFor (slice_index bytes place) (sets place)

-- Each byte of a display does, but for those of its frames: of memory, of each resource's pixels, of each screen, and of each image.
pub record AreOfClients (state : State) (p : Painting Clients Clients) : Type 0 where
  pub memory : StandFor state.memory.bytes p.memory
  pub pixels : (id : ℕ) (resource : Resource) → resource_at id state.resources ≡ Some resource → StandFor resource.pixels (p.pixels id)
  pub screens : (scanout : ℕ) (screen : Screen) → slice_get state.scanouts.screens scanout ≡ Some (Some screen) → StandFor screen.pixels (p.screens scanout)
  pub images : (scanout : ℕ) (cursor : Cursor) → slice_get state.cursors scanout ≡ Some cursor → StandFor cursor.image (p.images scanout)
