-- What the jobs that a display has lent stand in the way of: what reads or changes a resource whose pixels are away, or guest pages whose
-- bytes are being copied, and the end of a context that a lent transfer names. All of it is our own.
use Rattle.std.specs.Prelude.{◌==◌, ◌&&◌, ◌||◌, ℕ, Bool, false, List, [], ◌∷◌, ◌++◌, length, nat_lt, bit_and, if◌then◌else◌}
use Rattle.std.specs.List.{list_any}
use Rattle.vg_formats.specs.declared.entry.MemEntry.{MemEntry}
use Rattle.vg_pages.specs.Memory.{free_pages, is_among}
use Rattle.vg_transfer.specs.Backings.{entries_at}
use Rattle.vg_blob.specs.Blobs.{blob_at, entries_of}
use Rattle.vg_share.specs.Cells.{pages_of}
use Rattle.vg_share.specs.Share.{new_pages, pages_at}
use Rattle.vg_chain.specs.declared.shape.Shape.{Shape}
use Rattle.vg_chain.specs.declared.shape.Shape.TheVariants.{Bad}
use Rattle.vg_client_holds.specs.declared.act.Act.{Act}
use Rattle.vg_client_holds.specs.declared.act.Act.TheVariants.{Load, Reserve, Store}
use Rattle.vg_wire.specs.Header.{header_of}
use Rattle.vg_wire_ext.specs.Request.{request_of}
use Rattle.vg_wire_ext.specs.declared.names.Named.{Named}
use Rattle.vg_wire_ext.specs.declared.names.Named.TheVariants.{Context, Flush, Nothing, Resource, Transfer}
use Rattle.vg_wire_ext.specs.Named.{named_in}
use Rattle.vg_device.specs.declared.request.Request.{Request}
use Rattle.vg_device.specs.State.{State}
use Rattle.vg_backing.specs.Backing.{touches}
use Rattle.vg_machine.specs.Jobs.{Job}

-- The pixels of the resource are away.
abbrev pub is_lent : List Job → ℕ → Bool
is_lent jobs id = list_any (λ job. job.resource == id) jobs

-- The pages whose bytes are being copied.
abbrev pub lent_pages : List Job → List ℕ
lent_pages [] = []
lent_pages (job ∷ more) = job.pages ++ lent_pages more

-- One of these pages is.
abbrev pub has_lent : List Job → List ℕ → Bool
has_lent jobs pages = list_any (is_among (lent_pages jobs)) pages

-- One of them has a byte of these entries.
abbrev pub touches_lent : List Job → List MemEntry → Bool
touches_lent jobs entries = list_any (λ page. touches page entries) (lent_pages jobs)

-- The request's flags have INFO_RING_IDX (bit 1), so that it names a context.
abbrev pub names_context : Request → Bool
names_context request = bit_and (header_of request.bytes).flags 2 == 2

-- It names this context.
abbrev pub is_of_context : ℕ → Request → Bool
is_of_context context request = names_context request && ((header_of request.bytes).ctx_id == context)

-- A job's request does.
abbrev pub keeps_context : List Job → ℕ → Bool
keeps_context jobs context = list_any (λ job. is_of_context context job.asked) jobs

-- What a request that names this stands behind: a resource whose pixels are away; a flush of a blob with a byte in a page that is copied;
-- a transfer from a backing with such a byte; the context of a lent transfer.
abbrev pub blocks_named : List Job → State → Named → Bool
blocks_named jobs state Nothing = false
blocks_named jobs state (Resource id) = is_lent jobs id
blocks_named jobs state (Flush id) = is_lent jobs id || touches_lent jobs (entries_of (blob_at id state.blobs))
blocks_named jobs state (Transfer id) = is_lent jobs id || touches_lent jobs (entries_at id state.backings)
blocks_named jobs state (Context id) = keeps_context jobs id

-- Of a Bad shape nothing is read.
abbrev pub blocks_shaped : List Job → State → Request → Shape → Bool
blocks_shaped jobs state request (Bad fault) = false
blocks_shaped jobs state request _ = blocks_named jobs state (named_in (request_of request.queue request.bytes))

abbrev pub blocks : List Job → State → Request → Bool
blocks jobs state request = blocks_shaped jobs state request request.shape

-- The acts: a store to a buffer with a page that is copied, and a load; a reserve that would take such a page.
abbrev pub blocks_act : List Job → State → Act → Bool
blocks_act jobs state (Store key offset bytes times) = has_lent jobs (pages_at key state.share)
blocks_act jobs state (Load key offset n) = has_lent jobs (pages_at key state.share)
blocks_act jobs state (Reserve width height format bytes) =
    if nat_lt (length (free_pages state.memory.taken)) (pages_of bytes) then false else has_lent jobs (new_pages bytes state.memory)
blocks_act jobs state _ = false
