-- What a display keeps of the jobs that it has lent.
use Rattle.std.specs.Prelude.{◌≡◌, ◌≢◌, ℕ, false, true, List, drop, Some, None}
use Rattle.std.specs.List.{All}
use Rattle.vg_pages.specs.Memory.{Memory, is_among}
use Rattle.vg_refusals.specs.Refusals.{refusal_of}
use Rattle.vg_resource.specs.declared.resource.Resource.{Resource}
use Rattle.vg_resource.specs.Resource.{resource_at}
use Rattle.vg_blob.specs.Blobs.{blob_at}
use Rattle.vg_transfer.specs.Backings.{entries_at, transfer_refusals, transferred}
use Rattle.vg_wire.specs.declared.two_d.Command2d.TheVariants.{Transfer}
use Rattle.vg_wire.specs.Header.{header_of}
use Rattle.vg_wire_ext.specs.declared.command.Command.TheVariants.{TwoD}
use Rattle.vg_wire_ext.specs.declared.response.Response.TheVariants as responses
use Rattle.vg_wire_ext.specs.Commands.{command_of}
use Rattle.vg_device.specs.declared.request.Reply.TheVariants as replies
use Rattle.vg_device.specs.State.{State}
use Rattle.vg_device.specs.Step.{answered, request_refusals}
use Rattle.vg_pages.specs.Lending.{AreSameIn}
use Rattle.vg_transfer.specs.Backings.{placed}
use Rattle.vg_device.specs.Copies.{IsRun}
use Rattle.vg_machine.specs.Jobs.{Job}

-- The lane of a job's request.
abbrev pub job_lane : Job → ℕ
job_lane job = job.asked.lane

-- A job that is lent while the display is in this state: its request is a transfer that isn't refused, to the resource whose pixels the job
-- has, and placing its bytes is what the transfer does, whatever is written outside of its pages; and the reply is the request's.
pub record IsOut (state : State) (job : Job) : Type 0 where
  pub found : Resource
  pub offset : ℕ
  pub bytes : List ℕ
  pub lent : job.bytes ≡ Some bytes
  pub there : resource_at job.resource state.resources ≡ Some found
  pub pixels : found.pixels ≡ job.pixels
  pub width : found.width ≡ job.width
  pub no_blob : blob_at job.resource state.blobs ≡ None
  pub accepted : refusal_of (transfer_refusals true job.resource job.rect offset found.width found.height state.backings) ≡ None
  pub same : (other : Memory) → AreSameIn job.pages state.memory other
      → placed job.rect job.width bytes job.pixels ≡ transferred other (entries_at job.resource state.backings) job.rect offset job.width job.pixels
  pub run : IsRun job.asked.shape
  pub reads : command_of (header_of job.asked.bytes).kind (drop 24 job.asked.bytes) ≡ Some (TwoD (Transfer job.rect offset job.resource))
  pub let_in : refusal_of (request_refusals state job.asked.queue job.asked.bytes) ≡ None
  pub answers : job.reply ≡ replies.Response (answered job.asked.bytes job.asked.room responses.Nodata)

-- Two jobs have no lane, resource or page in common.
pub record AreApart (one other : Job) : Type 0 where
  pub lane : one.asked.lane ≢ other.asked.lane
  pub resource : one.resource ≢ other.resource
  pub pages : All (λ page. is_among other.pages page ≡ false) one.pages
