-- The jobs that a display lends: the copies of transfers (VIRTIO 1.2, 5.7.6.8, TRANSFER_TO_HOST_2D).
use Rattle.std.specs.Prelude.{ℕ, List, [], Option, Some, None}
use Rattle.vg_formats.specs.declared.rect.Rect.{Rect}
use Rattle.vg_device.specs.declared.request.Request.{Request}
use Rattle.vg_device.specs.declared.request.Reply.{Reply}
use Rattle.vg_transfer.specs.Backings.{placed}

-- A job: the request that it is the copy of; the resource, of this width in pixels, and its pixels; the rectangle that is filled; the
-- bytes of guest memory that fill it, until they are in their places, and the pages that have them; the request's reply.
pub record Job : Type 0 where
  pub asked : Request
  pub resource : ℕ
  pub width : ℕ
  pub pixels : List ℕ
  pub rect : Rect
  pub bytes : Option (List ℕ)
  pub pages : List ℕ
  pub reply : Reply

abbrev pub after_placing : Option (List ℕ) → Job → Job
after_placing (Some bytes) job = record job { pixels = placed job.rect job.width bytes job.pixels; bytes = None; pages = [] }
after_placing None job = job

-- A job once its bytes are in their places.
abbrev pub worked : Job → Job
worked job = after_placing job.bytes job
