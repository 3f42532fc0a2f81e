use Rattle.std.specs.Prelude.{ℕ, ◌^◌, ◌<◌, List, [], ◌∷◌, ◌++◌, slice_index}
use Rattle.vg_wire.specs.declared.header.Header.{Header}
use Rattle.vg_numbers.specs.Numbers.{number_at, le}

-- The header that the first 24 bytes spell, each field at its place (VIRTIO 1.2, 5.7.6.7, struct virtio_gpu_ctrl_hdr).
abbrev pub header_of : List ℕ → Header
header_of bytes = record {
  kind = number_at 4 0 bytes;
  flags = number_at 4 4 bytes;
  fence_id = number_at 8 8 bytes;
  ctx_id = number_at 4 16 bytes;
  ring_idx = slice_index bytes 20;
}

-- The one spelling of a header, with padding 0.
unfoldable pub header_bytes : Header → List ℕ
header_bytes header =
    le 4 header.kind ++ le 4 header.flags ++ le 8 header.fence_id ++ le 4 header.ctx_id
    ++ (header.ring_idx ∷ 0 ∷ 0 ∷ 0 ∷ [])

-- A header whose fields fit their bytes, as each value of the type does.
pub record IsHeader (header : Header) : Type 0 where
  pub kind : header.kind < 2 ^ 32
  pub flags : header.flags < 2 ^ 32
  pub fence_id : header.fence_id < 2 ^ 64
  pub ctx_id : header.ctx_id < 2 ^ 32
  pub ring_idx : header.ring_idx < 2 ^ 8
