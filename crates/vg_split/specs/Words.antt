use Rattle.std.specs.Prelude.{◌≡◌, ℕ, ◌+◌, ◌*◌, ◌^◌, ◌<◌, List, ◌++◌, length, map, slice_index}
use Rattle.std.specs.List.{range_with_len, flat_map}
use Rattle.vg_chain.specs.declared.descriptor.Descriptor.{Descriptor}
use Rattle.vg_cargo.specs.Descriptors.{descriptor_from}
use Rattle.vg_numbers.specs.Numbers.{le, number_at}

-- Where a ring of size n has its words: the two indexes, two words for each descriptor, one for each available element
-- and one for each used element (VIRTIO 1.2, 2.7.5, 2.7.6 and 2.7.8).
abbrev pub available_index : ℕ
available_index = 0

abbrev pub used_index : ℕ
used_index = 1

abbrev pub addr_place : ℕ → ℕ
addr_place h = 2 + 2 * h

abbrev pub rest_place : ℕ → ℕ
rest_place h = 3 + 2 * h

abbrev pub available_place : ℕ → ℕ → ℕ
available_place n k = 2 + 2 * n + k

abbrev pub used_place : ℕ → ℕ → ℕ
used_place n k = 2 + 3 * n + k

-- A used element has the head and the length of what was written.
abbrev pub used_word : ℕ → ℕ → ℕ
used_word head len = head + len * 2 ^ 32

-- The ring's parts as a device over guest memory would see them, as bytes.
pub record Image : Type 0 where
  pub descriptors : List ℕ
  pub available : List ℕ
  pub used : List ℕ

abbrev pub table_from : ℕ → List ℕ → List Descriptor
table_from n words = map (λ h. descriptor_from (slice_index words (addr_place h)) (slice_index words (rest_place h))) (range_with_len 0 n)

abbrev pub image_of : ℕ → List ℕ → Image
image_of n words = record {
  descriptors = flat_map (λ h. le 8 (slice_index words (addr_place h)) ++ le 8 (slice_index words (rest_place h))) (range_with_len 0 n);
  available = le 2 0 ++ le 2 (slice_index words available_index) ++ flat_map (λ k. le 2 (slice_index words (available_place n k))) (range_with_len 0 n);
  used = le 2 0 ++ le 2 (slice_index words used_index) ++ flat_map (λ k. le 8 (slice_index words (used_place n k))) (range_with_len 0 n);
}

-- The bytes of an available ring of size n: two of flags, two of the index, and two of each element, in order
-- (VIRTIO 1.2, 2.7.6, struct virtq_avail). The driver sets no flag.
pub record IsAvailable (n : ℕ) (words bytes : List ℕ) : Type 0 where
  pub size : length bytes ≡ 4 + 2 * n
  pub flags : number_at 2 0 bytes ≡ 0
  pub index : slice_index words available_index < 2 ^ 16 → number_at 2 2 bytes ≡ slice_index words available_index
  pub elements : (k : ℕ) → k < n → slice_index words (available_place n k) < 2 ^ 16 → number_at 2 (4 + 2 * k) bytes ≡ slice_index words (available_place n k)

-- The bytes of a used ring of size n: two of flags, two of the index, and of each element, in order, four of the head and
-- four of the length (VIRTIO 1.2, 2.7.8, struct virtq_used). The device sets no flag.
pub record IsUsed (n : ℕ) (words bytes : List ℕ) : Type 0 where
  pub size : length bytes ≡ 4 + 8 * n
  pub flags : number_at 2 0 bytes ≡ 0
  pub index : slice_index words used_index < 2 ^ 16 → number_at 2 2 bytes ≡ slice_index words used_index
  pub elements : (k head len : ℕ) → k < n → head < 2 ^ 16 → len < 2 ^ 32 → slice_index words (used_place n k) ≡ used_word head len
      → (number_at 4 (4 + 8 * k) bytes ≡ head) × (number_at 4 (8 + 8 * k) bytes ≡ len)
