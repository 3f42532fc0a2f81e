use Rattle.std.specs.Prelude.{ℕ, ◌+◌, ◌^◌, ◌≤◌}

-- The space of a request is so many bytes from its base: in front the request itself, above the longest request the room
-- for its response, and above the largest room the indirect tables of its chain.
abbrev pub space : ℕ
space = 65536

-- The most bytes that a request has, and the most that there are for its response.
abbrev pub most_request : ℕ
most_request = 49152

abbrev pub most_room : ℕ
most_room = 8192

-- Where the room begins, and where the tables do.
abbrev pub room_at : ℕ → ℕ
room_at base = base + most_request

abbrev pub tables_at : ℕ → ℕ
tables_at base = base + (most_request + most_room)

-- A base above which there is space.
abbrev pub IsPlaced : ℕ → Type 0
IsPlaced base = base + space ≤ 2 ^ 64

-- The bytes of a request's header (VIRTIO 1.2, 5.7.6.7), which have a descriptor of their own in the shape Mixed.
abbrev pub header_size : ℕ
header_size = 24
