-- The workload of a number: a script in which so many clients, each with a display of its own, draw, share a buffer with the next one, wait for
-- each other and move their cursors.
use Rattle.std.specs.Prelude.{ℕ, zero, suc, ◌+◌, ◌*◌, ◌-◌, ◌%◌, ◌==◌, nat_lt, if◌then◌else◌, List, [], ◌∷◌, ◌++◌, replicate, codes, decimal}
use Rattle.std.specs.List.{join_with_byte}
use Rattle.hex.specs.Hex.{encode_lower}
use Rattle.vg_numbers.specs.Numbers.{le}
use Rattle.vg_gen.specs.Draws.{draw}

-- A line's words.
abbrev pub Words : Type 0
Words = List (List ℕ)

-- The text of lines: their words with a space between two, and the end of the line, the byte 10, behind each.
abbrev pub text_of : List Words → List ℕ
text_of [] = []
text_of (line ∷ lines) = join_with_byte 32 line ++ 10 ∷ text_of lines

-- The 4 bytes of a number, the lowest first, as digits.
abbrev pub hex_of : ℕ → List ℕ
hex_of number = encode_lower (le 4 number)

-- The buffer that the nth picture is drawn into: A and B by turns.
abbrev pub buffer_of : ℕ → List ℕ
buffer_of n = if n % 2 == 1 then codes "A" else codes "B"

-- A client begins: it makes its two buffers, leases the scanout of its display, makes a context, exports a buffer, and begins a transfer of it on
-- a timeline of the context.
unfoldable pub opening : (number client : ℕ) → List Words
opening number client =
    (codes "client" ∷ [])
    ∷ (codes "buffer" ∷ codes "A" ∷ codes "64" ∷ codes "48" ∷ codes "1" ∷ [])
    ∷ (codes "buffer" ∷ codes "B" ∷ codes "64" ∷ codes "48" ∷ codes "1" ∷ [])
    ∷ (codes "take" ∷ decimal (client - 1) ∷ [])
    ∷ (codes "context" ∷ codes "K" ∷ [])
    ∷ (codes "export" ∷ codes "A" ∷ (codes "X" ++ decimal client) ∷ [])
    ∷ (codes "begin" ∷ (codes "F" ++ decimal client) ∷ (codes "K:" ++ decimal (draw number client 1 % 64))
    ∷ codes "send" ∷ codes "A" ∷ codes "0" ∷ codes "0" ∷ codes "64" ∷ codes "48" ∷ [])
    ∷ []

-- A client takes part in what the one before it shares: it imports that one's buffer, waits for its transfer, looks at the first pixel, and begins a
-- command for which that one waits in turn.
unfoldable pub joining : (client : ℕ) → List Words
joining client =
    (codes "import" ∷ (codes "X" ++ decimal (client - 1)) ∷ codes "P" ∷ [])
    ∷ (codes "await" ∷ (codes "F" ++ decimal (client - 1)) ∷ [])
    ∷ (codes "load" ∷ codes "P" ∷ codes "0" ∷ codes "4" ∷ [])
    ∷ (codes "begin" ∷ (codes "G" ++ decimal client) ∷ codes "-" ∷ codes "info" ∷ [])
    ∷ []

-- The nth picture, from 1: a buffer is filled with one pixel, and shown.
unfoldable pub picture : (number client n : ℕ) → List Words
picture number client n =
    (codes "store" ∷ buffer_of n ∷ codes "0" ∷ hex_of (draw number client (n + 1)) ∷ codes "3072" ∷ [])
    ∷ (codes "flip" ∷ decimal (client - 1) ∷ buffer_of n ∷ [])
    ∷ []

-- The first n pictures.
abbrev pub pictures : (number client n : ℕ) → List Words
pictures number client zero = []
pictures number client (suc n) = pictures number client n ++ picture number client (suc n)

-- The cursor gets an image of one pixel.
unfoldable pub cursor : (number client : ℕ) → List Words
cursor number client =
    (codes "buffer" ∷ codes "C" ∷ codes "64" ∷ codes "64" ∷ codes "1" ∷ [])
    ∷ (codes "store" ∷ codes "C" ∷ codes "0" ∷ hex_of (draw number client 22) ∷ codes "4096" ∷ [])
    ∷ (codes "send" ∷ codes "C" ∷ codes "0" ∷ codes "0" ∷ codes "64" ∷ codes "64" ∷ [])
    ∷ (codes "cursor" ∷ decimal (client - 1) ∷ codes "C" ∷ codes "1" ∷ codes "1" ∷ codes "0" ∷ codes "0" ∷ [])
    ∷ []

-- The nth move of the cursor, from 1.
unfoldable pub move : (number client n : ℕ) → List Words
move number client n =
    (codes "move" ∷ decimal (client - 1) ∷ decimal (draw number client (21 + 2 * n) % 64) ∷ decimal (draw number client (22 + 2 * n) % 64) ∷ [])
    ∷ []

-- The first n moves.
abbrev pub moves : (number client n : ℕ) → List Words
moves number client zero = []
moves number client (suc n) = moves number client n ++ move number client (suc n)

-- A client waits for the next one.
unfoldable pub closing : (client : ℕ) → List Words
closing client = (codes "await" ∷ (codes "G" ++ decimal (client + 1)) ∷ []) ∷ []

-- The lines of a client: all but the first take part in what the one before them shares, and all but the last wait for the next.
abbrev pub client_lines : (number clients client : ℕ) → List Words
client_lines number clients client =
    opening number client
    ++ (if nat_lt 1 client then joining client else [])
    ++ pictures number client 20
    ++ cursor number client
    ++ moves number client 10
    ++ (if nat_lt client clients then closing client else [])

-- The lines of the first n clients.
abbrev pub all_lines : (number clients n : ℕ) → List Words
all_lines number clients zero = []
all_lines number clients (suc n) = all_lines number clients n ++ client_lines number clients (suc n)

abbrev pub display : Words
display = codes "display" ∷ codes "64" ∷ codes "48" ∷ []

abbrev pub memory : Words
memory = codes "memory" ∷ codes "4096" ∷ []

-- The script of a number, with so many clients.
unfoldable pub generated_lines : (number clients : ℕ) → List Words
generated_lines number clients = replicate clients display ++ memory ∷ all_lines number clients clients

unfoldable pub generated : (number clients : ℕ) → List ℕ
generated number clients = text_of (generated_lines number clients)
