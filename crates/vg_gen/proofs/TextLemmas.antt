-- The text of a workload's lines, piece by piece.
use Rattle.std.proofs.Common.{◌≡◌, ◌++◌, ◌+◌, ◌-◌, ◌*◌, ◌%◌, ℕ, zero, suc, nat_lt, if◌then◌else◌, List, [], ◌∷◌, codes, decimal, append_assoc, replicate, arith, refl, ap, ◌∙◌, sym}
use Rattle.std.specs.List.{join_with_byte}
use Rattle.vg_gen.specs.Draws.{draw}
use Rattle.vg_gen.specs.Generated.{Words, text_of, hex_of, buffer_of, opening, joining, picture, pictures, cursor, move, moves, closing, client_lines, all_lines, display, memory, generated_lines, generated}
use Rattle.vg_gen.proofs.LineLemmas.{text_of-append}

-- The words of a line and its end, each in front of the rest.
abbrev line_before : Words → List ℕ → List ℕ
line_before [] more = 10 ∷ more
line_before (word ∷ []) more = word ++ 10 ∷ more
line_before (word ∷ next ∷ words) more = word ++ 32 ∷ line_before (next ∷ words) more

abbrev text_from : List Words → List ℕ
text_from [] = []
text_from (line ∷ lines) = line_before line (text_from lines)

line_is : (words : Words) (more : List ℕ) → join_with_byte 32 words ++ 10 ∷ more ≡ line_before words more
line_is [] more = refl
line_is (word ∷ []) more = refl
line_is (word ∷ next ∷ words) more = append_assoc word (32 ∷ join_with_byte 32 (next ∷ words)) (10 ∷ more) ∙ ap (λ t. word ++ 32 ∷ t) (line_is (next ∷ words) more)

text_is : (lines : List Words) → text_of lines ≡ text_from lines
text_is [] = refl
text_is (line ∷ lines) = ap (λ t. join_with_byte 32 line ++ 10 ∷ t) (text_is lines) ∙ line_is line (text_from lines)

pub picture_is : (number client n : ℕ) → text_of (picture number client n)
    ≡ codes "store " ++ (buffer_of n ++ (codes " 0 " ++ (hex_of (draw number client (n + 1)) ++ (codes " 3072\nflip " ++ (decimal (client - 1) ++ (codes " " ++ (buffer_of n ++ codes "\n")))))))
unfolding picture
picture_is number client n = text_is (picture number client n)

pub cursor_is : (number client : ℕ) → text_of (cursor number client)
    ≡ codes "buffer C 64 64 1\nstore C 0 " ++ (hex_of (draw number client 22) ++ (codes " 4096\nsend C 0 0 64 64\ncursor " ++ (decimal (client - 1) ++ codes " C 1 1 0 0\n")))
unfolding cursor
cursor_is number client = text_is (cursor number client)

pub move_is : (number client n : ℕ) → text_of (move number client n)
    ≡ codes "move " ++ (decimal (client - 1) ++ (codes " " ++ (decimal (draw number client (21 + 2 * n) % 64) ++ (codes " " ++ (decimal (draw number client (22 + 2 * n) % 64) ++ codes "\n")))))
unfolding move
move_is number client n = text_is (move number client n)

pub closing_is : (client : ℕ) → text_of (closing client) ≡ codes "await G" ++ (decimal (client + 1) ++ codes "\n")
unfolding closing
closing_is client = text_is (closing client)

-- ---- one more behind those so far

displayed : (n : ℕ) → text_of (replicate (suc n) display) ≡ text_of (replicate n display) ++ codes "display 64 48\n"
displayed zero = refl
displayed (suc n) = ap (λ t. codes "display 64 48\n" ++ t) (displayed n)

pub displays_more : (old : List ℕ) (n : ℕ) → (old ++ text_of (replicate n display)) ++ codes "display 64 48\n" ≡ old ++ text_of (replicate (n + 1) display)
displays_more old n =
    let e : suc n ≡ n + 1 = omega arith in
    append_assoc old (text_of (replicate n display)) (codes "display 64 48\n") ∙ ap (λ t. old ++ t) (sym (displayed n)) ∙ ap (λ k. old ++ text_of (replicate k display)) e

behind : (old : List ℕ) (a b : List Words) → (old ++ text_of a) ++ text_of b ≡ old ++ text_of (a ++ b)
behind old a b = append_assoc old (text_of a) (text_of b) ∙ ap (λ t. old ++ t) (sym (text_of-append a b))

pub clients_more : (old : List ℕ) (number clients n : ℕ) → (old ++ text_of (all_lines number clients n)) ++ text_of (client_lines number clients (n + 1)) ≡ old ++ text_of (all_lines number clients (n + 1))
clients_more old number clients n =
    let e : n + 1 ≡ suc n = omega arith in
    ap (λ k. (old ++ text_of (all_lines number clients n)) ++ text_of (client_lines number clients k)) e ∙ behind old (all_lines number clients n) (client_lines number clients (suc n))
    ∙ ap (λ k. old ++ text_of (all_lines number clients k)) (sym e)

pub pictures_more : (old : List ℕ) (number client n : ℕ) → (old ++ text_of (pictures number client n)) ++ text_of (picture number client (n + 1)) ≡ old ++ text_of (pictures number client (n + 1))
pictures_more old number client n =
    let e : n + 1 ≡ suc n = omega arith in
    ap (λ k. (old ++ text_of (pictures number client n)) ++ text_of (picture number client k)) e ∙ behind old (pictures number client n) (picture number client (suc n))
    ∙ ap (λ k. old ++ text_of (pictures number client k)) (sym e)

pub moves_more : (old : List ℕ) (number client n : ℕ) → (old ++ text_of (moves number client n)) ++ text_of (move number client (n + 1)) ≡ old ++ text_of (moves number client (n + 1))
moves_more old number client n =
    let e : n + 1 ≡ suc n = omega arith in
    ap (λ k. (old ++ text_of (moves number client n)) ++ text_of (move number client k)) e ∙ behind old (moves number client n) (move number client (suc n))
    ∙ ap (λ k. old ++ text_of (moves number client k)) (sym e)

-- The lines with which a client begins, and takes part in what the one before it shares, in two and three pieces.
pub opening_is : (old : List ℕ) (number client : ℕ)
    → old ++ codes "client\nbuffer A 64 48 1\nbuffer B 64 48 1\n"
    ++ (codes "take " ++ (decimal (client - 1) ++ (codes "\ncontext K\nexport A X" ++ (decimal client ++ codes "\n"))))
    ++ (codes "begin F" ++ (decimal client ++ (codes " K:" ++ (decimal (draw number client 1 % 64) ++ codes " send A 0 0 64 48\n")))) ≡ old ++ text_of (opening number client)
unfolding opening
opening_is old number client =
    let a : List Words = (codes "client" ∷ []) ∷ (codes "buffer" ∷ codes "A" ∷ codes "64" ∷ codes "48" ∷ codes "1" ∷ []) ∷ (codes "buffer" ∷ codes "B" ∷ codes "64" ∷ codes "48" ∷ codes "1" ∷ []) ∷ [] in
    let b : List Words = (codes "take" ∷ decimal (client - 1) ∷ []) ∷ (codes "context" ∷ codes "K" ∷ []) ∷ (codes "export" ∷ codes "A" ∷ (codes "X" ++ decimal client) ∷ []) ∷ [] in
    let c : List Words =
    (codes "begin" ∷ (codes "F" ++ decimal client) ∷ (codes "K:" ++ decimal (draw number client 1 % 64))
    ∷ codes "send" ∷ codes "A" ∷ codes "0" ∷ codes "0" ∷ codes "64" ∷ codes "48" ∷ []) ∷ [] in
    let ab : old ++ text_from a ++ text_from b ≡ old ++ text_of (a ++ b) = (λ i. old ++ sym (text_is a) i ++ sym (text_is b) i) ∙ behind old a b in
    (λ i. ab i ++ sym (text_is c) i) ∙ behind old (a ++ b) c

pub joining_is : (old : List ℕ) (client : ℕ)
    → old ++ (codes "import X" ++ (decimal (client - 1) ++ (codes " P\nawait F" ++ (decimal (client - 1) ++ codes "\n")))) ++ (codes "load P 0 4\nbegin G" ++ (decimal client ++ codes " - info\n"))
    ≡ old ++ text_of (joining client)
unfolding joining
joining_is old client =
    let a : List Words = (codes "import" ∷ (codes "X" ++ decimal (client - 1)) ∷ codes "P" ∷ []) ∷ (codes "await" ∷ (codes "F" ++ decimal (client - 1)) ∷ []) ∷ [] in
    let b : List Words = (codes "load" ∷ codes "P" ∷ codes "0" ∷ codes "4" ∷ []) ∷ (codes "begin" ∷ (codes "G" ++ decimal client) ∷ codes "-" ∷ codes "info" ∷ []) ∷ [] in
    (λ i. old ++ sym (text_is a) i ++ sym (text_is b) i) ∙ behind old a b

-- A client's lines, part by part.
pub client_is : (old : List ℕ) (number clients client : ℕ)
    → old ++ text_of (opening number client) ++ text_of (if nat_lt 1 client then joining client else []) ++ text_of (pictures number client 20) ++ text_of (cursor number client)
    ++ text_of (moves number client 10) ++ text_of (if nat_lt client clients then closing client else []) ≡ old ++ text_of (client_lines number clients client)
client_is old number clients client =
    let a = opening number client in
    let b = if nat_lt 1 client then joining client else [] in
    let c = pictures number client 20 in
    let d = cursor number client in
    let e = moves number client 10 in
    let f = if nat_lt client clients then closing client else [] in
    let ab = behind old a b in
    let abc = ap (λ t. t ++ text_of c) ab ∙ behind old (a ++ b) c in
    let abcd = ap (λ t. t ++ text_of d) abc ∙ behind old (a ++ b ++ c) d in
    let abcde = ap (λ t. t ++ text_of e) abcd ∙ behind old (a ++ b ++ c ++ d) e in
    ap (λ t. t ++ text_of f) abcde ∙ behind old (a ++ b ++ c ++ d ++ e) f

-- All lines, part by part.
pub generated_is : (number clients : ℕ) → [] ++ text_of (replicate clients display) ++ codes "memory 4096\n" ++ text_of (all_lines number clients clients) ≡ generated number clients
unfolding generated generated_lines
generated_is number clients =
    append_assoc (text_of (replicate clients display)) (codes "memory 4096\n") (text_of (all_lines number clients clients))
    ∙ sym (text_of-append (replicate clients display) (memory ∷ all_lines number clients clients))
