use Rattle.std.proofs.Common.{ℕ, ◌≡◌, ◌+◌, ◌≤◌, List, ◌++◌, length, take, drop, Option, Some, None, append_assoc, sym, ap, ◌∙◌, arith, length-append}
use Rattle.std.proofs.lemmas.List.{take-append-drop, take-take, take_at, drop-drop, length-take-le}
use Rattle.std.proofs.Math.Seq.{take-add}
use Rattle.vg_io.specs.Streams.{Gives, GivesUpTo, Takes}

-- What a source gives in two calls.
pub gives_both : (a b c : Option (List ℕ)) (xs ys : List ℕ) → Gives a b xs → Gives b c ys → Gives a c (xs ++ ys)
gives_both None b c xs ys first second = tt
gives_both (Some us) None c xs ys first second = absurd first
gives_both (Some us) (Some vs) None xs ys first second = absurd second
gives_both (Some us) (Some vs) (Some ws) xs ys first second = rw (first, second, append_assoc)

-- It gives at most as many as the two calls together.
pub gives_up_to : (a b c : Option (List ℕ)) (xs ys : List ℕ) (most : ℕ) → Gives a b xs → Gives b c ys → length xs + length ys ≤ most → GivesUpTo a c most
gives_up_to a b c xs ys most first second few =
    (xs ++ ys, gives_both a b c xs ys first second, omega (arith, length-append xs ys))

-- What a sink takes in two calls.
pub takes_both : (a b c : Option (List ℕ)) (xs ys : List ℕ) → Takes a b xs → Takes b c ys → Takes a c (xs ++ ys)
takes_both None b c xs ys first second = tt
takes_both (Some us) None c xs ys first second = absurd first
takes_both (Some us) (Some vs) None xs ys first second = absurd second
takes_both (Some us) (Some vs) (Some ws) xs ys first second = rw (second, first, append_assoc)

-- What a sink takes of a list, and then of a part that begins where that ends.
pub takes_next : (a b c : Option (List ℕ)) (xs : List ℕ) (at k n : ℕ) → Takes a b (take at xs) → Takes b c (take n (take k (drop at xs))) → n ≤ k → Takes a c (take (at + n) xs)
takes_next a b c xs at k n first second within =
    let joined : take at xs ++ take n (take k (drop at xs)) ≡ take (at + n) xs = ap (λ ys. take at xs ++ ys) (take-take n k (drop at xs) within) ∙ sym (take-add at n xs) in
    rw (← joined) (takes_both a b c _ _ first second)

-- What is left is what was copied from its front, and then the rest.
pub rest_is_copied : (rest copied tail bytes : List ℕ) (at n : ℕ) → rest ≡ drop at bytes → copied ≡ take n rest → n ≤ length rest → rest ≡ take n (copied ++ tail) ++ drop (at + n) bytes
rest_is_copied rest copied tail bytes at n is_rest is_copied within =
    let size : length copied ≡ n = ap length is_copied ∙ length-take-le n rest within in
    let front : take n (copied ++ tail) ≡ copied = take_at copied tail n size in
    let back : drop (at + n) bytes ≡ drop n rest = sym (drop-drop n at bytes) ∙ ap (drop n) (sym is_rest) in
    rw (front, is_copied, back) (sym (take-append-drop n rest))
