use Rattle.std.proofs.Common.{◌≡◌, ◌*◌, ◌/◌, ◌∙◌, [], List, ℕ, take, drop, get_or, length, ap, arith, refl}
use Rattle.std.proofs.lemmas.List.{take_more_set}
use Rattle.std.specs.List.{list_all}
use Rattle.vg_script_words.specs.Words.{is_hex_digit, hex_bytes}
use Rattle.vg_script_words.proofs.HexDigits.{hex_more, pair_at, part_digits}
use Rattle.vg_script_words.proofs.words.decode.Goals as goal

pub loop-i-init : goal.loop-i-init
unfolding hex_bytes
loop-i-init c = refl

pub byte_of-requires : goal.byte_of-requires
byte_of-requires c =
    ap (λ (ps : List (List ℕ)). list_all is_hex_digit (get_or ps c.loop-i.i [])) c.as_chunks.ensures.front
    ∙ ap (list_all is_hex_digit) (pair_at (length c.args.word.now / 2) c.loop-i.i c.args.word.now [] (omega arith))
    ∙ part_digits c.args.word.now (2 * c.loop-i.i) 2 c.requires.digits

pub loop-i-preserved : goal.loop-i-preserved
loop-i-preserved c =
    let more = hex_more c.args.word.now c.loop-i.i (omega arith) in
    let pair : get_or c.as_chunks.result.0.now c.loop-i.i [] ≡ take 2 (drop (2 * c.loop-i.i) c.args.word.now) = ap (λ (ps : List (List ℕ)). get_or ps c.loop-i.i []) c.as_chunks.ensures.front ∙ pair_at (length c.args.word.now / 2) c.loop-i.i c.args.word.now [] (omega arith) in
    let set = take_more_set c.loop-i.bytes c.loop-i.i c.byte_of.result (omega arith) in
    cc (more, set, pair, c.byte_of.ensures, c.loop-i.invariant)
