use Rattle.std.proofs.Common.{arith}
use Rattle.vg_script_words.proofs.HexDigits.{byte_told}
use Rattle.vg_script_words.proofs.words.byte_of.Goals as goal

pub overflow_cast-result : goal.overflow_cast-result
overflow_cast-result c =
    let small = (byte_told c.args.pair c.from_le_bytes-both.result (search arith) c.from_le_bytes-both.ensures c.requires).1 in
    search (arith, small)

pub returns : goal.returns
returns c = (byte_told c.args.pair c.from_le_bytes-both.result (search arith) c.from_le_bytes-both.ensures c.requires).0
