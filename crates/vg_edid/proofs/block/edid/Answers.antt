use Rattle.std.proofs.Common.{rules, ◌≡◌, ◌++◌, ◌∷◌, [], slice_set}
use Rattle.vg_numbers.specs.Numbers.{le}
use Rattle.vg_edid.specs.Edid.{edid_bytes, unsummed}
use Rattle.vg_edid.proofs.SumLemmas.{sum-edid_bytes}
use Rattle.vg_edid.proofs.block.edid.Goals as goal

pub returns-clause-sum : goal.returns-clause-sum
unfolding edid_bytes unsummed le
returns-clause-sum c =
    let same : slice_set (c.copy_from_slice.new.self ++ 0 ∷ []) 127 c.checksum.result ≡ edid_bytes c.args.width c.args.height c.args.scanout = search rules in
    rw same (sum-edid_bytes c.args.width c.args.height c.args.scanout)
