use Rattle.vg_text.proofs.PackingLemmas.{decimal_characters}
use Rattle.vg_text.proofs.packed.Packed.put_number.Goals as goal

pub put-requires : goal.put-requires
put-requires c = rw (c.as_bytes.ensures.value, c.format.ensures.text) (decimal_characters _ c.ranges.number.fits)
