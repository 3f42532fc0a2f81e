use Rattle.vg_check.proofs.RightLemmas.{right-sound, sound-right}
use Rattle.vg_check.proofs.laws.right_is_sound.Goals as goal

pub returns : goal.returns
returns c = λ setup frames H. (
  (λ all. (right-sound setup frames H all.0, all.1)),
  (λ all. (sound-right setup frames H all.0 all.1, all.1)),
)
