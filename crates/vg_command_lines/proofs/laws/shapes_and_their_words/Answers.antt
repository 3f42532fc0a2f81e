use Rattle.vg_command_lines.proofs.ShapeLaws.{plain_shape, shape_back, shape_only}
use Rattle.vg_command_lines.proofs.laws.shapes_and_their_words.Goals as goal

pub returns : goal.returns
returns c = record { plain = plain_shape; back = shape_back; only = shape_only }
