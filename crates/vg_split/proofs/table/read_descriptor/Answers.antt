use Rattle.std.proofs.Common.{ap}
use Rattle.vg_split.specs.Plays.{device_of}
use Rattle.vg_split.proofs.TableLemmas.{descriptor_tells}
use Rattle.vg_split.proofs.table.read_descriptor.Goals as goal

pub returns-clause-descriptor : goal.returns-clause-descriptor
returns-clause-descriptor g c =
    let held = (device_of c.args.pass.now.me.0).held in
    let held' = (device_of c.read_word-addr.new.pass.me.0).held in
    descriptor_tells c.args.line.now.shared.key.count c.args.size c.read_word-addr.result c.read_word-rest.result c.args.place c.descriptor_of.result held held' c.read_word-addr.ensures.word c.read_word-rest.ensures.word (ap (λ m. (device_of m.0).held) c.read_word-addr.ensures.line.2) c.requires.line.3 c.descriptor_of.ensures
