use Rattle.std.proofs.Common.{subst}
use Rattle.vg_split.specs.Plays.{device_of}
use Rattle.vg_split.specs.Tells.{TellsWord}
use Rattle.vg_split.proofs.ToldDevice.{read_step}
use Rattle.vg_split.proofs.device.read_word.Goals as goal

pub load-requires : goal.load-requires
load-requires g c =
    let t = c.args.line.now.shared in
    let me = c.args.pass.now.me in
    (c.requires.line.0, c.requires.word, read_step g.P.Tagged.is_wanted t.key.queue t.key.count t.table_id.slots c.args.pass.now.id c.args.word me (device_of me.0) c.requires.view c.requires.line.1)

pub returns-clause-word : goal.returns-clause-word
returns-clause-word g c = subst (λ k. TellsWord k c.args.word c.load.result (device_of c.args.pass.now.me.0).held) c.requires.line.1 c.load.ensures.2.1
