use Rattle.std.proofs.Common.{subst}
use Rattle.vg_labels.specs.Labels.{IsNoted}
use Rattle.vg_script_part.proofs.ToldLemmas.{noted-here, noted-there}
use Rattle.vg_script_part.proofs.telling.see.Goals as goal

pub returns-in-Some-clause-there : goal.returns-in-Some-clause-there
returns-in-Some-clause-there g c =
    let given = c.args.given in
    let noted = subst (λ note. IsNoted given note) c.in-Some.is c.requires in
    noted-there given given.gift c.in-Some.note.seen c.meet.new.self.caller.token.seen c.meet.ensures.met (noted-here given given.gift c.in-Some.note noted)
