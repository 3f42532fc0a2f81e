use Rattle.std.proofs.Common.{rules}
use Rattle.vg_script.specs.ReadingWithin.{seen}
use Rattle.vg_script.proofs.CallForms.{without_words}
use Rattle.vg_script.proofs.reader.Reader.read_form.Goals as goal

pub returns-in_default-args-2-2 : goal.returns-in_default-args-2-2
returns-in_default-args-2-2 c = without_words (seen c.args.self.now) c.args.word.now c.args.args.now (search rules) (search rules) (search rules) (search rules)
