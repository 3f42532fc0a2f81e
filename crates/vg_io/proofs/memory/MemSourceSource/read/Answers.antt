use Rattle.std.proofs.Common.{◌≡◌, ◌≤◌, length, take, drop, arith, rules}
use Rattle.std.proofs.lemmas.Grind.{common_steps}
use Rattle.vg_io.proofs.StreamLemmas.{rest_is_copied}
use Rattle.vg_io.proofs.memory.MemSourceSource.read.Goals as goal

pub returns-clause-bytes : goal.returns-clause-bytes
returns-clause-bytes c =
    let rest : c.args.self.now.rest ≡ drop c.self.inside.at c.self.inside.bytes.items = search rules in
    let copied : c.copy_from_slice.new.self ≡ take c.min-n.result c.args.self.now.rest = grind (arith, common_steps) in
    let within : c.min-n.result ≤ length c.args.self.now.rest = grind (arith, common_steps) in
    rest_is_copied c.args.self.now.rest c.copy_from_slice.new.self _ c.self.inside.bytes.items c.self.inside.at c.min-n.result rest copied within
