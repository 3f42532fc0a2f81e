use Rattle.std.proofs.Common.{◌∙◌}
use Rattle.vg_names.proofs.CountLemmas.{one-counted}
use Rattle.vg_names.proofs.names.Names.has_one_name.Goals as goal

pub returns : goal.returns
returns c = rw (← c.self.view_is) (c.has_one.ensures ∙ one-counted c.args.key c.self.inside.held c.self.inside.places.items c.self.invariant)
