-- A rectangle that isn't refused lies inside of the resource, whose pixels are as many as its size says.
use Rattle.std.proofs.Common.{◌≡◌, Some, rules}
use Rattle.vg_resource.specs.Resource.{pixels_at}
use Rattle.vg_device.proofs.CopyLemmas.{copy-rows}
use Rattle.vg_device.proofs.device.Device.lend.Goals as goal

pub returns-clause-rows : goal.returns-clause-rows
returns-clause-rows c =
    let given : pixels_at c.args.copy.now.resource c.args.self.now.resources ≡ Some c.in-Some.pixels.items = search rules in
    copy-rows c.args.self.now c.args.copy.now c.in-Some.pixels.items c.requires given
