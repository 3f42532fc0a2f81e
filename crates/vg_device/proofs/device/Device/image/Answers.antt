use Rattle.std.proofs.Common.{◌≡◌, rules, subst, Option, arith}
use Rattle.vg_resource.specs.declared.resource.Resource.{Resource}
use Rattle.vg_device.specs.ChangeWithin.{IsImage}
use Rattle.vg_device.proofs.CursorLemmas.{image-is}
use Rattle.vg_resource.specs.Resource.{resource_of}
use Rattle.vg_device.proofs.device.Device.image.Goals as goal

pub returns-clause-done : goal.returns-clause-done
returns-clause-done c =
    let surface : Resource = resource_of c.in-Some.surface.now in
    let wide : surface.width ≡ 64 = search rules in
    let high : surface.height ≡ 64 = search rules in
    rw (← c.self.view_is)
    (subst (λ (found : Option Resource). IsImage found c.args.hot_x c.args.hot_y c.in_ok-image.image.items) c.in-Some.ensures.value
    (image-is surface c.args.hot_x c.args.hot_y c.in_ok-image.image.items c.in-Some.ensures.whole wide high (omega arith) (omega arith) c.in_ok-image.ensures))
