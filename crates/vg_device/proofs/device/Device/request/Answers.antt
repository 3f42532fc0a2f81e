use Rattle.std.proofs.Common.{◌∙◌, ap, refl, sym}
use Rattle.vg_device.specs.declared.request.Reply.{Reply}
use Rattle.vg_device.specs.declared.request.Reply.TheVariants as replies
use Rattle.vg_device.proofs.ShapeLemmas.{request-given}
use Rattle.vg_device.proofs.device.Device.request.Goals as goal

pub returns : goal.returns
returns c =
    let items = c.in_ok-response.response.items in
    record {
      step =
          ap (λ (r : Reply). (c.respond.new.self, r)) c.response_of.ensures
          ∙ request-given c.args.self.now c.respond.new.self c.args.request.now c.as_slice-bytes.result.now items items c.in_default.not-Bad c.as_slice-bytes.ensures c.in_ok-response.ensures.step refl;
      same = c.response_of-2.ensures ∙ ap replies.Response c.in_ok-response.ensures.same ∙ sym c.response_of.ensures;
      err = tt;
    }
