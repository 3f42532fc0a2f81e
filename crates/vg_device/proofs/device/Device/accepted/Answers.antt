-- The resource that is found is the one that the copy is of.
use Rattle.std.proofs.Common.{◌≡◌, false, refl, sym, rules}
use Rattle.std.specs.Prelude.{is_some}
use Rattle.vg_laws.proofs.Options.{none-there}
use Rattle.vg_blob.specs.Blobs.{blob_at}
use Rattle.vg_resource.specs.Resource.{resource_of}
use Rattle.vg_device.proofs.device.Device.accepted.Goals as goal

pub returns-in-None-clause-accepted : goal.returns-in-None-clause-accepted
returns-in-None-clause-accepted c =
    let s = c.self.inside in
    let apart : is_some (blob_at c.args.resource s.blobs) ≡ false = search rules in
    rw (← c.self.view_is) (record {
      some = search rules;
      no_blob = none-there (blob_at c.args.resource s.blobs) apart;
      found = resource_of c.in-Some.surface.now;
      there = sym c.in-Some.ensures.value;
      whole = c.in-Some.ensures.whole;
      width = refl;
      height = refl;
      accepted = search rules;
    })
