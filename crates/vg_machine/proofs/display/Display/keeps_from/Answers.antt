-- What the flags tell is what the jobs' pages do.
use Rattle.std.proofs.Common.{◌≡◌, false, rules, subst}
use Rattle.vg_wire_ext.specs.Request.{request_of}
use Rattle.vg_wire_ext.specs.Named.{named_in}
use Rattle.vg_wire_ext.specs.declared.names.Named.TheVariants as names
use Rattle.vg_device.proofs.CopyLemmas.{is-run}
use Rattle.vg_machine.specs.Blocks.{blocks, is_lent, lent_pages}
use Rattle.vg_machine.specs.Lender.{Lender}
use Rattle.vg_machine.proofs.DisplayLemmas.{kept-flush, kept-transfer}
use Rattle.vg_machine.proofs.display.Display.keeps_from.Goals as goal

pub returns-else-has_resource : goal.returns-else-has_resource
returns-else-has_resource c =
    let s = c.self.inside in
    let request = c.args.request.now in
    let named : named_in (request_of request.queue request.bytes) ≡ names.Flush c.in-Flush.id = search rules in
    let here : is_lent s.loans.jobs c.in-Flush.id ≡ false = search rules in
    subst (λ (d : Lender). c.blob_touches.result ≡ blocks d.lent d.state request) c.self.view_is (kept-flush s.loans.jobs s.device request c.in-Flush.id c.blob_touches.result (is-run request.shape c.in_default.not-Bad) named here
    (c.blob_touches.ensures (lent_pages s.loans.jobs) c.flags-flags.ensures))

pub returns-else-has_resource-2 : goal.returns-else-has_resource-2
returns-else-has_resource-2 c =
    let s = c.self.inside in
    let request = c.args.request.now in
    let named : named_in (request_of request.queue request.bytes) ≡ names.Transfer c.in-Transfer.id = search rules in
    let here : is_lent s.loans.jobs c.in-Transfer.id ≡ false = search rules in
    subst (λ (d : Lender). c.backing_touches.result ≡ blocks d.lent d.state request) c.self.view_is (kept-transfer s.loans.jobs s.device request c.in-Transfer.id c.backing_touches.result (is-run request.shape c.in_default.not-Bad) named here
    (c.backing_touches.ensures (lent_pages s.loans.jobs) c.flags-flags.ensures))
