use Rattle.std.proofs.Common.{◌≡◌, ◌∙◌, ap, refl}
use Rattle.vg_wire_ext.specs.Request.{request_of, request_bytes, queue_of}
use Rattle.vg_wire_ext.proofs.RequestLemmas.{request_of-request_bytes}
use Rattle.vg_wire_ext.proofs.request.write_request.Goals as goal

pub returns-clause-reads : goal.returns-clause-reads
returns-clause-reads c =
    let written : c.put_command.new.out.items ≡ request_bytes c.args.header.now c.args.command.now =
    c.in_ok-put_command.ensures.bytes ∙ rw (c.in_ok-put_header.ensures.bytes, c.in_ok-out.ensures.items) refl in
    ap (request_of (queue_of c.args.command.now)) written
    ∙ request_of-request_bytes c.args.header.now c.args.command.now c.put_header.ensures.fits c.in_ok-put_command.ensures.fits c.requires.entries c.requires.kind
