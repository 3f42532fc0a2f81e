use Rattle.std.proofs.Common.{◌∙◌, subst, sym}
use Rattle.vg_driver.specs.Halves as halves
use Rattle.vg_driver.proofs.TicketLemmas.{call_unrun, reply_done, ticket_done, ticket_unrun}
use Rattle.vg_driver.proofs.driver.settle.Goals as goal

pub returns-in-Done : goal.returns-in-Done
returns-in-Done g c =
    let back = c.args.back in
    let is = sym c.apart-pass.ensures.pass ∙ c.in-Done.is in
    let of = subst (halves.IsOf c.args.token.now.account.number c.args.ticket.call) is c.requires.of in
    record {
      done = c.in-Done.done;
      back = c.take_back-entry.ensures.back;
      is = ticket_done c.args.token.now c.args.ticket c.in-Done.done c.take_back-entry.new.self c.requires.out of.1 c.take_back-entry.ensures.back;
      entry = c.take_back-entry.ensures.number;
      reply = c.reply_in.ensures ∙ reply_done c.in-Done.done back c.apart-pass.result.1 c.apart-pass.result.2.items is c.apart-pass.ensures.shape c.apart-pass.ensures.told c.can_be_read.ensures;
    }

pub returns-in-Wanted : goal.returns-in-Wanted
returns-in-Wanted g c =
    let token = c.args.token.now in
    let of = subst (halves.IsOf token.account.number c.args.ticket.call) (sym c.apart-pass.ensures.pass) c.requires.of in
    let call = call_unrun c.apart-pass.result.0 c.in-Wanted.pass token.account.number c.args.ticket.call c.in-Wanted.is of in
    record {
      pass = c.in-Wanted.pass;
      back = c.take_unrun.ensures;
      is = ticket_unrun token c.args.ticket c.in-Wanted.pass c.take_unrun.new.self c.requires.out call c.take_unrun.ensures;
    }
