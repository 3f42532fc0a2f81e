use Rattle.std.proofs.Common.{arith, length}
use Rattle.vg_script_part.proofs.LineLemmas.{ok-told, performed}
use Rattle.vg_script_part.proofs.performing.follow.Goals as goal

pub returns-in-Ok-clause-performed : goal.returns-in-Ok-clause-performed
returns-in-Ok-clause-performed g c = λ yes.
    let done = c.run_lines-went.ensures.done yes in
    let lines = c.args.lines.items in (
      done.0,
      done.1,
      performed done.0 c.run_lines-went.new.told.items lines (length lines) c.run_lines-went.new.client c.end-token.result.0 done.2 (omega arith) c.end-token.ensures.number c.end-token.ensures.idle c.end-token.ensures.start (ok-told c.end-token.result.1 _ c.in-Ok.is c.end-token.ensures.ended).1,
    )
