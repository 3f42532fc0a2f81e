use Rattle.std.proofs.Common.{◌∙◌, arith, refl}
use Rattle.vg_laws.proofs.Results.{on_err}
use Rattle.vg_journal.proofs.PrintingLemmas.{printed_start, strip_printed, strip_some, strips_printed}
use Rattle.vg_journal.proofs.printer.print_pixels.Goals as goal

pub returns-in_err-print_bytes-clause-some : goal.returns-in_err-print_bytes-clause-some
returns-in_err-print_bytes-clause-some g c =
    on_err _ (strip_some _ _ _ _ _ _ _ _ c.loop-at.invariant.printed c.piece-piece.ensures.bytes c.in_err-print_bytes.ensures.some)

pub loop-at-preserved : goal.loop-at-preserved
loop-at-preserved g c =
    record {
      printed = strip_printed _ _ _ _ _ _ _ _ _ c.loop-at.invariant.printed c.piece-piece.ensures.bytes c.in_ok-print_bytes.ensures.ok;
      same = c.in_ok-print_bytes.ensures.same ∙ c.loop-at.invariant.same;
      within = c.piece-piece.ensures.within;
    }

pub returns-clause-ok : goal.returns-clause-ok
returns-clause-ok g c = strips_printed _ _ _ _ _ _ c.loop-at.invariant.printed (omega (arith, c.loop-at-test.false))

pub loop-at-init : goal.loop-at-init
loop-at-init g c =
    record {
      printed = printed_start (g.K.Sink.held c.args.sink.now) c.args.buffer.now.items;
      same = refl;
      within = omega arith;
    }
