use Rattle.std.proofs.Common.{◌≡◌, ◌∙◌, [], ◌∷◌, ◌++◌, List, length, sym, ap, arith}
use Rattle.vg_script.specs.declared.types.Line.{Line}
use Rattle.vg_script_part.proofs.LineLemmas.{line-fits, running-done, running-first, running-more}
use Rattle.vg_script_part.proofs.performing.run_lines.Goals as goal

pub loop-line-init : goal.loop-line-init
loop-line-init g c = (running-first c.requires.following.0 (length c.args.labels.now.items) c.args.lines.items c.reverse.new.self.items c.args.told.now.items c.args.client.now c.requires.following.1 c.requires.following.2 c.reverse.ensures.items, c.requires.told)

pub run_line-requires-clause-call : goal.run_line-requires-clause-call
run_line-requires-clause-call g c = line-fits (length c.args.labels.now.items) c.args.lines.items c.loop-line.left.items c.pop.new.self.items c.args.client.now c.loop-line.client c.loop-line.told.items c.in-Some.line c.loop-line.invariant.0 c.in-Some.ensures.items

pub loop-line-preserved : goal.loop-line-preserved
loop-line-preserved g c =
    let rest : c.loop-line.left.items ≡ c.give_back.new.left.items ++ c.in-Some.line ∷ [] = c.in-Some.ensures.items ∙ ap (λ (ls : List Line). ls ++ c.in-Some.line ∷ []) (sym c.give_back.ensures) in (
      running-more (length c.args.labels.now.items) c.args.lines.items c.loop-line.left.items c.give_back.new.left.items c.args.client.now c.loop-line.client c.run_line.new.client c.loop-line.told.items c.run_line.new.told.items c.in-Some.line
          c.loop-line.invariant.0 rest c.in-Ok.ensures.done,
      c.run_line.ensures.told,
    )

pub returns-clause-done : goal.returns-clause-done
returns-clause-done g c = λ _. running-done (length c.args.labels.now.items) c.args.lines.items c.loop-line.left.items c.args.client.now c.loop-line.client c.loop-line.told.items c.loop-line.invariant.0 (omega (arith, c.in_default.ensures.cases.0))
