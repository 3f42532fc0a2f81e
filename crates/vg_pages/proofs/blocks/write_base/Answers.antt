use Rattle.std.proofs.Common.{refl, drop, arith}
use Rattle.std.proofs.lemmas.List.{length-take, length-drop}
use Rattle.vg_pages.proofs.Spliced.{written-in_base}
use Rattle.vg_pages.proofs.blocks.write_base.Goals as goal

pub returns-in-Ok : goal.returns-in-Ok
returns-in-Ok c =
    let base = c.args.base.now in
    let start = c.args.start in
    record {
      size = refl;
      long = omega (arith, length-take 4096 (drop start base), length-drop start base, c.requires.inside);
      page = c.in-Ok.ensures;
      rest = λ k out. refl;
    }

pub returns-in-Err : goal.returns-in-Err
returns-in-Err c = written-in_base c.args.base.now c.write.new.self c.args.bytes.now c.args.start c.args.from c.requires.inside c.requires.page c.write.ensures
