use Rattle.std.proofs.Common.{rules, inl, inr, map, string_bytes, subst}
use Rattle.vg_run.specs.Headline.{IsRun}
use Rattle.vg_run.specs.Checks.{IsCheck, IsOrigins, IsUpgrade}
use Rattle.vg_run.specs.Generates.{IsGen, Sums, SumsPartly}
use Rattle.vg_run.proofs.WordLemmas.{gen-once}
use Rattle.vg_run.proofs.top.vgpu.Goals as goal

pub returns-in-Some-Run-clause-script : goal.returns-in-Some-Run-clause-script
returns-in-Some-Run-clause-script g c = λ line kind is.
    let asked : IsRun (map string_bytes c.args.words.now) = search rules in
    let told = c.run_from.ensures.script line kind is in
    (asked, told.0, told.1)

pub returns-in-Some-Check-clause-wrong : goal.returns-in-Some-Check-clause-wrong
returns-in-Some-Check-clause-wrong g c = λ entry is.
    let asked : IsCheck (map string_bytes c.args.words.now) = search rules in
    (inl asked, c.answer_from.ensures.wrong entry is)

pub returns-in-Some-Check-clause-journal : goal.returns-in-Some-Check-clause-journal
returns-in-Some-Check-clause-journal g c = λ line is.
    let asked : IsCheck (map string_bytes c.args.words.now) = search rules in
    let told = c.answer_from.ensures.journal line is in
    (inl asked, told.0, told.1)

pub returns-in-Some-Origins-clause-wrong : goal.returns-in-Some-Origins-clause-wrong
returns-in-Some-Origins-clause-wrong g c = λ entry is.
    let asked : IsOrigins (map string_bytes c.args.words.now) = search rules in
    (inr asked, c.answer_from-in-Some-Origins.ensures.wrong entry is)

pub returns-in-Some-Origins-clause-journal : goal.returns-in-Some-Origins-clause-journal
returns-in-Some-Origins-clause-journal g c = λ line is.
    let asked : IsOrigins (map string_bytes c.args.words.now) = search rules in
    let told = c.answer_from-in-Some-Origins.ensures.journal line is in
    (inr (inl asked), told.0, told.1)

pub returns-in-Some-Upgrade-clause-wrong : goal.returns-in-Some-Upgrade-clause-wrong
returns-in-Some-Upgrade-clause-wrong g c = λ entry is. absurd (c.answer_from-in-Some-Upgrade.ensures.judges entry is)

pub returns-in-Some-Upgrade-clause-journal : goal.returns-in-Some-Upgrade-clause-journal
returns-in-Some-Upgrade-clause-journal g c = λ line is.
    let asked : IsUpgrade (map string_bytes c.args.words.now) = search rules in
    let told = c.answer_from-in-Some-Upgrade.ensures.journal line is in
    (inr (inr asked), told.0, told.1)

pub returns-in-Some-Gen-clause-done_gen : goal.returns-in-Some-Gen-clause-done_gen
returns-in-Some-Gen-clause-done_gen g c = λ number clients is done.
    let asked : IsGen (map string_bytes c.args.words.now) c.in-Some-Gen.number c.in-Some-Gen.clients = search rules in
    let same = gen-once (map string_bytes c.args.words.now) c.in-Some-Gen.number c.in-Some-Gen.clients number clients asked is in
    subst (λ k. Sums number k (g.K.Sink.held c.args.sink.now) (g.K.Sink.held c.gen_from.new.sink)) same.1
    (subst (λ n. Sums n c.in-Some-Gen.clients (g.K.Sink.held c.args.sink.now) (g.K.Sink.held c.gen_from.new.sink)) same.0 (c.gen_from.ensures.done done))

pub returns-in-Some-Gen-clause-write_fault_gen : goal.returns-in-Some-Gen-clause-write_fault_gen
returns-in-Some-Gen-clause-write_fault_gen g c = λ number clients is fault.
    let asked : IsGen (map string_bytes c.args.words.now) c.in-Some-Gen.number c.in-Some-Gen.clients = search rules in
    let same = gen-once (map string_bytes c.args.words.now) c.in-Some-Gen.number c.in-Some-Gen.clients number clients asked is in
    let told = c.gen_from.ensures.write_fault fault in (
      told.0,
      subst (λ k. SumsPartly number k (g.K.Sink.held c.args.sink.now) (g.K.Sink.held c.gen_from.new.sink)) same.1
          (subst (λ n. SumsPartly n c.in-Some-Gen.clients (g.K.Sink.held c.args.sink.now) (g.K.Sink.held c.gen_from.new.sink)) same.0 told.1),
    )
