use Rattle.std.proofs.Common.{◌≡◌, refl}
use Rattle.vg_book_uses.specs.contracts.counter.CounterMachine.TheImpl as counter
use Rattle.vg_book_uses.proofs.CrewLemmas.{made_none, made_more}
use Rattle.vg_book_uses.proofs.add.adders.Goals as goal

pub loop-made-init : goal.loop-made-init
loop-made-init g c = made_none counter.ghosts (λ job. job.client) 0 (λ job. job.times ≡ c.args.times) c.args.root.now c.requires.first c.new-jobs.result.items c.new-jobs.ensures.items

pub loop-made-preserved : goal.loop-made-preserved
loop-made-preserved g c = made_more counter.ghosts (λ job. job.client) 0 (λ job. job.times ≡ c.args.times) _ _ c.loop-made.root c.client-client.new.self c.client-client.result c.loop-made.jobs.items _ _ c.loop-made.invariant c.client-client.ensures refl refl c.in_ok-push.ensures.items
