use Rattle.std.proofs.Common.{[]}
use Rattle.vg_ring_uses.proofs.AnswerLemmas.{settled_of, fetched_at, first_left, turns_is}
use Rattle.vg_ring_uses.proofs.turn.answer_turned.Goals as goal

pub complete-requires-clause-entry : goal.complete-requires-clause-entry
complete-requires-clause-entry g c =
    let f = c.in-Some-fetch.ensures in
    let second = c.in-Some-fetch.second in
    (f.entry, fetched_at (λ t. t.wanted) c.fetch.new.self c.fetch-2.new.self second.head second.cargo f, settled_of f.entry second.cargo c.unanswered.result [] c.unanswered.ensures.parcel (f.fresh.entry, f.fresh.head_is))

pub complete-requires-2-clause-entry : goal.complete-requires-2-clause-entry
complete-requires-2-clause-entry g c =
    let f = c.in-Some.ensures in
    let f' = c.in-Some-fetch.ensures in
    let first = c.in-Some.first in
    let second = c.in-Some-fetch.second in
    let is = c.complete.ensures f'.entry (fetched_at (λ t. t.wanted) c.fetch.new.self c.fetch-2.new.self second.head second.cargo f') in
    (f.entry, first_left (λ t. t.wanted) c.args.device.now c.fetch.new.self c.fetch-2.new.self c.complete.new.self first.head second.head 0 first.cargo second.cargo c.unanswered.result f f' is, settled_of f.entry first.cargo c.unanswered-2.result [] c.unanswered-2.ensures.parcel (f.fresh.entry, f.fresh.head_is))

pub returns-clause-turned : goal.returns-clause-turned
returns-clause-turned g c =
    let f = c.in-Some.ensures in
    let f' = c.in-Some-fetch.ensures in
    let first = c.in-Some.first in
    let second = c.in-Some-fetch.second in
    let is = c.complete.ensures f'.entry (fetched_at (λ t. t.wanted) c.fetch.new.self c.fetch-2.new.self second.head second.cargo f') in
    let is' = c.complete-2.ensures f.entry (first_left (λ t. t.wanted) c.args.device.now c.fetch.new.self c.fetch-2.new.self c.complete.new.self first.head second.head 0 first.cargo second.cargo c.unanswered.result f f' is) in
    λ _. turns_is (λ t. t.wanted) c.args.device.now c.fetch.new.self c.fetch-2.new.self c.complete.new.self first.head second.head 0 first.cargo second.cargo c.unanswered.result f f' is c.complete-2.new.self 0 c.unanswered-2.result is'
