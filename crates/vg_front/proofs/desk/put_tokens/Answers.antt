use Rattle.std.proofs.Common.{◌<◌, ◌∙◌, length, sym, arith}
use Rattle.vg_front.proofs.WaitLemmas.{home_there, is_there, left_next, set_long, taken_is, token_more}
use Rattle.vg_front.proofs.desk.put_tokens.Goals as goal

pub unwrap-token-requires : goal.unwrap-token-requires
unwrap-token-requires g c =
    let kept = c.loop-lane.invariant in
    let in_all : c.loop-lane.lane < length c.args.homes.items = (let less = c.loop-lane-test.true in let end = c.len-lane-end.ensures in omega (arith, less, end)) in
    let there = home_there c.args.homes.items c.loop-lane.lane c.requires.homes in_all in
    is_there c.take.result there.0 (c.take.ensures.value ∙ (taken_is c.args.homes.items c.loop-lane.homes.items c.loop-lane.lane c.index_mut.result.now kept.left kept.same in_all c.index_mut.ensures.value ∙ there.1))

pub loop-lane-preserved : goal.loop-lane-preserved
loop-lane-preserved g c =
    let kept = c.loop-lane.invariant in
    let in_all : c.loop-lane.lane < length c.args.homes.items = (let less = c.loop-lane-test.true in let end = c.len-lane-end.ensures in omega (arith, less, end)) in
    let taken = taken_is c.args.homes.items c.loop-lane.homes.items c.loop-lane.lane c.index_mut.result.now kept.left kept.same in_all c.index_mut.ensures.value in
    let pushed = rw c.unwrap.ensures at c.push.ensures.items in
    let len = rw c.unwrap.ensures at c.push.ensures.len in
    record {
      tokens = token_more c.args.homes.items c.args.tokens.now.items c.loop-lane.tokens.items c.push.new.self.items c.loop-lane.lane c.unwrap-token.result in_all kept.tokens (sym taken ∙ (sym c.take.ensures.value ∙ c.unwrap-token.ensures)) pushed;
      left = left_next c.args.homes.items c.loop-lane.homes.items c.loop-lane.lane c.take.new.self kept.left kept.same in_all;
      same = set_long c.loop-lane.homes.items c.loop-lane.lane c.take.new.self ∙ kept.same;
      len = (let old = kept.len in omega (arith, len, old));
      room = (let old = kept.room in let more = c.push.ensures.capacity in omega (arith, old, more));
    }
