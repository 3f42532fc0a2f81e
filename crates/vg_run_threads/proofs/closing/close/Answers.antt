use Rattle.std.proofs.Common.{◌≡◌, rules, false}
use Rattle.vg_run_threads.proofs.SessionLemmas.{all-completed, is-end, lanes-heard, none-outside}
use Rattle.vg_run_threads.proofs.closing.close.Goals as goal

pub close-display-requires : goal.close-display-requires
close-display-requires g c =
    let joined = c.requires.clients in
    let taken = lanes-heard c.args.root c.hear.new.root c.join_lanes.new.root c.close-tokens.result.0.items c.hear.ensures.root c.join_lanes.ensures in
    none-outside joined.0 c.args.root c.join_lanes.new.root c.args.front c.close-tokens.result.0.items c.close-tokens.result.1 c.close-tokens.result.2 joined.1 c.close-tokens.ensures taken

pub returns-clause-ended : goal.returns-clause-ended
returns-clause-ended g c =
    let taken = lanes-heard c.args.root c.hear.new.root c.join_lanes.new.root c.close-tokens.result.0.items c.hear.ensures.root c.join_lanes.ensures in
    is-end c.args.root c.join_lanes.new.root c.close-tokens.result.0.items c.close-display.result.0 c.close-display.result.1 c.into_frames.result.items taken c.close-display.ensures.closed c.into_frames.ensures

pub returns-clause-completed : goal.returns-clause-completed
returns-clause-completed g c =
    let joined = c.requires.clients in
    let on : c.args.front.control.halted ≡ false = search rules in
    all-completed joined.0 c.args.root c.hear.new.root c.join_lanes.new.root c.args.front c.close-tokens.result.0.items c.close-tokens.result.1 c.close-tokens.result.2 c.in_ok-control.control c.in_ok-control.cursor
    c.close-display.result.0 c.close-display.result.1 joined.1 on c.close-tokens.ensures c.hear.ensures.root c.join_lanes.ensures c.close-display.ensures.closed c.in_ok-control.ensures.same c.in_ok-control.ensures.asked
