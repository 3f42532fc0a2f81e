-- For want of memory the buffer that was found stands there as it was.
use Rattle.std.proofs.Common.{◌≡◌, ◌∙◌, Some, ap, rules}
use Rattle.std.specs.Map.{lookup, set_value}
use Rattle.std.specs.BTreeMap.{is_at}
use Rattle.std.specs.Ordering.{nat_cmp}
use Rattle.std.proofs.lemmas.Map.Steps.{set_value_same}
use Rattle.vg_laws.proofs.Results.{on_err}
use Rattle.vg_share.specs.declared.share.Buffer.{Buffer}
use Rattle.vg_share.proofs.share.import_in.Goals as goal

pub returns-in_err-import-clause-err : goal.returns-in_err-import-clause-err
returns-in_err-import-clause-err c =
    let test = is_at (nat_cmp c.args.key) in
    let entries = c.args.buffers.now.entries in
    let old : Buffer = c.in-Some.buffer.now in
    let new : Buffer = c.import.new.self in
    let found : lookup test entries ≡ Some old = search rules in
    let after : (c.get_mut.follows.lender new).entries ≡ set_value test entries new = search rules in
    on_err _ (after ∙ ap (set_value test entries) c.in_err-import.ensures.err ∙ set_value_same test entries old found)
