use Rattle.std.proofs.Common.{rules, ◌≡◌, ◌∙◌, ℕ, ◌≤◌, ◌-◌, List, Some, take, drop, length, ap, sym, arith}
use Rattle.std.proofs.lemmas.Slice.{between_to_end}
use Rattle.vg_wire_ext.specs.declared.response.Response.TheVariants.{Capset}
use Rattle.vg_wire_ext.proofs.ResponseLemmas.{capset_body}
use Rattle.vg_wire_ext.proofs.response.read_body.Goals as goal

pub returns-then-kind-eq-OK_CAPSET-clause-value : goal.returns-then-kind-eq-OK_CAPSET-clause-value
returns-then-kind-eq-OK_CAPSET-clause-value c =
    let bytes : List ℕ = c.args.bytes.now in
    let long : 24 ≤ length bytes = c.requires in
    let items : c.from_vec.result ≡ take (length bytes - 24) (drop 24 bytes) = search rules in
    let kind : c.args.kind ≡ 0x1103 = search rules in
    ap (λ (content : List ℕ). Some (Capset content)) (items ∙ between_to_end bytes 24 (length bytes) (omega arith)) ∙ sym (capset_body c.args.kind bytes kind)
