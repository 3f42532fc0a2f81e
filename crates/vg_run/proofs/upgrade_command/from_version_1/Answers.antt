use Rattle.std.proofs.Common.{arith, ◌≡◌, ◌++◌, ◌∙◌, ℕ, List, drop, length, codes, ap, append_assoc}
use Rattle.vg_run.specs.Upgrade.{upgraded_front}
use Rattle.vg_run.proofs.UpgradeLemmas.{has_front, of_version_1}
use Rattle.vg_run.proofs.upgrade_command.from_version_1.Goals as goal

pub returns-clause-inside : goal.returns-clause-inside
returns-clause-inside c =
    let long : length c.in_ok-text.text.items ≡ length (upgraded_front c.args.setup.now) = ap (λ (xs : List ℕ). length xs) c.in_ok-text.ensures in
    omega (arith, has_front c.args.bytes.now c.args.setup.now c.requires.text c.requires.one, c.len-rest.ensures, long)

pub returns-clause-text : goal.returns-clause-text
returns-clause-text c =
    let long : length c.in_ok-text.text.items ≡ length (upgraded_front c.args.setup.now) = ap (λ (xs : List ℕ). length xs) c.in_ok-text.ensures in
    let count : c.len-rest.result ≡ length (upgraded_front c.args.setup.now) = omega (arith, c.len-rest.ensures, long) in
    let rest : drop c.len-rest.result c.args.bytes.now ≡ drop (length (upgraded_front c.args.setup.now)) c.args.bytes.now =
    ap (λ n. drop n c.args.bytes.now) count in
    of_version_1 c.args.bytes.now (c.put.new.out.items ++ drop c.len-rest.result c.args.bytes.now) c.args.setup.now c.requires.text c.requires.one
    (ap (λ (xs : List ℕ). xs ++ drop c.len-rest.result c.args.bytes.now) (c.in_ok-put.ensures ∙ ap (λ (xs : List ℕ). xs ++ codes "queues 256 64\n") c.in_ok-text.ensures)
    ∙ append_assoc (upgraded_front c.args.setup.now) (codes "queues 256 64\n") (drop c.len-rest.result c.args.bytes.now)
    ∙ ap (λ (xs : List ℕ). upgraded_front c.args.setup.now ++ (codes "queues 256 64\n" ++ xs)) rest)
