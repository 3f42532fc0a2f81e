-- The text of a journal with the queues of version 2, from its text.
use Rattle.std.proofs.Common.{◌≡◌, ◌≢◌, ◌==◌, false, true≢false, inl, inr, ℕ, ◌≤◌, ◌+◌, List, ◌++◌, length, drop, codes, decimal, refl, sym, ap, subst, ◌∙◌, arith, append_assoc, length-append}
use Rattle.std.proofs.lemmas.List.{drop_at}
use Rattle.vg_text.specs.Text.{numbered}
use Rattle.vg_client_holds.specs.declared.setup.Setup.{Setup}
use Rattle.vg_client_holds.specs.Setup.{AreQueues}
use Rattle.vg_journal.specs.declared.journal.Journal.{Journal}
use Rattle.vg_journal.specs.Text.{counts_text, display_line, entry_line, frame_text, head_text, host_text, queues_text, text_of, title_text, without_text}
use Rattle.vg_judge.specs.declared.verdicts.Outline.{Outline}
use Rattle.vg_checking.specs.Outlining.{IsOutlined}
use Rattle.vg_run.specs.Upgrade.{IsTextWith, IsUpgraded, upgraded_front, upgraded_text, with_queues}

-- what stands behind the title and in front of the line of the queues
abbrev behind-title : Setup → List ℕ
behind-title setup = numbered display_line 0 setup.displays ++ (codes "memory " ++ (decimal setup.pages ++ codes "\n"))

-- and behind that line
abbrev behind-queues : Journal → List ℕ
behind-queues journal =
    without_text journal.setup.accepted
    ++ (codes "clients " ++ (decimal journal.setup.clients ++ (codes "\n" ++ (host_text journal.setup.host
    ++ (numbered entry_line 1 journal.entries ++ (counts_text journal.control journal.cursor (length journal.frames)
    ++ (numbered frame_text 1 journal.frames ++ codes "end\n")))))))

-- a text in four parts
parted : (journal : Journal) → text_of journal ≡ (title_text journal.setup.queues ++ behind-title journal.setup) ++ (queues_text journal.setup.queues ++ behind-queues journal)
unfolding head_text
parted journal = simp append_assoc

parted-front : (setup : Setup) → upgraded_front setup ≡ codes "vgpu-journal 2\n" ++ behind-title setup
unfolding upgraded_front
parted-front setup = simp append_assoc

-- with the queues of each version
of-one : (journal : Journal) → journal.setup.queues ≡ (64, 16) → text_of journal ≡ (codes "vgpu-journal 1\n" ++ behind-title journal.setup) ++ behind-queues journal
unfolding title_text queues_text
of-one journal queues = parted journal ∙ ap (λ q. (title_text q ++ behind-title journal.setup) ++ (queues_text q ++ behind-queues journal)) queues

of-two : (journal : Journal) → upgraded_text journal ≡ upgraded_front journal.setup ++ (codes "queues 256 64\n" ++ behind-queues journal)
unfolding title_text queues_text
of-two journal = parted (with_queues (256, 64) journal) ∙ ap (λ front. front ++ (codes "queues 256 64\n" ++ behind-queues journal)) (sym (parted-front journal.setup))

-- both titles are as long as each other
as-long : (setup : Setup) → length (codes "vgpu-journal 1\n" ++ behind-title setup) ≡ length (upgraded_front setup)
as-long setup =
    let one = length-append (codes "vgpu-journal 1\n") (behind-title setup) in
    let two = length-append (codes "vgpu-journal 2\n") (behind-title setup) in
    let same : length (codes "vgpu-journal 1\n") ≡ length (codes "vgpu-journal 2\n") = refl in
    one ∙ ap (λ n. n + length (behind-title setup)) same ∙ sym two ∙ ap length (sym (parted-front setup))

from-one : (journal : Journal) → journal.setup.queues ≡ (64, 16)
    → upgraded_text journal ≡ upgraded_front journal.setup ++ (codes "queues 256 64\n" ++ drop (length (upgraded_front journal.setup)) (text_of journal))
from-one journal queues =
    let rest : drop (length (upgraded_front journal.setup)) (text_of journal) ≡ behind-queues journal =
    ap (drop (length (upgraded_front journal.setup))) (of-one journal queues)
    ∙ drop_at (codes "vgpu-journal 1\n" ++ behind-title journal.setup) (behind-queues journal) (length (upgraded_front journal.setup)) (as-long journal.setup) in
    of-two journal ∙ ap (λ t. upgraded_front journal.setup ++ (codes "queues 256 64\n" ++ t)) (sym rest)

from-two : (journal : Journal) → journal.setup.queues ≡ (256, 64) → upgraded_text journal ≡ text_of journal
from-two journal queues = ap (λ q. text_of (with_queues q journal)) (sym queues)

-- which version a setup's queues are of, by the first of them
queues-one : (queues : ℕ × ℕ) → AreQueues queues → queues.0 ≡ 64 → queues ≡ (64, 16)
queues-one queues (inl is) first = is
queues-one queues (inr is) first = let other : queues.0 ≡ 256 = ap (λ q. q.0) is in absurd (omega (arith, other, first))

queues-two : (queues : ℕ × ℕ) → AreQueues queues → queues.0 ≢ 64 → queues ≡ (256, 64)
queues-two queues (inl is) first = let this : queues.0 ≡ 64 = ap (λ q. q.0) is in absurd (first this)
queues-two queues (inr is) first = is

-- a text of version 1 is at least as long as its lines in front of the queues
pub has_front : (bytes : List ℕ) (setup : Setup) → IsTextWith bytes setup → setup.queues.0 ≡ 64 → length (upgraded_front setup) ≤ length bytes
has_front bytes setup (journal, is, same) first =
    let queues : journal.setup.queues ≡ (64, 16) = queues-one journal.setup.queues is.in_range.setup.queues (ap (λ (s : Setup). s.queues.0) (sym same) ∙ first) in
    let text : length bytes ≡ length ((codes "vgpu-journal 1\n" ++ behind-title journal.setup) ++ behind-queues journal) = ap length (is.text ∙ of-one journal queues) in
    let parts = length-append (codes "vgpu-journal 1\n" ++ behind-title journal.setup) (behind-queues journal) in
    let front : length (upgraded_front setup) ≡ length (upgraded_front journal.setup) = ap (λ (s : Setup). length (upgraded_front s)) same in
    omega (arith, text, parts, front, as-long journal.setup)

-- the text of version 2, of a text of either version
pub of_version_1 : (bytes text : List ℕ) (setup : Setup) → IsTextWith bytes setup → setup.queues.0 ≡ 64
    → text ≡ upgraded_front setup ++ (codes "queues 256 64\n" ++ drop (length (upgraded_front setup)) bytes) → IsUpgraded bytes text
of_version_1 bytes text setup (journal, is, same) first written =
    let queues : journal.setup.queues ≡ (64, 16) = queues-one journal.setup.queues is.in_range.setup.queues (ap (λ (s : Setup). s.queues.0) (sym same) ∙ first) in
    let by-setup : text ≡ upgraded_front journal.setup ++ (codes "queues 256 64\n" ++ drop (length (upgraded_front journal.setup)) bytes) =
    subst (λ (s : Setup). text ≡ upgraded_front s ++ (codes "queues 256 64\n" ++ drop (length (upgraded_front s)) bytes)) same written in
    let by-text : text ≡ upgraded_front journal.setup ++ (codes "queues 256 64\n" ++ drop (length (upgraded_front journal.setup)) (text_of journal)) =
    subst (λ bs. text ≡ upgraded_front journal.setup ++ (codes "queues 256 64\n" ++ drop (length (upgraded_front journal.setup)) bs)) is.text by-setup in
    (journal, is, by-text ∙ sym (from-one journal queues))

pub of_version_2 : (bytes text : List ℕ) (setup : Setup) → IsTextWith bytes setup → setup.queues.0 ≢ 64 → text ≡ bytes → IsUpgraded bytes text
of_version_2 bytes text setup (journal, is, same) first written =
    let queues : journal.setup.queues ≡ (256, 64) =
    queues-two journal.setup.queues is.in_range.setup.queues (λ here. first (ap (λ (s : Setup). s.queues.0) same ∙ here)) in
    (journal, is, written ∙ is.text ∙ sym (from-two journal queues))

-- the setup that is said of a text is that of its journal
pub text_with : (bytes : List ℕ) (outline : Outline) → IsOutlined bytes outline → IsTextWith bytes outline.setup
text_with bytes outline is = (is.journal, is.is_journal, is.is_outline.setup)

-- the pieces of a line from the last one on
pub display_is : (number : ℕ) (size : ℕ × ℕ) → display_line number size
    ≡ codes "display " ++ (decimal number ++ (codes " " ++ (decimal size.0 ++ (codes " " ++ (decimal size.1 ++ codes "\n")))))
unfolding display_line
display_is number size = simp append_assoc

-- what is of version 2 stays as it is, as a program has it
pub is_two : (bytes text : List ℕ) (setup : Setup) → IsTextWith bytes setup → (setup.queues.0 == 64) ≡ false → text ≡ bytes → IsUpgraded bytes text
is_two bytes text setup is first written = of_version_2 bytes text setup is (λ here. absurd (true≢false (sym (ap (λ n. n == 64) here) ∙ first))) written
