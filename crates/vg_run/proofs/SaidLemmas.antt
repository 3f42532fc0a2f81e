-- What the sink took, by what is said of a journal and how the writing of that ended.
use Rattle.std.proofs.Common.{◌≡◌, ◌∙◌, ◌+◌, ◌++◌, ℕ, List, Option, Some, None, Result, Ok, Err, append-nil, ap, drop, length, refl, subst, sym, take}
use Rattle.std.specs.Prelude.{IfSome, OnErr, min}
use Rattle.std.proofs.Math.Nat.{min-le_right}
use Rattle.std.proofs.Math.Seq.{drop-length, take-append-add}
use Rattle.std.proofs.lemmas.List.{take-append-le, take_min}
use Rattle.vg_io.proofs.StreamLemmas.{takes_both}
use Rattle.vg_io.specs.Streams.{IsAtEnd, Rose, Takes, TakesSome}
use Rattle.vg_checking.specs.declared.checking.Checked.TheVariants as checkeds
use Rattle.vg_tracing.specs.declared.found.Found.TheVariants as found
use Rattle.vg_run.specs.declared.journals.Question.{Question}
use Rattle.vg_run.specs.declared.journals.Question.TheVariants.{Check, Origins, Upgrade}
use Rattle.vg_run.specs.declared.top.Status.{Status}
use Rattle.vg_run.specs.declared.top.Status.TheVariants.{Done, WriteFault}
use Rattle.vg_run.specs.declared.top.Status.TheVariants as statuses
use Rattle.vg_run.specs.Checks.{ChecksWrong, IsCheckable, WritesLegal, WritesWrong, legal_text}
use Rattle.vg_run.specs.Origins.{WritesOrigins}
use Rattle.vg_run.specs.Upgrade.{WritesUpgraded}
use Rattle.vg_run.specs.JournalsWithin.{Answers, AnswersPartly, IsEndOf, Judges, Says, Told}

-- whether a call is done, and which entry it ends with as wrong
abbrev done-with : Status → Type 0
done-with Done = Unit {0}
done-with status = ⊥

abbrev wrong-with : ℕ → Status → Type 0
wrong-with entry (statuses.Wrong other) = other ≡ entry
wrong-with entry status = ⊥

checked-done : (bytes text : List ℕ) (held held' : Option (List ℕ)) → IsCheckable bytes → Says Check bytes Done text → Takes held held' text → WritesLegal held held' bytes
checked-done bytes text held held' fits (checkeds.Legal entries frames, (journal, is, legal, count, frame_count), same, written) takes = (
  journal,
  fits,
  is,
  legal,
  subst (λ n. Takes held held' (legal_text (length journal.entries) n)) frame_count
      (subst (λ n. Takes held held' (legal_text n frames)) count (subst (Takes held held') written takes)),
)
checked-done bytes text held held' fits (checkeds.Wrong entry, found, same, written) takes = absurd (subst done-with same tt)

origins-done : (bytes text : List ℕ) (held held' : Option (List ℕ)) → IsCheckable bytes → Says Origins bytes Done text → Takes held held' text → WritesOrigins held held' bytes
origins-done bytes text held held' fits (found.Drawn frames, (journal, is, legal, are), same, written) takes =
    (journal, fits, is, legal, (frames.items, are, subst (Takes held held') written takes))
origins-done bytes text held held' fits (found.Wrong entry, found, same, written) takes = absurd (subst done-with same tt)

upgrade-done : (bytes text : List ℕ) (held held' : Option (List ℕ)) → IsCheckable bytes → Says Upgrade bytes Done text → Takes held held' text → WritesUpgraded held held' bytes
upgrade-done bytes text held held' fits ((journal, is, written), same) takes = (journal, fits, is, subst (Takes held held') written takes)

says-wrong : (asked : Question) (entry : ℕ) (bytes text : List ℕ) (held held' : Option (List ℕ)) → IsCheckable bytes → Says asked bytes (statuses.Wrong entry) text
    → Takes held held' text → WritesWrong entry held held' bytes
says-wrong Check entry bytes text held held' fits (checkeds.Wrong other, (journal, is, wrong), same, written) takes =
    let this : other ≡ entry = subst (wrong-with entry) same refl in
    subst (λ n. WritesWrong n held held' bytes) this (journal, fits, is, wrong, subst (Takes held held') written takes)
says-wrong Check entry bytes text held held' fits (checkeds.Legal entries frames, found, same, written) takes = absurd (subst (wrong-with entry) same refl)
says-wrong Origins entry bytes text held held' fits (found.Wrong other, (journal, is, wrong), same, written) takes =
    let this : other ≡ entry = subst (wrong-with entry) same refl in
    subst (λ n. WritesWrong n held held' bytes) this (journal, fits, is, wrong, subst (Takes held held') written takes)
says-wrong Origins entry bytes text held held' fits (found.Drawn frames, found, same, written) takes = absurd (subst (wrong-with entry) same refl)
says-wrong Upgrade entry bytes text held held' fits (is, same) takes = absurd (subst (wrong-with entry) same refl)

-- nothing of a journal is written behind its end
pub no_rest : (text all bytes : List ℕ) → text ≡ all → text ++ drop (length bytes) bytes ≡ all
no_rest text all bytes is = ap (λ rest. text ++ rest) (drop-length bytes) ∙ append-nil text ∙ is

-- what a sink takes of two texts
pub takes_two : (a b c : Option (List ℕ)) (xs ys : List ℕ) → Takes a b xs → Takes b c ys → Takes a c (xs ++ ys)
takes_two a b c xs ys first second = takes_both a b c xs ys first second

pub takes_some_of_first : (a b : Option (List ℕ)) (xs ys : List ℕ) → TakesSome a b xs → TakesSome a b (xs ++ ys)
takes_some_of_first a b xs ys (n, takes) =
    let front : take n xs ≡ take (min n (length xs)) (xs ++ ys) = sym (take-append-le (min n (length xs)) xs ys (min-le_right n (length xs)) ∙ take_min n xs) in
    (min n (length xs), subst (Takes a b) front takes)

pub takes_some_of_both : (a b c : Option (List ℕ)) (xs ys : List ℕ) → Takes a b xs → TakesSome b c ys → TakesSome a c (xs ++ ys)
takes_some_of_both a b c xs ys first (n, second) = (length xs + n, subst (Takes a c) (sym (take-append-add xs ys n)) (takes_both a b c xs (take n ys) first second))

pub failed_second : {T E : Type 0} (r : Result T E) (a b c : Option (List ℕ)) (xs ys : List ℕ) → Takes a b xs → OnErr r (TakesSome b c ys) → OnErr r (TakesSome a c (xs ++ ys))
failed_second (Ok done) a b c xs ys first second = tt
failed_second (Err failed) a b c xs ys first second = takes_some_of_both a b c xs ys first second

pub rose_later : (a b c : ℕ) → b ≡ a → Rose b c → Rose a c
rose_later a b c same rose = subst (λ n. Rose n c) same rose

pub told_done : (asked : Question) (left left' : Option (List ℕ)) (result end : Status) (text : List ℕ) (held held' : Option (List ℕ)) (faults faults' : ℕ) → IsAtEnd left'
    → IfSome left (λ bytes. IsCheckable bytes × Says asked bytes end text) → Told result end text held held' faults faults' → result ≡ Done → Answers asked left left' held held'
told_done Check None left' result end text held held' faults faults' at says told is = (at, says)
told_done Origins None left' result end text held held' faults faults' at says told is = (at, says)
told_done Upgrade None left' result end text held held' faults faults' at says told is = (at, says)
told_done Check (Some bytes) left' result end text held held' faults faults' at (fits, says) told is =
    let all = subst (λ r. Told r end text held held' faults faults') is told in
    (at, checked-done bytes text held held' fits (subst (λ e. Says Check bytes e text) all.0 says) all.1)
told_done Origins (Some bytes) left' result end text held held' faults faults' at (fits, says) told is =
    let all = subst (λ r. Told r end text held held' faults faults') is told in
    (at, origins-done bytes text held held' fits (subst (λ e. Says Origins bytes e text) all.0 says) all.1)
told_done Upgrade (Some bytes) left' result end text held held' faults faults' at (fits, says) told is =
    let all = subst (λ r. Told r end text held held' faults faults') is told in
    (at, upgrade-done bytes text held held' fits (subst (λ e. Says Upgrade bytes e text) all.0 says) all.1)

pub told_wrong : (asked : Question) (entry : ℕ) (left left' : Option (List ℕ)) (result end : Status) (text : List ℕ) (held held' : Option (List ℕ)) (faults faults' : ℕ) → IsAtEnd left'
    → IfSome left (λ bytes. IsCheckable bytes × Says asked bytes end text) → Told result end text held held' faults faults' → result ≡ statuses.Wrong entry → ChecksWrong entry left left' held held'
told_wrong asked entry None left' result end text held held' faults faults' at says told is = (at, says)
told_wrong asked entry (Some bytes) left' result end text held held' faults faults' at (fits, says) told is =
    let all = subst (λ r. Told r end text held held' faults faults') is told in
    (at, says-wrong asked entry bytes text held held' fits (subst (λ e. Says asked bytes e text) all.0 says) all.1)

pub told_judges : (asked : Question) (entry : ℕ) (result end : Status) (text : List ℕ) (held held' : Option (List ℕ)) (faults faults' : ℕ) → IsEndOf asked end
    → Told result end text held held' faults faults' → result ≡ statuses.Wrong entry → Judges asked
told_judges Check entry result end text held held' faults faults' ends told is = tt
told_judges Origins entry result end text held held' faults faults' ends told is = tt
told_judges Upgrade entry result end text held held' faults faults' ends told is =
    let all = subst (λ r. Told r end text held held' faults faults') is told in
    subst (IsEndOf Upgrade) all.0 ends

pub told_partly : (asked : Question) (left left' : Option (List ℕ)) (result end : Status) (text : List ℕ) (held held' : Option (List ℕ)) (faults faults' : ℕ) → IsAtEnd left'
    → IfSome left (λ bytes. IsCheckable bytes × Says asked bytes end text) → Told result end text held held' faults faults' → result ≡ WriteFault → AnswersPartly asked left left' held held'
told_partly Check None left' result end text held held' faults faults' at says told is = (at, says)
told_partly Origins None left' result end text held held' faults faults' at says told is = (at, says)
told_partly Upgrade None left' result end text held held' faults faults' at says told is = (at, says)
told_partly Check (Some bytes) left' result end text held held' faults faults' at (fits, (checked, found, same, written)) told is =
    let all = subst (λ r. Told r end text held held' faults faults') is told in
    (at, (checked, fits, found, subst (TakesSome held held') written all.1))
told_partly Origins (Some bytes) left' result end text held held' faults faults' at (fits, (origins, are, same, written)) told is =
    let all = subst (λ r. Told r end text held held' faults faults') is told in
    (at, (origins, fits, are, subst (TakesSome held held') written all.1))
told_partly Upgrade (Some bytes) left' result end text held held' faults faults' at (fits, ((journal, is, written), same)) told ended =
    let all = subst (λ r. Told r end text held held' faults faults') ended told in
    (at, (journal, fits, is, subst (TakesSome held held') written all.1))
