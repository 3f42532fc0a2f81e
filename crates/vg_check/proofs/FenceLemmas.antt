-- The commands of a lane have the ordinals from 1 to their number, so a fence is known where its ordinal is at most that.
use Rattle.std.proofs.Common.{◌≡◌, ◌≤◌, ◌<◌, ◌+◌, ℕ, true, cond, inl, inr, List, [], ◌∷◌, ◌++◌, refl, ap, sym, subst, ◌∙◌, arith, eq-eqb, ne_eqb, append_assoc, append-nil}
use mathlib.Core.Logic.{dite}
use native.Mathlib.Decide.{ℕ_discrete}
use Rattle.std.specs.List.{count_by}
use Rattle.std.proofs.lemmas.List.Sums.{sum_by-append}
use Rattle.vg_history.specs.Lists.{Has}
use Rattle.vg_history.specs.History.{HasCommand, HasFence}
use Rattle.vg_history.specs.declared.entry.Entry.TheVariants as entries
use Rattle.vg_machine.specs.Entries.{Entry}
use Rattle.vg_machine.specs.Order.{AreInOrder, LaneOrder, is_of_lane}
use Rattle.vg_machine.specs.Replay.{display}
use Rattle.vg_device.specs.declared.request.Request.{Request}
use Rattle.vg_device.specs.declared.request.Reply.{Reply}
use Rattle.vg_check.proofs.EntryLemmas.{counted-no, counted-yes}

abbrev count_of : ℕ → List Entry → ℕ
count_of lane H = count_by (is_of_lane lane) H

moved : (before : List Entry) (entry : Entry) (more : List Entry) → before ++ (entry ∷ more) ≡ (before ++ entry ∷ []) ++ more
moved before entry more = simp append_assoc

grows : (lane : ℕ) (before more : List Entry) → count_of lane before ≤ count_of lane (before ++ more)
grows lane before more = let e = sum_by-append (λ (x : Entry). cond (is_of_lane lane x) 1 0) before more in omega (arith, e)

-- a command's ordinal is at most the number of its lane's commands
pub is-below : (lane : ℕ) (before more : List Entry) (client call : ℕ) (request : Request) (reply : Reply) → AreInOrder before more → Has more (entries.Command client call request reply)
    → request.lane ≡ lane → request.ordinal ≤ count_of lane (before ++ more)
is-below lane before [] client call request reply order there on = absurd there
is-below lane before (entry ∷ more) client call request reply order (inl same) on =
    let command : Entry = entries.Command client call request reply in
    let here : LaneOrder before command = subst (LaneOrder before) same order.0.lane in
    let number : request.ordinal ≡ count_of lane before + 1 = here.1 ∙ ap (λ (l : ℕ). count_of l before + 1) on in
    let test : is_of_lane lane entry ≡ true = ap (is_of_lane lane) same ∙ eq-eqb request.lane lane on in
    let up = counted-yes (is_of_lane lane) before entry test in
    let rest = grows lane (before ++ entry ∷ []) more in
    subst (λ (es : List Entry). request.ordinal ≤ count_of lane es) (sym (moved before entry more)) (omega (arith, number, up, rest))
is-below lane before (entry ∷ more) client call request reply order (inr there) on =
    subst (λ (es : List Entry). request.ordinal ≤ count_of lane es) (sym (moved before entry more))
    (is-below lane (before ++ entry ∷ []) more client call request reply order.1 there on)

-- one of a lane's commands has each ordinal up to their number
later : (lane ordinal : ℕ) (entry : Entry) (more : List Entry) → HasCommand display lane ordinal more → HasCommand display lane ordinal (entry ∷ more)
later lane ordinal entry more (client, call, request, reply, there, tag) = (client, call, request, reply, inr there, tag)

at-command : (lane ordinal : ℕ) (before more : List Entry) (client call : ℕ) (request : Request) (reply : Reply) → LaneOrder before (entries.Command client call request reply)
    → count_of lane before < ordinal → (count_of lane (before ++ entries.Command client call request reply ∷ []) < ordinal → HasCommand display lane ordinal more)
    → HasCommand display lane ordinal (entries.Command client call request reply ∷ more)
at-command lane ordinal before more client call request reply here low rest =
    let entry : Entry = entries.Command client call request reply in
    dite (ℕ_discrete request.lane lane)
    (λ on.
    let up = counted-yes (is_of_lane lane) before entry (eq-eqb request.lane lane on) in
    let number : request.ordinal ≡ count_of lane before + 1 = here.1 ∙ ap (λ (l : ℕ). count_of l before + 1) on in
    dite (ℕ_discrete ordinal (count_of lane before + 1))
    (λ is. let tag : request.ordinal ≡ ordinal = number ∙ sym is in (client, call, request, reply, inl refl, λ i. (on i, tag i)))
    (λ other. later lane ordinal entry more (rest (omega (arith, low, up, other)))))
    (λ off.
    let same = counted-no (is_of_lane lane) before entry (ne_eqb request.lane lane off) in
    later lane ordinal entry more (rest (omega (arith, low, same))))

pub is-there : (lane ordinal : ℕ) (before more : List Entry) → AreInOrder before more → count_of lane before < ordinal → ordinal ≤ count_of lane (before ++ more) → HasCommand display lane ordinal more
is-there lane ordinal before [] order low high =
    let all : count_of lane (before ++ []) ≡ count_of lane before = ap (count_of lane) (append-nil before) in
    absurd (omega (arith, low, high, all))
is-there lane ordinal before (entries.Act client call act reply ∷ more) order low high =
    let entry : Entry = entries.Act client call act reply in
    let same = counted-no (is_of_lane lane) before entry refl in
    later lane ordinal entry more (is-there lane ordinal (before ++ entry ∷ []) more order.1 (omega (arith, low, same))
    (subst (λ (es : List Entry). ordinal ≤ count_of lane es) (moved before entry more) high))
is-there lane ordinal before (entries.Command client call request reply ∷ more) order low high =
    at-command lane ordinal before more client call request reply order.0.lane low
    (λ above. is-there lane ordinal (before ++ entries.Command client call request reply ∷ []) more order.1 above
    (subst (λ (es : List Entry). ordinal ≤ count_of lane es) (moved before (entries.Command client call request reply) more) high))

-- a fence is known exactly where so many commands of its lane are there
pub fence-there : (lane ordinal : ℕ) (H : List Entry) → AreInOrder [] H → ordinal ≤ count_of lane H → HasFence display lane ordinal H
fence-there lane ordinal H order high j some low = is-there lane j [] H order (omega (arith, some)) (omega (arith, low, high))

below-tag : (lane ordinal : ℕ) (H : List Entry) → AreInOrder [] H → HasCommand display lane ordinal H → ordinal ≤ count_of lane H
below-tag lane ordinal H order (client, call, request, reply, there, tag) =
    let on : request.lane ≡ lane = ap (λ (p : ℕ × ℕ). p.0) tag in
    let number : request.ordinal ≡ ordinal = ap (λ (p : ℕ × ℕ). p.1) tag in
    subst (λ (n : ℕ). n ≤ count_of lane H) number (is-below lane [] H client call request reply order there on)

pub there-fence : (lane ordinal : ℕ) (H : List Entry) → AreInOrder [] H → HasFence display lane ordinal H → ordinal ≤ count_of lane H
there-fence lane ordinal H order has = dite (ℕ_discrete ordinal 0)
    (λ none. omega (arith, none))
    (λ some. below-tag lane ordinal H order (has ordinal (omega (arith, some)) (omega arith)))
