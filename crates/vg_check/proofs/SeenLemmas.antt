-- What is kept of a client's entries against these entries, and one entry more.
use Rattle.std.proofs.Common.{◌≡◌, ◌≢◌, ◌≤◌, ◌<◌, ◌==◌, ◌||◌, ℕ, Bool, true, false, List, [], ◌∷◌, ◌++◌, length, map, filter, max, get_or, set, refl, ap, sym, subst, ◌∙◌, ◌↔◌, arith, eq-eqb, ne_eqb, length-set}
use mathlib.Core.Logic.{dite}
use native.Mathlib.Decide.{ℕ_discrete}
use Rattle.std.specs.List.{AllByRecursion, list_any, range_with_len}
use Rattle.std.proofs.lemmas.Bool.{false≢true, or_left}
use Rattle.std.proofs.lemmas.List.{get_or-set_other, get_or-set_same}
use Rattle.std.proofs.lemmas.List.Folds.{list_any-append}
use Rattle.vg_laws.proofs.Lists.{zeros-at}
use Rattle.vg_call_numbers.specs.Numbers.{AreAllUsed, IsAdded, UsedNumbers, is_used}
use Rattle.vg_call_numbers.specs.Taken.{IsUsedBy, by_number, is_taken}
use Rattle.vg_client_holds.specs.declared.act.Act.{Act}
use Rattle.vg_client_holds.specs.declared.act.Act.TheVariants as acts
use Rattle.vg_client_holds.specs.declared.act.ActReply.{ActReply}
use Rattle.vg_client_holds.specs.declared.setup.Setup.{Setup}
use Rattle.vg_client_holds.specs.Holds.{update}
use Rattle.vg_history.specs.declared.entry.Entry.TheVariants as entries
use Rattle.vg_history.proofs.HistoryLemmas.{updated_own}
use Rattle.vg_machine.specs.Entries.{Entry}
use Rattle.vg_machine.specs.Order.{call_of, client_of, holds_of, is_leave, is_of_lane, of_client}
use Rattle.vg_machine.specs.Replay.{display}
use Rattle.vg_device.specs.declared.request.Request.{Request}
use Rattle.vg_device.specs.declared.request.Reply.{Reply}
use Rattle.vg_check.specs.declared.seen.Seen.{Seen}
use Rattle.vg_check.specs.Checked.{HasSeen, calls_on, greatest}
use Rattle.vg_check.specs.TestsWithin.{HasSeenAct, HasSeenCommand, IsNew, is_leaving}
use Rattle.vg_check.proofs.EntryLemmas.{filter-no, filter-yes, greatest-more, holds-more, holds-other, map-more, own-more, own-other}

-- What the laws of used numbers say (vg_call_numbers).
pub record NumberLaws : Type 0 where
  pub more : (old new : UsedNumbers) (number : ℕ) (taken : List ℕ) → 1 ≤ number → is_used old number ≡ false → IsAdded old number new → IsUsedBy old taken → IsUsedBy new (taken ++ number ∷ [])
  pub fresh : (numbers : UsedNumbers) (number : ℕ) (taken : List ℕ) → IsUsedBy numbers taken → (is_used numbers number ≡ false) ↔ AllByRecursion (λ one. one ≢ number) taken
  pub above : (numbers : UsedNumbers) (number : ℕ) (taken : List ℕ) → 1 ≤ number → IsUsedBy numbers taken → (numbers.top < number) ↔ AllByRecursion (λ one. one < number) taken
  pub all : (numbers : UsedNumbers) (taken : List ℕ) (count : ℕ) → IsUsedBy numbers taken → (AreAllUsed numbers × (numbers.top ≡ count)) ↔ (by_number taken ≡ range_with_len 1 count)

-- ---- nothing is kept yet

pub seen-none : (setup : Setup) (client : ℕ) (seen : Seen) → IsUsedBy (record { top = 0; gaps = [] }) [] → IsNew setup client seen → HasSeen setup client [] seen
seen-none setup client seen none-yet new = record {
  holds = new.holds;
  numbers = subst (λ (n : UsedNumbers). IsUsedBy n []) (sym new.numbers) none-yet;
  lanes = ap (λ (ns : List ℕ). length ns) new.last;
  last = λ lane. ap (λ (ns : List ℕ). get_or ns lane 0) new.last ∙ zeros-at 66 lane;
  left = new.left;
}

-- ---- another client's entry

pub seen-other : (setup : Setup) (client : ℕ) (H : List Entry) (entry : Entry) (seen : Seen) → client_of entry ≢ client → HasSeen setup client H seen → HasSeen setup client (H ++ entry ∷ []) seen
seen-other setup client H entry seen other is =
    let same : of_client client H ≡ of_client client (H ++ entry ∷ []) = sym (own-other client H entry other) in
    record {
      holds = is.holds ∙ sym (holds-other setup client H entry other);
      numbers = subst (λ (es : List Entry). IsUsedBy seen.numbers (map call_of es)) same is.numbers;
      lanes = is.lanes;
      last = λ lane. is.last lane ∙ ap (λ (es : List Entry). greatest (map call_of (filter (is_of_lane lane) es))) same;
      left = is.left ∙ ap (λ (es : List Entry). list_any is_leave es) same;
    }

-- ---- an entry of its own

own-numbers : (client : ℕ) (H : List Entry) (entry : Entry) → client_of entry ≡ client → map call_of (of_client client (H ++ entry ∷ [])) ≡ map call_of (of_client client H) ++ call_of entry ∷ []
own-numbers client H entry own = ap (λ (es : List Entry). map call_of es) (own-more client H entry own) ∙ map-more (of_client client H) entry

used-more : NumberLaws → (client : ℕ) (H : List Entry) (entry : Entry) (old new : UsedNumbers) → client_of entry ≡ client → 1 ≤ call_of entry → is_used old (call_of entry) ≡ false → IsAdded old (call_of entry) new
    → IsUsedBy old (map call_of (of_client client H)) → IsUsedBy new (map call_of (of_client client (H ++ entry ∷ [])))
used-more laws client H entry old new own counted fresh added is =
    subst (λ (ns : List ℕ). IsUsedBy new ns) (sym (own-numbers client H entry own)) (laws.more old new (call_of entry) (map call_of (of_client client H)) counted fresh added is)

left-more : (client : ℕ) (H : List Entry) (entry : Entry) → client_of entry ≡ client → list_any is_leave (of_client client (H ++ entry ∷ [])) ≡ (list_any is_leave (of_client client H) || (is_leave entry || false))
left-more client H entry own = ap (λ (es : List Entry). list_any is_leave es) (own-more client H entry own) ∙ list_any-append is_leave (of_client client H) (entry ∷ [])

leaving : (client call : ℕ) (act : Act) (reply : ActReply) (left : Bool) → (left || is_leaving act) ≡ (left || (is_leave (entries.Act client call act reply) || false))
leaving client call acts.Leave reply left = refl
leaving client call act reply left = refl

staying : (left : Bool) → left ≡ (left || (false || false))
staying true = refl
staying false = refl

last-off : (client lane : ℕ) (H : List Entry) (entry : Entry) → client_of entry ≡ client → is_of_lane lane entry ≡ false → calls_on client lane (H ++ entry ∷ []) ≡ calls_on client lane H
last-off client lane H entry own off =
    ap (λ (es : List Entry). map call_of (filter (is_of_lane lane) es)) (own-more client H entry own)
    ∙ ap (λ (es : List Entry). map call_of es) (filter-no (is_of_lane lane) (of_client client H) entry off)

last-on : (client lane : ℕ) (H : List Entry) (entry : Entry) → client_of entry ≡ client → is_of_lane lane entry ≡ true → calls_on client lane (H ++ entry ∷ []) ≡ calls_on client lane H ++ call_of entry ∷ []
last-on client lane H entry own on =
    ap (λ (es : List Entry). map call_of (filter (is_of_lane lane) es)) (own-more client H entry own)
    ∙ ap (λ (es : List Entry). map call_of es) (filter-yes (is_of_lane lane) (of_client client H) entry on)
    ∙ map-more (filter (is_of_lane lane) (of_client client H)) entry

pub seen-act : NumberLaws → (setup : Setup) (client : ℕ) (H : List Entry) (call : ℕ) (act : Act) (reply : ActReply) (old new : Seen) → 1 ≤ call → is_used old.numbers call ≡ false
    → HasSeenAct old call act reply new → HasSeen setup client H old → HasSeen setup client (H ++ entries.Act client call act reply ∷ []) new
seen-act laws setup client H call act reply old new counted fresh next is =
    let entry : Entry = entries.Act client call act reply in
    record {
      holds = next.holds ∙ ap (λ h. update h act reply) is.holds ∙ sym (holds-more setup client H entry ∙ updated_own display client call (holds_of setup client H) act reply);
      numbers = used-more laws client H entry old.numbers new.numbers refl counted fresh next.numbers is.numbers;
      lanes = ap (λ (ns : List ℕ). length ns) next.last ∙ is.lanes;
      last = λ lane. ap (λ (ns : List ℕ). get_or ns lane 0) next.last ∙ is.last lane ∙ ap greatest (sym (last-off client lane H entry refl refl));
      left = next.left ∙ ap (λ (b : Bool). b || is_leaving act) is.left ∙ leaving client call act reply (list_any is_leave (of_client client H)) ∙ sym (left-more client H entry refl);
    }

greater : (call last : ℕ) → last < call → call ≡ max call last
greater call last above = omega (arith, above)

pub seen-command : NumberLaws → (setup : Setup) (client : ℕ) (H : List Entry) (call : ℕ) (request : Request) (reply : Reply) (old new : Seen) → 1 ≤ call → is_used old.numbers call ≡ false
    → request.lane < 66 → get_or old.last.items request.lane 0 < call
    → HasSeenCommand old call request.lane new → HasSeen setup client H old → HasSeen setup client (H ++ entries.Command client call request reply ∷ []) new
seen-command laws setup client H call request reply old new counted fresh low above next is =
    let entry : Entry = entries.Command client call request reply in
    record {
      holds = next.holds ∙ is.holds ∙ sym (holds-more setup client H entry);
      numbers = used-more laws client H entry old.numbers new.numbers refl counted fresh next.numbers is.numbers;
      lanes = ap (λ (ns : List ℕ). length ns) next.last ∙ length-set old.last.items request.lane call ∙ is.lanes;
      last = λ lane. dite (ℕ_discrete request.lane lane)
          (λ on. let within : request.lane < length old.last.items = (let l = is.lanes in omega (arith, low, l)) in
          let last : get_or old.last.items request.lane 0 ≡ greatest (calls_on client lane H) = ap (λ (n : ℕ). get_or old.last.items n 0) on ∙ is.last lane in
          ap (λ (ns : List ℕ). get_or ns lane 0) next.last
          ∙ ap (λ (n : ℕ). get_or (set old.last.items request.lane call) n 0) (sym on)
          ∙ get_or-set_same old.last.items request.lane call 0 within
          ∙ greater call (greatest (calls_on client lane H)) (subst (λ (n : ℕ). n < call) last above)
          ∙ sym (greatest-more (calls_on client lane H) call)
          ∙ ap greatest (sym (last-on client lane H entry refl (eq-eqb request.lane lane on))))
          (λ off. ap (λ (ns : List ℕ). get_or ns lane 0) next.last
          ∙ get_or-set_other old.last.items request.lane lane call 0 (λ e. off (sym e))
          ∙ is.last lane
          ∙ ap greatest (sym (last-off client lane H entry refl (ne_eqb request.lane lane off))));
      left = next.left ∙ is.left ∙ staying (list_any is_leave (of_client client H)) ∙ sym (left-more client H entry refl);
    }

-- ---- no number is used exactly where the client has no entry

empty-top : (numbers : UsedNumbers) (taken : List ℕ) → IsUsedBy numbers taken → taken ≡ [] → numbers.top ≡ 0
empty-top numbers taken is none = dite (ℕ_discrete numbers.top 0)
    (λ e. e)
    (λ some. let used = is.greatest.used (omega (arith, some)) in
    absurd (false≢true (ap (is_taken numbers.top) (sym none) ∙ sym (is.used numbers.top) ∙ used)))

top-empty : (numbers : UsedNumbers) (taken : List ℕ) → IsUsedBy numbers taken → numbers.top ≡ 0 → taken ≡ []
top-empty numbers [] is none = refl
top-empty numbers (n ∷ more) is none =
    let within = is.greatest.within n (is.used n ∙ or_left (n == n) (is_taken n more) (eq-eqb n n refl)) in
    let counted = is.counted.0 in
    absurd (omega (arith, none, within.1, counted))

map-empty : (H : List Entry) → map call_of H ≡ [] → H ≡ []
map-empty [] none = refl
map-empty (entry ∷ more) none = let no : ⊥ = cc in absurd no

pub has-none : (setup : Setup) (client : ℕ) (H : List Entry) (seen : Seen) → HasSeen setup client H seen → seen.numbers.top ≡ 0 → of_client client H ≡ []
has-none setup client H seen is none = map-empty (of_client client H) (top-empty seen.numbers (map call_of (of_client client H)) is.numbers none)

pub none-has : (setup : Setup) (client : ℕ) (H : List Entry) (seen : Seen) → HasSeen setup client H seen → of_client client H ≡ [] → seen.numbers.top ≡ 0
none-has setup client H seen is none = empty-top seen.numbers (map call_of (of_client client H)) is.numbers (ap (λ (es : List Entry). map call_of es) none)
