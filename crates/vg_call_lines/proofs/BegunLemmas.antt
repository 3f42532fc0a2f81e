-- What parts of a line give together, and what a line says of which they are parts.
use Rattle.std.proofs.Common.{◌≡◌, ℕ, ◌+◌, ◌&&◌, not, Bool, true, false, List, ◌∷◌, Option, Some, None, Result, Ok, Err, if◌then◌else◌, refl, ap, sym, subst, ◌∙◌}
use Rattle.std.specs.Prelude.{option_map}
use Rattle.vg_calls.specs.declared.call.Body.{Body}
use Rattle.vg_calls.specs.declared.call.Call.{Call}
use Rattle.vg_calls.specs.declared.call.Call.TheVariants.{Begin}
use Rattle.vg_calls.specs.declared.call.ContextRef.{ContextRef}
use Rattle.vg_script_words.specs.declared.kind.Kind.{Kind}
use Rattle.vg_script_words.specs.declared.kind.Kind.TheVariants.{Word, Number, Limit, Name}
use Rattle.vg_script_words.specs.declared.kind.Stop.{Stop}
use Rattle.vg_script_words.specs.declared.kind.Stop.TheVariants.{Memory, Fault}
use Rattle.vg_script_words.specs.Words.{is_name}
use Rattle.vg_call_lines.specs.Tables.{NameTable, with_label, is_next}
use Rattle.vg_call_lines.specs.Bodies.{Part, judged_part, judged_body, together, is_timeline, timeline_words, on_timeline, body_of, begun_parts}
use Rattle.vg_call_lines.specs.Rows.{alone, call_of_body, begun_row, judged_row, begin_row}
use Rattle.vg_call_lines.specs.Code.{Judges, Gives, IsGiven, lesser, both_read}
use Rattle.vg_call_lines.specs.BegunWithin.{call_read}

-- Three tests, and what is said where they hold.
abbrev by_tests : {X : Type 0} → (numbers limits names : Bool) → X → Result X Kind
by_tests numbers limits names says = if not numbers then Err Number else if not limits then Err Limit else if not names then Err Name else Ok says

-- The fault is the same, whatever would be said, and further tests of names don't come before it.
same_fault : {X Y : Type 0} (numbers limits names also : Bool) (one : X) (other : Y) (kind : Kind) → by_tests numbers limits names one ≡ Err kind → by_tests numbers limits (names && also) other ≡ Err kind
same_fault false limits names also one other kind h = cc h
same_fault true false names also one other kind h = cc h
same_fault true true false also one other kind h = cc h
same_fault true true true also one other kind h = absurd (cc h)

names_true : (names : Bool) → names ≡ names && true
names_true true = refl
names_true false = refl

all_hold : {X : Type 0} (numbers limits names : Bool) (one says : X) → by_tests numbers limits names one ≡ Ok says → (numbers ≡ true) × (limits ≡ true) × (names ≡ true) × (one ≡ says)
all_hold false limits names one says h = absurd (cc h)
all_hold true false names one says h = absurd (cc h)
all_hold true true false one says h = absurd (cc h)
all_hold true true true one says h = (refl, refl, refl, cc h)

-- ---- a body as a line of its own
pub alone_judges : (table : NameTable) (body : Option (Part Body)) (read : Result Body Stop) → Gives (judged_body body) read → Judges table (call_read read) (judged_row (option_map (alone table) body))
alone_judges table None (Ok says) h = absurd (cc h)
alone_judges table None (Err Memory) h = tt
alone_judges table None (Err (Fault kind)) h = cc h
alone_judges table (Some part) (Ok says) h =
    let a = all_hold part.numbers part.limits part.names part.says says h in
    rw (a.0, a.1, a.2) (ap (λ b. Ok (call_of_body b, table)) a.3)
alone_judges table (Some part) (Err Memory) h = tt
alone_judges table (Some part) (Err (Fault kind)) h =
    ap (λ b. by_tests part.numbers part.limits b (call_of_body part.says, table)) (names_true part.names)
    ∙ same_fault part.numbers part.limits part.names true part.says (call_of_body part.says, table) kind h

-- ---- two parts
-- A fault of a word is less than that of a part.
word_first : {X : Type 0} (n l m : Bool) (x : X) (kind : Kind) → by_tests n l m x ≡ Err kind → ◌≡◌ {A = Kind} Word (lesser kind Word)
word_first false l m x kind h = let e : Number ≡ kind = cc h in ap (λ k. lesser k Word) e
word_first true false m x kind h = let e : Limit ≡ kind = cc h in ap (λ k. lesser k Word) e
word_first true true false x kind h = let e : Name ≡ kind = cc h in ap (λ k. lesser k Word) e
word_first true true true x kind h = absurd (cc h)

module _ {X Y : Type 0} where
  -- Of two parts one has a fault, or both have.
  first_fault : (n l m p q r : Bool) (x : X) (y : Y) (kind : Kind) (says : Y) → by_tests n l m x ≡ Err kind → by_tests p q r y ≡ Ok says → by_tests {X = X × Y} (n && p) (l && q) (m && r) (x, y) ≡ Err kind
  first_fault n l m false q r x y kind says h k = absurd (cc k)
  first_fault n l m true false r x y kind says h k = absurd (cc k)
  first_fault n l m true true false x y kind says h k = absurd (cc k)
  first_fault false l m true true true x y kind says h k = cc h
  first_fault true false m true true true x y kind says h k = cc h
  first_fault true true false true true true x y kind says h k = cc h
  first_fault true true true true true true x y kind says h k = absurd (cc h)

  second_fault : (n l m p q r : Bool) (x : X) (y : Y) (kind : Kind) (says : X) → by_tests n l m x ≡ Ok says → by_tests p q r y ≡ Err kind → by_tests {X = X × Y} (n && p) (l && q) (m && r) (x, y) ≡ Err kind
  second_fault false l m p q r x y kind says h k = absurd (cc h)
  second_fault true false m p q r x y kind says h k = absurd (cc h)
  second_fault true true false p q r x y kind says h k = absurd (cc h)
  second_fault true true true false q r x y kind says h k = cc k
  second_fault true true true true false r x y kind says h k = cc k
  second_fault true true true true true false x y kind says h k = cc k
  second_fault true true true true true true x y kind says h k = absurd (cc k)

  faults : (j k one other : Kind) → ◌≡◌ {A = Result X Kind} (Err j) (Err one) → ◌≡◌ {A = Result Y Kind} (Err k) (Err other) → ◌≡◌ {A = Result (X × Y) Kind} (Err (lesser j k)) (Err (lesser one other))
  faults j k one other h i =
      let e : j ≡ one = cc h in
      let f : k ≡ other = cc i in
      ap (λ w. Err (lesser w k)) e ∙ ap (λ w. Err (lesser one w)) f

  both_faults : (n l m p q r : Bool) (x : X) (y : Y) (one other : Kind) → by_tests n l m x ≡ Err one → by_tests p q r y ≡ Err other → by_tests {X = X × Y} (n && p) (l && q) (m && r) (x, y) ≡ Err (lesser one other)
  both_faults true true true p q r x y one other h k = absurd (cc h)
  both_faults false l m true true true x y one other h k = absurd (cc k)
  both_faults true false m true true true x y one other h k = absurd (cc k)
  both_faults true true false true true true x y one other h k = absurd (cc k)
  both_faults false l m false q r x y one other h k = faults Number Number one other h k
  both_faults false l m true false r x y one other h k = faults Number Limit one other h k
  both_faults false l m true true false x y one other h k = faults Number Name one other h k
  both_faults true false m false q r x y one other h k = faults Limit Number one other h k
  both_faults true false m true false r x y one other h k = faults Limit Limit one other h k
  both_faults true false m true true false x y one other h k = faults Limit Name one other h k
  both_faults true true false false q r x y one other h k = faults Name Number one other h k
  both_faults true true false true false r x y one other h k = faults Name Limit one other h k
  both_faults true true false true true false x y one other h k = faults Name Name one other h k

  pub both_give : (one : Part X) (other : Option (Part Y)) (read : Result X Stop) (next : Result Y Stop) → Gives (judged_part one) read → Gives (judged_body other) next → Gives (judged_body (option_map (together one) other)) (both_read read next)
  both_give one None read (Ok says) h k = absurd (cc k)
  both_give one None (Ok says) (Err Memory) h k = tt
  both_give one None (Err Memory) (Err stop) h k = tt
  both_give one None (Err (Fault kind)) (Err Memory) h k = tt
  both_give one None (Ok says) (Err (Fault kind)) h k = cc k
  both_give one None (Err (Fault kind)) (Err (Fault other)) h k =
      let e : Word ≡ other = cc k in
      ap (λ w. Err w) (word_first one.numbers one.limits one.names one.says kind h ∙ ap (λ w. lesser kind w) e)
  both_give one (Some other) (Ok says) (Ok tells) h k =
      let a = all_hold one.numbers one.limits one.names one.says says h in
      let b = all_hold other.numbers other.limits other.names other.says tells k in
      rw (a.0, a.1, a.2, b.0, b.1, b.2) (ap (λ x. Ok (x, other.says)) a.3 ∙ ap (λ y. Ok (says, y)) b.3)
  both_give one (Some other) (Ok says) (Err Memory) h k = tt
  both_give one (Some other) (Ok says) (Err (Fault kind)) h k = second_fault one.numbers one.limits one.names other.numbers other.limits other.names one.says other.says kind says h k
  both_give one (Some other) (Err Memory) (Ok tells) h k = tt
  both_give one (Some other) (Err (Fault kind)) (Ok tells) h k = first_fault one.numbers one.limits one.names other.numbers other.limits other.names one.says other.says kind tells h k
  both_give one (Some other) (Err Memory) (Err stop) h k = tt
  both_give one (Some other) (Err (Fault kind)) (Err Memory) h k = tt
  both_give one (Some other) (Err (Fault kind)) (Err (Fault next)) h k = both_faults one.numbers one.limits one.names other.numbers other.limits other.names one.says other.says kind next h k

-- ---- the line
-- What stands behind L was read.
pub parts_give : (table : NameTable) (words : Option (List ℕ × List ℕ)) (on word : List ℕ) (args : List (List ℕ)) (timeline : Result (Option (ContextRef × ℕ)) Stop) (body : Result Body Stop) (read : Result (Option (ContextRef × ℕ) × Body) Stop)
    → is_timeline on ≡ true → words ≡ timeline_words on → Gives (judged_part (on_timeline table words)) timeline → Gives (judged_body (body_of table words word args)) body → read ≡ both_read timeline body
    → Gives (judged_body (begun_parts table on word args)) read
unfolding begun_parts
parts_give table words on word args timeline body read formed same t b is =
    rw formed
    (subst (λ r. Gives (judged_body (option_map (together (on_timeline table (timeline_words on))) (body_of table (timeline_words on) word args))) r) (sym is)
    (both_give (on_timeline table (timeline_words on)) (body_of table (timeline_words on) word args) timeline body
    (subst (λ w. Gives (judged_part (on_timeline table w)) timeline) same t) (subst (λ w. Gives (judged_body (body_of table w word args)) body) same b)))

pub no_timeline : (table : NameTable) (label on word : List ℕ) (args : List (List ℕ)) → is_timeline on ≡ false → judged_row (begin_row table (label ∷ on ∷ word ∷ args)) ≡ Err Word
unfolding begin_row begun_parts
no_timeline table label on word args none = rw none refl

pub begun_stops : (table after : NameTable) (label : List ℕ) (parts : Option (Part (Option (ContextRef × ℕ) × Body))) (stop : Stop) → Gives (judged_body parts) (Err stop) → Judges after (Err stop) (judged_row (option_map (begun_row table label) parts))
begun_stops table after label parts Memory h = tt
begun_stops table after label None (Fault kind) h = cc h
begun_stops table after label (Some parts) (Fault kind) h =
    same_fault {Y = Call × NameTable} parts.numbers parts.limits parts.names (is_name label && is_next table label) parts.says (Begin (table.given + 1) parts.says.0 parts.says.1, with_label table) kind h

pub begun_goes : (table : NameTable) (label : List ℕ) (parts : Option (Part (Option (ContextRef × ℕ) × Body))) (says : Option (ContextRef × ℕ) × Body) → Gives (judged_body parts) (Ok says) → (is_name label && is_next table label) ≡ true
    → judged_row (option_map (begun_row table label) parts) ≡ Ok (Begin (table.given + 1) says.0 says.1, with_label table)
begun_goes table label None says h new = absurd (cc h)
begun_goes table label (Some parts) says h new =
    let a = all_hold parts.numbers parts.limits parts.names parts.says says h in
    rw (a.0, a.1, a.2, new) (ap (λ (s : Option (ContextRef × ℕ) × Body). Ok (Begin (table.given + 1) s.0 s.1, with_label table)) a.3)

pub begun_twice : (table : NameTable) (label : List ℕ) (parts : Option (Part (Option (ContextRef × ℕ) × Body))) (says : Option (ContextRef × ℕ) × Body) → Gives (judged_body parts) (Ok says) → (is_name label && is_next table label) ≡ false
    → judged_row (option_map (begun_row table label) parts) ≡ Err Name
begun_twice table label None says h new = absurd (cc h)
begun_twice table label (Some parts) says h new =
    let a = all_hold parts.numbers parts.limits parts.names parts.says says h in
    rw (a.0, a.1, a.2, new) refl

-- The line as it is read.
module _ (table : NameTable) (label on word : List ℕ) (args : List (List ℕ)) (words : Option (List ℕ × List ℕ)) (timeline : Result (Option (ContextRef × ℕ)) Stop) (body : Result Body Stop) (formed : is_timeline on ≡ true) (same : words ≡ timeline_words on)
    (t : Gives (judged_part (on_timeline table words)) timeline) (b : Gives (judged_body (body_of table words word args)) body) where
  pub line_stops : (after : NameTable) (stop : Stop) → Err stop ≡ both_read timeline body → Judges after (Err stop) (judged_row (begin_row table (label ∷ on ∷ word ∷ args)))
  unfolding begin_row
  line_stops after stop is = begun_stops table after label (begun_parts table on word args) stop (parts_give table words on word args timeline body (Err stop) formed same t b is)

  pub line_goes : (says : Option (ContextRef × ℕ) × Body) (number : ℕ) (after : NameTable) → Ok says ≡ both_read timeline body → IsGiven (is_name label && is_next table label) table after (Some number)
      → judged_row (begin_row table (label ∷ on ∷ word ∷ args)) ≡ Ok (Begin number says.0 says.1, after)
  unfolding begin_row
  line_goes says number after is given =
      begun_goes table label (begun_parts table on word args) says (parts_give table words on word args timeline body (Ok says) formed same t b is) given.0
      ∙ ap (λ (n : ℕ). Ok (Begin n says.0 says.1, with_label table)) (sym given.1) ∙ ap (λ (new : NameTable). Ok (Begin number says.0 says.1, new)) (sym given.2)

  pub line_twice : (says : Option (ContextRef × ℕ) × Body) → Ok says ≡ both_read timeline body → (is_name label && is_next table label) ≡ false → judged_row (begin_row table (label ∷ on ∷ word ∷ args)) ≡ Err Name
  unfolding begin_row
  line_twice says is twice = begun_twice table label (begun_parts table on word args) says (parts_give table words on word args timeline body (Ok says) formed same t b is) twice
