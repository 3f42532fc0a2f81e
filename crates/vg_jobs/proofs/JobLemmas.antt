-- Results of jobs, in order.
use Rattle.std.proofs.Common.{◌≡◌, ℕ, zero, suc, ◌<◌, List, [], ◌∷◌, ◌++◌, length, map, refl, arith}
use Rattle.std.specs.Prelude.{slice_index_or, All, Result, Ok, Err, IfOk}
use Rattle.vg_jobs.specs.Jobs.{AllGive}

-- What holds place by place holds of all.
pub all_give : {J D : Type 0} (gives : J → D → Type 0) (js : List J) (ds : List D) → length ds ≡ length js
    → ((i : ℕ) (j : J) (d : D) → i < length js → gives (slice_index_or js i j) (slice_index_or ds i d)) → AllGive gives js ds
all_give gives [] [] e h = tt
all_give gives [] (d ∷ ds) e h = absurd (omega arith)
all_give gives (j ∷ js) [] e h = absurd (omega arith)
all_give gives (j ∷ js) (d ∷ ds) e h = (h 0 j d (omega arith), all_give gives js ds (omega arith) (λ i k x lt. h (suc i) k x (omega arith)))

-- What one more job gives stands behind what those before it give.
pub one_more : {J D : Type 0} (gives : J → D → Type 0) (js : List J) (ds : List D) (j : J) (d : D)
    → AllGive gives js ds → gives j d → AllGive gives (js ++ (j ∷ [])) (ds ++ (d ∷ []))
one_more gives [] [] j d h one = (one, tt)
one_more gives [] (x ∷ ds) j d h one = absurd h
one_more gives (k ∷ js) [] j d h one = absurd h
one_more gives (k ∷ js) (x ∷ ds) j d h one = (h.0, one_more gives js ds j d h.1 one)

-- What two facts of a result that is Ok give.
pub ok_from : {T E : Type 0} (r : Result T E) (P Q S : T → Type 0) → IfOk r P → IfOk r Q → ((v : T) → P v → Q v → S v) → IfOk r S
ok_from (Ok v) P Q S p q f = f v p q
ok_from (Err e) P Q S p q f = tt

-- What each result is, from what its job is and what that gives.
pub given_all : {J D : Type 0} (gives : J → D → Type 0) (is_job : J → Type 0) (is_given : D → Type 0) (js : List J) (ds : List D)
    → AllGive gives js ds → All is_job js → ((j : J) (d : D) → is_job j → gives j d → is_given d) → All is_given ds
given_all gives is_job is_given js [] h jobs f k d lt = absurd (omega arith)
given_all gives is_job is_given [] (x ∷ ds) h jobs f k d lt = absurd h
given_all gives is_job is_given (j ∷ js) (x ∷ ds) h jobs f zero d lt = f j x (jobs 0 j (omega arith)) h.0
given_all gives is_job is_given (j ∷ js) (x ∷ ds) h jobs f (suc k) d lt = given_all gives is_job is_given js ds h.1 (λ i y l. jobs (suc i) y (omega arith)) f k d (omega arith)

-- What each job and its result have in common, in order.
pub given_same : {J D X : Type 0} (gives : J → D → Type 0) (of_job : J → X) (of_given : D → X) (js : List J) (ds : List D)
    → AllGive gives js ds → ((j : J) (d : D) → gives j d → of_given d ≡ of_job j) → map of_given ds ≡ map of_job js
given_same gives of_job of_given [] [] h f = refl
given_same gives of_job of_given [] (d ∷ ds) h f = absurd h
given_same gives of_job of_given (j ∷ js) [] h f = absurd h
given_same gives of_job of_given (j ∷ js) (d ∷ ds) h f = λ i. f j d h.0 i ∷ given_same gives of_job of_given js ds h.1 f i

-- Results that are all Ok are what the jobs may give where they end well.
pub given_ok : {J T : Type 0} (E : Type 0) (gives : J → T → Type 0) (js : List J) (ts : List T)
    → AllGive (λ j (r : Result T E). IfOk r (gives j)) js (map Ok ts) → AllGive gives js ts
given_ok E gives [] [] h = tt
given_ok E gives [] (t ∷ ts) h = absurd h
given_ok E gives (j ∷ js) [] h = absurd h
given_ok E gives (j ∷ js) (t ∷ ts) h = (h.0, given_ok E gives js ts h.1)

-- What holds of a result that is Ok, by what follows from it.
pub ok_more : {T E : Type 0} (r : Result T E) (P Q : T → Type 0) → IfOk r P → ((t : T) → P t → Q t) → IfOk r Q
ok_more (Ok t) P Q p f = f t p
ok_more (Err e) P Q p f = tt

-- What holds of what is in each of them.
pub all_of_map : {X Y : Type 0} (P : Y → Type 0) (f : X → Y) (xs : List X) → All P (map f xs) → All (λ x. P (f x)) xs
all_of_map P f [] h k d lt = absurd (omega arith)
all_of_map P f (x ∷ xs) h zero d lt = h 0 (f d) (omega arith)
all_of_map P f (x ∷ xs) h (suc k) d lt = all_of_map P f xs (λ i e l. h (suc i) e (omega arith)) k d (omega arith)
