-- Copies that are lent, and what is left of them once one is back.
use Rattle.std.proofs.Common.{◌≡◌, ◌≢◌, inl, ℕ, cond, Bool, List, [], ◌∷◌, Option, Some, None, refl, ap, sym, subst, ◌∙◌, eq-eqb, ne_eqb}
use Rattle.vg_history.specs.Lists.{Has}
use Rattle.vg_history.specs.Jobs.{IsBack, but_lane}
use Rattle.vg_machine.specs.Jobs.{Job, after_placing, worked}
use Rattle.vg_machine_tests.specs.Lanes.{AreOut, lane_in}

-- What is left of one.
left_of_one : (job : Job) → but_lane lane_in (lane_in job) (job ∷ []) ≡ []
left_of_one job = ap (λ (b : Bool). cond b [] (job ∷ [])) (eq-eqb (lane_in job) (lane_in job) refl)

-- What is left of two, once the younger is back.
left_of_two : (first second : Job) → lane_in first ≢ lane_in second → but_lane lane_in (lane_in second) (second ∷ first ∷ []) ≡ first ∷ []
left_of_two first second apart =
    ap (λ (b : Bool). cond b (but_lane lane_in (lane_in second) (first ∷ [])) (second ∷ but_lane lane_in (lane_in second) (first ∷ []))) (eq-eqb (lane_in second) (lane_in second) refl)
    ∙ ap (λ (b : Bool). cond b [] (first ∷ [])) (ne_eqb (lane_in first) (lane_in second) apart)

pub has_second : (lent : List Job) (first second : Job) → AreOut lent first second → Has lent second
has_second lent first second out = subst (λ (jobs : List Job). Has jobs second) (sym out.0) (inl refl)

-- The older is left once the younger is back, and nothing once both are.
pub first_left : (lent after : List Job) (first second : Job) → AreOut lent first second → after ≡ but_lane lane_in (lane_in second) lent → after ≡ first ∷ []
first_left lent after first second out back = back ∙ (ap (but_lane lane_in (lane_in second)) out.0 ∙ left_of_two first second out.1)

pub has_first : (lent after : List Job) (first second : Job) → AreOut lent first second → after ≡ but_lane lane_in (lane_in second) lent → Has after first
has_first lent after first second out back = subst (λ (jobs : List Job). Has jobs first) (sym (first_left lent after first second out back)) (inl refl)

pub nothing_left : (lent after last : List Job) (first second : Job) → AreOut lent first second → after ≡ but_lane lane_in (lane_in second) lent → last ≡ but_lane lane_in (lane_in first) after → last ≡ []
nothing_left lent after last first second out back more = more ∙ (ap (but_lane lane_in (lane_in first)) (first_left lent after first second out back) ∙ left_of_one first)

-- A copy that is made is of the same lane.
placed_asks : (bytes : Option (List ℕ)) (job : Job) → (after_placing bytes job).asked ≡ job.asked
placed_asks (Some bytes) job = refl
placed_asks None job = refl

pub worked_lane : (job made : Job) → made ≡ worked job → lane_in made ≡ lane_in job
worked_lane job made is = ap lane_in is ∙ ap (λ r. r.lane) (placed_asks job.bytes job)

-- A copy that was made and brought back is lent no more.
pub brought_back : (lent after : List Job) (job made : Job) → Has lent job → made ≡ worked job → (IsBack worked lent made → after ≡ but_lane lane_in (lane_in made) lent) → after ≡ but_lane lane_in (lane_in job) lent
brought_back lent after job made has is back = back (job, has, is) ∙ ap (λ (l : ℕ). but_lane lane_in l lent) (worked_lane job made is)
