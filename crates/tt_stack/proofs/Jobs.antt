-- The activations of a round, from what is left of each.
use Rattle.std.proofs.Common.{◌≡◌, ℕ, zero, suc, ◌+◌, ◌<◌, ◌≤◌, true, false, cond, List, [], ◌∷◌, ◌++◌, length, None, Some, refl, ap, ◌∙◌, arith}
use Rattle.std.specs.Prelude.{slice_set}
use Rattle.std.proofs.lemmas.List.Sums.{sum_by-cons}
use Rattle.task_lang.specs.declared.syntax.Stmt.{Stmt}
use Rattle.tt_world.specs.Load.{count_left, count_unfinished}
use Rattle.tt_world.specs.World.{Job}
use Rattle.tt_world.specs.Runners.{is_done, job_at, with_left, last_unfinished, or_else}
use Rattle.tt_stack.specs.Kept.{jobs_from}
use Rattle.tt_stack.proofs.Written.{at, one_left}

-- an activation of an entry number, with what is left of it
abbrev pub job : ℕ → List Stmt → Job
job entry left = record { entry = entry; left = left }

-- what is left of an activation is what was listed at its place
pub job_left : (from : ℕ) (lefts : List (List Stmt)) (place : ℕ) → (job_at (jobs_from from lefts) place).left
    ≡ at lefts place
job_left from [] place = refl
job_left from (x ∷ xs) zero = refl
job_left from (x ∷ xs) (suc place) = job_left (from + 1) xs place

-- there is an activation for each item of the list
pub length-jobs : (from : ℕ) (lefts : List (List Stmt)) → length (jobs_from from lefts) ≡ length lefts
length-jobs from [] = refl
length-jobs from (x ∷ xs) = omega (arith, length-jobs (from + 1) xs)

-- the entry number of an activation is its place, counted from the first entry
pub job_entry : (from : ℕ) (lefts : List (List Stmt)) (place : ℕ) → place < length lefts
    → (job_at (jobs_from from lefts) place).entry ≡ from + place
job_entry from [] place l = absurd (omega arith)
job_entry from (x ∷ xs) zero l = omega arith
job_entry from (x ∷ xs) (suc place) l =
    let next : from + 1 + place ≡ from + suc place = omega arith in job_entry (from + 1) xs place (omega arith) ∙ next

-- an activation that is not there has the entry number 0
pub job_past : (from : ℕ) (lefts : List (List Stmt)) (place : ℕ) → length lefts ≤ place
    → (job_at (jobs_from from lefts) place).entry ≡ 0
job_past from [] place l = refl
job_past from (x ∷ xs) zero l = absurd (omega arith)
job_past from (x ∷ xs) (suc place) l = job_past (from + 1) xs place (omega arith)

-- to write what is left at a place is to write it into the activation there
pub jobs_set : (from : ℕ) (lefts : List (List Stmt)) (place : ℕ) (left : List Stmt)
    → jobs_from from (slice_set lefts place left) ≡ with_left (jobs_from from lefts) place left
jobs_set from [] place left = refl
jobs_set from (x ∷ xs) zero left = refl
jobs_set from (x ∷ xs) (suc place) left = ap (λ (js : List Job). job from x ∷ js) (jobs_set (from + 1) xs place left)

-- one more item at the end of the list is one more activation
pub jobs_push : (from : ℕ) (lefts : List (List Stmt)) (left : List Stmt)
    → jobs_from from (lefts ++ left ∷ []) ≡ jobs_from from lefts ++ job (from + length lefts) left ∷ []
jobs_push from [] left = let same : from ≡ from + 0 = omega arith in ap (λ n. job n left ∷ []) same
jobs_push from (x ∷ xs) left =
    let same : from + 1 + length xs ≡ from + length (x ∷ xs) = omega arith in
    ap (λ (js : List Job). job from x ∷ js)
    (jobs_push (from + 1) xs left ∙ ap (λ n. jobs_from (from + 1) xs ++ job n left ∷ []) same)

-- as many activations are unfinished as items of the list have statements left
pub count_jobs : (from : ℕ) (lefts : List (List Stmt)) → count_unfinished (jobs_from from lefts) ≡ count_left lefts
count_jobs from [] = refl
count_jobs from (x ∷ xs) =
    let first = sum_by-cons (λ (j : Job). one_left j.left) (job from x) (jobs_from (from + 1) xs) in
    let same = sum_by-cons one_left x xs in
    omega (arith, first, same, count_jobs (from + 1) xs)

-- ---- the last that has statements left

-- where each item is done, no activation has statements left
pub none_last : (place from : ℕ) (lefts : List (List Stmt)) → ((n : ℕ) → is_done (at lefts n) ≡ true)
    → last_unfinished place (jobs_from from lefts) ≡ None
unfolding last_unfinished
none_last place from [] done = refl
none_last place from (x ∷ xs) done =
    ap (λ o. or_else o (cond (is_done x) None (Some place))) (none_last (place + 1) (from + 1) xs (λ n. done (suc n)))
    ∙ ap (λ b. cond b None (Some place)) (done 0)

-- the last item that is not done is the last activation that has statements left
pub last_is : (place from : ℕ) (lefts : List (List Stmt)) (n : ℕ) → n < length lefts → is_done (at lefts n) ≡ false
    → ((k : ℕ) → n < k → is_done (at lefts k) ≡ true) → last_unfinished place (jobs_from from lefts) ≡ Some (place + n)
unfolding last_unfinished
last_is place from [] n within some after = absurd (omega arith)
last_is place from (x ∷ xs) zero within some after =
    ap (λ o. or_else o (cond (is_done x) None (Some place)))
    (none_last (place + 1) (from + 1) xs (λ n. after (suc n) (omega arith)))
    ∙ ap (λ b. cond b None (Some place)) some ∙ (let e : place ≡ place + 0 = omega arith in ap Some e)
last_is place from (x ∷ xs) (suc n) within some after =
    let e : (place + 1) + n ≡ place + suc n = omega arith in
    ap (λ o. or_else o (cond (is_done x) None (Some place)))
    (last_is (place + 1) (from + 1) xs n (omega arith) some (λ k l. after (suc k) (omega arith)) ∙ ap Some e)
