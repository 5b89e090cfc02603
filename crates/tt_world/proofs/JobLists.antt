-- The list of a round's activations after an activation and after a tick.
use Rattle.std.proofs.Common.{ℕ, ◌≡◌, ◌≢◌, ◌<◌, ◌≤◌, List, [], ◌∷◌, ◌++◌, false, refl, ap, sym, ◌∙◌, arith, length, ◌⊎◌, ⊎_elim, inl, inr, get_or-set_same, get_or-set_other}
use Rattle.std.proofs.Math.ListN.{get_or-append}
use Rattle.std.proofs.Math.Seq.{get_or-append_seam}
use Rattle.std.proofs.lemmas.List.{length-append, length-set}
use Rattle.std.proofs.lemmas.Bool.{cases_lt, cases_eq}
use Rattle.task_lang.specs.declared.syntax.Stmt.{Stmt}
use Rattle.task_lang.specs.Tick.{tick}
use Rattle.tt_world.specs.declared.config.ConfigParts.{ConfigParts}
use Rattle.tt_world.specs.declared.script.ScriptParts.{ScriptParts}
use Rattle.tt_world.specs.World.{Job}
use Rattle.tt_world.specs.World.{World}
use Rattle.tt_world.specs.Runners.{no_job, job_at, is_done, with_left}
use Rattle.tt_world.specs.Step.{state_after}

-- a place of a list that got one more item at its end is an old place or the new one
abbrev pub IsOldPlace : List Job → Job → ℕ → Type 0
IsOldPlace xs y place = (place < length xs) × (job_at (xs ++ y ∷ []) place ≡ job_at xs place)

abbrev pub IsNewPlace : List Job → Job → ℕ → Type 0
IsNewPlace xs y place = (place ≡ length xs) × (job_at (xs ++ y ∷ []) place ≡ y)

pub place_of_more : (xs : List Job) (y : Job) (place : ℕ) → place < length (xs ++ y ∷ [])
    → IsOldPlace xs y place ⊎ IsNewPlace xs y place
place_of_more xs y place l =
    ⊎_elim (λ (lt : place < length xs). inl (lt, get_or-append xs (y ∷ []) no_job place lt))
    (λ (ge : length xs ≤ place).
    let e : place ≡ length xs = omega (arith, length-append xs (y ∷ [])) in
    inr (e, ap (job_at (xs ++ y ∷ [])) e ∙ get_or-append_seam xs y [] no_job))
    (cases_lt place (length xs))

-- changing what is left at one place adds no place
pub place_of_set : (xs : List Job) (q : ℕ) (left : List Stmt) (place : ℕ) → place < length (with_left xs q left)
    → place < length xs
place_of_set xs q left place l = omega (arith, length-set xs q (record { entry = (job_at xs q).entry; left = left }))

pub at_set : (xs : List Job) (q : ℕ) (left : List Stmt) → q < length xs
    → job_at (with_left xs q left) q ≡ record { entry = (job_at xs q).entry; left = left }
at_set xs q left l = get_or-set_same xs q _ no_job l

pub at_other : (xs : List Job) (q place : ℕ) (left : List Stmt) → place ≢ q
    → job_at (with_left xs q left) place ≡ job_at xs place
at_other xs q place left e = get_or-set_other xs q place _ no_job e

-- the entries stay
pub entry_of_set : (xs : List Job) (q : ℕ) (left : List Stmt) (place : ℕ) → place < length (with_left xs q left)
    → (job_at (with_left xs q left) place).entry ≡ (job_at xs place).entry
entry_of_set xs q left place l =
    let within : place < length xs = place_of_set xs q left place l in
    ⊎_elim (λ (e : place ≡ q). let here : q < length xs = omega arith in
    rw e (ap (λ x. x.entry) (at_set xs q left here)))
    (λ (e : place ≢ q). ap (λ x. x.entry) (at_other xs q place left e))
    (cases_eq place q)

-- a tick of nothing leaves nothing
pub tick_undone : (c : ConfigParts) (s : ScriptParts) (w : World) (left : List Stmt)
    → is_done (state_after c s w left).left ≡ false → is_done left ≡ false
unfolding tick
tick_undone c s w [] e = e
tick_undone c s w (front ∷ rest) e = refl

-- what has statements left after a change at one place also had some before
pub undone_before : (xs : List Job) (q place : ℕ) (left : List Stmt)
    → (is_done left ≡ false → is_done (job_at xs q).left ≡ false) → place < length (with_left xs q left)
    → is_done (job_at (with_left xs q left) place).left ≡ false → is_done (job_at xs place).left ≡ false
undone_before xs q place left before l u =
    let within : place < length xs = place_of_set xs q left place l in
    ⊎_elim
    (λ (e : place ≡ q).
    let here : q < length xs = omega arith in
    let same : job_at (with_left xs q left) place ≡ record { entry = (job_at xs q).entry; left = left } =
    rw e (at_set xs q left here) in
    let undone : is_done left ≡ false = sym (ap (λ x. is_done x.left) same) ∙ u in
    rw e (before undone))
    (λ (e : place ≢ q). sym (ap (λ x. is_done x.left) (at_other xs q place left e)) ∙ u)
    (cases_eq place q)
