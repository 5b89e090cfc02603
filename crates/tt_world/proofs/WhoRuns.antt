-- Who runs: the unfinished routine of the highest level, and the last activation that is unfinished.
use Rattle.std.proofs.Common.{ℕ, ◌≡◌, ◌<◌, ◌≤◌, ◌+◌, List, [], ◌∷◌, Bool, true, false, Option, None, Some, refl, ap, sym, ◌∙◌, subst, cond, arith, length, get_or, zero, suc, ◌-◌}
use Rattle.std.specs.Prelude.{◌&&◌, not, filter, option_map, slice_index_or, nat_lt}
use Rattle.std.specs.List.{list_all, range_with_len}
use Rattle.std.proofs.lemmas.Bool.{cond_both, false≢true, and_parts}
use Rattle.tt_base.specs.declared.number.IsrNo.{IsrNo}
use Rattle.task_lang.specs.declared.syntax.Stmt.{Stmt}
use Rattle.tt_world.specs.declared.config.ConfigParts.{ConfigParts}
use Rattle.tt_world.specs.declared.world.Runner.{Runner}
use Rattle.tt_world.specs.declared.world.Runner.TheVariants as runner
use Rattle.tt_world.specs.World.{World, Job}
use Rattle.tt_world.specs.Runners.{is_done, runner_of, highest, higher, unfinished, isr_levels, first_runner, no_job, last_unfinished, or_else}

-- ---- the one who runs has statements left

some_same : (a b : ℕ) → Some a ≡ Some b → a ≡ b
some_same a b g = cc

higher_passes : (levels : List ℕ) (test : ℕ → Bool) (x : ℕ) (o : Option ℕ) → test x ≡ true
    → ((n : ℕ) → o ≡ Some n → test n ≡ true) → test (higher levels x o) ≡ true
higher_passes levels test x None h k = h
higher_passes levels test x (Some other) h k =
    cond_both (nat_lt (slice_index_or levels x 0) (slice_index_or levels other 0)) other x (λ (y : ℕ). test y ≡ true)
    (λ _. k other refl) (λ _. h)

-- the highest of some numbers that all pass a test passes it
pub passes : (levels numbers : List ℕ) (test : ℕ → Bool) → list_all test numbers ≡ true → (number : ℕ)
    → highest levels numbers ≡ Some number → test number ≡ true
unfolding highest
passes levels [] test h number e = cc
passes levels (x ∷ xs) test h number e =
    let both = and_parts (test x) (list_all test xs) h in
    subst (λ (y : ℕ). test y ≡ true) (some_same _ number e)
    (higher_passes levels test x (highest levels xs) both.0 (passes levels xs test both.1))

filtered : (test : ℕ → Bool) (xs : List ℕ) → list_all test (filter test xs) ≡ true
filtered test [] = refl
filtered test (x ∷ xs) =
    cond_both (test x) _ _ (λ (ys : List ℕ). list_all test ys ≡ true)
    (λ e. let rest = filtered test xs in ap (λ b. b && list_all test (filter test xs)) e ∙ rest) (λ _. filtered test xs)

undone : List (List Stmt) → ℕ → Bool
undone lefts number = not (is_done (slice_index_or lefts number []))

not_done : (b : Bool) → not b ≡ true → b ≡ false
not_done true e = cc
not_done false e = refl

-- the highest that is unfinished has statements left
pub highest_undone : (levels : List ℕ) (lefts : List (List Stmt)) (number : ℕ)
    → highest levels (unfinished lefts) ≡ Some number → is_done (slice_index_or lefts number []) ≡ false
highest_undone levels lefts number e =
    not_done _ (passes levels (unfinished lefts) (λ (n : ℕ). not (is_done (slice_index_or lefts n [])))
    (filtered _ (range_with_len 0 (length lefts))) number e)

-- where a time-triggered routine runs, it is the unfinished one of the highest level
isr_first : (o : Option ℕ) (others : List (Option Runner)) (isr : IsrNo)
    → ((r : Runner) → first_runner others ≡ r → (j : IsrNo) → r ≡ runner.Isr j → ⊥)
    → first_runner (option_map (λ (number : ℕ). runner.Isr (record { 0 = number })) o ∷ others) ≡ runner.Isr isr
    → o ≡ Some isr.0
isr_first None others isr none e = absurd (none _ e isr refl)
isr_first (Some number) others isr none e = cc

none_isr : (o p q : Option ℕ) (r : Runner)
    → first_runner (option_map (λ (place : ℕ). runner.Job place) o ∷ option_map
    (λ (number : ℕ). runner.Oisr (record { 0 = number })) p ∷ option_map
    (λ (number : ℕ). runner.Osek (record { 0 = number })) q ∷ []) ≡ r → (j : IsrNo) → r ≡ runner.Isr j → ⊥
none_isr (Some place) p q r e j f = cc
none_isr None (Some n) q r e j f = cc
none_isr None None (Some n) r e j f = cc
none_isr None None None r e j f = cc

pub isr_runs : (c : ConfigParts) (w : World) (isr : IsrNo) → runner_of c w ≡ runner.Isr isr
    → highest (isr_levels c) (unfinished w.isrs) ≡ Some isr.0
unfolding runner_of
isr_runs c w isr e = isr_first _ _ isr (none_isr _ _ _) e

-- ---- the last activation that is unfinished

pub record IsLastUnfinished (n : ℕ) (xs : List Job) (q : ℕ) : Type 0 where
  pub low : n ≤ q
  pub within : q - n < length xs
  pub undone : is_done (get_or xs (q - n) no_job).left ≡ false
  pub after : (p : ℕ) → p < length xs → is_done (get_or xs p no_job).left ≡ false → n + p ≤ q

NoneUnfinished : List Job → Type 0
NoneUnfinished xs = (p : ℕ) → p < length xs → is_done (get_or xs p no_job).left ≡ false → ⊥

Found : ℕ → List Job → Option ℕ → Type 0
Found n xs None = NoneUnfinished xs
Found n xs (Some q) = IsLastUnfinished n xs q

found_here : (n : ℕ) (x : Job) (xs : List Job) (o : Option ℕ) → Found (n + 1) xs o
    → Found n (x ∷ xs) (or_else o (cond (is_done x.left) None (Some n)))
unfolding Found NoneUnfinished
found_here n x xs (Some q) f =
    let low = f.low in
    let s : q - n ≡ suc (q - (n + 1)) = omega arith in
    let w = f.within in
    record { low = omega arith; within = omega arith; undone = rw s f.undone; after = later }
  where
    later : (p : ℕ) → p < length (x ∷ xs) → is_done (get_or (x ∷ xs) p no_job).left ≡ false → n + p ≤ q
    later zero h u = let low = f.low in omega arith
    later (suc p) h u = let r = f.after p (omega arith) u in omega arith
found_here n x xs None f =
    cond_both (is_done x.left) None (Some n) (λ (o : Option ℕ). Found n (x ∷ xs) o) none here
  where
    none : is_done x.left ≡ true → NoneUnfinished (x ∷ xs)
    none d zero h u = false≢true (sym u ∙ d)
    none d (suc p) h u = f p (omega arith) u

    later : (p : ℕ) → p < length (x ∷ xs) → is_done (get_or (x ∷ xs) p no_job).left ≡ false → n + p ≤ n
    later zero h u = omega arith
    later (suc p) h u = absurd (f p (omega arith) u)

    here : is_done x.left ≡ false → IsLastUnfinished n (x ∷ xs) n
    here d =
        let z : n - n ≡ 0 = omega arith in
        record { low = omega arith; within = omega arith; undone = rw z d; after = later }

last_found : (n : ℕ) (xs : List Job) → Found n xs (last_unfinished n xs)
unfolding Found NoneUnfinished last_unfinished
last_found n [] = λ p h u. absurd (omega arith)
last_found n (x ∷ xs) = found_here n x xs (last_unfinished (n + 1) xs) (last_found (n + 1) xs)

pub last_found_at : (xs : List Job) (q : ℕ) → last_unfinished 0 xs ≡ Some q → IsLastUnfinished 0 xs q
unfolding Found
last_found_at xs q e = subst (Found 0 xs) e (last_found 0 xs)

pub none_found : (xs : List Job) → last_unfinished 0 xs ≡ None → (p : ℕ) → p < length xs
    → is_done (get_or xs p no_job).left ≡ false → ⊥
unfolding Found NoneUnfinished
none_found xs e = subst (Found 0 xs) e (last_found 0 xs)

-- what the runner says of the activations: any other runner runs only where none is unfinished
abbrev pub Says : List Job → Runner → Type 0
Says xs (runner.Isr isr) = Unit {0}
Says xs (runner.Job q) = last_unfinished 0 xs ≡ Some q
Says xs r = last_unfinished 0 xs ≡ None

says : (xs : List Job) (i t o k : Option ℕ) → last_unfinished 0 xs ≡ t
    → Says xs
    (first_runner (option_map (λ (n : ℕ). runner.Isr (record { 0 = n })) i ∷ option_map
    (λ (n : ℕ). runner.Job n) t ∷ option_map (λ (n : ℕ). runner.Oisr (record { 0 = n })) o ∷ option_map
    (λ (n : ℕ). runner.Osek (record { 0 = n })) k ∷ []))
says xs (Some n) t o k e = tt
says xs None (Some q) o k e = e
says xs None None (Some n) k e = e
says xs None None None (Some n) e = e
says xs None None None None e = e

pub runner_says : (c : ConfigParts) (w : World) → Says w.jobs (runner_of c w)
unfolding runner_of
runner_says c w = says w.jobs _ (last_unfinished 0 w.jobs) _ _ refl

-- any time-triggered routine
abbrev pub is_any_isr : Runner → Bool
is_any_isr (runner.Isr isr) = true
is_any_isr r = false
