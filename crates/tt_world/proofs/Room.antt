-- How many activations of a round are unfinished: at most one of each task.
use Rattle.std.proofs.Common.{ℕ, suc, ◌≡◌, ◌<◌, ◌≤◌, ◌-◌, Bool, true, false, cond, List, [], ◌∷◌, ◌++◌, Some, refl, ap, sym, subst, arith, length, eqb}
use Rattle.std.specs.Prelude.{not, ◌||◌, ◌&&◌, nat_le, nat_lt}
use Rattle.std.specs.List.{count_by, list_any, filter, AllByRecursion, IsDistinct}
use Rattle.std.proofs.lemmas.Bool.{eqb-true, false_from_ne_true, false≢true, and_parts, ltb-true}
use Rattle.std.proofs.lemmas.List.Elements.{All-get_or}
use Rattle.std.proofs.lemmas.List.Sums.{length-filter, sum_by-append}
use Rattle.std.proofs.lemmas.Map.Steps.{length-le_from_distinct_below}
use Rattle.task_lang.specs.declared.syntax.Stmt.{Stmt}
use Rattle.tt_base.specs.declared.number.TaskNo.{TaskNo}
use Rattle.tt_world.specs.declared.config.ConfigParts.{ConfigParts}
use Rattle.tt_world.specs.declared.script.ScriptParts.{ScriptParts}
use Rattle.tt_world.specs.World.{World, Job}
use Rattle.tt_world.specs.ConfigRules.{IsConfig, IsTask, is_activation}
use Rattle.tt_world.specs.Rows.{offset_of, mode_of, row_of, entry_at, body_of, no_row, no_task}
use Rattle.tt_world.specs.Runners.{job_at, is_done}
use Rattle.tt_world.specs.RunLaws.{IsUnfinished, AreTasksSingle}
use Rattle.tt_world.proofs.TableRows.{mode_rows, row_found, list_all_get}
use Rattle.tt_world.proofs.Points.{Ahead, activated_ahead}
use Rattle.tt_world.proofs.Places.{Placed, activated_placed, single}

-- whether an activation has statements left
abbrev pub is_undone : Job → Bool
is_undone job = not (is_done job.left)

undone_is : (job : Job) → is_undone job ≡ true → is_done job.left ≡ false
undone_is job e = cases (is_done job.left) e
  where
    cases : (b : Bool) → not b ≡ true → b ≡ false
    cases true e = cc
    cases false e = refl

one_longer : {A B : Type 0} (b : Bool) (a : A) (ys : List A) (x : B) (xs : List B) → length ys ≡ length xs
    → length (cond b (a ∷ ys) ys) ≡ length (cond b (x ∷ xs) xs)
one_longer true a ys x xs e = ap suc e
one_longer false a ys x xs e = e

-- one more, where a test holds
one_more : {A : Type 0} (P : List A → Type 0) (b : Bool) (a : A) (ys : List A) → P ys → (b ≡ true → P (a ∷ ys))
    → P (cond b (a ∷ ys) ys)
one_more P true a ys h more = more refl
one_more P false a ys h more = h

one_found : (k n : ℕ) (b : Bool) (a : ℕ) (ys : List ℕ) → (list_any (eqb k) ys ≡ true → k < n) → (b ≡ true → a < n)
    → list_any (eqb k) (cond b (a ∷ ys) ys) ≡ true → k < n
one_found k n false a ys rest first t = rest t
one_found k n true a ys rest first t = by (eqb k a) refl t rest
  where
    by : (same : Bool) → eqb k a ≡ same → (same || list_any (eqb k) ys) ≡ true → (list_any (eqb k) ys ≡ true → k < n)
        → k < n
    by true e u rest = subst (λ (j : ℕ). j < n) (sym (eqb-true k a e)) (first refl)
    by false e u rest = rest u

module _ (f : Job → ℕ) where
  -- the numbers of those that have statements left
  abbrev keys : List Job → List ℕ
  keys [] = []
  keys (x ∷ xs) = cond (is_undone x) (f x ∷ keys xs) (keys xs)

  length_keys : (xs : List Job) → length (keys xs) ≡ length (filter is_undone xs)
  length_keys [] = refl
  length_keys (x ∷ xs) = one_longer (is_undone x) (f x) (keys xs) x (filter is_undone xs) (length_keys xs)

  -- a number that is not the number of any of them
  apart_from : (k : ℕ) (xs : List Job)
      → ((q : ℕ) → q < length xs → is_undone (job_at xs q) ≡ true → k ≡ f (job_at xs q) → ⊥)
      → AllByRecursion (λ (y : ℕ). eqb k y ≡ false) (keys xs)
  apart_from k [] h = tt
  apart_from k (x ∷ xs) h =
      let rest = apart_from k xs (λ q l. h (suc q) (omega arith)) in
      one_more (AllByRecursion (λ (y : ℕ). eqb k y ≡ false)) (is_undone x) (f x) (keys xs) rest
      (λ e. (false_from_ne_true (eqb k (f x)) (λ t. h 0 (omega arith) e (eqb-true k (f x) t)), rest))

  are_distinct : (xs : List Job) → ((p q : ℕ) → p < q → q < length xs → is_undone (job_at xs p) ≡ true
      → is_undone (job_at xs q) ≡ true → f (job_at xs p) ≡ f (job_at xs q) → ⊥) → IsDistinct eqb (keys xs)
  unfolding IsDistinct
  are_distinct [] h = tt
  are_distinct (x ∷ xs) h =
      let rest = are_distinct xs (λ p q l m. h (suc p) (suc q) (omega arith) (omega arith)) in
      one_more (IsDistinct eqb) (is_undone x) (f x) (keys xs) rest
      (λ e. (apart_from (f x) xs (λ q l u. h 0 (suc q) (omega arith) (omega arith) e u), rest))

  are_below : (n : ℕ) (xs : List Job) → ((q : ℕ) → q < length xs → is_undone (job_at xs q) ≡ true → f (job_at xs q) < n)
      → (k : ℕ) → list_any (eqb k) (keys xs) ≡ true → k < n
  are_below n [] h k e = absurd (false≢true e)
  are_below n (x ∷ xs) h k e =
      one_found k n (is_undone x) (f x) (keys xs) (are_below n xs (λ q l. h (suc q) (omega arith)) k)
      (h 0 (omega arith)) e

  few_keys : (n : ℕ) (xs : List Job) → ((p q : ℕ) → p < q → q < length xs → is_undone (job_at xs p) ≡ true
      → is_undone (job_at xs q) ≡ true → f (job_at xs p) ≡ f (job_at xs q) → ⊥)
      → ((q : ℕ) → q < length xs → is_undone (job_at xs q) ≡ true → f (job_at xs q) < n)
      → length (filter is_undone xs) ≤ n
  few_keys n xs apart below =
      subst (λ (k : ℕ). k ≤ n) (length_keys xs)
      (length-le_from_distinct_below (keys xs) n (are_distinct xs apart) (are_below n xs below))

some_left : (left : List Stmt) → 1 ≤ length left → is_done left ≡ false
some_left [] l = absurd (omega arith)
some_left (front ∷ rest) l = refl

-- ---- at most one of each task

module _ (c : ConfigParts) (w : World) (single : AreTasksSingle c w)
    (exist : (q : ℕ) → q < length w.jobs → (row_of (mode_of c w) (job_at w.jobs q).entry).task.0 < length c.tasks) where
  unfinished_at : (q : ℕ) → q < length w.jobs → is_undone (job_at w.jobs q) ≡ true → IsUnfinished w q
  unfinished_at q l u = record { within = l; undone = undone_is (job_at w.jobs q) u }

  -- there are at most as many unfinished activations as tasks
  pub few_unfinished : count_by is_undone w.jobs ≤ length c.tasks
  few_unfinished =
      subst (λ (k : ℕ). k ≤ length c.tasks) (length-filter is_undone w.jobs)
      (few_keys (λ (job : Job). (row_of (mode_of c w) job.entry).task.0) (length c.tasks) w.jobs
      (λ p q l m up uq same. let e =
      single p q (unfinished_at p (omega arith) up) (unfinished_at q m uq) (ap task_no same) in omega arith)
      (λ q l u. exist q l))
    where
      task_no : ℕ → TaskNo
      task_no n = record { 0 = n }

-- ---- before an activation

-- each row has a task that exists
module _ (c : ConfigParts) (s : ScriptParts) (rules : IsConfig c) (w : World) (ahead : Ahead c 1 w)
    (placed : Placed c 0 w)
    (entry : ℕ) (found : entry_at (offset_of w) (mode_of c w).activations ≡ Some entry) where
  pub task_exists : (i : ℕ) → i < length (mode_of c w).activations → (row_of (mode_of c w) i).task.0 < length c.tasks
  task_exists i l =
      let row = row_of (mode_of c w) i in
      let here = list_all_get (is_activation c) (mode_of c w).activations i no_row
      (mode_rows c w.mode.0 rules).activations l in
      ltb-true row.task.0 (length c.tasks) (and_parts (nat_lt row.task.0 (length c.tasks))
      (nat_lt row.offset row.deadline && nat_le row.deadline (c.round - c.adjust)) here).0

  job : Job
  job = record { entry = entry; left = body_of c (row_of (mode_of c w) entry).task }

  next : World
  next = record w { jobs = w.jobs ++ job ∷ [] }

  next_few : count_by is_undone (w.jobs ++ job ∷ []) ≤ length c.tasks
  unfolding next job
  next_few =
      let a = activated_ahead c s rules w [] ahead (Some entry) found in
      let p = activated_placed c s rules w [] placed (Some entry) found in
      few_unfinished c next (single c s rules next a p)
      (λ q l. let few = p.few in let e = p.entries q l in
      subst (λ (i : ℕ). (row_of (mode_of c w) i).task.0 < length c.tasks) (sym e) (task_exists q (omega arith)))

  -- the body of the task that is activated has a statement
  has_body : is_done (body_of c (row_of (mode_of c w) entry).task) ≡ false
  has_body =
      let within = (row_found (offset_of w) entry (mode_of c w) found).0 in
      let task = All-get_or (IsTask c) c.tasks (row_of (mode_of c w) entry).task.0 no_task
      (task_exists entry within) rules.tasks in
      some_left (body_of c (row_of (mode_of c w) entry).task) task.routine.some

  -- before an activation there is room for one more
  pub room_for : count_by is_undone w.jobs < 64
  unfolding job
  room_for =
      let few = rules.few.tasks in
      let more = sum_by-append (λ (x : Job). cond (is_undone x) 1 0) w.jobs (job ∷ []) in
      let one : count_by is_undone (job ∷ []) ≡ 1 = rw has_body refl in
      let all = next_few in
      omega (arith, more, one, all, few)
