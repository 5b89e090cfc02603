-- The world after ticks of work of the one who runs: the same one runs on, and the stack is as deep as before.
use Rattle.std.proofs.Common.{ℕ, zero, suc, ◌≡◌, ◌<◌, ◌≤◌, ◌+◌, List, [], ◌∷◌, Bool, true, false, None, Some, cond, refl, ap, sym, ◌∙◌, subst, arith, length, inl, inr, ⊎_elim}
use Rattle.std.specs.Prelude.{max, not, filter, if◌then◌else◌, option_map, slice_index_or, slice_set}
use Rattle.std.specs.List.{count_by, range_with_len, sum_by}
use Rattle.std.proofs.lemmas.Bool.{both_ways, cases_lt}
use Rattle.std.proofs.lemmas.List.{length-set, set-set, set_past}
use Rattle.std.proofs.lemmas.List.Elements.{filter_agree}
use Rattle.std.proofs.lemmas.List.Sums.{sum_by-set}
use Rattle.task_lang.specs.declared.syntax.Stmt.{Stmt}
use Rattle.task_machine.specs.Standing.{work_in_front}
use Rattle.tt_base.specs.declared.event.Owner.{Owner}
use Rattle.tt_base.specs.declared.event.Owner.TheVariants as owner
use Rattle.tt_world.specs.declared.config.ConfigParts.{ConfigParts}
use Rattle.tt_world.specs.declared.world.Runner.{Runner}
use Rattle.tt_world.specs.declared.world.Runner.TheVariants as runner
use Rattle.tt_world.specs.Load.{count_left, count_unfinished, depth_of, isr_words, job_words, words_of}
use Rattle.tt_world.specs.Rows.{mode_of, no_task, row_of}
use Rattle.tt_world.specs.Runners.{first_runner, highest, is_done, isr_levels, isr_runner, job_at, last_unfinished, left_of, leaving, no_job, oisr_priorities, oisr_runner, or_else, osek_priorities, osek_runner, owner_of, runner_of, task_runner, unfinished}
use Rattle.tt_world.specs.World.{Job, World}
use Rattle.tt_world.proofs.Stamps.{leaving_tick}
use Rattle.stack_dispatch.specs.Jumps.{CanWork, at_work, lessened, waited, worked_off}
use Rattle.stack_dispatch.proofs.WorkedOff.{one_more, undone_worked}

-- ---- lists in which one element is set

get_same : {X Y : Type 0} (f : X → Y) (xs : List X) (i n : ℕ) (y d : X) → f y ≡ f (slice_index_or xs i d)
    → f (slice_index_or (slice_set xs i y) n d) ≡ f (slice_index_or xs n d)
get_same f [] i n y d e = refl
get_same f (x ∷ xs) zero zero y d e = e
get_same f (x ∷ xs) zero (suc n) y d e = refl
get_same f (x ∷ xs) (suc i) zero y d e = refl
get_same f (x ∷ xs) (suc i) (suc n) y d e = get_same f xs i n y d e

sum_same : {X : Type 0} (f : X → ℕ) (xs : List X) (i : ℕ) (y d : X) → f y ≡ f (slice_index_or xs i d)
    → sum_by f (slice_set xs i y) ≡ sum_by f xs
sum_same f xs i y d e =
    ⊎_elim (λ (l : i < length xs). omega (arith, sum_by-set f xs i y d l, e))
    (λ (g : length xs ≤ i). ap (sum_by f) (set_past xs i y g)) (cases_lt i (length xs))

count_same : {X : Type 0} (p : X → Bool) (xs : List X) (i : ℕ) (y d : X) → p y ≡ p (slice_index_or xs i d)
    → count_by p (slice_set xs i y) ≡ count_by p xs
count_same p xs i y d e = sum_same (λ x. cond (p x) 1 0) xs i y d (ap (λ b. cond b 1 0) e)

unfinished_same : (lefts : List (List Stmt)) (i : ℕ) (left : List Stmt)
    → is_done left ≡ is_done (slice_index_or lefts i [])
    → unfinished (slice_set lefts i left) ≡ unfinished lefts
unfinished_same lefts i left e =
    filter_agree (λ n. not (is_done (slice_index_or (slice_set lefts i left) n [])))
    (λ n. not (is_done (slice_index_or lefts n []))) (λ n. ap not (get_same is_done lefts i n left [] e))
    (range_with_len 0 (length (slice_set lefts i left)))
    ∙ ap (λ k. filter (λ n. not (is_done (slice_index_or lefts n []))) (range_with_len 0 k)) (length-set lefts i left)

last_same : (xs : List Job) (place i : ℕ) (y : Job) → is_done y.left ≡ is_done (job_at xs i).left
    → last_unfinished place (slice_set xs i y) ≡ last_unfinished place xs
unfolding last_unfinished
last_same [] place i y e = refl
last_same (x ∷ xs) place zero y e =
    ap (λ (b : Bool). or_else (last_unfinished (place + 1) xs) (if b then None else Some place)) e
last_same (x ∷ xs) place (suc i) y e =
    ap (λ o. or_else o (if is_done x.left then None else Some place)) (last_same xs (place + 1) i y e)

-- where an element fails a test that the default passes, another can be put in its place
set_there : {X : Type 0} (test : X → Bool) (xs : List X) (i : ℕ) (y d : X) → test d ≡ true
    → test (slice_index_or xs i d) ≡ false → slice_index_or (slice_set xs i y) i d ≡ y
set_there test [] i y d none e = absurd (both_ways (test d) e none)
set_there test (x ∷ xs) zero y d none e = refl
set_there test (x ∷ xs) (suc i) y d none e = set_there test xs i y d none e

-- ---- the world with other work left of a runner

-- two worlds in which the same one runs, and the stack is as deep and has as many words
pub record Alike (c : ConfigParts) (w v : World) : Type 0 where
  pub runner : runner_of c v ≡ runner_of c w
  pub depth : depth_of v ≡ depth_of w
  pub words : words_of c v ≡ words_of c w

module _ (c : ConfigParts) (w : World) where
  -- nobody ends, or begins
  leaving_alike : (r : Runner) (left : List Stmt) → is_done left ≡ is_done (left_of w r) → Alike c w (leaving w r left)
  unfolding runner_of
  leaving_alike (runner.Isr i) left e =
      let same = unfinished_same w.isrs i.0 left e in
      record {
        runner = ap (λ ns. first_runner (option_map (λ (n : ℕ). runner.Isr (record { 0 = n }))
            (highest (isr_levels c) ns) ∷ task_runner w ∷ oisr_runner c w ∷ osek_runner c w ∷ [])) same;
        depth = ap (λ n. count_unfinished w.jobs + n)
            (count_same (λ (x : List Stmt). not (is_done x)) w.isrs i.0 left [] (ap not e));
        words = ap (λ ns. sum_by (job_words c (mode_of c w)) w.jobs + sum_by (isr_words c) ns) same;
      }
  leaving_alike (runner.Job p) left e =
      let job = job_at w.jobs p in
      let y : Job = record { entry = job.entry; left = left } in
      record {
        runner = ap (λ o. first_runner (isr_runner c w ∷ option_map (λ (n : ℕ). runner.Job n) o
            ∷ oisr_runner c w ∷ osek_runner c w ∷ [])) (last_same w.jobs 0 p y e);
        depth = ap (λ n. n + count_left w.isrs)
            (count_same (λ (x : Job). not (is_done x.left)) w.jobs p y no_job (ap not e));
        words = ap (λ n. n + sum_by (isr_words c) (unfinished w.isrs))
            (sum_same (job_words c (mode_of c w)) w.jobs p y no_job
            (ap (λ (b : Bool). if b then 0 else
            (slice_index_or c.tasks (row_of (mode_of c w) job.entry).task.0 no_task).stack) e));
      }
  leaving_alike (runner.Oisr i) left e = record {
    runner = ap (λ ns. first_runner (isr_runner c w ∷ task_runner w
        ∷ option_map (λ (n : ℕ). runner.Oisr (record { 0 = n })) (highest (oisr_priorities c) ns)
        ∷ osek_runner c w ∷ [])) (unfinished_same w.oisrs i.0 left e);
    depth = refl;
    words = refl;
  }
  leaving_alike (runner.Osek i) left e = record {
    runner = ap (λ ns. first_runner (isr_runner c w ∷ task_runner w ∷ oisr_runner c w
        ∷ option_map (λ (n : ℕ). runner.Osek (record { 0 = n })) (highest (osek_priorities c) ns) ∷ []))
        (unfinished_same w.oseks i.0 left e);
    depth = refl;
    words = refl;
  }
  leaving_alike runner.Nobody left e = record { runner = refl; depth = refl; words = refl }

  owner_same : (r : Runner) (left : List Stmt) → owner_of c (leaving w r left) r ≡ owner_of c w r
  owner_same (runner.Job p) left =
      ap (λ (entry : ℕ). owner.Task (row_of (mode_of c w) entry).task)
      (get_same (λ (job : Job). job.entry) w.jobs p p (record { entry = (job_at w.jobs p).entry; left = left }) no_job
      refl)
  owner_same r left = refl

leave_twice : (w : World) (r : Runner) (a b : List Stmt) → leaving (leaving w r a) r b ≡ leaving w r b
leave_twice w (runner.Isr i) a b = ap (λ (xs : List (List Stmt)). record w { isrs = xs }) (set-set w.isrs i.0 a b)
leave_twice w (runner.Job p) a b =
    let entry = (job_at w.jobs p).entry in
    let y : Job = record { entry = entry; left = a } in
    ap (λ (n : ℕ). record w { jobs = slice_set (slice_set w.jobs p y) p (record { entry = n; left = b }) })
    (get_same (λ (job : Job). job.entry) w.jobs p p y no_job refl)
    ∙ ap (λ (xs : List Job). record w { jobs = xs }) (set-set w.jobs p y (record { entry = entry; left = b }))
leave_twice w (runner.Oisr i) a b = ap (λ (xs : List (List Stmt)). record w { oisrs = xs }) (set-set w.oisrs i.0 a b)
leave_twice w (runner.Osek i) a b = ap (λ (xs : List (List Stmt)). record w { oseks = xs }) (set-set w.oseks i.0 a b)
leave_twice w runner.Nobody a b = refl

left_then : (w : World) (r : Runner) (left : List Stmt) → is_done (left_of w r) ≡ false
    → left_of (leaving w r left) r ≡ left
left_then w (runner.Isr i) left e = set_there is_done w.isrs i.0 left [] refl e
left_then w (runner.Job p) left e =
    ap (λ (x : Job). x.left) (set_there (λ (x : Job). is_done x.left) w.jobs p
    (record { entry = (job_at w.jobs p).entry; left = left }) no_job refl e)
left_then w (runner.Oisr i) left e = set_there is_done w.oisrs i.0 left [] refl e
left_then w (runner.Osek i) left e = set_there is_done w.oseks i.0 left [] refl e
left_then w runner.Nobody left e = cc

pub leaving_last : (w : World) (r : Runner) (left : List Stmt) → (leaving w r left).last ≡ w.last
leaving_last w (runner.Isr i) left = refl
leaving_last w r left = refl

-- ---- ticks later

pub wait_leaving : (j : ℕ) (who : Owner) (w : World) (r : Runner) (left : List Stmt)
    → waited j who (leaving w r left) ≡ leaving (waited j who w) r left
wait_leaving zero who w r left = refl
wait_leaving (suc j) who w (runner.Isr i) left = refl
wait_leaving (suc j) who w r left = refl

-- what is left, who runs and who owns a tick is as before
pub left_waited : (k : ℕ) (who : Owner) (w : World) (r : Runner) → left_of (waited k who w) r ≡ left_of w r
left_waited zero who w r = refl
left_waited (suc k) who w (runner.Isr i) = refl
left_waited (suc k) who w r = refl

pub waited_alike : (c : ConfigParts) (k : ℕ) (who : Owner) (w : World) → Alike c w (waited k who w)
unfolding runner_of
waited_alike c zero who w = record { runner = refl; depth = refl; words = refl }
waited_alike c (suc k) who w = record { runner = refl; depth = refl; words = refl }

pub owner_waited : (c : ConfigParts) (k : ℕ) (who : Owner) (w : World) (r : Runner)
    → owner_of c (waited k who w) r ≡ owner_of c w r
owner_waited c zero who w r = refl
owner_waited c (suc k) who w (runner.Isr i) = refl
owner_waited c (suc k) who w r = refl

pub tick_waited : (k : ℕ) (who : Owner) (w : World) → (waited k who w).tick ≡ w.tick + k
tick_waited zero who w = omega arith
tick_waited (suc k) who w = refl

wait_more : (k : ℕ) (who : Owner) (w : World) → waited 1 who (waited k who w) ≡ waited (suc k) who w
wait_more zero who w = refl
wait_more (suc k) who w =
    let same : (w.tick + suc k) + 1 ≡ w.tick + suc (suc k) = omega arith in
    ap (λ (n : ℕ). record w { tick = n; last = Some who }) same

-- ---- work taken off

none_left : (k : ℕ) → worked_off k [] ≡ []
none_left zero = refl
none_left (suc k) = refl

pub some_left : (left : List Stmt) → 2 ≤ max 1 (work_in_front left) → is_done left ≡ false
some_left [] l = absurd (omega arith)
some_left (front ∷ rest) l = refl

module _ (k : ℕ) (r : Runner) (w : World) (can : CanWork (suc k) r (left_of w r)) where
  undone_same : is_done (worked_off k (left_of w r)) ≡ is_done (left_of w r)
  undone_same =
      ⊎_elim (λ (e : r ≡ runner.Nobody). subst (λ (q : Runner). is_done (worked_off k (left_of w q))
      ≡ is_done (left_of w q)) (sym e) (ap is_done (none_left k)))
      (λ (l : suc k ≤ max 1 (work_in_front (left_of w r))). undone_worked k (left_of w r) l) can

-- the same one runs
pub lessened_alike : (c : ConfigParts) (k : ℕ) (r : Runner) (w : World) → CanWork (suc k) r (left_of w r)
    → Alike c w (lessened k r w)
lessened_alike c zero r w can = record { runner = refl; depth = refl; words = refl }
lessened_alike c (suc k) r w can =
    leaving_alike c w r (worked_off (suc k) (left_of w r)) (undone_same (suc k) r w can)

pub owner_lessened : (c : ConfigParts) (k : ℕ) (r : Runner) (w : World)
    → owner_of c (lessened k r w) r ≡ owner_of c w r
owner_lessened c zero r w = refl
owner_lessened c (suc k) r w = owner_same c w r (worked_off (suc k) (left_of w r))

pub tick_lessened : (k : ℕ) (r : Runner) (w : World) → (lessened k r w).tick ≡ w.tick
tick_lessened zero r w = refl
tick_lessened (suc k) r w = leaving_tick w r (worked_off (suc k) (left_of w r))

pub left_lessened : (k : ℕ) (r : Runner) (w : World) → CanWork (suc k) r (left_of w r)
    → left_of (lessened k r w) r ≡ worked_off k (left_of w r)
left_lessened zero r w can = refl
left_lessened (suc k) r w can =
    ⊎_elim (λ (e : r ≡ runner.Nobody). subst (λ (q : Runner). left_of (lessened (suc k) q w) q
    ≡ worked_off (suc k) (left_of w q)) (sym e) refl)
    (λ (l : suc (suc k) ≤ max 1 (work_in_front (left_of w r))).
    left_then w r (worked_off (suc k) (left_of w r)) (some_left (left_of w r) (omega arith))) can

-- what is left of a runner is what it was left with last
pub leave_lessened : (k : ℕ) (r : Runner) (w : World) (left : List Stmt)
    → leaving (lessened k r w) r left ≡ leaving w r left
leave_lessened zero r w left = refl
leave_lessened (suc k) r w left = leave_twice w r (worked_off (suc k) (left_of w r)) left

lessened_more : (k : ℕ) (r : Runner) (w : World) → CanWork (suc (suc k)) r (left_of w r)
    → lessened 1 r (lessened k r w) ≡ lessened (suc k) r w
lessened_more zero r w can = refl
lessened_more (suc k) r w can =
    ⊎_elim (λ (e : r ≡ runner.Nobody). subst (λ (q : Runner). lessened 1 q (lessened (suc k) q w)
    ≡ lessened (suc (suc k)) q w) (sym e) refl)
    (λ (l : suc (suc (suc k)) ≤ max 1 (work_in_front (left_of w r))).
    let left = left_of w r in
    leave_twice w r (worked_off (suc k) left) (worked_off 1 (left_of (lessened (suc k) r w) r))
    ∙ ap (λ (m : List Stmt). leaving w r (worked_off 1 m)) (left_lessened (suc k) r w (inr (omega arith)))
    ∙ ap (leaving w r) (one_more (suc k) left l)) can

pub wait_lessened : (j k : ℕ) (who : Owner) (w : World) (r : Runner)
    → waited j who (lessened k r w) ≡ lessened k r (waited j who w)
wait_lessened j zero who w r = refl
wait_lessened j (suc k) who w r =
    wait_leaving j who w r (worked_off (suc k) (left_of w r))
    ∙ ap (λ (left : List Stmt). leaving (waited j who w) r (worked_off (suc k) left)) (sym (left_waited j who w r))

pub fewer : (k n : ℕ) (r : Runner) (left : List Stmt) → k ≤ n → CanWork n r left → CanWork k r left
fewer k n r left less can =
    ⊎_elim (λ (e : r ≡ runner.Nobody). inl e)
    (λ (l : n ≤ max 1 (work_in_front left)). inr (omega arith)) can

-- whoever works for k ticks has work for them
pub somebody_works : (k : ℕ) (r : Runner) (left : List Stmt) → (r ≡ runner.Nobody → ⊥) → CanWork k r left
    → k ≤ max 1 (work_in_front left)
somebody_works k r left somebody can = ⊎_elim (λ e. absurd (somebody e)) (λ l. l) can

-- ---- the world after k ticks of work of the one who runs

module _ (c : ConfigParts) (w : World) where
  abbrev runs : Runner
  runs = runner_of c w

  abbrev owns : Owner
  owns = owner_of c w runs

  module _ (k : ℕ) (can : CanWork (suc k) (runner_of c w) (left_of w (runner_of c w))) where
    waits : CanWork (suc k) runs (left_of (waited k owns w) runs)
    waits = subst (λ (left : List Stmt). CanWork (suc k) runs left) (sym (left_waited k owns w runs)) can

    -- the same one runs, and the stack is as deep
    pub work_alike : Alike c w (at_work c k w)
    work_alike =
        let less = lessened_alike c k runs (waited k owns w) waits in
        let later = waited_alike c k owns w in
        record {
          runner = less.runner ∙ later.runner;
          depth = less.depth ∙ later.depth;
          words = less.words ∙ later.words;
        }

    pub work_owner : owner_of c (at_work c k w) (runner_of c w) ≡ owner_of c w (runner_of c w)
    work_owner = owner_lessened c k runs (waited k owns w) ∙ owner_waited c k owns w runs

    pub work_left : left_of (at_work c k w) (runner_of c w) ≡ worked_off k (left_of w (runner_of c w))
    work_left = left_lessened k runs (waited k owns w) waits ∙ ap (worked_off k) (left_waited k owns w runs)

  pub work_tick : (k : ℕ) → (at_work c k w).tick ≡ w.tick + k
  work_tick k = tick_lessened k runs (waited k owns w) ∙ tick_waited k owns w

  -- one tick more
  pub work_more : (k : ℕ) → CanWork (suc (suc k)) (runner_of c w) (left_of w (runner_of c w))
      → at_work c 1 (at_work c k w) ≡ at_work c (suc k) w
  work_more k can =
      let u = at_work c k w in
      let less = fewer (suc k) (suc (suc k)) runs (left_of w runs) (omega arith) can in
      ap (λ (q : Runner). lessened 1 q (waited 1 (owner_of c u q) u)) (work_alike k less).runner
      ∙ ap (λ (o : Owner). lessened 1 runs (waited 1 o u)) (work_owner k less)
      ∙ ap (lessened 1 runs) (wait_lessened 1 k owns (waited k owns w) runs)
      ∙ ap (λ (x : World). lessened 1 runs (lessened k runs x)) (wait_more k owns w)
      ∙ lessened_more k runs (waited (suc k) owns w)
      (subst (λ (left : List Stmt). CanWork (suc (suc k)) runs left) (sym (left_waited (suc k) owns w runs)) can)
