-- The ticks since the offset of an unfinished activation, and who took them: kept by a tick.
use Rattle.std.proofs.Common.{ℕ, suc, ◌≡◌, ◌≢◌, ◌<◌, ◌≤◌, ◌+◌, ◌-◌, List, [], Bool, false, refl, ap, sym, ◌∙◌, subst, arith, length, drop, ◌⊎◌, ⊎_elim, get_or, set}
use Rattle.std.specs.Prelude.{sum_by, if◌then◌else◌}
use Rattle.std.proofs.lemmas.List.{drop-set-add, get_or-drop, length-drop}
use Rattle.std.proofs.lemmas.List.Sums.{sum_by-set}
use Rattle.std.proofs.lemmas.Bool.{cases_eq, false≢true}
use Rattle.tt_base.specs.declared.event.Event.{Event}
use Rattle.task_lang.specs.declared.syntax.Stmt.{Stmt}
use Rattle.task_lang.specs.Limits.{AreNumbersInRange}
use Rattle.task_lang.specs.Tick.{supply_of, state_of}
use Rattle.task_lang.specs.TickLaws.{KeepsMost}
use Rattle.task_lang.specs.Worst.{worst_in}
use Rattle.task_lang.proofs.Ticking.{lowers_worst, keeps_numbers, keeps_most}
use Rattle.tt_world.specs.declared.config.ConfigParts.{ConfigParts}
use Rattle.tt_world.specs.declared.config.ModeDef.{ModeDef}
use Rattle.tt_world.specs.declared.script.ScriptParts.{ScriptParts}
use Rattle.tt_world.specs.declared.world.Runner.{Runner}
use Rattle.tt_world.specs.declared.world.Runner.TheVariants as runner
use Rattle.tt_world.specs.World.{World, Job}
use Rattle.tt_world.specs.ConfigRules.{IsConfig}
use Rattle.tt_world.specs.Rows.{mode_of, row_of}
use Rattle.tt_world.specs.Runners.{is_done, no_job, job_at, with_left, leaving, runner_of}
use Rattle.tt_world.specs.Step.{state_after, step}
use Rattle.tt_world.specs.Schedule.{runner_at, ticks_of}
use Rattle.schedule_check.specs.Demand.{tasks_demand}
use Rattle.schedule_check.specs.Kept.{KeepsBounds}
use Rattle.schedule_check.specs.DeadlineLaws.{is_task}
use Rattle.tt_world.proofs.Keeps.{IsLeftAfter, IsOsek, StepKeeps, step_holds, Holds}
use Rattle.tt_world.proofs.WhoRuns.{is_any_isr, Says, runner_says, last_found_at, none_found}
use Rattle.tt_world.proofs.JobLists.{at_set, at_other, place_of_set, entry_of_set, undone_before}

-- ---- what is owed

-- what the activation at a place and the later ones still owe
abbrev pub owed_from : ConfigParts → World → ℕ → ℕ
owed_from c w place = sum_by (λ (job : Job). worst_in c.demands job.left) (drop place w.jobs)

-- what is left of one activation gets less: so does what it and those before it owe
pub owed_less : (c : ConfigParts) (w : World) (p q : ℕ) (left : List Stmt) → p ≤ q → q < length w.jobs
    → worst_in c.demands left + 1 ≤ worst_in c.demands (job_at w.jobs q).left
    → owed_from c (leaving w (runner.Job q) left) p + 1 ≤ owed_from c w p
owed_less c w p q left le within less =
    let xs = w.jobs in
    let y : Job = record { entry = (job_at xs q).entry; left = left } in
    let f : Job → ℕ = λ (job : Job). worst_in c.demands job.left in
    let qi : q ≡ p + (q - p) = omega arith in
    let cut : drop p (set xs q y) ≡ set (drop p xs) (q - p) y = ap (λ k. drop p (set xs k y)) qi
    ∙ drop-set-add p xs (q - p) y in
    let got : get_or (drop p xs) (q - p) no_job ≡ get_or xs q no_job = get_or-drop p xs (q - p) no_job
    ∙ ap (λ k. get_or xs k no_job) (sym qi) in
    let sums = sum_by-set f (drop p xs) (q - p) y no_job (let d = length-drop p xs in omega arith) in
    let f1 : sum_by f (drop p (set xs q y)) ≡ sum_by f (set (drop p xs) (q - p) y) = ap (sum_by f) cut in
    let f2 : f (get_or (drop p xs) (q - p) no_job) ≡ f (get_or xs q no_job) = ap f got in
    omega arith

-- ---- the account

-- the ticks, from one tick up to below T, of the runners that pass a test
abbrev pub taken : (Runner → Bool) → ConfigParts → ScriptParts → (from T : ℕ) → ℕ
taken test c s from T = ticks_of test c s from (T - from)

taken_next : (test : Runner → Bool) (c : ConfigParts) (s : ScriptParts) (from T : ℕ) → from ≤ T
    → taken test c s from (T + 1) ≡ taken test c s from T + (if test (runner_at c s T) then 1 else 0)
unfolding ticks_of
taken_next test c s from T l =
    let a : (T + 1) - from ≡ suc (T - from) = omega arith in
    let b : from + (T - from) ≡ T = omega arith in
    ap (λ (k : ℕ). ticks_of test c s from k) a
    ∙ ap (λ (n : ℕ). ticks_of test c s from (T - from) + (if test (runner_at c s n) then 1 else 0)) b

-- the account of an unfinished activation of a round that began at `start`, where the activations before N and the
-- ticks before T have happened
pub record Owed (c : ConfigParts) (s : ScriptParts) (N T start : ℕ) (mode : ModeDef) (entry owed : ℕ) : Type 0 where
  pub row : entry < length mode.activations
  pub begun : start + (row_of mode entry).offset < N
  pub split : T - (start + (row_of mode entry).offset) ≡ taken is_task c s
      (start + (row_of mode entry).offset) T + taken is_any_isr c s (start + (row_of mode entry).offset) T
  pub tasks : taken is_task c s (start + (row_of mode entry).offset) T + owed ≤ tasks_demand c mode
      (row_of mode entry).offset (N - start)

pub record Tasks (c : ConfigParts) (s : ScriptParts) (N T : ℕ) (w : World) : Type 0 where
  pub numbers : (place : ℕ) → AreNumbersInRange (job_at w.jobs place).left
  pub each : (place : ℕ) → place < length w.jobs → is_done (job_at w.jobs place).left ≡ false
      → Owed c s N T w.start (mode_of c w) (job_at w.jobs place).entry (owed_from c w place)

-- ---- a tick

-- one more tick was taken by an activation or by a time-triggered routine, and what is owed got less by it
owed_tick : (c : ConfigParts) (s : ScriptParts) (N T start : ℕ) (mode : ModeDef) (entry owed less : ℕ) → N ≤ T + 1
    → ((if is_task (runner_at c s T) then 1 else 0) + (if is_any_isr (runner_at c s T) then 1 else 0) ≡ 1)
    → less + (if is_task (runner_at c s T) then 1 else 0) ≤ owed
    → Owed c s N T start mode entry owed → Owed c s N (T + 1) start mode entry less
owed_tick c s N T start mode entry owed less n one l o =
    let from = start + (row_of mode entry).offset in
    let begun = o.begun in
    let a = taken_next is_task c s from T (omega arith) in
    let b = taken_next is_any_isr c s from T (omega arith) in
    let split = o.split in
    let tasks = o.tasks in
    record { row = o.row; begun = o.begun; split = omega arith; tasks = omega arith }

module _ (c : ConfigParts) (s : ScriptParts) (rules : IsConfig c) (bounds : KeepsBounds c s) (T : ℕ) where
  keeps : KeepsMost (supply_of c.demands s.values)
  keeps = keeps_most (supply_of c.demands s.values) rules.usuals bounds.values

  undone_some : (left : List Stmt) → is_done left ≡ false → left ≢ []
  undone_some left e f = false≢true (sym e ∙ ap is_done f)

  -- what is left of an activation that runs
  less : (w : World) (q : ℕ) (after : List Stmt) → is_done (job_at w.jobs q).left ≡ false
      → AreNumbersInRange (job_at w.jobs q).left → IsLeftAfter c s w (runner.Job q) after
      → AreNumbersInRange after × (worst_in c.demands after + 1 ≤ worst_in c.demands (job_at w.jobs q).left)
  less w q after u numbers l =
      let old = (job_at w.jobs q).left in
      let state = state_of old w.vars w.cursors [] in
      let supply = supply_of c.demands s.values in
      let lower = lowers_worst supply state keeps numbers (undone_some old u) in
      let range = keeps_numbers supply state keeps rules.mosts numbers in
      ⊎_elim
      (λ (e : after ≡ (state_after c s w old).left). (
        subst AreNumbersInRange (sym e) range,
        subst
            (λ (x : List Stmt). worst_in c.demands x + 1 ≤ worst_in c.demands old) (sym e) lower,
      ))
      (λ (o : (after ≡ []) ⊎ IsOsek (runner.Job q)).
      ⊎_elim
      (λ (e : after ≡ []). (
        subst AreNumbersInRange (sym e) refl,
        subst
            (λ (x : List Stmt). worst_in c.demands x + 1 ≤ worst_in c.demands old) (sym e) (omega arith),
      ))
      (λ (o : IsOsek (runner.Job q)). cc) o)
      l

  place_numbers : (xs : List Job) (q place : ℕ) (after : List Stmt) → q < length xs → AreNumbersInRange after
      → AreNumbersInRange (job_at xs place).left → AreNumbersInRange (job_at (with_left xs q after) place).left
  place_numbers xs q place after within a b =
      ⊎_elim
      (λ (e : place ≡ q). rw (e, at_set xs q after within) a)
      (λ (ne : place ≢ q). rw (at_other xs q place after ne) b)
      (cases_eq place q)

  module _ (N : ℕ) (n : N ≤ T + 1) where
    Old : World → Type 0
    Old w = (runner_at c s T ≡ runner_of c w) × ((w.tick ≡ T) × Tasks c s N T w)

    New : ℕ → World → Type 0
    New at w = (w.tick ≡ at) × Tasks c s N (T + 1) w

    one_isr : (w : World) → Says w.jobs (runner_of c w) → (r : Runner) → runner_of c w ≡ r → (after : List Stmt)
        → IsLeftAfter c s w r after → Tasks c s N T w → runner_at c s T ≡ r → Tasks c s N (T + 1) (leaving w r after)
    one_isr w said (runner.Isr j) e after l t r =
        let one : ◌≡◌ {A = ℕ} ((if is_task (runner_at c s T) then 1 else 0) +
        (if is_any_isr (runner_at c s T) then 1 else 0)) 1 =
        ap (λ (x : Runner). (if is_task x then 1 else 0) + (if is_any_isr x then 1 else 0)) r in
        let none : ◌≡◌ {A = ℕ} (if is_task (runner_at c s T) then 1 else 0) 0 =
        ap {B = ℕ} (λ (x : Runner). if is_task x then 1 else 0) r in
        record {
          numbers = t.numbers;
          each = λ place i u. owed_tick c s N T w.start (mode_of c w) _ (owed_from c w place)
              (owed_from c w place) n one (omega arith) (t.each place i u);
        }
    one_isr w said (runner.Job q) e after l t r =
        let one : ◌≡◌ {A = ℕ} ((if is_task (runner_at c s T) then 1 else 0) +
        (if is_any_isr (runner_at c s T) then 1 else 0)) 1 =
        ap (λ (x : Runner). (if is_task x then 1 else 0) + (if is_any_isr x then 1 else 0)) r in
        let some : ◌≡◌ {A = ℕ} (if is_task (runner_at c s T) then 1 else 0) 1 =
        ap {B = ℕ} (λ (x : Runner). if is_task x then 1 else 0) r in
        let found = last_found_at w.jobs q (subst (Says w.jobs) e said) in
        let zero_less : q - 0 ≡ q = omega arith in
        let within : q < length w.jobs = let x = found.within in omega arith in
        let undone : is_done (job_at w.jobs q).left ≡ false = rw zero_less at found.undone in
        let h = less w q after undone (t.numbers q) l in
        record {
          numbers = λ place. place_numbers w.jobs q place after within h.0 (t.numbers place);
          each = λ place i u.
              let here : place < length w.jobs = place_of_set w.jobs q after place i in
              let before = undone_before w.jobs q place after (λ _. undone) i u in
              let late = found.after place here before in
              let owed = owed_less c w place q after (omega arith) within h.1 in
              subst (λ (entry : ℕ). Owed c s N (T + 1) w.start (mode_of c w) entry
              (owed_from c (leaving w (runner.Job q) after) place)) (sym (entry_of_set w.jobs q after place i))
              (owed_tick c s N T w.start (mode_of c w) _ (owed_from c w place)
              (owed_from c (leaving w (runner.Job q) after) place) n one (omega arith) (t.each place here before));
        }
    one_isr w said (runner.Oisr o) e after l t r =
        record {
          numbers = t.numbers;
          each =
              λ place i u. absurd (none_found w.jobs (subst (Says w.jobs) e said) place i u);
        }
    one_isr w said (runner.Osek o) e after l t r =
        record {
          numbers = t.numbers;
          each =
              λ place i u. absurd (none_found w.jobs (subst (Says w.jobs) e said) place i u);
        }
    one_isr w said runner.Nobody e after l t r =
        record {
          numbers = t.numbers;
          each =
              λ place i u. absurd (none_found w.jobs (subst (Says w.jobs) e said) place i u);
        }

    step_keeps : StepKeeps c s Old (New T) (New (T + 1))
    unfolding Old New
    step_keeps = record {
      left =
          λ w after p l. (
            leaving_tick w (runner_of c w) after p.1.0,
            one_isr w (runner_says c w)
                (runner_of c w) refl after l p.1.1 p.0,
          );
      free = λ w vars cursors wanted used oseks p. (p.0, record { numbers = p.1.numbers; each = p.1.each });
      synced = λ w global p. (p.0, record { numbers = p.1.numbers; each = p.1.each });
      over = λ w last p. (omega (arith, p.0), record { numbers = p.1.numbers; each = p.1.each });
    }
      where
        leaving_tick : (w : World) (r : Runner) (after : List Stmt) → w.tick ≡ T → (leaving w r after).tick ≡ T
        leaving_tick w (runner.Isr i) after e = e
        leaving_tick w (runner.Job i) after e = e
        leaving_tick w (runner.Oisr i) after e = e
        leaving_tick w (runner.Osek i) after e = e
        leaving_tick w runner.Nobody after e = e

    -- the account is kept by a tick
    pub step_tasks : (w : World) (es : List Event)
        → (runner_at c s T ≡ runner_of c w) × ((w.tick ≡ T) × Tasks c s N T w)
        → Holds (λ v. (v.tick ≡ T + 1) × Tasks c s N (T + 1) v) es (step c s w)
    unfolding Old New
    step_tasks w es p = step_holds c s Old (New T) (New (T + 1)) step_keeps w es p
