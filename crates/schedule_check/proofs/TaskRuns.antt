-- At each instant of a run: who took the ticks since the offset of an unfinished activation.
use Rattle.std.proofs.Common.{ℕ, ◌≡◌, ◌≤◌, ◌+◌, List, [], ◌++◌, Bool, false, refl, ap, subst, arith}
use Rattle.tt_base.specs.declared.event.Event.{Event}
use Rattle.tt_world.specs.declared.config.ConfigParts.{ConfigParts}
use Rattle.tt_world.specs.declared.script.ScriptParts.{ScriptParts}
use Rattle.tt_world.specs.World.{World}
use Rattle.tt_world.specs.ConfigRules.{IsConfig}
use Rattle.tt_world.specs.Moved.{is_over}
use Rattle.tt_world.specs.Runners.{runner_of}
use Rattle.tt_world.specs.Opening.{opening}
use Rattle.tt_world.specs.Step.{step}
use Rattle.tt_world.specs.Schedule.{runner_if, runner_at, instant, world_at}
use Rattle.schedule_check.specs.Kept.{KeepsBounds}
use Rattle.tt_world.proofs.Parts.{Alone, Anything, LeadsTo, GoesOnBefore, leads_by, led_on, followed_at, kept_from}
use Rattle.task_lang.specs.declared.syntax.Stmt.{Stmt}
use Rattle.tt_world.specs.declared.world.Runner.{Runner}
use Rattle.tt_world.specs.declared.world.Runner.TheVariants as runner
use Rattle.tt_world.specs.Runners.{leaving}
use Rattle.tt_world.proofs.Keeps.{Holds, StepKeeps, step_holds}
use Rattle.schedule_check.proofs.TaskAccounts.{Tasks, step_tasks}
use Rattle.schedule_check.proofs.TaskParts.{opening_tasks}

-- before the opening of instant T
abbrev pub TasksAt : ConfigParts → ScriptParts → ℕ → World → Type 0
TasksAt c s T w = (w.tick ≡ T) × ((w.start ≤ T) × Tasks c s T T w)

module _ (c : ConfigParts) (s : ScriptParts) (rules : IsConfig c) (bounds : KeepsBounds c s) where
  ran : (T : ℕ) → is_over (opening c s (world_at c s T)).end ≡ false
      → runner_at c s T ≡ runner_of c (opening c s (world_at c s T)).world
  unfolding runner_at
  ran T e = ap (λ (b : Bool). runner_if b (runner_of c (opening c s (world_at c s T)).world)) e

  -- a tick does not change when the round began
  start_step : (T : ℕ) (w : World) (es : List Event) → w.start ≤ T → Holds (λ v. v.start ≤ T) es (step c s w)
  start_step T w es l = step_holds c s (λ v. v.start ≤ T) (λ v. v.start ≤ T) (λ v. v.start ≤ T) keeps w es l
    where
      kept : (T : ℕ) (w : World) (r : Runner) (after : List Stmt) → w.start ≤ T → (leaving w r after).start ≤ T
      kept T w (runner.Isr i) after l = l
      kept T w (runner.Job i) after l = l
      kept T w (runner.Oisr i) after l = l
      kept T w (runner.Osek i) after l = l
      kept T w runner.Nobody after l = l

      keeps : StepKeeps c s (λ v. v.start ≤ T) (λ v. v.start ≤ T) (λ v. v.start ≤ T)
      keeps = record {
        left = λ w after p _. kept T w (runner_of c w) after p;
        free = λ w _ _ _ _ _ p. p;
        synced =
            λ w _ p. p;
        over = λ w _ p. p;
      }

  pub instant_tasks : (T : ℕ) (es : List Event) → TasksAt c s T (world_at c s T)
      → Holds (TasksAt c s (T + 1)) es (instant c s (world_at c s T))
  unfolding instant
  instant_tasks T es p =
      let w = world_at c s T in
      let o = opening c s w in
      followed_at (Alone (TasksAt c s (T + 1))) Anything es o (step c s) (λ _. tt)
      (λ on.
      let q = led_on (Alone (λ v. (v.tick ≡ T) × ((v.start ≤ T) × Tasks c s (T + 1) T v))) Anything es o on
      (opening_tasks c s rules T w es p) in
      leads_by (Alone (TasksAt c s (T + 1))) Anything (es ++ o.events) (step c s o.world)
      (λ e.
      let r = led_on (Alone (λ v. (v.tick ≡ T + 1) × Tasks c s (T + 1) (T + 1) v)) Anything [] (step c s o.world) e
      (step_tasks c s rules bounds T (T + 1) (omega arith) o.world [] (ran T on, (q.0, q.1.1))) in
      let l = led_on (Alone (λ v. v.start ≤ T)) Anything [] (step c s o.world) e (start_step T o.world [] q.1.0) in
      (r.0, (omega arith, r.1)))
      (λ _. tt))

  first_tasks : TasksAt c s 0 (world_at c s 0)
  unfolding world_at
  first_tasks = (refl, (omega arith, record { numbers = λ place. refl; each = λ place l u. absurd (omega arith) }))

  pub tasks_at : (n : ℕ) → GoesOnBefore c s n → TasksAt c s n (world_at c s n)
  tasks_at n g =
      let z : 0 + n ≡ n = omega arith in
      subst (λ (j : ℕ). TasksAt c s j (world_at c s j)) z
      (kept_from c s (λ k. Alone (TasksAt c s (0 + k))) Anything 0 (λ k _ p. each k p) first_tasks n
      (λ k l. g k (omega arith)))
    where
      each : (k : ℕ) → TasksAt c s (0 + k) (world_at c s (0 + k))
          → LeadsTo (Alone (TasksAt c s (0 + (k + 1)))) Anything [] (instant c s (world_at c s (0 + k)))
      each k p = let z : (0 + k) + 1 ≡ 0 + (k + 1) = omega arith in
          subst (λ (j : ℕ). LeadsTo (Alone (TasksAt c s j)) Anything [] (instant c s (world_at c s (0 + k)))) z
          (instant_tasks (0 + k) [] p)
