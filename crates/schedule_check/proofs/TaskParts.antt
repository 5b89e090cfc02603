-- The account of the unfinished activations at each part of an instant.
use Rattle.std.proofs.Common.{ℕ, zero, suc, ◌≡◌, ◌<◌, ◌≤◌, ◌+◌, ◌-◌, List, [], ◌∷◌, ◌++◌, false, Option, None, Some, refl, ap, sym, ◌∙◌, eqb, cond, arith, length, drop, ⊎_elim, get_or}
use Rattle.std.specs.Prelude.{sum_by}
use Rattle.std.proofs.Math.ListN.{get_or-append}
use Rattle.std.proofs.Math.Seq.{get_or-append_seam}
use Rattle.std.proofs.lemmas.List.{drop-append-le, drop_all, get_or_past, length-append}
use Rattle.std.proofs.lemmas.List.Sums.{sum_by-cons, sum_by-le-sum_by, sum_by_push}
use Rattle.std.proofs.lemmas.List.Elements.{All-get_or}
use Rattle.std.proofs.lemmas.Bool.{cond_both, cases_lt}
use Rattle.std.proofs.lemmas.Bool.Decides.{nat_tests}
use Rattle.tt_base.specs.declared.event.Event.{Event}
use Rattle.tt_base.specs.declared.number.TaskNo.{TaskNo}
use Rattle.task_lang.specs.Limits.{AreNumbersInRange}
use Rattle.task_lang.specs.Worst.{worst_in}
use Rattle.tt_world.specs.declared.config.Activation.{Activation}
use Rattle.tt_world.specs.declared.config.ConfigParts.{ConfigParts}
use Rattle.tt_world.specs.declared.config.ModeDef.{ModeDef}
use Rattle.tt_world.specs.declared.script.ScriptParts.{ScriptParts}
use Rattle.tt_world.specs.World.{World, Job}
use Rattle.tt_world.specs.ConfigRules.{IsConfig, IsTask}
use Rattle.tt_world.specs.Rows.{offset_of, mode_of, row_of, entry_at, body_of, no_row, no_task}
use Rattle.tt_world.specs.Runners.{is_done, no_job, job_at}
use Rattle.tt_world.specs.Correction.{is_length}
use Rattle.tt_world.specs.Monitoring.{monitored, is_at, is_at_end}
use Rattle.tt_world.specs.Rounds.{head, latch, next_round, round_end}
use Rattle.tt_world.specs.Opening.{checks, activated, activation, opening}
use Rattle.tt_world.specs.Schedule.{ticks_of}
use Rattle.schedule_check.specs.Demand.{is_within, task_budget, tasks_demand}
use Rattle.schedule_check.proofs.TaskAccounts.{owed_from}
use Rattle.tt_world.proofs.Parts.{OfRun, Phase, Activated, OpeningKeeps, Alone, Anything, Leads, followed_leads, opening_leads}
use Rattle.tt_world.proofs.Keeps.{Holds, monitored_holds, IgnoresGates, enables_hold, arrivals_hold, acceptances_hold}
use Rattle.tt_world.proofs.TableRows.{row_found}
use Rattle.schedule_check.proofs.TaskAccounts.{Owed, Tasks}

-- ---- the demand of tasks up to the next offset

within_more : (v from to x : ℕ) → cond {A = ℕ} (is_within from to x) v 0 ≤ cond {A = ℕ} (is_within from (to + 1) x) v 0
within_more v from to x = grind (arith, nat_tests)

within_here : (v from to x : ℕ) → x ≡ to → from ≤ to
    → cond {A = ℕ} (is_within from to x) v 0 + v ≤ cond {A = ℕ} (is_within from (to + 1) x) v 0
within_here v from to x e l = grind (arith, nat_tests)

-- a sum of terms that are no larger, and smaller by this at one place
pub sum_by-le_at : {X : Type 0} (f g : X → ℕ) (xs : List X) (i k : ℕ) (d : X) → i < length xs → ((x : X) → f x ≤ g x)
    → f (get_or xs i d) + k ≤ g (get_or xs i d) → sum_by f xs + k ≤ sum_by g xs
sum_by-le_at f g [] i k d l h e = absurd (omega arith)
sum_by-le_at f g (x ∷ xs) zero k d l h e =
    let p = sum_by-cons f x xs in let q = sum_by-cons g x xs in let r = sum_by-le-sum_by f g xs h in omega arith
sum_by-le_at f g (x ∷ xs) (suc i) k d l h e =
    let p = sum_by-cons f x xs in let q = sum_by-cons g x xs in
    let r = sum_by-le_at f g xs i k d (omega arith) h e in let m = h x in omega arith

demand_more : (c : ConfigParts) (mode : ModeDef) (from to : ℕ)
    → tasks_demand c mode from to ≤ tasks_demand c mode from (to + 1)
demand_more c mode from to = sum_by-le-sum_by _ _ mode.activations
    (λ (x : Activation). within_more (task_budget c x) from to x.offset)

demand_found : (c : ConfigParts) (mode : ModeDef) (from to n : ℕ) → from ≤ to → n < length mode.activations
    → (row_of mode n).offset ≡ to → tasks_demand c mode from to + task_budget c
    (row_of mode n) ≤ tasks_demand c mode from (to + 1)
demand_found c mode from to n l h e =
    sum_by-le_at (λ (x : Activation). cond {A = ℕ} (is_within from to x.offset) (task_budget c x) 0)
    (λ (x : Activation). cond {A = ℕ} (is_within from (to + 1) x.offset) (task_budget c x) 0) mode.activations n
    (task_budget c (row_of mode n)) no_row h
    (λ (x : Activation). within_more (task_budget c x) from to x.offset)
    (within_here (task_budget c (row_of mode n)) from to (row_of mode n).offset e l)

module _ (c : ConfigParts) (s : ScriptParts) (rules : IsConfig c) (T : ℕ) where
  -- what is known at tick T, where the activations before tick N have happened
  At : ℕ → World → Type 0
  At N w = (w.tick ≡ T) × ((w.start ≤ T) × Tasks c s N T w)

  at_tick : (w : World) → At T w → w.tick ≡ T
  unfolding At
  at_tick w p = p.0

  -- ---- a new activation

  body_worst : (task : TaskNo) → worst_in c.demands (body_of c task) ≡ (get_or c.tasks task.0 no_task).budget
  body_worst task =
      ⊎_elim (λ (l : task.0 < length c.tasks). sym
      (All-get_or (IsTask c) c.tasks task.0 no_task l rules.tasks).routine.worst)
      (λ (g : length c.tasks ≤ task.0). rw (get_or_past c.tasks task.0 no_task g) refl)
      (cases_lt task.0 (length c.tasks))

  body_numbers : (task : TaskNo) → AreNumbersInRange (body_of c task)
  body_numbers task =
      ⊎_elim (λ (l : task.0 < length c.tasks).
      (All-get_or (IsTask c) c.tasks task.0 no_task l rules.tasks).routine.is_body.numbers)
      (λ (g : length c.tasks ≤ task.0). rw (get_or_past c.tasks task.0 no_task g) refl)
      (cases_lt task.0 (length c.tasks))

  not_activated : (w : World) → At T w → At (T + 1) w
  unfolding At
  not_activated w p =
      let l = p.1.0 in
      let z : (T + 1) - w.start ≡ (T - w.start) + 1 = omega arith in (
        p.0,
        (
          p.1.0,
          record {
            numbers = p.1.1.numbers;
            each = λ place i u.
                let o = p.1.1.each place i u in
                let begun = o.begun in
                let tasks = o.tasks in
                let more = demand_more c (mode_of c w) (row_of (mode_of c w) (job_at w.jobs place).entry).offset
                (T - w.start) in
                record { row = o.row; begun = omega arith; split = o.split; tasks = rw z (omega arith) };
          },
        ),
      )

  module _ (w : World) (entry : ℕ) (p : At T w) (within : entry < length (mode_of c w).activations)
      (here : (row_of (mode_of c w) entry).offset ≡ T - w.start) where
    abbrev row : Activation
    row = row_of (mode_of c w) entry

    abbrev y : Job
    y = record { entry = entry; left = body_of c row.task }

    abbrev v : World
    v = record w { jobs = w.jobs ++ y ∷ [] }

    abbrev f : Job → ℕ
    f job = worst_in c.demands job.left

    cut : (place : ℕ) → place ≤ length w.jobs
        → sum_by f (drop place (w.jobs ++ y ∷ [])) ≡ sum_by f (drop place w.jobs) + f y
    cut place l = ap (sum_by f) (drop-append-le place w.jobs (y ∷ []) l) ∙ sum_by_push f (drop place w.jobs) y

    z : w.start ≤ T → (T + 1) - w.start ≡ (T - w.start) + 1
    z l = omega arith

    old_place : (place : ℕ) → place < length w.jobs → is_done (job_at w.jobs place).left ≡ false
        → Owed c s (T + 1) T w.start (mode_of c w) (job_at w.jobs place).entry (owed_from c v place)
    unfolding At
    old_place place i u =
        let o = p.1.1.each place i u in
        let l = p.1.0 in
        let begun = o.begun in
        let tasks = o.tasks in
        let from = (row_of (mode_of c w) (job_at w.jobs place).entry).offset in
        let more = demand_found c (mode_of c w) from (T - w.start) entry (omega arith) within here in
        let sum = cut place (omega arith) in
        let worst = body_worst row.task in
        record { row = o.row; begun = omega arith; split = o.split; tasks = rw (z l) (omega arith) }

    new_place : Owed c s (T + 1) T w.start (mode_of c w) entry (owed_from c v (length w.jobs))
    unfolding At ticks_of
    new_place =
        let l = p.1.0 in
        let from : w.start + row.offset ≡ T = omega (arith, here) in
        let none : T - (w.start + row.offset) ≡ 0 = omega arith in
        let more = demand_found c (mode_of c w) row.offset (T - w.start) entry (omega (arith, here)) within here in
        let sum = cut (length w.jobs) (omega arith) in
        let empty : sum_by f (drop (length w.jobs) w.jobs) ≡ 0 =
        ap (sum_by f) (drop_all (length w.jobs) w.jobs (omega arith)) in
        let worst = body_worst row.task in
        record {
          row = within;
          begun = omega arith;
          split = rw none refl;
          tasks = rw (none, z l) (omega arith);
        }

    activated_tasks : At (T + 1) v
    unfolding At
    activated_tasks = (
      p.0,
      (
        p.1.0,
        record {
          numbers = λ place.
              ⊎_elim
              (λ (i : place < length w.jobs). rw (get_or-append w.jobs (y ∷ []) no_job place i) (p.1.1.numbers place))
              (λ (g : length w.jobs ≤ place).
              ⊎_elim
              (λ (i : place < length (w.jobs ++ y ∷ [])).
              let e : place ≡ length w.jobs = omega (arith, length-append w.jobs (y ∷ [])) in
              rw (e, get_or-append_seam w.jobs y [] no_job) (body_numbers row.task))
              (λ (k : length (w.jobs ++ y ∷ []) ≤ place). rw (get_or_past (w.jobs ++ y ∷ []) place no_job k) refl)
              (cases_lt place (length (w.jobs ++ y ∷ []))))
              (cases_lt place (length w.jobs));
          each = λ place i u.
              ⊎_elim
              (λ (l : place < length w.jobs).
              let same : get_or (w.jobs ++ y ∷ []) place no_job ≡ get_or w.jobs place no_job =
              get_or-append w.jobs (y ∷ []) no_job place l in
              rw same (old_place place l (rw same at u)))
              (λ (g : length w.jobs ≤ place).
              let e : place ≡ length w.jobs = omega (arith, length-append w.jobs (y ∷ [])) in
              rw (e, get_or-append_seam w.jobs y [] no_job) new_place)
              (cases_lt place (length w.jobs));
        },
      ),
    )

  -- ---- the other parts

  ignores : (N : ℕ) → IgnoresGates (At N)
  unfolding At
  ignores N w _ _ _ _ _ p = (p.0, (p.1.0, record { numbers = p.1.1.numbers; each = p.1.1.each }))

  latch_tasks : (N : ℕ) → Leads (Alone (At N)) (Alone (At N)) Anything (latch c)
  unfolding latch At
  latch_tasks N w es p =
      cond_both (eqb (offset_of w) (c.round - c.adjust)) _ _ (Holds (At N) es)
      (λ _. (p.0, (p.1.0, record { numbers = p.1.1.numbers; each = p.1.1.each }))) (λ _. p)

  next_round_tasks : (N : ℕ) → Leads (Alone (At N)) (Alone (At N)) Anything (next_round s)
  unfolding next_round At
  next_round_tasks N w es p =
      cond_both (eqb w.number s.rounds) _ _ (Holds (At N) es) (λ _. tt)
      (λ _. (
        p.0,
        (
          omega (arith, p.0),
          record {
            numbers = λ place. refl;
            each = λ place l u. absurd (omega arith);
          },
        ),
      ))

  round_end_tasks : (N : ℕ) → Leads (Alone (At N)) (Alone (At N)) Anything (round_end c s)
  unfolding round_end
  round_end_tasks N w es p =
      cond_both (is_length w.latched (offset_of w)) _ _ (Holds (At N) es)
      (λ _. followed_leads (Alone (At N)) (Alone (At N)) Anything es (monitored c (is_at_end (offset_of w)) w)
      (next_round s) (monitored_holds (At N) c _ w es (λ _. p)) (next_round_tasks N))
      (λ _. p)

  found_tasks : (found : Option ℕ) (w : World) (es : List Event)
      → entry_at (offset_of w) (mode_of c w).activations ≡ found → At T w → Holds (At (T + 1)) es (activated c found w)
  found_tasks None w es e p = not_activated w p
  found_tasks (Some entry) w es e p =
      let row = row_found (offset_of w) entry (mode_of c w) e in
      activated_tasks w entry p row.0 (row.1 ∙ ap (λ (tick : ℕ). tick - w.start) (at_tick w p))

  activation_tasks : Leads (Alone (At T)) (Alone (At (T + 1))) Anything (activation c)
  unfolding activation
  activation_tasks w es p = found_tasks _ w es refl p

  abbrev AtPhase : Phase → OfRun
  AtPhase Activated = Alone (At (T + 1))
  AtPhase phase = Alone (At T)

  opening_keeps : OpeningKeeps c s AtPhase Anything
  unfolding head checks
  opening_keeps = record {
    head_is = λ w es _ p. p;
    latch_is = latch_tasks T;
    round_end_is = round_end_tasks T;
    checks_are = λ w es p. monitored_holds (At T) c (is_at (offset_of w)) w es (λ _. p);
    enables_are = enables_hold (At T) (ignores T) c;
    arrivals_are = arrivals_hold (At T) (ignores T) c s;
    acceptances_are = acceptances_hold (At T) (ignores T) c;
    activation_is = activation_tasks;
  }

  -- the account is kept by an opening
  pub opening_tasks : (w : World) (es : List Event) → (w.tick ≡ T) × ((w.start ≤ T) × Tasks c s T T w)
      → Holds (λ v. (v.tick ≡ T) × ((v.start ≤ T) × Tasks c s (T + 1) T v)) es (opening c s w)
  unfolding At
  opening_tasks w es p = opening_leads c s AtPhase Anything opening_keeps w es p
