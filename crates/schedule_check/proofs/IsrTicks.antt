-- The ticks of time-triggered routines, summed by number.
use Rattle.std.proofs.Common.{ℕ, zero, suc, ◌≡◌, ◌<◌, ◌≤◌, ◌+◌, ◌-◌, List, [], Bool, true, false, Option, None, Some, refl, ap, sym, ◌∙◌, eqb, cond, arith, length, ⊎_elim, get_or}
use Rattle.std.specs.Prelude.{◌==◌, sum_by, if◌then◌else◌}
use Rattle.std.specs.List.{list_any, range_with_len}
use Rattle.std.proofs.lemmas.List.{get_or_past, length-set, length-replicate}
use Rattle.std.proofs.lemmas.List.FromFn.{length-range_with_len, get_or-range_with_len}
use Rattle.std.proofs.lemmas.List.Sums.{sum_by-le-sum_by}
use Rattle.std.proofs.lemmas.Bool.{cond_both, cases_lt, eq-eqb, false≢true}
use Rattle.tt_base.specs.declared.event.Event.{Event}
use Rattle.tt_base.specs.declared.number.IsrNo.{IsrNo}
use Rattle.task_lang.specs.declared.syntax.Stmt.{Stmt}
use Rattle.tt_world.specs.declared.config.Enable.{Enable as EnableRow}
use Rattle.tt_world.specs.declared.config.ConfigParts.{ConfigParts}
use Rattle.tt_world.specs.declared.script.ScriptParts.{ScriptParts}
use Rattle.tt_world.specs.declared.world.Runner.{Runner}
use Rattle.tt_world.specs.declared.world.Runner.TheVariants as runner
use Rattle.tt_world.specs.World.{World, Source, IsrSource, OisrSource}
use Rattle.tt_world.specs.Rows.{offset_of, mode_of, enables_at, entry_at, routine_of}
use Rattle.tt_world.specs.Moved.{is_over}
use Rattle.tt_world.specs.Correction.{is_length}
use Rattle.tt_world.specs.Monitoring.{monitored, is_at, is_at_end}
use Rattle.tt_world.specs.Rounds.{head, latch, next_round, round_end}
use Rattle.tt_world.specs.Gates.{enable, enables, arrived, arrival, arrivals, is_accepted, acceptance, acceptances, sources, arrivals_of, is_held}
use Rattle.tt_world.specs.Opening.{checks, activated, activation, opening}
use Rattle.tt_world.specs.Runners.{is_done, leaving, runner_of}
use Rattle.tt_world.specs.Schedule.{world_at, runner_if, runner_at, ticks_of}
use Rattle.schedule_check.specs.DeadlineLaws.{is_isr}
use Rattle.tt_world.proofs.Parts.{OpeningKeeps, Alone, Anything, Leads, followed_leads, chain_each, GoesOnBefore, kept_at, instant_leads, opening_leads, led_on}
use Rattle.tt_world.proofs.Keeps.{Holds, monitored_holds, StepKeeps, step_holds}
use Rattle.tt_world.proofs.WhoRuns.{isr_runs, highest_undone}
use Rattle.tt_world.proofs.WhoRuns.{is_any_isr}
use Rattle.schedule_check.proofs.TaskParts.{sum_by-le_at}

-- ---- what is left of each routine is kept in a list of one length

module _ (c : ConfigParts) (s : ScriptParts) where
  Sized : World → Type 0
  Sized w = length w.isrs ≡ length c.isrs

  latch_sized : Leads (Alone Sized) (Alone Sized) Anything (latch c)
  unfolding latch Sized
  latch_sized w es p = cond_both (eqb (offset_of w) (c.round - c.adjust)) _ _ (Holds Sized es) (λ _. p) (λ _. p)

  next_round_sized : Leads (Alone Sized) (Alone Sized) Anything (next_round s)
  unfolding next_round Sized
  next_round_sized w es p = cond_both (eqb w.number s.rounds) _ _ (Holds Sized es) (λ _. tt) (λ _. p)

  round_end_sized : Leads (Alone Sized) (Alone Sized) Anything (round_end c s)
  unfolding round_end
  round_end_sized w es p =
      cond_both (is_length w.latched (offset_of w)) _ _ (Holds Sized es)
      (λ _. followed_leads (Alone Sized) (Alone Sized) Anything es (monitored c (is_at_end (offset_of w)) w)
      (next_round s) (monitored_holds Sized c _ w es (λ _. p)) next_round_sized)
      (λ _. p)

  enable_sized : (row : EnableRow) → Leads (Alone Sized) (Alone Sized) Anything (enable row)
  unfolding enable Sized
  enable_sized row w es p = p

  arrived_sized : (held : Bool) (source : Source) (w : World) (es : List Event) → Sized w
      → Holds Sized es (arrived held source w)
  unfolding Sized
  arrived_sized true source w es p = p
  arrived_sized false (IsrSource isr) w es p = p
  arrived_sized false (OisrSource oisr) w es p = p

  arrival_sized : (source : Source) → Leads (Alone Sized) (Alone Sized) Anything (arrival s source)
  unfolding arrival
  arrival_sized source w es p =
      cond_both (list_any (λ (tick : ℕ). tick == w.tick) (arrivals_of s source)) _ _ (Holds Sized es)
      (λ _. arrived_sized (is_held w source) source w es p) (λ _. p)

  acceptance_sized : (source : Source) → Leads (Alone Sized) (Alone Sized) Anything (acceptance c source)
  unfolding acceptance Sized
  acceptance_sized (IsrSource isr) w es p =
      cond_both (is_accepted w (IsrSource isr)) _ _ (Holds Sized es)
      (λ _. length-set w.isrs isr.0 (routine_of c (IsrSource isr)) ∙ p) (λ _. p)
  acceptance_sized (OisrSource oisr) w es p =
      cond_both (is_accepted w (OisrSource oisr)) _ _ (Holds Sized es) (λ _. p) (λ _. p)

  activated_sized : (entry : Option ℕ) (w : World) (es : List Event) → Sized w → Holds Sized es (activated c entry w)
  unfolding Sized
  activated_sized None w es p = p
  activated_sized (Some entry) w es p = p

  opening_sized : OpeningKeeps c s (λ _. Alone Sized) Anything
  unfolding head checks enables arrivals acceptances activation Sized
  opening_sized = record {
    head_is = λ w es _ p. p;
    latch_is = latch_sized;
    round_end_is = round_end_sized;
    checks_are = λ w es p. monitored_holds Sized c (is_at (offset_of w)) w es (λ _. p);
    enables_are = λ w es p. chain_each (Alone Sized) Anything enable
        (enables_at (offset_of w) (mode_of c w).enables) enable_sized w es p;
    arrivals_are = chain_each (Alone Sized) Anything (arrival s) (sources c) arrival_sized;
    acceptances_are = chain_each (Alone Sized) Anything (acceptance c) (sources c) acceptance_sized;
    activation_is = λ w es p. activated_sized (entry_at (offset_of w) (mode_of c w).activations) w es p;
  }

  left_sized : (w : World) (r : Runner) (after : List Stmt) → Sized w → Sized (leaving w r after)
  unfolding Sized
  left_sized w (runner.Isr isr) after p = length-set w.isrs isr.0 after ∙ p
  left_sized w (runner.Job place) after p = p
  left_sized w (runner.Oisr oisr) after p = p
  left_sized w (runner.Osek task) after p = p
  left_sized w runner.Nobody after p = p

  step_sized : StepKeeps c s Sized Sized Sized
  unfolding Sized
  step_sized = record {
    free = λ w _ _ _ _ _ p. p;
    synced = λ w _ p. p;
    left = λ w after p _. left_sized w (runner_of c w) after p;
    over = λ w _ p. p;
  }

  first_sized : Sized (world_at c s 0)
  unfolding Sized world_at
  first_sized = length-replicate {A = List Stmt} (length c.isrs) []

  sized_at : (n : ℕ) → GoesOnBefore c s n → Sized (world_at c s n)
  sized_at = kept_at c s Sized first_sized
      (λ w es p. instant_leads c s (λ _. Alone Sized) Anything opening_sized (Alone Sized)
      (step_holds c s Sized Sized Sized step_sized) w es p)

  -- a routine that runs is one of the configuration's
  runs_within : (w : World) → Sized w → (j : IsrNo) → runner_of c w ≡ runner.Isr j → j.0 < length c.isrs
  unfolding Sized
  runs_within w p j e =
      let undone = highest_undone _ w.isrs j.0 (isr_runs c w j e) in
      ⊎_elim (λ (l : j.0 < length w.isrs). omega (arith, p))
      (λ (g : length w.isrs ≤ j.0). absurd (false≢true (sym undone ∙ ap is_done (get_or_past w.isrs j.0 [] g))))
      (cases_lt j.0 (length w.isrs))

  opened_sized : (n : ℕ) → GoesOnBefore c s n → is_over (opening c s (world_at c s n)).end ≡ false
      → Sized (opening c s (world_at c s n)).world
  opened_sized n g on =
      led_on (Alone Sized) Anything [] (opening c s (world_at c s n)) on
      (opening_leads c s (λ _. Alone Sized) Anything opening_sized (world_at c s n) [] (sized_at n g))

  -- after an opening at which the run goes on
  pub isrs_opened : (n : ℕ) → GoesOnBefore c s n → is_over (opening c s (world_at c s n)).end ≡ false
      → length (opening c s (world_at c s n)).world.isrs ≡ length c.isrs
  unfolding Sized
  isrs_opened n g on = opened_sized n g on

  opening_within : (n : ℕ) → GoesOnBefore c s n → (over : Bool) → is_over (opening c s (world_at c s n)).end ≡ over
      → (j : IsrNo) → runner_if over (runner_of c (opening c s (world_at c s n)).world) ≡ runner.Isr j
      → j.0 < length c.isrs
  opening_within n g true o j e = cc
  opening_within n g false o j e = runs_within (opening c s (world_at c s n)).world (opened_sized n g o) j e

  runner_within : (n : ℕ) → GoesOnBefore c s n → (j : IsrNo) → runner_at c s n ≡ runner.Isr j → j.0 < length c.isrs
  unfolding runner_at
  runner_within n g j e = opening_within n g _ refl j e

  -- ---- the sum

  sum_none : (f : ℕ → ℕ) (n : ℕ) → sum_by f (range_with_len 0 n) + 0 ≤ sum_by (λ (x : ℕ). f x + 0) (range_with_len 0 n)
  sum_none f n = let l = sum_by-le-sum_by f (λ (x : ℕ). f x + 0) (range_with_len 0 n) (λ x. omega arith) in omega arith

  one_number : (f : ℕ → ℕ) (n : ℕ) (r : Runner) → ((j : IsrNo) → r ≡ runner.Isr j → j.0 < n)
      → sum_by f (range_with_len 0 n) + (if is_any_isr r then 1 else 0) ≤ sum_by
      (λ (x : ℕ). f x + (if is_isr x r then 1 else 0)) (range_with_len 0 n)
  one_number f n (runner.Isr j) h =
      let l = h j refl in
      let m = length-range_with_len 0 n in
      let z : 0 + j.0 ≡ j.0 = omega arith in
      let k : get_or (range_with_len 0 n) j.0 0 ≡ j.0 = get_or-range_with_len 0 n j.0 0 l ∙ z in
      let b : j.0 == get_or (range_with_len 0 n) j.0 0 ≡ true =
      eq-eqb j.0 (get_or (range_with_len 0 n) j.0 0) (sym k) in
      let one : cond {A = ℕ} (j.0 == get_or (range_with_len 0 n) j.0 0) 1 0 ≡ 1 =
      ap (λ (x : Bool). cond {A = ℕ} x 1 0) b in
      sum_by-le_at f (λ (x : ℕ). f x + (if is_isr x (runner.Isr j) then 1 else 0)) (range_with_len 0 n) j.0 1 0
      (omega arith) (λ (x : ℕ). omega arith) (omega arith)
  one_number f n (runner.Job p) h = sum_none f n
  one_number f n (runner.Oisr p) h = sum_none f n
  one_number f n (runner.Osek p) h = sum_none f n
  one_number f n runner.Nobody h = sum_none f n

  -- the ticks of time-triggered routines are those of each number
  pub ticks_by_number : (m k : ℕ) → GoesOnBefore c s (m + k)
      → ticks_of is_any_isr c s m k ≤ sum_by (λ (isr : ℕ). ticks_of (is_isr isr) c s m k)
      (range_with_len 0 (length c.isrs))
  unfolding ticks_of
  ticks_by_number m zero g = omega arith
  ticks_by_number m (suc k) g =
      let before = ticks_by_number m k (λ j l. g j (omega arith)) in
      let one = one_number (λ (isr : ℕ). ticks_of (is_isr isr) c s m k) (length c.isrs) (runner_at c s (m + k))
      (λ j e. runner_within (m + k) (λ i l. g i (omega arith)) j e) in
      omega arith
