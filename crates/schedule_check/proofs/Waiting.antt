-- An unfinished activation has not reached its response end, and so not its deadline.
use Rattle.std.proofs.Common.{ℕ, zero, suc, ◌≡◌, ◌≢◌, ◌<◌, ◌≤◌, ◌+◌, ◌-◌, [], false, refl, ap, sym, ◌∙◌, subst, arith, length, ⊎_elim, get_or}
use Rattle.std.specs.Prelude.{sum_by, count_by}
use Rattle.std.specs.List.{range_with_len}
use Rattle.std.proofs.lemmas.List.{get_or_past}
use Rattle.std.proofs.lemmas.List.FromFn.{length-range_with_len, get_or-range_with_len}
use Rattle.std.proofs.lemmas.Bool.{cases_lt, false≢true}
use Rattle.task_lang.specs.Limits.{AreNumbersInRange}
use Rattle.task_lang.specs.Tick.{supply_of, state_of}
use Rattle.task_lang.specs.TickLaws.{KeepsMost}
use Rattle.task_lang.proofs.Ticking.{lowers_worst, keeps_most}
use Rattle.tt_world.specs.declared.config.ModeDef.{ModeDef}
use Rattle.tt_world.specs.declared.config.ConfigParts.{ConfigParts}
use Rattle.tt_world.specs.declared.script.ScriptParts.{ScriptParts}
use Rattle.tt_world.specs.World.{World}
use Rattle.tt_world.specs.ConfigRules.{IsConfig}
use Rattle.tt_world.specs.ScriptRules.{IsScript}
use Rattle.tt_world.specs.Rows.{no_mode, mode_at, mode_of, row_of}
use Rattle.tt_world.specs.Runners.{job_at, is_done}
use Rattle.tt_world.specs.Schedule.{instant, instant_at, world_at, events_between, ticks_of, last_instant}
use Rattle.schedule_check.specs.Demand.{isr_of, enables_in, isr_demand, isrs_demand, demand}
use Rattle.schedule_check.specs.Kept.{KeepsBounds}
use Rattle.schedule_check.specs.Responses.{EachResponds}
use Rattle.schedule_check.specs.DeadlineLaws.{is_isr, is_enable}
use Rattle.schedule_check.proofs.Growing.{routine_more}
use Rattle.schedule_check.proofs.Sums.{sum_le_at}
use Rattle.schedule_check.proofs.TaskAccounts.{owed_from}
use Rattle.tt_world.proofs.Parts.{Alone, Anything, GoesOnBefore, led_on}
use Rattle.tt_world.proofs.Ends.{are_bounded, last_is, goes_on_less}
use Rattle.schedule_check.proofs.IsrRuns.{isr_bounded}
use Rattle.tt_world.proofs.WhoRuns.{is_any_isr}
use Rattle.schedule_check.proofs.TaskAccounts.{taken, owed_less}
use Rattle.schedule_check.proofs.TaskRuns.{tasks_at}
use Rattle.tt_world.proofs.TableRows.{mode_rows, deadline_after}
use Rattle.schedule_check.proofs.Unfinished.{OfEntry, Each, SaidOfNew, instant_each}
use Rattle.schedule_check.proofs.Enabling.{enables_at_instant}
use Rattle.schedule_check.proofs.IsrTicks.{ticks_by_number}

-- ---- sums over numbers

sums_within : (f g : ℕ → ℕ) (n : ℕ) → ((x : ℕ) → x < n → f x ≤ g x)
    → sum_by f (range_with_len 0 n) ≤ sum_by g (range_with_len 0 n)
sums_within f g n h =
    let m = length-range_with_len 0 n in
    sum_le_at f g 0 (range_with_len 0 n)
    (λ i l. let z : 0 + i ≡ i = omega arith in let k : get_or (range_with_len 0 n) i 0 ≡ i =
    get_or-range_with_len 0 n i 0 (omega arith) ∙ z in rw k (h i (omega arith)))

-- ---- the join

-- at tick T, the demand up to each offset that has passed was more than the ticks up to it
abbrev pub Waits : ConfigParts → ℕ → OfEntry
Waits c T start mode entry =
    (t : ℕ) → (row_of mode entry).offset < t → start + t ≤ T
    → t - (row_of mode entry).offset < demand c mode (row_of mode entry).offset t

-- at tick T, the deadline is still to come
abbrev pub IsEarly : ConfigParts → ℕ → OfEntry
IsEarly c T start mode entry = T < start + (row_of mode entry).deadline

pub early_new : (c : ConfigParts) → IsConfig c → (T : ℕ) → SaidOfNew c (IsEarly c T) T
early_new c rules T start number entry l e = let d =
    deadline_after c (mode_at c number) entry (mode_rows c number rules) l in omega arith

module _ (c : ConfigParts) (s : ScriptParts) (rules : IsConfig c) (script : IsScript c s)
    (bounds : KeepsBounds c s) where
  keeps : KeepsMost (supply_of c.demands s.values)
  keeps = keeps_most (supply_of c.demands s.values) rules.usuals bounds.values

  -- something is owed by what is unfinished
  some_owed : (w : World) (place : ℕ) → place < length w.jobs → is_done (job_at w.jobs place).left ≡ false
      → AreNumbersInRange (job_at w.jobs place).left → 1 ≤ owed_from c w place
  some_owed w place i u numbers =
      let old = (job_at w.jobs place).left in
      let some : old ≢ [] = λ f. false≢true (sym u ∙ ap is_done f) in
      let lower = lowers_worst (supply_of c.demands s.values) (state_of old w.vars w.cursors []) keeps numbers some in
      let less = owed_less c w place place [] (omega arith) i (omega arith) in
      omega arith

  within_last : (n : ℕ) → GoesOnBefore c s n → n ≤ last_instant c s
  within_last n g =
      let last = last_is c s (are_bounded c s rules script) in
      ⊎_elim (λ (l : last_instant c s < n). absurd (false≢true (sym (g (last_instant c s) l) ∙ last.ends)))
      (λ (l : n ≤ last_instant c s). l)
      (cases_lt (last_instant c s) n)

  -- the ticks of all routines are within their demand
  isrs_within : (n : ℕ) → GoesOnBefore c s n → (from : ℕ) → (world_at c s n).start + from ≤ n
      → taken is_any_isr c s ((world_at c s n).start + from) n ≤ isrs_demand c (mode_of c (world_at c s n)) from
      (n - (world_at c s n).start)
  isrs_within n g from l =
      let w = world_at c s n in
      let m = w.start + from in
      let k = n - m in
      let z : m + k ≡ n = omega arith in
      let y : (n - w.start) - from ≡ k = omega arith in
      let last = within_last n g in
      let numbered = ticks_by_number c s m k (λ j i. g j (omega arith)) in
      let each : (isr : ℕ) → isr < length c.isrs
      → ticks_of (is_isr isr) c s m k ≤ isr_demand (isr_of c isr) (enables_in (mode_of c w) isr from (n - w.start))
      ((n - w.start) - from) = λ isr i.
      let b = isr_bounded c s rules script bounds isr (omega arith) m k (omega arith) in
      let e = (enables_at_instant c s isr n g).within from l in
      let more = routine_more (isr_of c isr) (count_by (is_enable isr) (events_between c s m k))
      (enables_in (mode_of c w) isr from (n - w.start)) k k e (omega arith) in
      rw y (omega arith) in
      let sum = sums_within (λ (isr : ℕ). ticks_of (is_isr isr) c s m k)
      (λ (isr : ℕ). isr_demand (isr_of c isr) (enables_in (mode_of c w) isr from (n - w.start))
      ((n - w.start) - from)) (length c.isrs) each in
      omega arith

  -- an unfinished activation has not had its demand
  not_yet : (n : ℕ) → GoesOnBefore c s n → (place : ℕ) → place < length (world_at c s n).jobs
      → is_done (job_at (world_at c s n).jobs place).left ≡ false
      → n -
      ((world_at c s n).start + (row_of (mode_of c (world_at c s n))
      (job_at (world_at c s n).jobs place).entry).offset)
      < demand c (mode_of c (world_at c s n))
      (row_of (mode_of c (world_at c s n)) (job_at (world_at c s n).jobs place).entry).offset
      (n - (world_at c s n).start)
  unfolding demand
  not_yet n g place i u =
      let w = world_at c s n in
      let t = tasks_at c s rules bounds n g in
      let o = t.1.1.each place i u in
      let owed = some_owed w place i u (t.1.1.numbers place) in
      let begun = o.begun in
      let split = o.split in
      let tasks = o.tasks in
      let isrs = isrs_within n g (row_of (mode_of c w) (job_at w.jobs place).entry).offset (omega arith) in
      omega arith

  waits_new : (T : ℕ) → SaidOfNew c (Waits c T) T
  waits_new T start number entry l e t a b = absurd (omega arith)

  -- at the tick that has been reached
  waits_more : (n : ℕ) → GoesOnBefore c s (n + 1) → Each c (Waits c n) (n + 1) (world_at c s (n + 1))
      → Each c (Waits c (n + 1)) (n + 1) (world_at c s (n + 1))
  waits_more n g p =
      let w = world_at c s (n + 1) in
      record {
        tick = p.tick;
        started = p.started;
        each = λ place i u t a b.
            let from = (row_of (mode_of c w) (job_at w.jobs place).entry).offset in
            ⊎_elim (λ (l : w.start + t < n + 1). p.each place i u t a (omega arith))
            (λ (l : n + 1 ≤ w.start + t).
            let now = not_yet (n + 1) g place i u in
            let y : (n + 1) - w.start ≡ t = omega arith in
            let z : (n + 1) - (w.start + from) ≡ t - from = omega arith in
            rw (y, z) at now)
            (cases_lt (w.start + t) (n + 1));
      }

  first_waits : Each c (Waits c 0) 0 (world_at c s 0)
  unfolding world_at
  first_waits = record { tick = refl; started = omega arith; each = λ place l u. absurd (omega arith) }

  next_waits : (n : ℕ) → GoesOnBefore c s (n + 1) → Each c (Waits c n) n (world_at c s n)
      → Each c (Waits c n) (n + 1) (world_at c s (suc n))
  unfolding world_at instant_at
  next_waits n g p =
      led_on (Alone (Each c (Waits c n) (n + 1))) Anything [] (instant c s (world_at c s n)) (g n (omega arith))
      (instant_each c s rules (Waits c n) n (waits_new n) (world_at c s n) [] p)

  pub waits_at : (n : ℕ) → GoesOnBefore c s n → Each c (Waits c n) n (world_at c s n)
  waits_at zero g = first_waits
  waits_at (suc n) g =
      let z : suc n ≡ n + 1 = omega arith in
      let h : GoesOnBefore c s (n + 1) = λ k l. g k (omega arith) in
      let q = next_waits n h (waits_at n (goes_on_less c s n g)) in
      subst (λ (j : ℕ). Each c (Waits c j) j (world_at c s j)) (sym z)
      (waits_more n h (subst (λ (j : ℕ). Each c (Waits c n) (n + 1) (world_at c s j)) z q))

  module _ (responds : EachResponds c) where
    mode_there : (number entry : ℕ) → entry < length (mode_at c number).activations → number < length c.modes
    mode_there number entry l =
        ⊎_elim (λ (h : number < length c.modes). h)
        (λ (h : length c.modes ≤ number). let z : mode_at c number ≡ no_mode = get_or_past c.modes number no_mode h in
        absurd (let x = ap (λ (mode : ModeDef). length mode.activations) z in omega arith))
        (cases_lt number (length c.modes))

    -- the deadline of each unfinished activation is still to come, before an instant and after its opening
    pub early_at : (n : ℕ) → GoesOnBefore c s n → Each c (IsEarly c n) n (world_at c s n)
    early_at n g =
        let w = world_at c s n in
        let p = waits_at n g in
        record {
          tick = p.tick;
          started = p.started;
          each = λ place i u.
              let o = (tasks_at c s rules bounds n g).1.1.each place i u in
              let entry = (job_at w.jobs place).entry in
              let r = responds w.mode.0 entry (mode_there w.mode.0 entry o.row) o.row in
              let later = r.1.later in
              let in_time = r.1.in_time in
              let fits = r.1.fits in
              ⊎_elim (λ (l : n < w.start + r.0). omega arith)
              (λ (l : w.start + r.0 ≤ n). absurd (let wait = p.each place i u r.0 later l in omega arith))
              (cases_lt n (w.start + r.0));
        }
