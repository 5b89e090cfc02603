-- What holds of each unfinished activation of the present round, by the round's start, its mode and its entry number.
use Rattle.std.proofs.Common.{ℕ, ◌≡◌, ◌<◌, ◌≤◌, ◌+◌, ◌-◌, List, false, Option, None, Some, refl, ap, sym, ◌∙◌, subst, eqb, arith, length, ⊎_elim}
use Rattle.std.proofs.lemmas.Bool.{cond_both}
use Rattle.tt_base.specs.declared.event.Event.{Event}
use Rattle.task_lang.specs.declared.syntax.Stmt.{Stmt}
use Rattle.tt_world.specs.declared.config.ModeDef.{ModeDef}
use Rattle.tt_world.specs.declared.config.ConfigParts.{ConfigParts}
use Rattle.tt_world.specs.declared.script.ScriptParts.{ScriptParts}
use Rattle.tt_world.specs.declared.world.Runner.{Runner}
use Rattle.tt_world.specs.declared.world.Runner.TheVariants as runner
use Rattle.tt_world.specs.World.{World, Job}
use Rattle.tt_world.specs.ConfigRules.{IsConfig}
use Rattle.tt_world.specs.Rows.{offset_of, mode_at, mode_of, row_of, entry_at, body_of}
use Rattle.tt_world.specs.Runners.{job_at, is_done, leaving, runner_of}
use Rattle.tt_world.specs.Correction.{is_length}
use Rattle.tt_world.specs.Monitoring.{is_at, is_at_end, monitored}
use Rattle.tt_world.specs.Rounds.{head, latch, next_round, round_end}
use Rattle.tt_world.specs.Opening.{checks, activated, activation}
use Rattle.tt_world.specs.Step.{step}
use Rattle.tt_world.specs.Schedule.{instant}
use Rattle.tt_world.proofs.Parts.{OpeningKeeps, Alone, Anything, Leads, followed_leads, instant_leads}
use Rattle.tt_world.proofs.Keeps.{Holds, monitored_holds, IgnoresGates, enables_hold, arrivals_hold, acceptances_hold, IsLeftAfter, StepKeeps, step_holds}
use Rattle.tt_world.proofs.JobLists.{IsOldPlace, IsNewPlace, place_of_more, place_of_set, entry_of_set, undone_before}
use Rattle.tt_world.proofs.TableRows.{row_found}
use Rattle.tt_world.proofs.Points.{left_undone}

-- a property of the start of a round, its mode and an entry number
abbrev pub OfEntry : Type 1
OfEntry = ℕ → ModeDef → ℕ → Type 0

-- at this tick it holds of each activation with statements left
pub record Each (c : ConfigParts) (R : OfEntry) (at : ℕ) (w : World) : Type 0 where
  pub tick : w.tick ≡ at
  pub started : w.start ≤ at
  pub each : (place : ℕ) → place < length w.jobs → is_done (job_at w.jobs place).left ≡ false
      → R w.start (mode_of c w) (job_at w.jobs place).entry

-- it holds of an activation at its own offset
abbrev pub SaidOfNew : ConfigParts → OfEntry → ℕ → Type 0
SaidOfNew c R T =
    (start number entry : ℕ) → entry < length (mode_at c number).activations
    → start + (row_of (mode_at c number) entry).offset ≡ T → R start (mode_at c number) entry

module _ (c : ConfigParts) (s : ScriptParts) (rules : IsConfig c) (R : OfEntry) (T : ℕ) where
  latch_each : Leads (Alone (Each c R T)) (Alone (Each c R T)) Anything (latch c)
  unfolding latch
  latch_each w es p =
      cond_both (eqb (offset_of w) (c.round - c.adjust)) _ _ (Holds (Each c R T) es)
      (λ _. record { tick = p.tick; started = p.started; each = p.each }) (λ _. p)

  pub next_round_each : (w : World) (es : List Event) → w.tick ≡ T → Holds (Each c R T) es (next_round s w)
  unfolding next_round
  next_round_each w es t =
      cond_both (eqb w.number s.rounds) _ _ (Holds (Each c R T) es) (λ _. tt)
      (λ _. record { tick = t; started = omega (arith, t); each = λ place l u. absurd (omega arith) })

  round_end_each : Leads (Alone (Each c R T)) (Alone (Each c R T)) Anything (round_end c s)
  unfolding round_end
  round_end_each w es p =
      cond_both (is_length w.latched (offset_of w)) _ _ (Holds (Each c R T) es)
      (λ _. followed_leads (Alone (Each c R T)) (Alone (Each c R T)) Anything es
      (monitored c (is_at_end (offset_of w)) w) (next_round s)
      (monitored_holds (Each c R T) c (is_at_end (offset_of w)) w es (λ _. p)) (λ v ds q. next_round_each v ds q.tick))
      (λ _. p)

  ignores : (at : ℕ) → IgnoresGates (Each c R at)
  ignores at w _ _ _ _ _ p = record { tick = p.tick; started = p.started; each = p.each }

  pub activated_each : SaidOfNew c R T → (found : Option ℕ) (w : World) (es : List Event)
      → entry_at (offset_of w) (mode_of c w).activations ≡ found → Each c R T w
      → Holds (Each c R T) es (activated c found w)
  activated_each new None w es e p = p
  activated_each new (Some entry) w es e p =
      let y : Job = record { entry = entry; left = body_of c (row_of (mode_of c w) entry).task } in
      let found = row_found (offset_of w) entry (mode_of c w) e in
      let here = found.1 in
      let tick = p.tick in
      let started = p.started in
      record {
        tick = p.tick;
        started = p.started;
        each = λ place l u.
            ⊎_elim
            (λ (old : IsOldPlace w.jobs y place).
            subst (λ (x : Job). R w.start (mode_of c w) x.entry) (sym old.1)
            (p.each place old.0 (sym (ap (λ (x : Job). is_done x.left) old.1) ∙ u)))
            (λ (fresh : IsNewPlace w.jobs y place).
            subst (λ (x : Job). R w.start (mode_of c w) x.entry) (sym fresh.1)
            (new w.start w.mode.0 entry found.0 (omega arith)))
            (place_of_more w.jobs y place l);
      }

  pub left_each : (w : World) (r : Runner) (after : List Stmt) → Each c R T w → IsLeftAfter c s w r after
      → Each c R T (leaving w r after)
  left_each w (runner.Job q) after p l =
      record {
        tick = p.tick;
        started = p.started;
        each = λ place i u.
            let within : place < length w.jobs = place_of_set w.jobs q after place i in
            let undone = undone_before w.jobs q place after (left_undone c s rules w q after l) i u in
            let same = entry_of_set w.jobs q after place i in
            subst (λ (entry : ℕ). R w.start (mode_of c w) entry) (sym same) (p.each place within undone);
      }
  left_each w (runner.Isr isr) after p l = record { tick = p.tick; started = p.started; each = p.each }
  left_each w (runner.Oisr oisr) after p l = record { tick = p.tick; started = p.started; each = p.each }
  left_each w (runner.Osek task) after p l = record { tick = p.tick; started = p.started; each = p.each }
  left_each w runner.Nobody after p l = p

  step_keeps : StepKeeps c s (Each c R T) (Each c R T) (Each c R (T + 1))
  step_keeps = record {
    free = λ w vars cursors wanted used oseks p. record { tick = p.tick; started = p.started; each = p.each };
    synced = λ w global p. record { tick = p.tick; started = p.started; each = p.each };
    left = λ w after p l. left_each w (runner_of c w) after p l;
    over = λ w last p. record {
      tick = omega (arith, p.tick);
      started = let l = p.started in
          omega arith;
      each = p.each;
    };
  }

  pub step_each : Leads (Alone (Each c R T)) (Alone (Each c R (T + 1))) Anything (step c s)
  step_each = step_holds c s (Each c R T) (Each c R T) (Each c R (T + 1)) step_keeps

  module _ (new : SaidOfNew c R T) where
    activation_each : Leads (Alone (Each c R T)) (Alone (Each c R T)) Anything (activation c)
    unfolding activation
    activation_each w es p = activated_each new _ w es refl p

    pub opening_keeps : OpeningKeeps c s (λ _. Alone (Each c R T)) Anything
    unfolding head checks
    opening_keeps = record {
      head_is = λ w es _ p. p;
      latch_is = latch_each;
      round_end_is = round_end_each;
      checks_are = λ w es p. monitored_holds (Each c R T) c (is_at (offset_of w)) w es (λ _. p);
      enables_are = enables_hold (Each c R T) (ignores T) c;
      arrivals_are = arrivals_hold (Each c R T) (ignores T) c s;
      acceptances_are = acceptances_hold (Each c R T) (ignores T) c;
      activation_is = activation_each;
    }

    -- it is kept by an instant
    pub instant_each : (w : World) (es : List Event) → Each c R T w → Holds (Each c R (T + 1)) es (instant c s w)
    instant_each w es p = instant_leads c s (λ _. Alone (Each c R T)) Anything opening_keeps
        (Alone (Each c R (T + 1))) step_each w es p
