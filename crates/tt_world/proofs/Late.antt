-- The length of a round is latched only after the offset L - A.
use Rattle.std.proofs.Common.{ℕ, ◌≡◌, ◌<◌, ◌≤◌, ◌+◌, ◌-◌, List, Option, None, Some, eqb, arith}
use Rattle.std.proofs.lemmas.Bool.{cond_both, eqb-true}
use Rattle.tt_base.specs.declared.event.Event.{Event}
use Rattle.task_lang.specs.declared.syntax.Stmt.{Stmt}
use Rattle.tt_world.specs.declared.config.ConfigParts.{ConfigParts}
use Rattle.tt_world.specs.declared.script.ScriptParts.{ScriptParts}
use Rattle.tt_world.specs.declared.world.Runner.{Runner}
use Rattle.tt_world.specs.declared.world.Runner.TheVariants as runner
use Rattle.tt_world.specs.World.{World}
use Rattle.tt_world.specs.Correction.{is_length}
use Rattle.tt_world.specs.Monitoring.{is_at, is_at_end, monitored}
use Rattle.tt_world.specs.Opening.{checks, activated, activation}
use Rattle.tt_world.specs.Rounds.{head, latch, next_round, round_end}
use Rattle.tt_world.specs.Rows.{offset_of, mode_of, entry_at}
use Rattle.tt_world.specs.Runners.{leaving, runner_of}
use Rattle.tt_world.specs.Schedule.{instant, world_at}
use Rattle.tt_world.proofs.Keeps.{Holds, monitored_holds, IgnoresGates, enables_hold, arrivals_hold, acceptances_hold, StepKeeps, step_holds}
use Rattle.tt_world.proofs.Parts.{OfRun, Phase, Before, OpeningKeeps, Alone, Anything, Leads, followed_leads, GoesOnBefore, kept_at, instant_leads}

-- k is 0 before the opening of an instant, and 1 after it
pub record Late (k : ℕ) (c : ConfigParts) (w : World) : Type 0 where
  pub started : w.start ≤ w.tick
  pub late : (length : ℕ) → w.latched ≡ Some length → c.round - c.adjust < (w.tick - w.start) + k

module _ (c : ConfigParts) (s : ScriptParts) where
  later : (w : World) → Late 0 c w → Late 1 c w
  later w p = record { started = p.started; late = λ length e. let l = p.late length e in omega arith }

  latch_late : Leads (Alone (Late 0 c)) (Alone (Late 1 c)) Anything (latch c)
  unfolding latch
  latch_late w es p =
      cond_both (eqb (offset_of w) (c.round - c.adjust)) _ _ (Holds (Late 1 c) es)
      (λ e. let here = eqb-true _ _ e in record { started = p.started; late = λ _ _. omega arith })
      (λ _. later w p)

  next_round_late : Leads (Alone (Late 1 c)) (Alone (Late 1 c)) Anything (next_round s)
  unfolding next_round
  next_round_late w es p =
      cond_both (eqb w.number s.rounds) _ _ (Holds (Late 1 c) es) (λ _. tt)
      (λ _. record { started = omega arith; late = λ length e. cc })

  round_end_late : Leads (Alone (Late 1 c)) (Alone (Late 1 c)) Anything (round_end c s)
  unfolding round_end
  round_end_late w es p =
      cond_both (is_length w.latched (offset_of w)) _ _ (Holds (Late 1 c) es)
      (λ _. followed_leads (Alone (Late 1 c)) (Alone (Late 1 c)) Anything es (monitored c (is_at_end (offset_of w)) w)
      (next_round s) (monitored_holds (Late 1 c) c _ w es (λ _. p)) next_round_late)
      (λ _. p)

  ignores : IgnoresGates (Late 1 c)
  ignores w _ _ _ _ _ p = record { started = p.started; late = p.late }

  activated_late : (found : Option ℕ) (w : World) (es : List Event) → Late 1 c w
      → Holds (Late 1 c) es (activated c found w)
  activated_late None w es p = p
  activated_late (Some entry) w es p = record { started = p.started; late = p.late }

  abbrev LateAt : Phase → OfRun
  LateAt Before = Alone (Late 0 c)
  LateAt phase = Alone (Late 1 c)

  opening_keeps : OpeningKeeps c s LateAt Anything
  unfolding head checks activation
  opening_keeps = record {
    head_is = λ w es _ p. later w p;
    latch_is = latch_late;
    round_end_is = round_end_late;
    checks_are = λ w es p. monitored_holds (Late 1 c) c (is_at (offset_of w)) w es (λ _. p);
    enables_are = enables_hold (Late 1 c) ignores c;
    arrivals_are = arrivals_hold (Late 1 c) ignores c s;
    acceptances_are = acceptances_hold (Late 1 c) ignores c;
    activation_is = λ w es p. activated_late (entry_at (offset_of w) (mode_of c w).activations) w es p;
  }

  left_late : (w : World) (r : Runner) (after : List Stmt) → Late 1 c w → Late 1 c (leaving w r after)
  left_late w (runner.Isr i) after p = record { started = p.started; late = p.late }
  left_late w (runner.Job q) after p = record { started = p.started; late = p.late }
  left_late w (runner.Oisr i) after p = record { started = p.started; late = p.late }
  left_late w (runner.Osek i) after p = record { started = p.started; late = p.late }
  left_late w runner.Nobody after p = p

  step_keeps : StepKeeps c s (Late 1 c) (Late 1 c) (Late 0 c)
  step_keeps = record {
    left = λ w after p _. left_late w (runner_of c w) after p;
    free = λ w _ _ _ _ _ p. record { started = p.started; late = p.late };
    synced = λ w _ p. record { started = p.started; late = p.late };
    over = λ w _ p. let l = p.started in
        record { started = omega arith; late = λ length e. let m = p.late length e in omega arith };
  }

  instant_late : (w : World) (es : List Event) → Late 0 c w → Holds (Late 0 c) es (instant c s w)
  instant_late w es p =
      instant_leads c s LateAt Anything opening_keeps (Alone (Late 0 c))
      (step_holds c s (Late 1 c) (Late 1 c) (Late 0 c) step_keeps) w es p

  first_late : Late 0 c (world_at c s 0)
  unfolding world_at
  first_late = record { started = omega arith; late = λ length e. cc }

  pub late_at : (n : ℕ) → GoesOnBefore c s n → Late 0 c (world_at c s n)
  late_at = kept_at c s (Late 0 c) first_late instant_late
