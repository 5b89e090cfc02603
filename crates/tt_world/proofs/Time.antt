-- Where a round is at each part of an instant, and how late it can have begun.
use Rattle.std.proofs.Common.{ℕ, ◌≡◌, ◌<◌, ◌≤◌, ◌+◌, ◌-◌, ◌*◌, zero, List, true, false, Option, None, Some, refl, sym, subst, eqb, arith, suc}
use Rattle.std.specs.Prelude.{ℤ, pos, negsuc, neg_ℤ, nat_le}
use Rattle.std.proofs.lemmas.Bool.{cond_both, eqb-true, eqb-false}
use Rattle.tt_base.specs.declared.event.Event.{Event}
use Rattle.task_lang.specs.declared.syntax.Stmt.{Stmt}
use Rattle.tt_world.specs.declared.config.ConfigParts.{ConfigParts}
use Rattle.tt_world.specs.declared.script.ScriptParts.{ScriptParts}
use Rattle.tt_world.specs.declared.world.Runner.{Runner}
use Rattle.tt_world.specs.declared.world.Runner.TheVariants as runner
use Rattle.tt_world.specs.World.{World}
use Rattle.tt_world.specs.Rows.{offset_of, mode_of, entry_at}
use Rattle.tt_world.specs.Runners.{leaving, runner_of}
use Rattle.tt_world.specs.Correction.{correction_of, ahead, length_with, is_length}
use Rattle.tt_world.specs.Monitoring.{monitored, is_at, is_at_end}
use Rattle.tt_world.specs.Rounds.{head, latch, next_round, round_end}
use Rattle.tt_world.specs.Opening.{checks, activated, activation, opening}
use Rattle.tt_world.specs.Schedule.{IsBounded, instant, world_at}
use Rattle.tt_world.proofs.Parts.{OfRun, Phase, Before, Latched, Begun, OpeningKeeps, Alone, Anything, Leads, followed_leads, GoesOnBefore, kept_at, instant_leads, opening_leads}
use Rattle.tt_world.proofs.Keeps.{Holds, monitored_holds, IgnoresGates, enables_hold, arrivals_hold, acceptances_hold, StepKeeps, step_holds}

-- a correction is within the greatest
abbrev pub IsInRange : ℕ → ℤ → Type 0
IsInRange adjust (pos ticks) = ticks ≤ adjust
IsInRange adjust (negsuc ticks) = ticks < adjust

-- a latched length is one of a corrected round
abbrev pub IsLength : ConfigParts → ℕ → Type 0
IsLength c length = (c.round - c.adjust ≤ length) × (length ≤ c.round + c.adjust)

-- before the opening, after the latch, and after the round's end
abbrev pub Stands : Phase → ConfigParts → Option ℕ → ℕ → Type 0
Stands Before c None offset = offset ≤ c.round - c.adjust
Stands Before c (Some length) offset = IsLength c length × (offset ≤ length)
Stands Latched c None offset = offset < c.round - c.adjust
Stands Latched c (Some length) offset = IsLength c length × (offset ≤ length)
Stands phase c None offset = offset < c.round - c.adjust
Stands phase c (Some length) offset = IsLength c length × (offset < length)

pub record Timed (phase : Phase) (c : ConfigParts) (s : ScriptParts) (w : World) : Type 0 where
  pub started : w.start ≤ w.tick
  pub early : w.start + (c.round + c.adjust) ≤ w.number * (c.round + c.adjust)
  pub within : w.number ≤ s.rounds
  pub pending : IsInRange c.adjust w.pending
  pub stands : Stands phase c w.latched (w.tick - w.start)

-- another world with the same clock
pub same_clock : (phase : Phase) (c : ConfigParts) (s : ScriptParts) (w v : World) → v.tick ≡ w.tick → v.start ≡ w.start
    → v.number ≡ w.number → v.pending ≡ w.pending → v.latched ≡ w.latched → Timed phase c s w → Timed phase c s v
same_clock phase c s w v a b d e f t =
    record {
      started = let l = t.started in omega arith;
      early = subst (λ (x : ℕ). x + (c.round + c.adjust) ≤ v.number * (c.round + c.adjust)) (sym b)
          (subst (λ (n : ℕ). w.start + (c.round + c.adjust) ≤ n * (c.round + c.adjust)) (sym d) t.early);
      within = let l = t.within in omega arith;
      pending = subst (IsInRange c.adjust) (sym e) t.pending;
      stands =
          subst (λ (o : Option ℕ). Stands phase c o (v.tick - v.start)) (sym f)
          (subst (λ (x : ℕ). Stands phase c w.latched (x - v.start)) (sym a)
          (subst (λ (x : ℕ). Stands phase c w.latched (w.tick - x)) (sym b) t.stands));
    }

-- ---- corrections

neg_in_range : (n adjust : ℕ) → n ≤ adjust → IsInRange adjust (neg_ℤ (pos n))
neg_in_range zero adjust l = omega arith
neg_in_range (suc n) adjust l = omega arith

pub correction_in_range : (round adjust offset global : ℕ) → IsInRange adjust (correction_of round adjust offset global)
correction_in_range round adjust offset global =
    cond_both (nat_le (2 * ahead round offset global) round) _ _ (IsInRange adjust)
    (λ _. neg_in_range _ adjust (omega arith)) (λ _. omega arith)

corrected : (c : ConfigParts) (p : ℤ) → IsInRange c.adjust p → IsLength c (length_with c.round p)
corrected c (pos ticks) h = (omega arith, omega arith)
corrected c (negsuc ticks) h = (omega arith, omega arith)

-- ---- the clock at each part

module _ (c : ConfigParts) (s : ScriptParts) (bounded : IsBounded c s) where
  -- nothing is latched later, and the length was not reached
  unlatched : (latched : Option ℕ) (offset : ℕ) → eqb offset (c.round - c.adjust) ≡ false
      → Stands Before c latched offset → Stands Latched c latched offset
  unlatched None offset e h = let ne = eqb-false _ _ e in omega arith
  unlatched (Some length) offset e h = h

  low_enough : (length offset : ℕ) → IsLength c length → offset ≡ c.round - c.adjust → offset ≤ length
  low_enough length offset h e = let l = h.0 in omega arith

  pub latch_timed : Leads (Alone (Timed Before c s)) (Alone (Timed Latched c s)) Anything (latch c)
  unfolding latch
  latch_timed w es t =
      cond_both (eqb (offset_of w) (c.round - c.adjust)) _ _ (Holds (Timed Latched c s) es)
      (λ e.
      let length = corrected c w.pending t.pending in
      record {
        started = t.started;
        early = t.early;
        within = t.within;
        pending = omega arith;
        stands =
            (length, low_enough _ _ length (eqb-true _ _ e));
      })
      (λ e. record {
        started = t.started;
        early = t.early;
        within = t.within;
        pending = t.pending;
        stands =
            unlatched w.latched _ e t.stands;
      })

  not_over : (latched : Option ℕ) (offset : ℕ) → is_length latched offset ≡ false → Stands Latched c latched offset
      → Stands Begun c latched offset
  not_over None offset e h = h
  not_over (Some length) offset e h = let ne = eqb-false _ _ e in let l = h.1 in (h.0, omega arith)

  reached : (latched : Option ℕ) (offset : ℕ) → is_length latched offset ≡ true → Stands Latched c latched offset
      → offset ≤ c.round + c.adjust
  reached None offset e h = cc
  reached (Some length) offset e h = let eq = eqb-true _ _ e in let l = h.0.1 in omega arith

  begun : (w : World) (es : List Event) → Timed Latched c s w → (w.tick - w.start) ≤ c.round + c.adjust
      → Holds (Timed Begun c s) es (next_round s w)
  unfolding next_round
  begun w es t r =
      cond_both (eqb w.number s.rounds) _ _ (Holds (Timed Begun c s) es)
      (λ _. tt)
      (λ d.
      let ne = eqb-false _ _ d in
      let long = bounded.round_long in
      let small = bounded.adjust in
      let started = t.started in
      let early = t.early in
      let within = t.within in
      record {
        started = omega arith;
        early = omega arith;
        within = omega arith;
        pending = t.pending;
        stands =
            omega arith;
      })

  pub round_end_timed : Leads (Alone (Timed Latched c s)) (Alone (Timed Begun c s)) Anything (round_end c s)
  unfolding round_end
  round_end_timed w es t =
      cond_both (is_length w.latched (offset_of w)) _ _ (Holds (Timed Begun c s) es)
      (λ e. followed_leads (λ v _. Timed Latched c s v × ((v.tick - v.start) ≤ c.round + c.adjust))
      (Alone (Timed Begun c s)) Anything es (monitored c (is_at_end (offset_of w)) w) (next_round s)
      (monitored_holds (λ v. Timed Latched c s v × ((v.tick - v.start) ≤ c.round + c.adjust)) c
      (is_at_end (offset_of w)) w es (λ _. (t, reached w.latched _ e t.stands)))
      (λ v ds p. begun v ds p.0 p.1))
      (λ e. record {
        started = t.started;
        early = t.early;
        within = t.within;
        pending = t.pending;
        stands =
            not_over w.latched _ e t.stands;
      })

  at_first : (latched : Option ℕ) (offset : ℕ) → offset ≡ 0 → Stands Before c latched offset
      → Stands Begun c latched offset
  at_first None offset e h = let long = bounded.round_long in let small = bounded.adjust in omega arith
  at_first (Some length) offset e h = let long = bounded.round_long in let small = bounded.adjust in let l = h.0.0 in
      (h.0, omega arith)

  head_timed : (w : World) (es : List Event) → w.tick ≡ 0 → Timed Before c s w → Holds (Timed Begun c s) es (head s w)
  unfolding head
  head_timed w es z t =
      record {
        started = t.started;
        early = t.early;
        within = t.within;
        pending = t.pending;
        stands =
            at_first w.latched _ (let l = t.started in omega arith) t.stands;
      }

  ignores : (phase : Phase) → IgnoresGates (Timed phase c s)
  ignores phase w enabled held oheld isrs oisrs t = same_clock phase c s w _ refl refl refl refl refl t

  -- the clock at each part
  abbrev pub TimedAt : Phase → OfRun
  TimedAt Before = Alone (Timed Before c s)
  TimedAt Latched = Alone (Timed Latched c s)
  TimedAt phase = Alone (Timed Begun c s)

  checks_timed : Leads (Alone (Timed Begun c s)) (Alone (Timed Begun c s)) Anything (checks c)
  unfolding checks
  checks_timed w es t = monitored_holds (Timed Begun c s) c (is_at (offset_of w)) w es (λ _. t)

  activated_timed : (entry : Option ℕ) (w : World) (es : List Event) → Timed Begun c s w
      → Holds (Timed Begun c s) es (activated c entry w)
  activated_timed None w es t = t
  activated_timed (Some entry) w es t = same_clock Begun c s w _ refl refl refl refl refl t

  activation_timed : Leads (Alone (Timed Begun c s)) (Alone (Timed Begun c s)) Anything (activation c)
  unfolding activation
  activation_timed w es t = activated_timed (entry_at (offset_of w) (mode_of c w).activations) w es t

  pub opening_keeps : OpeningKeeps c s TimedAt Anything
  opening_keeps = record {
    head_is = head_timed;
    latch_is = latch_timed;
    round_end_is = round_end_timed;
    checks_are = checks_timed;
    enables_are = enables_hold (Timed Begun c s) (ignores Begun) c;
    arrivals_are = arrivals_hold (Timed Begun c s) (ignores Begun) c s;
    acceptances_are = acceptances_hold (Timed Begun c s) (ignores Begun) c;
    activation_is = activation_timed;
  }

  next_stands : (latched : Option ℕ) (offset : ℕ) → Stands Begun c latched offset → Stands Before c latched (offset + 1)
  next_stands None offset h = omega arith
  next_stands (Some length) offset h = let l = h.1 in (h.0, omega arith)

  left_timed : (w : World) (r : Runner) (after : List Stmt) → Timed Begun c s w → Timed Begun c s (leaving w r after)
  left_timed w (runner.Isr isr) after t = same_clock Begun c s w _ refl refl refl refl refl t
  left_timed w (runner.Job place) after t = same_clock Begun c s w _ refl refl refl refl refl t
  left_timed w (runner.Oisr oisr) after t = same_clock Begun c s w _ refl refl refl refl refl t
  left_timed w (runner.Osek task) after t = same_clock Begun c s w _ refl refl refl refl refl t
  left_timed w runner.Nobody after t = t

  step_keeps : StepKeeps c s (Timed Begun c s) (Timed Begun c s) (Timed Before c s)
  step_keeps = record {
    free = λ w vars cursors wanted used oseks t. same_clock Begun c s w _ refl refl refl refl refl t;
    synced = λ w global t. record {
      started = t.started;
      early = t.early;
      within = t.within;
      pending =
          correction_in_range c.round c.adjust (offset_of w) global;
      stands = t.stands;
    };
    left = λ w after t _. left_timed w (runner_of c w) after t;
    over = λ w last t.
        let l = t.started in
        let later : (w.tick - w.start) + 1 ≡ (w.tick + 1) - w.start = omega arith in
        record {
          started = omega arith;
          early = t.early;
          within = t.within;
          pending = t.pending;
          stands = subst (Stands Before c w.latched) later (next_stands w.latched (w.tick - w.start) t.stands);
        };
  }

  pub instant_timed : (w : World) (es : List Event) → Timed Before c s w → Holds (Timed Before c s) es (instant c s w)
  instant_timed w es t =
      instant_leads c s TimedAt Anything opening_keeps (Alone (Timed Before c s))
      (step_holds c s (Timed Begun c s) (Timed Begun c s) (Timed Before c s) step_keeps) w es t

  pub opening_timed : (w : World) (es : List Event) → Timed Before c s w → Holds (Timed Begun c s) es (opening c s w)
  opening_timed w es t = opening_leads c s TimedAt Anything opening_keeps w es t

  first_timed : Timed Before c s (world_at c s 0)
  unfolding world_at
  first_timed =
      let some = bounded.some_round in
      record {
        started = omega arith;
        early = omega arith;
        within = omega arith;
        pending = omega arith;
        stands =
            omega arith;
      }

  pub timed_at : (n : ℕ) → GoesOnBefore c s n → Timed Before c s (world_at c s n)
  timed_at = kept_at c s (Timed Before c s) first_timed instant_timed
