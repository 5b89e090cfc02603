-- No activation with statements left has reached its monitoring point, since a missed check ends the run.
use Rattle.std.proofs.Common.{ℕ, zero, suc, ◌≡◌, ◌<◌, ◌≤◌, ◌+◌, ◌-◌, List, [], ◌∷◌, Bool, true, false, Option, None, Some, refl, ap, sym, ◌∙◌, subst, eqb, arith, length, ◌⊎◌, ⊎_elim}
use Rattle.std.proofs.lemmas.Bool.{cond_both, cases_Bool, eqb-false, false≢true}
use Rattle.tt_base.specs.declared.number.TaskNo.{TaskNo}
use Rattle.tt_base.specs.declared.event.Event.{Event}
use Rattle.task_lang.specs.declared.syntax.Stmt.{Stmt}
use Rattle.tt_world.specs.declared.config.ModeDef.{ModeDef}
use Rattle.tt_world.specs.declared.config.ConfigParts.{ConfigParts}
use Rattle.tt_world.specs.declared.script.ScriptParts.{ScriptParts}
use Rattle.tt_world.specs.declared.world.Point.{Point}
use Rattle.tt_world.specs.declared.world.Point.TheVariants as point
use Rattle.tt_world.specs.declared.world.Runner.{Runner}
use Rattle.tt_world.specs.declared.world.Runner.TheVariants as runner
use Rattle.tt_world.specs.World.{World, Job}
use Rattle.tt_world.specs.ConfigRules.{IsConfig}
use Rattle.tt_world.specs.Rows.{offset_of, mode_of, row_of, entry_at, body_of}
use Rattle.tt_world.specs.Runners.{job_at, is_done, leaving, runner_of}
use Rattle.tt_world.specs.Correction.{is_length}
use Rattle.tt_world.specs.Monitoring.{Checked, check_then, check_if, checked, is_at, is_at_end, monitored}
use Rattle.tt_world.specs.Points.{point_of}
use Rattle.tt_world.specs.Rounds.{head, latch, next_round, round_end}
use Rattle.tt_world.specs.Opening.{checks, activated, activation, opening}
use Rattle.tt_world.specs.Step.{state_after}
use Rattle.tt_world.specs.Schedule.{instant, world_at}
use Rattle.tt_world.specs.RunLaws.{IsAfter, IsRoundOn, ArePointsAhead}
use Rattle.tt_world.proofs.Parts.{OfRun, Phase, Before, Latched, Begun, OpeningKeeps, Alone, Anything, Leads, followed_leads, GoesOnBefore, kept_at, instant_leads, opening_leads}
use Rattle.tt_world.proofs.Keeps.{Holds, monitored_holds, enables_hold, arrivals_hold, acceptances_hold, IsLeftAfter, IsOsek, StepKeeps, step_holds}
use Rattle.tt_world.proofs.Time.{Timed, Stands}
use Rattle.tt_world.proofs.JobLists.{IsOldPlace, IsNewPlace, place_of_more, place_of_set, entry_of_set, tick_undone, undone_before}
use Rattle.tt_world.proofs.TableRows.{mode_rows, row_found, deadline_after}
use Rattle.tt_world.proofs.Deadlines.{IsFrom, point_is_from}

-- ---- checks that let the run go on

then_met : (at : ℕ) (task : TaskNo) (met : Bool) (others : Checked) → (check_then at task met others).missed ≡ None
    → (met ≡ true) × (others.missed ≡ None)
then_met at task true others e = (refl, e)
then_met at task false others e = cc

if_met : (due : Bool) (at : ℕ) (task : TaskNo) (met : Bool) (others : Checked)
    → (check_if due (check_then at task met others) others).missed ≡ None
    → (due ≡ true → met ≡ true) × (others.missed ≡ None)
if_met true at task met others e = let p = then_met at task met others e in (λ _. p.0, p.1)
if_met false at task met others e = (λ d. cc, e)

-- where no check is missed, nothing is left of each activation whose point is due
pub checked_done : (at : ℕ) (mode : ModeDef) (is_due : Point → Bool) (xs : List Job)
    → (checked at mode is_due xs).missed ≡ None → (place : ℕ) → place < length xs
    → is_due (point_of mode (row_of mode (job_at xs place).entry)) ≡ true → is_done (job_at xs place).left ≡ true
unfolding checked
checked_done at mode is_due [] e place l d = absurd (omega arith)
checked_done at mode is_due (x ∷ xs) e zero l d =
    (if_met (is_due (point_of mode (row_of mode x.entry))) at (row_of mode x.entry).task (is_done x.left)
    (checked at mode is_due xs) e).0 d
checked_done at mode is_due (x ∷ xs) e (suc place) l d =
    checked_done at mode is_due xs (if_met (is_due (point_of mode (row_of mode x.entry))) at (row_of mode x.entry).task
    (is_done x.left) (checked at mode is_due xs) e).1 place (omega arith) d

-- ---- points that are still to come

abbrev pub point_at : ConfigParts → World → ℕ → Point
point_at c w place = point_of (mode_of c w) (row_of (mode_of c w) (job_at w.jobs place).entry)

-- the point of each activation with statements left is still to come: k is 0 before the checks of an instant, and 1
-- after them
pub record Ahead (c : ConfigParts) (k : ℕ) (w : World) : Type 0 where
  pub started : w.start ≤ w.tick
  pub ahead : (place : ℕ) → place < length w.jobs → is_done (job_at w.jobs place).left ≡ false
      → IsFrom ((w.tick - w.start) + k) (point_of (mode_of c w) (row_of (mode_of c w) (job_at w.jobs place).entry))

abbrev AheadAt : ConfigParts → Phase → OfRun
AheadAt c Before = Alone (Ahead c 0)
AheadAt c Latched = Alone (Ahead c 0)
AheadAt c Begun = Alone (Ahead c 0)
AheadAt c phase = Alone (Ahead c 1)

passed : (offset : ℕ) (p : Point) → IsFrom (offset + 0) p → is_at offset p ≡ false → IsFrom (offset + 1) p
passed offset (point.At place) h e = let ne = eqb-false place offset e in omega arith
passed offset point.RoundEnd h e = tt

later_point : (a b : ℕ) (p : Point) → b ≤ a → IsFrom a p → IsFrom b p
later_point a b (point.At place) l h = omega arith
later_point a b point.RoundEnd l h = tt

-- the round is not over
round_on : (c : ConfigParts) (latched : Option ℕ) (offset : ℕ) → Stands Begun c latched offset
    → IsRoundOn c latched offset
round_on c None offset h = h
round_on c (Some length) offset h = h.1

after_point : (c : ConfigParts) (latched : Option ℕ) (offset : ℕ) (p : Point) → IsFrom (offset + 1) p
    → IsRoundOn c latched offset → IsAfter c latched offset p
after_point c latched offset (point.At place) h r = omega arith
after_point c latched offset point.RoundEnd h r = r

pub points_ahead : (c : ConfigParts) (s : ScriptParts) (w : World) → Ahead c 1 w → Timed Begun c s w
    → ArePointsAhead c w
points_ahead c s w a t place u =
    after_point c w.latched (offset_of w) (point_at c w place) (a.ahead place u.within u.undone)
    (round_on c w.latched (offset_of w) t.stands)

module _ (c : ConfigParts) (s : ScriptParts) (rules : IsConfig c) where
  head_ahead : (w : World) (es : List Event) → w.tick ≡ 0 → Ahead c 0 w → Holds (Ahead c 0) es (head s w)
  unfolding head
  head_ahead w es z a = a

  pub latch_ahead : Leads (Alone (Ahead c 0)) (Alone (Ahead c 0)) Anything (latch c)
  unfolding latch
  latch_ahead w es a =
      cond_both (eqb (offset_of w) (c.round - c.adjust)) _ _ (Holds (Ahead c 0) es)
      (λ _. record { started = a.started; ahead = a.ahead }) (λ _. a)

  next_round_ahead : (w : World) (es : List Event) → Ahead c 0 w → Holds (Ahead c 0) es (next_round s w)
  unfolding next_round
  next_round_ahead w es a =
      cond_both (eqb w.number s.rounds) _ _ (Holds (Ahead c 0) es) (λ _. tt)
      (λ _. record { started = omega arith; ahead = λ place l u. absurd (omega arith) })

  pub round_end_ahead : Leads (Alone (Ahead c 0)) (Alone (Ahead c 0)) Anything (round_end c s)
  unfolding round_end
  round_end_ahead w es a =
      cond_both (is_length w.latched (offset_of w)) _ _ (Holds (Ahead c 0) es)
      (λ _. followed_leads (Alone (Ahead c 0)) (Alone (Ahead c 0)) Anything es (monitored c (is_at_end (offset_of w)) w)
      (next_round s)
      (monitored_holds (Ahead c 0) c (is_at_end (offset_of w)) w es (λ _. a)) next_round_ahead)
      (λ _. a)

  pub checks_ahead : Leads (Alone (Ahead c 0)) (Alone (Ahead c 1)) Anything (checks c)
  unfolding checks
  checks_ahead w es a =
      monitored_holds (Ahead c 1) c (is_at (offset_of w)) w es
      (λ none. record {
        started = a.started;
        ahead = λ place l u.
            ⊎_elim
            (λ (d : is_at (offset_of w) (point_at c w place) ≡ true).
            absurd (false≢true (sym u ∙ checked_done w.tick (mode_of c w) (is_at (offset_of w)) w.jobs none place l d)))
            (λ (d : is_at (offset_of w) (point_at c w place) ≡ false). passed (offset_of w) (point_at c w place)
            (a.ahead place l u) d)
            (cases_Bool (is_at (offset_of w) (point_at c w place)));
      })

  new_point : (w : World) (entry : ℕ) → entry_at (offset_of w) (mode_of c w).activations ≡ Some entry
      → IsFrom (offset_of w + 1) (point_of (mode_of c w) (row_of (mode_of c w) entry))
  new_point w entry e =
      let found = row_found (offset_of w) entry (mode_of c w) e in
      let l = deadline_after c (mode_of c w) entry (mode_rows c w.mode.0 rules) found.0 in
      let here = found.1 in
      later_point (row_of (mode_of c w) entry).deadline _ (point_of (mode_of c w) (row_of (mode_of c w) entry))
      (omega arith)
      (point_is_from (mode_of c w) (row_of (mode_of c w) entry))

  pub activated_ahead : (w : World) (es : List Event) → Ahead c 1 w → (found : Option ℕ)
      → entry_at (offset_of w) (mode_of c w).activations ≡ found → Holds (Ahead c 1) es (activated c found w)
  activated_ahead w es a None e = a
  activated_ahead w es a (Some entry) e =
      let y : Job = record { entry = entry; left = body_of c (row_of (mode_of c w) entry).task } in
      record {
        started = a.started;
        ahead = λ place l u.
            ⊎_elim
            (λ (old : IsOldPlace w.jobs y place).
            subst (λ x. IsFrom (offset_of w + 1) (point_of (mode_of c w) (row_of (mode_of c w) x.entry))) (sym old.1)
            (a.ahead place old.0 (sym (ap (λ x. is_done x.left) old.1) ∙ u)))
            (λ (new : IsNewPlace w.jobs y place).
            subst (λ x. IsFrom (offset_of w + 1) (point_of (mode_of c w) (row_of (mode_of c w) x.entry))) (sym new.1)
            (new_point w entry e))
            (place_of_more w.jobs y place l);
      }

  activation_ahead : Leads (Alone (Ahead c 1)) (Alone (Ahead c 1)) Anything (activation c)
  unfolding activation
  activation_ahead w es a = activated_ahead w es a _ refl

  opening_keeps : OpeningKeeps c s (AheadAt c) Anything
  opening_keeps = record {
    head_is = head_ahead;
    latch_is = latch_ahead;
    round_end_is = round_end_ahead;
    checks_are = checks_ahead;
    enables_are = enables_hold (Ahead c 1) (λ w _ _ _ _ _ a. record { started = a.started; ahead = a.ahead }) c;
    arrivals_are = arrivals_hold (Ahead c 1) (λ w _ _ _ _ _ a. record { started = a.started; ahead = a.ahead }) c s;
    acceptances_are = acceptances_hold (Ahead c 1) (λ w _ _ _ _ _ a. record { started = a.started; ahead = a.ahead }) c;
    activation_is = activation_ahead;
  }

  -- what has statements left after the tick had some before it
  pub left_undone : (w : World) (q : ℕ) (after : List Stmt) → IsLeftAfter c s w (runner.Job q) after
      → is_done after ≡ false → is_done (job_at w.jobs q).left ≡ false
  left_undone w q after l u =
      ⊎_elim
      (λ (e : after ≡ (state_after c s w (job_at w.jobs q).left).left). tick_undone c s w _ (sym (ap is_done e) ∙ u))
      (λ (o : (after ≡ []) ⊎ IsOsek (runner.Job q)).
      ⊎_elim (λ (e : after ≡ []). absurd (false≢true (sym u ∙ ap is_done e)))
      (λ (o : IsOsek (runner.Job q)). cc) o)
      l

  left_ahead : (w : World) (r : Runner) (after : List Stmt) → Ahead c 1 w → IsLeftAfter c s w r after
      → Ahead c 1 (leaving w r after)
  left_ahead w (runner.Job q) after a l =
      record {
        started = a.started;
        ahead = λ place i u.
            let within : place < length w.jobs = place_of_set w.jobs q after place i in
            let undone = undone_before w.jobs q place after (left_undone w q after l) i u in
            let same = entry_of_set w.jobs q after place i in
            subst (λ (entry : ℕ). IsFrom ((w.tick - w.start) + 1) (point_of (mode_of c w) (row_of (mode_of c w) entry)))
            (sym same) (a.ahead place within undone);
      }
  left_ahead w (runner.Isr isr) after a l = record { started = a.started; ahead = a.ahead }
  left_ahead w (runner.Oisr oisr) after a l = record { started = a.started; ahead = a.ahead }
  left_ahead w (runner.Osek task) after a l = record { started = a.started; ahead = a.ahead }
  left_ahead w runner.Nobody after a l = a

  step_keeps : StepKeeps c s (Ahead c 1) (Ahead c 1) (Ahead c 0)
  step_keeps = record {
    free = λ w vars cursors wanted used oseks a. record { started = a.started; ahead = a.ahead };
    synced = λ w global a. record { started = a.started; ahead = a.ahead };
    left = λ w after a l. left_ahead w (runner_of c w) after a l;
    over = λ w last a.
        let l = a.started in
        let later : (w.tick + 1) - w.start ≡ (w.tick - w.start) + 1 = omega arith in
        record {
          started = omega arith;
          ahead = λ place i u. later_point ((w.tick - w.start) + 1) _ (point_at c w place) (omega arith)
              (a.ahead place i u);
        };
  }

  pub instant_ahead : (w : World) (es : List Event) → Ahead c 0 w → Holds (Ahead c 0) es (instant c s w)
  instant_ahead w es a =
      instant_leads c s (AheadAt c) Anything opening_keeps (Alone (Ahead c 0))
      (step_holds c s (Ahead c 1) (Ahead c 1) (Ahead c 0) step_keeps) w es a

  pub opening_ahead : (w : World) (es : List Event) → Ahead c 0 w → Holds (Ahead c 1) es (opening c s w)
  opening_ahead w es a = opening_leads c s (AheadAt c) Anything opening_keeps w es a

  first_ahead : Ahead c 0 (world_at c s 0)
  unfolding world_at
  first_ahead = record { started = omega arith; ahead = λ place l u. absurd (omega arith) }

  pub ahead_at : (n : ℕ) → GoesOnBefore c s n → Ahead c 0 (world_at c s n)
  ahead_at = kept_at c s (Ahead c 0) first_ahead instant_ahead
