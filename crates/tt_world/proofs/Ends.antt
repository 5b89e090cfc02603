-- That the run ends, and where.
use Rattle.std.proofs.Common.{ℕ, zero, suc, ◌≡◌, ◌<◌, ◌≤◌, ◌+◌, ◌-◌, ◌*◌, List, [], false, Option, None, Some, refl, ap, sym, ◌∙◌, eqb, arith, add-one, ⊎_elim}
use Rattle.std.proofs.Math.Nat.{mul-le-mul_right}
use Rattle.std.proofs.lemmas.Bool.{cond_both, cases_order, cases_lt, false≢true, cases_Bool}
use Rattle.tt_base.specs.declared.event.Event.{Event}
use Rattle.tt_world.specs.declared.config.ConfigParts.{ConfigParts}
use Rattle.tt_world.specs.declared.script.ScriptParts.{ScriptParts}
use Rattle.tt_world.specs.declared.world.Runner.{Runner}
use Rattle.tt_world.specs.declared.world.Runner.TheVariants as runner
use Rattle.tt_world.specs.World.{World}
use Rattle.tt_world.specs.ConfigRules.{IsConfig}
use Rattle.tt_world.specs.ScriptRules.{IsScript}
use Rattle.tt_world.specs.Moved.{is_over}
use Rattle.tt_world.specs.Rows.{offset_of, mode_of, entry_at}
use Rattle.tt_world.specs.Runners.{leaving, runner_of}
use Rattle.tt_world.specs.Correction.{is_length}
use Rattle.tt_world.specs.Monitoring.{monitored, is_at, is_at_end}
use Rattle.tt_world.specs.Rounds.{head, latch, next_round, round_end}
use Rattle.tt_world.specs.Opening.{checks, activated, activation, opening}
use Rattle.tt_world.specs.Schedule.{IsBounded, instant, instant_at, world_at, ends_at, IsLast, last_from, last_instant, most_ticks}
use Rattle.tt_world.specs.RunLaws.{PointsAreAhead}
use Rattle.tt_world.proofs.Parts.{Before, Begun, OpeningKeeps, Alone, Anything, Leads, followed_leads, GoesOnBefore, instant_leads, led_on}
use Rattle.tt_world.proofs.Keeps.{Holds, monitored_holds, enables_hold, arrivals_hold, acceptances_hold, StepKeeps, step_holds}
use Rattle.tt_world.proofs.Time.{Timed, Stands, opening_timed, timed_at}
use Rattle.tt_world.proofs.Points.{Ahead, opening_ahead, ahead_at, points_ahead}

-- only the tick of an instant raises the tick
module _ (c : ConfigParts) (s : ScriptParts) (t : ℕ) where
  At : World → Type 0
  At v = v.tick ≡ t

  latch_at : Leads (Alone At) (Alone At) Anything (latch c)
  unfolding latch At
  latch_at w es p = cond_both (eqb (offset_of w) (c.round - c.adjust)) _ _ (Holds At es) (λ _. p) (λ _. p)

  next_round_at : Leads (Alone At) (Alone At) Anything (next_round s)
  unfolding next_round At
  next_round_at w es p = cond_both (eqb w.number s.rounds) _ _ (Holds At es) (λ _. tt) (λ _. p)

  round_end_at : Leads (Alone At) (Alone At) Anything (round_end c s)
  unfolding round_end
  round_end_at w es p =
      cond_both (is_length w.latched (offset_of w)) _ _ (Holds At es)
      (λ _. followed_leads (Alone At) (Alone At) Anything es (monitored c (is_at_end (offset_of w)) w) (next_round s)
      (monitored_holds At c _ w es (λ _. p)) next_round_at)
      (λ _. p)

  activated_at : (entry : Option ℕ) (w : World) (es : List Event) → At w → Holds At es (activated c entry w)
  unfolding At
  activated_at None w es p = p
  activated_at (Some entry) w es p = p

  opening_at : OpeningKeeps c s (λ _. Alone At) Anything
  unfolding head checks activation At
  opening_at = record {
    head_is = λ w es _ p. p;
    latch_is = latch_at;
    round_end_is = round_end_at;
    checks_are = λ w es p. monitored_holds At c (is_at (offset_of w)) w es (λ _. p);
    enables_are = enables_hold At (λ w _ _ _ _ _ p. p) c;
    arrivals_are = arrivals_hold At (λ w _ _ _ _ _ p. p) c s;
    acceptances_are = acceptances_hold At (λ w _ _ _ _ _ p. p) c;
    activation_is = λ w es p. activated_at (entry_at (offset_of w) (mode_of c w).activations) w es p;
  }

  left_at : (w : World) (r : Runner) (after : _) → At w → At (leaving w r after)
  unfolding At
  left_at w (runner.Isr isr) after p = p
  left_at w (runner.Job place) after p = p
  left_at w (runner.Oisr oisr) after p = p
  left_at w (runner.Osek task) after p = p
  left_at w runner.Nobody after p = p

  step_at : StepKeeps c s At At (λ v. v.tick ≡ t + 1)
  unfolding At
  step_at = record {
    free = λ w _ _ _ _ _ p. p;
    synced = λ w _ p. p;
    left = λ w after p _. left_at w (runner_of c w) after p;
    over = λ w _ p. omega arith;
  }

  pub instant_at_tick : (w : World) (es : List Event) → w.tick ≡ t → Holds (λ v. v.tick ≡ t + 1) es (instant c s w)
  unfolding At
  instant_at_tick w es p =
      instant_leads c s (λ _. Alone At) Anything opening_at (Alone (λ v. v.tick ≡ t + 1))
      (step_holds c s At At (λ v. v.tick ≡ t + 1) step_at) w es p

-- an instant that goes on takes one tick
pub instant_tick : (c : ConfigParts) (s : ScriptParts) (w : World) (es : List Event)
    → is_over (instant c s w).end ≡ false → (instant c s w).world.tick ≡ w.tick + 1
instant_tick c s w es e = led_on (Alone (λ v. v.tick ≡ w.tick + 1)) Anything es (instant c s w) e
    (instant_at_tick c s w.tick w es refl)

pub goes_on_less : (c : ConfigParts) (s : ScriptParts) (n : ℕ) → GoesOnBefore c s (suc n) → GoesOnBefore c s n
goes_on_less c s n g k l = g k (omega arith)

pub goes_on_more : (c : ConfigParts) (s : ScriptParts) (n : ℕ) → GoesOnBefore c s n → ends_at c s n ≡ false
    → GoesOnBefore c s (n + 1)
goes_on_more c s n g e k l = ⊎_elim (λ (lt : k < n). g k lt)
    (λ (ge : n ≤ k). let same : n ≡ k = omega arith in rw same at e) (cases_lt k n)

-- the tick of an instant is its number, up to the end
tick_next : (c : ConfigParts) (s : ScriptParts) (n : ℕ) → (world_at c s n).tick ≡ n → ends_at c s n ≡ false
    → (world_at c s (suc n)).tick ≡ n + 1
unfolding world_at instant_at
tick_next c s n t e = instant_tick c s (world_at c s n) [] e ∙ ap (λ k. k + 1) t

pub tick_at : (c : ConfigParts) (s : ScriptParts) (n : ℕ) → GoesOnBefore c s n → (world_at c s n).tick ≡ n
unfolding world_at
tick_at c s zero g = refl
tick_at c s (suc n) g = tick_next c s n (tick_at c s n (goes_on_less c s n g)) (g n (omega arith)) ∙ add-one n

module _ (c : ConfigParts) (s : ScriptParts) (bounded : IsBounded c s) where
  -- a run that has not ended before n has taken n ticks: n is at most the most ticks
  before_end : (latched : Option ℕ) (offset : ℕ) → Stands Before c latched offset → offset ≤ c.round + c.adjust
  before_end None offset h = omega arith
  before_end (Some length) offset h = let l = h.0.1 in let m = h.1 in omega arith

  pub few_ticks : (n : ℕ) → GoesOnBefore c s n → n ≤ most_ticks c s
  few_ticks n g =
      let t = timed_at c s bounded n g in
      let e : (world_at c s n).tick ≡ n = tick_at c s n g in
      let m : (world_at c s n).number * (c.round + c.adjust) ≤ s.rounds * (c.round + c.adjust) =
      mul-le-mul_right (c.round + c.adjust) t.within in
      let early = t.early in
      let started = t.started in
      let offset = before_end (world_at c s n).latched _ t.stands in
      omega arith

  last_found : (more from : ℕ) → GoesOnBefore c s from → from + more ≡ most_ticks c s
      → IsLast c s (last_from c s more from)
  unfolding last_from
  last_found zero from g e =
      record {
        ends = ⊎_elim (λ p. p) (λ p. absurd (let few = few_ticks (from + 1) (goes_on_more c s from g p) in omega arith))
            (cases_Bool (ends_at c s from));
        first = g;
      }
  last_found (suc more) from g e =
      let later : ends_at c s from ≡ false → IsLast c s (last_from c s more (from + 1)) =
      λ p. last_found more (from + 1) (goes_on_more c s from g p) (omega arith) in
      cond_both (ends_at c s from) _ _ (IsLast c s) (λ p. record { ends = p; first = g }) later

  pub last_is : IsLast c s (last_instant c s)
  unfolding last_instant
  last_is = last_found (most_ticks c s) 0 (λ k l. absurd (omega arith)) (omega arith)

-- parts that meet the rules have bounded runs
pub are_bounded : (c : ConfigParts) (s : ScriptParts) → IsConfig c → IsScript c s → IsBounded c s
are_bounded c s rules script =
    record {
      round_long = rules.round_long;
      round_short = rules.round_short;
      adjust = rules.adjust;
      start = script.start;
      some_round = script.some_round;
      few_rounds = script.few_rounds;
    }

pub last_unique : (c : ConfigParts) (s : ScriptParts) (m n : ℕ) → IsLast c s m → IsLast c s n → m ≡ n
last_unique c s m n a b =
    ⊎_elim (λ e. e)
    (λ o. ⊎_elim (λ (l : m < n). absurd (false≢true (sym (b.first m l) ∙ a.ends)))
    (λ (l : n < m). absurd (false≢true (sym (a.first n l) ∙ b.ends))) o)
    (cases_order m n)

-- after each opening at which the run goes on
pub are_ahead : PointsAreAhead
are_ahead c s rules script n l e =
    let bounded = are_bounded c s rules script in
    let last = last_is c s bounded in
    let before : GoesOnBefore c s n = λ k m. last.first k (omega arith) in
    let on : is_over (opening c s (world_at c s n)).end ≡ false = ap is_over e in
    let t = led_on (Alone (Timed Begun c s)) Anything [] (opening c s (world_at c s n)) on
    (opening_timed c s bounded (world_at c s n) [] (timed_at c s bounded n before)) in
    let a = led_on (Alone (Ahead c 1)) Anything [] (opening c s (world_at c s n)) on
    (opening_ahead c s rules (world_at c s n) [] (ahead_at c s rules n before)) in
    points_ahead c s _ a t
