-- Each run ends in time, and with the event that says how it has ended.
use Rattle.std.proofs.Common.{ℕ, zero, suc, ◌≡◌, ◌≤◌, ◌+◌, List, [], ◌∷◌, ◌++◌, true, false, None, Some, refl, ap, sym, ◌∙◌, subst, arith, ⊎_elim}
use Rattle.std.specs.Prelude.{◌&&◌}
use Rattle.std.proofs.lemmas.Bool.{cond_both, cases_Bool, false≢true}
use Rattle.tt_base.specs.declared.event.Event.{Event}
use Rattle.tt_base.specs.declared.event.Event.TheVariants.{Called, Shutdown}
use Rattle.tt_base.specs.declared.event.Owner.{Owner}
use Rattle.task_lang.specs.declared.syntax.Stmt.{Stmt}
use Rattle.task_lang.specs.declared.tick.Effect.{Effect}
use Rattle.task_lang.specs.declared.tick.Effect.TheVariants as effect
use Rattle.tt_world.specs.declared.config.ConfigParts.{ConfigParts}
use Rattle.tt_world.specs.declared.script.ScriptParts.{ScriptParts}
use Rattle.tt_world.specs.declared.world.Runner.{Runner}
use Rattle.tt_world.specs.declared.world.RunEnd.{RunEnd}
use Rattle.tt_world.specs.declared.world.RunEnd.TheVariants as ending
use Rattle.tt_world.specs.World.{World}
use Rattle.tt_world.specs.Moved.{Moved, Outcome, is_over, preceded}
use Rattle.tt_world.specs.Hooks.{shuts_down}
use Rattle.tt_world.specs.Runners.{left_of, leaving, runner_of, owner_of}
use Rattle.tt_world.specs.Services.{service, is_shutdown}
use Rattle.tt_world.specs.Opening.{opening}
use Rattle.tt_world.specs.Step.{effected, state_after, runner_tick, step, run_line, tick_over, is_somebody}
use Rattle.tt_world.specs.Schedule.{instant, instant_at, world_at, events_before, ends_at, last_instant, most_ticks, schedule}
use Rattle.tt_world.specs.Status.{stamp_of, stamp_after, last_stamp, Status, status_of, status_by, last_event, IsLastEvent, EndsBy}
use Rattle.tt_world.specs.RunLaws.{ScheduleEnds}
use Rattle.tt_world.proofs.Parts.{GoesOnBefore, led_on, led_over}
use Rattle.tt_world.proofs.Keeps.{service_answers}
use Rattle.tt_world.proofs.Emits.{Of, of_all, all_more}
use Rattle.tt_world.proofs.Calm.{shuts_status}
use Rattle.tt_world.proofs.Stamps.{Mute, IsAt, MuteAt, AtTick, EndsAtTick, EndsAs, each_of, status_after, last_more, shuts_last, leaving_tick, run_at, followed_go, followed_over, opening_at_tick, Reads, step_reads}
use Rattle.tt_world.proofs.Ends.{tick_at, few_ticks, last_is, last_unique, are_bounded}

-- events before them that say nothing about the end change nothing
ends_more : (es fs : List Event) (end : Outcome) (at : ℕ) → Of Mute es → EndsAs end at fs → EndsAs end at (es ++ fs)
ends_more es fs None at p q = tt
ends_more es fs (Some end) at p q = (status_after es fs p ∙ q.0, last_more es fs (last_event end at) q.1)

-- ---- a tick that ends a run

effected_shuts : (c : ConfigParts) (s : ScriptParts) (r : Runner) (who : Owner) (effects : List Effect)
    (left : List Stmt) (v : World) (line : List Event) → Of Mute line
    → is_over (effected c s r who effects left v).move.end ≡ true
    → EndsAs (effected c s r who effects left v).move.end v.tick
    (line ++ (effected c s r who effects left v).move.events)
effected_shuts c s r who [] left v line p over = tt
effected_shuts c s r who (effect.Out value ∷ rest) left v line p over = tt
effected_shuts c s r who (effect.Service k ∷ rest) left v line p over =
    let answer = service c s r k left v in
    let u = leaving answer.world r answer.left in
    let tick : u.tick ≡ v.tick = leaving_tick answer.world r answer.left
    ∙ ap (λ (x : World). x.tick) (service_answers c s r k left v).world.is in
    let call = Called u.tick who k answer.result in
    let shut = shuts_down c (Some ending.Shutdown) u in
    cond_both (is_shutdown k) _ _
    (λ (m : Moved). is_over m.end ≡ true → EndsAs m.end v.tick (line ++ m.events))
    (λ _ _. subst (λ (t : ℕ). EndsAs (Some ending.Shutdown) t (line ++ call ∷ shut.events)) tick (
      status_after line (call ∷ shut.events) p ∙ shuts_status c (Some ending.Shutdown) u,
      last_more line (call ∷ shut.events) (Shutdown u.tick)
          (last_more (call ∷ []) shut.events (Shutdown u.tick) (shuts_last c (Some ending.Shutdown) u)),
    ))
    (λ _ _. tt) over

step_ends : (c : ConfigParts) (s : ScriptParts) (w : World) → is_over (step c s w).end ≡ true
    → EndsAs (step c s w).end w.tick (step c s w).events
unfolding step
step_ends c s w =
    let r = runner_of c w in
    let who = owner_of c w r in
    let state = state_after c s w (left_of w r) in
    let v = record w { vars = state.vars; cursors = state.cursors } in
    let tick = runner_tick c s r who w in
    let line = run_line w who in
    let first = preceded line tick.move in
    let next = tick_over who (is_somebody r && tick.ended) in
    let mute = each_of (MuteAt w.tick) Mute (λ e q. q.1) line (run_at w who) in
    let here = effected_shuts c s r who state.effects state.left v line mute in
    ⊎_elim
    (λ (over : is_over tick.move.end ≡ true) _.
    subst (λ (m : Moved). EndsAs m.end w.tick m.events) (sym (followed_over first next over)) (here over))
    (λ (on : is_over tick.move.end ≡ false).
    subst (λ (m : Moved). is_over m.end ≡ true → EndsAs m.end w.tick m.events) (sym (followed_go first next on))
    (λ over. cc))
    (cases_Bool (is_over tick.move.end))

-- ---- an instant

-- the events of an instant: none is later than the next tick. Where the run goes on, none says that it ends; otherwise
-- all are of this tick and say how it has ended
pub record Tells (T : ℕ) (m : Moved) : Type 0 where
  pub high : Of (λ e. stamp_of e ≤ T + 1) m.events
  pub on : is_over m.end ≡ false → Of Mute m.events
  pub over : is_over m.end ≡ true → Of (λ e. stamp_of e ≤ T) m.events × EndsAs m.end T m.events

pub instant_tells : (c : ConfigParts) (s : ScriptParts) (w : World) (T : ℕ) → w.tick ≡ T → Tells T (instant c s w)
unfolding instant
instant_tells c s w T t =
    let o = opening c s w in
    let led = opening_at_tick c s T w t in
    let up : (e : Event) → IsAt T e → stamp_of e ≤ T + 1 = λ e q. omega arith in
    let to : (e : Event) → IsAt T e → stamp_of e ≤ T = λ e q. omega arith in
    ⊎_elim
    (λ (over : is_over o.end ≡ true).
    let h = led_over (AtTick c s T) (EndsAtTick c s T) [] o over led in
    subst (Tells T) (sym (followed_over o (step c s) over)) (record {
      high = each_of (IsAt T) (λ e. stamp_of e ≤ T + 1) up o.events h.0;
      on = λ on. absurd (false≢true (sym on ∙ over));
      over = λ _. (each_of (IsAt T) (λ e. stamp_of e ≤ T) to o.events h.0, h.2);
    }))
    (λ (on : is_over o.end ≡ false).
    let h = led_on (AtTick c s T) (EndsAtTick c s T) [] o on led in
    let m = step c s o.world in
    let who = owner_of c o.world (runner_of c o.world) in
    let seen = run_line o.world who ++ (runner_tick c s (runner_of c o.world) who o.world).move.events in
    let r = subst (λ (k : ℕ). Reads k m seen) h.0 (step_reads c s o.world) in
    let mute = each_of (MuteAt T) Mute (λ e q. q.1) o.events h.1 in
    let at = each_of (MuteAt T) (IsAt T) (λ e q. q.0) o.events h.1 in
    let ends : is_over m.end ≡ true → EndsAs m.end T m.events =
    subst (λ (k : ℕ). is_over m.end ≡ true → EndsAs m.end k m.events) h.0 (step_ends c s o.world) in
    subst (Tells T) (sym (followed_go o (step c s) on)) (record {
      high = all_more (λ e. stamp_of e ≤ T + 1) o.events m.events
          (each_of (IsAt T) (λ e. stamp_of e ≤ T + 1) up o.events at) r.high;
      on = λ go. all_more Mute o.events m.events mute (r.on go);
      over = λ over. (
        all_more (λ e. stamp_of e ≤ T) o.events m.events (each_of (IsAt T) (λ e. stamp_of e ≤ T) to o.events at)
            (each_of (IsAt T) (λ e. stamp_of e ≤ T) to m.events (r.over over)),
        ends_more o.events m.events m.end T mute (ends over),
      );
    }))
    (cases_Bool (is_over o.end))

-- ---- a run

-- the events before an instant: none is later, and none says that the run ends
pub before_tells : (c : ConfigParts) (s : ScriptParts) (n : ℕ) → GoesOnBefore c s n
    → Of (λ e. (stamp_of e ≤ n) × Mute e) (events_before c s n)
unfolding events_before instant_at
before_tells c s zero g = tt
before_tells c s (suc n) g =
    let less = before_tells c s n (λ k l. g k (omega arith)) in
    let now = instant_tells c s (world_at c s n) n (tick_at c s n (λ k l. g k (omega arith))) in
    let fs = (instant c s (world_at c s n)).events in
    all_more (λ e. (stamp_of e ≤ suc n) × Mute e) (events_before c s n) fs
    (each_of (λ e. (stamp_of e ≤ n) × Mute e) (λ e. (stamp_of e ≤ suc n) × Mute e)
    (λ e q. (let l = q.0 in omega arith, q.1)) (events_before c s n) less)
    (joined fs now.high (now.on (g n (omega arith))))
  where
    joined : (fs : List Event) → Of (λ e. stamp_of e ≤ n + 1) fs → Of Mute fs
        → Of (λ e. (stamp_of e ≤ suc n) × Mute e) fs
    joined [] p q = tt
    joined (e ∷ fs) p q = ((let l = p.0 in omega arith, q.0), joined fs p.1 q.1)

-- a schedule ends as its last instant does
pub schedule_says : (c : ConfigParts) (s : ScriptParts) (n : ℕ) → GoesOnBefore c s n → ends_at c s n ≡ true
    → EndsAs (instant_at c s n).end n (events_before c s (suc n))
unfolding events_before instant_at
schedule_says c s n g over =
    let before = events_before c s n in
    let m = instant c s (world_at c s n) in
    let now = instant_tells c s (world_at c s n) n (tick_at c s n g) in
    let mute = each_of (λ e. (stamp_of e ≤ n) × Mute e) Mute (λ e q. q.1) before (before_tells c s n g) in
    ends_more before m.events m.end n mute (now.over over).1

-- ---- so each run ends in time

stamp_of_last : (from : ℕ) (before : List Event) (e : Event) → stamp_after from (before ++ e ∷ []) ≡ stamp_of e
stamp_of_last from [] e = refl
stamp_of_last from (x ∷ before) e = stamp_of_last (stamp_of x) before e

last_stamp_of : (es : List Event) (e : Event) → IsLastEvent e es → last_stamp es ≡ stamp_of e
last_stamp_of es e p = ap last_stamp p.1 ∙ stamp_of_last 0 p.0 e

stamp_of_end : (end : RunEnd) (at : ℕ) → stamp_of (last_event end at) ≡ at
stamp_of_end ending.LastRound at = refl
stamp_of_end (ending.Missed task) at = refl
stamp_of_end ending.Shutdown at = refl

-- what holds of a run that ends with this outcome at an instant: its status, and the stamp of its last event
pub ended_status : (end : RunEnd) (at : ℕ) (es : List Event) → EndsAs (Some end) at es → status_by end at ≡ status_of es
ended_status end at es p = sym p.0

pub ended_stamp : (end : RunEnd) (at : ℕ) (es : List Event) → EndsAs (Some end) at es → last_stamp es ≡ at
ended_stamp end at es p = last_stamp_of es (last_event end at) p.1 ∙ stamp_of_end end at

ends_by : (end : Outcome) (at : ℕ) (es : List Event) → is_over end ≡ true → EndsAs end at es
    → EndsBy (status_of es) at es
ends_by None at es over p = cc
ends_by (Some end) at es over p =
    subst (λ (status : Status). EndsBy status at es) (sym p.0) (by_cases end p.1)
  where
    by_cases : (e : RunEnd) → IsLastEvent (last_event e at) es → EndsBy (status_by e at) at es
    by_cases ending.LastRound q = q
    by_cases (ending.Missed task) q = (refl, q)
    by_cases ending.Shutdown q = (refl, q)

pub ends_in_time : ScheduleEnds
unfolding schedule events_before instant_at
ends_in_time c s rules script =
    let bounded = are_bounded c s rules script in
    let n = last_instant c s in
    let last = last_is c s bounded in
    let most : n ≤ most_ticks c s = few_ticks c s bounded n last.first in
    let now = instant_tells c s (world_at c s n) n (tick_at c s n last.first) in
    let high : Of (λ e. stamp_of e ≤ most_ticks c s) (schedule c s) =
    all_more (λ e. stamp_of e ≤ most_ticks c s) (events_before c s n) (instant c s (world_at c s n)).events
    (each_of (λ e. (stamp_of e ≤ n) × Mute e) (λ e. stamp_of e ≤ most_ticks c s)
    (λ e q. let l = q.0 in omega arith) (events_before c s n) (before_tells c s n last.first))
    (each_of (λ e. stamp_of e ≤ n) (λ e. stamp_of e ≤ most_ticks c s)
    (λ e q. omega arith) (instant c s (world_at c s n)).events (now.over last.ends).0) in
    record {
      last = last;
      only = λ m l. last_unique c s m n l last;
      bounded = most;
      stamps = of_all (λ e. stamp_of e ≤ most_ticks c s) (schedule c s) high;
      ends_by = ends_by (instant_at c s n).end n (schedule c s) last.ends (schedule_says c s n last.first last.ends);
    }
