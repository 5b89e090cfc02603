-- What a part of an instant leaves of the round and its unfinished activations, and where a run ends.
use Rattle.std.proofs.Common.{ℕ, ◌≡◌, ◌≢◌, ◌<◌, ◌+◌, List, [], ◌∷◌, ◌++◌, Bool, true, false, Option, Some, refl, ap, sym, ◌∙◌, subst, arith, length, ◌⊎◌, ⊎_elim, inl, inr, append_assoc}
use Rattle.std.specs.Prelude.{◌&&◌, ◌||◌}
use Rattle.std.proofs.lemmas.Bool.{cond_both, cases_Bool, cases_eq}
use Rattle.std.proofs.lemmas.List.{length-set}
use Rattle.tt_base.specs.declared.event.Event.{Event}
use Rattle.tt_base.specs.declared.event.Event.TheVariants.{End, Called, ShutdownHook, Shutdown}
use Rattle.tt_base.specs.declared.event.Owner.{Owner}
use Rattle.tt_base.specs.declared.event.Owner.TheVariants as owner
use Rattle.task_lang.specs.declared.syntax.Stmt.{Stmt}
use Rattle.task_lang.specs.declared.tick.Effect.{Effect}
use Rattle.task_lang.specs.declared.tick.Effect.TheVariants as effect
use Rattle.tt_world.specs.declared.config.ConfigParts.{ConfigParts}
use Rattle.tt_world.specs.declared.script.ScriptParts.{ScriptParts}
use Rattle.tt_world.specs.declared.world.Runner.{Runner}
use Rattle.tt_world.specs.declared.world.Runner.TheVariants as runner
use Rattle.tt_world.specs.World.{World, Job}
use Rattle.tt_world.specs.Moved.{Moved, is_over, preceded, event_if}
use Rattle.tt_world.specs.Rows.{mode_of, row_of}
use Rattle.tt_world.specs.Runners.{job_at, is_done, with_left, left_of, leaving, runner_of, owner_of}
use Rattle.tt_world.specs.Services.{service, is_shutdown}
use Rattle.tt_world.specs.Step.{state_after, effected, runner_tick, is_somebody, run_line, tick_over, step}
use Rattle.tt_world.specs.Status.{stamp_of, stamp_after, last_stamp}
use Rattle.tt_world.specs.Hooks.{outs_of, shuts_down}
use Rattle.tt_world.specs.Readings.{RoundStart}
use Rattle.tt_world.proofs.Parts.{LeadsTo, followed_at}
use Rattle.tt_world.proofs.Keeps.{service_answers}
use Rattle.tt_world.proofs.JobLists.{at_set, at_other}
use Rattle.tt_world.specs.declared.world.RunEnd.TheVariants as ending
use Rattle.tt_world.specs.Moved.{Outcome}

-- the round of a world
abbrev pub round_in : World → RoundStart
round_in w = record { start = w.start; mode = w.mode }

-- ---- a part that goes on with the same round

-- each unfinished activation stays unfinished, or has its end among these events
pub record Forward (c : ConfigParts) (w v : World) (fs : List Event) : Type 0 where
  pub start : v.start ≡ w.start
  pub mode : v.mode ≡ w.mode
  pub each : (place : ℕ) → place < length w.jobs → is_done (job_at w.jobs place).left ≡ false
      →
      ((place < length v.jobs) × ((is_done (job_at v.jobs place).left ≡ false)
      × ((job_at v.jobs place).entry ≡ (job_at w.jobs place).entry)))
      ⊎
      ((before : List Event)
      × (fs ≡ before ++ End (w.tick + 1) (owner.Task (row_of (mode_of c w) (job_at w.jobs place).entry).task) ∷ []))

pub same_forward : (c : ConfigParts) (w v : World) (fs : List Event) → v.start ≡ w.start → v.mode ≡ w.mode
    → v.jobs ≡ w.jobs → Forward c w v fs
same_forward c w v fs a b d =
    record {
      start = a;
      mode = b;
      each =
          λ place l u. inl (
            subst (λ (xs : List Job). place < length xs) (sym d) l,
            (
              subst (λ (xs : List Job). is_done (job_at xs place).left ≡ false) (sym d) u,
              ap
                  (λ (xs : List Job). (job_at xs place).entry) d,
            ),
          );
    }

-- ---- a tick

abbrev pub left_acts : Runner → List Job → List Stmt → List Job
left_acts (runner.Job q) xs after = with_left xs q after
left_acts r xs after = xs

-- a tick before it is over: what is left of the activations, and that a runner of which nothing is left has ended
pub record Mid (w : World) (r : Runner) (v : World) (ended : Bool) : Type 0 where
  pub after : List Stmt
  pub start : v.start ≡ w.start
  pub mode : v.mode ≡ w.mode
  pub tick : v.tick ≡ w.tick
  pub acts : v.jobs ≡ left_acts r w.jobs after
  pub ends : is_done after ≡ true → ended ≡ true

leaving_mid : (w : World) (r : Runner) (v : World) (after : List Stmt) (ended : Bool) → v.start ≡ w.start
    → v.mode ≡ w.mode → v.tick ≡ w.tick → v.jobs ≡ w.jobs → (is_done after ≡ true → ended ≡ true)
    → Mid w r (leaving v r after) ended
leaving_mid w (runner.Isr i) v after ended a b t d e =
    record { after = after; start = a; mode = b; tick = t; acts = d; ends = e }
leaving_mid w (runner.Job q) v after ended a b t d e =
    record {
      after = after;
      start = a;
      mode = b;
      tick = t;
      acts = ap (λ (xs : List Job). with_left xs q after) d;
      ends =
          e;
    }
leaving_mid w (runner.Oisr i) v after ended a b t d e =
    record { after = after; start = a; mode = b; tick = t; acts = d; ends = e }
leaving_mid w (runner.Osek i) v after ended a b t d e =
    record { after = after; start = a; mode = b; tick = t; acts = d; ends = e }
leaving_mid w runner.Nobody v after ended a b t d e =
    record { after = after; start = a; mode = b; tick = t; acts = d; ends = e }

or_true : (a b : Bool) → b ≡ true → a || b ≡ true
or_true true b e = refl
or_true false b e = e

module _ (c : ConfigParts) (s : ScriptParts) where
  pub effected_mid : (r : Runner) (who : Owner) (effects : List Effect) (left : List Stmt) (w v : World)
      → v.start ≡ w.start → v.mode ≡ w.mode → v.tick ≡ w.tick → v.jobs ≡ w.jobs
      → is_over (effected c s r who effects left v).move.end ≡ false
      → Mid w r (effected c s r who effects left v).move.world (effected c s r who effects left v).ended
  effected_mid r who [] left w v a b t d on = leaving_mid w r v left (is_done left) a b t d (λ e. e)
  effected_mid r who (effect.Out value ∷ rest) left w v a b t d on =
      leaving_mid w r v left (is_done left) a b t d (λ e. e)
  effected_mid r who (effect.Service k ∷ rest) left w v a b t d on =
      let answer = service c s r k left v in
      let h = (service_answers c s r k left v).world in
      cond_both (is_shutdown k) _ _ (λ (m : Moved). is_over m.end ≡ false
      → Mid w r m.world (answer.ends || is_done answer.left)) (λ _ on. cc)
      (λ _ on.
      leaving_mid w r answer.world answer.left (answer.ends || is_done answer.left)
      (ap (λ (x : World). x.start) h.is ∙ a) (ap (λ (x : World). x.mode) h.is ∙ b)
      (ap (λ (x : World). x.tick) h.is ∙ t) (ap (λ (x : World). x.jobs) h.is ∙ d)
      (or_true answer.ends (is_done answer.left)))
      on

  tick_forward : (w : World) (r : Runner) (v : World) (ended : Bool) (es : List Event) (last : Option Owner)
      → Mid w r v ended
      → Forward c w (record v { tick = v.tick + 1; last = last })
      (es ++ event_if (is_somebody r && ended) (End (v.tick + 1) (owner_of c w r)))
  tick_forward w (runner.Isr i) v ended es last m = same_forward c w _ _ m.start m.mode m.acts
  tick_forward w (runner.Oisr i) v ended es last m = same_forward c w _ _ m.start m.mode m.acts
  tick_forward w (runner.Osek i) v ended es last m = same_forward c w _ _ m.start m.mode m.acts
  tick_forward w runner.Nobody v ended es last m = same_forward c w _ _ m.start m.mode m.acts
  tick_forward w (runner.Job q) v ended es last m =
      let xs = w.jobs in
      let who : ℕ → Owner = λ (place : ℕ). owner.Task (row_of (mode_of c w) (job_at xs place).entry).task in
      record {
        start = m.start;
        mode = m.mode;
        each = λ place l u.
            let long : place < length v.jobs = let n = ap (λ (ys : List Job). length ys) m.acts in
            let k = length-set xs q (record { entry = (job_at xs q).entry; left = m.after }) in omega arith in
            ⊎_elim
            (λ (e : place ≡ q).
            let here : q < length xs = omega arith in
            let at : job_at v.jobs place ≡ record { entry = (job_at xs q).entry; left = m.after } =
            ap (λ (ys : List Job). job_at ys place) m.acts ∙ ap (job_at (with_left xs q m.after)) e
            ∙ at_set xs q m.after here in
            ⊎_elim
            (λ (d : is_done m.after ≡ true).
            let x : event_if ended (End (v.tick + 1) (who q)) ≡ End (v.tick + 1) (who q) ∷ [] =
            ap (λ (b : Bool). event_if b (End (v.tick + 1) (who q))) (m.ends d) in
            let y : End (v.tick + 1) (who q) ≡ End (w.tick + 1) (who place) = ap (λ (t : ℕ). End (t + 1) (who q)) m.tick
            ∙ ap (λ (p : ℕ). End (w.tick + 1) (who p)) (sym e) in
            inr (es, ap (λ (ys : List Event). es ++ ys) (x ∙ ap (λ (z : Event). z ∷ []) y)))
            (λ (d : is_done m.after ≡ false). inl (
              long,
              (
                ap (λ (i : Job). is_done i.left) at ∙ d,
                ap (λ (i : Job). i.entry) at
                    ∙ ap (λ (p : ℕ). (job_at xs p).entry) (sym e),
              ),
            ))
            (cases_Bool (is_done m.after)))
            (λ (ne : place ≢ q).
            let at : job_at v.jobs place ≡ job_at xs place = ap (λ (ys : List Job). job_at ys place) m.acts
            ∙ at_other xs q place m.after ne in
            inl (long, (ap (λ (i : Job). is_done i.left) at ∙ u, ap (λ (i : Job). i.entry) at)))
            (cases_eq place q);
      }

-- ---- where a run ends

-- the last of these events has this stamp
abbrev pub EndsAt : ℕ → List Event → Type 0
EndsAt t es = (before : List Event) × (e : Event) × (es ≡ before ++ e ∷ []) × (stamp_of e ≡ t)

pub ends_after : (t : ℕ) (es fs : List Event) → EndsAt t fs → EndsAt t (es ++ fs)
ends_after t es fs h = (
  es ++ h.0,
  h.1,
  ap (λ (xs : List Event). es ++ xs) h.2
      ∙ sym (append_assoc es h.0 (h.1 ∷ [])),
  h.3,
)

stamp_last : (x : ℕ) (es : List Event) (e : Event) → stamp_after x (es ++ e ∷ []) ≡ stamp_of e
stamp_last x [] e = refl
stamp_last x (y ∷ es) e = stamp_last (stamp_of y) es e

pub last_stamp_at : (t : ℕ) (es : List Event) → EndsAt t es → last_stamp es ≡ t
last_stamp_at t es h = ap last_stamp h.2 ∙ stamp_last 0 h.0 h.1 ∙ h.3

module _ (c : ConfigParts) (s : ScriptParts) where
  pub shut_at : (end : Outcome) (w : World) (line : List Event) → EndsAt w.tick (line ++ (shuts_down c end w).events)
  shut_at end w line =
      let outs = outs_of w.tick owner.ShutdownHook w.vars c.shutdown_hook in
      ends_after w.tick line (shuts_down c end w).events
      (ends_after w.tick (ShutdownHook w.tick ∷ outs) (Shutdown w.tick ∷ []) ([], Shutdown w.tick, refl, refl))

  effected_over : (r : Runner) (who : Owner) (effects : List Effect) (left : List Stmt) (w v : World) → v.tick ≡ w.tick
      → is_over (effected c s r who effects left v).move.end ≡ true
      → EndsAt w.tick (effected c s r who effects left v).move.events
  effected_over r who [] left w v t over = cc
  effected_over r who (effect.Out value ∷ rest) left w v t over = cc
  effected_over r who (effect.Service k ∷ rest) left w v t over =
      let answer = service c s r k left v in
      let h = (service_answers c s r k left v).world in
      let u = leaving answer.world r answer.left in
      let tick : u.tick ≡ w.tick = leaving_tick answer.world r answer.left ∙ ap (λ (x : World). x.tick) h.is ∙ t in
      cond_both (is_shutdown k) _ _ (λ (m : Moved). is_over m.end ≡ true → EndsAt w.tick m.events)
      (λ _ over. subst (λ (x : ℕ). EndsAt x
      (Called u.tick who k answer.result ∷ (shuts_down c (Some ending.Shutdown) u).events)) tick
      (shut_at (Some ending.Shutdown) u (Called u.tick who k answer.result ∷ []))) (λ _ over. cc) over
    where
      leaving_tick : (x : World) (r : Runner) (after : List Stmt) → (leaving x r after).tick ≡ x.tick
      leaving_tick x (runner.Isr i) after = refl
      leaving_tick x (runner.Job q) after = refl
      leaving_tick x (runner.Oisr i) after = refl
      leaving_tick x (runner.Osek i) after = refl
      leaving_tick x runner.Nobody after = refl

  -- a tick: each unfinished activation stays unfinished or has its end, and a shutdown is the last event
  pub step_forward : (w : World) → LeadsTo (λ v fs. Forward c w v fs) (λ end v fs. EndsAt w.tick fs) [] (step c s w)
  unfolding step
  step_forward w =
      let r = runner_of c w in
      let who = owner_of c w r in
      let state = state_after c s w (left_of w r) in
      let v = record w { vars = state.vars; cursors = state.cursors } in
      let tick = runner_tick c s r who w in
      followed_at (λ v fs. Forward c w v fs) (λ end v fs. EndsAt w.tick fs) [] (preceded (run_line w who) tick.move)
      (tick_over who (is_somebody r && tick.ended))
      (λ over. ends_after w.tick (run_line w who) tick.move.events
      (effected_over r who state.effects state.left w v refl over))
      (λ on. tick_forward c s w r tick.move.world tick.ended (run_line w who ++ tick.move.events) (Some who)
      (effected_mid c s r who state.effects state.left w v refl refl refl refl on))
