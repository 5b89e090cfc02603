-- What a tick leaves as it was: the round, the gates, and, unless its owner has ended, which interrupts can be
-- accepted.
use Rattle.std.proofs.Common.{ℕ, ◌≡◌, ◌+◌, List, [], ◌∷◌, Bool, true, false, refl, ap, sym, ◌∙◌, ⊎_elim}
use Rattle.std.specs.Prelude.{ℤ, ◌&&◌, ◌||◌}
use Rattle.std.proofs.lemmas.Bool.{cond_both, and_parts, cases_Bool, true≢false}
use Rattle.tt_base.specs.declared.event.Owner.{Owner}
use Rattle.tt_base.specs.declared.number.ModeNo.{ModeNo}
use Rattle.task_lang.specs.declared.syntax.Stmt.{Stmt}
use Rattle.task_lang.specs.declared.tick.Effect.{Effect}
use Rattle.task_lang.specs.declared.tick.Effect.TheVariants as effect
use Rattle.tt_world.specs.declared.config.ConfigParts.{ConfigParts}
use Rattle.tt_world.specs.declared.script.ScriptParts.{ScriptParts}
use Rattle.tt_world.specs.declared.world.Runner.{Runner}
use Rattle.tt_world.specs.declared.world.Runner.TheVariants as runner
use Rattle.tt_world.specs.World.{World, Source, IsrSource, OisrSource}
use Rattle.tt_world.specs.Gates.{is_held, is_enabled, is_accepted, source_runner}
use Rattle.tt_world.specs.Moved.{Moved, preceded, is_over, continued, followed}
use Rattle.tt_world.specs.Runners.{is_done, left_of, leaving, runner_of, owner_of}
use Rattle.tt_world.specs.Services.{service, is_shutdown}
use Rattle.tt_world.specs.Step.{effected, state_after, runner_tick, is_somebody, run_line, tick_over, step}
use Rattle.tt_world.proofs.Keeps.{service_answers, StepKeeps, step_holds}
use Rattle.tt_world.proofs.Modes.{leaving_cases}
use Rattle.tt_world.proofs.Parts.{Alone, Anything, led_on, followed_on}

-- ---- the round and the gates

pub record Still (w v : World) : Type 0 where
  pub tick : v.tick ≡ w.tick + 1
  pub start : v.start ≡ w.start
  pub mode : v.mode ≡ w.mode
  pub latched : v.latched ≡ w.latched
  pub enabled : v.isrs_enabled ≡ w.isrs_enabled
  pub held : v.isrs_held ≡ w.isrs_held
  pub oheld : v.oisrs_held ≡ w.oisrs_held

module _ (c : ConfigParts) (s : ScriptParts) (w : World) where
  record Now (v : World) : Type 0 where
    tick : v.tick ≡ w.tick
    start : v.start ≡ w.start
    mode : v.mode ≡ w.mode
    latched : v.latched ≡ w.latched
    enabled : v.isrs_enabled ≡ w.isrs_enabled
    held : v.isrs_held ≡ w.isrs_held
    oheld : v.oisrs_held ≡ w.oisrs_held

  left_now : (v : World) (r : Runner) (after : List Stmt) → Now v → Now (leaving v r after)
  left_now v (runner.Isr i) after p =
      record {
        tick = p.tick;
        start = p.start;
        mode = p.mode;
        latched = p.latched;
        enabled = p.enabled;
        held = p.held;
        oheld = p.oheld;
      }
  left_now v (runner.Job q) after p =
      record {
        tick = p.tick;
        start = p.start;
        mode = p.mode;
        latched = p.latched;
        enabled = p.enabled;
        held = p.held;
        oheld = p.oheld;
      }
  left_now v (runner.Oisr i) after p =
      record {
        tick = p.tick;
        start = p.start;
        mode = p.mode;
        latched = p.latched;
        enabled = p.enabled;
        held = p.held;
        oheld = p.oheld;
      }
  left_now v (runner.Osek i) after p =
      record {
        tick = p.tick;
        start = p.start;
        mode = p.mode;
        latched = p.latched;
        enabled = p.enabled;
        held = p.held;
        oheld = p.oheld;
      }
  left_now v runner.Nobody after p = p

  step_now : StepKeeps c s Now Now (Still w)
  step_now = record {
    left = λ v after p _. left_now v (runner_of c v) after p;
    free = λ v _ _ _ _ _ p. record {
      tick = p.tick;
      start = p.start;
      mode = p.mode;
      latched = p.latched;
      enabled =
          p.enabled;
      held = p.held;
      oheld = p.oheld;
    };
    synced = λ v _ p. record {
      tick = p.tick;
      start = p.start;
      mode = p.mode;
      latched = p.latched;
      enabled =
          p.enabled;
      held = p.held;
      oheld = p.oheld;
    };
    over = λ v _ p. record {
      tick = ap (λ t. t + 1) p.tick;
      start = p.start;
      mode = p.mode;
      latched = p.latched;
      enabled = p.enabled;
      held = p.held;
      oheld = p.oheld;
    };
  }

  pub step_still : is_over (step c s w).end ≡ false → Still w (step c s w).world
  step_still on =
      led_on (Alone (Still w)) Anything [] (step c s w) on
      (step_holds c s Now Now (Still w) step_now w []
      (record { tick = refl; start = refl; mode = refl; latched = refl; enabled = refl; held = refl; oheld = refl }))

-- ---- interrupts that can be accepted

-- whether the one who runs ends with this tick
abbrev pub owner_ends : ConfigParts → ScriptParts → World → Bool
owner_ends c s w =
    let runner = runner_of c w in is_somebody runner && (runner_tick c s runner (owner_of c w runner) w).ended

abbrev by_left : World → Source → List Stmt → Bool
by_left w x left = is_held w x && (is_enabled w x && is_done left)

-- where what is left of a runner changed, an acceptance depends on it only by what is left of its own routine
gates_stay : (w : World) (r : Runner) (left : List Stmt) (x : Source)
    → is_accepted (leaving w r left) x ≡ by_left w x (left_of (leaving w r left) (source_runner x))
gates_stay w (runner.Isr i) left (IsrSource j) = refl
gates_stay w (runner.Isr i) left (OisrSource j) = refl
gates_stay w (runner.Job q) left (IsrSource j) = refl
gates_stay w (runner.Job q) left (OisrSource j) = refl
gates_stay w (runner.Oisr i) left (IsrSource j) = refl
gates_stay w (runner.Oisr i) left (OisrSource j) = refl
gates_stay w (runner.Osek i) left (IsrSource j) = refl
gates_stay w (runner.Osek i) left (OisrSource j) = refl
gates_stay w runner.Nobody left (IsrSource j) = refl
gates_stay w runner.Nobody left (OisrSource j) = refl

-- where something is left of the one who ran, no other interrupt can be accepted than before
somebody_accepts : (w : World) (r : Runner) (left : List Stmt) (x : Source) → is_done left ≡ false
    → is_accepted (leaving w r left) x ≡ true → is_accepted w x ≡ true
somebody_accepts w r left x undone e =
    let now = sym (gates_stay w r left x) ∙ e in
    ⊎_elim
    (λ (same : left_of (leaving w r left) (source_runner x) ≡ left).
    let parts = and_parts (is_held w x) _ now in
    let done = (and_parts (is_enabled w x) _ parts.1).1 in
    absurd (true≢false (sym done ∙ ap is_done same ∙ undone)))
    (λ (same : left_of (leaving w r left) (source_runner x) ≡ left_of w (source_runner x)). sym
    (ap (by_left w x) same) ∙ now)
    (leaving_cases w r (source_runner x) left)

leaves_accepted : (w : World) (r : Runner) (left : List Stmt) (x : Source) → (is_somebody r && is_done left) ≡ false
    → is_accepted (leaving w r left) x ≡ true → is_accepted w x ≡ true
leaves_accepted w (runner.Isr i) left x undone e = somebody_accepts w (runner.Isr i) left x undone e
leaves_accepted w (runner.Job q) left x undone e = somebody_accepts w (runner.Job q) left x undone e
leaves_accepted w (runner.Oisr i) left x undone e = somebody_accepts w (runner.Oisr i) left x undone e
leaves_accepted w (runner.Osek i) left x undone e = somebody_accepts w (runner.Osek i) left x undone e
leaves_accepted w runner.Nobody left x undone e = e

-- other variables and cursors, and what a service leaves
same_accepted : (w : World) (vars : List ℤ) (cursors : List ℕ) (wanted : ModeNo) (pending : ℤ) (used : ℕ)
    (oseks : List (List Stmt)) (x : Source)
    → is_accepted (record w {
      vars = vars;
      cursors = cursors;
      wanted = wanted;
      pending = pending;
      times_used = used;
      oseks = oseks;
    }) x ≡ is_accepted w x
same_accepted w vars cursors wanted pending used oseks (IsrSource i) = refl
same_accepted w vars cursors wanted pending used oseks (OisrSource i) = refl

neither : (somebody a b : Bool) → (somebody && (a || b)) ≡ false → (somebody && b) ≡ false
neither false a b e = refl
neither true true b e = cc
neither true false b e = e

module _ (c : ConfigParts) (s : ScriptParts) where
  effected_accepts : (r : Runner) (who : Owner) (effects : List Effect) (left : List Stmt) (w : World) (vars : List ℤ)
      (cursors : List ℕ) (x : Source)
      → is_over (effected c s r who effects left (record w { vars = vars; cursors = cursors })).move.end ≡ false
      → (is_somebody r && (effected c s r who effects left (record w { vars = vars; cursors = cursors })).ended) ≡ false
      → is_accepted (effected c s r who effects left (record w { vars = vars; cursors = cursors })).move.world x
      ≡ true → is_accepted w x ≡ true
  effected_accepts r who [] left w vars cursors x on undone e =
      sym (same_accepted w vars cursors w.wanted w.pending w.times_used w.oseks x) ∙ leaves_accepted _ r left x undone e
  effected_accepts r who (effect.Out value ∷ rest) left w vars cursors x on undone e =
      sym (same_accepted w vars cursors w.wanted w.pending w.times_used w.oseks x) ∙ leaves_accepted _ r left x undone e
  effected_accepts r who (effect.Service k ∷ rest) left w vars cursors x on undone e =
      let v = record w { vars = vars; cursors = cursors } in
      let answer = service c s r k left v in
      let h = (service_answers c s r k left v).world in
      let accepted : is_accepted (leaving answer.world r answer.left) x ≡ true → is_accepted w x ≡ true =
      λ f.
      sym (ap (λ u. is_accepted u x) h.is ∙ same_accepted w vars cursors h.wanted h.pending h.used h.oseks x)
      ∙ leaves_accepted answer.world r answer.left x
      (neither (is_somebody r) answer.ends (is_done answer.left) undone) f in
      cond_both (is_shutdown k) _ _
      (λ (m : Moved). is_over m.end ≡ false → is_accepted m.world x ≡ true → is_accepted w x ≡ true)
      (λ _ over f. cc) (λ _ _ f. accepted f) on e

  ticked : (over : Bool) (m : Moved) (who : Owner) (ended : Bool) (x : Source) → is_over m.end ≡ over
      → is_over (continued over m (tick_over who ended)).end ≡ false
      → is_accepted (continued over m (tick_over who ended)).world x ≡ is_accepted m.world x
  ticked true m who ended x e on = refl
  ticked false m who ended (IsrSource i) e on = refl
  ticked false m who ended (OisrSource i) e on = refl

  -- an interrupt that could not be accepted can still not be accepted after a tick whose owner has not ended
  pub step_accepts : (w : World) (x : Source) → is_over (step c s w).end ≡ false → owner_ends c s w ≡ false
      → is_accepted w x ≡ false → is_accepted (step c s w).world x ≡ false
  unfolding step followed
  step_accepts w x on undone none =
      let r = runner_of c w in
      let who = owner_of c w r in
      let state = state_after c s w (left_of w r) in
      let tick = runner_tick c s r who w in
      let first = preceded (run_line w who) tick.move in
      ⊎_elim
      (λ (t : is_accepted (step c s w).world x ≡ true).
      absurd (true≢false (sym (effected_accepts r who state.effects state.left w state.vars state.cursors x
      (followed_on first (tick_over who (is_somebody r && tick.ended)) on) undone
      (sym (ticked (is_over first.end) first who (is_somebody r && tick.ended) x refl on) ∙ t)) ∙ none)))
      (λ (f : is_accepted (step c s w).world x ≡ false). f)
      (cases_Bool (is_accepted (step c s w).world x))
