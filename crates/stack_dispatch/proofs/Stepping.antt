-- The whole tick of the one who runs: what it reported, and what follows from it.
use Rattle.std.proofs.Common.{ℕ, zero, suc, ◌≡◌, ◌+◌, ◌-◌, ◌<◌, ◌≤◌, ◌^◌, List, [], ◌∷◌, true, Bool, refl, ap, sym, ◌∙◌, None, Some, subst, arith}
use Rattle.std.specs.Prelude.{◌&&◌}
use Rattle.std.proofs.lemmas.Bool.{cond-true}
use Rattle.task_lang.specs.Tick.{tick}
use Rattle.task_lang.specs.declared.syntax.Stmt.{Stmt}
use Rattle.task_lang.specs.declared.tick.Effect.{Effect}
use Rattle.task_lang.specs.declared.tick.Effect.TheVariants as effect
use Rattle.tt_base.specs.declared.event.Event.{Event}
use Rattle.tt_base.specs.declared.event.Event.TheVariants.{Out, Called}
use Rattle.tt_base.specs.declared.event.Call.{Call}
use Rattle.tt_base.specs.declared.event.Owner.{Owner}
use Rattle.tt_world.specs.declared.config.ConfigParts.{ConfigParts}
use Rattle.tt_world.specs.declared.script.ScriptParts.{ScriptParts}
use Rattle.tt_world.specs.declared.world.Runner.{Runner}
use Rattle.tt_world.specs.declared.world.Runner.TheVariants as runner
use Rattle.tt_world.specs.World.{World}
use Rattle.tt_world.specs.Moved.{Moved, Outcome, IsTelling, Gives, goes_on, preceded, followed, is_over}
use Rattle.tt_world.specs.Runners.{left_of, leaving, runner_of, owner_of}
use Rattle.tt_world.specs.Hooks.{shuts_down}
use Rattle.tt_world.specs.Services.{service, is_shutdown}
use Rattle.tt_world.specs.declared.world.RunEnd.TheVariants as ending
use Rattle.tt_world.specs.Step.{state_after, effected, runner_tick, is_somebody, run_line, tick_over}
use Rattle.tt_world.proofs.Forward.{effected_mid}
use Rattle.tt_world.proofs.Moves.{gives_next, gives_stop}
use Rattle.tt_world.proofs.Stamps.{leaving_tick}
use Rattle.tt_world.proofs.Still.{owner_ends}
use Rattle.stack_dispatch.specs.declared.took.Did.{Did}
use Rattle.stack_dispatch.specs.declared.took.Did.TheVariants as did
use Rattle.stack_dispatch.specs.declared.took.Taken.{Taken}
use Rattle.stack_dispatch.specs.Jumps.{CanJump, CanWork, at_work, jump, lessened, lessened_in, waited}
use Rattle.stack_dispatch.specs.State.{Beside, RunState}
use Rattle.stack_dispatch.proofs.Telling.{outcome_is}
use Rattle.stack_dispatch.proofs.Working.{left_waited, owner_waited, waited_alike, tick_lessened, tick_waited, work_owner, work_alike, work_tick}
use Rattle.stack_dispatch.specs.Ticking.{CanTick, IsTick, Took, TookBy, follows}

-- nobody's ticks do nothing
pub took_nobody : (c : ConfigParts) (s : ScriptParts) (k : ℕ) (w : World)
    → Took c s runner.Nobody (lessened k runner.Nobody w) (record { did = did.Nothing; ended = true }) w
unfolding tick
took_nobody c s zero w = record { did = refl; ended_is = refl; world_is = refl }
took_nobody c s (suc k) w = record { did = refl; ended_is = refl; world_is = refl }

-- the ticks that the one who runs takes at once, up to what follows from what the last one did
pub record Stepped {L : Type 0} (Told : L → List Event → L → Type 0) (c : ConfigParts) (s : ScriptParts) (k : ℕ)
    (w : World) (r : Runner) (who : Owner) (a d : L) (v : World) (end : Outcome) (ended : Bool) : Type 0 where
  pub runs : r ≡ runner_of c w
  pub owns : who ≡ owner_of c w r
  pub between : L
  pub line : Told a (run_line w who) between
  pub tick : IsTick Told between d v end ended (runner_tick c s r who (lessened k r (waited k who w)))

module _ {L : Type 0} {Told : L → List Event → L → Type 0} (telling : IsTelling Told) where
  module _ (c : ConfigParts) (s : ScriptParts) (r : Runner) (who : Owner) (a b : L) (v : World) (end : Outcome)
      (taken : Taken) (after : World) where
    follows_is : (d : Did) (x : World) → taken.did ≡ d → after ≡ x
        → Gives Told a b v end (follows c who taken.did after)
        → Gives Told a b v end (follows c who d x)
    follows_is d x e f g =
        subst (λ (y : World). Gives Told a b v end (follows c who d y)) f
        (subst (λ (y : Did). Gives Told a b v end (follows c who y after)) e g)

    out_same : (w : World) (left : List Stmt) (value : _)
        → goes_on (leaving w r left) (Out (leaving w r left).tick who value ∷ [])
        ≡ goes_on (leaving w r left) (Out w.tick who value ∷ [])
    out_same w left value = ap (λ (n : ℕ). goes_on (leaving w r left) (Out n who value ∷ [])) (leaving_tick w r left)

    by_effects : (w : World) (left : List Stmt) (es : List Effect) → TookBy c s r w left es taken after
        → Gives Told a b v end (follows c who taken.did after)
        → IsTick Told a b v end taken.ended (effected c s r who es left w)
    by_effects w left [] t g = record {
      gives = follows_is did.Nothing (leaving w r left) t.did t.world_is g;
      ended_is = t.ended_is;
    }
    by_effects w left (effect.Out value ∷ rest) t g = record {
      gives = subst (Gives Told a b v end) (out_same w left value)
          (follows_is (did.Out value) (leaving w r left) t.did t.world_is g);
      ended_is = t.ended_is;
    }
    by_effects w left (effect.Service k ∷ rest) t g =
        let answer = service c s r k left w in
        record {
          gives = follows_is (did.Called k answer.result) (leaving answer.world r answer.left) t.did t.world_is g;
          ended_is = t.ended_is;
        }

    -- a tick that was taken, and what follows from what it did
    pub tick_from : (w : World) → Took c s r w taken after → Gives Told a b v end (follows c who taken.did after)
        → IsTick Told a b v end taken.ended (runner_tick c s r who w)
    tick_from w t g =
        let state = state_after c s w (left_of w r) in
        by_effects (record w { vars = state.vars; cursors = state.cursors }) state.left state.effects t g

  gives_after : (a b d : L) (line : List Event) (w : World) (end : Outcome) (m : Moved) → Told a line b
      → Gives Told b d w end m
      → Gives Told a d w end (preceded line m)
  gives_after a b d line w end m e g = record {
    world_is = g.world_is;
    told = telling.both a b d line m.events e g.told;
    end_is = g.end_is;
  }

  -- a shutdown follows the line of its call
  pub shut_down_follows : (c : ConfigParts) (who : Owner) (k : Call) (n : ℕ) (w : World) (at : ℕ) (a b d : L)
      (v : World) (end : Outcome) (what : Did)
      → at ≡ w.tick → what ≡ did.Called k n → Told a (Called at who k n ∷ []) b → is_shutdown k ≡ true
      → Gives Told b d v end (shuts_down c (Some ending.Shutdown) w) → Gives Told a d v end (follows c who what w)
  shut_down_follows c who k n w at a b d v end what same is told over g =
      let line : List Event = Called w.tick who k n ∷ [] in
      subst (λ (x : Did). Gives Told a d v end (follows c who x w)) (sym is)
      (subst (Gives Told a d v end)
      (sym (cond-true (is_shutdown k) (preceded line (shuts_down c (Some ending.Shutdown) w)) (goes_on w line) over))
      (gives_after a b d line v end (shuts_down c (Some ending.Shutdown) w)
      (subst (λ (t : ℕ). Told a (Called t who k n ∷ []) b) same told) g))

  -- a tick that does not end the run leaves the present tick to be raised
  tick_stays : (c : ConfigParts) (s : ScriptParts) (r : Runner) (who : Owner) (w v : World) (a b : L)
      → Gives Told a b v None (runner_tick c s r who w).move → v.tick ≡ w.tick
  tick_stays c s r who w v a b g =
      let state = state_after c s w (left_of w r) in
      ap (λ (x : World). x.tick) g.world_is
      ∙ (effected_mid c s r who state.effects state.left w (record w { vars = state.vars; cursors = state.cursors })
      refl refl refl refl
      (ap is_over (sym g.end_is))).tick

  module _ {c : ConfigParts} {s : ScriptParts} {k : ℕ} {w : World} {r : Runner} {who : Owner} {a d : L} {v : World}
      {end : Outcome} {ended : Bool} (h : Stepped Told c s k w r who a d v end ended) where
    jump_as : jump c s k w ≡ followed (preceded (run_line w who)
        (runner_tick c s r who (lessened k r (waited k who w))).move)
        (tick_over who (is_somebody r && (runner_tick c s r who (lessened k r (waited k who w))).ended))
    unfolding jump
    jump_as = rw (h.owns, h.runs) refl

    first : Gives Told a d v end
        (preceded (run_line w who) (runner_tick c s r who (lessened k r (waited k who w))).move)
    first = gives_after a h.between d (run_line w who) v end _ h.line h.tick.gives

    -- where what follows ends the run, the ticks end
    pub step_ends : is_over end ≡ true → Gives Told a d v end (jump c s k w)
    step_ends over = subst (Gives Told a d v end) (sym jump_as) (gives_stop a d v end _ _ over first)

    -- else the last tick is over
    pub step_goes_on : end ≡ None → (f : L) (u : World)
        → Gives Told d f u None (tick_over who (is_somebody r && ended) v)
        → Gives Told a f u None (jump c s k w)
    step_goes_on e f u g = subst (Gives Told a f u None) (sym jump_as)
        (gives_next telling a d f v u None
        (preceded (run_line w who) (runner_tick c s r who (lessened k r (waited k who w))).move)
        (tick_over who (is_somebody r && (runner_tick c s r who (lessened k r (waited k who w))).ended))
        (outcome_is first e)
        (subst (λ x. Gives Told d f u None (tick_over who (is_somebody r && x) v)) h.tick.ended_is g))

    -- and the present tick was not raised before
    pub step_room : end ≡ None → v.tick ≡ w.tick + k
    step_room e = tick_stays c s r who (lessened k r (waited k who w)) v h.between d
        (outcome_is h.tick.gives e)
        ∙ tick_lessened k r (waited k who w) ∙ tick_waited k who w

    -- whether the owner has ended
    pub ends_is : CanWork (suc k) (runner_of c w) (left_of w (runner_of c w)) → (over : Bool)
        → over ≡ (is_somebody r && ended) → over ≡ owner_ends c s (at_work c k w)
    ends_is can over e =
        let u = at_work c k w in
        let q = runner_of c w in
        let same : (is_somebody r && (runner_tick c s r who (lessened k r (waited k who w))).ended)
        ≡ (is_somebody q && (runner_tick c s q (owner_of c w q) u).ended) = rw (h.owns, h.runs) refl in
        e ∙ ap (λ x. is_somebody r && x) h.tick.ended_is ∙ same
        ∙ ap (λ (o : Owner). is_somebody q && (runner_tick c s q o u).ended) (sym (work_owner c w k can))
        ∙ ap (λ (p : Runner). is_somebody p && (runner_tick c s p (owner_of c u p) u).ended)
        (sym (work_alike c w k can).runner)

-- ---- while all ticks but the last are over

-- the last tick has a number
pub waits_number : (c : ConfigParts) (s : ScriptParts) (k : ℕ) → 1 ≤ k → (st : RunState) → CanJump c s k st
    → st.world.tick + k < 2 ^ 64
waits_number c s k some st can = let last = can.last.tick in omega (arith, some, last, work_tick c st.world (k - 1))

-- the one who runs waits for the last of its ticks
pub record Waits (c : ConfigParts) (s : ScriptParts) (k : ℕ) (st after : RunState) (r : Runner) (who : Owner)
    : Type 0 where
  pub some : 1 ≤ k
  pub can : CanJump c s k st
  pub runs : r ≡ runner_of c st.world
  pub owns : who ≡ owner_of c st.world r
  pub is : after.world ≡ waited (k - 1) who st.world
  pub beside : after.beside ≡ st.beside

module _ {c : ConfigParts} {s : ScriptParts} {k : ℕ} {st after : RunState} {r : Runner} {who : Owner}
    (h : Waits c s k st after r who) where
  -- the same one runs, and can take k ticks
  pub waits_within : CanWork k r (left_of after.world r)
  waits_within =
      subst (λ (w : World). CanWork k r (left_of w r)) (sym h.is)
      (subst (λ (left : List Stmt). CanWork k r left) (sym (left_waited (k - 1) who st.world r))
      (subst (λ (q : Runner). CanWork k q (left_of st.world q)) (sym h.runs) h.can.within))

  pub waits_runs : r ≡ runner_of c after.world
  waits_runs = h.runs ∙ sym (waited_alike c (k - 1) who st.world).runner ∙ ap (runner_of c) (sym h.is)

  pub waits_owns : who ≡ owner_of c after.world r
  waits_owns = h.owns ∙ sym (owner_waited c (k - 1) who st.world r) ∙ ap (λ (w : World). owner_of c w r) (sym h.is)

  pub waits_can : CanTick c s (lessened_in (k - 1) r after)
  waits_can =
      let j = k - 1 in
      subst (λ (b : Beside). CanTick c s (record { world = lessened j r after.world; beside = b })) (sym h.beside)
      (subst (λ (w : World). CanTick c s (record { world = lessened j r w; beside = st.beside })) (sym h.is)
      (subst (λ (o : Owner). CanTick c s (record { world = lessened j r (waited j o st.world); beside = st.beside }))
      (sym h.owns)
      (subst (λ (q : Runner). CanTick c s (record {
        world = lessened j q (waited j (owner_of c st.world q) st.world);
        beside = st.beside;
      })) (sym h.runs) h.can.last)))

  -- k - 1 ticks later
  pub waits_last : (last : ℕ) → last ≡ after.world.tick → last ≡ st.world.tick + (k - 1)
  waits_last last e = e ∙ ap (λ (w : World). w.tick) h.is ∙ tick_waited (k - 1) who st.world

  pub waits_work : CanWork (suc (k - 1)) (runner_of c st.world) (left_of st.world (runner_of c st.world))
  waits_work =
      let some = h.some in
      let one : k ≡ suc (k - 1) = omega (arith, some) in
      subst (λ n. CanWork n (runner_of c st.world) (left_of st.world (runner_of c st.world))) one h.can.within
