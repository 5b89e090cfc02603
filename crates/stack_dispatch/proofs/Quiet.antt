-- A tick of work, and a tick of idle time: it takes the tick, and nothing else changes.
use Rattle.std.proofs.Common.{ℕ, suc, ◌≡◌, ◌≤◌, ◌+◌, List, [], ◌++◌, Bool, true, false, Option, Some, refl, ap, sym, ◌∙◌, subst, arith, append_assoc, append-nil, inl, inr, ⊎_elim}
use Rattle.std.specs.Prelude.{◌&&◌, max, not}
use Rattle.std.proofs.lemmas.Bool.{and_right, eq-eqb}
use Rattle.task_lang.specs.Tick.{State, supply_of, state_of, tick}
use Rattle.task_lang.specs.declared.syntax.Stmt.{Stmt}
use Rattle.task_machine.specs.Standing.{work_in_front}
use Rattle.tt_base.specs.declared.event.Event.{Event}
use Rattle.tt_base.specs.declared.event.Event.TheVariants.{Run}
use Rattle.tt_base.specs.declared.event.Owner.{Owner}
use Rattle.tt_base.specs.declared.event.Owner.TheVariants as owner
use Rattle.tt_world.specs.declared.config.ConfigParts.{ConfigParts}
use Rattle.tt_world.specs.declared.script.ScriptParts.{ScriptParts}
use Rattle.tt_world.specs.declared.world.Runner.{Runner}
use Rattle.tt_world.specs.declared.world.Runner.TheVariants as runner
use Rattle.tt_world.specs.Moved.{Moved, continued, event_if, followed, goes_on, is_over, preceded}
use Rattle.tt_world.specs.Runners.{is_done, left_of, leaving, owner_of, ran_before, runner_of, same_owner}
use Rattle.tt_world.specs.Step.{effected, is_somebody, run_line, runner_tick, state_after, step, tick_over}
use Rattle.tt_world.specs.World.{World}
use Rattle.tt_world.proofs.Still.{owner_ends}
use Rattle.stack_dispatch.specs.Jumps.{CanWork, at_work, jump, lessened, waited, worked_off}
use Rattle.stack_dispatch.proofs.WorkedOff.{front_worked, tick_works, undone_worked}
use Rattle.stack_dispatch.proofs.Working.{fewer, leaving_last, some_left, wait_lessened, work_left, work_owner, work_alike}

-- ---- a line before a tick

owner_is : (who : Owner) → same_owner who who ≡ true
owner_is (owner.Task a) = eq-eqb a.0 a.0 refl
owner_is (owner.Isr a) = eq-eqb a.0 a.0 refl
owner_is (owner.Osek a) = eq-eqb a.0 a.0 refl
owner_is (owner.Oisr a) = eq-eqb a.0 a.0 refl
owner_is owner.ErrorHook = refl
owner_is owner.ShutdownHook = refl
owner_is owner.Idle = refl

-- an owner that goes on has no line
pub no_line : (w : World) (who : Owner) → w.last ≡ Some who → run_line w who ≡ []
no_line w who e =
    ap (λ (o : Option Owner). event_if (not (ran_before o who)) (Run w.tick who)) e
    ∙ ap (λ b. event_if (not b) (Run w.tick who)) (owner_is who)

line_first : (over : Bool) (line : List Event) (m : Moved) (next : World → Moved)
    → continued over (preceded line m) next ≡ preceded line (continued over (preceded [] m) next)
line_first true line m next = refl
line_first false line m next =
    ap (λ (es : List Event). record { world = (next m.world).world; events = es; end = (next m.world).end })
    (append_assoc line m.events (next m.world).events)

-- after ticks of work the one who runs ran before
pub last_runner : (c : ConfigParts) (w : World) (k : ℕ)
    → (at_work c (suc k) w).last ≡ Some (owner_of c w (runner_of c w))
last_runner c w k = leaving_last (waited (suc k) (owner_of c w (runner_of c w)) w) (runner_of c w) _

-- ---- a tick of work

module _ (c : ConfigParts) (s : ScriptParts) (w : World) where
  abbrev later : Owner → World → World
  later who v = record v { tick = v.tick + 1; last = Some who }

  module _ (r : Runner) (who : Owner) where
    abbrev whole : Moved
    whole = followed (preceded (run_line w who) (runner_tick c s r who w).move)
        (tick_over who (is_somebody r && (runner_tick c s r who w).ended))

    line_alone : (line : List Event) → (line ++ []) ++ [] ≡ line
    line_alone line = append-nil (line ++ []) ∙ append-nil line

    undone_goes_on : (left : List Stmt) (b : Bool) → b ≡ false
        → followed (preceded (run_line w who) (goes_on (leaving w r left) [])) (tick_over who b)
        ≡ goes_on (later who (leaving w r left)) (run_line w who)
    unfolding followed
    undone_goes_on left b e =
        ap (λ x. followed (preceded (run_line w who) (goes_on (leaving w r left) [])) (tick_over who x)) e
        ∙ ap (λ (es : List Event). goes_on (later who (leaving w r left)) es) (line_alone (run_line w who))

    module _ (l : 2 ≤ max 1 (work_in_front (left_of w r))) where
      state_is : state_after c s w (left_of w r) ≡ state_of (worked_off 1 (left_of w r)) w.vars w.cursors []
      state_is = tick_works (supply_of c.demands s.values) w.vars w.cursors (left_of w r) (omega arith)

      undone : is_done (worked_off 1 (left_of w r)) ≡ false
      undone = undone_worked 1 (left_of w r) l ∙ some_left (left_of w r) l

      not_ended : (is_somebody r && is_done (worked_off 1 (left_of w r))) ≡ false
      not_ended = and_right (is_somebody r) _ undone

      works_on : whole ≡ goes_on (later who (leaving w r (worked_off 1 (left_of w r)))) (run_line w who)
      works_on =
          ap (λ (st : State). followed
          (preceded (run_line w who) (effected c s r who st.effects st.left
          (record w { vars = st.vars; cursors = st.cursors })).move)
          (tick_over who (is_somebody r && (effected c s r who st.effects st.left
          (record w { vars = st.vars; cursors = st.cursors })).ended))) state_is
          ∙ undone_goes_on (worked_off 1 (left_of w r)) (is_somebody r && is_done (worked_off 1 (left_of w r)))
          not_ended

      works_not_ended : (is_somebody r && (runner_tick c s r who w).ended) ≡ false
      works_not_ended =
          ap (λ (st : State). is_somebody r && (effected c s r who st.effects st.left
          (record w { vars = st.vars; cursors = st.cursors })).ended) state_is
          ∙ not_ended

  idles_on : (who : Owner) → whole runner.Nobody who ≡ goes_on (later who w) (run_line w who)
  unfolding tick followed
  idles_on who = ap (λ (es : List Event). goes_on (later who w) es) (line_alone runner.Nobody who (run_line w who))

  -- the tick of one who works on, or of nobody
  module _ (can : CanWork 2 (runner_of c w) (left_of w (runner_of c w))) where
    abbrev r : Runner
    r = runner_of c w

    abbrev who : Owner
    who = owner_of c w r

    pub quiet_step : step c s w ≡ goes_on (at_work c 1 w) (run_line w (owner_of c w (runner_of c w)))
    unfolding step
    quiet_step =
        ⊎_elim
        (λ (e : runner_of c w ≡ runner.Nobody).
        subst (λ (q : Runner). whole q (owner_of c w q)
        ≡ goes_on (lessened 1 q (waited 1 (owner_of c w q) w)) (run_line w (owner_of c w q))) (sym e)
        (idles_on owner.Idle))
        (λ (l : 2 ≤ max 1 (work_in_front (left_of w r))).
        works_on r who l
        ∙ ap (λ (v : World). goes_on v (run_line w who)) (wait_lessened 1 1 who w r)) can

    pub quiet_goes_on : owner_ends c s w ≡ false
    quiet_goes_on =
        ⊎_elim
        (λ (e : runner_of c w ≡ runner.Nobody).
        subst (λ (q : Runner). (is_somebody q && (runner_tick c s q (owner_of c w q) w).ended) ≡ false) (sym e) refl)
        (λ (l : 2 ≤ max 1 (work_in_front (left_of w r))). works_not_ended r who l) can

  -- ---- k ticks of work, and then a tick

  pub jump_none : jump c s 0 w ≡ step c s w
  unfolding jump step
  jump_none = refl

  module _ (k : ℕ) (can : CanWork (suc (suc k)) (runner_of c w) (left_of w (runner_of c w))) where
    abbrev now : World
    now = at_work c (suc k) w

    -- the tick after work has no line of its own
    pub jump_some : jump c s (suc k) w
        ≡ preceded (run_line w (owner_of c w (runner_of c w))) (step c s (at_work c (suc k) w))
    unfolding jump step followed
    jump_some =
        let r = runner_of c w in
        let who = owner_of c w r in
        let m = (runner_tick c s r who now).move in
        let next = tick_over who (is_somebody r && (runner_tick c s r who now).ended) in
        line_first (is_over m.end) (run_line w who) m next
        ∙ ap (λ (line : List Event). preceded (run_line w who) (continued (is_over m.end) (preceded line m) next))
        (sym (no_line now who (last_runner c w k)))
        ∙ ap (λ (o : Owner). preceded (run_line w who) (followed
        (preceded (run_line now o) (runner_tick c s r o now).move)
        (tick_over o (is_somebody r && (runner_tick c s r o now).ended)))) (sym (work_owner c w (suc k) can))
        ∙ ap (λ (q : Runner). preceded (run_line w who) (followed
        (preceded (run_line now (owner_of c now q)) (runner_tick c s q (owner_of c now q) now).move)
        (tick_over (owner_of c now q) (is_somebody q && (runner_tick c s q (owner_of c now q) now).ended))))
        (sym (work_alike c w (suc k) can).runner)

    -- the tick between is quiet too
    pub can_more : CanWork 2 (runner_of c (at_work c k w)) (left_of (at_work c k w) (runner_of c (at_work c k w)))
    can_more =
        let r = runner_of c w in
        let less = fewer (suc k) (suc (suc k)) r (left_of w r) (omega arith) can in
        subst (λ (q : Runner). CanWork 2 q (left_of (at_work c k w) q)) (sym (work_alike c w k less).runner)
        (subst (λ (left : List Stmt). CanWork 2 r left) (sym (work_left c w k less))
        (⊎_elim (λ (e : r ≡ runner.Nobody). inl e)
        (λ (l : suc (suc k) ≤ max 1 (work_in_front (left_of w r))).
        let front = front_worked k (left_of w r) (omega arith) in inr (omega arith)) can))
