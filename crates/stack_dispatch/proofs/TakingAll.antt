-- Ticks of the one who runs that are taken at once: those of work are taken off, and the last is a tick of what is
-- left.
use Rattle.std.proofs.Common.{ℕ, zero, suc, ◌≡◌, ◌≢◌, ◌≤◌, ◌-◌, List, [], Bool, true, false, Option, Some, refl, ap, sym, ◌∙◌, subst, arith, length}
use Rattle.std.specs.Prelude.{ℤ, ◌↔◌, ◌||◌, IsSome, IsTrue, max, unwrap_or}
use Rattle.std.proofs.lemmas.List.{set-set}
use Rattle.task_lang.specs.Tick.{State, supply_of, state_of, tick, ticks}
use Rattle.task_lang.specs.declared.syntax.Stmt.{Stmt}
use Rattle.task_lang.specs.declared.tick.Effect.{Effect}
use Rattle.task_machine.specs.Standing.{work_in_front}
use Rattle.tt_base.specs.declared.event.Owner.{Owner}
use Rattle.tt_base.specs.declared.event.Owner.TheVariants as owner
use Rattle.tt_world.specs.declared.config.ConfigParts.{ConfigParts}
use Rattle.tt_world.specs.declared.script.ScriptParts.{ScriptParts}
use Rattle.tt_world.specs.declared.world.Runner.{Runner}
use Rattle.tt_world.specs.declared.world.Runner.TheVariants as runner
use Rattle.tt_world.specs.World.{World}
use Rattle.tt_world.specs.Runners.{is_done, left_of, leaving, runner_of, owner_of}
use Rattle.tt_world.specs.Step.{state_after}
use Rattle.round_end.specs.Round.{Round}
use Rattle.osek_idle.specs.declared.subsystem.Osek.{Osek}
use Rattle.osek_idle.specs.Standing.{setup_of, subsystem_of, task_body}
use Rattle.osek_idle.specs.Subsystem.{Subsystem, Setup, lefts, owner_left, owner_leaving, picked, IsSettled}
use Rattle.stack_dispatch.specs.declared.took.Taken.{Taken}
use Rattle.stack_dispatch.specs.Effects.{Effected, effected, MayDo, HaveSome, GaveIdle, idle_ticks}
use Rattle.stack_dispatch.specs.Jumps.{CanWork, lessened, lessened_in, worked_off}
use Rattle.stack_dispatch.specs.Served.{round_in}
use Rattle.stack_dispatch.specs.State.{RunState}
use Rattle.stack_dispatch.specs.Ticking.{CanTick, IsOnStack, IsInIdleTime, Took}
use Rattle.stack_dispatch.proofs.Settling.{leaving_settled}
use Rattle.stack_dispatch.proofs.Taking.{IsRunning, store_of, stack_alone, stack_leaving, stack_left, stack_may, stack_settled, stack_took, state_is, may_now, some_bodies, idle_alone, idle_left, idle_leaving, idle_took}
use Rattle.stack_dispatch.proofs.Ticks.{built, idle_some, served}
use Rattle.stack_dispatch.proofs.WhoRuns.{HasLefts, stack_of, is_of, on_stack_runs, idle_picks}
use Rattle.stack_dispatch.proofs.WorkedOff.{last_tick, undone_worked}
use Rattle.stack_dispatch.proofs.Working.{leave_lessened, left_lessened, owner_lessened, lessened_alike, some_left, somebody_works}
use Rattle.tt_stack.specs.Stacked.{Stacked, runner_in, running, left_in, leaving_in}

-- contracts see of a state what its fields give: of one after the ticks
pub took_seen : (c : ConfigParts) (s : ScriptParts) (k : ℕ) (r : Runner) (v st : RunState) (taken : Taken) (now : World)
    → v ≡ st → Took c s r (lessened k r v.world) taken now → Took c s r (lessened k r st.world) taken now
took_seen c s k r v st taken now seen t = subst (λ (x : RunState). Took c s r (lessened k r x.world) taken now) seen t

-- the world with less left of a runner, by its parts
abbrev less_world : ℕ → Runner → World → World
less_world k r w = record w {
  jobs = (lessened k r w).jobs;
  isrs = (lessened k r w).isrs;
  oisrs = (lessened k r w).oisrs;
  oseks = (lessened k r w).oseks;
}

less_is : (k : ℕ) (r : Runner) (w : World) → lessened k r w ≡ less_world k r w
less_is zero r w = refl
less_is (suc k) (runner.Isr i) w = refl
less_is (suc k) r w = refl

-- of one on the stack, and of one in idle time
less_on_stack : (k : ℕ) (r : Runner) (w : World) → IsOnStack r
    → lessened k r w ≡ record w { jobs = (lessened k r w).jobs; isrs = (lessened k r w).isrs }
less_on_stack zero r w on = refl
less_on_stack (suc k) r w on = stack_alone w r (worked_off (suc k) (left_of w r)) on

less_idle : (k : ℕ) (r : Runner) (w : World) → IsInIdleTime r
    → lessened k r w ≡ record w { oisrs = (lessened k r w).oisrs; oseks = (lessened k r w).oseks }
less_idle zero r w on = refl
less_idle (suc k) r w on = idle_alone w r (worked_off (suc k) (left_of w r)) on

-- ---- the subsystem with less left of an owner

abbrev less_sub : ℕ → Owner → Subsystem → Subsystem
less_sub zero who sub = sub
less_sub (suc k) who sub = owner_leaving (Some who) (worked_off (suc k) (owner_left sub (Some who))) sub

leave_again : (who : Owner) (sub : Subsystem) (a b : List Stmt)
    → owner_leaving (Some who) b (owner_leaving (Some who) a sub) ≡ owner_leaving (Some who) b sub
leave_again (owner.Osek t) sub a b =
    ap (λ xs. record { tasks = xs; routines = sub.routines }) (set-set sub.tasks t.0 (Some a) (Some b))
leave_again (owner.Oisr i) sub a b =
    ap (λ xs. record { tasks = sub.tasks; routines = xs }) (set-set sub.routines i.0 (Some a) (Some b))
leave_again who sub a b = refl

leave_less : (k : ℕ) (who : Owner) (sub : Subsystem) (left : List Stmt)
    → owner_leaving (Some who) left (less_sub k who sub) ≡ owner_leaving (Some who) left sub
leave_less zero who sub left = refl
leave_less (suc k) who sub left = leave_again who sub (worked_off (suc k) (owner_left sub (Some who))) left

some_then : (left : List Stmt) → is_done left ≡ false → left ≢ []
some_then left e none = let both : true ≡ false = sym (ap is_done none) ∙ e in cc

less_settled : (k : ℕ) (who : Owner) (sub : Subsystem) → suc k ≤ max 1 (work_in_front (owner_left sub (Some who)))
    → IsSettled sub → IsSettled (less_sub k who sub)
less_settled zero who sub l h = h
less_settled (suc k) who sub l h =
    let left = owner_left sub (Some who) in
    leaving_settled who sub (worked_off (suc k) left)
    (some_then (worked_off (suc k) left) (undone_worked (suc k) left l ∙ some_left left (omega arith))) h

module _ (c : ConfigParts) (w : World) (sub : Subsystem) (r : Runner) (who : Owner) (on : IsInIdleTime r)
    (owns : who ≡ owner_of c w r) (here : left_of w r ≡ owner_left sub (Some who)) where
  less_lefts : (k : ℕ) → HasLefts w sub → HasLefts (lessened k r w) (less_sub k who sub)
  less_lefts zero h = h
  less_lefts (suc k) h =
      let then_left = worked_off (suc k) (left_of w r) in
      subst (λ (left : List Stmt). HasLefts (leaving w r then_left)
      (owner_leaving (Some who) (worked_off (suc k) left) sub)) here
      (subst (λ (o : Owner). HasLefts (leaving w r then_left) (owner_leaving (Some o) then_left sub)) (sym owns)
      (idle_leaving c w w sub r then_left on h))

-- ---- the ticks, of which all but the last are work

-- the one who runs takes k ticks at once
pub record Takes (c : ConfigParts) (s : ScriptParts) (r : Runner) (who : Owner) (k : ℕ) (st : RunState) : Type 0 where
  pub some : 1 ≤ k
  pub within : CanWork k r (left_of st.world r)
  pub can : CanTick c s (lessened_in (k - 1) r st)
  pub runs : r ≡ runner_of c st.world
  pub owns : who ≡ owner_of c st.world r

-- the world after ticks on the stack, by the parts of the state
abbrev after_stack : RunState → Stacked → List ℤ → List ℕ → Subsystem → Effected → World
after_stack st stack vars cursors sub x =
    built (served (record st.world { vars = vars; cursors = cursors }) x.round.wanted x.round.pending
    x.round.times_used (lefts sub.tasks)) x.round stack.jobs stack.isrs (lefts sub.routines)

-- what they gave: the subsystem is settled, and the last tick is the one of the definition
pub record StackGave (c : ConfigParts) (s : ScriptParts) (r : Runner) (k : ℕ) (st : RunState) (stack : Stacked)
    (vars : List ℤ) (cursors : List ℕ) (sub : Subsystem) (x : Effected) : Type 0 where
  pub settled : IsSettled sub
  pub took : (ended : Bool) → (IsTrue ended ↔ (left_in stack (running (stack_of st)) ≡ []))
      → Took c s r (lessened (k - 1) r st.world) (record { did = x.did; ended = ended })
      (after_stack st stack vars cursors sub x)

-- an owner in idle time takes them, and what is left of the OSEK subsystem is that of the state
pub record TakesIdle (c : ConfigParts) (s : ScriptParts) (r : Runner) (who : Owner) (k : ℕ) (st : RunState)
    (osek : Osek) (codes : List (List Stmt)) : Type 0 where
  pub takes : Takes c s r who k st
  pub idle : IsInIdleTime r
  pub setup_same : setup_of osek ≡ st.beside.setup
  pub left : HasLefts st.world (subsystem_of st.beside.codes osek)
  pub settled : IsSettled (subsystem_of st.beside.codes osek)
  pub codes_is : codes ≡ st.beside.codes

-- contracts see of a state what its fields give
pub takes_seen : {c : ConfigParts} {s : ScriptParts} {r : Runner} {who : Owner} {k : ℕ} {v st : RunState} → v ≡ st
    → Takes c s r who k st → Takes c s r who k v
takes_seen {c} {s} {r} {who} {k} seen h = subst (Takes c s r who k) (sym seen) h

module _ {c : ConfigParts} {s : ScriptParts} {r : Runner} {who : Owner} {k : ℕ} {st : RunState}
    (takes : Takes c s r who k st) where
  abbrev less : RunState
  less = record st { world = less_world (k - 1) r st.world }

  one_less : k ≡ suc (k - 1)
  one_less = let some = takes.some in omega (arith, some)

  works : CanWork (suc (k - 1)) r (left_of st.world r)
  works = subst (λ n. CanWork n r (left_of st.world r)) one_less takes.within

  same : lessened (k - 1) r st.world ≡ less_world (k - 1) r st.world
  same = less_is (k - 1) r st.world

  now : IsRunning c s (record st { world = less_world (k - 1) r st.world }) r who
  now = record {
    can = subst (λ (w : World). CanTick c s (record st { world = w })) same takes.can;
    runs = takes.runs ∙ sym (lessened_alike c (k - 1) r st.world works).runner ∙ ap (runner_of c) same;
    owns = takes.owns ∙ sym (owner_lessened c (k - 1) r st.world) ∙ ap (λ (w : World). owner_of c w r) same;
  }

  left_less : left_of (less).world r ≡ worked_off (k - 1) (left_of st.world r)
  left_less = ap (λ (w : World). left_of w r) (sym same) ∙ left_lessened (k - 1) r st.world works

  -- k ticks are one tick of what the work leaves
  ticks_as : (left : List Stmt) → left ≡ left_of st.world r → suc (k - 1) ≤ max 1 (work_in_front (left_of st.world r))
      → ticks (supply_of st.beside.demands st.beside.values) k (state_of left st.world.vars st.world.cursors [])
      ≡ state_after c s (less).world (left_of (less).world r)
  ticks_as left here l =
      let supply = supply_of st.beside.demands st.beside.values in
      ap (λ (x : List Stmt). ticks supply k (state_of x st.world.vars st.world.cursors [])) here
      ∙ ap (λ n. ticks supply n (state_of (left_of st.world r) st.world.vars st.world.cursors [])) one_less
      ∙ last_tick supply st.world.vars st.world.cursors (k - 1) (left_of st.world r) l
      ∙ ap (λ (x : List Stmt). tick supply (state_of x st.world.vars st.world.cursors [])) (sym left_less)
      ∙ state_is now (left_of (less).world r)

  -- ---- on the stack

  module _ (on : IsOnStack r) where
    stack_runs : runner_in (stack_of st) ≡ Some r
    stack_runs = on_stack_runs c s st takes.can.kept r takes.runs on

    -- one runs on the stack
    pub stack_is_running : IsSome (runner_in (stack_of st))
    stack_is_running = subst (λ (o : Option Runner). IsSome o) (sym stack_runs) refl

    running_is : running (stack_of st) ≡ r
    running_is = ap (λ (o : Option Runner). unwrap_or o runner.Nobody) stack_runs

    somebody : r ≡ runner.Nobody → ⊥
    somebody e = subst IsOnStack e on

    stack_works : k ≤ max 1 (work_in_front (left_of st.world r))
    stack_works = somebody_works k r (left_of st.world r) somebody takes.within

    -- it has work left for k ticks, or k is at most 1
    pub stack_within : k ≤ max 1 (work_in_front (left_in (stack_of st) (running (stack_of st))))
    stack_within =
        subst (λ (q : Runner). k ≤ max 1 (work_in_front (left_in (stack_of st) q))) (sym running_is)
        (subst (λ (left : List Stmt). k ≤ max 1 (work_in_front left)) (sym (stack_left st r on)) stack_works)

    module _ (stack : Stacked) (vars : List ℤ) (cursors : List ℕ) (es : List Effect)
        (others : stack ≡ leaving_in (stack_of st) (running (stack_of st)) (left_in stack (running (stack_of st))))
        (ticked : state_of (left_in stack (running (stack_of st))) vars cursors es
        ≡ ticks (supply_of st.beside.demands st.beside.values) k
        (state_of (left_in (stack_of st) (running (stack_of st))) st.world.vars st.world.cursors [])) where
      others_less : stack ≡ leaving_in (stack_of less) r (left_in stack r)
      others_less =
          let left = left_in stack r in
          subst (λ (q : Runner). stack ≡ leaving_in (stack_of st) q (left_in stack q)) running_is others
          ∙ stack_leaving st r left on
          ∙ ap (λ (w : World). stack_of (record st { world = w })) (sym (leave_lessened (k - 1) r st.world left))
          ∙ ap (λ (w : World). stack_of (record st { world = leaving w r left })) same
          ∙ sym (stack_leaving less r left on)

      ticked_less : state_of (left_in stack r) vars cursors es ≡ state_after c s (less).world (left_of (less).world r)
      ticked_less =
          subst (λ (q : Runner). state_of (left_in stack q) vars cursors es
          ≡ ticks (supply_of st.beside.demands st.beside.values) k
          (state_of (left_in (stack_of st) q) st.world.vars st.world.cursors [])) running_is ticked
          ∙ ticks_as (left_in (stack_of st) r) (stack_left st r on) (let some = takes.some in omega (arith, stack_works, some))

      -- it may make the call of its last tick
      pub all_may : MayDo st.world.tick who es (round_in st) st.beside.setup
      all_may = stack_may now on stack vars cursors es others_less ticked_less

      module _ (osek osek1 : Osek) (setup_same : setup_of osek ≡ st.beside.setup)
          (left : HasLefts st.world (subsystem_of st.beside.codes osek))
          (settled : IsSettled (subsystem_of st.beside.codes osek))
          (codes : List (List Stmt)) (codes_is : codes ≡ stack.codes) (x : Effected)
          (x_is : x ≡ effected (task_body codes (setup_of osek)) st.world.tick who es (round_in st)
          (subsystem_of codes osek))
          (sub_is : subsystem_of codes osek1 ≡ x.subsystem) where
        lefts_less : HasLefts (less).world (subsystem_of st.beside.codes osek)
        lefts_less =
            let alone = less_on_stack (k - 1) r st.world on in
            record {
              tasks = ap (λ (w : World). w.oseks) alone ∙ left.tasks;
              routines = ap (λ (w : World). w.oisrs) alone ∙ left.routines;
            }

        -- what the ticks gave
        pub all_gave : StackGave c s r k st stack vars cursors (subsystem_of stack.codes osek1) x
        all_gave = record {
          settled = stack_settled now on stack vars cursors es others_less ticked_less osek osek1 setup_same lefts_less
              settled codes codes_is x x_is sub_is;
          took = λ ended ended_is.
              subst (λ (w : World). Took c s r w (record { did = x.did; ended = ended })
              (after_stack st stack vars cursors (subsystem_of stack.codes osek1) x)) (sym same)
              (stack_took now on stack vars cursors es others_less ticked_less osek osek1 setup_same lefts_less
              settled codes codes_is x x_is sub_is ended
              (subst (λ (q : Runner). IsTrue ended ↔ (left_in stack q ≡ [])) running_is ended_is));
        }

-- ---- in idle time

module _ {c : ConfigParts} {s : ScriptParts} {r : Runner} {who : Owner} {k : ℕ} {st : RunState} {osek : Osek}
    {codes : List (List Stmt)} (h : TakesIdle c s r who k st osek codes) where
  abbrev here : Subsystem
  here = subsystem_of st.beside.codes osek

  there : subsystem_of codes osek ≡ here
  there = ap (λ (x : List (List Stmt)). subsystem_of x osek) h.codes_is

  -- each body of an OSEK task has a statement
  pub idle_bodies : HaveSome (task_body codes (setup_of osek)) (length (setup_of osek).tasks)
  idle_bodies =
      subst (λ (x : List (List Stmt)). HaveSome (task_body x (setup_of osek)) (length (setup_of osek).tasks))
      (sym h.codes_is)
      (subst (λ (x : Setup). HaveSome (task_body st.beside.codes x) (length x.tasks)) (sym h.setup_same)
      (some_bodies (now h.takes)))

  -- the owner is the one who is picked
  pub idle_picked : picked (setup_of osek) (subsystem_of codes osek) ≡ Some who
  idle_picked =
      ap (picked (setup_of osek)) there
      ∙ idle_picks c s st h.takes.can.kept (setup_of osek) here r h.takes.runs h.idle
      (is_of c s st h.takes.can.kept (setup_of osek) here h.left (sym h.setup_same) h.settled)
      ∙ ap (λ (o : Owner). Some o) (sym h.takes.owns)

  left_here : left_of st.world r ≡ owner_left here (Some who)
  left_here = idle_left c st.world here r h.idle h.left ∙ ap (λ (o : Owner). owner_left here (Some o)) (sym h.takes.owns)

  left_there : left_of st.world r ≡ owner_left (subsystem_of codes osek) (Some who)
  left_there = left_here ∙ ap (λ (x : Subsystem). owner_left x (Some who)) (sym there)

  -- something is left of it
  pub idle_left_some : owner_left (subsystem_of codes osek) (Some who) ≢ []
  idle_left_some none = idle_some c st.world r h.takes.runs h.idle (left_there ∙ none)

  idle_works : k ≤ max 1 (work_in_front (left_of st.world r))
  idle_works = somebody_works k r (left_of st.world r) (λ e. subst IsInIdleTime e h.idle) h.takes.within

  -- it has work left for k ticks, or k is at most 1
  pub idle_within : k ≤ max 1 (work_in_front (owner_left (subsystem_of codes osek) (Some who)))
  idle_within = subst (λ (left : List Stmt). k ≤ max 1 (work_in_front left)) left_there idle_works

  idle_state : idle_ticks k who (store_of st) (subsystem_of codes osek)
      ≡ state_after c s (less h.takes).world (left_of (less h.takes).world r)
  idle_state =
      ticks_as h.takes (owner_left (subsystem_of codes osek) (Some who)) (sym left_there)
      (let some = h.takes.some in omega (arith, idle_works, some))

  -- it may make the call of its last tick
  pub idle_may : MayDo st.world.tick who (idle_ticks k who (store_of st) (subsystem_of codes osek)).effects
      (round_in st) (setup_of osek)
  idle_may =
      subst (λ (x : Setup). MayDo st.world.tick who (idle_ticks k who (store_of st) (subsystem_of codes osek)).effects
      (round_in st) x) (sym h.setup_same)
      (subst (λ (x : State). MayDo st.world.tick who x.effects (round_in st) st.beside.setup) (sym idle_state)
      (may_now (now h.takes)))

  module _ (vars : List ℤ) (cursors : List ℕ)
      (vars_are : vars ≡ (idle_ticks k who (store_of st) (subsystem_of codes osek)).vars)
      (cursors_are : cursors ≡ (idle_ticks k who (store_of st) (subsystem_of codes osek)).cursors) (taken : Taken)
      (round : Round) (osek1 : Osek)
      (gave : GaveIdle (task_body codes (setup_of osek)) st.world.tick who
      (idle_ticks k who (store_of st) (subsystem_of codes osek)) (round_in st)
      (subsystem_of codes osek) taken round (subsystem_of codes osek1)) where
    abbrev after : State
    after = state_after c s (less h.takes).world (left_of (less h.takes).world r)

    abbrev body : ℕ → List Stmt
    body = task_body st.beside.codes st.beside.setup

    gave_here : GaveIdle body st.world.tick who after (round_in st) here taken round
        (subsystem_of st.beside.codes osek1)
    gave_here =
        subst (λ (x : State). GaveIdle body st.world.tick who x (round_in st) here taken round
        (subsystem_of st.beside.codes osek1))
        (ap (λ (x : List (List Stmt)). idle_ticks k who (store_of st) (subsystem_of x osek)) (sym h.codes_is)
        ∙ idle_state)
        (subst (λ (x : List (List Stmt)). GaveIdle (task_body x st.beside.setup) st.world.tick who
        (idle_ticks k who (store_of st) (subsystem_of x osek)) (round_in st)
        (subsystem_of x osek) taken round (subsystem_of x osek1)) h.codes_is
        (subst (λ (x : Setup). GaveIdle (task_body codes x) st.world.tick who
        (idle_ticks k who (store_of st) (subsystem_of codes osek)) (round_in st)
        (subsystem_of codes osek) taken round (subsystem_of codes osek1)) h.setup_same gave))

    gave_less : GaveIdle body st.world.tick who after (round_in st) (less_sub (k - 1) who here) taken round
        (subsystem_of st.beside.codes osek1)
    gave_less =
        let then_same = sym (leave_less (k - 1) who here (after).left) in
        record {
          did = gave_here.did ∙ ap (λ (x : Subsystem). (effected body st.world.tick who (after).effects
              (round_in st) x).did) then_same;
          ended = gave_here.ended ∙ ap (λ (x : Subsystem). (effected body st.world.tick who (after).effects
              (round_in st) x).ends || is_done (after).left) then_same;
          round_is = gave_here.round_is ∙ ap (λ (x : Subsystem). (effected body st.world.tick who (after).effects
              (round_in st) x).round) then_same;
          tasks = gave_here.tasks ∙ ap (λ (x : Subsystem). lefts (effected body st.world.tick who (after).effects
              (round_in st) x).subsystem.tasks) then_same;
          routines = gave_here.routines ∙ ap (λ (x : Subsystem). lefts (effected body st.world.tick who
              (after).effects (round_in st) x).subsystem.routines) then_same;
        }

    -- the last tick is the one of the definition
    pub idle_took_all : Took c s r (lessened (k - 1) r st.world) taken
        (built (served (record st.world { vars = vars; cursors = cursors }) round.wanted round.pending
        round.times_used
        (lefts (subsystem_of st.beside.codes osek1).tasks)) round st.world.jobs st.world.isrs
        (lefts (subsystem_of st.beside.codes osek1).routines))
    idle_took_all =
        let sub1 = subsystem_of st.beside.codes osek1 in
        let mid : World = served (record st.world { vars = vars; cursors = cursors }) round.wanted round.pending
        round.times_used (lefts sub1.tasks) in
        let alone = less_idle (k - 1) r st.world h.idle in
        let left_less = less_lefts c st.world here r who h.idle h.takes.owns left_here (k - 1) h.left in
        subst (λ (w : World). Took c s r w taken (built mid round st.world.jobs st.world.isrs (lefts sub1.routines)))
        (sym (same h.takes))
        (subst (λ (w : World). Took c s r (less_world (k - 1) r st.world) taken
        (built mid round w.jobs w.isrs (lefts sub1.routines))) alone
        (idle_took (now h.takes) h.idle (less_sub (k - 1) who here)
        (record { tasks = left_less.tasks; routines = left_less.routines })
        (less_settled (k - 1) who here
        (subst (λ (left : List Stmt). suc (k - 1) ≤ max 1 (work_in_front left)) left_here
        (let some = h.takes.some in omega (arith, idle_works, some))) h.settled)
        vars cursors (vars_are ∙ ap (λ (x : State). x.vars) idle_state)
        (cursors_are ∙ ap (λ (x : State). x.cursors) idle_state) taken round sub1 gave_less))
