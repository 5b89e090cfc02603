-- The tick of the one who runs, taken from the parts of a state.
use Rattle.std.proofs.Common.{ℕ, ◌≡◌, ◌≢◌, ◌<◌, ◌+◌, List, [], Bool, true, false, Option, Some, refl, ap, sym, ◌∙◌, subst, length, ⊎_elim}
use Rattle.std.specs.Prelude.{ℤ, not, ◌||◌, ◌↔◌, IsTrue, slice_index_or, slice_set, unwrap_or}
use Rattle.std.proofs.lemmas.Bool.{cases_Bool}
use Rattle.task_lang.specs.Tick.{State, supply_of, state_of, tick}
use Rattle.task_lang.specs.declared.demand.Demand.{Demand}
use Rattle.task_lang.specs.declared.syntax.Stmt.{Stmt}
use Rattle.task_lang.specs.declared.tick.Effect.{Effect}
use Rattle.task_machine.specs.Standing.{work_in_front}
use Rattle.task_machine.specs.Stored.{Store}
use Rattle.tt_base.specs.declared.event.Owner.{Owner}
use Rattle.tt_base.specs.declared.number.OsekNo.{OsekNo}
use Rattle.tt_world.specs.declared.config.ConfigParts.{ConfigParts}
use Rattle.tt_world.specs.declared.script.ScriptParts.{ScriptParts}
use Rattle.tt_world.specs.declared.world.Runner.{Runner}
use Rattle.tt_world.specs.declared.world.Runner.TheVariants as runner
use Rattle.tt_world.specs.World.{World, Job}
use Rattle.tt_world.specs.Rows.{osek_body}
use Rattle.tt_world.specs.ConfigRules.{IsRunnable}
use Rattle.tt_world.specs.Runners.{is_done, kind_of, left_of, leaving, runner_of, owner_of}
use Rattle.tt_world.specs.Step.{state_after}
use Rattle.round_end.specs.Round.{Round}
use Rattle.osek_idle.specs.declared.subsystem.Osek.{Osek}
use Rattle.osek_idle.specs.Standing.{setup_of, subsystem_of, setup_for, task_body}
use Rattle.osek_idle.specs.Subsystem.{Subsystem, Setup, is_ready, lefts, owner_left, owner_leaving, picked, IsSettled}
use Rattle.osek_idle.proofs.Picking.{left_at}
use Rattle.tt_services.specs.Agreement.{RunsAs, IsCall}
use Rattle.tt_services.specs.Performed.{IsOsek}
use Rattle.stack_dispatch.specs.declared.took.Taken.{Taken}
use Rattle.stack_dispatch.specs.Effects.{Effected, effected, MayDo, HaveSome, GaveIdle}
use Rattle.stack_dispatch.specs.Served.{round_in}
use Rattle.tt_stack.specs.Stacked.{Stacked, left_in, leaving_in, running}
use Rattle.stack_dispatch.specs.State.{IsFor, RunState, Fixed, bodies_of}
use Rattle.stack_dispatch.specs.Ticking.{CanTick, IsOnStack, IsInIdleTime, Took, TookBy}
use Rattle.stack_dispatch.proofs.ProgramBodies.{task_bodies, count_tasks, have_some}
use Rattle.stack_dispatch.proofs.Idling.{done_from}
use Rattle.stack_dispatch.proofs.Performing.{Makes, effect_makes, ends_task, round_kept, routines_kept}
use Rattle.stack_dispatch.proofs.Settling.{Readied, owner_ready, owner_stays, done_at, ready_set, lefts_set, made_settled}
use Rattle.stack_dispatch.proofs.Ticks.{idle_some, may_do, served, built, built_is, took_by}
use Rattle.stack_dispatch.proofs.WhoRuns.{HasLefts, idle_picks, is_of, on_stack_runs, stack_of}

-- the variables, the demands and their values of a state
abbrev pub store_of : RunState → Store
store_of st = record {
  vars = st.world.vars;
  cursors = st.world.cursors;
  demands = st.beside.demands;
  values = st.beside.values;
}

-- ---- one who runs on the stack

pub stack_left : (st : RunState) (r : Runner) → IsOnStack r → left_in (stack_of st) r ≡ left_of st.world r
stack_left st (runner.Isr i) on = refl
stack_left st (runner.Job p) on = refl
stack_left st r on = absurd on

-- its tick leaves of the stack what it leaves of the world
pub stack_leaving : (st : RunState) (r : Runner) (left : List Stmt) → IsOnStack r
    → leaving_in (stack_of st) r left ≡ stack_of (record st { world = leaving st.world r left })
stack_leaving st (runner.Isr i) left on = refl
stack_leaving st (runner.Job p) left on = refl
stack_leaving st r left on = absurd on

-- and of the world nothing else
pub stack_alone : (w : World) (r : Runner) (left : List Stmt) → IsOnStack r
    → leaving w r left ≡ record w { jobs = (leaving w r left).jobs; isrs = (leaving w r left).isrs }
stack_alone w (runner.Isr i) left on = refl
stack_alone w (runner.Job p) left on = refl
stack_alone w r left on = absurd on

stack_runs_as : (c : ConfigParts) (w : World) (sub : Subsystem) (r : Runner) → IsOnStack r
    → RunsAs sub r (owner_of c w r)
stack_runs_as c w sub (runner.Osek t) on = absurd on
stack_runs_as c w sub r on = tt

no_osek_there : (c : ConfigParts) (w : World) (r : Runner) → IsOnStack r → IsOsek (owner_of c w r) → ⊥
no_osek_there c w (runner.Osek t) on is = on
no_osek_there c w r on is = is

-- ---- one who runs in idle time

-- what is left of it, where this is what is left of the tasks and the routines
pub idle_left : (c : ConfigParts) (w : World) (sub : Subsystem) (r : Runner) → IsInIdleTime r → HasLefts w sub
    → left_of w r ≡ owner_left sub (Some (owner_of c w r))
idle_left c w sub (runner.Oisr i) on h =
    ap (λ (xs : List (List Stmt)). slice_index_or xs i.0 []) h.routines ∙ left_at sub.routines i.0
idle_left c w sub (runner.Osek t) on h =
    ap (λ (xs : List (List Stmt)). slice_index_or xs t.0 []) h.tasks ∙ left_at sub.tasks t.0
idle_left c w sub r on h = absurd on

-- its tick leaves of them what it leaves of the world
pub idle_leaving : (c : ConfigParts) (w v : World) (sub : Subsystem) (r : Runner) (left : List Stmt) → IsInIdleTime r
    → HasLefts w sub → HasLefts (leaving w r left) (owner_leaving (Some (owner_of c v r)) left sub)
idle_leaving c w v sub (runner.Oisr i) left on h = record {
  tasks = h.tasks;
  routines = ap (λ (xs : List (List Stmt)). slice_set xs i.0 left) h.routines
      ∙ sym (lefts_set sub.routines i.0 (Some left));
}
idle_leaving c w v sub (runner.Osek t) left on h = record {
  tasks = ap (λ (xs : List (List Stmt)). slice_set xs t.0 left) h.tasks ∙ sym (lefts_set sub.tasks t.0 (Some left));
  routines = h.routines;
}
idle_leaving c w v sub r left on h = absurd on

-- and of the world nothing else
pub idle_alone : (w : World) (r : Runner) (left : List Stmt) → IsInIdleTime r
    → leaving w r left ≡ record w { oisrs = (leaving w r left).oisrs; oseks = (leaving w r left).oseks }
idle_alone w (runner.Oisr i) left on = refl
idle_alone w (runner.Osek t) left on = refl
idle_alone w r left on = absurd on

idle_ready : (c : ConfigParts) (w : World) (sub : Subsystem) (r : Runner) (left : List Stmt)
    → Readied (owner_of c w r) sub → (n : ℕ)
    → is_ready (owner_leaving (Some (owner_of c w r)) left sub).tasks n ≡ is_ready sub.tasks n
idle_ready c w sub (runner.Osek t) left ready n = ready_set sub.tasks t.0 n left ready
idle_ready c w sub r left ready n = refl

idle_runs_as : (c : ConfigParts) (w : World) (sub : Subsystem) (r : Runner) → Readied (owner_of c w r) sub
    → RunsAs sub r (owner_of c w r)
idle_runs_as c w sub (runner.Osek t) ready = (refl, ready)
idle_runs_as c w sub r ready = tt

-- ---- the front of the one who runs

module _ (c : ConfigParts) (s : ScriptParts) (st : RunState) (kept : IsFor c s st.beside) (r : Runner)
    (runs : r ≡ runner_of c st.world) where
  -- the ticks left of the `work` at the front of the one who runs: on the stack
  pub stack_front : IsOnStack r
      → work_in_front (left_in (stack_of st) (running (stack_of st))) ≡ work_in_front (left_of st.world r)
  stack_front on =
      ap (λ (o : Option Runner). work_in_front (left_in (stack_of st) (unwrap_or o runner.Nobody)))
      (on_stack_runs c s st kept r runs on)
      ∙ ap work_in_front (stack_left st r on)

  -- and in idle time
  pub idle_front : (setup : Setup) (sub : Subsystem) → IsInIdleTime r → HasLefts st.world sub
      → st.beside.setup ≡ setup → IsSettled sub
      → work_in_front (owner_left sub (picked setup sub)) ≡ work_in_front (left_of st.world r)
  idle_front setup sub on left same settled =
      ap (λ (o : Option Owner). work_in_front (owner_left sub o))
      (idle_picks c s st kept setup sub r runs on (is_of c s st kept setup sub left same settled))
      ∙ sym (ap work_in_front (idle_left c st.world sub r on left))

-- ---- the state as its parts give it

-- this one runs, owns the tick, and can take it
pub record IsRunning (c : ConfigParts) (s : ScriptParts) (st : RunState) (r : Runner) (who : Owner) : Type 0 where
  pub can : CanTick c s st
  pub runs : r ≡ runner_of c st.world
  pub owns : who ≡ owner_of c st.world r

module _ {c : ConfigParts} {s : ScriptParts} {st : RunState} {r : Runner} {who : Owner}
    (now : IsRunning c s st r who) where
  abbrev body : ℕ → List Stmt
  body = task_body st.beside.codes st.beside.setup

  codes_are : st.beside.codes ≡ bodies_of c
  codes_are = ap (λ (f : Fixed). f.codes) now.can.kept

  setup_is : st.beside.setup ≡ setup_for c (length c.tasks + length c.isrs)
  setup_is = ap (λ (f : Fixed). f.setup) now.can.kept

  -- the tick of what is left of the one who runs, with the demands and the values that are kept
  pub state_is : (left : List Stmt) → tick (supply_of st.beside.demands st.beside.values)
      (state_of left st.world.vars st.world.cursors [])
      ≡ state_after c s st.world left
  state_is left =
      ap (λ (d : List Demand). tick (supply_of d st.beside.values) (state_of left st.world.vars st.world.cursors []))
      (ap (λ (f : Fixed). f.demands) now.can.kept)
      ∙ ap (λ (vs : List (List ℕ)). tick (supply_of c.demands vs) (state_of left st.world.vars st.world.cursors []))
      (ap (λ (f : Fixed). f.values) now.can.kept)

  bodies : (task : OsekNo) → task.0 < length st.beside.setup.tasks → body task.0 ≡ osek_body c task
  bodies = task_bodies c st.beside.codes st.beside.setup codes_are setup_is

  -- each body of an OSEK task has a statement
  pub some_bodies : HaveSome body (length st.beside.setup.tasks)
  some_bodies = have_some c st.beside.codes st.beside.setup codes_are setup_is now.can.rules

  -- the one who runs may make the call of the tick
  pub may_now : MayDo st.world.tick who (state_after c s st.world (left_of st.world r)).effects (round_in st)
      st.beside.setup
  may_now =
      subst (λ (o : Owner). MayDo st.world.tick o (state_after c s st.world (left_of st.world r)).effects
      (round_in st) st.beside.setup) (sym now.owns)
      (may_do c st.world r (round_in st) st.beside.setup now.can.started (ap (λ (f : Fixed). f.modes) now.can.kept)
      (count_tasks c st.beside.codes st.beside.setup codes_are setup_is) s now.can.rules (left_of st.world r)
      (subst (λ (q : Runner). IsRunnable c (kind_of q) (left_of st.world q)) (sym now.runs) now.can.runnable))

  module _ (sub sub1 : Subsystem) (left : List Stmt) (vars : List ℤ) (cursors : List ℕ)
      (tasks : st.world.oseks ≡ lefts sub.tasks) (settled : IsSettled sub)
      (runs_as : RunsAs sub1 r who) (ready : (n : ℕ) → is_ready sub1.tasks n ≡ is_ready sub.tasks n)
      (oseks : (leaving (record st.world { vars = vars; cursors = cursors }) r left).oseks ≡ lefts sub1.tasks) where
    is_call : IsCall c s (record st.world { vars = vars; cursors = cursors }) r who left
        (λ (n : ℕ). osek_body c (record { 0 = n })) (round_in st) sub1
    is_call = record {
      length = ap (λ (f : Fixed). f.round) now.can.kept;
      adjust = ap (λ (f : Fixed). f.adjust) now.can.kept;
      times = ap (λ (f : Fixed). f.times) now.can.kept;
      used = refl;
      start = refl;
      wanted = refl;
      pending = refl;
      runs = runs_as;
      bodies = λ task. refl;
      ready = λ task.
          ap (λ (xs : List (List Stmt)). is_done (slice_index_or xs task.0 [])) tasks
          ∙ done_at sub.tasks task.0 settled.tasks
          ∙ ap not (sym (ready task.0));
      oseks = oseks;
    }

    module _ (es : List Effect) (is : state_of left vars cursors es ≡ state_after c s st.world (left_of st.world r))
        (taken : Taken) where
      E : Effected
      E = effected body st.world.tick who es (round_in st) sub1

      may_es : MayDo st.world.tick who es (round_in st) st.beside.setup
      may_es = subst (λ (xs : List Effect). MayDo st.world.tick who xs (round_in st) st.beside.setup)
          (sym (ap (λ (x : State). x.effects) is)) may_now

      -- what was made by the effect is what the definition says
      took_world : (x : Round) (jobs : List Job) (isrs oisrs tasks_then : List (List Stmt)) → x ≡ E.round
          → taken.did ≡ E.did → taken.ended ≡ (E.ends || is_done left)
          → jobs ≡ (leaving st.world r left).jobs → isrs ≡ (leaving st.world r left).isrs
          → oisrs ≡ (leaving st.world r left).oisrs
          → tasks_then ≡ lefts E.subsystem.tasks
          → Took c s r st.world taken
          (built (served (record st.world { vars = vars; cursors = cursors }) x.wanted x.pending x.times_used
          tasks_then) x jobs isrs oisrs)
      unfolding E
      took_world x jobs isrs oisrs tasks_then x_is did_is ended_is jobs_are isrs_are oisrs_are tasks_are =
          let mid : World = record st.world { vars = vars; cursors = cursors } in
          let built_now : World = built (served mid x.wanted x.pending x.times_used tasks_then) x jobs isrs oisrs in
          let kept = x_is ∙ round_kept body st.world.tick who (round_in st) sub1 es in
          let now_is : built_now ≡ served (leaving mid r left) E.round.wanted E.round.pending E.round.times_used
          (lefts E.subsystem.tasks) =
          built_is st.world vars cursors r left x tasks_then isrs oisrs jobs
          (ap (λ (y : Round). y.start) kept) (ap (λ (y : Round). y.number) kept) (ap (λ (y : Round). y.mode) kept)
          (ap (λ (y : Round). y.latched) kept)
          jobs_are isrs_are oisrs_are
          ∙ ap (λ (y : Round). served (leaving mid r left) y.wanted y.pending y.times_used tasks_then) x_is
          ∙ ap (λ (xs : List (List Stmt)). served (leaving mid r left) E.round.wanted E.round.pending
          E.round.times_used xs) tasks_are in
          subst (λ (x : State). TookBy c s r (record st.world { vars = x.vars; cursors = x.cursors }) x.left
          x.effects taken built_now) is
          (took_by c s r who mid left body (round_in st) sub1 st.beside.setup bodies is_call es taken built_now may_es
          did_is ended_is now_is)

  -- ---- on the stack

  module _ (on : IsOnStack r) (stack : Stacked) (vars : List ℤ) (cursors : List ℕ) (es : List Effect)
      (others : stack ≡ leaving_in (stack_of st) r (left_in stack r))
      (ticked : state_of (left_in stack r) vars cursors es ≡ state_after c s st.world (left_of st.world r)) where
    abbrev now_left : List Stmt
    now_left = left_in stack r

    others_are : stack ≡ stack_of (record st { world = leaving st.world r now_left })
    others_are = others ∙ stack_leaving st r now_left on

    -- it may make the call of its tick
    pub stack_may : MayDo st.world.tick who es (round_in st) st.beside.setup
    stack_may = subst (λ (xs : List Effect). MayDo st.world.tick who xs (round_in st) st.beside.setup)
        (sym (ap (λ (x : State). x.effects) ticked)) may_now

    module _ (osek osek1 : Osek) (same : setup_of osek ≡ st.beside.setup)
        (here : HasLefts st.world (subsystem_of st.beside.codes osek))
        (settled : IsSettled (subsystem_of st.beside.codes osek))
        (codes : List (List Stmt)) (codes_is : codes ≡ stack.codes) (x : Effected)
        (x_is : x ≡ effected (task_body codes (setup_of osek)) st.world.tick who es (round_in st)
        (subsystem_of codes osek))
        (sub_is : subsystem_of codes osek1 ≡ x.subsystem) where
      sub : Subsystem
      sub = subsystem_of st.beside.codes osek

      made : Effected
      made = effected body st.world.tick who es (round_in st) sub

      makes : Makes body (length st.beside.setup.tasks) sub who made.subsystem made.ends
      unfolding made sub
      makes = effect_makes body st.world.tick (round_in st) st.beside.setup (subsystem_of st.beside.codes osek) who es
          stack_may

      x_made : x ≡ made
      unfolding made sub
      x_made =
          x_is
          ∙ ap (λ (k : List (List Stmt)). effected (task_body k (setup_of osek)) st.world.tick who es (round_in st)
          (subsystem_of k osek)) (codes_is ∙ ap (λ (k : Stacked). k.codes) others_are)
          ∙ ap (λ (k : Setup). effected (task_body st.beside.codes k) st.world.tick who es (round_in st)
          (subsystem_of st.beside.codes osek)) same

      now_sub : subsystem_of stack.codes osek1 ≡ made.subsystem
      now_sub = ap (λ (k : List (List Stmt)). subsystem_of k osek1) (sym codes_is) ∙ sub_is
          ∙ ap (λ (y : Effected). y.subsystem) x_made

      -- the subsystem is settled after the effect
      pub stack_settled : IsSettled (subsystem_of stack.codes osek1)
      unfolding made sub
      stack_settled = subst IsSettled (sym now_sub) (made_settled some_bodies makes settled)

      no_ends : made.ends ≡ false
      no_ends =
          ⊎_elim (λ (e : made.ends ≡ true). absurd (no_osek_there c st.world r on (subst IsOsek now.owns (ends_task makes e))))
          (λ (e : made.ends ≡ false). e)
          (cases_Bool made.ends)

      -- the tick is the one of the definition
      pub stack_took : (ended : Bool) → (IsTrue ended ↔ (left_in stack r ≡ []))
          → Took c s r st.world (record { did = x.did; ended = ended })
          (built (served (record st.world { vars = vars; cursors = cursors }) x.round.wanted x.round.pending
          x.round.times_used
          (lefts (subsystem_of stack.codes osek1).tasks)) x.round stack.jobs stack.isrs
          (lefts (subsystem_of stack.codes osek1).routines))
      unfolding made sub E
      stack_took ended ended_is =
          took_world sub sub now_left vars cursors here.tasks settled
          (subst (λ (o : Owner). RunsAs sub r o) (sym now.owns) (stack_runs_as c st.world sub r on)) (λ n. refl)
          (ap (λ (w : World). w.oseks) (stack_alone (record st.world { vars = vars; cursors = cursors }) r now_left on)
          ∙ here.tasks)
          es ticked (record { did = x.did; ended = ended })
          x.round stack.jobs stack.isrs (lefts (subsystem_of stack.codes osek1).routines)
          (lefts (subsystem_of stack.codes osek1).tasks)
          (ap (λ (y : Effected). y.round) x_made) (ap (λ (y : Effected). y.did) x_made)
          (done_from ended now_left ended_is
          ∙ ap (λ (b : Bool). b || is_done now_left) (sym no_ends))
          (ap (λ (y : Stacked). y.jobs) others_are) (ap (λ (y : Stacked). y.isrs) others_are)
          (ap (λ (y : Subsystem). lefts y.routines) now_sub
          ∙ ap (λ (k : List (Option (List Stmt))). lefts k) (routines_kept makes) ∙ sym here.routines
          ∙ sym (ap (λ (w : World). w.oisrs) (stack_alone st.world r now_left on)))
          (ap (λ (y : Subsystem). lefts y.tasks) now_sub)

  -- ---- in idle time

  module _ (on : IsInIdleTime r) (here : Subsystem) (left : HasLefts st.world here) (settled : IsSettled here) where
    left_here : left_of st.world r ≡ owner_left here (Some who)
    left_here = idle_left c st.world here r on left ∙ ap (λ (o : Owner). owner_left here (Some o)) (sym now.owns)

    some_here : owner_left here (Some who) ≢ []
    some_here none = idle_some c st.world r now.runs on (left_here ∙ none)

    ready_here : Readied (owner_of c st.world r) here
    ready_here = subst (λ (o : Owner). Readied o here) now.owns (owner_ready who here some_here)

    abbrev after : State
    after = state_after c s st.world (left_of st.world r)

    module _ (vars : List ℤ) (cursors : List ℕ)
        (vars_are : vars ≡ (state_after c s st.world (left_of st.world r)).vars)
        (cursors_are : cursors ≡ (state_after c s st.world (left_of st.world r)).cursors) (taken : Taken)
        (round : Round) (sub1 : Subsystem)
        (gave_here : GaveIdle body st.world.tick who
        (state_after c s st.world (left_of st.world r)) (round_in st) here taken round sub1) where
      left_after : Subsystem
      left_after = owner_leaving (Some who) after.left here

      state_then : state_of after.left vars cursors after.effects ≡ after
      state_then = rw (vars_are, cursors_are) refl

      -- the tick is the one of the definition
      pub idle_took : Took c s r st.world taken
          (built (served (record st.world { vars = vars; cursors = cursors }) round.wanted round.pending
          round.times_used
          (lefts sub1.tasks)) round st.world.jobs st.world.isrs
          (lefts sub1.routines))
      unfolding left_after E
      idle_took =
          let mid : World = record st.world { vars = vars; cursors = cursors } in
          let mine : left_after ≡ owner_leaving (Some (owner_of c st.world r)) after.left here =
          ap (λ (o : Owner). owner_leaving (Some o) after.left here) now.owns in
          let alone = idle_alone st.world r after.left on in
          took_world here left_after after.left vars cursors left.tasks settled
          (subst (λ (o : Owner). RunsAs left_after r o) (sym now.owns)
          (idle_runs_as c st.world left_after r
          (subst (λ (o : Owner). Readied o left_after) now.owns
          (owner_stays who here after.left (owner_ready who here some_here)))))
          (λ n. ap (λ (x : Subsystem). is_ready x.tasks n) mine
          ∙ idle_ready c st.world here r after.left ready_here n)
          ((idle_leaving c mid st.world here r after.left on
          (record { tasks = left.tasks; routines = left.routines })).tasks
          ∙ ap (λ (x : Subsystem). lefts x.tasks) (sym mine))
          after.effects state_then taken
          round st.world.jobs st.world.isrs (lefts sub1.routines)
          (lefts sub1.tasks)
          gave_here.round_is gave_here.did gave_here.ended
          (sym (ap (λ (w : World). w.jobs) alone)) (sym (ap (λ (w : World). w.isrs) alone))
          (gave_here.routines
          ∙ ap (λ (k : List (Option (List Stmt))). lefts k)
          (routines_kept (effect_makes body st.world.tick (round_in st) st.beside.setup left_after who after.effects
          may_now))
          ∙ ap (λ (x : Subsystem). lefts x.routines) mine
          ∙ sym (idle_leaving c st.world st.world here r after.left on left).routines)
          gave_here.tasks
