-- The present and the wanted mode exist. What is left of any owner has short expressions, names what is declared, and
-- is allowed to that owner.
use Rattle.std.proofs.Common.{ℕ, suc, ◌≡◌, ◌≢◌, ◌<◌, ◌≤◌, ◌+◌, ◌-◌, List, [], ◌∷◌, ◌++◌, Bool, true, false, Option, None, Some, refl, ap, sym, ◌∙◌, subst, eqb, arith, length, ◌⊎◌, ⊎_elim, inl, inr, get_or, set, get_or-set_same, get_or-set_other}
use Rattle.std.specs.Prelude.{◌==◌, ◌&&◌, map, replicate, if◌then◌else◌}
use Rattle.std.specs.List.{list_any}
use Rattle.std.proofs.Math.ListN.{get_or-map}
use Rattle.std.proofs.Math.Seq.{set_out}
use Rattle.std.proofs.lemmas.List.{get_or_past, get_or-replicate, length-replicate}
use Rattle.std.proofs.lemmas.List.Elements.{All-get_or}
use Rattle.std.proofs.lemmas.Bool.{cond_both, cases_lt, cases_eq, ltb-true, and_parts}
use Rattle.tt_base.specs.declared.event.Call.{Call}
use Rattle.tt_base.specs.declared.event.Call.TheVariants as call
use Rattle.tt_base.specs.declared.event.Event.{Event}
use Rattle.tt_base.specs.declared.event.Owner.{Owner}
use Rattle.tt_base.specs.declared.number.OsekNo.{OsekNo}
use Rattle.task_lang.specs.declared.syntax.Stmt.{Stmt, out-Stmt}
use Rattle.task_lang.specs.declared.syntax.Stmt.TheOpen.{Stmt-F}
use Rattle.task_lang.specs.declared.syntax.Stmt.TheFolds.{map-Stmt}
use Rattle.task_lang.specs.declared.syntax.Stmt.TheFolds.{fold_out-Stmt}
use Rattle.task_lang.specs.declared.tick.Effect.{Effect}
use Rattle.task_lang.specs.declared.tick.Effect.TheVariants as effect
use Rattle.task_lang.specs.declared.allowed.OwnerKind.{OwnerKind}
use Rattle.task_lang.specs.declared.allowed.OwnerKind.TheVariants as owner
use Rattle.task_lang.specs.Allowed.{is_allowed}
use Rattle.task_lang.specs.Limits.{has_callee, has_demand, has_variables, is_expression_short, names_below, each_of, inner_pass}
use Rattle.task_lang.specs.Tick.{supply_of, state_of, tick, tick_by}
use Rattle.task_lang.specs.TickLaws.{LastsThroughTicks}
use Rattle.task_lang.proofs.Ticking.{keeps_each}
use Rattle.tt_world.specs.declared.config.ConfigParts.{ConfigParts}
use Rattle.tt_world.specs.declared.script.ScriptParts.{ScriptParts}
use Rattle.tt_world.specs.declared.world.Runner.{Runner}
use Rattle.tt_world.specs.declared.world.Runner.TheVariants as runner
use Rattle.tt_world.specs.World.{World, Source, IsrSource, OisrSource, Job}
use Rattle.tt_world.specs.ConfigRules.{IsBody, IsConfig, IsIsr, IsOisr, IsOsek, IsRunnable, IsTask}
use Rattle.tt_world.specs.Rows.{HasMode, offset_of, mode_of, enables_at, entry_at, no_isr, no_oisr, no_osek, no_task, routine_of, osek_body, body_of}
use Rattle.tt_world.specs.Correction.{is_length}
use Rattle.tt_world.specs.Monitoring.{monitored, is_at, is_at_end}
use Rattle.tt_world.specs.Moved.{preceded}
use Rattle.tt_world.specs.Rounds.{head, latch, next_round, round_end}
use Rattle.tt_world.specs.Gates.{source_runner, enable, enables, arrived, arrival, arrivals, is_accepted, acceptance, acceptances, sources, holding, disabling, arrivals_of, is_held}
use Rattle.tt_world.specs.Opening.{checks, activated, activation, opening}
use Rattle.tt_world.specs.ScriptRules.{IsScript}
use Rattle.tt_world.specs.declared.config.OsekDef.{OsekDef}
use Rattle.tt_world.specs.Schedule.{first_world, instant, world_at}
use Rattle.tt_world.specs.Runners.{runner_of, owner_of, kind_of, left_of, leaving, job_at, no_job, with_left}
use Rattle.tt_world.specs.Services.{Answer, synced, service, is_suspended, is_caller, is_shutdown}
use Rattle.tt_world.specs.Step.{state_after, effected, runner_tick, step, run_line}
use Rattle.tt_world.proofs.Parts.{OpeningKeeps, Alone, Anything, Leads, followed_leads, chain_each, GoesOnBefore, kept_at, instant_leads, opening_leads}
use Rattle.tt_world.proofs.Keeps.{Holds, caller_is_osek, monitored_holds}
use Rattle.tt_world.proofs.JobLists.{at_set, at_other, IsOldPlace, IsNewPlace, place_of_more}

-- what is left of one runner, where what is left of another was changed
set_cases : (xs : List (List Stmt)) (i j : ℕ) (left : List Stmt)
    → (get_or (set xs i left) j [] ≡ left) ⊎ (get_or (set xs i left) j [] ≡ get_or xs j [])
set_cases xs i j left =
    ⊎_elim
    (λ (e : j ≡ i).
    ⊎_elim (λ (l : i < length xs). inl (rw e (get_or-set_same xs i left [] l)))
    (λ (g : length xs ≤ i). inr (ap (λ ys. get_or ys j []) (set_out xs i left g))) (cases_lt i (length xs)))
    (λ (ne : j ≢ i). inr (get_or-set_other xs i j left [] ne))
    (cases_eq j i)

pub place_cases : (xs : List Job) (i j : ℕ) (left : List Stmt) → ((job_at (with_left xs i left) j).left ≡ left)
    ⊎ ((job_at (with_left xs i left) j).left ≡ (job_at xs j).left)
place_cases xs i j left =
    ⊎_elim
    (λ (e : j ≡ i).
    ⊎_elim (λ (l : i < length xs). inl (rw e (ap (λ x. x.left) (at_set xs i left l))))
    (λ (g : length xs ≤ i). inr (ap (λ ys. (job_at ys j).left) (set_out xs i _ g))) (cases_lt i (length xs)))
    (λ (ne : j ≢ i). inr (ap (λ x. x.left) (at_other xs i j left ne)))
    (cases_eq j i)

pub leaving_cases : (w : World) (r q : Runner) (left : List Stmt) → (left_of (leaving w r left) q ≡ left)
    ⊎ (left_of (leaving w r left) q ≡ left_of w q)
leaving_cases w (runner.Isr i) (runner.Isr j) left = set_cases w.isrs i.0 j.0 left
leaving_cases w (runner.Job i) (runner.Job j) left = place_cases w.jobs i j left
leaving_cases w (runner.Oisr i) (runner.Oisr j) left = set_cases w.oisrs i.0 j.0 left
leaving_cases w (runner.Osek i) (runner.Osek j) left = set_cases w.oseks i.0 j.0 left
leaving_cases w r q left = inr refl

-- each list that is left passes a test of it and of its owner's kind
abbrev pub EachLeft : (OwnerKind → List Stmt → Type 0) → World → Type 0
EachLeft Test w = (r : Runner) → Test (kind_of r) (left_of w r)

either_left : (Test : List Stmt → Type 0) (after left before : List Stmt) → (after ≡ left) ⊎ (after ≡ before)
    → Test left → Test before → Test after
either_left Test after left before (inl e) t b = subst Test (sym e) t
either_left Test after left before (inr e) t b = subst Test (sym e) b

pub each_leaving : (Test : OwnerKind → List Stmt → Type 0) (w : World) (r : Runner) (left : List Stmt)
    → Test (kind_of r) left → EachLeft Test w → EachLeft Test (leaving w r left)
each_leaving Test w (runner.Isr i) left t e (runner.Isr j) =
    either_left (Test owner.Isr) _ _ _ (leaving_cases w (runner.Isr i) (runner.Isr j) left) t (e (runner.Isr j))
each_leaving Test w (runner.Job i) left t e (runner.Job j) =
    either_left (Test owner.Task) _ _ _ (leaving_cases w (runner.Job i) (runner.Job j) left) t (e (runner.Job j))
each_leaving Test w (runner.Oisr i) left t e (runner.Oisr j) =
    either_left (Test owner.Oisr) _ _ _ (leaving_cases w (runner.Oisr i) (runner.Oisr j) left) t (e (runner.Oisr j))
each_leaving Test w (runner.Osek i) left t e (runner.Osek j) =
    either_left (Test owner.Osek) _ _ _ (leaving_cases w (runner.Osek i) (runner.Osek j) left) t (e (runner.Osek j))
each_leaving Test w r left t e q = e q

-- ---- names

-- nothing left
pub none_runnable : (c : ConfigParts) {kind : OwnerKind} → IsRunnable c kind []
none_runnable c = record { expressions = refl; variables = refl; demands = refl; callees = refl; allowed = refl }

-- a whole body
pub body_runnable : (c : ConfigParts) (kind : OwnerKind) (body : List Stmt) → IsBody c kind body
    → IsRunnable c kind body
body_runnable c kind body h = record {
  expressions = h.expressions;
  variables = h.variables;
  demands = h.demands;
  callees = h.callees;
  allowed = h.allowed;
}

pub record Named (c : ConfigParts) (w : World) : Type 0 where
  pub mode : w.mode.0 < length c.modes
  pub wanted : w.wanted.0 < length c.modes
  pub lefts : EachLeft (IsRunnable c) w

pub has_mode : (c : ConfigParts) (w : World) → Named c w → HasMode c w
has_mode c w n = record { mode = n.mode; wanted = n.wanted }

leaving_named : (c : ConfigParts) (w : World) (r : Runner) (left : List Stmt) → IsRunnable c (kind_of r) left
    → Named c w
    → Named c (leaving w r left)
leaving_named c w (runner.Isr i) left t n =
    record { mode = n.mode; wanted = n.wanted; lefts = each_leaving (IsRunnable c) w (runner.Isr i) left t n.lefts }
leaving_named c w (runner.Job i) left t n =
    record { mode = n.mode; wanted = n.wanted; lefts = each_leaving (IsRunnable c) w (runner.Job i) left t n.lefts }
leaving_named c w (runner.Oisr i) left t n =
    record { mode = n.mode; wanted = n.wanted; lefts = each_leaving (IsRunnable c) w (runner.Oisr i) left t n.lefts }
leaving_named c w (runner.Osek i) left t n =
    record { mode = n.mode; wanted = n.wanted; lefts = each_leaving (IsRunnable c) w (runner.Osek i) left t n.lefts }
leaving_named c w runner.Nobody left t n = n

module _ (c : ConfigParts) (s : ScriptParts) (rules : IsConfig c) where
  body_named : (task : _) → IsRunnable c owner.Task (body_of c task)
  body_named task =
      ⊎_elim (λ (l : task.0 < length c.tasks).
      body_runnable c owner.Task _ (All-get_or (IsTask c) c.tasks task.0 no_task l rules.tasks).routine.is_body)
      (λ (g : length c.tasks ≤ task.0). subst (λ x. IsRunnable c owner.Task x.body)
      (sym (get_or_past c.tasks task.0 no_task g)) (none_runnable c))
      (cases_lt task.0 (length c.tasks))

  osek_named : (task : OsekNo) → IsRunnable c owner.Osek (osek_body c task)
  osek_named task =
      ⊎_elim (λ (l : task.0 < length c.oseks).
      body_runnable c owner.Osek _ (All-get_or (IsOsek c) c.oseks task.0 no_osek l rules.oseks).routine.is_body)
      (λ (g : length c.oseks ≤ task.0). subst (λ x. IsRunnable c owner.Osek x.body)
      (sym (get_or_past c.oseks task.0 no_osek g)) (none_runnable c))
      (cases_lt task.0 (length c.oseks))

  routine_named : (source : Source) → IsRunnable c (kind_of (source_runner source)) (routine_of c source)
  routine_named (IsrSource i) =
      ⊎_elim (λ (l : i.0 < length c.isrs).
      body_runnable c owner.Isr _ (All-get_or (IsIsr c) c.isrs i.0 no_isr l rules.isrs).routine.is_body)
      (λ (g : length c.isrs ≤ i.0). subst (λ x. IsRunnable c owner.Isr x.body) (sym (get_or_past c.isrs i.0 no_isr g))
      (none_runnable c))
      (cases_lt i.0 (length c.isrs))
  routine_named (OisrSource i) =
      ⊎_elim (λ (l : i.0 < length c.oisrs).
      body_runnable c owner.Oisr _ (All-get_or (IsOisr c) c.oisrs i.0 no_oisr l rules.oisrs).routine.is_body)
      (λ (g : length c.oisrs ≤ i.0). subst (λ x. IsRunnable c owner.Oisr x.body)
      (sym (get_or_past c.oisrs i.0 no_oisr g)) (none_runnable c))
      (cases_lt i.0 (length c.oisrs))

  -- ---- services

  record NamedAnswer (r : Runner) (a : Answer) : Type 0 where
    world : Named c a.world
    left : IsRunnable c (kind_of r) a.left

  synced_named : (r : Runner) (global : Option ℕ) (left : List Stmt) (w : World) → Named c w
      → IsRunnable c (kind_of r) left → NamedAnswer r (synced c global w left)
  synced_named r None left w n t = record { world = n; left = t }
  synced_named r (Some global) left w n t =
      record { world = record { mode = n.mode; wanted = n.wanted; lefts = n.lefts }; left = t }

  service_named : (r : Runner) (k : Call) (left : List Stmt) (w : World)
      → names_below (length c.modes) (length c.oseks) k ≡ true → Named c w → IsRunnable c (kind_of r) left
      → NamedAnswer r (service c s r k left w)
  unfolding service
  service_named r (call.Switch mode) left w b n t =
      record { world = record { mode = n.mode; wanted = ltb-true _ _ b; lefts = n.lefts }; left = t }
  service_named r call.Sync left w b n t = synced_named r _ left w n t
  service_named r call.Shutdown left w b n t = record { world = n; left = t }
  service_named r (call.Activate task) left w b n t =
      cond_both (is_suspended w task) _ _ (NamedAnswer r)
      (λ _. record { world = leaving_named c w (runner.Osek task) (osek_body c task) (osek_named task) n; left = t })
      (λ _. record { world = n; left = t })
  service_named r (call.Chain task) left w b n t =
      cond_both (is_caller r task) _ _ (NamedAnswer r)
      (λ e. record {
        world = n;
        left = subst (λ kind. IsRunnable c kind (osek_body c task)) (sym (caller_is_osek r task e)) (osek_named task);
      })
      (λ _. cond_both (is_suspended w task) _ _ (NamedAnswer r)
      (λ _. record {
        world = leaving_named c w (runner.Osek task) (osek_body c task) (osek_named task) n;
        left =
            none_runnable c;
      })
      (λ _. record { world = n; left = t }))
  service_named r call.Terminate left w b n t = record { world = n; left = none_runnable c }

  -- ---- a tick

  abbrev pub EffectsNamed : List Effect → Type 0
  EffectsNamed [] = Unit {0}
  EffectsNamed (effect.Out value ∷ rest) = EffectsNamed rest
  EffectsNamed (effect.Service k ∷ rest) = (names_below (length c.modes) (length c.oseks) k ≡ true) × EffectsNamed rest

  tick_named : (left : List Stmt) (w : World) (front : Stmt-F Stmt) (rest : List Stmt)
      → has_callee (length c.modes) (length c.oseks)
      (map-Stmt Stmt Bool (each_of (has_callee (length c.modes) (length c.oseks))) front) ≡ true
      → EffectsNamed (tick_by (supply_of c.demands s.values) (state_of left w.vars w.cursors []) front rest).effects
  tick_named left w (Stmt-F.Service k) rest h = (h, tt)
  tick_named left w front rest h = tt

  pub effects_named : {kind : OwnerKind} (w : World) (left : List Stmt) → IsRunnable c kind left
      → EffectsNamed (state_after c s w left).effects
  unfolding tick
  effects_named w [] t = tt
  effects_named w (front ∷ rest) t =
      let test = has_callee {A = Bool} (length c.modes) (length c.oseks) in
      let here = sym (fold_out-Stmt Bool (λ y. test y && inner_pass y) front)
      ∙ (and_parts (each_of test front) _ t.callees).0 in
      tick_named (front ∷ rest) w (out-Stmt front) rest
      (and_parts (test (map-Stmt Stmt Bool (each_of test) (out-Stmt front))) _ here).0

  -- the tests of expressions and names pass at every work and repeat, so they last
  lasting : (test : Stmt-F Bool → Bool) → ((n : ℕ) → test (Stmt-F.Work n) ≡ true)
      → ((n : ℕ) (body : List Bool) → test (Stmt-F.Repeat n body) ≡ true)
      → LastsThroughTicks (supply_of c.demands s.values) test
  lasting test work repeat = record {
    work = λ n e. work (suc n);
    repeat = λ n body e. repeat (suc n) body;
    take = λ demand used n is e. work (suc n);
  }

  -- work and repeats are allowed whatever their numbers, and work wherever a demand is
  allowed_lasts : (kind : OwnerKind) → LastsThroughTicks (supply_of c.demands s.values) (is_allowed kind)
  allowed_lasts kind = record {
    work = λ n e. e;
    repeat = λ n body e. e;
    take = λ demand used n is e. e;
  }

  ticked_named : (kind : OwnerKind) (w : World) (left : List Stmt) → IsRunnable c kind left
      → IsRunnable c kind (state_after c s w left).left
  ticked_named kind w left t =
      let keeps = keeps_each (supply_of c.demands s.values) (state_of left w.vars w.cursors []) in
      record {
        expressions = keeps _ (lasting is_expression_short (λ n. refl) (λ n body. refl)) t.expressions;
        variables = keeps _ (lasting (has_variables (length c.vars)) (λ n. refl) (λ n body. refl)) t.variables;
        demands = keeps _ (lasting (has_demand (length c.demands)) (λ n. refl) (λ n body. refl)) t.demands;
        callees = keeps _
            (lasting (has_callee (length c.modes) (length c.oseks)) (λ n. refl) (λ n body. refl)) t.callees;
        allowed = keeps _ (allowed_lasts kind) t.allowed;
      }

  effected_named : (r : Runner) (effects : List Effect) (who : Owner) (left : List Stmt) (w : World) (es : List Event)
      → EffectsNamed effects → Named c w → IsRunnable c (kind_of r) left
      → Holds (Named c) es (effected c s r who effects left w).move
  effected_named r [] who left w es f n t = leaving_named c w r left t n
  effected_named r (effect.Out value ∷ rest) who left w es f n t = leaving_named c w r left t n
  effected_named r (effect.Service k ∷ rest) who left w es f n t =
      let a = service_named r k left w f.0 n t in
      cond_both (is_shutdown k) _ _ (Holds (Named c) es) (λ _. tt)
      (λ _. leaving_named c (service c s r k left w).world r (service c s r k left w).left a.left a.world)

  pub step_named : Leads (Alone (Named c)) (Alone (Named c)) Anything (step c s)
  unfolding step
  step_named w es n =
      let r = runner_of c w in
      let who = owner_of c w r in
      let state = state_after c s w (left_of w r) in
      followed_leads (Alone (Named c)) (Alone (Named c)) Anything es
      (preceded (run_line w who) (runner_tick c s r who w).move) _
      (effected_named r state.effects who state.left _ es (effects_named w (left_of w r) (n.lefts r))
      (record { mode = n.mode; wanted = n.wanted; lefts = n.lefts })
      (ticked_named (kind_of r) w (left_of w r) (n.lefts r)))
      (λ v ds p. record { mode = p.mode; wanted = p.wanted; lefts = p.lefts })

  -- ---- the opening

  latch_named : Leads (Alone (Named c)) (Alone (Named c)) Anything (latch c)
  unfolding latch
  latch_named w es n = cond_both (eqb (offset_of w) (c.round - c.adjust)) _ _ (Holds (Named c) es)
      (λ _. record { mode = n.mode; wanted = n.wanted; lefts = n.lefts }) (λ _. n)

  -- the next round has the wanted mode, and no activation
  none_left : (w : World) → EachLeft (IsRunnable c) w → (number : ℕ) (mode : _)
      → EachLeft (IsRunnable c) (record w { start = w.tick; number = number; mode = mode; latched = None; jobs = [] })
  none_left w e number mode (runner.Job place) =
      subst (λ (x : Job). IsRunnable c owner.Task x.left) (sym (get_or_past [] place no_job (omega arith)))
      (none_runnable c)
  none_left w e number mode (runner.Isr i) = e (runner.Isr i)
  none_left w e number mode (runner.Oisr i) = e (runner.Oisr i)
  none_left w e number mode (runner.Osek i) = e (runner.Osek i)
  none_left w e number mode runner.Nobody = none_runnable c

  next_round_named : Leads (Alone (Named c)) (Alone (Named c)) Anything (next_round s)
  unfolding next_round
  next_round_named w es n =
      cond_both (eqb w.number s.rounds) _ _ (Holds (Named c) es) (λ _. tt)
      (λ _. record { mode = n.wanted; wanted = n.wanted; lefts = none_left w n.lefts (w.number + 1) w.wanted })

  round_end_named : Leads (Alone (Named c)) (Alone (Named c)) Anything (round_end c s)
  unfolding round_end
  round_end_named w es n =
      cond_both (is_length w.latched (offset_of w)) _ _ (Holds (Named c) es)
      (λ _. followed_leads (Alone (Named c)) (Alone (Named c)) Anything es (monitored c (is_at_end (offset_of w)) w)
      (next_round s) (monitored_holds (Named c) c _ w es (λ _. n)) next_round_named)
      (λ _. n)

  acceptance_named : (source : Source) → Leads (Alone (Named c)) (Alone (Named c)) Anything (acceptance c source)
  unfolding acceptance
  acceptance_named (IsrSource i) w es n =
      cond_both (is_accepted w (IsrSource i)) _ _ (Holds (Named c) es)
      (λ _. leaving_named c (disabling (holding w (IsrSource i) false) (IsrSource i)) (runner.Isr i)
      (routine_of c (IsrSource i)) (routine_named (IsrSource i))
      (record { mode = n.mode; wanted = n.wanted; lefts = n.lefts })) (λ _. n)
  acceptance_named (OisrSource i) w es n =
      cond_both (is_accepted w (OisrSource i)) _ _ (Holds (Named c) es)
      (λ _. leaving_named c (disabling (holding w (OisrSource i) false) (OisrSource i)) (runner.Oisr i)
      (routine_of c (OisrSource i)) (routine_named (OisrSource i))
      (record { mode = n.mode; wanted = n.wanted; lefts = n.lefts })) (λ _. n)

  arrived_named : (held : Bool) (source : Source) (w : World) (es : List Event) → Named c w
      → Holds (Named c) es (arrived held source w)
  arrived_named true source w es n = n
  arrived_named false (IsrSource i) w es n = record { mode = n.mode; wanted = n.wanted; lefts = n.lefts }
  arrived_named false (OisrSource i) w es n = record { mode = n.mode; wanted = n.wanted; lefts = n.lefts }

  arrival_named : (source : Source) → Leads (Alone (Named c)) (Alone (Named c)) Anything (arrival s source)
  unfolding arrival
  arrival_named source w es n =
      cond_both (list_any (λ (tick : ℕ). tick == w.tick) (arrivals_of s source)) _ _ (Holds (Named c) es)
      (λ _. arrived_named (is_held w source) source w es n) (λ _. n)

  -- a new activation
  more_left : (w : World) (entry : ℕ) (left : List Stmt) → IsRunnable c owner.Task left → EachLeft (IsRunnable c) w
      → EachLeft (IsRunnable c) (record w { jobs = w.jobs ++ record { entry = entry; left = left } ∷ [] })
  more_left w entry left t e (runner.Job place) =
      let y : Job = record { entry = entry; left = left } in
      ⊎_elim
      (λ (l : place < length (w.jobs ++ y ∷ [])).
      ⊎_elim (λ (old : IsOldPlace w.jobs y place). subst (λ x. IsRunnable c owner.Task x.left) (sym old.1)
      (e (runner.Job place)))
      (λ (new : IsNewPlace w.jobs y place). subst (λ x. IsRunnable c owner.Task x.left) (sym new.1) t)
      (place_of_more w.jobs y place l))
      (λ (g : length (w.jobs ++ y ∷ []) ≤ place). subst (λ (x : Job). IsRunnable c owner.Task x.left)
      (sym (get_or_past (w.jobs ++ y ∷ []) place no_job g)) (none_runnable c))
      (cases_lt place (length (w.jobs ++ y ∷ [])))
  more_left w entry left t e (runner.Isr i) = e (runner.Isr i)
  more_left w entry left t e (runner.Oisr i) = e (runner.Oisr i)
  more_left w entry left t e (runner.Osek i) = e (runner.Osek i)
  more_left w entry left t e runner.Nobody = none_runnable c

  activated_named : (entry : Option ℕ) (w : World) (es : List Event) → Named c w
      → Holds (Named c) es (activated c entry w)
  activated_named None w es n = n
  activated_named (Some entry) w es n =
      record { mode = n.mode; wanted = n.wanted; lefts = more_left w entry _ (body_named _) n.lefts }

  opening_keeps : OpeningKeeps c s (λ _. Alone (Named c)) Anything
  unfolding head checks enables enable arrivals acceptances activation
  opening_keeps = record {
    head_is = λ w es _ n. n;
    latch_is = latch_named;
    round_end_is = round_end_named;
    checks_are = λ w es n. monitored_holds (Named c) c (is_at (offset_of w)) w es (λ _. n);
    enables_are = λ w es n. chain_each (Alone (Named c)) Anything enable
        (enables_at (offset_of w) (mode_of c w).enables)
        (λ row v ds m. record { mode = m.mode; wanted = m.wanted; lefts = m.lefts }) w es n;
    arrivals_are = chain_each (Alone (Named c)) Anything (arrival s) (sources c) arrival_named;
    acceptances_are = chain_each (Alone (Named c)) Anything (acceptance c) (sources c) acceptance_named;
    activation_is = λ w es n. activated_named (entry_at (offset_of w) (mode_of c w).activations) w es n;
  }

  pub instant_named : (w : World) (es : List Event) → Named c w → Holds (Named c) es (instant c s w)
  instant_named w es n = instant_leads c s (λ _. Alone (Named c)) Anything opening_keeps
      (Alone (Named c)) step_named w es n

  pub opening_named : (w : World) (es : List Event) → Named c w → Holds (Named c) es (opening c s w)
  opening_named w es n = opening_leads c s (λ _. Alone (Named c)) Anything opening_keeps w es n

  pub named_at : Named c (world_at c s 0) → (n : ℕ) → GoesOnBefore c s n → Named c (world_at c s n)
  named_at first = kept_at c s (Named c) first instant_named

  -- before tick 0
  auto_named : (task : OsekDef) → IsOsek c task → IsRunnable c owner.Osek (if task.auto then task.body else [])
  auto_named task h = cond_both task.auto task.body [] (IsRunnable c owner.Osek)
      (λ _. body_runnable c owner.Osek _ h.routine.is_body)
      (λ _. none_runnable c)

  oseks_named : (i : ℕ)
      → IsRunnable c owner.Osek (get_or (map (λ (task : OsekDef). if task.auto then task.body else []) c.oseks) i [])
  oseks_named i =
      subst (IsRunnable c owner.Osek)
      (sym (get_or-map (λ (task : OsekDef). if task.auto then task.body else []) c.oseks i no_osek))
      (⊎_elim (λ (l : i < length c.oseks). auto_named _ (All-get_or (IsOsek c) c.oseks i no_osek l rules.oseks))
      (λ (g : length c.oseks ≤ i). subst (λ (x : OsekDef). IsRunnable c owner.Osek (if x.auto then x.body else []))
      (sym (get_or_past c.oseks i no_osek g)) (none_runnable c)) (cases_lt i (length c.oseks)))

  none_of : (kind : OwnerKind) (n i : ℕ) → IsRunnable c kind (get_or (replicate {A = List Stmt} n []) i [])
  none_of kind n i =
      ⊎_elim (λ (l : i < n). subst (IsRunnable c kind) (sym (get_or-replicate {A = List Stmt} n i [] [] l))
      (none_runnable c))
      (λ (g : n ≤ i). subst (IsRunnable c kind) (sym
      (get_or_past (replicate {A = List Stmt} n []) i []
      (let e = length-replicate {A = List Stmt} n [] in omega arith))) (none_runnable c)) (cases_lt i n)

  first_lefts : EachLeft (IsRunnable c) (first_world c s)
  first_lefts (runner.Isr i) = none_of owner.Isr (length c.isrs) i.0
  first_lefts (runner.Job place) = subst (λ (x : Job). IsRunnable c owner.Task x.left)
      (sym (get_or_past [] place no_job (omega arith))) (none_runnable c)
  first_lefts (runner.Oisr i) = none_of owner.Oisr (length c.oisrs) i.0
  first_lefts (runner.Osek i) = oseks_named i.0
  first_lefts runner.Nobody = none_runnable c

  pub run_named : IsScript c s → (n : ℕ) → GoesOnBefore c s n → Named c (world_at c s n)
  unfolding world_at
  run_named script n g = named_at (record { mode = script.start; wanted = script.start; lefts = first_lefts }) n g
