-- The tick of the one who runs, as the code takes it: on the stack or in idle time, and then what follows from its
-- effect.
use Rattle.std.proofs.Common.{ℕ, ◌≡◌, ◌≢◌, ◌-◌, ◌≤◌, ◌<◌, List, [], ◌∷◌, true, false, Bool, refl, ap, sym, ◌∙◌, None, Some, subst, arith, length, ◌⊎◌, inl, inr, ⊎_elim}
use Rattle.std.specs.Prelude.{ℤ, ◌||◌, Option, option_map, if◌then◌else◌}
use Rattle.std.proofs.lemmas.Bool.{cond_both, cases_Bool, ltb-true}
use Rattle.task_lang.specs.Tick.{supply_of}
use Rattle.task_lang.specs.Limits.{names_below}
use Rattle.task_lang.specs.Allowed.{may_call, column}
use Rattle.task_lang.specs.declared.syntax.Stmt.{Stmt}
use Rattle.task_lang.specs.declared.tick.Effect.{Effect}
use Rattle.task_lang.specs.declared.tick.Effect.TheVariants as effect
use Rattle.tt_base.specs.declared.event.Call.{Call}
use Rattle.tt_base.specs.declared.event.Call.TheVariants as call
use Rattle.tt_base.specs.declared.event.Owner.{Owner}
use Rattle.tt_base.specs.declared.event.Owner.TheVariants as owner
use Rattle.tt_base.specs.declared.number.ModeNo.{ModeNo}
use Rattle.tt_base.specs.declared.number.OsekNo.{OsekNo}
use Rattle.tt_world.specs.declared.config.ConfigParts.{ConfigParts}
use Rattle.tt_world.specs.declared.script.ScriptParts.{ScriptParts}
use Rattle.tt_world.specs.declared.world.Runner.{Runner}
use Rattle.tt_world.specs.declared.world.Runner.TheVariants as runner
use Rattle.tt_world.specs.ConfigRules.{IsConfig, IsRunnable}
use Rattle.tt_world.specs.World.{World, Job}
use Rattle.tt_world.specs.Rows.{osek_body}
use Rattle.tt_world.specs.Runners.{is_done, kind_of, left_of, leaving, first_runner, runner_of, owner_of}
use Rattle.tt_world.specs.Services.{Answer, answers, ends_with, service, synced, ready, is_suspended, is_caller}
use Rattle.tt_world.specs.Step.{state_after}
use Rattle.tt_world.proofs.Calling.{EffectsAllowed, effects_allowed}
use Rattle.tt_world.proofs.Keeps.{AfterService, service_answers}
use Rattle.tt_world.proofs.Modes.{EffectsNamed, effects_named}
use Rattle.tt_world.proofs.WhoRuns.{highest_undone, last_found_at}
use Rattle.round_end.specs.Round.{Round}
use Rattle.osek_idle.specs.Subsystem.{Subsystem, Setup, lefts}
use Rattle.tt_services.specs.Agreement.{RunsAs, IsCall, Agrees}
use Rattle.tt_services.specs.Performed.{performed, MayCall, IsOsek}
use Rattle.tt_services.proofs.Agreeing.{agree}
use Rattle.stack_dispatch.specs.declared.took.Did.TheVariants as did
use Rattle.stack_dispatch.specs.declared.took.Taken.{Taken}
use Rattle.stack_dispatch.specs.Effects.{effected, MayDo}
use Rattle.stack_dispatch.specs.Ticking.{IsInIdleTime, GaveAnswer, TookBy}
use Rattle.stack_dispatch.proofs.Performing.{effect_makes, ends_task}

-- ---- the one who runs has something left

-- somebody has something left
abbrev HasSome : World → Runner → Type 0
HasSome w runner.Nobody = Unit {0}
HasSome w r = is_done (left_of w r) ≡ false

some_first : (w : World) (i t o k : Option ℕ) → ((n : ℕ) → i ≡ Some n → HasSome w (runner.Isr (record { 0 = n })))
    → ((n : ℕ) → t ≡ Some n → HasSome w (runner.Job n))
    → ((n : ℕ) → o ≡ Some n → HasSome w (runner.Oisr (record { 0 = n })))
    → ((n : ℕ) → k ≡ Some n → HasSome w (runner.Osek (record { 0 = n })))
    → HasSome w (first_runner (option_map (λ (n : ℕ). runner.Isr (record { 0 = n })) i
    ∷ option_map (λ (n : ℕ). runner.Job n) t ∷ option_map (λ (n : ℕ). runner.Oisr (record { 0 = n })) o
    ∷ option_map (λ (n : ℕ). runner.Osek (record { 0 = n })) k ∷ []))
some_first w (Some n) t o k a b d e = a n refl
some_first w None (Some n) o k a b d e = b n refl
some_first w None None (Some n) k a b d e = d n refl
some_first w None None None (Some n) a b d e = e n refl
some_first w None None None None a b d e = tt

has_some : (c : ConfigParts) (w : World) (r : Runner) → r ≡ runner_of c w → HasSome w r
unfolding runner_of
has_some c w r e = subst (HasSome w) (sym e) (some_first w _ _ _ _ (λ n. highest_undone _ w.isrs n)
    (λ n h. let z : n - 0 ≡ n = omega arith in
    subst (λ (k : ℕ). HasSome w (runner.Job k)) z (last_found_at w.jobs n h).undone)
    (λ n. highest_undone _ w.oisrs n) (λ n. highest_undone _ w.oseks n))

not_empty : (left : List Stmt) → is_done left ≡ false → left ≢ []
not_empty left e none = let both : true ≡ false = sym (ap is_done none) ∙ e in cc

some_idle : (w : World) (r : Runner) → IsInIdleTime r → HasSome w r → left_of w r ≢ []
some_idle w (runner.Oisr i) on h = not_empty _ h
some_idle w (runner.Osek i) on h = not_empty _ h
some_idle w r on h = absurd on

-- one who runs in idle time has something left
pub idle_some : (c : ConfigParts) (w : World) (r : Runner) → r ≡ runner_of c w → IsInIdleTime r → left_of w r ≢ []
idle_some c w r e on = some_idle w r on (has_some c w r e)

-- ---- a call that the one who runs may make

osek_column : (c : ConfigParts) (w : World) (r : Runner) → column (kind_of r) false false true false false ≡ true
    → IsOsek (owner_of c w r)
osek_column c w (runner.Osek t) e = tt
osek_column c w r e = cc

module _ (c : ConfigParts) (w : World) (r : Runner) (round : Round) (setup : Setup) (started : round.start ≤ w.tick)
    (modes : round.modes ≡ length c.modes) (tasks : length setup.tasks ≡ length c.oseks) where
  may_call_of : (k : Call) → may_call (kind_of r) k ≡ true → names_below (length c.modes) (length c.oseks) k ≡ true
      → MayCall w.tick (owner_of c w r) k round setup
  may_call_of (call.Switch mode) allowed named = let l = ltb-true mode.0 (length c.modes) named in omega arith
  may_call_of call.Sync allowed named = started
  may_call_of (call.Activate task) allowed named = let l = ltb-true task.0 (length c.oseks) named in omega arith
  may_call_of (call.Chain task) allowed named =
      (osek_column c w r allowed, let l = ltb-true task.0 (length c.oseks) named in omega arith)
  may_call_of call.Terminate allowed named = osek_column c w r allowed
  may_call_of k allowed named = tt

  may_do_of : (s : ScriptParts) (rules : IsConfig c) (es : List Effect) → EffectsAllowed (kind_of r) es
      → EffectsNamed c s rules es
      → MayDo w.tick (owner_of c w r) es round setup
  may_do_of s rules [] allowed named = tt
  may_do_of s rules (effect.Out value ∷ rest) allowed named = tt
  may_do_of s rules (effect.Service k ∷ rest) allowed named = may_call_of k allowed.0 named.0

  -- the one who runs may make the call of its tick
  pub may_do : (s : ScriptParts) → IsConfig c → (left : List Stmt) → IsRunnable c (kind_of r) left
      → MayDo w.tick (owner_of c w r) (state_after c s w left).effects round setup
  may_do s rules left runnable =
      may_do_of s rules (state_after c s w left).effects
      (effects_allowed (kind_of r) (supply_of c.demands s.values) w.vars w.cursors left runnable.allowed)
      (effects_named c s rules w left runnable)

-- ---- what a service leaves of the caller

synced_stays : (c : ConfigParts) (global : Option ℕ) (w : World) (left : List Stmt)
    → (synced c global w left).left ≡ left
synced_stays c None w left = refl
synced_stays c (Some global) w left = refl

-- a caller that does not end goes on with what is left of it
service_stays : (c : ConfigParts) (s : ScriptParts) (r : Runner) (k : Call) (left : List Stmt) (w : World)
    → (service c s r k left w).ends ≡ false
    → (service c s r k left w).left ≡ left
unfolding service
service_stays c s r call.Sync left w e = synced_stays c _ w left
service_stays c s r (call.Activate task) left w e =
    cond_both (is_suspended w task) (answers 0 (ready c task w) left) (answers 4 w left)
    (λ (a : Answer). a.left ≡ left) (λ _. refl) (λ _. refl)
service_stays c s r (call.Chain task) left w e =
    cond_both (is_caller r task) (ends_with w (osek_body c task))
    (if is_suspended w task then ends_with (ready c task w) [] else answers 4 w left)
    (λ (a : Answer). a.ends ≡ false → a.left ≡ left) (λ _ f. cc)
    (λ _. cond_both (is_suspended w task) (ends_with (ready c task w) []) (answers 4 w left)
    (λ (a : Answer). a.ends ≡ false → a.left ≡ left)
    (λ _ f. cc) (λ _ f. refl)) e
service_stays c s r call.Terminate left w e = cc
service_stays c s r k left w e = refl

-- an OSEK task, as the one who runs
abbrev IsTask : Runner → Type 0
IsTask (runner.Osek task) = Unit {0}
IsTask _ = ⊥

runs_task : (sub : Subsystem) (r : Runner) (who : Owner) → RunsAs sub r who → IsOsek who → IsTask r
runs_task sub (runner.Osek p) who runs is = tt
runs_task sub r (owner.Osek q) runs is = absurd runs
runs_task sub r who runs is = absurd is

-- ---- the world after a tick

-- the parts of the round, and the tasks, that a service may change
abbrev pub served : World → ModeNo → ℤ → ℕ → List (List Stmt) → World
served w wanted pending used oseks = record w { wanted = wanted; pending = pending; times_used = used; oseks = oseks }

same_served : (w : World) (a b : ModeNo) (d e : ℤ) (f g : ℕ) (x y : List (List Stmt)) → a ≡ b → d ≡ e → f ≡ g → x ≡ y
    → served w a d f x ≡ served w b e g y
same_served w a b d e f g x y ab de fg xy = rw (ab, de, fg, xy) refl

left_served : (r : Runner) (w : World) (left after : List Stmt) (wanted : ModeNo) (pending : ℤ) (used : ℕ)
    (oseks : List (List Stmt))
    → IsTask r ⊎ (after ≡ left)
    → leaving (served w wanted pending used oseks) r after
    ≡ served (leaving w r left) wanted pending used (leaving (served w wanted pending used oseks) r after).oseks
left_served (runner.Osek i) w left after wanted pending used oseks h = refl
left_served r w left after wanted pending used oseks (inl h) = absurd h
left_served runner.Nobody w left after wanted pending used oseks (inr e) = refl
left_served r w left after wanted pending used oseks (inr e) =
    ap (λ (l : List Stmt). served (leaving w r l) wanted pending used oseks) e

answer_served : (c : ConfigParts) (r : Runner) (w v : World) (left after : List Stmt) → AfterService c w v
    → IsTask r ⊎ (after ≡ left)
    → leaving v r after ≡ served (leaving w r left) v.wanted v.pending v.times_used (leaving v r after).oseks
answer_served c r w v left after a h =
    subst (λ (x : World). leaving x r after ≡ served (leaving w r left) x.wanted x.pending x.times_used
    (leaving x r after).oseks) (sym a.is)
    (left_served r w left after a.wanted a.pending a.used a.oseks h)

none_served : (r : Runner) (w : World) (left : List Stmt)
    → leaving w r left ≡ served (leaving w r left) w.wanted w.pending w.times_used (leaving w r left).oseks
none_served (runner.Osek i) w left = refl
none_served r w left = refl

ended_same : (ends : Bool) (left after : List Stmt) → (ends ≡ false → after ≡ left)
    → (ends || is_done left) ≡ (ends || is_done after)
ended_same true left after h = refl
ended_same false left after h = ap is_done (sym (h refl))

module _ (c : ConfigParts) (s : ScriptParts) (r : Runner) (who : Owner) (w : World) (left : List Stmt)
    (body : ℕ → List Stmt) (round : Round)
    (sub : Subsystem) (setup : Setup) (bodies : (task : OsekNo) → task.0 < length setup.tasks
    → body task.0 ≡ osek_body c task)
    (h : IsCall c s w r who left (λ (n : ℕ). osek_body c (record { 0 = n })) round sub) where
  performed_same : (k : Call) → MayCall w.tick who k round setup
      → performed (λ (n : ℕ). osek_body c (record { 0 = n })) w.tick who k round sub ≡ performed body w.tick who k
      round sub
  performed_same (call.Activate task) may =
      ap (λ (b : List Stmt). performed (λ _. b) w.tick who (call.Activate task) round sub) (sym (bodies task may))
  performed_same (call.Chain task) may =
      ap (λ (b : List Stmt). performed (λ _. b) w.tick who (call.Chain task) round sub) (sym (bodies task may.1))
  performed_same k may = refl

  nothing_after : (now : World) → now ≡ served (leaving w r left) round.wanted round.pending round.times_used
      (lefts sub.tasks)
      → now ≡ leaving w r left
  nothing_after now e =
      e ∙ same_served (leaving w r left) _ _ _ _ _ _ _ _ h.wanted h.pending h.used (sym h.oseks)
      ∙ sym (none_served r w left)

  module _ (k : Call) (may : MayCall w.tick who k round setup) where
    agrees : Agrees r (service c s r k left w) (performed body w.tick who k round sub)
    agrees = subst (Agrees r (service c s r k left w)) (performed_same k may)
        (agree c s w r who left (λ (n : ℕ). osek_body c (record { 0 = n })) round sub setup k h may)

    task_or_same : IsTask r ⊎ ((service c s r k left w).left ≡ left)
    task_or_same =
        ⊎_elim (λ (e : (service c s r k left w).ends ≡ true).
        inl (runs_task sub r who h.runs
        (ends_task (effect_makes body w.tick round setup sub who (effect.Service k ∷ []) may) (sym agrees.ends ∙ e))))
        (λ (e : (service c s r k left w).ends ≡ false). inr (service_stays c s r k left w e))
        (cases_Bool (service c s r k left w).ends)

    called_by : (taken : Taken) (now : World) → taken.did ≡ did.Called k (performed body w.tick who k round sub).result
        → taken.ended ≡ ((performed body w.tick who k round sub).ends || is_done left)
        → now ≡ served (leaving w r left) (performed body w.tick who k round sub).round.wanted
        (performed body w.tick who k round sub).round.pending
        (performed body w.tick who k round sub).round.times_used
        (lefts (performed body w.tick who k round sub).subsystem.tasks)
        → GaveAnswer taken now r (did.Called k (service c s r k left w).result) (service c s r k left w)
    called_by taken now did_is ended_is now_is =
        let a = service c s r k left w in
        record {
          did = did_is ∙ ap (λ (n : ℕ). did.Called k n) (sym agrees.result);
          ended_is = ended_is ∙ ap (λ (b : Bool). b || is_done left) (sym agrees.ends)
              ∙ ended_same a.ends left a.left (service_stays c s r k left w);
          world_is = now_is
              ∙ same_served (leaving w r left) _ _ _ _ _ _ _ _ (sym agrees.wanted) (sym agrees.pending)
              (sym agrees.used) (sym agrees.oseks)
              ∙ sym (answer_served c r w a.world left a.left (service_answers c s r k left w).world task_or_same);
        }

  -- what was made by the effect is what the definition says
  pub took_by : (es : List Effect) (taken : Taken) (now : World) → MayDo w.tick who es round setup
      → taken.did ≡ (effected body w.tick who es round sub).did
      → taken.ended ≡ ((effected body w.tick who es round sub).ends || is_done left)
      → now ≡ served (leaving w r left) (effected body w.tick who es round sub).round.wanted
      (effected body w.tick who es round sub).round.pending
      (effected body w.tick who es round sub).round.times_used
      (lefts (effected body w.tick who es round sub).subsystem.tasks)
      → TookBy c s r w left es taken now
  took_by [] taken now may did_is ended_is now_is = record
      { did = did_is; ended_is = ended_is; world_is = nothing_after now now_is }
  took_by (effect.Out value ∷ rest) taken now may did_is ended_is now_is =
      record { did = did_is; ended_is = ended_is; world_is = nothing_after now now_is }
  took_by (effect.Service k ∷ rest) taken now may did_is ended_is now_is = called_by k may taken now did_is ended_is
      now_is

-- ---- the parts of a world

-- the world with these parts of the round, and with this left of the activations and routines
abbrev pub built : World → Round → List Job → (isrs oisrs : List (List Stmt)) → World
built w r jobs isrs oisrs = record w {
  start = r.start;
  number = r.number;
  mode = r.mode;
  latched = r.latched;
  jobs = jobs;
  isrs = isrs;
  oisrs = oisrs;
}

-- where the round is kept, and what is left is that of the one who runs
pub built_is : (w : World) (vars : List ℤ) (cursors : List ℕ) (r : Runner) (left : List Stmt) (x : Round)
    (oseks isrs oisrs : List (List Stmt)) (jobs : List Job)
    → x.start ≡ w.start → x.number ≡ w.number → x.mode ≡ w.mode → x.latched ≡ w.latched
    → jobs ≡ (leaving w r left).jobs → isrs ≡ (leaving w r left).isrs → oisrs ≡ (leaving w r left).oisrs
    → built (served (record w { vars = vars; cursors = cursors }) x.wanted x.pending x.times_used oseks) x jobs isrs
    oisrs
    ≡ served (leaving (record w { vars = vars; cursors = cursors }) r left) x.wanted x.pending x.times_used oseks
built_is w vars cursors r left x oseks isrs oisrs jobs a b d e f g h = rw (a, b, d, e, f, g, h) (whole r)
  where
    whole : (q : Runner)
        → (let v : World = served (record w { vars = vars; cursors = cursors }) x.wanted x.pending x.times_used oseks in
        record v { jobs = (leaving w q left).jobs; isrs = (leaving w q left).isrs; oisrs = (leaving w q left).oisrs })
        ≡ served (leaving (record w { vars = vars; cursors = cursors }) q left) x.wanted x.pending x.times_used oseks
    whole runner.Nobody = refl
    whole q = refl
