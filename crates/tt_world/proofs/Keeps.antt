-- What the parts of an instant leave as it was: facts for invariants of the world alone.
use Rattle.std.proofs.Common.{ℕ, ◌≡◌, ◌+◌, List, [], ◌∷◌, Bool, true, false, Option, None, Some, refl, ap, sym, subst, eqb, ◌⊎◌, ⊎_elim, inl, inr}
use Rattle.std.specs.Prelude.{ℤ, slice_set}
use Rattle.std.specs.List.{list_any}
use Rattle.std.proofs.lemmas.Bool.{cond_both}
use Rattle.tt_base.specs.declared.number.TaskNo.{TaskNo}
use Rattle.tt_base.specs.declared.number.ModeNo.{ModeNo}
use Rattle.tt_base.specs.declared.number.OsekNo.{OsekNo}
use Rattle.tt_base.specs.declared.event.Event.{Event}
use Rattle.tt_base.specs.declared.event.Call.{Call}
use Rattle.tt_base.specs.declared.event.Call.TheVariants as call
use Rattle.tt_base.specs.declared.event.Owner.{Owner}
use Rattle.task_lang.specs.declared.syntax.Stmt.{Stmt}
use Rattle.task_lang.specs.declared.allowed.OwnerKind.TheVariants as kind
use Rattle.task_lang.specs.declared.tick.Effect.{Effect}
use Rattle.task_lang.specs.declared.tick.Effect.TheVariants as effect
use Rattle.tt_world.specs.declared.config.Enable.{Enable as EnableRow}
use Rattle.tt_world.specs.declared.config.ConfigParts.{ConfigParts}
use Rattle.tt_world.specs.declared.script.ScriptParts.{ScriptParts}
use Rattle.tt_world.specs.declared.world.Point.{Point}
use Rattle.tt_world.specs.declared.world.Runner.{Runner}
use Rattle.tt_world.specs.declared.world.Runner.TheVariants as runner
use Rattle.tt_world.specs.World.{World, Source, IsrSource, OisrSource}
use Rattle.tt_world.specs.Moved.{Moved, preceded}
use Rattle.tt_world.specs.Monitoring.{checked, monitored, after_checks}
use Rattle.tt_world.specs.Rows.{offset_of, mode_of, enables_at, routine_of}
use Rattle.tt_world.specs.Runners.{kind_of, left_of, leaving, runner_of, owner_of}
use Rattle.tt_world.specs.Gates.{enable, enables, arrived, arrival, arrivals, is_accepted, acceptance, acceptances, sources, source_runner, holding, disabling, arrivals_of, is_held}
use Rattle.tt_world.specs.Correction.{correction_of}
use Rattle.tt_world.specs.Services.{Answer, answers, synced, ready, service, is_suspended, is_caller, is_shutdown}
use Rattle.tt_world.specs.Step.{effected, state_after, runner_tick, step, run_line}
use Rattle.tt_world.proofs.Parts.{Alone, Anything, LeadsTo, Leads, followed_leads, chain_each}

-- what holds of the world alone after a part
abbrev pub Holds : (World → Type 0) → List Event → Moved → Type 0
Holds P es m = LeadsTo (Alone P) Anything es m

-- ---- checks

checked_going : (P : World → Type 0) (c : ConfigParts) (fs : List Event) (missed : Option TaskNo) (w : World)
    (es : List Event) → (missed ≡ None → P w) → Holds P es (after_checks c fs missed w)
checked_going P c fs None w es p = p refl
checked_going P c fs (Some task) w es p = tt

-- where checks let the run go on, none was missed and the world is the same
pub monitored_holds : (P : World → Type 0) (c : ConfigParts) (is_due : Point → Bool) (w : World) (es : List Event)
    → ((checked w.tick (mode_of c w) is_due w.jobs).missed ≡ None → P w) → Holds P es (monitored c is_due w)
monitored_holds P c is_due w es p = checked_going P c _ (checked w.tick (mode_of c w) is_due w.jobs).missed w es p

-- ---- gates

-- an invariant that says nothing of the gates and routines
abbrev pub IgnoresGates : (World → Type 0) → Type 0
IgnoresGates P = (w : World) (enabled held oheld : List Bool) (isrs oisrs : List (List Stmt)) → P w
    → P (record w { isrs_enabled = enabled; isrs_held = held; isrs = isrs; oisrs_held = oheld; oisrs = oisrs })

module _ (P : World → Type 0) (ignores : IgnoresGates P) where
  enable_holds : (row : EnableRow) → Leads (Alone P) (Alone P) Anything (enable row)
  unfolding enable
  enable_holds row w es p = ignores w _ _ _ _ _ p

  pub enables_hold : (c : ConfigParts) → Leads (Alone P) (Alone P) Anything (enables c)
  unfolding enables
  enables_hold c w es p = chain_each (Alone P) Anything enable
      (enables_at (offset_of w) (mode_of c w).enables) enable_holds w es p

  arrived_holds : (held : Bool) (source : Source) (w : World) (es : List Event) → P w
      → Holds P es (arrived held source w)
  arrived_holds true source w es p = p
  arrived_holds false (IsrSource isr) w es p = ignores w _ _ _ _ _ p
  arrived_holds false (OisrSource oisr) w es p = ignores w _ _ _ _ _ p

  arrival_holds : (s : ScriptParts) (source : Source) → Leads (Alone P) (Alone P) Anything (arrival s source)
  unfolding arrival
  arrival_holds s source w es p =
      cond_both (list_any (λ (tick : ℕ). eqb tick w.tick) (arrivals_of s source)) _ _ (Holds P es)
      (λ _. arrived_holds (is_held w source) source w es p) (λ _. p)

  pub arrivals_hold : (c : ConfigParts) (s : ScriptParts) → Leads (Alone P) (Alone P) Anything (arrivals c s)
  unfolding arrivals
  arrivals_hold c s = chain_each (Alone P) Anything (arrival s) (sources c) (arrival_holds s)

  accepted_holds : (c : ConfigParts) (source : Source) (w : World) → P w
      → P (leaving (disabling (holding w source false) source) (source_runner source) (routine_of c source))
  accepted_holds c (IsrSource isr) w p = ignores w _ _ _ _ _ p
  accepted_holds c (OisrSource oisr) w p = ignores w _ _ _ _ _ p

  acceptance_holds : (c : ConfigParts) (source : Source) → Leads (Alone P) (Alone P) Anything (acceptance c source)
  unfolding acceptance
  acceptance_holds c source w es p =
      cond_both (is_accepted w source) _ _ (Holds P es) (λ _. accepted_holds c source w p) (λ _. p)

  pub acceptances_hold : (c : ConfigParts) → Leads (Alone P) (Alone P) Anything (acceptances c)
  unfolding acceptances
  acceptances_hold c = chain_each (Alone P) Anything (acceptance c) (sources c) (acceptance_holds c)

-- ---- the tick

-- what a service does to the world: it may change the wanted mode, the pending correction, the global times and the
-- OSEK tasks
pub record AfterService (c : ConfigParts) (w v : World) : Type 0 where
  pub wanted : ModeNo
  pub pending : ℤ
  pub used : ℕ
  pub oseks : List (List Stmt)
  pub is : v ≡ record w { wanted = wanted; pending = pending; times_used = used; oseks = oseks }
  pub correction : (pending ≡ w.pending)
      ⊎ ((global : ℕ) × (pending ≡ correction_of c.round c.adjust (offset_of w) global))

same_world : (c : ConfigParts) (w : World) → AfterService c w w
same_world c w = record {
  wanted = w.wanted;
  pending = w.pending;
  used = w.times_used;
  oseks = w.oseks;
  is = refl;
  correction = inl refl;
}

-- what is left of the caller: what was left after the call, or nothing, or, where it is an OSEK task, a whole body
abbrev pub IsOsek : Runner → Type 0
IsOsek r = kind_of r ≡ kind.Osek

abbrev pub IsLeft : Runner → (left after : List Stmt) → Type 0
IsLeft r left after = (after ≡ left) ⊎ ((after ≡ []) ⊎ IsOsek r)

pub record Answers (c : ConfigParts) (r : Runner) (left : List Stmt) (w : World) (a : Answer) : Type 0 where
  pub world : AfterService c w a.world
  pub left_is : IsLeft r left a.left

goes_on_with : (c : ConfigParts) (r : Runner) (left : List Stmt) (w v : World) (result : ℕ) → AfterService c w v
    → Answers c r left w (answers result v left)
goes_on_with c r left w v result h = record { world = h; left_is = inl refl }

ready_world : (c : ConfigParts) (w : World) (task : _) → AfterService c w (ready c task w)
ready_world c w task = record {
  wanted = w.wanted;
  pending = w.pending;
  used = w.times_used;
  oseks =
      (ready c task w).oseks;
  is = refl;
  correction = inl refl;
}

synced_answers : (c : ConfigParts) (r : Runner) (global : Option ℕ) (left : List Stmt) (w : World)
    → Answers c r left w (synced c global w left)
synced_answers c r None left w = goes_on_with c r left w w 1 (same_world c w)
synced_answers c r (Some global) left w =
    goes_on_with c r left w _ 0
    (record {
      wanted = w.wanted;
      pending = correction_of c.round c.adjust (offset_of w) global;
      used =
          w.times_used + 1;
      oseks = w.oseks;
      is = refl;
      correction = inr (global, refl);
    })

-- where the caller is this task, it is an OSEK task
pub caller_is_osek : (r : Runner) (task : OsekNo) → is_caller r task ≡ true → IsOsek r
caller_is_osek (runner.Osek caller) task e = refl
caller_is_osek (runner.Isr isr) task e = cc
caller_is_osek (runner.Job place) task e = cc
caller_is_osek (runner.Oisr oisr) task e = cc
caller_is_osek runner.Nobody task e = cc

pub service_answers : (c : ConfigParts) (s : ScriptParts) (r : Runner) (k : Call) (left : List Stmt) (w : World)
    → Answers c r left w (service c s r k left w)
unfolding service
service_answers c s r (call.Switch mode) left w =
    goes_on_with c r left w _ 0
    (record {
      wanted = mode;
      pending = w.pending;
      used = w.times_used;
      oseks = w.oseks;
      is = refl;
      correction =
          inl refl;
    })
service_answers c s r call.Sync left w = synced_answers c r _ left w
service_answers c s r call.Shutdown left w = goes_on_with c r left w w 0 (same_world c w)
service_answers c s r (call.Activate task) left w =
    cond_both (is_suspended w task) _ _ (Answers c r left w)
    (λ _. goes_on_with c r left w _ 0 (ready_world c w task)) (λ _. goes_on_with c r left w w 4 (same_world c w))
service_answers c s r (call.Chain task) left w =
    cond_both (is_caller r task) _ _ (Answers c r left w)
    (λ e. record { world = same_world c w; left_is = inr (inr (caller_is_osek r task e)) })
    (λ _. cond_both (is_suspended w task) _ _ (Answers c r left w)
    (λ _. record { world = ready_world c w task; left_is = inr (inl refl) })
    (λ _. goes_on_with c r left w w 4 (same_world c w)))
service_answers c s r call.Terminate left w = record { world = same_world c w; left_is = inr (inl refl) }

-- what may be left of a runner after its tick
abbrev pub IsLeftAfter : ConfigParts → ScriptParts → World → Runner → List Stmt → Type 0
IsLeftAfter c s w r after = IsLeft r (state_after c s w (left_of w r)).left after

-- facts about the tick: P holds before it, R after what is left of the runner was changed, and S after the tick
pub record StepKeeps (c : ConfigParts) (s : ScriptParts) (P R S : World → Type 0) : Type 0 where
  pub left : (w : World) (after : List Stmt) → P w → IsLeftAfter c s w (runner_of c w) after
      → R (leaving w (runner_of c w) after)
  -- R does not depend on these
  pub free : (w : World) (vars : List ℤ) (cursors : List ℕ) (wanted : ModeNo) (used : ℕ) (oseks : List (List Stmt))
      → R w
      → R (record w { vars = vars; cursors = cursors; wanted = wanted; times_used = used; oseks = oseks })
  pub synced : (w : World) (global : ℕ) → R w
      → R (record w { pending = correction_of c.round c.adjust (offset_of w) global })
  pub over : (w : World) (last : Option Owner) → R w → S (record w { tick = w.tick + 1; last = last })

module _ (c : ConfigParts) (s : ScriptParts) (P R S : World → Type 0) (k : StepKeeps c s P R S) where
  -- the fields that a tick changes besides what is left
  changed : (w : World) (vars : List ℤ) (cursors : List ℕ) (v : World)
      → AfterService c (record w { vars = vars; cursors = cursors }) v → R w → R v
  changed w vars cursors v h p =
      subst R (sym h.is)
      (⊎_elim
      (λ (e : h.pending ≡ w.pending). subst
      (λ (x : ℤ). R
      (record w {
        vars = vars;
        cursors = cursors;
        wanted = h.wanted;
        pending = x;
        times_used = h.used;
        oseks =
            h.oseks;
      })) (sym e) (k.free w vars cursors h.wanted h.used h.oseks p))
      (λ (g : (global : ℕ) × (h.pending ≡ correction_of c.round c.adjust (offset_of w) global)).
      subst
      (λ (x : ℤ). R
      (record w {
        vars = vars;
        cursors = cursors;
        wanted = h.wanted;
        pending = x;
        times_used = h.used;
        oseks =
            h.oseks;
      })) (sym g.1)
      (k.free _ vars cursors h.wanted h.used h.oseks (k.synced w g.0 p)))
      h.correction)

  -- what is left of the runner may also be changed first
  left_first : (r : Runner) (w : World) (vars : List ℤ) (cursors : List ℕ) (v : World) (after : List Stmt)
      → AfterService c (record w { vars = vars; cursors = cursors }) v
      → AfterService c (record (leaving w r after) { vars = vars; cursors = cursors }) (leaving v r after)
  left_first (runner.Isr isr) w vars cursors v after h =
      record {
        wanted = h.wanted;
        pending = h.pending;
        used = h.used;
        oseks = h.oseks;
        is =
            ap (λ x. leaving x (runner.Isr isr) after) h.is;
        correction = h.correction;
      }
  left_first (runner.Job place) w vars cursors v after h =
      record {
        wanted = h.wanted;
        pending = h.pending;
        used = h.used;
        oseks = h.oseks;
        is =
            ap (λ x. leaving x (runner.Job place) after) h.is;
        correction = h.correction;
      }
  left_first (runner.Oisr oisr) w vars cursors v after h =
      record {
        wanted = h.wanted;
        pending = h.pending;
        used = h.used;
        oseks = h.oseks;
        is =
            ap (λ x. leaving x (runner.Oisr oisr) after) h.is;
        correction = h.correction;
      }
  left_first (runner.Osek task) w vars cursors v after h =
      record {
        wanted = h.wanted;
        pending = h.pending;
        used = h.used;
        oseks = slice_set h.oseks task.0 after;
        is =
            ap (λ x. leaving x (runner.Osek task) after) h.is;
        correction = h.correction;
      }
  left_first runner.Nobody w vars cursors v after h = h

  left_holds : (w : World) (vars : List ℤ) (cursors : List ℕ) (v : World) (after : List Stmt)
      → IsLeftAfter c s w (runner_of c w) after → AfterService c (record w { vars = vars; cursors = cursors }) v → P w
      → R (leaving v (runner_of c w) after)
  left_holds w vars cursors v after l h p =
      changed (leaving w (runner_of c w) after) vars cursors _ (left_first (runner_of c w) w vars cursors v after h)
      (k.left w after p l)

  effect_holds : (effects : List Effect) (who : Owner) (w : World) (vars : List ℤ) (cursors : List ℕ) (es : List Event)
      → P w
      → Holds R es (effected c s (runner_of c w) who effects (state_after c s w (left_of w (runner_of c w))).left
      (record w { vars = vars; cursors = cursors })).move
  effect_holds [] who w vars cursors es p =
      left_holds w vars cursors _ _ (inl refl) (same_world c _) p
  effect_holds (effect.Out value ∷ rest) who w vars cursors es p =
      left_holds w vars cursors _ _ (inl refl) (same_world c _) p
  effect_holds (effect.Service call ∷ rest) who w vars cursors es p =
      let left = (state_after c s w (left_of w (runner_of c w))).left in
      let a = service_answers c s (runner_of c w) call left (record w { vars = vars; cursors = cursors }) in
      cond_both (is_shutdown call) _ _ (Holds R es) (λ _. tt) (λ _. left_holds w vars cursors _ _ a.left_is a.world p)

  pub step_holds : Leads (Alone P) (Alone S) Anything (step c s)
  unfolding step
  step_holds w es p =
      let r = runner_of c w in
      let who = owner_of c w r in
      let state = state_after c s w (left_of w r) in
      followed_leads (Alone R) (Alone S) Anything es (preceded (run_line w who) (runner_tick c s r who w).move) _
      (effect_holds state.effects who w state.vars state.cursors es p)
      (λ v ds q. k.over v (Some who) q)
