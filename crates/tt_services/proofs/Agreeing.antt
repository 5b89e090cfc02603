-- Each service, restricted to the parts of a world that it changes.
use Rattle.std.proofs.Common.{◌≡◌, ℕ, zero, suc, ◌+◌, ◌-◌, Bool, true, false, List, [], ◌∷◌, Option, None, Some, refl, sym, ap, subst, ◌∙◌}
use Rattle.std.specs.Prelude.{not, ◌==◌, slice_get, slice_set, if◌then◌else◌}
use Rattle.std.proofs.lemmas.List.{map-set}
use Rattle.std.proofs.lemmas.Bool.{eqb-true}
use Rattle.tt_base.specs.declared.event.Call.TheVariants as call
use Rattle.tt_base.specs.declared.event.Owner.{Owner}
use Rattle.tt_base.specs.declared.event.Owner.TheVariants as owner
use Rattle.tt_base.specs.declared.number.ModeNo.{ModeNo}
use Rattle.tt_base.specs.declared.number.OsekNo.{OsekNo}
use Rattle.task_lang.specs.declared.syntax.Stmt.{Stmt}
use Rattle.tt_world.specs.declared.config.ConfigParts.{ConfigParts}
use Rattle.tt_world.specs.declared.script.ScriptParts.{ScriptParts}
use Rattle.tt_world.specs.declared.world.Runner.{Runner}
use Rattle.tt_world.specs.declared.world.Runner.TheVariants as runner
use Rattle.tt_world.specs.World.{World}
use Rattle.tt_world.specs.Correction.{correction_of}
use Rattle.tt_world.specs.Rows.{osek_body, offset_of}
use Rattle.tt_world.specs.Runners.{leaving}
use Rattle.tt_world.specs.Services.{Answer, answers, ends_with, service, synced, is_suspended, ready}
use Rattle.round_end.specs.Round.{Round, next_time, sync_result}
use Rattle.round_end.specs.Round as round
use Rattle.osek_idle.specs.Subsystem.{Subsystem, is_ready, lefts, left_in, result_of, readied, suspended}
use Rattle.tt_services.specs.Agreement.{RunsAs, IsCall, Agrees, ServicesAgree}
use Rattle.tt_services.specs.Performed.{Performed, performed, IsOsek}

set_twice : {X : Type 0} (xs : List X) (i : ℕ) (a b : X) → slice_set (slice_set xs i a) i b ≡ slice_set xs i b
set_twice [] i a b = refl
set_twice (x ∷ xs) zero a b = refl
set_twice (x ∷ xs) (suc i) a b = ap (λ ys. x ∷ ys) (set_twice xs i a b)

set_swap : {X : Type 0} (xs : List X) (i j : ℕ) (a b : X) → (i ≡ j → ⊥)
    → slice_set (slice_set xs i a) j b ≡ slice_set (slice_set xs j b) i a
set_swap [] i j a b other = refl
set_swap (x ∷ xs) zero zero a b other = absurd (other refl)
set_swap (x ∷ xs) zero (suc j) a b other = refl
set_swap (x ∷ xs) (suc i) zero a b other = refl
set_swap (x ∷ xs) (suc i) (suc j) a b other = ap (λ ys. x ∷ ys) (set_swap xs i j a b (λ same. other (ap suc same)))

-- ---- a world with other tasks

leaving_oseks : (w w' : World) (caller : Runner) (left : List Stmt) → w'.oseks ≡ w.oseks
    → (leaving w' caller left).oseks ≡ (leaving w caller left).oseks
leaving_oseks w w' (runner.Isr isr) left e = e
leaving_oseks w w' (runner.Job place) left e = e
leaving_oseks w w' (runner.Oisr oisr) left e = e
leaving_oseks w w' (runner.Osek task) left e = ap (λ xs. slice_set xs task.0 left) e
leaving_oseks w w' runner.Nobody left e = e

lefts_set : (tasks : List (Option (List Stmt))) (n : ℕ) (state : Option (List Stmt))
    → lefts (slice_set tasks n state) ≡ slice_set (lefts tasks) n (left_in state)
lefts_set tasks n state = map-set left_in tasks n state

ready_differs : (tasks : List (Option (List Stmt))) (a b : ℕ) → is_ready tasks a ≡ true → is_ready tasks b ≡ false
    → b ≡ a → ⊥
ready_differs tasks a b yes_a no_b same =
    let both : true ≡ false = sym yes_a ∙ ap (is_ready tasks) (sym same) ∙ no_b in cc

-- a task that was suspended is ready
readied_oseks : (c : ConfigParts) (w : World) (caller : Runner) (who : Owner) (left : List Stmt) (sub : Subsystem)
    (task : OsekNo) (b : List Stmt) → b ≡ osek_body c task
    → RunsAs sub caller who → is_ready sub.tasks task.0 ≡ false → (leaving w caller left).oseks ≡ lefts sub.tasks
    → (leaving (ready c task w) caller left).oseks ≡ lefts (slice_set sub.tasks task.0 (Some b))
readied_oseks c w (runner.Isr isr) who left sub task b is runs idle oseks =
    ap (λ xs. slice_set xs task.0 (osek_body c task)) oseks ∙ ap (slice_set (lefts sub.tasks) task.0) (sym is)
    ∙ sym (lefts_set sub.tasks task.0 (Some b))
readied_oseks c w (runner.Job place) who left sub task b is runs idle oseks =
    ap (λ xs. slice_set xs task.0 (osek_body c task)) oseks ∙ ap (slice_set (lefts sub.tasks) task.0) (sym is)
    ∙ sym (lefts_set sub.tasks task.0 (Some b))
readied_oseks c w (runner.Oisr oisr) who left sub task b is runs idle oseks =
    ap (λ xs. slice_set xs task.0 (osek_body c task)) oseks ∙ ap (slice_set (lefts sub.tasks) task.0) (sym is)
    ∙ sym (lefts_set sub.tasks task.0 (Some b))
readied_oseks c w runner.Nobody who left sub task b is runs idle oseks =
    ap (λ xs. slice_set xs task.0 (osek_body c task)) oseks ∙ ap (slice_set (lefts sub.tasks) task.0) (sym is)
    ∙ sym (lefts_set sub.tasks task.0 (Some b))
readied_oseks c w (runner.Osek caller) (owner.Osek same) left sub task b is runs idle oseks =
    set_swap w.oseks task.0 caller.0 (osek_body c task) left (ready_differs sub.tasks caller.0 task.0 runs.1 idle)
    ∙ ap (λ xs. slice_set xs task.0 (osek_body c task)) oseks ∙ ap (slice_set (lefts sub.tasks) task.0) (sym is)
    ∙ sym (lefts_set sub.tasks task.0 (Some b))
readied_oseks c w (runner.Osek caller) (owner.Task t) left sub task b is runs idle oseks = absurd runs
readied_oseks c w (runner.Osek caller) (owner.Isr t) left sub task b is runs idle oseks = absurd runs
readied_oseks c w (runner.Osek caller) (owner.Oisr t) left sub task b is runs idle oseks = absurd runs
readied_oseks c w (runner.Osek caller) owner.ErrorHook left sub task b is runs idle oseks = absurd runs
readied_oseks c w (runner.Osek caller) owner.ShutdownHook left sub task b is runs idle oseks = absurd runs
readied_oseks c w (runner.Osek caller) owner.Idle left sub task b is runs idle oseks = absurd runs

-- by whether a task was found ready
by_ready : (caller : Runner) (found state : Bool) → found ≡ not state → (a d : Answer) (p q : Performed)
    → (state ≡ false → Agrees caller a p) → (state ≡ true → Agrees caller d q)
    → Agrees caller (if found then a else d) (if state then q else p)
by_ready caller true false is a d p q idle busy = idle refl
by_ready caller false true is a d p q idle busy = busy refl
by_ready caller true true is a d p q idle busy = cc
by_ready caller false false is a d p q idle busy = cc

module _ (c : ConfigParts) (s : ScriptParts) (w : World) (caller : Runner) (who : Owner) (left : List Stmt)
    (body : ℕ → List Stmt) (r : Round) (sub : Subsystem)
    (h : IsCall c s w caller who left body r sub) where
  -- nothing changes but the result
  goes_on : (result : ℕ) → Agrees caller (answers result w left)
      (record { result = result; round = r; subsystem = sub; ends = false })
  goes_on result = record {
    result = refl;
    ends = refl;
    wanted = sym h.wanted;
    pending = sym h.pending;
    used = sym h.used;
    oseks = h.oseks;
  }

  switches : (mode : ModeNo)
      → Agrees caller (answers 0 (record w { wanted = mode }) left)
      (record { result = 0; round = round.wanting mode r; subsystem = sub; ends = false })
  switches mode = record {
    result = refl;
    ends = refl;
    wanted = refl;
    pending = sym h.pending;
    used = sym h.used;
    oseks = leaving_oseks w (record w { wanted = mode }) caller left refl ∙ h.oseks;
  }

  correction_is : (global : ℕ)
      → correction_of c.round c.adjust (offset_of w) global ≡ correction_of r.round r.adjust (w.tick - r.start) global
  correction_is global =
      ap (λ n. correction_of n c.adjust (w.tick - w.start) global) (sym h.length)
      ∙ ap (λ n. correction_of r.round n (w.tick - w.start) global) (sym h.adjust)
      ∙ ap (λ n. correction_of r.round r.adjust (w.tick - n) global) (sym h.start)

  syncs_by : (time : Option ℕ)
      → Agrees caller (synced c time w left)
      (record { result = sync_result time; round = round.synced w.tick time r; subsystem = sub; ends = false })
  syncs_by None = goes_on 1
  syncs_by (Some global) = record {
    result = refl;
    ends = refl;
    wanted = sym h.wanted;
    pending = correction_is global;
    used = ap (λ n. n + 1) (sym h.used);
    oseks = leaving_oseks w (record w
        { pending = correction_of c.round c.adjust (offset_of w) global; times_used = w.times_used + 1 }) caller left
        refl ∙ h.oseks;
  }

  time_is : slice_get s.times w.times_used ≡ next_time r
  time_is = ap (λ ts. slice_get ts w.times_used) (sym h.times) ∙ ap (slice_get r.times) (sym h.used)

  syncs : Agrees caller (synced c (slice_get s.times w.times_used) w left)
      (record {
        result = sync_result (next_time r);
        round = round.synced w.tick (next_time r) r;
        subsystem = sub;
        ends = false;
      })
  syncs = subst (λ t. Agrees caller (synced c t w left)
      (record {
        result = sync_result (next_time r);
        round = round.synced w.tick (next_time r) r;
        subsystem = sub;
        ends = false;
      }))
      (sym time_is) (syncs_by (next_time r))

  readies : (task : OsekNo) → is_ready sub.tasks task.0 ≡ false
      → Agrees caller (answers 0 (ready c task w) left)
      (record { result = 0; round = r; subsystem = readied (body task.0) task.0 sub; ends = false })
  readies task idle = record {
    result = refl;
    ends = refl;
    wanted = sym h.wanted;
    pending = sym h.pending;
    used = sym h.used;
    oseks = readied_oseks c w caller who left sub task (body task.0) (h.bodies task) h.runs idle h.oseks;
  }

  -- what is performed, by whether the task is ready
  abbrev activation : (state : Bool) (task : ℕ) → Performed
  activation state task = record {
    result = result_of state;
    round = r;
    subsystem =
        if state then sub else readied (body task) task sub;
    ends = false;
  }

  activation_if : (state : Bool) (task : ℕ)
      → (if state then record { result = 4; round = r; subsystem = sub; ends = false }
      else record { result = 0; round = r; subsystem = readied (body task) task sub; ends = false })
      ≡ activation state task
  activation_if true task = refl
  activation_if false task = refl

  activates : (task : OsekNo)
      → Agrees caller (if is_suspended w task then answers 0 (ready c task w) left else answers 4 w left)
      (activation (is_ready sub.tasks task.0) task.0)
  activates task =
      subst (λ p. Agrees caller (if is_suspended w task then answers 0 (ready c task w) left else answers 4 w left) p)
      (activation_if (is_ready sub.tasks task.0) task.0)
      (by_ready caller (is_suspended w task) (is_ready sub.tasks task.0) (h.ready task)
      (answers 0 (ready c task w) left) (answers 4 w left)
      (record { result = 0; round = r; subsystem = readied (body task.0) task.0 sub; ends = false })
      (record { result = 4; round = r; subsystem = sub; ends = false }) (readies task) (λ busy. goes_on 4))

-- ---- an OSEK task that calls

module _ (c : ConfigParts) (s : ScriptParts) (w : World) (p : OsekNo) (left : List Stmt) (body : ℕ → List Stmt)
    (r : Round) (sub : Subsystem)
    (h : IsCall c s w (runner.Osek p) (owner.Osek p) left body r sub) where
  ends_as : (world : World) (rest : List Stmt) (after : Subsystem) → world.wanted ≡ w.wanted
      → world.pending ≡ w.pending → world.times_used ≡ w.times_used
      → slice_set world.oseks p.0 rest ≡ lefts after.tasks
      → Agrees (runner.Osek p) (ends_with world rest) (record { result = 0; round = r; subsystem = after; ends = true })
  ends_as world rest after a b d oseks = record {
    result = refl;
    ends = refl;
    wanted = a ∙ sym h.wanted;
    pending = b ∙ sym h.pending;
    used = d ∙ sym h.used;
    oseks = oseks;
  }

  terminates : Agrees (runner.Osek p) (ends_with w [])
      (record { result = 0; round = r; subsystem = suspended p.0 sub; ends = true })
  terminates = ends_as w [] (suspended p.0 sub) refl refl refl
      (sym (set_twice w.oseks p.0 left []) ∙ ap (λ xs. slice_set xs p.0 []) h.oseks
      ∙ sym (lefts_set sub.tasks p.0 None))

  chains_to : (task : OsekNo) → is_ready sub.tasks task.0 ≡ false
      → Agrees (runner.Osek p) (ends_with (ready c task w) [])
      (record { result = 0; round = r; subsystem = suspended p.0 (readied (body task.0) task.0 sub); ends = true })
  chains_to task idle = ends_as (ready c task w) [] (suspended p.0 (readied (body task.0) task.0 sub)) refl refl refl
      (sym (set_twice (slice_set w.oseks task.0 (osek_body c task)) p.0 left [])
      ∙ ap (λ xs. slice_set xs p.0 [])
      (readied_oseks c w (runner.Osek p) (owner.Osek p) left sub task (body task.0)
      (h.bodies task) h.runs idle h.oseks)
      ∙ sym (lefts_set (slice_set sub.tasks task.0 (Some (body task.0))) p.0 None))

  chains_self : (task : OsekNo) → p.0 ≡ task.0
      → Agrees (runner.Osek p) (ends_with w (osek_body c task))
      (record { result = 0; round = r; subsystem = readied (body task.0) task.0 sub; ends = true })
  chains_self task same = ends_as w (osek_body c task) (readied (body task.0) task.0 sub) refl refl refl
      (sym (set_twice w.oseks p.0 left (osek_body c task)) ∙ ap (λ xs. slice_set xs p.0 (osek_body c task)) h.oseks
      ∙ ap (λ n. slice_set (lefts sub.tasks) n (osek_body c task)) same
      ∙ ap (slice_set (lefts sub.tasks) task.0) (sym (h.bodies task))
      ∙ sym (lefts_set sub.tasks task.0 (Some (body task.0))))

  chains_by : (task : OsekNo) (same found state : Bool) → found ≡ not state → (same ≡ true → p.0 ≡ task.0)
      → (state ≡ false → is_ready sub.tasks task.0 ≡ false)
      → Agrees (runner.Osek p) (if same then ends_with w (osek_body c task)
      else (if found then ends_with (ready c task w) [] else answers 4 w left))
      (record {
        result = if same then 0 else result_of state;
        round = r;
        subsystem = if same then readied (body task.0) task.0 sub
            else (if state then sub else suspended p.0 (readied (body task.0) task.0 sub));
        ends = (if same then 0 else result_of state) == 0;
      })
  chains_by task true found state is to_same idle = chains_self task (to_same refl)
  chains_by task false true false is to_same idle = chains_to task (idle refl)
  chains_by task false false true is to_same idle = goes_on c s w (runner.Osek p) (owner.Osek p) left body r sub h 4
  chains_by task false true true is to_same idle = cc
  chains_by task false false false is to_same idle = cc

for_osek : (sub : Subsystem) (F : Runner → Owner → Type 0) → ((p : OsekNo) → F (runner.Osek p) (owner.Osek p))
    → (caller : Runner) (who : Owner) → RunsAs sub caller who → IsOsek who
    → F caller who
for_osek sub F f (runner.Osek p) (owner.Osek q) runs may = subst (λ k. F (runner.Osek p) (owner.Osek k)) runs.0 (f p)
for_osek sub F f (runner.Isr i) (owner.Osek q) runs may = absurd runs
for_osek sub F f (runner.Job i) (owner.Osek q) runs may = absurd runs
for_osek sub F f (runner.Oisr i) (owner.Osek q) runs may = absurd runs
for_osek sub F f runner.Nobody (owner.Osek q) runs may = absurd runs
for_osek sub F f caller (owner.Task i) runs may = absurd may
for_osek sub F f caller (owner.Isr i) runs may = absurd may
for_osek sub F f caller (owner.Oisr i) runs may = absurd may
for_osek sub F f caller owner.ErrorHook runs may = absurd may
for_osek sub F f caller owner.ShutdownHook runs may = absurd may
for_osek sub F f caller owner.Idle runs may = absurd may

pub agree : ServicesAgree
unfolding service
agree c s w caller who left body r sub setup (call.Switch mode) h may = switches c s w caller who left body r sub h mode
agree c s w caller who left body r sub setup call.Sync h may = syncs c s w caller who left body r sub h
agree c s w caller who left body r sub setup call.Shutdown h may = goes_on c s w caller who left body r sub h 0
agree c s w caller who left body r sub setup (call.Activate task) h may =
    activates c s w caller who left body r sub h task
agree c s w caller who left body r sub setup (call.Chain task) h may =
    for_osek sub (λ k o. IsCall c s w k o left body r sub
    → Agrees k (service c s k (call.Chain task) left w) (performed body w.tick o (call.Chain task) r sub))
    (λ p called. chains_by c s w p left body r sub called task (p.0 == task.0) (is_suspended w task)
    (is_ready sub.tasks task.0) (called.ready task) (eqb-true p.0 task.0) (λ idle. idle))
    caller who h.runs may.0 h
agree c s w caller who left body r sub setup call.Terminate h may =
    for_osek sub (λ k o. IsCall c s w k o left body r sub
    → Agrees k (service c s k call.Terminate left w) (performed body w.tick o call.Terminate r sub))
    (λ p called. terminates c s w p left body r sub called) caller who h.runs may h
