-- What an effect makes of the round and of the OSEK subsystem. Only the lemmas of this file and of Ticks go by
-- services; the others go by what a service makes.
use Rattle.std.proofs.Common.{ℕ, ◌≡◌, ◌<◌, List, ◌∷◌, Bool, true, false, Option, None, Some, refl, length}
use Rattle.std.specs.Prelude.{◌==◌, if◌then◌else◌}
use Rattle.std.proofs.lemmas.Bool.{cond_both, eqb-true}
use Rattle.task_lang.specs.declared.syntax.Stmt.{Stmt}
use Rattle.task_lang.specs.declared.tick.Effect.{Effect}
use Rattle.task_lang.specs.declared.tick.Effect.TheVariants as effect
use Rattle.tt_base.specs.declared.event.Call.TheVariants as call
use Rattle.tt_base.specs.declared.event.Owner.{Owner}
use Rattle.tt_base.specs.declared.event.Owner.TheVariants as owner
use Rattle.tt_base.specs.declared.number.OsekNo.{OsekNo}
use Rattle.round_end.specs.Round.{Round, next_time, synced}
use Rattle.osek_idle.specs.Subsystem.{Subsystem, Setup, is_ready, readied, result_of, suspended}
use Rattle.tt_services.specs.Performed.{IsOsek}
use Rattle.stack_dispatch.specs.Effects.{MayDo, effected}

-- what an effect makes of the subsystem, and whether it ends its owner: nothing changes; a task that is not ready is
-- made ready; a task ends, alone or for another one; a task begins again
pub data Makes (body : ℕ → List Stmt) (count : ℕ) (sub : Subsystem) : Owner → Subsystem → Bool → Type 0 where
  Nothing : (who : Owner) → Makes body count sub who sub false
  Readies : (who : Owner) (task : ℕ) → task < count → is_ready sub.tasks task ≡ false
      → Makes body count sub who (readied (body task) task sub) false
  Ends : (task : OsekNo) → Makes body count sub (owner.Osek task) (suspended task.0 sub) true
  Chains : (task : OsekNo) (next : ℕ) → next < count
      → Makes body count sub (owner.Osek task) (suspended task.0 (readied (body next) next sub)) true
  Restarts : (task : OsekNo) (next : ℕ) → next < count → task.0 ≡ next
      → Makes body count sub (owner.Osek task) (readied (body next) next sub) true

module _ (body : ℕ → List Stmt) (now : ℕ) (r : Round) (setup : Setup) (sub : Subsystem) where
  -- a chain, by whether it is to the caller itself, and whether the task is ready
  chain_makes : (task : OsekNo) (next : ℕ) → next < length setup.tasks → (same ready : Bool)
      → (same ≡ true → task.0 ≡ next)
      → Makes body (length setup.tasks) sub (owner.Osek task)
      (if same then readied (body next) next sub
      else (if ready then sub else suspended task.0 (readied (body next) next sub)))
      ((if same then 0 else result_of ready) == 0)
  chain_makes task next l true ready is = Restarts task next l (is refl)
  chain_makes task next l false true is = Nothing (owner.Osek task)
  chain_makes task next l false false is = Chains task next l

  -- by services
  pub effect_makes : (who : Owner) (es : List Effect) → MayDo now who es r setup
      → Makes body (length setup.tasks) sub who (effected body now who es r sub).subsystem
      (effected body now who es r sub).ends
  effect_makes who (effect.Service (call.Activate task) ∷ rest) may =
      cond_both (is_ready sub.tasks task.0) sub (readied (body task.0) task.0 sub)
      (λ (after : Subsystem). Makes body (length setup.tasks) sub who after false) (λ _. Nothing who)
      (λ idle. Readies who task.0 may idle)
  effect_makes (owner.Osek task) (effect.Service (call.Chain next) ∷ rest) may =
      chain_makes task next.0 may.1 (task.0 == next.0) (is_ready sub.tasks next.0) (eqb-true task.0 next.0)
  effect_makes who (effect.Service (call.Chain next) ∷ rest) may = absurd may.0
  effect_makes (owner.Osek task) (effect.Service call.Terminate ∷ rest) may = Ends task
  effect_makes who (effect.Service call.Terminate ∷ rest) may = absurd may
  effect_makes who es may = Nothing who

module _ {body : ℕ → List Stmt} {count : ℕ} {sub : Subsystem} where
  -- only an OSEK task is ended
  pub ends_task : {who : Owner} {after : Subsystem} {ends : Bool} → Makes body count sub who after ends
      → ends ≡ true → IsOsek who
  ends_task (Nothing who) e = cc
  ends_task (Readies who task l idle) e = cc
  ends_task makes e = tt

  -- the routines stay
  pub routines_kept : {who : Owner} {after : Subsystem} {ends : Bool} → Makes body count sub who after ends
      → after.routines ≡ sub.routines
  routines_kept (Nothing who) = refl
  routines_kept makes = refl

module _ (body : ℕ → List Stmt) (now : ℕ) (who : Owner) (round : Round) (sub : Subsystem) where
  synced_keeps : (global : Option ℕ)
      → (let x = synced now global round in
      x ≡ record round { wanted = x.wanted; pending = x.pending; times_used = x.times_used })
  synced_keeps None = refl
  synced_keeps (Some global) = refl

  -- of the round an effect changes at most the wanted mode, the pending correction and the global times
  pub round_kept : (es : List Effect) → (effected body now who es round sub).round
      ≡ record round {
        wanted = (effected body now who es round sub).round.wanted;
        pending = (effected body now who es round sub).round.pending;
        times_used = (effected body now who es round sub).round.times_used;
      }
  round_kept (effect.Service call.Sync ∷ rest) = synced_keeps (next_time round)
  round_kept es = refl
