-- The services are those of a run, restricted to the parts of a world that they change.
use Rattle.std.specs.Prelude.{◌≡◌, ℕ, true, not, List}
use Rattle.tt_base.specs.declared.event.Call.{Call}
use Rattle.tt_base.specs.declared.event.Owner.{Owner}
use Rattle.tt_base.specs.declared.event.Owner.TheVariants as owner
use Rattle.tt_base.specs.declared.number.OsekNo.{OsekNo}
use Rattle.task_lang.specs.declared.syntax.Stmt.{Stmt}
use Rattle.tt_world.specs.declared.config.ConfigParts.{ConfigParts}
use Rattle.tt_world.specs.declared.script.ScriptParts.{ScriptParts}
use Rattle.tt_world.specs.declared.world.Runner.{Runner}
use Rattle.tt_world.specs.declared.world.Runner.TheVariants as runner
use Rattle.tt_world.specs.World.{World}
use Rattle.tt_world.specs.Rows.{osek_body}
use Rattle.tt_world.specs.Runners.{leaving}
use Rattle.tt_world.specs.Services.{Answer, service, is_suspended}
use Rattle.round_end.specs.Round.{Round}
use Rattle.osek_idle.specs.Subsystem.{Subsystem, Setup, is_ready, lefts}
use Rattle.tt_services.specs.Performed.{Performed, performed, MayCall}

-- The runner of a world is this owner, as far as OSEK tasks go, and such a task is ready.
abbrev pub RunsAs : Subsystem → Runner → Owner → Type 0
RunsAs s (runner.Osek task) (owner.Osek same) = (task ≡ same) × (is_ready s.tasks task.0 ≡ true)
RunsAs s (runner.Osek task) _ = ⊥
RunsAs s _ (owner.Osek task) = ⊥
RunsAs s _ _ = Unit {0}

-- The round and the subsystem are those of a world, except for the caller: its tick was taken, this is left of it, and
-- it has not ended yet.
pub record IsCall (c : ConfigParts) (s : ScriptParts) (w : World) (caller : Runner) (who : Owner) (left : List Stmt)
    (body : ℕ → List Stmt)
    (r : Round) (sub : Subsystem) : Type 0 where
  pub length : r.round ≡ c.round
  pub adjust : r.adjust ≡ c.adjust
  pub times : r.times ≡ s.times
  pub used : r.times_used ≡ w.times_used
  pub start : r.start ≡ w.start
  pub wanted : r.wanted ≡ w.wanted
  pub pending : r.pending ≡ w.pending
  pub runs : RunsAs sub caller who
  pub bodies : (task : OsekNo) → body task.0 ≡ osek_body c task
  pub ready : (task : OsekNo) → is_suspended w task ≡ not (is_ready sub.tasks task.0)
  pub oseks : (leaving w caller left).oseks ≡ lefts sub.tasks

-- After the service the results agree, and the round and the subsystem are those of the world with the caller's rest.
pub record Agrees (caller : Runner) (answer : Answer) (p : Performed) : Type 0 where
  pub result : answer.result ≡ p.result
  pub ends : answer.ends ≡ p.ends
  pub wanted : answer.world.wanted ≡ p.round.wanted
  pub pending : answer.world.pending ≡ p.round.pending
  pub used : answer.world.times_used ≡ p.round.times_used
  pub oseks : (leaving answer.world caller answer.left).oseks ≡ lefts p.subsystem.tasks

abbrev pub ServicesAgree : Type 0
ServicesAgree = (c : ConfigParts) (s : ScriptParts) (w : World) (caller : Runner) (who : Owner) (left : List Stmt)
    (body : ℕ → List Stmt) (r : Round) (sub : Subsystem)
    (setup : Setup) (call : Call) → IsCall c s w caller who left body r sub → MayCall w.tick who call r setup
    → Agrees caller (service c s caller call left w) (performed body w.tick who call r sub)
