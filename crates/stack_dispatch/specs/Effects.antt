-- What follows from the effect of a tick in the round and in the OSEK subsystem.
use Rattle.std.specs.Prelude.{◌≡◌, ◌≢◌, ℕ, ◌<◌, ◌||◌, Bool, true, false, List, [], ◌∷◌, Some}
use Rattle.task_lang.specs.declared.tick.Effect.{Effect}
use Rattle.task_lang.specs.declared.tick.Effect.TheVariants as effect
use Rattle.task_lang.specs.declared.syntax.Stmt.{Stmt}
use Rattle.task_lang.specs.Tick.{State, supply_of, state_of, ticks}
use Rattle.task_machine.specs.Stored.{Store}
use Rattle.tt_base.specs.declared.event.Owner.{Owner}
use Rattle.tt_world.specs.Runners.{is_done}
use Rattle.round_end.specs.Round.{Round}
use Rattle.osek_idle.specs.Subsystem.{Subsystem, Setup, finished, lefts, owner_left, owner_leaving}
use Rattle.tt_services.specs.Performed.{performed, MayCall}
use Rattle.stack_dispatch.specs.declared.took.Did.{Did}
use Rattle.stack_dispatch.specs.declared.took.Did.TheVariants as did
use Rattle.stack_dispatch.specs.declared.took.Taken.{Taken}

-- what was done, the round and the subsystem, and whether a service has ended its caller
pub record Effected : Type 0 where
  pub did : Did
  pub round : Round
  pub subsystem : Subsystem
  pub ends : Bool

-- what follows from the effects of some ticks; there is at most one
abbrev pub effected : (body : ℕ → List Stmt) → (now : ℕ) → Owner → List Effect → Round → Subsystem → Effected
effected body now who [] r s = record { did = did.Nothing; round = r; subsystem = s; ends = false }
effected body now who (effect.Out value ∷ rest) r s = record
    { did = did.Out value; round = r; subsystem = s; ends = false }
effected body now who (effect.Service call ∷ rest) r s =
    let p = performed body now who call r s in
    record { did = did.Called call p.result; round = p.round; subsystem = p.subsystem; ends = p.ends }

-- the owner may make the call, where the effect is one
abbrev pub MayDo : (now : ℕ) → Owner → List Effect → Round → Setup → Type 0
MayDo now who [] r setup = Unit {0}
MayDo now who (effect.Out value ∷ rest) r setup = Unit {0}
MayDo now who (effect.Service call ∷ rest) r setup = MayCall now who call r setup

-- each of the first n bodies has a statement
abbrev pub HaveSome : (ℕ → List Stmt) → ℕ → Type 0
HaveSome body count = (number : ℕ) → number < count → body number ≢ []

-- an owner of which nothing is left ends, unless a service has ended it
abbrev pub finished_at : Owner → (ended ends : Bool) → Subsystem → Subsystem
finished_at who ended true s = s
finished_at who true false s = finished who s
finished_at who false false s = s

-- k ticks of an owner in idle time
abbrev pub idle_ticks : ℕ → Owner → Store → Subsystem → State
idle_ticks k who env s = ticks (supply_of env.demands env.values) k
    (state_of (owner_left s (Some who)) env.vars env.cursors [])

-- what the ticks of an owner in idle time gave, where this is left of it: what they did, whether the owner has ended,
-- the round, and what is left of the tasks and routines
pub record GaveIdle (body : ℕ → List Stmt) (now : ℕ) (who : Owner) (left : State) (r : Round) (s : Subsystem)
    (taken : Taken)
    (round : Round) (after : Subsystem) : Type 0 where
  pub did : taken.did ≡ (effected body now who left.effects r (owner_leaving (Some who) left.left s)).did
  pub ended : taken.ended ≡ ((effected body now who left.effects r (owner_leaving (Some who) left.left s)).ends
      || is_done left.left)
  pub round_is : round ≡ (effected body now who left.effects r (owner_leaving (Some who) left.left s)).round
  pub tasks : lefts after.tasks ≡ lefts (effected body now who left.effects r
      (owner_leaving (Some who) left.left s)).subsystem.tasks
  pub routines : lefts after.routines
      ≡ lefts (effected body now who left.effects r (owner_leaving (Some who) left.left s)).subsystem.routines
