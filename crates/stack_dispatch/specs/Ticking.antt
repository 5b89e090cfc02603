-- The tick of the one who runs.
use Rattle.std.specs.Prelude.{◌≡◌, ◌+◌, ◌^◌, ◌<◌, ◌≤◌, ◌||◌, Bool, List, [], ◌∷◌, Some, if◌then◌else◌}
use Rattle.task_lang.specs.declared.tick.Effect.{Effect}
use Rattle.task_lang.specs.declared.tick.Effect.TheVariants as effect
use Rattle.task_lang.specs.declared.syntax.Stmt.{Stmt}
use Rattle.tt_base.specs.declared.event.Event.{Event}
use Rattle.tt_base.specs.declared.event.Event.TheVariants.{Out, Called}
use Rattle.tt_base.specs.declared.event.Owner.{Owner}
use Rattle.tt_world.specs.declared.config.ConfigParts.{ConfigParts}
use Rattle.tt_world.specs.declared.script.ScriptParts.{ScriptParts}
use Rattle.tt_world.specs.declared.world.Runner.{Runner}
use Rattle.tt_world.specs.declared.world.Runner.TheVariants as runner
use Rattle.tt_world.specs.declared.world.RunEnd.TheVariants as ending
use Rattle.tt_world.specs.ConfigRules.{IsConfig, IsRunnable}
use Rattle.tt_world.specs.Hooks.{shuts_down}
use Rattle.tt_world.specs.World.{World}
use Rattle.tt_world.specs.Rows.{HasMode}
use Rattle.tt_world.specs.Runners.{is_done, kind_of, left_of, leaving, runner_of}
use Rattle.tt_world.specs.Moved.{Moved, Outcome, Gives, goes_on, preceded}
use Rattle.tt_world.specs.Services.{Answer, service, is_shutdown}
use Rattle.tt_world.specs.Step.{RunnerTick, state_after}
use Rattle.stack_dispatch.specs.declared.took.Did.{Did}
use Rattle.stack_dispatch.specs.declared.took.Did.TheVariants as did
use Rattle.stack_dispatch.specs.declared.took.Taken.{Taken}
use Rattle.stack_dispatch.specs.State.{RunState, IsFor}

-- the one who runs can take a tick: the next tick has a number, the round has begun, the present mode exists, and what
-- is left of the one who runs has short expressions, names what is declared, and does what it is allowed to
pub record CanTick (c : ConfigParts) (s : ScriptParts) (state : RunState) : Type 0 where
  pub rules : IsConfig c
  pub kept : IsFor c s state.beside
  pub tick : state.world.tick + 1 < 2 ^ 64
  pub started : state.world.start ≤ state.world.tick
  pub mode : HasMode c state.world
  pub runnable : IsRunnable c (kind_of (runner_of c state.world)) (left_of state.world (runner_of c state.world))

-- an activation or a time-triggered routine
abbrev pub IsOnStack : Runner → Type 0
IsOnStack (runner.Isr isr) = Unit {0}
IsOnStack (runner.Job place) = Unit {0}
IsOnStack _ = ⊥

-- an OSEK task, or a routine of the OSEK subsystem
abbrev pub IsInIdleTime : Runner → Type 0
IsInIdleTime (runner.Oisr oisr) = Unit {0}
IsInIdleTime (runner.Osek task) = Unit {0}
IsInIdleTime _ = ⊥

-- what the tick of a runner gave: what it did, whether the runner has ended, and the world
pub record TickGave (taken : Taken) (after : World) (what : Did) (ended : Bool) (world : World) : Type 0 where
  pub did : taken.did ≡ what
  pub ended_is : taken.ended ≡ ended
  pub world_is : after ≡ world

-- a service was called, and this was answered
abbrev pub GaveAnswer : Taken → World → Runner → (call : Did) → Answer → Type 0
GaveAnswer taken after runner call answer =
    TickGave taken after call (answer.ends || is_done answer.left) (leaving answer.world runner answer.left)

-- by the effects of a tick, after which this is left of the runner in this world
abbrev pub TookBy : ConfigParts → ScriptParts → Runner → World → List Stmt → List Effect → Taken → World → Type 0
TookBy c s runner w left [] taken after = TickGave taken after did.Nothing (is_done left) (leaving w runner left)
TookBy c s runner w left (effect.Out value ∷ rest) taken after =
    TickGave taken after (did.Out value) (is_done left) (leaving w runner left)
TookBy c s runner w left (effect.Service call ∷ rest) taken after =
    let answer = service c s runner call left w in
    GaveAnswer taken after runner (did.Called call answer.result) answer

-- the tick of a runner in a world, without its events and the end of the run
abbrev pub Took : ConfigParts → ScriptParts → Runner → World → Taken → World → Type 0
Took c s runner w taken after =
    let state = state_after c s w (left_of w runner) in
    TookBy c s runner (record w { vars = state.vars; cursors = state.cursors }) state.left state.effects taken after

-- what follows from what a tick did
abbrev pub follows : ConfigParts → Owner → Did → World → Moved
follows c who did.Nothing w = goes_on w []
follows c who (did.Out value) w = goes_on w (Out w.tick who value ∷ [])
follows c who (did.Called call result) w =
    let line = Called w.tick who call result ∷ [] in
    if is_shutdown call then preceded line (shuts_down c (Some ending.Shutdown) w) else goes_on w line

-- a part of the code of a tick did what its definition gives, also as to whether the runner has ended
pub record IsTick {L : Type 0} (Told : L → List Event → L → Type 0) (before after : L) (world : World) (end : Outcome)
    (ended : Bool)
    (tick : RunnerTick) : Type 0 where
  pub gives : Gives Told before after world end tick.move
  pub ended_is : ended ≡ tick.ended
