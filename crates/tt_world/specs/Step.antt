-- One tick of the one who runs.
use Rattle.std.specs.Prelude.{◌+◌, ◌&&◌, ◌||◌, not, Bool, true, false, List, [], ◌∷◌, Some, if◌then◌else◌}
use Rattle.tt_base.specs.declared.event.Call.{Call}
use Rattle.tt_base.specs.declared.event.Event.{Event}
use Rattle.tt_base.specs.declared.event.Event.TheVariants.{Run, End, Out, Called}
use Rattle.tt_base.specs.declared.event.Owner.{Owner}
use Rattle.task_lang.specs.declared.syntax.Stmt.{Stmt}
use Rattle.task_lang.specs.declared.tick.Effect.{Effect}
use Rattle.task_lang.specs.declared.tick.Effect.TheVariants as effect
use Rattle.task_lang.specs.Tick.{State, supply_of, state_of, tick}
use Rattle.tt_world.specs.declared.config.ConfigParts.{ConfigParts}
use Rattle.tt_world.specs.declared.script.ScriptParts.{ScriptParts}
use Rattle.tt_world.specs.declared.world.Runner.{Runner}
use Rattle.tt_world.specs.declared.world.Runner.TheVariants.{Nobody}
use Rattle.tt_world.specs.World.{World}
use Rattle.tt_world.specs.Moved.{Moved, goes_on, preceded, followed, event_if}
use Rattle.tt_world.specs.Hooks.{shuts_down}
use Rattle.tt_world.specs.Runners.{is_done, left_of, leaving, runner_of, owner_of, ran_before}
use Rattle.tt_world.specs.Services.{Answer, service, is_shutdown}
use Rattle.tt_world.specs.declared.world.RunEnd.TheVariants as ending

-- what a tick does: what it moves, and whether the runner has ended
pub record RunnerTick : Type 0 where
  pub move : Moved
  pub ended : Bool

-- the runner goes on with what is left of it, or has ended where nothing is left
abbrev pub works : Runner → List Stmt → List Event → World → RunnerTick
works runner left events w = record { move = goes_on (leaving w runner left) events; ended = is_done left }

-- a service was called
abbrev pub called : ConfigParts → Runner → Owner → Call → Answer → RunnerTick
called c runner who call answer =
    let w = leaving answer.world runner answer.left in
    let line = Called w.tick who call answer.result ∷ [] in
    record {
      move = if is_shutdown call then preceded line (shuts_down c (Some ending.Shutdown) w) else goes_on w line;
      ended = answer.ends || is_done answer.left;
    }

-- one tick of a list of statements
abbrev pub state_after : ConfigParts → ScriptParts → World → List Stmt → State
state_after c s w left = tick (supply_of c.demands s.values) (state_of left w.vars w.cursors [])

-- what follows from the effects of a tick, when this is left; a tick has at most one effect
abbrev pub effected : ConfigParts → ScriptParts → Runner → Owner → List Effect → List Stmt → World → RunnerTick
effected c s runner who [] left w = works runner left [] w
effected c s runner who (effect.Out value ∷ rest) left w = works runner left (Out w.tick who value ∷ []) w
effected c s runner who (effect.Service call ∷ rest) left w = called c runner who call (service c s runner call left w)

-- the tick of a runner
abbrev pub runner_tick : ConfigParts → ScriptParts → Runner → Owner → World → RunnerTick
runner_tick c s runner who w =
    let state = state_after c s w (left_of w runner) in
    effected c s runner who state.effects state.left (record w { vars = state.vars; cursors = state.cursors })

-- idle time has no end
abbrev pub is_somebody : Runner → Bool
is_somebody Nobody = false
is_somebody runner = true

-- a Run event comes before the tick where its owner is not the owner of the tick before
abbrev pub run_line : World → Owner → List Event
run_line w who = event_if (not (ran_before w.last who)) (Run w.tick who)

-- the tick is over: an owner that has ended gets an End event, and the tick is raised
abbrev pub tick_over : Owner → Bool → World → Moved
tick_over who ended w = goes_on (record w { tick = w.tick + 1; last = Some who })
    (event_if ended (End (w.tick + 1) who))

abbrev pub runner_step : ConfigParts → ScriptParts → Runner → World → Moved
runner_step c s runner w =
    let who = owner_of c w runner in
    let tick = runner_tick c s runner who w in
    followed (preceded (run_line w who) tick.move) (tick_over who (is_somebody runner && tick.ended))

-- the one who runs takes the tick of the instant; an idle tick does no work
unfoldable pub step : ConfigParts → ScriptParts → World → Moved
step c s w = runner_step c s (runner_of c w) w
