-- Ticks taken at once where nothing is due: ticks of `work` of the one who runs, and ticks at which nobody runs.
use Rattle.std.specs.Prelude.{◌≡◌, ℕ, zero, suc, ◌+◌, ◌-◌, ◌≤◌, ◌&&◌, max, min, List, [], ◌∷◌, Some, ◌⊎◌}
use Rattle.task_lang.specs.Tick.{work_then}
use Rattle.task_lang.specs.declared.syntax.Stmt.{Stmt, out-Stmt}
use Rattle.task_machine.specs.Standing.{work_in_front, work_of}
use Rattle.tt_base.specs.declared.event.Event.{Event}
use Rattle.tt_base.specs.declared.event.Owner.{Owner}
use Rattle.tt_world.specs.declared.config.ConfigParts.{ConfigParts}
use Rattle.tt_world.specs.declared.script.ScriptParts.{ScriptParts}
use Rattle.tt_world.specs.declared.world.Runner.{Runner}
use Rattle.tt_world.specs.declared.world.Runner.TheVariants.{Nobody}
use Rattle.tt_world.specs.Moved.{Moved, Outcome, followed, preceded}
use Rattle.tt_world.specs.Runners.{left_of, leaving, owner_of, runner_of}
use Rattle.tt_world.specs.Schedule.{events_between, instant_at, world_at}
use Rattle.tt_world.specs.Step.{is_somebody, run_line, runner_tick, tick_over}
use Rattle.tt_world.specs.World.{World}
use Rattle.tt_world.proofs.Parts.{GoesOnBefore}
use Rattle.stack_dispatch.specs.State.{RunState}
use Rattle.stack_dispatch.specs.Ticking.{CanTick}

-- ---- how many ticks

-- how many ticks a runner of which this is left takes at once, where nothing is due at `free` ticks: all of these if
-- nobody runs, else at most the ticks left of the `work` at its front; at least one
abbrev pub jump_of : Runner → List Stmt → (free : ℕ) → ℕ
jump_of Nobody left free = max free 1
jump_of runner left free = max (min free (work_in_front left)) 1

-- a runner of which this is left can take k ticks at once
abbrev pub CanWork : ℕ → Runner → List Stmt → Type 0
CanWork k runner left = (runner ≡ Nobody) ⊎ (k ≤ max 1 (work_in_front left))

-- ---- ticks of work

-- what is left of a list after k ticks of the `work` at its front
abbrev pub worked_off : ℕ → List Stmt → List Stmt
worked_off zero left = left
worked_off (suc k) [] = []
worked_off (suc k) (front ∷ rest) = work_then (work_of (out-Stmt front) - suc k) rest

-- the world in which k ticks of work of a runner are taken off
abbrev pub lessened : ℕ → Runner → World → World
lessened zero runner w = w
lessened (suc k) runner w = leaving w runner (worked_off (suc k) (left_of w runner))

-- the world k ticks later, which an owner took
abbrev pub waited : ℕ → Owner → World → World
waited zero who w = w
waited (suc k) who w = record w { tick = w.tick + suc k; last = Some who }

-- the world after k ticks of work of the one who runs
abbrev pub at_work : ConfigParts → ℕ → World → World
at_work c k w = let runner = runner_of c w in lessened k runner (waited k (owner_of c w runner) w)

-- k ticks of work of the one who runs, whose only event is the line before the first, and then its next tick
unfoldable pub jump : ConfigParts → ScriptParts → ℕ → World → Moved
jump c s k w =
    let runner = runner_of c w in
    let who = owner_of c w runner in
    let tick = runner_tick c s runner who (at_work c k w) in
    followed (preceded (run_line w who) tick.move) (tick_over who (is_somebody runner && tick.ended))

-- ---- states

-- the state in which k ticks of work of a runner are taken off
abbrev pub lessened_in : ℕ → Runner → RunState → RunState
lessened_in k runner st = record st { world = lessened k runner st.world }

-- the one who runs can take k ticks at once
pub record CanJump (c : ConfigParts) (s : ScriptParts) (k : ℕ) (st : RunState) : Type 0 where
  pub can : CanTick c s st
  pub last : CanTick c s (record st { world = at_work c (k - 1) st.world })
  pub within : CanWork k (runner_of c st.world) (left_of st.world (runner_of c st.world))

-- ---- instants

-- the world is that of the schedule at the present tick, which the run reaches
pub record IsOnSchedule (c : ConfigParts) (s : ScriptParts) (w : World) : Type 0 where
  pub world : w ≡ world_at c s w.tick
  pub going : GoesOnBefore c s w.tick

-- the instants from one on up to a last one were passed, and no instant before the last ends the run: their events were
-- reported, and the world and the end of the run are those after the last one
pub record Passes {L : Type 0} (Told : L → List Event → L → Type 0) (c : ConfigParts) (s : ScriptParts)
    (from last : ℕ) (before after : L) (world : World) (end : Outcome) : Type 0 where
  pub later : from ≤ last
  pub going : GoesOnBefore c s last
  pub told : Told before (events_between c s from (suc last - from)) after
  pub world_is : world ≡ (instant_at c s last).world
  pub end_is : end ≡ (instant_at c s last).end
