-- How many moves a run takes: at least one for each change of the owner; and at most one for each statement that is
-- begun, one for each instant at which something is due, and one more.
use Rattle.std.specs.Prelude.{◌≡◌, ◌≤◌, ℕ, zero, suc, ◌+◌, ◌-◌, ◌==◌, ◌&&◌, ◌||◌, nat_le, not, Bool, true, false, List, [], ◌∷◌, filter, length, Some, if◌then◌else◌}
use Rattle.std.specs.List.{list_any}
use Rattle.task_lang.specs.declared.syntax.Stmt.{Stmt}
use Rattle.task_machine.specs.Standing.{work_in_front}
use Rattle.tt_base.specs.declared.event.Event.{Event}
use Rattle.tt_base.specs.declared.event.Event.TheVariants.{Run}
use Rattle.tt_world.specs.declared.config.ConfigParts.{ConfigParts}
use Rattle.tt_world.specs.declared.script.ScriptParts.{ScriptParts}
use Rattle.tt_world.specs.declared.world.Runner.{Runner}
use Rattle.tt_world.specs.declared.world.Runner.TheVariants as runner
use Rattle.tt_world.specs.declared.world.RunEnd.TheVariants as ending
use Rattle.tt_world.specs.Correction.{is_length}
use Rattle.tt_world.specs.Gates.{arrivals_of, sources}
use Rattle.tt_world.specs.Moved.{Outcome}
use Rattle.tt_world.specs.Opening.{opening}
use Rattle.tt_world.specs.Rounds.{latch}
use Rattle.tt_world.specs.Rows.{mode_of, offset_of}
use Rattle.tt_world.specs.Runners.{left_of}
use Rattle.tt_world.specs.Schedule.{instant_at, last_instant, runner_at, world_at}
use Rattle.tt_world.specs.Step.{is_somebody}
use Rattle.tt_world.specs.World.{World, Source}
use Rattle.round_table.specs.ExpiryPoints.{is_free}

-- ---- instants at which something is due

-- whether the length of the round is fixed at this instant
abbrev pub is_latch : ConfigParts → World → Bool
is_latch c w = offset_of w == c.round - c.adjust

-- whether the round ends at this instant
abbrev pub is_round_end : ConfigParts → World → Bool
is_round_end c w = is_length (latch c w).world.latched (offset_of w)

-- whether an interrupt arrives at this tick
abbrev pub is_arrival : ConfigParts → ScriptParts → ℕ → Bool
is_arrival c s now =
    list_any (λ (source : Source). list_any (λ (tick : ℕ). tick == now) (arrivals_of s source)) (sources c)

-- whether something is due at this instant, before its opening: an activation, an enable or a monitoring point of the
-- mode at the offset, an arrival, the latch, or the round's end. The rows at offset 0 of the next round belong to the
-- round's end
abbrev pub is_due : ConfigParts → ScriptParts → World → Bool
is_due c s w =
    not (is_free (offset_of w) (mode_of c w)) || (is_arrival c s w.tick || (is_latch c w || is_round_end c w))

-- something is due at a tick, if the round of this world is still the present one then
abbrev pub IsDueAt : ConfigParts → ScriptParts → World → ℕ → Type 0
IsDueAt c s w next = (u : World) → u.tick ≡ next → u.start ≡ w.start → u.mode ≡ w.mode → u.latched ≡ w.latched
    → is_due c s u ≡ true

-- at how many of the instants before n something is due
unfoldable pub due_before : ConfigParts → ScriptParts → ℕ → ℕ
due_before c s zero = 0
due_before c s (suc n) = due_before c s n + (if is_due c s (world_at c s n) then 1 else 0)

-- ---- statements

-- what is left of the one who takes the tick of instant n
abbrev pub list_at : ConfigParts → ScriptParts → ℕ → List Stmt
list_at c s n = left_of (opening c s (world_at c s n)).world (runner_at c s n)

-- a tick is within the `work` at the front of its owner's list, and is not the last one of that `work`
abbrev pub stays_within : ConfigParts → ScriptParts → ℕ → Bool
stays_within c s n = is_somebody (runner_at c s n) && nat_le 2 (work_in_front (list_at c s n))

abbrev pub same_runner : Runner → Runner → Bool
same_runner (runner.Isr a) (runner.Isr b) = a.0 == b.0
same_runner (runner.Job a) (runner.Job b) = a == b
same_runner (runner.Oisr a) (runner.Oisr b) = a.0 == b.0
same_runner (runner.Osek a) (runner.Osek b) = a.0 == b.0
same_runner a b = false

abbrev pub is_job : Runner → Bool
is_job (runner.Job place) = true
is_job r = false

-- the runners that have begun the `work` at their front, after the opening of an instant: the activations of a round
-- that has ended are gone
abbrev pub still_begun : ConfigParts → ScriptParts → ℕ → List Runner → List Runner
still_begun c s n begun =
    if (opening c s (world_at c s n)).world.start == n then filter (λ r. not (is_job r)) begun else begun

-- the runners that have begun the `work` at their front, before instant n: their last tick went on within it. For an
-- activation, only the ticks of this round count
unfoldable pub begun_before : ConfigParts → ScriptParts → ℕ → List Runner
begun_before c s zero = []
begun_before c s (suc n) =
    let others = filter (λ r. not (same_runner (runner_at c s n) r)) (still_begun c s n (begun_before c s n)) in
    if stays_within c s n then runner_at c s n ∷ others else others

-- the tick of instant n begins a statement: its owner has a list, and at its front there is no `work`, or one within
-- which the owner's tick before did not go on
abbrev pub begins_at : ConfigParts → ScriptParts → ℕ → Bool
begins_at c s n = is_somebody (runner_at c s n)
    && not (nat_le 1 (work_in_front (list_at c s n))
    && list_any (same_runner (runner_at c s n)) (still_begun c s n (begun_before c s n)))

-- how many of the ticks before n begin a statement
unfoldable pub begins_before : ConfigParts → ScriptParts → ℕ → ℕ
begins_before c s zero = 0
begins_before c s (suc n) = begins_before c s n + (if begins_at c s n then 1 else 0)

-- the tick of instant n ends a statement: its owner has a list, and the tick does not go on within its front
abbrev pub ends_at : ConfigParts → ScriptParts → ℕ → Bool
ends_at c s n = is_somebody (runner_at c s n) && not (nat_le 2 (work_in_front (list_at c s n)))

-- how many of the ticks before n end a statement
unfoldable pub ended_before : ConfigParts → ScriptParts → ℕ → ℕ
ended_before c s zero = 0
ended_before c s (suc n) = ended_before c s n + (if ends_at c s n then 1 else 0)

-- the moves that were counted from one instant up to a last one are at most the statements that ended there, plus the
-- instants at which something is due, from the one after the first up to the one after the last
abbrev pub FewMoves : ConfigParts → ScriptParts → (from last before after : ℕ) → Type 0
FewMoves c s from last before after =
    after + (ended_before c s from + due_before c s (from + 1))
    ≤ before + (ended_before c s (last + 1) + due_before c s (last + 2))

-- how many statements of the hooks are played at the end of a run
abbrev pub hook_statements : ConfigParts → Outcome → ℕ
hook_statements c (Some (ending.Missed task)) = length c.error_hook + length c.shutdown_hook
hook_statements c (Some ending.Shutdown) = length c.shutdown_hook
hook_statements c end = 0

-- ---- the bounds

-- the statements that are begun, including those of the hooks, plus the instants at which something is due, plus one
unfoldable pub most_moves : ConfigParts → ScriptParts → ℕ
most_moves c s =
    let end = suc (last_instant c s) in
    begins_before c s end + hook_statements c (instant_at c s (last_instant c s)).end + due_before c s end + 1

-- how many Run events there are
abbrev pub is_run : Event → Bool
is_run (Run at who) = true
is_run event = false

abbrev pub runs_in : List Event → ℕ
runs_in events = length (filter is_run events)

-- the events of the moves between two counts: each move has at most one Run event
abbrev pub Counted : (before : ℕ) → List Event → (after : ℕ) → Type 0
Counted before events after = before + runs_in events ≤ after
