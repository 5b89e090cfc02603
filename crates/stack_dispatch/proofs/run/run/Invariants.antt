use Rattle.std.proofs.Common.{◌≡◌, ◌≤◌, ◌+◌, ◌-◌}
use Rattle.tt_world.specs.Schedule.{most_ticks}
use Rattle.stack_dispatch.specs.Counts.{Counted, due_before, ended_before}
use Rattle.stack_dispatch.specs.Peaks.{peaks_before}
use Rattle.stack_dispatch.specs.Served.{Foresees, HasSources}
use Rattle.stack_dispatch.specs.State.{IsFor}
use Rattle.stack_dispatch.specs.Told.{Tells}
use Rattle.stack_dispatch.proofs.Running.{AtTick}
use Rattle.stack_dispatch.proofs.run.run.Given as goal

-- the world is that of the schedule at the present tick, the events before it were reported, the arrivals to come are
-- those from it on, and it is known until when nothing is due
abbrev pub invariant-instants : goal.invariant-instants
invariant-instants g l = record {
  at : AtTick (Tells g.R.Recorder) l.config l.script l.fn.log l.state.world l.log;
  fixed : IsFor l.config l.script l.state.beside;
  sources : HasSources l.config l.script l.state.world.tick l.state;
  foresees : Foresees l.config l.script l.state l.ahead;
  peaks : l.peaks ≡ peaks_before l.config l.script l.state.world.tick;
  few : l.steps ≤ l.fn.steps + (ended_before l.config l.script l.state.world.tick
      + due_before l.config l.script (l.state.world.tick + 1));
  enough : AtTick Counted l.config l.script l.fn.steps l.state.world l.steps;
}

abbrev pub decreases-instants : goal.decreases-instants
decreases-instants g l = most_ticks l.config l.script + 1 - l.state.world.tick
