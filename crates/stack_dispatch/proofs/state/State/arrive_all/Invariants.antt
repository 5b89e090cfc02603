use Rattle.std.proofs.Common.{◌≡◌}
use Rattle.isr_window.specs.Played.{Arriving}
use Rattle.isr_window.proofs.Fewer.{left_in}
use Rattle.stack_dispatch.specs.Told.{Tells}
use Rattle.stack_dispatch.specs.State.{fixed_in, window_in}
use Rattle.stack_dispatch.proofs.state.State.arrive_all.Given as goal

-- the arrivals of the sources before a place were taken
abbrev pub invariant-sources : goal.invariant-sources
invariant-sources g l = record {
  at : Arriving (Tells g.R.Recorder) l.config l.script l.fn.log l.log l.fn.self.world l.self.world (window_in l.self);
  tick : l.self.world.tick ≡ l.fn.self.world.tick;
  fixed : fixed_in l.self.beside ≡ fixed_in l.fn.self.beside;
}

abbrev pub decreases-sources : goal.decreases-sources
decreases-sources g l = left_in (window_in l.self)
