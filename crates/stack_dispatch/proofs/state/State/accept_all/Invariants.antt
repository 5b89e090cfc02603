use Rattle.std.proofs.Common.{◌≡◌}
use Rattle.isr_window.specs.Played.{Accepting}
use Rattle.isr_window.proofs.Fewer.{held_in}
use Rattle.stack_dispatch.specs.Told.{Tells}
use Rattle.stack_dispatch.specs.State.{window_in}
use Rattle.stack_dispatch.proofs.state.State.accept_all.Given as goal

-- the interrupts of the sources before a place were accepted
abbrev pub invariant-sources : goal.invariant-sources
invariant-sources g l = record {
  at : Accepting (Tells g.R.Recorder) l.config l.fn.log l.log l.fn.self.world l.self.world (window_in l.self) l.busy;
  beside : l.self.beside ≡ l.fn.self.beside;
}

abbrev pub decreases-sources : goal.decreases-sources
decreases-sources g l = held_in (window_in l.self)
