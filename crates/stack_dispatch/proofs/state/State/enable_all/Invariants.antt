use Rattle.std.proofs.Common.{◌≡◌}
use Rattle.std.specs.Prelude.{slice_range}
use Rattle.round_table.specs.DueRows.{enables_of}
use Rattle.stack_dispatch.specs.Due.{enables_by}
use Rattle.stack_dispatch.specs.Told.{Tells}
use Rattle.stack_dispatch.proofs.Enabling.{Leads}
use Rattle.stack_dispatch.proofs.state.State.enable_all.Given as goal

-- the enables so far, and then those that are left, are all of them
abbrev pub invariant-loop-place : goal.invariant-loop-place
invariant-loop-place g l = record {
  all : Leads (Tells g.R.Recorder) l.fn.log (enables_by (slice_range (enables_of l.table) l.from l.to) l.fn.self.world)
      l.log (enables_by (slice_range (enables_of l.table) l.place l.to) l.self.world);
  beside : l.self.beside ≡ l.fn.self.beside;
}
