use Rattle.std.proofs.Common.{◌≡◌, ◌-◌, length}
use Rattle.tt_world.specs.declared.config.Activation.{Activation}
use Rattle.schedule_check.specs.Counts.{AreBefore, AreBegun}
use Rattle.schedule_check.proofs.counts.Begun.extend.Given as goal

abbrev pub invariant-loop-tasks : goal.invariant-loop-tasks
invariant-loop-tasks l = record {
  begun : AreBegun l.parts l.rows l.self;
  first : l.self.first ≡ l.initial.self.first;
  before : AreBefore (λ (row : Activation). row.offset) l.rows l.to l.self.end;
}

abbrev pub decreases-loop-tasks : goal.decreases-loop-tasks
decreases-loop-tasks l = length l.rows - l.self.end
