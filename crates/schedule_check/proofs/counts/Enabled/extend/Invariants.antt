use Rattle.std.proofs.Common.{◌≡◌, ◌-◌, length}
use Rattle.tt_world.specs.declared.config.Enable.{Enable}
use Rattle.schedule_check.specs.Counts.{AreBefore, AreEnabled}
use Rattle.schedule_check.proofs.counts.Enabled.extend.Given as goal

abbrev pub invariant-loop-self : goal.invariant-loop-self
invariant-loop-self l = record {
  enabled : AreEnabled l.rows l.self;
  first : l.self.first ≡ l.initial.self.first;
  before : AreBefore (λ (row : Enable). row.offset) l.rows l.to l.self.end;
}

abbrev pub decreases-loop-self : goal.decreases-loop-self
decreases-loop-self l = length l.rows - l.self.end
