use Rattle.std.proofs.Common.{◌≡◌, ◌+◌, ◌-◌, ◌<◌, ◌≤◌, ℕ, false}
use Rattle.schedule_check.specs.Responses.{demand_fits}
use Rattle.schedule_check.proofs.responses.response.Given as goal

abbrev pub invariant-loop-end : goal.invariant-loop-end
invariant-loop-end l = record {
  later : l.row.offset < l.end;
  grown : l.window.to ≤ l.end;
  window : l.window ≡ record { parts = l.config; mode = l.table.mode; from = l.row.offset; to = l.window.to };
  none : (t : ℕ) → l.row.offset < t → t < l.end → demand_fits l.config l.table.mode l.row t ≡ false;
}

abbrev pub decreases-loop-end : goal.decreases-loop-end
decreases-loop-end l = l.row.deadline + 1 - l.end
