use Rattle.std.proofs.Common.{◌≡◌, ◌*◌, ◌<◌, ◌≤◌, ℕ, suc, length, take}
use Rattle.std.specs.Prelude.{sum_by}
use Rattle.tt_world.specs.Rows.{row_of}
use Rattle.round_table.specs.DueRows.{checks_below, checks_of}
use Rattle.schedule_check.specs.Measures.{counted, weight_of}
use Rattle.schedule_check.specs.Windows.{largest, open_at}
use Rattle.schedule_check.proofs.windows.most_in.Given as goal

abbrev pub invariant-loop-row : goal.invariant-loop-row
invariant-loop-row l = record {
  opened : l.opened ≡ sum_by (weight_of l.measure l.parts) (take l.row-index l.table.mode.activations);
  bounded : l.opened ≤ l.row-index * 65535;
  closed : l.closed
      ≡ sum_by (counted (weight_of l.measure l.parts) l.table.mode) (take l.place (checks_of l.table));
  early : (j : ℕ) → l.row-index ≤ j → j < length l.table.mode.activations
      → l.place ≤ length (checks_below l.table.mode (suc (row_of l.table.mode j).offset));
  most : l.most ≡ largest
      (λ j. open_at (weight_of l.measure l.parts) l.parts l.table.mode (row_of l.table.mode j).offset) l.row-index;
  small : l.most ≤ 4096 * 65535;
}
