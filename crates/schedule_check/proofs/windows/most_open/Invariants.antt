use Rattle.std.proofs.Common.{◌≡◌, ◌*◌, ◌≤◌}
use Rattle.tt_world.specs.Rows.{mode_at}
use Rattle.schedule_check.specs.Measures.{weight_of}
use Rattle.schedule_check.specs.Windows.{largest, most_in}
use Rattle.schedule_check.proofs.windows.most_open.Given as goal

abbrev pub invariant-loop-number : goal.invariant-loop-number
invariant-loop-number l = record {
  most : l.most ≡ largest (λ mode. most_in (weight_of l.measure l.config) l.config (mode_at l.config mode)) l.number;
  small : l.most ≤ 4096 * 65535;
}
