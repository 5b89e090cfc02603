use Rattle.std.proofs.Common.{◌≡◌, ◌*◌, ◌≤◌, ◌^◌, ℕ, get_or}
use Rattle.std.specs.Prelude.{sum_by}
use Rattle.std.specs.List.{range_with_len}
use Rattle.schedule_check.specs.Demand.{isr_demand, isr_of}
use Rattle.schedule_check.proofs.demands.isrs_demand.Given as goal

abbrev pub invariant-loop-number : goal.invariant-loop-number
invariant-loop-number l = record {
  sum : l.sum ≡ sum_by (λ (number : ℕ). isr_demand (isr_of l.parts number) (get_or l.counts number 0) l.ticks)
      (range_with_len 0 l.number);
  bounded : l.sum ≤ l.number * (10 ^ 12 * 4098);
}
