use Rattle.std.proofs.Common.{◌≡◌, ◌<◌, ℕ, [], true, get_or}
use Rattle.std.specs.Prelude.{nat_le, slice_get}
use Rattle.std.specs.List.{list_all}
use Rattle.task_lang.specs.Worst.{most_of}
use Rattle.schedule_check.proofs.bounds.keeps_values.Given as goal

abbrev pub invariant-loop-number : goal.invariant-loop-number
invariant-loop-number l =
    (k : ℕ) → k < l.number
    → list_all (λ value. nat_le value (most_of (slice_get l.config.demands k))) (get_or l.script.values k []) ≡ true
