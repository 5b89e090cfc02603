use Rattle.std.proofs.Common.{ℕ, ◌-◌, List, length}
use Rattle.task_lang.specs.declared.syntax.Stmt.{Stmt}
use Rattle.task_machine.specs.Place.{Left}
use Rattle.task_machine.proofs.rest.resting_place.Given as goal

abbrev pub invariant-loop-passed : goal.invariant-loop-passed
invariant-loop-passed l = (d : ℕ) (list : List Stmt) → Left l.code l.counters d l.start list
    → (e : ℕ) × Left l.code l.counters e l.place list

abbrev pub decreases-loop-passed : goal.decreases-loop-passed
decreases-loop-passed l = length l.code - l.place
