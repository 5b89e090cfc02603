-- What the ticks of a body read and change.
use Rattle.std.specs.Prelude.{ℕ, ℤ, List}
use Rattle.task_lang.specs.declared.demand.Demand.{Demand}

-- the variables, how many script values of each demand were used, the demands, and the values that the script gives
-- for each
pub record Store : Type 0 where
  pub vars : List ℤ
  pub cursors : List ℕ
  pub demands : List Demand
  pub values : List (List ℕ)
