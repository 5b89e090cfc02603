-- How many ticks a body takes at most.
use Rattle.std.specs.Prelude.{ℕ, ◌+◌, ◌*◌, max, List, map, sum, Option, Some, None, slice_get}
use Rattle.task_lang.specs.declared.demand.Demand.{Demand}
use Rattle.task_lang.specs.declared.syntax.Stmt.{Stmt}
use Rattle.task_lang.specs.declared.syntax.Stmt.TheOpen.{Stmt-F}
use Rattle.task_lang.specs.declared.syntax.Stmt.TheFolds.{fold-Stmt}

-- the most of a demand, 0 where there is none
abbrev pub most_of : Option Demand → ℕ
most_of (Some demand) = demand.most
most_of None = 0

-- one statement, with the worst case of each statement inside it in its place
abbrev pub worst_step : List Demand → Stmt-F ℕ → ℕ
worst_step demands (Stmt-F.Work ticks) = ticks
worst_step demands (Stmt-F.Take demand) = 1 + most_of (slice_get demands demand.0)
worst_step demands (Stmt-F.If expr first second) = 1 + max (sum first) (sum second)
worst_step demands (Stmt-F.Repeat turns body) = turns * (1 + sum body)
worst_step demands (Stmt-F.Set var expr) = 1
worst_step demands (Stmt-F.Out expr) = 1
worst_step demands (Stmt-F.Service call) = 1

-- the worst case of a statement
abbrev pub worst_of : List Demand → Stmt → ℕ
worst_of demands = fold-Stmt ℕ (worst_step demands)

-- the worst case of statements, one after another
abbrev pub worst_in : List Demand → List Stmt → ℕ
worst_in demands body = sum (map (worst_of demands) body)
