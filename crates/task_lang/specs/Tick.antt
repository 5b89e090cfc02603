-- One tick of a list of statements.
use Rattle.std.specs.Prelude.{ℕ, zero, suc, ◌+◌, ◌-◌, min, ℤ, pos, List, [], ◌∷◌, ◌++◌, length, Option, Some, None, slice_get, slice_index, slice_index_or, slice_set}
use Rattle.task_lang.specs.declared.demand.Demand.{Demand}
use Rattle.task_lang.specs.declared.syntax.Stmt.{Stmt, out-Stmt}
use Rattle.task_lang.specs.declared.syntax.Stmt.TheOpen.{Stmt-F}
use Rattle.task_lang.specs.declared.syntax.Stmt.TheVariants as s
use Rattle.task_lang.specs.declared.tick.Effect.{Effect}
use Rattle.task_lang.specs.declared.tick.Effect.TheVariants as effect
use Rattle.task_lang.specs.Value.{value_of}

-- the demands, and the values that the script gives for each
pub record Supply : Type 0 where
  pub demands : List Demand
  pub values : List (List ℕ)

-- The list of statements left, the variables, how many script values of each demand were used, and the effects so far.
pub record State : Type 0 where
  pub left : List Stmt
  pub vars : List ℤ
  pub cursors : List ℕ
  pub effects : List Effect

abbrev pub supply_of : List Demand → List (List ℕ) → Supply
supply_of demands values = record { demands = demands; values = values }

abbrev pub state_of : List Stmt → List ℤ → List ℕ → List Effect → State
state_of left vars cursors effects = record { left = left; vars = vars; cursors = cursors; effects = effects }

-- n ticks of work and then the rest; only the rest where n is 0
abbrev pub work_then : ℕ → List Stmt → List Stmt
work_then zero rest = rest
work_then (suc n) rest = s.Work (suc n) ∷ rest

-- n turns and then the rest; only the rest where n is 0
abbrev pub repeat_then : ℕ → List Stmt → List Stmt → List Stmt
repeat_then zero body rest = rest
repeat_then (suc n) body rest = s.Repeat (suc n) body ∷ rest

-- the first body where the value is not 0, else the second
abbrev pub branch : ℤ → List Stmt → List Stmt → List Stmt
branch (pos zero) first second = second
branch _ first second = first

abbrev pub usual_of : Option Demand → ℕ
usual_of (Some demand) = demand.usual
usual_of None = 0

-- the values that the script gives for a demand
abbrev pub values_of : Supply → ℕ → List ℕ
values_of supply demand = slice_index_or supply.values demand []

-- what a demand is given when n of its values were used: the next value, or the usual one once they have ended
abbrev pub given : Supply → (demand used : ℕ) → ℕ
given supply demand used = slice_index_or (values_of supply demand) used (usual_of (slice_get supply.demands demand))

-- One more value of a demand is used, if there is one.
abbrev pub use_one : Supply → ℕ → List ℕ → List ℕ
use_one supply demand cursors =
    slice_set cursors demand (min (slice_index cursors demand + 1) (length (values_of supply demand)))

-- one tick of the first statement; the rest follows it
abbrev pub tick_by : Supply → State → Stmt-F Stmt → List Stmt → State
tick_by supply state (Stmt-F.Work ticks) rest = record state { left = work_then (ticks - 1) rest }
tick_by supply state (Stmt-F.Take demand) rest = record state {
  left = work_then (given supply demand.0 (slice_index state.cursors demand.0)) rest;
  cursors = use_one supply demand.0 state.cursors;
}
tick_by supply state (Stmt-F.Set var expr) rest = record state {
  left = rest;
  vars = slice_set state.vars var.0 (value_of state.vars expr);
}
tick_by supply state (Stmt-F.If expr first second) rest =
    record state { left = branch (value_of state.vars expr) first second ++ rest }
tick_by supply state (Stmt-F.Repeat turns body) rest =
    record state { left = body ++ repeat_then (turns - 1) body rest }
tick_by supply state (Stmt-F.Out expr) rest = record state {
  left = rest;
  effects = state.effects ++ effect.Out (value_of state.vars expr) ∷ [];
}
tick_by supply state (Stmt-F.Service call) rest = record state {
  left = rest;
  effects = state.effects ++ effect.Service call ∷ [];
}

-- one tick of a list; where it is empty nothing changes
abbrev pub tick_list : Supply → State → List Stmt → State
tick_list supply state [] = state
tick_list supply state (front ∷ rest) = tick_by supply state (out-Stmt front) rest

unfoldable pub tick : Supply → State → State
tick supply state = tick_list supply state state.left

-- k ticks
unfoldable pub ticks : Supply → ℕ → State → State
ticks supply zero state = state
ticks supply (suc n) state = ticks supply n (tick supply state)
