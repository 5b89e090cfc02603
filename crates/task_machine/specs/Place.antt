-- The statements that are left at a place of the code, as a relation.
use Rattle.std.specs.Prelude.{◌≡◌, ℕ, zero, suc, ◌+◌, ◌≤◌, List, [], ◌∷◌, length, Option, Some, None, slice_get, slice_index}
use Rattle.tt_base.specs.declared.number.DemandNo.{DemandNo}
use Rattle.task_lang.specs.declared.syntax.Stmt.{Stmt, out-Stmt}
use Rattle.task_lang.specs.declared.syntax.Stmt.TheOpen.{Stmt-F}
use Rattle.task_lang.specs.Tick.{work_then, repeat_then}
use Rattle.task_machine.specs.Layout.{layer_code, body_code, Stands}
use Rattle.task_machine.specs.declared.instr.Instr.{Instr}
use Rattle.task_machine.specs.declared.instr.Instr.TheVariants as i

-- Inside n repetitions, at this place of the code, these statements are left. The counters say how many turns
-- are left.
pub data Left (code : List Instr) (counters : List ℕ) : ℕ → ℕ → List Stmt → Type 0 where
  At_end : (p : ℕ) → length code ≤ p → Left code counters 0 p []
  At_stmt : (d p q : ℕ) (s : Stmt) (x : Stmt-F Stmt) (rest : List Stmt) → out-Stmt s ≡ x
      → Stands code p (layer_code d x) q → Left code counters d q rest
      → Left code counters d p (s ∷ rest)
  At_skip : (d p q : ℕ) (second rest : List Stmt) → slice_get code p ≡ Some (i.Skip (length (body_code d second)))
      → Stands code (p + 1) (body_code d second) q → Left code counters d q rest → Left code counters d p rest
  At_again : (d p start back : ℕ) (inner rest : List Stmt) → slice_get code p ≡ Some (i.Again d back) → start + back ≡ p
      → Stands code start (body_code (suc d) inner) p → Left code counters d (p + 1) rest
      → Left code counters (suc d) p (repeat_then (slice_index counters d) inner rest)

abbrev pub at_none : ℕ → Option ℕ
at_none zero = Some 1
at_none (suc n) = None

-- how many instructions are passed in no time
abbrev pub passes : List ℕ → Option Instr → Option ℕ
passes counters (Some (i.Skip n)) = Some (n + 1)
passes counters (Some (i.Again counter back)) = at_none (slice_index counters counter)
passes counters _ = None

abbrev pub work_in : Option Instr → ℕ
work_in (Some (i.Work ticks)) = ticks
work_in _ = 0

abbrev pub take_in : Option Instr → Option DemandNo
take_in (Some (i.Take demand)) = Some demand
take_in _ = None

-- A tick is taken at this place, or nothing is left there.
pub record Still (code : List Instr) (counters : List ℕ) (p : ℕ) : Type 0 where
  pub ticks : passes counters (slice_get code p) ≡ None
  pub idle : work_in (slice_get code p) ≡ 0

-- With this much work begun before this place, this list is left.
pub record Rests (code : List Instr) (counters : List ℕ) (l : List Stmt) (p work : ℕ) : Type 0 where
  pub depth : ℕ
  pub below : List Stmt
  pub left : Left code counters depth p below
  pub is : l ≡ work_then work below
  pub still : work ≡ 0 → Still code counters p
