-- The instructions of a body.
use Rattle.std.specs.Prelude.{◌≡◌, ℕ, suc, ◌+◌, ◌≤◌, ◌<◌, ◌^◌, List, [], ◌∷◌, ◌++◌, length, map, Option, Some, None, slice_get}
use Rattle.task_lang.specs.declared.syntax.Expr.{Expr}
use Rattle.task_lang.specs.declared.syntax.Expr.TheOpen.{Expr-F}
use Rattle.task_lang.specs.declared.syntax.Expr.TheFolds.{fold-Expr}
use Rattle.task_lang.specs.declared.syntax.Stmt.{Stmt}
use Rattle.task_lang.specs.declared.syntax.Stmt.TheOpen.{Stmt-F}
use Rattle.task_lang.specs.declared.syntax.Stmt.TheFolds.{fold-Stmt, map-Stmt}
use Rattle.task_machine.specs.declared.instr.Instr.{Instr}
use Rattle.task_machine.specs.declared.instr.Instr.TheVariants as i
use Rattle.task_machine.specs.declared.instr.Term.{Term}
use Rattle.task_machine.specs.declared.instr.Term.TheVariants as t

-- an expression in prefix form, with the terms of its operands in their places
abbrev pub expr_step : Expr-F (List Instr) → List Instr
expr_step (Expr-F.Const number) = i.Term (t.Const number) ∷ []
expr_step (Expr-F.Var var) = i.Term (t.Var var) ∷ []
expr_step (Expr-F.Bin op left right) = i.Term (t.Apply op) ∷ (left ++ right)

abbrev pub expr_code : Expr → List Instr
expr_code = fold-Expr (List Instr) expr_step

-- the test, the first body, a jump past the second, and the second
abbrev pub if_code : (test first second : List Instr) → List Instr
if_code test first second = i.If (length first + 1) ∷ (test ++ (first ++ i.Skip (length second) ∷ second))

-- the start of the turns, the body, and the way back to its start
abbrev pub repeat_code : (counter turns : ℕ) → List Instr → List Instr
repeat_code counter turns inner = i.Repeat counter turns ∷ (inner ++ i.Again counter (length inner) ∷ [])

abbrev pub joined : ℕ → List (ℕ → List Instr) → List Instr
joined depth [] = []
joined depth (code ∷ codes) = code depth ++ joined depth codes

-- one statement inside n repetitions, with the code of each inner statement in its place
abbrev pub stmt_step : Stmt-F (ℕ → List Instr) → ℕ → List Instr
stmt_step (Stmt-F.Work ticks) depth = i.Work ticks ∷ []
stmt_step (Stmt-F.Take demand) depth = i.Take demand ∷ []
stmt_step (Stmt-F.Set var expr) depth = i.Set var ∷ expr_code expr
stmt_step (Stmt-F.If expr first second) depth = if_code (expr_code expr) (joined depth first) (joined depth second)
stmt_step (Stmt-F.Repeat turns inner) depth = repeat_code depth turns (joined (suc depth) inner)
stmt_step (Stmt-F.Out expr) depth = i.Out ∷ expr_code expr
stmt_step (Stmt-F.Service call) depth = i.Service call ∷ []

abbrev pub stmt_code : Stmt → ℕ → List Instr
stmt_code = fold-Stmt (ℕ → List Instr) stmt_step

-- the code of a body inside n repetitions, each of which has a counter of its own
abbrev pub body_code : ℕ → List Stmt → List Instr
body_code depth body = joined depth (map stmt_code body)

-- the code of an opened statement inside n repetitions
abbrev pub layer_code : ℕ → Stmt-F Stmt → List Instr
layer_code depth stmt = stmt_step (map-Stmt Stmt (ℕ → List Instr) stmt_code stmt) depth

-- These instructions are in the code, from the first place up to the second.
abbrev pub Stands : List Instr → ℕ → List Instr → ℕ → Type 0
Stands code p [] q = p ≡ q
Stands code p (x ∷ xs) q = (slice_get code p ≡ Some x) × Stands code (p + 1) xs q

-- an instruction as a term
abbrev pub term_in : Option Instr → Option Term
term_in (Some (i.Term term)) = Some term
term_in _ = None

-- The numbers of an instruction are in range, at a place of a code of n instructions.
abbrev pub IsInRange : (len place : ℕ) → Instr → Type 0
IsInRange len p (i.Work ticks) = 1 ≤ ticks
IsInRange len p (i.If passed) = passed ≤ len
IsInRange len p (i.Skip passed) = passed ≤ len
IsInRange len p (i.Repeat counter turns) = (1 ≤ turns) × (counter < 4)
IsInRange len p (i.Again counter back) = (back ≤ p) × (counter < 4)
IsInRange len p _ = Unit {0}

-- The numbers of all instructions are in range.
pub record AreInRange (code : List Instr) : Type 0 where
  pub short : length code < 2 ^ 48
  pub each : (p : ℕ) (instr : Instr) → slice_get code p ≡ Some instr → IsInRange (length code) p instr
