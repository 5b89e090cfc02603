-- The body whose code some instructions are, and what is left of it at a place. The instructions are read from the last
-- to the first.
use Rattle.std.specs.Prelude.{ℕ, ◌+◌, ◌-◌, List, [], ◌∷◌, ◌++◌, length, take, slice_index, slice_index_or}
use Rattle.task_lang.specs.declared.syntax.Op.{Op}
use Rattle.task_lang.specs.declared.syntax.Expr.{Expr}
use Rattle.task_lang.specs.declared.syntax.Expr.TheVariants as e
use Rattle.task_lang.specs.declared.syntax.Stmt.{Stmt}
use Rattle.task_lang.specs.declared.syntax.Stmt.TheVariants as s
use Rattle.task_lang.specs.Tick.{repeat_then}
use Rattle.task_machine.specs.declared.instr.Instr.{Instr}
use Rattle.task_machine.specs.declared.instr.Instr.TheVariants as i
use Rattle.task_machine.specs.declared.instr.Term.TheVariants as t

-- A block that is open at a place, and the statements after it: the first body of an `if`, with its second body; or
-- the body of a `repeat`, with its counter and the number of instructions from its start to the end of the code.
pub data Block : Type 0 where
  First : (second rest : List Stmt) → Block
  Turn : (counter from_end : ℕ) (rest : List Stmt) → Block

-- what the instructions from a place on say: the expressions that begin there, the statements left of the innermost
-- block, and the blocks that are open there, the innermost first
pub record Seen : Type 0 where
  pub exprs : List Expr
  pub block : List Stmt
  pub around : List Block

abbrev pub nothing : Seen
nothing = record { exprs = []; block = []; around = [] }

-- what was seen at the place n, in a list of what was seen at each place
abbrev pub at : ℕ → List Seen → Seen
at n seen = slice_index_or seen n nothing

abbrev pub put : Stmt → Seen → Seen
put stmt seen = record seen { block = stmt ∷ seen.block }

abbrev pub put_expr : Expr → Seen → Seen
put_expr expr seen = record seen { exprs = expr ∷ seen.exprs }

-- a statement with an expression
abbrev pub put_with : (Expr → Stmt) → List Expr → Seen → Seen
put_with stmt (expr ∷ exprs) seen = record { exprs = exprs; block = stmt expr ∷ seen.block; around = seen.around }
put_with stmt [] seen = seen

-- an operator of two expressions
abbrev pub applied : Op → List Expr → Seen → Seen
applied op (left ∷ right ∷ exprs) seen = record seen { exprs = e.Bin op left right ∷ exprs }
applied op _ seen = seen

-- The second body of an `if` is all that comes before what is seen after the `if`.
abbrev pub open_first : (here after : Seen) → Seen
open_first here after = record {
  exprs = here.exprs;
  block = [];
  around = First (take (length here.block - length after.block) here.block) after.block ∷ here.around;
}

abbrev pub close_if : List Expr → List Block → Seen → Seen
close_if (expr ∷ exprs) (First second rest ∷ around) seen =
    record { exprs = exprs; block = s.If expr seen.block second ∷ rest; around = around }
close_if _ _ seen = seen

abbrev pub open_turn : (counter from_end : ℕ) → Seen → Seen
open_turn counter from_end seen =
    record { exprs = seen.exprs; block = []; around = Turn counter from_end seen.block ∷ seen.around }

abbrev pub close_turn : ℕ → List Block → Seen → Seen
close_turn turns (Turn counter from_end rest ∷ around) seen =
    record { exprs = seen.exprs; block = s.Repeat turns seen.block ∷ rest; around = around }
close_turn turns _ seen = seen

-- one instruction, in front of what is seen at the places after it
abbrev pub read_one : Instr → List Seen → Seen
read_one (i.Work ticks) later = put (s.Work ticks) (at 0 later)
read_one (i.Take demand) later = put (s.Take demand) (at 0 later)
read_one (i.Set var) later = put_with (λ expr. s.Set var expr) (at 0 later).exprs (at 0 later)
read_one (i.If passed) later = close_if (at 0 later).exprs (at 0 later).around (at 0 later)
read_one (i.Skip passed) later = open_first (at 0 later) (at passed later)
read_one (i.Repeat counter turns) later = close_turn turns (at 0 later).around (at 0 later)
read_one (i.Again counter back) later = open_turn counter (length later + back) (at 0 later)
read_one i.Out later = put_with (λ expr. s.Out expr) (at 0 later).exprs (at 0 later)
read_one (i.Service call) later = put (s.Service call) (at 0 later)
read_one (i.Term (t.Const number)) later = put_expr (e.Const number) (at 0 later)
read_one (i.Term (t.Var var)) later = put_expr (e.Var var) (at 0 later)
read_one (i.Term (t.Apply op)) later = applied op (at 0 later).exprs (at 0 later)

-- what is seen at each place, the end included
unfoldable pub reading : List Instr → List Seen
reading [] = nothing ∷ []
reading (x ∷ xs) = read_one x (reading xs) ∷ reading xs

-- what is seen at a place of the code
abbrev pub seen_at : List Instr → ℕ → Seen
seen_at code p = at p (reading code)

-- the body whose code these instructions are
abbrev pub body_in : List Instr → List Stmt
body_in code = (seen_at code 0).block

-- what is left of the open blocks: what comes after an `if`, and the turns of a `repeat` that its counter says
abbrev pub left_around : List Instr → (counters : List ℕ) → List Block → List Stmt
left_around code counters [] = []
left_around code counters (First second rest ∷ around) = rest ++ left_around code counters around
left_around code counters (Turn counter from_end rest ∷ around) =
    repeat_then (slice_index counters counter) (seen_at code (length code - from_end)).block
    (rest ++ left_around code counters around)

-- the statements that are left at a place of the code
unfoldable pub left_at : List Instr → (counters : List ℕ) → ℕ → List Stmt
left_at code counters p = (seen_at code p).block ++ left_around code counters (seen_at code p).around
