-- The value of an expression: a signed number of 32 bits.
use Rattle.std.specs.Prelude.{ℤ, pos, ◌+ℤ◌, ◌-ℤ◌, ◌*ℤ◌, Bool, not, ◌&&◌, if◌then◌else◌, List, slice_index_or}
use Rattle.std.specs.Int.{int_wrap}
use mir.Syntax.{w32}
use lib.Signed.{lt_z, le_z}
use Rattle.task_lang.specs.declared.syntax.Op.{Op}
use Rattle.task_lang.specs.declared.syntax.Op.TheVariants.{Add, Sub, Mul, Less, AtMost, Same, Differ}
use Rattle.task_lang.specs.declared.syntax.Expr.{Expr}
use Rattle.task_lang.specs.declared.syntax.Expr.TheOpen.{Expr-F}
use Rattle.task_lang.specs.declared.syntax.Expr.TheFolds.{fold-Expr}

-- a comparison gives 1 or 0
abbrev pub one_if : Bool → ℤ
one_if b = if b then pos 1 else pos 0

-- Neither is below the other.
abbrev pub is_same : ℤ → ℤ → Bool
is_same a b = le_z a b && le_z b a

-- the result of an operator on two values: sums, differences and products modulo 2^32
abbrev pub result_of : Op → ℤ → ℤ → ℤ
result_of Add a b = int_wrap w32 (a +ℤ b)
result_of Sub a b = int_wrap w32 (a -ℤ b)
result_of Mul a b = int_wrap w32 (a *ℤ b)
result_of Less a b = one_if (lt_z a b)
result_of AtMost a b = one_if (le_z a b)
result_of Same a b = one_if (is_same a b)
result_of Differ a b = one_if (not (is_same a b))

-- one level of an expression, with the values of its parts in their places
abbrev pub value_step : List ℤ → Expr-F ℤ → ℤ
value_step vars (Expr-F.Const number) = number
value_step vars (Expr-F.Var var) = slice_index_or vars var.0 (pos 0)
value_step vars (Expr-F.Bin op left right) = result_of op left right

-- the value of an expression, where the variables have these values; one that is not there counts as 0
abbrev pub value_of : List ℤ → Expr → ℤ
value_of vars = fold-Expr ℤ (value_step vars)
