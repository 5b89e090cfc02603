-- For each variant of an expression or a statement: what opening it gives, and what a definition by steps gives for it.
use Rattle.std.specs.Prelude.{◌≡◌, ℕ, ℤ, List, map}
use Rattle.std.proofs.Common.{sym, ap, ◌∙◌}
use Rattle.tt_base.specs.declared.event.Call.{Call}
use Rattle.tt_base.specs.declared.number.DemandNo.{DemandNo}
use Rattle.tt_base.specs.declared.number.VarNo.{VarNo}
use Rattle.task_lang.specs.declared.syntax.Op.{Op}
use Rattle.task_lang.specs.declared.syntax.Expr.{Expr}
use Rattle.task_lang.specs.declared.syntax.Expr.TheOpen.{Expr-F}
use Rattle.task_lang.specs.declared.syntax.Expr.TheFolds.{fold-Expr, fold-roll-Expr}
use Rattle.task_lang.specs.declared.syntax.Expr.TheVariants as e
use Rattle.task_lang.specs.declared.syntax.Stmt.{Stmt}
use Rattle.task_lang.specs.declared.syntax.Stmt.TheOpen.{Stmt-F}
use Rattle.task_lang.specs.declared.syntax.Stmt.TheFolds.{fold-Stmt, fold-roll-Stmt}
use Rattle.task_lang.specs.declared.syntax.Stmt.TheVariants as s
-- `outs-Work ticks : out-Stmt (s.Work ticks) ≡ Stmt-F.Work ticks`, and so on
pub use Rattle.task_lang.specs.declared.syntax.Expr.TheVariants.{outs-Const, outs-Var, outs-Bin}
pub use Rattle.task_lang.specs.declared.syntax.Stmt.TheVariants.{outs-Work, outs-Take, outs-Set, outs-If, outs-Repeat, outs-Out, outs-Service}

module _ (A : Type 0) (step : Expr-F A → A) where
  pub fold-Const : (number : ℤ) → fold-Expr A step (e.Const number) ≡ step (Expr-F.Const number)
  fold-Const number = ap (fold-Expr A step) (sym (e.rolls-Const number)) ∙ fold-roll-Expr A step (Expr-F.Const number)

  pub fold-Var : (var : VarNo) → fold-Expr A step (e.Var var) ≡ step (Expr-F.Var var)
  fold-Var var = ap (fold-Expr A step) (sym (e.rolls-Var var)) ∙ fold-roll-Expr A step (Expr-F.Var var)

  pub fold-Bin : (op : Op) (left right : Expr) →
      fold-Expr A step (e.Bin op left right) ≡ step (Expr-F.Bin op (fold-Expr A step left) (fold-Expr A step right))
  fold-Bin op left right = ap (fold-Expr A step) (sym (e.rolls-Bin op left right))
      ∙ fold-roll-Expr A step (Expr-F.Bin op left right)

module _ (A : Type 0) (step : Stmt-F A → A) where
  pub fold-Work : (ticks : ℕ) → fold-Stmt A step (s.Work ticks) ≡ step (Stmt-F.Work ticks)
  fold-Work ticks = ap (fold-Stmt A step) (sym (s.rolls-Work ticks)) ∙ fold-roll-Stmt A step (Stmt-F.Work ticks)

  pub fold-Take : (demand : DemandNo) → fold-Stmt A step (s.Take demand) ≡ step (Stmt-F.Take demand)
  fold-Take demand = ap (fold-Stmt A step) (sym (s.rolls-Take demand)) ∙ fold-roll-Stmt A step (Stmt-F.Take demand)

  pub fold-Set : (var : VarNo) (expr : Expr) → fold-Stmt A step (s.Set var expr) ≡ step (Stmt-F.Set var expr)
  fold-Set var expr = ap (fold-Stmt A step) (sym (s.rolls-Set var expr)) ∙ fold-roll-Stmt A step (Stmt-F.Set var expr)

  pub fold-If : (expr : Expr) (first second : List Stmt) →
      fold-Stmt A step (s.If expr first second)
      ≡ step (Stmt-F.If expr (map (fold-Stmt A step) first) (map (fold-Stmt A step) second))
  fold-If expr first second = ap (fold-Stmt A step) (sym (s.rolls-If expr first second))
      ∙ fold-roll-Stmt A step (Stmt-F.If expr first second)

  pub fold-Repeat : (turns : ℕ) (body : List Stmt) →
      fold-Stmt A step (s.Repeat turns body) ≡ step (Stmt-F.Repeat turns (map (fold-Stmt A step) body))
  fold-Repeat turns body = ap (fold-Stmt A step) (sym (s.rolls-Repeat turns body))
      ∙ fold-roll-Stmt A step (Stmt-F.Repeat turns body)

  pub fold-Out : (expr : Expr) → fold-Stmt A step (s.Out expr) ≡ step (Stmt-F.Out expr)
  fold-Out expr = ap (fold-Stmt A step) (sym (s.rolls-Out expr)) ∙ fold-roll-Stmt A step (Stmt-F.Out expr)

  pub fold-Service : (call : Call) → fold-Stmt A step (s.Service call) ≡ step (Stmt-F.Service call)
  fold-Service call = ap (fold-Stmt A step) (sym (s.rolls-Service call)) ∙ fold-roll-Stmt A step (Stmt-F.Service call)

-- the equations above
pub ruleset folds = (
  fold-Const,
  fold-Var,
  fold-Bin,
  fold-Work,
  fold-Take,
  fold-Set,
  fold-If,
  fold-Repeat,
  fold-Out,
  fold-Service,
)
