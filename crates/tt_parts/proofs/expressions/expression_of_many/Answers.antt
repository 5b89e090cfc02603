use Rattle.std.proofs.Common.{◌≡◌, pos, List, [], ◌∷◌, ◌++◌, Option, Some, None, MatchOption, ap, sym, ◌∙◌}
use Rattle.std.specs.Prelude.{unwrap_or}
use Rattle.std.proofs.lemmas.List.{append-nil, append_assoc, nil_from_length}
use Rattle.task_lang.specs.declared.syntax.Expr.{Expr}
use Rattle.task_lang.specs.declared.syntax.Expr.TheVariants as expr
use Rattle.tt_parts.specs.Bodies.{first_or_zero}
use Rattle.tt_parts.proofs.expressions.expression_of_many.Goals as goal

of_first : (first : Option Expr) (all rest : List Expr)
    → MatchOption first ((all ≡ []) × (rest ≡ [])) (λ front. all ≡ front ∷ rest)
    → unwrap_or first (expr.Const (pos 0)) ≡ first_or_zero all
of_first None all rest is = ap first_or_zero (sym is.0)
of_first (Some front) all rest is = ap first_or_zero (sym is)

pub loop-term-init : goal.loop-term-init
loop-term-init c = ([], sym (append-nil c.args.terms.now), c.new-rest.ensures)

pub loop-term-preserved : goal.loop-term-preserved
loop-term-preserved c = let before = c.loop-term.invariant in (
  c.in-Some.term.now ∷ before.0,
  before.1 ∙ ap (λ left. left ++ before.0) c.in-Some.ensures.cases.0 ∙ append_assoc _ _ before.0,
  rw before.2 at c.in_ok-put_term.ensures,
)

pub returns : goal.returns
returns c =
    let before = c.loop-term.invariant in
    let whole = before.1 ∙ ap (λ left. left ++ before.0) (nil_from_length _ c.in_default.ensures.cases) in
    rw whole (c.unwrap_or.ensures ∙ of_first _ _ _ c.pop_front.ensures ∙ ap first_or_zero before.2)
