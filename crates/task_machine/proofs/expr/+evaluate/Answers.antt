use Rattle.std.proofs.Common.{rules, ◌≡◌, ℤ, ◌+◌, Some, None, slice_get, w32, to_z, of_z, ap, ◌∙◌, sym, subst}
use Rattle.task_lang.specs.declared.syntax.Op.{Op}
use Rattle.task_lang.specs.Value.{value_of, result_of}
use Rattle.task_machine.specs.Layout.{Stands, expr_code, term_in}
use Rattle.task_machine.specs.declared.instr.Term.TheVariants as t
use Rattle.task_machine.proofs.Exprs.{AtOperator, begins}
use Rattle.task_machine.proofs.expr.+evaluate.Goals as goal

applied : (op : Op) (z x y a b v : ℤ) → z ≡ result_of op x y → x ≡ a → y ≡ b → v ≡ result_of op a b → z ≡ v
applied op z x y a b v e f g h = e ∙ ap (λ k. result_of op k y) f ∙ ap (result_of op a) g ∙ sym h

pub returns-in-None-clause-value : goal.returns-in-None-clause-value
returns-in-None-clause-value m c = λ e q h.
    absurd (begins c.args.code.now c.args.vars.now e c.args.place q h None c.in-None.ensures.term)

pub returns-in-Some-Const-clause-value : goal.returns-in-Some-Const-clause-value
returns-in-Some-Const-clause-value m c = λ e q h.
    let is : Some (t.Const c.in-Some-Const.number) ≡ term_in (slice_get c.args.code.now c.args.place) = cc in
    let r = begins c.args.code.now c.args.vars.now e c.args.place q h _ is in
    (search (rules, sym r.0), r.1)

pub returns-in-Some-Var-clause-value : goal.returns-in-Some-Var-clause-value
returns-in-Some-Var-clause-value m c = λ e q h.
    let is : Some (t.Var c.in-Some-Var.var) ≡ term_in (slice_get c.args.code.now c.args.place) = cc in
    let r = begins c.args.code.now c.args.vars.now e c.args.place q h _ is in
    (search (rules, sym r.0), r.1)

pub returns-in-Some-Apply-clause-value : goal.returns-in-Some-Apply-clause-value
returns-in-Some-Apply-clause-value m c = λ e q h.
    let is : Some (t.Apply c.in-Some-Apply.op) ≡ term_in (slice_get c.args.code.now c.args.place) = cc in
    let r : AtOperator c.args.code.now c.args.vars.now (c.args.place + 1) c.in-Some-Apply.op
    (value_of c.args.vars.now e) q =
    begins c.args.code.now c.args.vars.now e c.args.place q h _ is in
    let first = c.evaluate-left.ensures.value r.a r.middle r.first in
    let second = c.evaluate-right.ensures.value r.b q
    (subst (λ k. Stands c.args.code.now k (expr_code r.b) q) (sym first.1) r.second) in
    let x : to_z w32 (of_z w32 c.evaluate-left.result.0) ≡ value_of c.args.vars.now r.a = search (rules, first.0) in
    let y : to_z w32 (of_z w32 c.evaluate-right.result.0) ≡ value_of c.args.vars.now r.b = search (rules, second.0) in
    let z : c.apply.result ≡ value_of c.args.vars.now e =
    applied c.in-Some-Apply.op _ _ _ _ _ _ c.apply.ensures x y r.is in
    (search (rules, z), second.1)
