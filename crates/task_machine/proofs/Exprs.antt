-- The term at the front of an expression.
use Rattle.std.proofs.Common.{◌≡◌, ℕ, ℤ, ◌+◌, List, [], ◌∷◌, ◌++◌, Option, Some, None, refl, sym, ap, subst, ◌∙◌}
use Rattle.std.specs.Prelude.{slice_get, slice_index_or, pos}
use Rattle.task_lang.specs.declared.syntax.Op.{Op}
use Rattle.task_lang.specs.declared.syntax.Expr.{Expr, out-Expr}
use Rattle.task_lang.specs.declared.syntax.Expr.TheOpen.{Expr-F}
use Rattle.task_lang.specs.declared.syntax.Expr.TheFolds.{fold_out-Expr, map-Expr}
use Rattle.task_lang.specs.Value.{value_of, value_step, result_of}
use Rattle.task_machine.specs.Layout.{expr_code, expr_step, Stands, term_in}
use Rattle.task_machine.specs.declared.instr.Instr.{Instr}
use Rattle.task_machine.specs.declared.instr.Instr.TheVariants as i
use Rattle.task_machine.specs.declared.instr.Term.{Term}
use Rattle.task_machine.specs.declared.instr.Term.TheVariants as t
use Rattle.task_machine.proofs.Fronts.{stands_parts}

abbrev layer : Expr-F Expr → List Instr
layer (Expr-F.Const n) = i.Term (t.Const n) ∷ []
layer (Expr-F.Var x) = i.Term (t.Var x) ∷ []
layer (Expr-F.Bin op a b) = i.Term (t.Apply op) ∷ (expr_code a ++ expr_code b)

layer_same : (x : Expr-F Expr) → expr_step (map-Expr Expr (List Instr) expr_code x) ≡ layer x
layer_same (Expr-F.Const n) = refl
layer_same (Expr-F.Var x) = refl
layer_same (Expr-F.Bin op a b) = refl

expr_layer : (e : Expr) → expr_code e ≡ layer (out-Expr e)
expr_layer e = fold_out-Expr (List Instr) expr_step e ∙ layer_same (out-Expr e)

abbrev layer_value : List ℤ → Expr-F Expr → ℤ
layer_value vars (Expr-F.Const n) = n
layer_value vars (Expr-F.Var x) = slice_index_or vars x.0 (pos 0)
layer_value vars (Expr-F.Bin op a b) = result_of op (value_of vars a) (value_of vars b)

value_same : (vars : List ℤ) (x : Expr-F Expr)
    → value_step vars (map-Expr Expr ℤ (value_of vars) x) ≡ layer_value vars x
value_same vars (Expr-F.Const n) = refl
value_same vars (Expr-F.Var x) = refl
value_same vars (Expr-F.Bin op a b) = refl

value_layer : (vars : List ℤ) (e : Expr) → value_of vars e ≡ layer_value vars (out-Expr e)
value_layer vars e = fold_out-Expr ℤ (value_step vars) e ∙ value_same vars (out-Expr e)

module _ (code : List Instr) (vars : List ℤ) where
  pub record AtOperator (p : ℕ) (op : Op) (v : ℤ) (q : ℕ) : Type 0 where
    pub a : Expr
    pub b : Expr
    pub middle : ℕ
    pub first : Stands code p (expr_code a) middle
    pub second : Stands code middle (expr_code b) q
    pub is : v ≡ result_of op (value_of vars a) (value_of vars b)

  -- what the first term of an expression says of its value and its end
  abbrev pub Begins : Option Term → ℕ → ℤ → ℕ → Type 0
  Begins (Some (t.Const n)) p v q = (v ≡ n) × (p + 1 ≡ q)
  Begins (Some (t.Var x)) p v q = (v ≡ slice_index_or vars x.0 (pos 0)) × (p + 1 ≡ q)
  Begins (Some (t.Apply op)) p v q = AtOperator (p + 1) op v q
  Begins None p v q = ⊥

  seen : (a : Instr) (j : Option Term) (p : ℕ) (v : ℤ) (q : ℕ) → slice_get code p ≡ Some a
      → j ≡ term_in (slice_get code p) → Begins (term_in (Some a)) p v q → Begins j p v q
  seen a j p v q h e f = let same : term_in (Some a) ≡ j = sym (ap term_in h) ∙ sym e in
      subst (λ k. Begins k p v q) same f

  begins_by : (x : Expr-F Expr) (p q : ℕ) → Stands code p (layer x) q → (j : Option Term)
      → j ≡ term_in (slice_get code p) → Begins j p (layer_value vars x) q
  begins_by (Expr-F.Const n) p q h j e = seen (i.Term (t.Const n)) j p _ q h.0 e (refl, h.1)
  begins_by (Expr-F.Var x) p q h j e = seen (i.Term (t.Var x)) j p _ q h.0 e (refl, h.1)
  begins_by (Expr-F.Bin op a b) p q h j e =
      let r = stands_parts code (p + 1) (expr_code a) (expr_code b) q h.1 in
      seen (i.Term (t.Apply op)) j p _ q h.0 e
      (record { a = a; b = b; middle = r.middle; first = r.first; second = r.second; is = refl })

  pub begins : (x : Expr) (p q : ℕ) → Stands code p (expr_code x) q → (j : Option Term)
      → j ≡ term_in (slice_get code p) → Begins j p (value_of vars x) q
  begins x p q h j e =
      let by = begins_by (out-Expr x) p q (subst (λ c. Stands code p c q) (expr_layer x) h) j e in
      subst (λ v. Begins j p v q) (sym (value_layer vars x)) by
