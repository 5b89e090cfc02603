-- The body of a hook, of which a part was played.
use Rattle.std.proofs.Common.{ℕ, zero, suc, ◌≡◌, ◌<◌, ◌+◌, Bool, true, List, [], ◌∷◌, ◌++◌, drop, length, get_or, refl, ap, ◌∙◌, sym, subst, arith}
use Rattle.std.specs.Prelude.{ℤ, ◌&&◌, slice_set}
use Rattle.std.proofs.lemmas.Bool.{and_parts}
use Rattle.std.proofs.lemmas.List.{at_drop_more}
use Rattle.tt_base.specs.declared.event.Owner.{Owner}
use Rattle.task_lang.specs.declared.syntax.Stmt.{Stmt, out-Stmt}
use Rattle.task_lang.specs.declared.syntax.Stmt.TheOpen.{Stmt-F}
use Rattle.task_lang.specs.declared.syntax.Stmt.TheVariants as s
use Rattle.task_lang.specs.declared.syntax.Stmt.TheViews.{out-roll-Stmt}
use Rattle.task_lang.specs.declared.syntax.Expr.{Expr}
use Rattle.task_lang.specs.declared.syntax.Stmt.TheFolds.{map-Stmt, fold_out-Stmt}
use Rattle.task_lang.specs.Limits.{AreExpressionsShort, each_of, inner_pass, is_expression_short}
use Rattle.task_lang.specs.Value.{value_of}
use Rattle.task_machine.specs.Stored.{Store}
use Rattle.tt_base.specs.declared.event.Event.{Event}
use Rattle.tt_base.specs.declared.event.Event.TheVariants.{Out}
use Rattle.tt_base.specs.declared.number.VarNo.{VarNo}
use Rattle.tt_world.specs.Hooks.{vars_by, outs_by, vars_after, outs_of}
use Rattle.tt_world.specs.Moved.{IsTelling}
use Rattle.tt_world.specs.World.{World}
use Rattle.stack_dispatch.proofs.Telling.{SoFar, so_far_more}

pub vars_more : (vars : List ℤ) (body : List Stmt) (i : ℕ) (stmt : Stmt) → i < length body → stmt ≡ get_or body i stmt
    → vars_after vars (drop i body) ≡ vars_after (vars_by vars (out-Stmt stmt)) (drop (i + 1) body)
unfolding vars_after
vars_more vars body i stmt h e =
    at_drop_more (vars_after vars) body i stmt h ∙ sym (ap (λ s. vars_after vars (s ∷ drop (i + 1) body)) e)

pub outs_more : (at : ℕ) (hook : Owner) (vars : List ℤ) (body : List Stmt) (i : ℕ) (stmt : Stmt) → i < length body
    → stmt ≡ get_or body i stmt
    → outs_of at hook vars (drop i body)
    ≡ outs_by at hook vars (out-Stmt stmt) ++ outs_of at hook (vars_by vars (out-Stmt stmt)) (drop (i + 1) body)
unfolding outs_of
outs_more at hook vars body i stmt h e =
    at_drop_more (outs_of at hook vars) body i stmt h ∙ sym (ap (λ s. outs_of at hook vars (s ∷ drop (i + 1) body)) e)

-- ---- short expressions

-- the test of an expression does not look inside a statement
not_inside : (front : Stmt-F Stmt) (inside : Stmt → Bool)
    → is_expression_short (map-Stmt Stmt Bool inside front) ≡ is_expression_short front
not_inside (Stmt-F.Work ticks) inside = refl
not_inside front inside = refl

short_front : (stmt : Stmt) → each_of is_expression_short stmt ≡ true → is_expression_short (out-Stmt stmt) ≡ true
short_front stmt passed =
    let inside = map-Stmt Stmt Bool (each_of is_expression_short) (out-Stmt stmt) in
    let here = sym (fold_out-Stmt Bool (λ y. is_expression_short y && inner_pass y) stmt) ∙ passed in
    sym (not_inside (out-Stmt stmt) (each_of is_expression_short))
    ∙ (and_parts (is_expression_short inside) (inner_pass inside) here).0

-- each statement of a body of short expressions has a short one
pub short_at : (body : List Stmt) (i : ℕ) (stmt : Stmt) → AreExpressionsShort body → i < length body
    → stmt ≡ get_or body i stmt → is_expression_short (out-Stmt stmt) ≡ true
short_at [] i stmt short l e = absurd (omega arith)
short_at (first ∷ rest) zero stmt short l e =
    subst (λ s. is_expression_short (out-Stmt s) ≡ true) (sym e)
    (short_front first (and_parts (each_of is_expression_short first) _ short).0)
short_at (first ∷ rest) (suc i) stmt short l e =
    short_at rest i stmt (and_parts (each_of is_expression_short first) _ short).1 (omega arith) e

-- ---- a statement

-- a `set` gives a variable its value
pub set_by : (vars : List ℤ) (stmt : Stmt) (var : VarNo) (expr : Expr) → stmt ≡ s.Set var expr
    → vars_by vars (out-Stmt stmt) ≡ slice_set vars var.0 (value_of vars expr)
set_by vars stmt var expr e =
    ap (vars_by vars) (ap out-Stmt (e ∙ sym (s.rolls-Set var expr)) ∙ out-roll-Stmt (Stmt-F.Set var expr))

-- an `out` reports its value
pub out_by : (at : ℕ) (hook : Owner) (vars : List ℤ) (stmt : Stmt) (expr : Expr) → stmt ≡ s.Out expr
    → outs_by at hook vars (out-Stmt stmt) ≡ Out at hook (value_of vars expr) ∷ []
out_by at hook vars stmt expr e =
    ap (outs_by at hook vars) (ap out-Stmt (e ∙ sym (s.rolls-Out expr)) ∙ out-roll-Stmt (Stmt-F.Out expr))

-- ---- the variables

abbrev pub with_vars : Store → List ℤ → Store
with_vars e vars = record e { vars = vars }

-- the world with the variables and the cursors of an environment
abbrev pub with_env : World → Store → World
with_env w e = record w { vars = e.vars; cursors = e.cursors }

-- only the variables change
pub others_stay : (first before after : Store) (vars : List ℤ) → before ≡ with_vars first before.vars
    → after ≡ with_vars before vars → after ≡ with_vars first after.vars
others_stay first before after vars e f =
    f ∙ ap (λ (x : Store). with_vars x vars) e ∙ ap (with_vars first) (sym (ap (λ (x : Store). x.vars) f))

-- one more statement was played
module _ {L : Type 0} {Told : L → List Event → L → Type 0} (telling : IsTelling Told) (at : ℕ) (hook : Owner)
    (body : List Stmt) (i : ℕ) (stmt : Stmt) (l : i < length body) (is : stmt ≡ get_or body i stmt)
    (before after : Store)
    (env : after ≡ with_vars before (vars_by before.vars (out-Stmt stmt))) where
  vars_are : vars_by before.vars (out-Stmt stmt) ≡ after.vars
  vars_are = sym (ap (λ (x : Store). x.vars) env)

  pub vars_left : vars_after before.vars (drop i body) ≡ vars_after after.vars (drop (i + 1) body)
  vars_left =
      vars_more before.vars body i stmt l is ∙ ap (λ vars. vars_after vars (drop (i + 1) body)) vars_are

  pub outs_left : (first now next : L) (all : List Event)
      → SoFar Told first all now (outs_of at hook before.vars (drop i body))
      → Told now (outs_by at hook before.vars (out-Stmt stmt)) next
      → SoFar Told first all next (outs_of at hook after.vars (drop (i + 1) body))
  outs_left first now next all so_far told =
      so_far_more telling first now next all (outs_by at hook before.vars (out-Stmt stmt)) _
      (subst (λ es. SoFar Told first all now es)
      (outs_more at hook before.vars body i stmt l is
      ∙ ap (λ vars. outs_by at hook before.vars (out-Stmt stmt) ++ outs_of at hook vars (drop (i + 1) body)) vars_are)
      so_far)
      told
