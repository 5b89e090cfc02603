-- The numbers in the code of a body are in range.
use Rattle.std.proofs.Common.{◌≡◌, ℕ, zero, suc, ◌+◌, ◌≤◌, ◌<◌, ◌^◌, Bool, true, List, [], ◌∷◌, ◌++◌, length, map, Some, sym, ap, subst, ◌∙◌, arith, length-append}
use Rattle.std.specs.Prelude.{◌&&◌, nat_le, slice_get}
use Rattle.task_lang.specs.declared.syntax.Expr.{Expr}
use Rattle.task_lang.specs.declared.syntax.Expr.TheOpen.{Expr-F}
use Rattle.task_lang.specs.declared.syntax.Expr.TheFolds.{ind-Expr, map-Expr, fold-roll-Expr}
use Rattle.task_lang.specs.declared.syntax.Stmt.{Stmt}
use Rattle.task_lang.specs.declared.syntax.Stmt.TheOpen.{Stmt-F}
use Rattle.task_lang.specs.declared.syntax.Stmt.TheFolds.{ind-Stmt, map-Stmt, fold-roll-Stmt}
use Rattle.task_lang.specs.Limits.{nesting_step, nesting_of, nesting_in, inner_pass, each_of, each_in, is_number_in_range}
use Rattle.task_lang.proofs.Numbers.{and_left, and_right, from_nat_le}
use Rattle.task_machine.specs.Layout.{expr_code, expr_step, stmt_code, stmt_step, body_code, IsInRange, AreInRange}
use Rattle.task_machine.specs.declared.instr.Instr.{Instr}
use Rattle.task_machine.specs.declared.instr.Instr.TheVariants as i

-- the numbers of an instruction, with some instructions before it and after it
abbrev IsFine : (before : ℕ) → Instr → (after : ℕ) → Type 0
IsFine before (i.Work ticks) after = 1 ≤ ticks
IsFine before (i.If passed) after = passed ≤ after
IsFine before (i.Skip passed) after = passed ≤ after
IsFine before (i.Repeat counter turns) after = (1 ≤ turns) × (counter < 4)
IsFine before (i.Again counter back) after = (back ≤ before) × (counter < 4)
IsFine before _ after = Unit {0}

abbrev AreFine : (before : ℕ) → List Instr → (after : ℕ) → Type 0
AreFine before [] after = Unit {0}
AreFine before (x ∷ xs) after = IsFine before x (length xs + after) × AreFine (before + 1) xs after

fine_append : (before : ℕ) (xs ys : List Instr) (after : ℕ) → AreFine before xs (length ys + after)
    → AreFine (before + length xs) ys after
    → AreFine before (xs ++ ys) after
fine_append before [] ys after front back = let same : before + 0 ≡ before = omega arith in
    subst (λ n. AreFine n ys after) same back
fine_append before (x ∷ xs) ys after front back =
    let same : length xs + (length ys + after) ≡ length (xs ++ ys) + after = omega (arith, length-append xs ys) in
    let moved : before + length (x ∷ xs) ≡ before + 1 + length xs = omega arith in (
      subst (λ n. IsFine before x n) same front.0,
      fine_append (before + 1) xs ys after front.1 (subst (λ n. AreFine n ys after) moved back),
    )

-- ---- expressions

abbrev FineExpr : Expr → Type 0
FineExpr expr = (before after : ℕ) → AreFine before (expr_code expr) after

expr_level : (y : Expr-F ((expr : Expr) × FineExpr expr)) (before after : ℕ)
    → AreFine before (expr_step
    (map-Expr Expr (List Instr) expr_code (map-Expr ((expr : Expr) × FineExpr expr) Expr (λ p. p.0) y))) after
expr_level (Expr-F.Const number) before after = (tt, tt)
expr_level (Expr-F.Var var) before after = (tt, tt)
expr_level (Expr-F.Bin op left right) before after =
    (tt, fine_append (before + 1) (expr_code left.0) (expr_code right.0) after (left.1 _ _) (right.1 _ _))

expr_fine : (expr : Expr) → FineExpr expr
expr_fine = ind-Expr FineExpr (λ x y is before after.
    subst (λ code. AreFine before code after) (sym (fold-roll-Expr (List Instr) expr_step x))
    (subst (λ z. AreFine before (expr_step (map-Expr Expr (List Instr) expr_code z)) after) is
    (expr_level y before after)))

-- ---- statements

abbrev numbers_step : Stmt-F Bool → Bool
numbers_step stmt = is_number_in_range stmt && inner_pass stmt

abbrev FineStmt : Stmt → Type 0
FineStmt stmt = (depth before after : ℕ) → depth + nesting_of stmt ≤ 4 → each_of is_number_in_range stmt ≡ true
    → AreFine before (stmt_code stmt depth) after

abbrev stmts : List ((stmt : Stmt) × FineStmt stmt) → List Stmt
stmts ys = map (λ p. p.0) ys

body_fine : (ys : List ((stmt : Stmt) × FineStmt stmt)) (depth before after : ℕ) → depth + nesting_in (stmts ys) ≤ 4
    → each_in is_number_in_range (stmts ys) ≡ true → AreFine before (body_code depth (stmts ys)) after
body_fine [] depth before after deep fits = tt
body_fine (y ∷ ys) depth before after deep fits =
    fine_append before (stmt_code y.0 depth) (body_code depth (stmts ys)) after
    (y.1 depth before _ (omega arith) (and_left (each_of is_number_in_range y.0) _ fits))
    (body_fine ys depth _ after (omega arith) (and_right (each_of is_number_in_range y.0) _ fits))

abbrev down : Stmt-F ((stmt : Stmt) × FineStmt stmt) → Stmt-F Stmt
down = map-Stmt ((stmt : Stmt) × FineStmt stmt) Stmt (λ p. p.0)

if_fine : (before after : ℕ) (test first second : List Instr) → ((b a : ℕ) → AreFine b test a)
    → ((b a : ℕ) → AreFine b first a) → ((b a : ℕ) → AreFine b second a)
    → AreFine before (i.If (length first + 1) ∷ (test ++ (first ++ i.Skip (length second) ∷ second))) after
if_fine before after test first second t f s =
    let n : length (test ++ (first ++ i.Skip (length second) ∷ second))
    ≡ length test + (length first + length (i.Skip (length second) ∷ second)) =
    length-append test (first ++ i.Skip (length second) ∷ second)
    ∙ ap (λ k. length test + k) (length-append first (i.Skip (length second) ∷ second)) in
    let jump : length first + 1 ≤ length (test ++ (first ++ i.Skip (length second) ∷ second)) + after =
    omega (arith, n) in
    let skip : length second ≤ length second + after = omega arith in (
      jump,
      fine_append (before + 1) test (first ++ i.Skip (length second) ∷ second) after (t _ _)
          (fine_append (before + 1 + length test) first (i.Skip (length second) ∷ second) after (f _ _) (skip, s _ _)),
    )

repeat_fine : (before after depth turns : ℕ) (inner : List Instr) → 1 ≤ turns → depth < 4
    → ((b a : ℕ) → AreFine b inner a)
    → AreFine before (i.Repeat depth turns ∷ (inner ++ i.Again depth (length inner) ∷ [])) after
repeat_fine before after depth turns inner some few fine =
    let back : length inner ≤ before + 1 + length inner = omega arith in
    ((some, few), fine_append (before + 1) inner (i.Again depth (length inner) ∷ []) after (fine _ _) ((back, few), tt))

stmt_level : (y : Stmt-F ((stmt : Stmt) × FineStmt stmt)) (depth before after : ℕ)
    → depth + nesting_step (map-Stmt Stmt ℕ nesting_of (down y)) ≤ 4
    → numbers_step (map-Stmt Stmt Bool (each_of is_number_in_range) (down y)) ≡ true
    → AreFine before (stmt_step (map-Stmt Stmt (ℕ → List Instr) stmt_code (down y)) depth) after
stmt_level (Stmt-F.Work ticks) depth before after deep fits =
    let range = nat_le 1 ticks && nat_le ticks 10000000 in
    (from_nat_le 1 ticks (and_left (nat_le 1 ticks) _ (and_left range _ fits)), tt)
stmt_level (Stmt-F.Set var expr) depth before after deep fits = (tt, expr_fine expr _ _)
stmt_level (Stmt-F.If expr first second) depth before after deep fits =
    let one = λ (b a : ℕ). body_fine first depth b a (omega arith)
    (and_left (each_in is_number_in_range (stmts first)) _ fits) in
    let two = λ (b a : ℕ). body_fine second depth b a (omega arith)
    (and_right (each_in is_number_in_range (stmts first)) _ fits) in
    if_fine before after (expr_code expr) (body_code depth (stmts first)) (body_code depth (stmts second))
    (expr_fine expr) one two
stmt_level (Stmt-F.Repeat turns inner) depth before after deep fits =
    let range = nat_le 1 turns && nat_le turns 65535 in
    let some : 1 ≤ turns = from_nat_le 1 turns (and_left (nat_le 1 turns) _ (and_left range _ fits)) in
    let few : depth < 4 = omega arith in
    repeat_fine before after depth turns (body_code (suc depth) (stmts inner)) some few
    (λ b a. body_fine inner (suc depth) b a (omega arith) (and_right range _ fits))
stmt_level (Stmt-F.Out expr) depth before after deep fits = (tt, expr_fine expr _ _)
stmt_level y depth before after deep fits = (tt, tt)

stmt_fine : (stmt : Stmt) → FineStmt stmt
stmt_fine = ind-Stmt FineStmt (λ x y is depth before after deep fits.
    let deep' : depth + nesting_step (map-Stmt Stmt ℕ nesting_of (down y)) ≤ 4 =
    subst (λ k. depth + k ≤ 4) (fold-roll-Stmt ℕ nesting_step x
    ∙ sym (ap (λ z. nesting_step (map-Stmt Stmt ℕ nesting_of z)) is)) deep in
    let fits' : numbers_step (map-Stmt Stmt Bool (each_of is_number_in_range) (down y)) ≡ true =
    ap (λ z. numbers_step (map-Stmt Stmt Bool (each_of is_number_in_range) z)) is
    ∙ sym (fold-roll-Stmt Bool numbers_step x) ∙ fits in
    subst (λ f. AreFine before (f depth) after) (sym (fold-roll-Stmt (ℕ → List Instr) stmt_step x))
    (subst (λ z. AreFine before (stmt_step (map-Stmt Stmt (ℕ → List Instr) stmt_code z) depth) after) is
    (stmt_level y depth before after deep' fits')))

code_fine : (body : List Stmt) (depth before after : ℕ) → depth + nesting_in body ≤ 4
    → each_in is_number_in_range body ≡ true
    → AreFine before (body_code depth body) after
code_fine [] depth before after deep fits = tt
code_fine (stmt ∷ body) depth before after deep fits =
    fine_append before (stmt_code stmt depth) (body_code depth body) after
    (stmt_fine stmt depth before _ (omega arith) (and_left (each_of is_number_in_range stmt) _ fits))
    (code_fine body depth _ after (omega arith) (and_right (each_of is_number_in_range stmt) _ fits))

-- ---- at each place

record FineAt (place : ℕ) (instr : Instr) (most : ℕ) : Type 0 where
  pub after : ℕ
  pub few : after ≤ most
  pub fine : IsFine place instr after

fine_at : (xs : List Instr) (before after p : ℕ) (instr : Instr) → AreFine before xs after
    → slice_get xs p ≡ Some instr → FineAt (before + p) instr (length xs + after)
fine_at [] before after p instr fine is = cc
fine_at (x ∷ xs) before after zero instr fine is =
    let same : x ≡ instr = cc in
    let here : before ≡ before + zero = omega arith in
    record {
      after = length xs + after;
      few = omega arith;
      fine =
          subst (λ n. IsFine n instr (length xs + after)) here
          (subst (λ k. IsFine before k (length xs + after)) same fine.0);
    }
fine_at (x ∷ xs) before after (suc p) instr fine is =
    let there = fine_at xs (before + 1) after p instr fine.1 is in
    let here : before + 1 + p ≡ before + suc p = omega arith in
    record {
      after = there.after;
      few = omega (arith, there.few);
      fine =
          subst (λ n. IsFine n instr there.after) here there.fine;
    }

to_range : (len place after : ℕ) (instr : Instr) → after ≤ len → IsFine place instr after → IsInRange len place instr
to_range len place after (i.Work ticks) few fine = fine
to_range len place after (i.If passed) few fine = omega arith
to_range len place after (i.Skip passed) few fine = omega arith
to_range len place after (i.Repeat counter turns) few fine = fine
to_range len place after (i.Again counter back) few fine = fine
to_range len place after instr few fine = tt

pub code_in_range : (body : List Stmt) → nesting_in body ≤ 4 → each_in is_number_in_range body ≡ true
    → length (body_code 0 body) < 2 ^ 48
    → AreInRange (body_code 0 body)
code_in_range body deep fits short = record {
  short = short;
  each = λ p instr is.
      let at = fine_at (body_code 0 body) 0 0 p instr (code_fine body 0 0 0 (omega arith) fits) is in
      let here : 0 + p ≡ p = omega arith in
      to_range (length (body_code 0 body)) p at.after instr (omega (arith, at.few))
      (subst (λ n. IsFine n instr at.after) here at.fine);
}
