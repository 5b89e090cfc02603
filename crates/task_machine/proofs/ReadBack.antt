-- Reading the code of a body gives the body.
use Rattle.std.proofs.Common.{◌≡◌, ℕ, suc, ◌+◌, ◌-◌, List, [], ◌∷◌, ◌++◌, length, take, map, refl, sym, ap, subst, ◌∙◌, arith, append_assoc, length-append, append-nil}
use Rattle.task_lang.specs.declared.syntax.Expr.{Expr}
use Rattle.task_lang.specs.declared.syntax.Expr.TheOpen.{Expr-F}
use Rattle.task_lang.specs.declared.syntax.Expr.TheFolds.{ind-Expr, map-Expr, fold-roll-Expr}
use Rattle.task_lang.specs.declared.syntax.Expr.TheViews.{roll-Expr}
use Rattle.task_lang.specs.declared.syntax.Expr.TheVariants as e
use Rattle.task_lang.specs.declared.syntax.Stmt.{Stmt}
use Rattle.task_lang.specs.declared.syntax.Stmt.TheOpen.{Stmt-F}
use Rattle.task_lang.specs.declared.syntax.Stmt.TheFolds.{ind-Stmt, map-Stmt, fold-roll-Stmt}
use Rattle.task_lang.specs.declared.syntax.Stmt.TheViews.{roll-Stmt}
use Rattle.task_lang.specs.declared.syntax.Stmt.TheVariants as s
use Rattle.task_machine.specs.Layout.{expr_code, expr_step, stmt_code, stmt_step, body_code}
use Rattle.task_machine.specs.Reading.{First, Seen, at, put, put_expr, put_with, applied, open_first, close_if, open_turn, close_turn, read_one, reading, body_in}
use Rattle.task_machine.specs.declared.instr.Instr.{Instr}
use Rattle.task_machine.specs.declared.instr.Instr.TheVariants as i
use Rattle.task_machine.specs.declared.instr.Term.TheVariants as t

-- what is seen at the first of some instructions
abbrev pub seen_of : List Instr → Seen
seen_of xs = at 0 (reading xs)

abbrev pub puts : List Stmt → Seen → Seen
puts body seen = record seen { block = body ++ seen.block }

pub seen_cons : (x : Instr) (xs : List Instr) → seen_of (x ∷ xs) ≡ read_one x (reading xs)
unfolding reading
seen_cons x xs = refl

-- what is seen after some instructions
pub later_at : (xs ys : List Instr) → at (length xs) (reading (xs ++ ys)) ≡ seen_of ys
unfolding reading
later_at [] ys = refl
later_at (x ∷ xs) ys = later_at xs ys

-- ---- expressions

abbrev ReadsExpr : Expr → Type 0
ReadsExpr expr = (rest : List Instr) → seen_of (expr_code expr ++ rest) ≡ put_expr expr (seen_of rest)

abbrev down_expr : Expr-F ((expr : Expr) × ReadsExpr expr) → Expr-F Expr
down_expr = map-Expr ((expr : Expr) × ReadsExpr expr) Expr (λ p. p.0)

expr_level : (y : Expr-F ((expr : Expr) × ReadsExpr expr)) (rest : List Instr)
    → seen_of (expr_step (map-Expr Expr (List Instr) expr_code (down_expr y)) ++ rest)
    ≡ put_expr (roll-Expr (down_expr y)) (seen_of rest)
expr_level (Expr-F.Const number) rest = seen_cons (i.Term (t.Const number)) rest
    ∙ ap (λ x. put_expr x (seen_of rest)) (sym (e.rolls-Const number))
expr_level (Expr-F.Var var) rest = seen_cons (i.Term (t.Var var)) rest
    ∙ ap (λ x. put_expr x (seen_of rest)) (sym (e.rolls-Var var))
expr_level (Expr-F.Bin op left right) rest =
    let operands : seen_of ((expr_code left.0 ++ expr_code right.0) ++ rest)
    ≡ put_expr left.0 (put_expr right.0 (seen_of rest)) =
    ap seen_of (append_assoc (expr_code left.0) (expr_code right.0) rest) ∙ left.1 (expr_code right.0 ++ rest)
    ∙ ap (put_expr left.0) (right.1 rest) in
    seen_cons (i.Term (t.Apply op)) ((expr_code left.0 ++ expr_code right.0) ++ rest)
    ∙ ap (λ seen. applied op seen.exprs seen) operands
    ∙ ap (λ x. put_expr x (seen_of rest)) (sym (e.rolls-Bin op left.0 right.0))

pub expr_reads : (expr : Expr) → ReadsExpr expr
expr_reads = ind-Expr ReadsExpr (λ x y is rest.
    subst (λ code. seen_of (code ++ rest) ≡ put_expr (roll-Expr x) (seen_of rest))
    (sym (fold-roll-Expr (List Instr) expr_step x))
    (subst (λ z. seen_of (expr_step (map-Expr Expr (List Instr) expr_code z) ++ rest)
    ≡ put_expr (roll-Expr z) (seen_of rest)) is (expr_level y rest)))

-- ---- statements

abbrev ReadsStmt : Stmt → Type 0
ReadsStmt stmt = (depth : ℕ) (rest : List Instr) → seen_of (stmt_code stmt depth ++ rest) ≡ put stmt (seen_of rest)

abbrev stmts : List ((stmt : Stmt) × ReadsStmt stmt) → List Stmt
stmts ys = map (λ p. p.0) ys

body_level : (ys : List ((stmt : Stmt) × ReadsStmt stmt)) (depth : ℕ) (rest : List Instr)
    → seen_of (body_code depth (stmts ys) ++ rest) ≡ puts (stmts ys) (seen_of rest)
body_level [] depth rest = refl
body_level (y ∷ ys) depth rest =
    ap seen_of (append_assoc (stmt_code y.0 depth) (body_code depth (stmts ys)) rest)
    ∙ y.1 depth (body_code depth (stmts ys) ++ rest)
    ∙ ap (put y.0) (body_level ys depth rest)

-- the first of two joined lists, by their lengths
front_of : {A : Type 0} (xs ys : List A) → take (length (xs ++ ys) - length ys) (xs ++ ys) ≡ xs
front_of {A} [] ys = let none : length ys - length ys ≡ 0 = omega arith in ap (λ n. take n ys) none
front_of {A} (x ∷ xs) ys =
    let more : length (x ∷ (xs ++ ys)) - length ys ≡ suc (length (xs ++ ys) - length ys) =
    omega (arith, length-append xs ys) in
    ap (λ n. take n (x ∷ (xs ++ ys))) more ∙ ap (λ zs. x ∷ zs) (front_of xs ys)

module _ (seen : Seen) where
  -- after the first body of an `if`
  pub skipped : (second : List Stmt)
      → open_first (puts second seen) seen
      ≡ record { exprs = seen.exprs; block = []; around = First second seen.block ∷ seen.around }
  skipped second = ap (λ xs. record { exprs = seen.exprs; block = []; around = First xs seen.block ∷ seen.around })
      (front_of second seen.block)

  -- the whole `if`
  chosen : (expr : Expr) (first second : List Stmt) (here : Seen)
      → here ≡ put_expr expr (puts first
      (record { exprs = seen.exprs; block = []; around = First second seen.block ∷ seen.around }))
      → close_if here.exprs here.around here ≡ put (s.If expr first second) seen
  chosen expr first second here is =
      ap (λ k. close_if k.exprs k.around k) is ∙ ap (λ xs. put (s.If expr xs second) seen) (append-nil first)

  -- the whole `repeat`
  repeated : (counter from_end turns : ℕ) (inner : List Stmt) (here : Seen)
      → here ≡ puts inner (open_turn counter from_end seen)
      → close_turn turns here.around here ≡ put (s.Repeat turns inner) seen
  repeated counter from_end turns inner here is =
      ap (λ k. close_turn turns k.around k) is ∙ ap (λ xs. put (s.Repeat turns xs) seen) (append-nil inner)

abbrev down : Stmt-F ((stmt : Stmt) × ReadsStmt stmt) → Stmt-F Stmt
down = map-Stmt ((stmt : Stmt) × ReadsStmt stmt) Stmt (λ p. p.0)

stmt_level : (y : Stmt-F ((stmt : Stmt) × ReadsStmt stmt)) (depth : ℕ) (rest : List Instr)
    → seen_of (stmt_step (map-Stmt Stmt (ℕ → List Instr) stmt_code (down y)) depth ++ rest)
    ≡ put (roll-Stmt (down y)) (seen_of rest)
stmt_level (Stmt-F.Work ticks) depth rest = seen_cons (i.Work ticks) rest
    ∙ ap (λ x. put x (seen_of rest)) (sym (s.rolls-Work ticks))
stmt_level (Stmt-F.Take demand) depth rest = seen_cons (i.Take demand) rest
    ∙ ap (λ x. put x (seen_of rest)) (sym (s.rolls-Take demand))
stmt_level (Stmt-F.Set var expr) depth rest =
    seen_cons (i.Set var) (expr_code expr ++ rest)
    ∙ ap (λ k. put_with (λ x. s.Set var x) k.exprs k) (expr_reads expr rest)
    ∙ ap (λ x. put x (seen_of rest)) (sym (s.rolls-Set var expr))
stmt_level (Stmt-F.If expr first second) depth rest =
    let test = expr_code expr in
    let one = body_code depth (stmts first) in
    let two = body_code depth (stmts second) in
    let after = two ++ rest in
    let seen = seen_of rest in
    let tail = (test ++ (one ++ i.Skip (length two) ∷ two)) ++ rest in
    let apart : tail ≡ test ++ (one ++ i.Skip (length two) ∷ after) =
    append_assoc test (one ++ i.Skip (length two) ∷ two) rest
    ∙ ap (λ xs. test ++ xs) (append_assoc one (i.Skip (length two) ∷ two) rest) in
    let skip : seen_of (i.Skip (length two) ∷ after)
    ≡ record { exprs = seen.exprs; block = []; around = First (stmts second) seen.block ∷ seen.around } =
    seen_cons (i.Skip (length two)) after ∙ ap (λ k. open_first (seen_of after) k) (later_at two rest)
    ∙ ap (λ k. open_first k seen) (body_level second depth rest) ∙ skipped seen (stmts second) in
    let here : seen_of tail ≡ put_expr expr
    (puts (stmts first) (record
    { exprs = seen.exprs; block = []; around = First (stmts second) seen.block ∷ seen.around })) =
    ap seen_of apart ∙ expr_reads expr (one ++ i.Skip (length two) ∷ after)
    ∙ ap (put_expr expr) (body_level first depth (i.Skip (length two) ∷ after) ∙ ap (puts (stmts first)) skip) in
    seen_cons (i.If (length one + 1)) tail ∙ chosen seen expr (stmts first) (stmts second) (seen_of tail) here
    ∙ ap (λ x. put x seen) (sym (s.rolls-If expr (stmts first) (stmts second)))
stmt_level (Stmt-F.Repeat turns inner) depth rest =
    let code = body_code (suc depth) (stmts inner) in
    let again = i.Again depth (length code) in
    let seen = seen_of rest in
    let tail = (code ++ again ∷ []) ++ rest in
    let from_end = length (reading rest) + length code in
    let here : seen_of tail ≡ puts (stmts inner) (open_turn depth from_end seen) =
    ap seen_of (append_assoc code (again ∷ []) rest) ∙ body_level inner (suc depth) (again ∷ rest)
    ∙ ap (puts (stmts inner)) (seen_cons again rest) in
    seen_cons (i.Repeat depth turns) tail ∙ repeated seen depth from_end turns (stmts inner) (seen_of tail) here
    ∙ ap (λ x. put x seen) (sym (s.rolls-Repeat turns (stmts inner)))
stmt_level (Stmt-F.Out expr) depth rest =
    seen_cons i.Out (expr_code expr ++ rest) ∙ ap (λ k. put_with (λ x. s.Out x) k.exprs k) (expr_reads expr rest)
    ∙ ap (λ x. put x (seen_of rest)) (sym (s.rolls-Out expr))
stmt_level (Stmt-F.Service call) depth rest = seen_cons (i.Service call) rest
    ∙ ap (λ x. put x (seen_of rest)) (sym (s.rolls-Service call))

pub stmt_reads : (stmt : Stmt) → ReadsStmt stmt
stmt_reads = ind-Stmt ReadsStmt (λ x y is depth rest.
    subst (λ f. seen_of (f depth ++ rest) ≡ put (roll-Stmt x) (seen_of rest))
    (sym (fold-roll-Stmt (ℕ → List Instr) stmt_step x))
    (subst (λ z. seen_of (stmt_step (map-Stmt Stmt (ℕ → List Instr) stmt_code z) depth ++ rest)
    ≡ put (roll-Stmt z) (seen_of rest)) is
    (stmt_level y depth rest)))

pub body_reads : (body : List Stmt) (depth : ℕ) (rest : List Instr)
    → seen_of (body_code depth body ++ rest) ≡ puts body (seen_of rest)
body_reads [] depth rest = refl
body_reads (stmt ∷ body) depth rest =
    ap seen_of (append_assoc (stmt_code stmt depth) (body_code depth body) rest)
    ∙ stmt_reads stmt depth (body_code depth body ++ rest)
    ∙ ap (put stmt) (body_reads body depth rest)

seen_end : (seen_of []).block ≡ []
unfolding reading
seen_end = refl

-- The body is read back.
pub body_in-body_code : (body : List Stmt) → body_in (body_code 0 body) ≡ body
body_in-body_code body =
    ap (λ code. (seen_of code).block) (sym (append-nil (body_code 0 body)))
    ∙ ap (λ seen. seen.block) (body_reads body 0 [])
    ∙ ap (λ xs. body ++ xs) seen_end ∙ append-nil body
