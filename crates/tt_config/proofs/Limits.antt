-- Bodies are in the limits: how deep they nest, and how many statements they have.
use Rattle.std.proofs.Common.{◌≡◌, ℕ, ◌+◌, ◌^◌, ◌≤◌, ◌<◌, max, Bool, true, false, not, List, [], ◌∷◌, map, length, Option, Some, None, refl, arith, ap, sym, ◌∙◌}
use Rattle.std.specs.Prelude.{◌&&◌, ◌||◌, nat_le, IfSome}
use Rattle.std.specs.List.{AllByRecursion as Each}
use Rattle.std.proofs.lemmas.Bool.Decides.{nat_tests}
use Rattle.std.proofs.lemmas.List.Sums.{sum_by-cons}
use Rattle.tt_base.specs.declared.names.NameEntry.{NameEntry}
use Rattle.task_lang.specs.declared.allowed.OwnerKind.{OwnerKind}
use Rattle.task_lang.specs.declared.allowed.OwnerKind.TheVariants as kind
use Rattle.task_lang.specs.declared.syntax.Stmt.{Stmt}
use Rattle.task_lang.specs.declared.syntax.Stmt.TheOpen.{Stmt-F}
use Rattle.task_lang.specs.Limits.{nesting_of, nesting_in, nesting_step, count_of, count_in, count_step, IsNestedInLimit, IsCountInLimit}
use Rattle.task_lang.specs.Opening.{fold-If, fold-Repeat, folds}
use Rattle.tt_rows.specs.declared.row.Row.{Row}
use Rattle.tt_rows.specs.declared.row.Row.TheVariants as r
use Rattle.tt_rows.specs.declared.row.NumberedRow.{NumberedRow}
use Rattle.tt_parts.specs.declared.located.At.{At}
use Rattle.tt_parts.specs.declared.structure.Open.{Open}
use Rattle.tt_parts.specs.declared.structure.Standing.{Standing}
use Rattle.tt_parts.specs.declared.structure.Standing.TheVariants.{Plain, OfIf, OfRepeat}
use Rattle.tt_parts.specs.declared.bodies.Owner.{Owner}
use Rattle.tt_parts.specs.declared.bodies.BodyPart.{BodyPart}
use Rattle.tt_parts.specs.Structure.{standing_of}
use Rattle.tt_parts.specs.Bodies.{Head, Branches, statement_of, head_of, owner_in, body_of, bodies_of, branches_from, first_branch, row_then, block_then, statement_then}
use Rattle.tt_parts.proofs.EachAt.{each_then}
use Rattle.tt_rules.specs.BodyRules.{owner_after}
use Rattle.tt_rules.specs.Laws.{kind_of}
use Rattle.tt_rules.specs.StructureRules.{stack_then, opens_block, is_block_high, lines_2, lines_3, lines_3_from}
use Rattle.tt_rules.proofs.EachBody.{EachKeeps, IsKept, kept_bodies, opens}
use Rattle.tt_rules.proofs.Each.{each_weaker}
use Rattle.tt_rules.proofs.Kept.{none-here}

-- ---- nesting

-- a head with nothing inside it
abbrev is_flat : Option Head → Bool
is_flat (Some (Stmt-F.If expr first second)) = false
is_flat (Some (Stmt-F.Repeat turns body)) = false
is_flat head = true

nesting-flat : (head : Head) → is_flat (Some head) ≡ true → nesting_of (statement_of head [] []) ≡ 0
nesting-flat (Stmt-F.If e x y) flat = cc
nesting-flat (Stmt-F.Repeat n x) flat = cc
nesting-flat head flat = simp folds

-- a statement is at most one block around what is inside it
nesting-block : (head : Head) (first second : List Stmt)
    → nesting_of (statement_of head first second) ≤ 1 + max (nesting_in first) (nesting_in second)
nesting-block (Stmt-F.If e x y) first second = omega (arith, fold-If ℕ nesting_step e first second)
nesting-block (Stmt-F.Repeat t x) first second = omega (arith, fold-Repeat ℕ nesting_step t first)
nesting-block head first second = simp folds (omega arith)

-- a row opens a block only where at most a body and 3 blocks are open, and the head of another row has nothing inside
abbrev IsHigh : List Open → OwnerKind → Bool → Option Head → Type 0
IsHigh stack k block head = (not (block && nat_le 5 (length stack)) ≡ true) × (block || is_flat head ≡ true)

-- the statements of an open thing nest no deeper than its place allows
abbrev IsLow : List Open → OwnerKind → List Stmt → Type 0
IsLow outside k body = length outside ≤ 4 → nesting_in body + length outside ≤ 4

low : IsKept IsHigh IsLow
low = record {
  none = λ outside k le. omega arith;
  plain = λ inner outer k head body here low_ le. omega (arith, nesting-flat head here.1, low_ le);
  block = λ inner outer k head first second body here one other low_ le.
      grind (arith, nat_tests, nesting-block head first second);
}

row_opens : (row : Row) → opens_block row ≡ opens (standing_of row)
row_opens (r.If terms) = refl
row_opens row = refl

row_flat : (names : List NameEntry) (row : Row) → opens (standing_of row) || is_flat (head_of names row) ≡ true
row_flat names (r.If terms) = refl
row_flat names row = refl

module _ (names : List NameEntry) where
  rows_high : (stack : List Open) (k : OwnerKind) (rows : List NumberedRow) → lines_3_from stack rows ≡ []
      → EachKeeps names IsHigh stack k rows
  rows_high stack k [] is = tt
  rows_high stack k (row ∷ rows) is =
      let after = stack_then stack (standing_of row.row) in
      let here = none-here (is_block_high stack row.row) row.line (lines_3_from after rows) is in (
        (ap (λ b. not (b && nat_le 5 (length stack))) (sym (row_opens row.row)) ∙ here.0, row_flat names row.row),
        rows_high after (owner_after k (standing_of row.row)) rows here.1,
      )

  -- 2, 3. Each body nests at most 4 deep.
  pub bodies_nested : (rows : List NumberedRow) → lines_2 rows ≡ [] → lines_3 rows ≡ []
      → Each (λ (x : At BodyPart). IsNestedInLimit x.part.body) (bodies_of names rows)
  bodies_nested rows is_2 is_3 =
      each_weaker (λ (x : At BodyPart). IsLow [] (kind_of x.part.owner) x.part.body)
      (λ (x : At BodyPart). IsNestedInLimit x.part.body) (λ x low_. omega (arith, low_ (omega arith)))
      (bodies_of names rows)
      (kept_bodies names IsHigh IsLow low rows is_2 (rows_high [] kind.Task rows is_3))

-- ---- how many statements

-- how many statements the branches have in all
abbrev count_all : List Branches → ℕ
count_all [] = 0
count_all (inner ∷ outer) = (count_in inner.first + count_in inner.second) + count_all outer

count-statement : (head : Head) (first second : List Stmt)
    → count_of (statement_of head first second) ≤ 1 + (count_in first + count_in second)
count-statement (Stmt-F.If e x y) first second = omega (arith, fold-If ℕ count_step e first second)
count-statement (Stmt-F.Repeat n x) first second = omega (arith, fold-Repeat ℕ count_step n first)
count-statement head first second = simp folds (omega arith)

count-statement_then : (stmt : Stmt) (rest : List Branches)
    → count_all (statement_then stmt rest) ≤ count_of stmt + count_all rest
count-statement_then stmt [] = omega arith
count-statement_then stmt (inner ∷ outer) =
    omega (arith, sum_by-cons (λ x. x) (count_of stmt) (map count_of inner.first))

count-block : (head : Option Head) (rest : List Branches) → count_all (block_then head rest) ≤ 1 + count_all rest
count-block None rest = omega arith
count-block (Some head) [] = omega arith
count-block (Some head) (inner ∷ outer) =
    omega (
      arith,
      count-statement_then (statement_of head inner.first inner.second) outer,
      count-statement head inner.first inner.second,
    )

count-row : (standing : Standing) (head : Option Head) (rest : List Branches)
    → count_all (row_then standing head rest) ≤ 1 + count_all rest
count-row Plain None rest = omega arith
count-row Plain (Some head) rest =
    omega (arith, count-statement_then (statement_of head [] []) rest, count-statement head [] [])
count-row OfIf head rest = count-block head rest
count-row OfRepeat head rest = count-block head rest
count-row standing head [] = omega arith
count-row standing head (inner ∷ outer) = omega arith

module _ (names : List NameEntry) where
  count-branches : (rows : List NumberedRow) → count_all (branches_from names rows) ≤ length rows
  count-branches [] = omega arith
  count-branches (row ∷ rows) =
      omega (
        arith,
        count-row (standing_of row.row) (head_of names row.row) (branches_from names rows),
        count-branches rows,
      )

  count-first : (rest : List Branches) → count_in (first_branch rest) ≤ count_all rest
  count-first [] = omega arith
  count-first (inner ∷ outer) = omega arith

  counted : (o : Option Owner) (rows : List NumberedRow) → length rows < 2 ^ 32
      → IfSome (body_of o (branches_from names rows)) (λ (b : BodyPart). IsCountInLimit b.body)
  counted None rows short = tt
  counted (Some owner) rows short = omega (arith, count-first (branches_from names rows), count-branches rows)

  -- a body has no more statements than there are rows
  pub bodies_counted : (rows : List NumberedRow) → length rows < 2 ^ 32
      → Each (λ (x : At BodyPart). IsCountInLimit x.part.body) (bodies_of names rows)
  bodies_counted [] short = tt
  bodies_counted (row ∷ rows) short =
      each_then (λ (b : BodyPart). IsCountInLimit b.body) row.line
      (body_of (owner_in row.row) (branches_from names rows)) (bodies_of names rows)
      (counted (owner_in row.row) rows (omega arith)) (bodies_counted rows (omega arith))
