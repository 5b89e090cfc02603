-- Each body passes the tests that its rows pass, where blocks are well formed.
use Rattle.std.proofs.Common.{◌≡◌, Bool, true, List, [], ◌∷◌, Option, Some, None, refl, ◌∙◌}
use Rattle.std.specs.Prelude.{◌&&◌}
use Rattle.std.specs.List.{AllByRecursion as Each}
use Rattle.std.proofs.lemmas.Bool.{and_from}
use Rattle.tt_base.specs.declared.names.NameEntry.{NameEntry}
use Rattle.task_lang.specs.declared.allowed.OwnerKind.{OwnerKind}
use Rattle.task_lang.specs.declared.allowed.OwnerKind.TheVariants as kind
use Rattle.task_lang.specs.declared.syntax.Stmt.{Stmt}
use Rattle.task_lang.specs.declared.syntax.Stmt.TheOpen.{Stmt-F}
use Rattle.task_lang.specs.Allowed.{is_allowed}
use Rattle.task_lang.specs.Limits.{each_of, each_in, inner_pass, is_number_in_range}
use Rattle.task_lang.specs.Opening.{fold-If, fold-Repeat, folds}
use Rattle.tt_rows.specs.declared.row.Row.{Row}
use Rattle.tt_rows.specs.declared.row.Row.TheVariants as r
use Rattle.tt_rows.specs.declared.row.NumberedRow.{NumberedRow}
use Rattle.tt_parts.specs.declared.located.At.{At}
use Rattle.tt_parts.specs.declared.structure.Open.{Open}
use Rattle.tt_parts.specs.declared.bodies.BodyPart.{BodyPart}
use Rattle.tt_parts.specs.Structure.{standing_of}
use Rattle.tt_parts.specs.Bodies.{Head, statement_of, head_of, bodies_of}
use Rattle.tt_rules.specs.BodyRules.{is_row_allowed, owner_after, lines_15_from, lines_15}
use Rattle.tt_rules.specs.DeclarationRules.{has_numbers_in_range, lines_9}
use Rattle.tt_rules.specs.Laws.{IsBodySound, kind_of}
use Rattle.tt_rules.specs.StructureRules.{stack_then, lines_2}
use Rattle.tt_rules.proofs.EachBody.{EachKeeps, IsKept, kept_bodies}
use Rattle.tt_rules.proofs.Each.{each_weaker, each_both}
use Rattle.tt_rules.proofs.Kept.{EachRow, each_row, none-here}

-- a head with the results of what is inside it; those after an `else` are the second
abbrev pub with_inside : Head → (first second : List Bool) → Head
with_inside (Stmt-F.If expr x y) first second = Stmt-F.If expr first second
with_inside (Stmt-F.Repeat turns x) first second = Stmt-F.Repeat turns first
with_inside head first second = head

abbrev pub passes : (Head → Bool) → Option Head → (first second : List Bool) → Bool
passes test None first second = true
passes test (Some head) first second = test (with_inside head first second)

-- a head passes a test, whatever is inside it
abbrev pub Passes : (Head → Bool) → Option Head → Type 0
Passes test head = (first second : List Bool) → passes test head first second ≡ true

-- each row's head passes what is asked of the owner
abbrev Keeps : (OwnerKind → Head → Bool) → List Open → OwnerKind → Bool → Option Head → Type 0
Keeps test stack k opens head = Passes (test k) head

module _ (test : OwnerKind → Head → Bool) where
  abbrev IsFit : List Open → OwnerKind → List Stmt → Type 0
  IsFit outside k body = each_in (test k) body ≡ true

  -- a statement passes where its head and those inside it do
  statement_passes : (k : OwnerKind) (head : Head) (first second : List Stmt) → Passes (test k) (Some head)
      → each_in (test k) first ≡ true → each_in (test k) second ≡ true
      → each_of (test k) (statement_of head first second) ≡ true
  statement_passes k (Stmt-F.If e x y) first second is one other =
      fold-If Bool (λ stmt. test k stmt && inner_pass stmt) e first second
      ∙ and_from (test k (Stmt-F.If e _ _)) (each_in (test k) first && each_in (test k) second) (is _ _)
      (and_from (each_in (test k) first) (each_in (test k) second) one other)
  statement_passes k (Stmt-F.Repeat n x) first second is one other =
      fold-Repeat Bool (λ stmt. test k stmt && inner_pass stmt) n first
      ∙ and_from (test k (Stmt-F.Repeat n _)) (each_in (test k) first) (is _ []) one
  statement_passes k head first second is one other = simp folds (and_from (test k head) true (is [] []) refl)

  body_passes : (k : OwnerKind) (head : Head) (first second body : List Stmt) → Passes (test k) (Some head)
      → each_in (test k) first ≡ true → each_in (test k) second ≡ true → each_in (test k) body ≡ true
      → each_in (test k) (statement_of head first second ∷ body) ≡ true
  body_passes k head first second body is one other there =
      and_from (each_of (test k) (statement_of head first second)) (each_in (test k) body)
      (statement_passes k head first second is one other) there

  fit : IsKept (Keeps test) IsFit
  fit = record {
    none = λ outside k. refl;
    plain = λ inner outer k head body here there. body_passes k head [] [] body here refl refl there;
    block = λ inner outer k head first second body here one other there.
        body_passes k head first second body here one other there;
  }

  fit_bodies : (names : List NameEntry) (rows : List NumberedRow) → lines_2 rows ≡ []
      → EachKeeps names (Keeps test) [] kind.Task rows
      → Each (λ (x : At BodyPart). each_in (test (kind_of x.part.owner)) x.part.body ≡ true) (bodies_of names rows)
  fit_bodies names rows is keep = kept_bodies names (Keeps test) IsFit fit rows is keep

module _ (names : List NameEntry) (test : Head → Bool) (Q : Row → Type 0)
    (each : (row : Row) → Q row → Passes test (head_of names row)) where
  rows_pass : (stack : List Open) (k : OwnerKind) (rows : List NumberedRow) → EachRow Q rows
      → EachKeeps names (Keeps (λ j. test)) stack k rows
  rows_pass stack k [] h = tt
  rows_pass stack k (row ∷ rows) h = (
    each row.row h.0,
    rows_pass (stack_then stack (standing_of row.row)) (owner_after k (standing_of row.row)) rows h.1,
  )

  -- each body passes a test that each row passes
  pub bodies_pass : (rows : List NumberedRow) → lines_2 rows ≡ [] → EachRow Q rows
      → Each (λ (x : At BodyPart). each_in test x.part.body ≡ true) (bodies_of names rows)
  bodies_pass rows is h = fit_bodies (λ j. test) names rows is (rows_pass [] kind.Task rows h)

-- ---- rules 9 and 15

pub number_passes : (names : List NameEntry) (row : Row) → has_numbers_in_range row ≡ true
    → Passes is_number_in_range (head_of names row)
number_passes names (r.Work ticks) number first second = number
number_passes names (r.Repeat turns) number first second = number
number_passes names row number first second = refl

allowed_passes : (names : List NameEntry) (k : OwnerKind) (row : Row) → is_row_allowed k row ≡ true
    → Passes (is_allowed k) (head_of names row)
allowed_passes names k r.Else allowed first second = refl
allowed_passes names k row allowed first second = allowed

rows_allowed : (names : List NameEntry) (stack : List Open) (k : OwnerKind) (rows : List NumberedRow)
    → lines_15_from k rows ≡ [] → EachKeeps names (Keeps is_allowed) stack k rows
rows_allowed names stack k [] is = tt
rows_allowed names stack k (row ∷ rows) is =
    let own = owner_after k (standing_of row.row) in
    let here = none-here (is_row_allowed k row.row) row.line (lines_15_from own rows) is in
    (allowed_passes names k row.row here.0, rows_allowed names (stack_then stack (standing_of row.row)) own rows here.1)

pub bodies_sound : (names : List NameEntry) (rows : List NumberedRow) → lines_2 rows ≡ [] → lines_9 rows ≡ []
    → lines_15 rows ≡ []
    → Each (λ (x : At BodyPart). IsBodySound x.part) (bodies_of names rows)
bodies_sound names rows is_2 is_9 is_15 =
    let P = λ (x : At BodyPart). each_in is_number_in_range x.part.body ≡ true in
    let Q = λ (x : At BodyPart). each_in (is_allowed (kind_of x.part.owner)) x.part.body ≡ true in
    each_weaker (λ (x : At BodyPart). P x × Q x) (λ (x : At BodyPart). IsBodySound x.part)
    (λ x h. record { numbers = h.0; allowed = h.1 }) (bodies_of names rows)
    (each_both P Q (bodies_of names rows)
    (bodies_pass names is_number_in_range (λ row. has_numbers_in_range row ≡ true) (number_passes names) rows is_2
    (each_row has_numbers_in_range rows is_9))
    (fit_bodies is_allowed names rows is_2 (rows_allowed names [] kind.Task rows is_15)))
