-- The bodies that rows give.
use Rattle.std.specs.Prelude.{pos, Bool, true, false, List, [], ◌∷◌, Option, Some, None}
use Rattle.tt_base.specs.declared.event.Call.TheVariants as call
use Rattle.tt_base.specs.declared.names.NameEntry.{NameEntry}
use Rattle.task_lang.specs.declared.syntax.Op.{Op}
use Rattle.task_lang.specs.declared.syntax.Expr.{Expr}
use Rattle.task_lang.specs.declared.syntax.Expr.TheVariants as expr
use Rattle.task_lang.specs.declared.syntax.Stmt.{Stmt}
use Rattle.task_lang.specs.declared.syntax.Stmt.TheOpen.{Stmt-F}
use Rattle.task_lang.specs.declared.syntax.Stmt.TheVariants as s
use Rattle.tt_rows.specs.declared.row.Term.{Term}
use Rattle.tt_rows.specs.declared.row.Term.TheVariants as term
use Rattle.tt_rows.specs.declared.row.Row.{Row}
use Rattle.tt_rows.specs.declared.row.Row.TheVariants as r
use Rattle.tt_rows.specs.declared.row.NumberedRow.{NumberedRow}
use Rattle.tt_parts.specs.declared.located.At.{At}
use Rattle.tt_parts.specs.declared.bodies.Owner.{Owner}
use Rattle.tt_parts.specs.declared.bodies.Owner.TheVariants as owner
use Rattle.tt_parts.specs.declared.bodies.BodyPart.{BodyPart}
use Rattle.tt_parts.specs.Located.{at_then}
use Rattle.tt_parts.specs.Names.{number_named}
use Rattle.tt_parts.specs.Structure.{Standing, Top, Opener, Plain, OfIf, OfElse, OfRepeat, OfEnd, standing_of}

-- ---- expressions

-- an operator and the expressions after it; it takes the first two of them
abbrev pub operator_then : Op → List Expr → List Expr
operator_then op [] = []
operator_then op (left ∷ []) = []
operator_then op (left ∷ (right ∷ rest)) = expr.Bin op left right ∷ rest

abbrev pub term_then : List NameEntry → Term → List Expr → List Expr
term_then names (term.Int value) rest = expr.Const value ∷ rest
term_then names (term.Name name) rest = expr.Var (record { 0 = number_named names name }) ∷ rest
term_then names (term.Op op) rest = operator_then op rest

-- terms in prefix form as expressions, one after another
abbrev pub expressions_of : List NameEntry → List Term → List Expr
expressions_of names [] = []
expressions_of names (t ∷ terms) = term_then names t (expressions_of names terms)

abbrev pub first_or_zero : List Expr → Expr
first_or_zero [] = expr.Const (pos 0)
first_or_zero (first ∷ rest) = first

-- terms as one expression
abbrev pub expression_of : List NameEntry → List Term → Expr
expression_of names terms = first_or_zero (expressions_of names terms)

-- ---- statements

-- a statement, opened and without those inside it
abbrev pub Head : Type 0
Head = Stmt-F Bool

-- the head that a row gives
abbrev pub head_of : List NameEntry → Row → Option Head
head_of names (r.Work ticks) = Some (Stmt-F.Work ticks)
head_of names (r.Take demand) = Some (Stmt-F.Take (record { 0 = number_named names demand }))
head_of names (r.Set var terms) = Some (Stmt-F.Set (record { 0 = number_named names var }) (expression_of names terms))
head_of names (r.If terms) = Some (Stmt-F.If (expression_of names terms) [] [])
head_of names (r.Repeat turns) = Some (Stmt-F.Repeat turns [])
head_of names (r.Out terms) = Some (Stmt-F.Out (expression_of names terms))
head_of names (r.Switch mode) = Some (Stmt-F.Service (call.Switch (record { 0 = number_named names mode })))
head_of names r.Sync = Some (Stmt-F.Service call.Sync)
head_of names r.Shutdown = Some (Stmt-F.Service call.Shutdown)
head_of names (r.Activate task) = Some (Stmt-F.Service (call.Activate (record { 0 = number_named names task })))
head_of names (r.Chain task) = Some (Stmt-F.Service (call.Chain (record { 0 = number_named names task })))
head_of names r.Terminate = Some (Stmt-F.Service call.Terminate)
head_of names row = None

-- a head as a statement, with these statements inside it; those after an `else` are the second
abbrev pub statement_of : Head → (first second : List Stmt) → Stmt
statement_of (Stmt-F.Work ticks) first second = s.Work ticks
statement_of (Stmt-F.Take demand) first second = s.Take demand
statement_of (Stmt-F.Set var expr) first second = s.Set var expr
statement_of (Stmt-F.If expr x y) first second = s.If expr first second
statement_of (Stmt-F.Repeat turns x) first second = s.Repeat turns first
statement_of (Stmt-F.Out expr) first second = s.Out expr
statement_of (Stmt-F.Service call) first second = s.Service call

-- what there is from a row on up to the end that closes the innermost open thing: the statements from there on, up to
-- an `else` in between, and the statements after that `else`
pub record Branches : Type 0 where
  pub first : List Stmt
  pub second : List Stmt

abbrev pub no_branches : Branches
no_branches = record { first = []; second = [] }

-- a statement before what follows in the same body
abbrev pub statement_then : Stmt → List Branches → List Branches
statement_then stmt [] = []
statement_then stmt (inner ∷ outer) = record { first = stmt ∷ inner.first; second = inner.second } ∷ outer

-- with an `else` before them: what follows is the second branch
abbrev pub else_then : List Branches → List Branches
else_then [] = []
else_then (inner ∷ outer) = record { first = []; second = inner.first } ∷ outer

-- with a statement before them that has nothing inside it
abbrev pub plain_then : Option Head → List Branches → List Branches
plain_then None rest = rest
plain_then (Some head) rest = statement_then (statement_of head [] []) rest

-- with a block before them: the innermost thing is its inside
abbrev pub block_then : Option Head → List Branches → List Branches
block_then None rest = rest
block_then (Some head) [] = []
block_then (Some head) (inner ∷ outer) = statement_then (statement_of head inner.first inner.second) outer

-- with a row before them that opens a body: its body is complete
abbrev pub body_then : List Branches → List Branches
body_then [] = []
body_then (inner ∷ outer) = outer

-- with a row of this standing before them
abbrev pub row_then : Standing → Option Head → List Branches → List Branches
row_then OfEnd head rest = no_branches ∷ rest
row_then OfElse head rest = else_then rest
row_then (Opener kind) head rest = body_then rest
row_then Top head rest = rest
row_then Plain head rest = plain_then head rest
row_then OfIf head rest = block_then head rest
row_then OfRepeat head rest = block_then head rest

-- what there is from some rows on, for each thing that is open before them, the innermost first
abbrev pub branches_from : List NameEntry → List NumberedRow → List Branches
branches_from names [] = []
branches_from names (row ∷ rows) = row_then (standing_of row.row) (head_of names row.row) (branches_from names rows)

abbrev pub first_branch : List Branches → List Stmt
first_branch [] = []
first_branch (inner ∷ outer) = inner.first

-- ---- bodies

-- the owner that a row declares
abbrev pub owner_in : Row → Option Owner
owner_in (r.Task name stack) = Some (owner.Task stack)
owner_in (r.Isr name level stack) = Some (owner.Isr level stack None)
owner_in (r.IsrFar name level stack distance) = Some (owner.Isr level stack (Some distance))
owner_in (r.Osek name priority) = Some (owner.Osek priority false)
owner_in (r.OsekAuto name priority) = Some (owner.Osek priority true)
owner_in (r.Oisr name priority) = Some (owner.Oisr priority)
owner_in r.HookError = Some owner.ErrorHook
owner_in r.HookShutdown = Some owner.ShutdownHook
owner_in row = None

-- an owner with the body whose rows follow
abbrev pub body_of : Option Owner → List Branches → Option BodyPart
body_of None rest = None
body_of (Some owner) rest = Some (record { owner = owner; body = first_branch rest })

-- the owners that rows declare, each with its body
abbrev pub bodies_of : List NameEntry → List NumberedRow → List (At BodyPart)
bodies_of names [] = []
bodies_of names (row ∷ rows) =
    at_then row.line (body_of (owner_in row.row) (branches_from names rows)) (bodies_of names rows)
