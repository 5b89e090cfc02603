-- Rules 14 to 17: names that are used, and bodies.
use Rattle.std.specs.Prelude.{ℕ, ◌^◌, ◌||◌, nat_le, Bool, true, false, List, [], ◌∷◌, flat_map, length, Option, Some, None, option_map}
use Rattle.std.specs.List.{AllByRecursion, list_all}
use Rattle.tt_base.specs.declared.names.NameKind.{NameKind}
use Rattle.tt_base.specs.declared.names.NameKind.TheVariants as Kind
use Rattle.tt_base.specs.declared.names.NameEntry.{NameEntry}
use Rattle.tt_base.specs.Names.{find_name, kind_of, is_same_kind}
use Rattle.task_lang.specs.declared.allowed.OwnerKind.{OwnerKind}
use Rattle.task_lang.specs.declared.allowed.OwnerKind.TheVariants as kind
use Rattle.task_lang.specs.declared.demand.Demand.{Demand}
use Rattle.task_lang.specs.Allowed.{is_allowed}
use Rattle.task_lang.specs.declared.syntax.Stmt.{Stmt}
use Rattle.task_lang.specs.Limits.{IsNestedInLimit, IsCountInLimit, AreNumbersInRange, AreMostsInRange}
use Rattle.task_lang.specs.Worst.{worst_in}
use Rattle.tt_rows.specs.declared.row.Term.{Term}
use Rattle.tt_rows.specs.declared.row.Term.TheVariants as term
use Rattle.tt_rows.specs.declared.row.Row.{Row}
use Rattle.tt_rows.specs.declared.row.Row.TheVariants as r
use Rattle.tt_rows.specs.declared.row.NumberedRow.{NumberedRow}
use Rattle.tt_parts.specs.declared.located.At.{At}
use Rattle.tt_parts.specs.declared.bodies.Owner.{Owner}
use Rattle.tt_parts.specs.declared.bodies.Owner.TheVariants as owner
use Rattle.tt_parts.specs.declared.bodies.BodyPart.{BodyPart}
use Rattle.tt_parts.specs.declared.structure.Standing.{Standing}
use Rattle.tt_parts.specs.declared.structure.Standing.TheVariants.{Opener}
use Rattle.tt_parts.specs.Bodies.{Head, head_of}
use Rattle.tt_parts.specs.Structure.{standing_of}
use Rattle.tt_rules.specs.Lines.{line_unless}
use Rattle.tt_rules.specs.Shapes.{Every, breaking}
use Rattle.tt_rules.specs.Document.{rows_at}

-- ---- 14

-- a name that a row uses, and the kinds that it may have
pub record Use : Type 0 where
  pub name : List ℕ
  pub kind : NameKind
  pub other : NameKind

abbrev pub uses : NameKind → List ℕ → Use
uses kind name = record { name = name; kind = kind; other = kind }

-- the source of an interrupt is a routine of either kind
abbrev pub uses_source : List ℕ → Use
uses_source name = record { name = name; kind = Kind.Isr; other = Kind.Oisr }

abbrev pub used_by_term : Term → List Use
used_by_term (term.Int value) = []
used_by_term (term.Name name) = uses Kind.Var name ∷ []
used_by_term (term.Op op) = []

-- the names that a row uses
abbrev pub used_in : Row → List Use
used_in (r.AtStringent offset mode task deadline) = uses Kind.Mode mode ∷ uses Kind.Task task ∷ []
used_in (r.AtNonstringent offset mode task deadline) = uses Kind.Mode mode ∷ uses Kind.Task task ∷ []
used_in (r.AtEnable offset mode isr) = uses Kind.Mode mode ∷ uses Kind.Isr isr ∷ []
used_in (r.Start mode) = uses Kind.Mode mode ∷ []
used_in (r.Value demand value) = uses Kind.Demand demand ∷ []
used_in (r.Arrive source tick) = uses_source source ∷ []
used_in (r.Take demand) = uses Kind.Demand demand ∷ []
used_in (r.Set var terms) = uses Kind.Var var ∷ flat_map used_by_term terms
used_in (r.If terms) = flat_map used_by_term terms
used_in (r.Out terms) = flat_map used_by_term terms
used_in (r.Switch mode) = uses Kind.Mode mode ∷ []
used_in (r.Activate task) = uses Kind.Osek task ∷ []
used_in (r.Chain task) = uses Kind.Osek task ∷ []
used_in row = []

abbrev pub has_kind : Use → Option NameKind → Bool
has_kind u None = false
has_kind u (Some kind) = is_same_kind kind u.kind || is_same_kind kind u.other

-- the name is declared, as a kind that it may have here
abbrev pub is_declared : List NameEntry → Use → Bool
is_declared names u = has_kind u (option_map kind_of (find_name names u.name))

abbrev pub are_names_declared : List NameEntry → Row → Bool
are_names_declared names row = list_all (is_declared names) (used_in row)

-- 14. Each name that is used is declared, as a kind that it may have there.
abbrev pub lines_14 : List NameEntry → List NumberedRow → List ℕ
lines_14 names rows = breaking 1 (Every (are_names_declared names)) (rows_at rows)

-- ---- 15

-- whether an owner of this kind may have what a row gives
abbrev pub is_head_allowed : OwnerKind → Option Head → Bool
is_head_allowed kind None = true
is_head_allowed kind (Some head) = is_allowed kind head

-- whether an owner of this kind may have a row in its body: the statement that the row gives, whatever the names in it
-- are; and an `else` where it may have an `if`
abbrev pub is_row_allowed : OwnerKind → Row → Bool
is_row_allowed kind r.Else = is_head_allowed kind (head_of [] (r.If []))
is_row_allowed kind row = is_head_allowed kind (head_of [] row)

-- the kind of the owner whose body comes after a row
abbrev pub owner_after : OwnerKind → Standing → OwnerKind
owner_after kind (Opener other) = other
owner_after kind standing = kind

-- 15. Each row of a body is allowed for its owner. Here, with the kind of the owner before the rows.
abbrev pub lines_15_from : OwnerKind → List NumberedRow → List ℕ
lines_15_from kind [] = []
lines_15_from kind (row ∷ rows) =
    line_unless (is_row_allowed kind row.row) row.line (lines_15_from (owner_after kind (standing_of row.row)) rows)

abbrev pub lines_15 : List NumberedRow → List ℕ
lines_15 rows = lines_15_from kind.Task rows

-- ---- 16, 17

-- the body of a hook takes no ticks
abbrev pub is_hook : Owner → Bool
is_hook owner.ErrorHook = true
is_hook owner.ShutdownHook = true
is_hook other = false

abbrev pub has_statement : BodyPart → Bool
has_statement b = is_hook b.owner || nat_le 1 (length b.body)

-- 16. Each body of a task, an isr, an osek or an oisr has a statement; otherwise the row that opens it breaks the rule.
abbrev pub lines_16 : List (At BodyPart) → List ℕ
lines_16 bodies = breaking 1 (Every has_statement) bodies

abbrev pub is_light : List Demand → BodyPart → Bool
is_light demands b = is_hook b.owner || nat_le (worst_in demands b.body) (10 ^ 12)

-- 17. Its worst case is at most 10^12 ticks; otherwise the row that opens it breaks the rule.
abbrev pub lines_17 : List Demand → List (At BodyPart) → List ℕ
lines_17 demands bodies = breaking 1 (Every (is_light demands)) bodies

-- a body whose worst case can be computed
pub record IsTellable (demands : List Demand) (body : List Stmt) : Type 0 where
  pub nested : IsNestedInLimit body
  pub counted : IsCountInLimit body
  pub numbers : AreNumbersInRange body
  pub mosts : AreMostsInRange demands

abbrev pub AreTellable : List Demand → List (At BodyPart) → Type 0
AreTellable demands bodies = AllByRecursion (λ (x : At BodyPart). IsTellable demands x.part.body) bodies
