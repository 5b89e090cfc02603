-- What holds of each body, from what holds of each row, where blocks are well formed.
use Rattle.std.proofs.Common.{◌≡◌, ℕ, Bool, true, false, List, [], ◌∷◌, Option, Some, None, refl, ap, subst, ◌∙◌, if◌then◌else◌}
use Rattle.std.specs.Prelude.{is_some, IfSome}
use Rattle.std.specs.List.{AllByRecursion as Each}
use Rattle.tt_base.specs.declared.names.NameEntry.{NameEntry}
use Rattle.task_lang.specs.declared.allowed.OwnerKind.{OwnerKind}
use Rattle.task_lang.specs.declared.allowed.OwnerKind.TheVariants as kind
use Rattle.task_lang.specs.declared.syntax.Stmt.{Stmt}
use Rattle.tt_rows.specs.declared.row.Row.{Row}
use Rattle.tt_rows.specs.declared.row.Row.TheVariants as r
use Rattle.tt_rows.specs.declared.row.NumberedRow.{NumberedRow}
use Rattle.tt_parts.specs.declared.located.At.{At}
use Rattle.tt_parts.specs.declared.structure.Open.{Open}
use Rattle.tt_parts.specs.declared.structure.Open.TheVariants.{If, Repeat}
use Rattle.tt_parts.specs.declared.structure.Standing.{Standing}
use Rattle.tt_parts.specs.declared.structure.Standing.TheVariants.{Opener, Plain, OfIf, OfElse, OfRepeat, OfEnd}
use Rattle.tt_parts.specs.declared.bodies.Owner.{Owner}
use Rattle.tt_parts.specs.declared.bodies.BodyPart.{BodyPart}
use Rattle.tt_parts.specs.Structure.{standing_of}
use Rattle.tt_parts.specs.Bodies.{Head, Branches, statement_of, head_of, owner_in, body_of, bodies_of, branches_from, first_branch, row_then, block_then}
use Rattle.tt_parts.proofs.EachAt.{each_then}
use Rattle.tt_rules.specs.BodyRules.{owner_after}
use Rattle.tt_rules.specs.Laws.{kind_of}
use Rattle.tt_rules.specs.StructureRules.{is_misplaced, stack_then, lines_2, lines_2_from}

-- ---- rows

-- a row opens a block
abbrev pub opens : Standing → Bool
opens OfIf = true
opens OfRepeat = true
opens standing = false

-- a block's row has a head
abbrev has_block : Standing → Option Head → Bool
has_block OfIf head = is_some head
has_block OfRepeat head = is_some head
has_block standing head = true

block_head : (names : List NameEntry) (row : Row) → has_block (standing_of row) (head_of names row) ≡ true
block_head names (r.If terms) = refl
block_head names row = refl

-- a row that declares an owner opens a body of its kind
abbrev opener_or : Standing → Option Owner → Standing
opener_or standing None = standing
opener_or standing (Some owner) = Opener (kind_of owner)

opens_body : (row : Row) → standing_of row ≡ opener_or (standing_of row) (owner_in row)
opens_body (r.Task name stack) = refl
opens_body row = refl

-- a row is allowed where it is, and so are those after it
formed : (stack : List Open) (last : ℕ) (row : NumberedRow) (rows : List NumberedRow)
    → lines_2_from stack last (row ∷ rows) ≡ []
    → (is_misplaced stack (standing_of row.row) ≡ false)
    × (lines_2_from (stack_then stack (standing_of row.row)) row.line rows ≡ [])
formed stack last row rows is = by (is_misplaced stack (standing_of row.row)) is where
  by : (b : Bool) → (if b then row.line ∷ [] else lines_2_from (stack_then stack (standing_of row.row)) row.line rows)
      ≡ []
      → (b ≡ false) × (lines_2_from (stack_then stack (standing_of row.row)) row.line rows ≡ [])
  by true wrong = cc
  by false right = (refl, right)

-- ---- bodies

-- A fact P of the statements of an open thing, by what is open outside of it and the kind of its owner, that lasts
-- as rows are put before them. H is asked of each row, by what is open before it, the kind of the owner, whether it
-- opens a block, and its head.
pub record IsKept (H : List Open → OwnerKind → Bool → Option Head → Type 0)
    (P : List Open → OwnerKind → List Stmt → Type 0) : Type 0 where
  pub none : (outside : List Open) (k : OwnerKind) → P outside k []
  pub plain : (inner : Open) (outer : List Open) (k : OwnerKind) (head : Head) (body : List Stmt)
      → H (inner ∷ outer) k false (Some head) → P outer k body → P outer k (statement_of head [] [] ∷ body)
  pub block : (inner : Open) (outer : List Open) (k : OwnerKind) (head : Head) (first second body : List Stmt)
      → H (inner ∷ outer) k true (Some head) → P (inner ∷ outer) k first → P (inner ∷ outer) k second → P outer k body
      → P outer k (statement_of head first second ∷ body)

module _ (names : List NameEntry) (H : List Open → OwnerKind → Bool → Option Head → Type 0) where
  -- what is asked of each row, where these are open before the rows
  abbrev pub EachKeeps : List Open → OwnerKind → List NumberedRow → Type 0
  EachKeeps stack k [] = Unit {0}
  EachKeeps stack k (row ∷ rows) = H stack k (opens (standing_of row.row)) (head_of names row.row)
      × EachKeeps (stack_then stack (standing_of row.row)) (owner_after k (standing_of row.row)) rows

  module _ (P : List Open → OwnerKind → List Stmt → Type 0) (kept : IsKept H P) where
    -- P holds of the statements of each open thing
    abbrev Fits : List Open → OwnerKind → List Branches → Type 0
    Fits [] k rest = Unit {0}
    Fits (open_ ∷ outside) k [] = Unit {0}
    Fits (open_ ∷ outside) k (b ∷ rest) = P outside k b.first × (P outside k b.second × Fits outside k rest)

    fits-block : (own inner : Open) (outer : List Open) (k : OwnerKind) (head : Option Head) (rest : List Branches)
        → is_some head ≡ true → H (inner ∷ outer) k true head
        → Fits (own ∷ inner ∷ outer) k rest → Fits (inner ∷ outer) k (block_then head rest)
    fits-block own inner outer k None rest some here there = cc
    fits-block own inner outer k (Some head) [] some here there = tt
    fits-block own inner outer k (Some head) (inside ∷ []) some here there = tt
    fits-block own inner outer k (Some head) (inside ∷ (b ∷ rest)) some here there = (
      kept.block inner outer k head inside.first inside.second b.first here there.0 there.1.0 there.1.1.0,
      there.1.1.1,
    )

    fits-row : (stack : List Open) (k : OwnerKind) (standing : Standing) (head : Option Head) (rest : List Branches)
        → is_misplaced stack standing ≡ false → has_block standing head ≡ true → H stack k (opens standing) head
        → Fits (stack_then stack standing) (owner_after k standing) rest → Fits stack k (row_then standing head rest)
    fits-row [] k standing head rest ok block here there = tt
    fits-row (inner ∷ outer) k Plain None rest ok block here there = there
    fits-row (inner ∷ outer) k Plain (Some head) [] ok block here there = tt
    fits-row (inner ∷ outer) k Plain (Some head) (b ∷ rest) ok block here there =
        (kept.plain inner outer k head b.first here there.0, there.1)
    fits-row (inner ∷ outer) k OfIf head rest ok block here there =
        fits-block If inner outer k head rest block here there
    fits-row (inner ∷ outer) k OfRepeat head rest ok block here there =
        fits-block Repeat inner outer k head rest block here there
    fits-row (If ∷ outer) k OfElse head [] ok block here there = tt
    fits-row (If ∷ outer) k OfElse head (b ∷ rest) ok block here there = (kept.none outer k, (there.0, there.1.1))
    fits-row (inner ∷ outer) k OfEnd head rest ok block here there = (kept.none outer k, (kept.none outer k, there))
    fits-row (inner ∷ outer) k standing head rest ok block here there = cc

    fits : (stack : List Open) (last : ℕ) (k : OwnerKind) (rows : List NumberedRow) → lines_2_from stack last rows ≡ []
        → EachKeeps stack k rows → Fits stack k (branches_from names rows)
    fits [] last k rows is keep = tt
    fits (inner ∷ outer) last k [] is keep = tt
    fits (inner ∷ outer) last k (row ∷ rows) is keep =
        let ok = formed (inner ∷ outer) last row rows is in
        fits-row (inner ∷ outer) k (standing_of row.row) (head_of names row.row) (branches_from names rows) ok.0
        (block_head names row.row) keep.0
        (fits (stack_then (inner ∷ outer) (standing_of row.row)) row.line
        (owner_after k (standing_of row.row)) rows ok.1 keep.1)

    -- P holds of a body with its owner
    abbrev Holds : BodyPart → Type 0
    Holds b = P [] (kind_of b.owner) b.body

    opened : (stack : List Open) (k own : OwnerKind) (rest : List Branches) → is_misplaced stack (Opener own) ≡ false
        → Fits (stack_then stack (Opener own)) (owner_after k (Opener own)) rest → P [] own (first_branch rest)
    opened [] k own [] ok there = kept.none [] own
    opened [] k own (b ∷ rest) ok there = there.0
    opened (inner ∷ outer) k own rest ok there = cc

    fit-owner : (stack : List Open) (k : OwnerKind) (row : Row) (o : Option Owner) (rest : List Branches)
        → owner_in row ≡ o
        → (is_misplaced stack (standing_of row) ≡ false)
        × Fits (stack_then stack (standing_of row)) (owner_after k (standing_of row)) rest
        → IfSome (body_of o rest) Holds
    fit-owner stack k row None rest is there = tt
    fit-owner stack k row (Some owner) rest is there =
        let own = subst (λ s. (is_misplaced stack s ≡ false) × Fits (stack_then stack s) (owner_after k s) rest)
        (opens_body row ∙ ap (opener_or (standing_of row)) is) there in
        opened stack k (kind_of owner) rest own.0 own.1

    fit_bodies : (stack : List Open) (last : ℕ) (k : OwnerKind) (rows : List NumberedRow)
        → lines_2_from stack last rows ≡ [] → EachKeeps stack k rows
        → Each (λ (x : At BodyPart). Holds x.part) (bodies_of names rows)
    fit_bodies stack last k [] is keep = tt
    fit_bodies stack last k (row ∷ rows) is keep =
        let ok = formed stack last row rows is in
        let rest = branches_from names rows in
        let stack' = stack_then stack (standing_of row.row) in
        let own = owner_after k (standing_of row.row) in
        each_then Holds row.line (body_of (owner_in row.row) rest) (bodies_of names rows)
        (fit-owner stack k row.row (owner_in row.row) rest refl (ok.0, fits stack' row.line own rows ok.1 keep.1))
        (fit_bodies stack' row.line own rows ok.1 keep.1)

    -- 2. P holds of each body.
    pub kept_bodies : (rows : List NumberedRow) → lines_2 rows ≡ [] → EachKeeps [] kind.Task rows
        → Each (λ (x : At BodyPart). Holds x.part) (bodies_of names rows)
    kept_bodies rows is keep = fit_bodies [] 0 kind.Task rows is keep
