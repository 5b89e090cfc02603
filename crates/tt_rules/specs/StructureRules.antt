-- Rules 1 to 3: the header and the blocks.
use Rattle.std.specs.Prelude.{ℕ, ◌&&◌, not, nat_le, Bool, true, false, List, [], ◌∷◌, length, Option, Some, None, if◌then◌else◌}
use Rattle.tt_rows.specs.declared.row.Row.{Row}
use Rattle.tt_rows.specs.declared.row.Row.TheVariants as r
use Rattle.tt_rows.specs.declared.row.NumberedRow.{NumberedRow}
use Rattle.tt_parts.specs.declared.structure.Open.{Open}
use Rattle.tt_parts.specs.declared.structure.Standing.{Standing}
use Rattle.tt_parts.specs.Structure.{standing_of, stack_after}
use Rattle.tt_rules.specs.Lines.{line_unless}
use Rattle.tt_rules.specs.Shapes.{Every, breaking}
use Rattle.tt_rules.specs.Document.{rows_at}

abbrev pub is_header : Row → Bool
is_header r.Header = true
is_header row = false

-- 1. The first row is the header and no other row is.
abbrev pub lines_1 : List NumberedRow → List ℕ
lines_1 [] = 1 ∷ []
lines_1 (row ∷ rows) = if is_header row.row then breaking 1 (Every (λ other. not (is_header other))) (rows_at rows)
    else row.line ∷ []

abbrev pub is_nothing : Option (List Open) → Bool
is_nothing None = true
is_nothing (Some after) = false

abbrev pub stack_or : List Open → Option (List Open) → List Open
stack_or before None = before
stack_or before (Some after) = after

-- a row is not allowed where these are open
abbrev pub is_misplaced : List Open → Standing → Bool
is_misplaced stack standing = is_nothing (stack_after stack standing)

-- the stack of what is open after a row that is allowed; where it is not allowed, the stack before it
abbrev pub stack_then : List Open → Standing → List Open
stack_then stack standing = stack_or stack (stack_after stack standing)

-- something is open after the last row
abbrev pub last_line_if_open : List Open → ℕ → List ℕ
last_line_if_open [] last = []
last_line_if_open (inner ∷ outer) last = last ∷ []

-- 2. Blocks are well formed; the first row that is not allowed breaks it, otherwise the last row where something is
-- open after it. `stack` is what is open before the rows, and `last` is the line of the row before them.
abbrev pub lines_2_from : List Open → ℕ → List NumberedRow → List ℕ
lines_2_from stack last [] = last_line_if_open stack last
lines_2_from stack last (row ∷ rows) =
    if is_misplaced stack (standing_of row.row) then row.line ∷ []
    else lines_2_from (stack_then stack (standing_of row.row)) row.line rows

abbrev pub lines_2 : List NumberedRow → List ℕ
lines_2 rows = lines_2_from [] 0 rows

abbrev pub opens_block : Row → Bool
opens_block (r.If terms) = true
opens_block (r.Repeat turns) = true
opens_block row = false

-- a row opens no block, or it opens one where at most a body and 3 blocks are open
abbrev pub is_block_high : List Open → Row → Bool
is_block_high stack row = not (opens_block row && nat_le 5 (length stack))

-- 3. At most 4 blocks are open at once inside a body, besides the body itself; the row that opens a fifth breaks it.
abbrev pub lines_3_from : List Open → List NumberedRow → List ℕ
lines_3_from stack [] = []
lines_3_from stack (row ∷ rows) =
    line_unless (is_block_high stack row.row) row.line (lines_3_from (stack_then stack (standing_of row.row)) rows)

abbrev pub lines_3 : List NumberedRow → List ℕ
lines_3 rows = lines_3_from [] rows
