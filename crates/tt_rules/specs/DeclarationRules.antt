-- Rules 9 to 13: the numbers of declarations, levels, priorities and hooks.
use Rattle.std.specs.Prelude.{ℕ, ◌==◌, ◌&&◌, nat_le, Bool, true, false, List, ◌++◌, Option, Some, None}
use Rattle.tt_rows.specs.declared.row.Row.{Row}
use Rattle.tt_rows.specs.declared.row.Row.TheVariants as r
use Rattle.tt_rows.specs.declared.row.NumberedRow.{NumberedRow}
use Rattle.tt_parts.specs.declared.located.At.{At}
use Rattle.tt_parts.specs.declared.bodies.Owner.{Owner}
use Rattle.tt_parts.specs.declared.bodies.Owner.TheVariants as owner
use Rattle.tt_parts.specs.declared.bodies.BodyPart.{BodyPart}
use Rattle.tt_rules.specs.Shapes.{AtMost, Every, Differ, breaking, filter_at, same_by}
use Rattle.tt_rules.specs.Document.{rows_at}
use Rattle.tt_rules.specs.RoundRules.{is_within}

abbrev pub has_numbers_in_range : Row → Bool
has_numbers_in_range (r.Task name stack) = nat_le stack 65535
has_numbers_in_range (r.Demand name most usual) = nat_le most 10000000 && nat_le usual most
has_numbers_in_range (r.Isr name level stack) = is_within 1 255 level && nat_le stack 65535
has_numbers_in_range (r.IsrFar name level stack distance) =
    is_within 1 255 level && (nat_le stack 65535 && is_within 1 1000000000 distance)
has_numbers_in_range (r.Osek name priority) = is_within 1 255 priority
has_numbers_in_range (r.OsekAuto name priority) = is_within 1 255 priority
has_numbers_in_range (r.Oisr name priority) = is_within 1 255 priority
has_numbers_in_range (r.Work ticks) = is_within 1 10000000 ticks
has_numbers_in_range (r.Repeat turns) = is_within 1 65535 turns
has_numbers_in_range row = true

-- 9. The numbers of declarations, of `work` and of `repeat` are in range.
abbrev pub lines_9 : List NumberedRow → List ℕ
lines_9 rows = breaking 1 (Every has_numbers_in_range) (rows_at rows)

-- the level of an interrupt service routine
abbrev pub level_of : Owner → Option ℕ
level_of (owner.Isr level stack distance) = Some level
level_of other = None

-- the priority of a task of the OSEK subsystem
abbrev pub osek_priority_of : Owner → Option ℕ
osek_priority_of (owner.Osek priority auto) = Some priority
osek_priority_of other = None

-- the priority of an interrupt service routine of the OSEK subsystem
abbrev pub oisr_priority_of : Owner → Option ℕ
oisr_priority_of (owner.Oisr priority) = Some priority
oisr_priority_of other = None

abbrev pub same_number : ℕ → ℕ → Bool
same_number a b = a == b

-- the lines of the owners that have the same number as one above
abbrev pub lines_same : (Owner → Option ℕ) → List (At BodyPart) → List ℕ
lines_same number_of bodies = breaking 1 (Differ (same_by same_number (λ (b : BodyPart). number_of b.owner))) bodies

-- 10. Levels of interrupt service routines differ; a row with the level of one above breaks it.
abbrev pub lines_10 : List (At BodyPart) → List ℕ
lines_10 bodies = lines_same level_of bodies

-- 11. Priorities of OSEK tasks differ.
abbrev pub lines_11 : List (At BodyPart) → List ℕ
lines_11 bodies = lines_same osek_priority_of bodies

-- 12. Priorities of OSEK interrupt service routines differ.
abbrev pub lines_12 : List (At BodyPart) → List ℕ
lines_12 bodies = lines_same oisr_priority_of bodies

abbrev pub is_error_hook : Owner → Bool
is_error_hook owner.ErrorHook = true
is_error_hook other = false

abbrev pub is_shutdown_hook : Owner → Bool
is_shutdown_hook owner.ShutdownHook = true
is_shutdown_hook other = false

-- the lines of the owners that pass a test, without the first of them
abbrev pub lines_more : (Owner → Bool) → List (At BodyPart) → List ℕ
lines_more test bodies = breaking 1 (AtMost 1) (filter_at (λ (b : BodyPart). test b.owner) bodies)

-- 13. Each of the two hooks has at most one body.
abbrev pub lines_13 : List (At BodyPart) → List ℕ
lines_13 bodies = lines_more is_error_hook bodies ++ lines_more is_shutdown_hook bodies
