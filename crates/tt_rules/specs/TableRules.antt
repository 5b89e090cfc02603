-- Rules 18 to 24: dispatcher tables.
use Rattle.std.specs.Prelude.{ℕ, ◌==◌, ◌&&◌, nat_lt, nat_le, Bool, true, false, List, flat_map, Option, Some, None}
use Rattle.tt_world.specs.declared.config.Activation.{Activation}
use Rattle.tt_parts.specs.declared.located.At.{At}
use Rattle.tt_parts.specs.declared.entries.Entry.{Entry}
use Rattle.tt_parts.specs.declared.entries.Entry.TheVariants as entry
use Rattle.tt_rules.specs.Shapes.{AtMost, Every, Differ, Clear, breaking, filter_at, same_by}
use Rattle.tt_rules.specs.Order.{below}

-- 18, 19. Offsets are below L - A.
abbrev pub is_activation_early : ℕ → Entry → Bool
is_activation_early limit (entry.Activates mode a) = nat_lt a.offset limit
is_activation_early limit (entry.Enables mode e) = true

abbrev pub is_enable_early : ℕ → Entry → Bool
is_enable_early limit (entry.Activates mode a) = true
is_enable_early limit (entry.Enables mode e) = nat_lt e.offset limit

-- 20. A deadline is above the offset and at most L - A.
abbrev pub is_deadline : ℕ → Activation → Bool
is_deadline limit a = nat_lt a.offset a.deadline && nat_le a.deadline limit

abbrev pub has_deadline : ℕ → Entry → Bool
has_deadline limit (entry.Activates mode a) = is_deadline limit a
has_deadline limit (entry.Enables mode e) = true

-- the mode and the offset of an activation
abbrev pub place_of : Entry → Option (ℕ × ℕ)
place_of (entry.Activates mode a) = Some (mode.0, a.offset)
place_of (entry.Enables mode e) = None

abbrev pub same_pair : (ℕ × ℕ) → (ℕ × ℕ) → Bool
same_pair x y = (x.0 == y.0) && (x.1 == y.1)

-- 21. A mode has at most one activation at an offset; a row with the mode and offset of one above breaks it.
abbrev pub same_place : Entry → Entry → Bool
same_place = same_by same_pair place_of

-- the mode, the offset and the source of an enable
abbrev pub source_of : Entry → Option (ℕ × ℕ × ℕ)
source_of (entry.Activates mode a) = None
source_of (entry.Enables mode e) = Some (mode.0, e.offset, e.isr.0)

abbrev pub same_triple : (ℕ × ℕ × ℕ) → (ℕ × ℕ × ℕ) → Bool
same_triple x y = ((x.0 == y.0) && (x.1 == y.1)) && (x.2 == y.2)

-- 22. A mode has at most one enable of a source at an offset.
abbrev pub same_enable : Entry → Entry → Bool
same_enable = same_by same_triple source_of

-- 23. No other activation of the mode and the task has an offset above this one's and below its deadline.
abbrev pub comes_between : Entry → Entry → Bool
comes_between (entry.Activates mode a) (entry.Activates other b) =
    (mode.0 == other.0) && ((a.task.0 == b.task.0) && (nat_lt a.offset b.offset && nat_lt b.offset a.deadline))
comes_between a b = false

abbrev pub mode_of : Entry → ℕ
mode_of (entry.Activates mode a) = mode.0
mode_of (entry.Enables mode e) = mode.0

abbrev pub is_of : ℕ → Entry → Bool
is_of mode x = mode_of x == mode

abbrev pub lines_18 : ℕ → List (At Entry) → List ℕ
lines_18 limit xs = breaking 1 (Every (is_activation_early limit)) xs

abbrev pub lines_19 : ℕ → List (At Entry) → List ℕ
lines_19 limit xs = breaking 1 (Every (is_enable_early limit)) xs

abbrev pub lines_20 : ℕ → List (At Entry) → List ℕ
lines_20 limit xs = breaking 1 (Every (has_deadline limit)) xs

abbrev pub lines_21 : List (At Entry) → List ℕ
lines_21 xs = breaking 1 (Differ same_place) xs

abbrev pub lines_22 : List (At Entry) → List ℕ
lines_22 xs = breaking 1 (Differ same_enable) xs

abbrev pub lines_23 : List (At Entry) → List ℕ
lines_23 xs = breaking 1 (Clear comes_between) xs

-- the rows of a mode that are past its limit
abbrev pub lines_of_mode : List (At Entry) → ℕ → List ℕ
lines_of_mode xs mode = breaking 1 (AtMost 4096) (filter_at (is_of mode) xs)

-- 24. A mode has at most 4,096 rows; for each mode, the rows past that break it.
abbrev pub lines_24 : ℕ → List (At Entry) → List ℕ
lines_24 modes xs = flat_map (lines_of_mode xs) (below modes)
