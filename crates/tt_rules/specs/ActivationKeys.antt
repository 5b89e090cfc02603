-- The keys of activations, their mode, task and offset, for the search for an activation before a deadline.
use Rattle.std.specs.Prelude.{◌≡◌, ℕ, ◌==◌, nat_lt, ◌&&◌, not, Bool, true, List, Option, Some, None}
use Rattle.std.specs.List.{list_any}
use Rattle.std.specs.declared.cmp.Ordering.{Ordering}
use Rattle.std.specs.Ordering.{eq_by_cmp, nat_cmp, ordering_then}
use Rattle.std.specs.BTreeSet.{BTreeSet, contains}
use Rattle.tt_parts.specs.declared.located.At.{At}
use Rattle.tt_parts.specs.declared.entries.Entry.{Entry}
use Rattle.tt_parts.specs.declared.entries.Entry.TheVariants as entry
use Rattle.tt_rules.specs.Shapes.{passes_key}

-- the mode, the task and the offset of an activation
abbrev pub Key : Type 0
Key = ℕ × ℕ × ℕ

abbrev pub key_of : Entry → Option Key
key_of (entry.Activates mode a) = Some (mode.0, a.task.0, a.offset)
key_of (entry.Enables mode e) = None

-- they are ordered by mode, then by task, then by offset
abbrev pub key_cmp : Key → Key → Ordering
key_cmp x y = ordering_then (ordering_then (nat_cmp x.0 y.0) (nat_cmp x.1 y.1)) (nat_cmp x.2 y.2)

-- a set has exactly the keys of some entries
abbrev pub HasKeys : BTreeSet Key → List (At Entry) → Type 0
HasKeys set xs = (key : Key)
    → contains key_cmp set key ≡ list_any (λ (x : At Entry). passes_key (eq_by_cmp key_cmp key) (key_of x.part)) xs

-- a key has the mode and the task of another, and an offset above that of the other and below a deadline
abbrev pub comes_between_key : Key → ℕ → Key → Bool
comes_between_key key deadline other =
    ((key.0 == other.0) && (key.1 == other.1)) && (nat_lt key.2 other.2 && nat_lt other.2 deadline)

-- no key has an offset above that of an activation and below its deadline
abbrev pub is_apart : List Key → Entry → Bool
is_apart keys (entry.Activates mode a) = not (list_any (comes_between_key (mode.0, a.task.0, a.offset) a.deadline) keys)
is_apart keys (entry.Enables mode e) = true
