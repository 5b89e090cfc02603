-- What belongs to each number.
use Rattle.std.specs.Prelude.{ℕ, ◌==◌, List, [], ◌∷◌, ◌++◌, map, flat_map, Option, Some, None, if◌then◌else◌, slice_index_or, slice_set}
use Rattle.tt_rules.specs.Order.{below}

-- an item, if it is one of this number
abbrev pub at_number : {B : Type 0} → ℕ → Option (ℕ × B) → List B
at_number number None = []
at_number number (Some p) = if p.0 == number then p.1 ∷ [] else []

-- what parts give to a number, in order; each part gives an item to one number, or to none
abbrev pub given : {A B : Type 0} → (A → Option (ℕ × B)) → List A → ℕ → List B
given place xs number = flat_map (λ x. at_number number (place x)) xs

-- what parts give to each number below `count`
abbrev pub by_number : {A B : Type 0} → ℕ → (A → Option (ℕ × B)) → List A → List (List B)
by_number count place xs = map (given place xs) (below count)

-- one more item in the list of a number
abbrev pub appended : {B : Type 0} → ℕ → B → List (List B) → List (List B)
appended number item lists = slice_set lists number (slice_index_or lists number [] ++ item ∷ [])

abbrev pub put_at : {B : Type 0} → Option (ℕ × B) → List (List B) → List (List B)
put_at None lists = lists
put_at (Some p) lists = appended p.0 p.1 lists
