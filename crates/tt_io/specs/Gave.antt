-- What a source has given: each byte as `Some` of it, and each end that a read answered as `None`. For a sink it has no
-- ends.
use Rattle.std.specs.Prelude.{◌≡◌, ℕ, Option, Some, None, List, [], ◌∷◌, ◌++◌, map, length, filter_map}

-- the bytes in it
abbrev pub bytes_in : List (Option ℕ) → List ℕ
bytes_in items = filter_map (λ item. item) items

-- these bytes were given next
abbrev pub Gives : List (Option ℕ) → List (Option ℕ) → List ℕ → Type 0
Gives before after bytes = after ≡ before ++ map Some bytes

-- these bytes were given next, and then an end
abbrev pub GivesAll : List (Option ℕ) → List (Option ℕ) → List ℕ → Type 0
GivesAll before after bytes = after ≡ before ++ (map Some bytes ++ None ∷ [])

-- n bytes were given next
abbrev pub GivesCount : List (Option ℕ) → List (Option ℕ) → ℕ → Type 0
GivesCount before after n = (bytes : List ℕ) × (length bytes ≡ n) × Gives before after bytes
