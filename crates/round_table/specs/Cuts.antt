-- Where a list is cut by a test.
use Rattle.std.specs.Prelude.{◌≡◌, ℕ, ◌≤◌, ◌<◌, Bool, true, false, List, length, slice_index_or}

-- the elements before a place pass a test, and those from the place on do not
pub record IsCut {X : Type 0} (test : X → Bool) (xs : List X) (place : ℕ) : Type 0 where
  pub within : place ≤ length xs
  pub front : (k : ℕ) (d : X) → k < place → test (slice_index_or xs k d) ≡ true
  pub back : (k : ℕ) (d : X) → place ≤ k → k < length xs → test (slice_index_or xs k d) ≡ false
