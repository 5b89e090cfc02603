-- Lists that are laid out number after number.
use Rattle.std.specs.Prelude.{ℕ, zero, suc, List, [], ◌++◌}

-- what there is at each number below this one, one number after another
unfoldable pub below : {X : Type 0} → (ℕ → List X) → ℕ → List X
below at zero = []
below at (suc n) = below at n ++ at n
