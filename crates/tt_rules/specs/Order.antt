-- Lists in order.
use Rattle.std.specs.Prelude.{ℕ, zero, suc, Bool, List, [], ◌∷◌, ◌++◌, if◌then◌else◌}

-- one more item in a list that ascends
abbrev pub inserted : {A : Type 0} → (A → A → Bool) → A → List A → List A
inserted is_before x [] = x ∷ []
inserted is_before x (y ∷ ys) = if is_before y x then y ∷ inserted is_before x ys else x ∷ y ∷ ys

-- a list in ascending order
abbrev pub ascending : {A : Type 0} → (A → A → Bool) → List A → List A
ascending is_before [] = []
ascending is_before (x ∷ xs) = inserted is_before x (ascending is_before xs)

-- the numbers below this one
abbrev pub below : ℕ → List ℕ
below zero = []
below (suc n) = below n ++ n ∷ []
