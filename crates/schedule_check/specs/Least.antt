-- The least number that passes a test.
use Rattle.std.specs.Prelude.{ℕ, zero, suc, ◌+◌, Bool, Option, None, Some, cond}

-- the least of n numbers from one on that passes a test, if there is one
unfoldable pub least : (ℕ → Bool) → (from n : ℕ) → Option ℕ
least test from zero = None
least test from (suc n) = cond (test from) (Some from) (least test (from + 1) n)
