-- The largest value of a function.
use Rattle.std.proofs.Common.{nat_cmp, ℕ, zero, suc, ◌≡◌, ◌<◌, ◌≤◌, ◌+◌, ap, arith, ⊎_elim}
use Rattle.std.specs.Prelude.{max}
use Rattle.std.specs.Ordering.{ord_max}
use Rattle.std.proofs.lemmas.Grind.{common_steps}
use Rattle.std.proofs.lemmas.Bool.{cases_lt}
use Rattle.schedule_check.specs.Windows.{largest}

module _ (f : ℕ → ℕ) where
  -- each value is at most the largest
  pub largest_at : (n k : ℕ) → k < n → f k ≤ largest f n
  unfolding largest
  largest_at zero k l = absurd (omega arith)
  largest_at (suc n) k l =
      ⊎_elim (λ (h : k < n). let r = largest_at n k h in omega arith)
      (λ (g : n ≤ k). let same : k ≡ n = omega arith in let e = ap f same in omega arith)
      (cases_lt k n)

  -- where each value is at most m, so is the largest
  pub largest_le : (n m : ℕ) → ((k : ℕ) → k < n → f k ≤ m) → largest f n ≤ m
  unfolding largest
  largest_le zero m h = omega arith
  largest_le (suc n) m h = let r = largest_le n m (λ k l. h k (omega arith)) in let here = h n (omega arith) in
      omega arith

  -- one number more
  pub largest_more : (n most x : ℕ) → most ≡ largest f n → x ≡ f n → max most x ≡ largest f (n + 1)
  unfolding largest
  largest_more n most x so_far here =
      let z : n + 1 ≡ suc n = omega arith in
      let same = ap (largest f) z in
      omega arith

-- the larger of two numbers
pub larger : (a b : ℕ) → ord_max nat_cmp a b ≡ max a b
larger a b = grind (arith, common_steps)
