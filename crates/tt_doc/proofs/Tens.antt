-- Powers of ten.
use Rattle.std.proofs.Common.{◌≡◌, ℕ, ◌+◌, ◌-◌, ◌^◌, ◌≤◌, zero, suc, arith, le_refl, add-zero, add-suc, subst}
use Rattle.std.proofs.Math.Nat.{pow-suc}

tens_more : (i j : ℕ) → 10 ^ i ≤ 10 ^ (i + j)
tens_more i zero = rw add-zero (le_refl _)
tens_more i (suc j) = rw (add-suc, pow-suc) (omega (arith, tens_more i j))

-- a greater power is no less
pub tens_rise : (i j : ℕ) → i ≤ j → 10 ^ i ≤ 10 ^ j
tens_rise i j h =
    let same : i + (j - i) ≡ j = omega arith in
    let P : ℕ → Type 0 = λ k. 10 ^ i ≤ 10 ^ k in subst P same (tens_more i (j - i))
