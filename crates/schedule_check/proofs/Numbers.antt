-- Sums over numbers from one on.
use Rattle.std.proofs.Common.{ℕ, zero, suc, ◌≡◌, ◌+◌, ap, arith}
use Rattle.std.specs.Prelude.{sum_by}
use Rattle.std.specs.List.{range_with_len}
use Rattle.std.proofs.lemmas.List.Sums.{sum_by-cons}

-- a sum over one number more
pub sum_more : (f : ℕ → ℕ) (from n : ℕ)
    → sum_by f (range_with_len from (suc n)) ≡ sum_by f (range_with_len from n) + f (from + n)
sum_more f from zero =
    let a = sum_by-cons f from (range_with_len (from + 1) zero) in
    let z : from + zero ≡ from = omega arith in
    let same = ap f z in
    omega arith
sum_more f from (suc n) =
    let a = sum_by-cons f from (range_with_len (from + 1) (suc n)) in
    let b = sum_by-cons f from (range_with_len (from + 1) n) in
    let r = sum_more f (from + 1) n in
    let z : (from + 1) + n ≡ from + suc n = omega arith in
    let same = ap f z in
    omega arith

pub sum_push : (f : ℕ → ℕ) (n x : ℕ) → x ≡ f n → sum_by f (range_with_len 0 n) + x ≡ sum_by f (range_with_len 0 (n + 1))
sum_push f n x is =
    let z : n + 1 ≡ suc n = omega arith in
    let y : 0 + n ≡ n = omega arith in
    let more = sum_more f 0 n in
    let same = ap f y in
    let last = ap (λ k. sum_by f (range_with_len 0 k)) z in
    omega arith
