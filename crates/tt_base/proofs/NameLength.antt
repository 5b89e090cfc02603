-- How long a name is, from the zeros at the front of its bytes as one number.
use Rattle.std.proofs.Common.{◌≡◌, ℕ, zero, suc, ◌-◌, ◌+◌, ◌*◌, ◌/◌, ◌^◌, ◌≤◌, ◌<◌, true, List, [], ◌∷◌, length, get_or, ◌++◌, replicate}
use Rattle.std.proofs.Common.{arith, ap, sym, subst, ◌∙◌, refl}
use Rattle.std.specs.Int.{byte_worth, sum_through, leading_zeros, w128}
use lib.Count.{count_leading_zeros}
use Rattle.std.proofs.lemmas.Grind.{common_steps}
use Rattle.std.proofs.lemmas.List.{get_or_append_left}
use Rattle.std.proofs.lemmas.Nat.{leading_length, mul-le, pow-add}
use Rattle.std.proofs.Math.Nat.{pow-suc, pow-le-pow_right, zero-mul, lt_of_not-le}
use Rattle.tt_base.specs.Name.{is_name, number_of_name}
use Rattle.tt_base.proofs.Padding.{not_zero, name_few}

-- the number whose bytes from the lowest up are these, up to byte k
abbrev number : (ℕ → ℕ) → ℕ → ℕ
number byte k = sum_through (λ i. byte_worth i (byte i)) k

-- bytes 0 to k are below 256 to the power of k + 1
all_below : (byte : ℕ → ℕ) → ((i : ℕ) → byte i < 256) → (k : ℕ) → number byte k < 256 ^ suc k
all_below byte small zero = small 0
all_below byte small (suc k) = omega (
  arith,
  all_below byte small k,
  pow-suc 256 (suc k),
  mul-le (byte (suc k)) (256 ^ suc k) 255 (256 ^ suc k) (omega (arith, small (suc k))) (omega arith),
)

-- The bytes above byte m add nothing where they are zero.
below_top : (byte : ℕ → ℕ) (m : ℕ) → ((i : ℕ) → byte i < 256) → ((i : ℕ) → m < i → byte i ≡ 0)
    → (more k : ℕ) → k ≡ more + m → number byte k < 256 ^ suc m
below_top byte m small zeros zero k is =
    subst (λ k. number byte k < 256 ^ suc m) {x = m} {y = k} (omega (arith, is)) (all_below byte small m)
below_top byte m small zeros (suc more) k is =
    let nothing : byte (suc (more + m)) * 256 ^ suc (more + m) ≡ 0 =
    ap (λ b. b * 256 ^ suc (more + m)) (zeros (suc (more + m)) (omega arith)) ∙ zero-mul (256 ^ suc (more + m)) in
    let before = below_top byte m small zeros more (more + m) refl in
    subst (λ k. number byte k < 256 ^ suc m) {x = suc (more + m)} {y = k} (omega (arith, is)) (omega (arith, before, nothing))

-- A byte m that is not zero adds at least 256 to the power of m.
top_above : (byte : ℕ → ℕ) (m : ℕ) → 0 < byte m → 256 ^ m ≤ number byte m
top_above byte zero some = some
top_above byte (suc m) some = omega (arith, mul-le 1 (256 ^ suc m) (byte (suc m)) (256 ^ suc m) some (omega arith))

above_top : (byte : ℕ → ℕ) (m : ℕ) → 0 < byte m → (more k : ℕ) → k ≡ more + m → 256 ^ m ≤ number byte k
above_top byte m some zero k is =
    subst (λ k. 256 ^ m ≤ number byte k) {x = m} {y = k} (omega (arith, is)) (top_above byte m some)
above_top byte m some (suc more) k is =
    let before = above_top byte m some more (more + m) refl in
    subst (λ k. 256 ^ m ≤ number byte k) {x = suc (more + m)} {y = k} (omega (arith, is)) (omega (arith, before))

power_of_two : (k : ℕ) → 256 ^ k ≡ 2 ^ (8 * k)
power_of_two zero = refl
power_of_two (suc k) = pow-suc 256 k ∙ ap (λ p. p * 256) (power_of_two k) ∙ sym (pow-add 2 (8 * k) 8)
    ∙ ap (λ e. 2 ^ e) (omega arith)

-- A number from 256 to the power of m up, and below the next power, has 15 - m zero bytes at its front.
zeros_of : (n m : ℕ) → m ≤ 15 → 256 ^ m ≤ n → n < 256 ^ suc m → count_leading_zeros 128 n / 8 ≡ 15 - m
zeros_of n m few above below =
    let fits : n < 2 ^ 128 =
    omega (arith, below, pow-le-pow_right {n = 256} (omega arith) {i = suc m} {j = 16} (omega (arith, few))) in
    let top = leading_length 128 n fits in
    let over : 8 * m < top.0 = lt_of_not-le (λ (small : top.0 ≤ 8 * m).
    omega (arith, top.2, above, power_of_two m, pow-le-pow_right {n = 2} (omega arith) {i = top.0} {j = 8 * m} small)) in
    let doubled : 2 ^ (8 * m + 9) ≡ 2 ^ (8 * suc m) * 2 =
    ap (λ e. 2 ^ e) {x = 8 * m + 9} {y = 8 * suc m + 1} (omega arith) ∙ pow-add 2 (8 * suc m) 1 in
    let under : top.0 < 8 * m + 9 = lt_of_not-le (λ (large : 8 * m + 9 ≤ top.0).
    omega (
      arith,
      top.3,
      below,
      power_of_two (suc m),
      doubled,
      pow-le-pow_right {n = 2} (omega arith) {i = 8 * m + 9} {j = top.0} large,
    )) in
    omega (arith, over, under, top.1, few)

zero_after : (k i : ℕ) → get_or (replicate {A = ℕ} k 0) i 0 ≡ 0
zero_after zero i = grind (arith, common_steps)
zero_after (suc k) zero = refl
zero_after (suc k) (suc i) = zero_after k i

-- after a list only its zeros stand
zero_from : (xs : List ℕ) (k i : ℕ) → length xs ≤ i → get_or (xs ++ replicate k 0) i 0 ≡ 0
zero_from [] k i from = zero_after k i
zero_from (x ∷ xs) k zero from = grind (arith, common_steps)
zero_from (x ∷ xs) k (suc i) from = zero_from xs k i (omega (arith, from))

small_at : (xs : List ℕ) (k i : ℕ) → ((j : ℕ) → j < length xs → get_or xs j 0 < 256)
    → get_or (xs ++ replicate k 0) i 0 < 256
small_at [] k i small = omega (arith, zero_after k i)
small_at (x ∷ xs) k zero small = small 0 (omega arith)
small_at (x ∷ xs) k (suc i) small = small_at xs k i (λ j within. small (suc j) (omega (arith, within)))

-- The length of a name is 16 less the zero bytes at the front of its number.
pub length_is : (name : List ℕ) → is_name name ≡ true → 16 - leading_zeros w128 (number_of_name name) / 8 ≡ length name
unfolding number_of_name
length_is [] is = grind (arith, common_steps)
length_is (first ∷ rest) is = omega (arith, few, zeros)
  where
    byte : ℕ → ℕ
    byte i = get_or ((first ∷ rest) ++ replicate (16 - length (first ∷ rest)) 0) i 0

    few : length rest ≤ 15
    few = omega (arith, name_few (first ∷ rest) is)

    whole : 15 ≡ (16 - length (first ∷ rest)) + length rest
    whole = omega (arith, few)

    small : (i : ℕ) → byte i < 256
    small i = small_at (first ∷ rest) (16 - length (first ∷ rest)) i (λ j within. (not_zero (first ∷ rest) j is within).1)

    own : byte (length rest) ≡ get_or (first ∷ rest) (length rest) 0
    own = get_or_append_left (first ∷ rest) (replicate (16 - length (first ∷ rest)) 0) 0 (length rest) (omega arith)

    last : 0 < byte (length rest)
    last = omega (arith, own, (not_zero (first ∷ rest) (length rest) is (omega arith)).0)

    zeros : leading_zeros w128 (number_of_name (first ∷ rest)) / 8 ≡ 15 - length rest
    zeros = zeros_of (number byte 15) (length rest) few
        (above_top byte (length rest) last (16 - length (first ∷ rest)) 15 whole)
        (below_top byte (length rest) small (λ i after. zero_from (first ∷ rest) (16 - length (first ∷ rest)) i after)
        (16 - length (first ∷ rest)) 15 whole)
