-- The last two digits of a number, and how they are changed in place.
use Rattle.std.proofs.Common.{◌≡◌, ℕ, ◌+◌, ◌-◌, ◌/◌, ◌%◌, ◌^◌, ◌<◌, ◌≤◌, List, [], ◌∷◌, ◌++◌, length, take, drop, refl, sym, ap, ◌∙◌, arith, append_assoc, length-append}
use Rattle.std.proofs.Math.ListN.{set}
use Rattle.std.proofs.Math.Seq.{set-append_seam, take-append-add}
use Rattle.std.proofs.lemmas.List.{set-append_right, take-append-drop, length-take-le}
use Rattle.std.proofs.lemmas.Fmt.{decimal_step}
use Rattle.std.specs.Fmt.{decimal}
use Rattle.trace_text.specs.Stamp.{IsStamp}

-- a number's digits: those of its hundreds, and two more
decimal_two : (n : ℕ) → 100 ≤ n → n < 2 ^ 64
    → decimal n ≡ decimal (n / 100) ++ (48 + n % 100 / 10) ∷ (48 + n % 10) ∷ []
decimal_two n big small =
    let hundreds : n / 10 / 10 ≡ n / 100 = omega arith in
    let tens : n / 10 % 10 ≡ n % 100 / 10 = omega arith in
    decimal_step n (omega arith) small
    ∙ ap (λ t. t ++ (48 + n % 10) ∷ []) (decimal_step (n / 10) (omega arith) (omega arith))
    ∙ append_assoc (decimal (n / 10 / 10)) ((48 + n / 10 % 10) ∷ []) ((48 + n % 10) ∷ [])
    ∙ ap (λ k. decimal k ++ (48 + n / 10 % 10) ∷ (48 + n % 10) ∷ []) hundreds
    ∙ ap (λ k. decimal (n / 100) ++ (48 + k) ∷ (48 + n % 10) ∷ []) tens

-- two places after a prefix are changed
set_two : (front : List ℕ) (x y a b : ℕ) (rest : List ℕ)
    → take (length front + 2) (set (set (front ++ x ∷ y ∷ rest) (length front) a) (length front + 1) b)
    ≡ front ++ a ∷ b ∷ []
set_two front x y a b rest =
    let one : length front + 1 - length front ≡ 1 = omega arith in
    ap (λ t. take (length front + 2) (set t (length front + 1) b)) (set-append_seam front x (y ∷ rest) a)
    ∙ ap (take (length front + 2))
    (set-append_right front (a ∷ y ∷ rest) (length front) (length front + 1) b refl (omega arith)
    ∙ ap (λ k. front ++ set (a ∷ y ∷ rest) k b) one)
    ∙ take-append-add front (a ∷ b ∷ rest) 2

-- the digits of a number, changed in place into those of one with the same hundreds
last_two : (text : List ℕ) (len old at a b : ℕ)
    → take len text ≡ decimal old → len ≤ length text → 100 ≤ old → old < 2 ^ 64 → at < 2 ^ 64 → old / 100 ≡ at / 100
    → a ≡ 48 + at % 100 / 10 → b ≡ 48 + at % 10
    → (2 ≤ len) × (take len (set (set text (len - 2) a) (len - 1) b) ≡ decimal at)
last_two text len old at a b is inside big small small_at same a_is b_is =
    let front = decimal (old / 100) in
    let x = 48 + old % 100 / 10 in
    let y = 48 + old % 10 in
    let rest = drop len text in
    let e : take len text ≡ front ++ x ∷ y ∷ [] = is ∙ decimal_two old big small in
    let n : len ≡ length front + 2 =
    sym (length-take-le len text inside) ∙ ap length e ∙ length-append front (x ∷ y ∷ []) in
    let whole : text ≡ front ++ x ∷ y ∷ rest =
    sym (take-append-drop len text) ∙ ap (λ t. t ++ rest) e ∙ append_assoc front (x ∷ y ∷ []) rest in
    let before : len - 2 ≡ length front = omega arith in
    let last : len - 1 ≡ length front + 1 = omega arith in (
      omega arith,
      ap (λ t. take len (set (set t (len - 2) a) (len - 1) b)) whole
          ∙ ap (λ k. take len (set (set (front ++ x ∷ y ∷ rest) k a) (len - 1) b)) before
          ∙ ap (λ k. take len (set (set (front ++ x ∷ y ∷ rest) (length front) a) k b)) last
          ∙ ap (λ k. take k (set (set (front ++ x ∷ y ∷ rest) (length front) a) (length front + 1) b)) n
          ∙ set_two front x y a b rest
          ∙ ap (λ k. decimal k ++ a ∷ b ∷ []) same
          ∙ ap (λ k. decimal (at / 100) ++ k ∷ b ∷ []) a_is
          ∙ ap (λ k. decimal (at / 100) ++ (48 + at % 100 / 10) ∷ k ∷ []) b_is
          ∙ sym (decimal_two at (omega arith) small_at),
    )

-- a stamp goes on within its hundreds
pub moved : (text : List ℕ) (len old hundreds at : ℕ) → length text ≡ 24 → IsStamp old text len hundreds
    → 100 ≤ hundreds → hundreds ≤ at → at - hundreds < 100 → at < 2 ^ 64
    → (2 ≤ len) × IsStamp at
    (set (set text (len - 2) (48 + (at - hundreds) / 10)) (len - 1) (48 + (at - hundreds) % 10)) len hundreds
moved text len old hundreds at long is some from below small =
    let sum : hundreds + old % 100 ≡ old = is.2 in
    let past : at - hundreds ≡ at % 100 = omega (arith, is.2) in
    let same : old / 100 ≡ at / 100 = omega (arith, is.2) in
    let last : at % 100 % 10 ≡ at % 10 = omega arith in
    let two = last_two text len old at (48 + (at - hundreds) / 10) (48 + (at - hundreds) % 10)
    is.0 (omega (arith, is.1)) (omega (arith, is.2)) is.3 small same
    (ap (λ k. 48 + k / 10) past) (ap (λ k. 48 + k % 10) past ∙ ap (λ k. 48 + k) last) in
    (two.0, (two.1, is.1, omega (arith, past), small))
