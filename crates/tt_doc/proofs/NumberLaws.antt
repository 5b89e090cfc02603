-- Laws of numbers and integers: each is spelled in one way, and read back from it.
use Rattle.std.proofs.Common.{◌≡◌, ℕ, ◌+◌, ◌-◌, ◌*◌, ◌^◌, ◌<◌, ◌≤◌, zero, suc, Bool, true, false, ◌&&◌, ◌==◌, cond, List, [], ◌∷◌, length, get_or, fold, Option, Some, None, ℤ, pos, negsuc, refl, sym, ap, ◌∙◌, subst, arith, rules, w32, ◌⊎◌, inl, inr}
use Rattle.std.specs.Prelude.{nat_le, nat_lt, FitsSigned, IfSome}
use Rattle.std.specs.List.{list_all}
use Rattle.std.specs.Char.{is_ascii_digit}
use Rattle.std.specs.Fmt.{decimal, signed_decimal}
use Rattle.std.proofs.lemmas.Bool.{cond-true, cond-false, and_parts, and_from, false≢true, both_ways, not-true, not_from_false, eq-eqb, ne_eqb, eqb-true, cases_Bool, ltb-true, leb-true, lt-ltb, le-leb}
use Rattle.std.proofs.lemmas.Fmt.{digits_decimal, digits_value-decimal, decimal-digits_value, length-decimal-le, decimal_nonempty, first_decimal, decimal_digit}
use Rattle.std.proofs.lemmas.Str.Parse.{IsNumeralModel, numerals_by_fold, digits_value_short}
use Rattle.tt_doc.specs.Lines.{is_plain_byte}
use Rattle.tt_doc.specs.Words.{has_no_space, is_word}
use Rattle.tt_doc.specs.Numbers.{has_no_leading_zero, is_number, value_of, number_of, positive_of, negative_of, integer_of}

abbrev value_after : ℕ → List ℕ → ℕ
value_after = fold (λ n d. n * 10 + (d - 48))

-- the digits and the value are those that std knows
own : IsNumeralModel (λ ds. list_all is_ascii_digit ds ≡ true) value_of
own = numerals_by_fold _ (search rules) value_after (search rules)

leading : (text : List ℕ) → has_no_leading_zero text ≡ true
    → (0 < length text) × (get_or text 0 0 ≡ 48 → length text ≡ 1)
leading [] h = absurd (false≢true h)
leading (first ∷ []) h = (omega arith, λ e. refl)
leading (first ∷ (second ∷ rest)) h =
    (omega arith, λ e. absurd (both_ways (first == 48) (not-true (first == 48) h) (eq-eqb first 48 e)))

-- the spelling of a text that is a number, and the bound of its value
pub is_number-spelled : (text : List ℕ) → is_number text ≡ true
    → (text ≡ decimal (value_of text)) × (value_of text < 10 ^ 12)
is_number-spelled text h =
    let two = and_parts (list_all is_ascii_digit text && nat_le (length text) 12) (has_no_leading_zero text) h in
    let one = and_parts (list_all is_ascii_digit text) (nat_le (length text) 12) two.0 in
    let short : length text ≤ 12 = leb-true (length text) 12 one.1 in
    let small = digits_value_short own text 12 one.0 short in
    let front = leading text two.1 in
    (sym (decimal-digits_value own text one.0 front.0 front.1 (omega (arith, small))), small)

some_where : {X : Type 0} (t : Bool) (v x : X) → cond t (Some v) None ≡ Some x → (t ≡ true) × (v ≡ x)
some_where true v x h = (refl, cc)
some_where false v x h = cc

-- a number's text is its decimal spelling, and it is below 10^12
pub number_of-spelled : (text : List ℕ) (n : ℕ) → number_of text ≡ Some n → (text ≡ decimal n) × (n < 10 ^ 12)
number_of-spelled text n h =
    let parts = some_where (is_number text) (value_of text) n h in
    let P : ℕ → Type 0 = λ v. (text ≡ decimal v) × (v < 10 ^ 12) in
    subst P parts.1 (is_number-spelled text parts.0)

no_leading : (text : List ℕ) → 0 < length text → (get_or text 0 0 ≡ 48 → length text ≡ 1)
    → has_no_leading_zero text ≡ true
no_leading [] some front = absurd (omega arith)
no_leading (first ∷ []) some front = refl
no_leading (first ∷ (second ∷ rest)) some front =
    not_from_false (first == 48) (ne_eqb first 48 (λ e. let one = front e in absurd (omega arith)))

front_of_decimal : (n : ℕ) → n < 10 ^ 12 → get_or (decimal n) 0 0 ≡ 48 → length (decimal n) ≡ 1
front_of_decimal zero small e = ap (length {A = ℕ}) (decimal_digit 0 (omega arith))
front_of_decimal (suc n) small e = absurd (omega (arith, first_decimal (suc n) (omega arith) (omega arith)))

is_number-decimal : (n : ℕ) → n < 10 ^ 12 → is_number (decimal n) ≡ true
is_number-decimal n small =
    let big : n < 2 ^ 64 = omega arith in
    and_from (list_all is_ascii_digit (decimal n) && nat_le (length (decimal n)) 12) (has_no_leading_zero (decimal n))
    (and_from (list_all is_ascii_digit (decimal n)) (nat_le (length (decimal n)) 12) (digits_decimal own n big)
    (le-leb (length (decimal n)) 12 (length-decimal-le 12 n (omega arith) small big)))
    (no_leading (decimal n) (decimal_nonempty n big) (front_of_decimal n small))

-- a number below 10^12 is read from its decimal spelling
pub number_of-decimal : (n : ℕ) → n < 10 ^ 12 → number_of (decimal n) ≡ Some n
number_of-decimal n small =
    cond-true (is_number (decimal n)) (Some (value_of (decimal n))) None (is_number-decimal n small)
    ∙ ap (λ v. Some v) (digits_value-decimal own n (omega arith))

digits_of_number : (text : List ℕ) (n : ℕ) → number_of text ≡ Some n → list_all is_ascii_digit text ≡ true
digits_of_number text n h =
    let parts = some_where (is_number text) (value_of text) n h in
    let two = and_parts (list_all is_ascii_digit text && nat_le (length text) 12) (has_no_leading_zero text) parts.0 in
    (and_parts (list_all is_ascii_digit text) (nat_le (length text) 12) two.0).0

bounds_of_digit : (b : ℕ) → is_ascii_digit b ≡ true → (48 ≤ b) × (b ≤ 57)
bounds_of_digit b h = let parts = and_parts (nat_le 48 b) (nat_le b 57) h in
    (leb-true 48 b parts.0, leb-true b 57 parts.1)

plain_from_digits : (text : List ℕ) → list_all is_ascii_digit text ≡ true → list_all is_plain_byte text ≡ true
plain_from_digits [] digits = refl
plain_from_digits (b ∷ bytes) digits =
    let parts = and_parts (is_ascii_digit b) (list_all is_ascii_digit bytes) digits in
    let bounds = bounds_of_digit b parts.0 in
    and_from (is_plain_byte b) (list_all is_plain_byte bytes)
    (and_from (nat_le 32 b) (nat_le b 126) (le-leb 32 b (omega (arith, bounds))) (le-leb b 126 (omega (arith, bounds))))
    (plain_from_digits bytes parts.1)

no_space_from_digits : (text : List ℕ) → list_all is_ascii_digit text ≡ true → has_no_space text ≡ true
no_space_from_digits [] digits = refl
no_space_from_digits (b ∷ bytes) digits =
    let parts = and_parts (is_ascii_digit b) (list_all is_ascii_digit bytes) digits in
    let bounds = bounds_of_digit b parts.0 in
    cond-false (b == 32) false (has_no_space bytes) (ne_eqb b 32 (λ e. omega (arith, bounds)))
    ∙ no_space_from_digits bytes parts.1

-- a number's text has no control byte and nothing past the tilde
pub number_is_plain : (text : List ℕ) (n : ℕ) → number_of text ≡ Some n → list_all is_plain_byte text ≡ true
number_is_plain text n h = plain_from_digits text (digits_of_number text n h)

-- a number's text can be a word
pub number_is_word : (text : List ℕ) (n : ℕ) → number_of text ≡ Some n → is_word text ≡ true
number_is_word [] n h = cc
number_is_word (b ∷ bytes) n h = no_space_from_digits (b ∷ bytes) (digits_of_number (b ∷ bytes) n h)

pub spelled_if_some : (o : Option ℕ) (text : List ℕ) → o ≡ number_of text → IfSome o (λ n. text ≡ decimal n)
spelled_if_some None text is = tt
spelled_if_some (Some n) text is = (number_of-spelled text n (sym is)).0

pub small_if_some : (o : Option ℕ) (text : List ℕ) → o ≡ number_of text → IfSome o (λ n. n < 10 ^ 12)
small_if_some None text is = tt
small_if_some (Some n) text is = (number_of-spelled text n (sym is)).1

positive_parts : (o : Option ℕ) (z : ℤ) → positive_of o ≡ Some z → (n : ℕ) × (o ≡ Some n) × (z ≡ pos n) × (n < 2 ^ 31)
positive_parts None z h = cc
positive_parts (Some n) z h =
    let parts = some_where (nat_lt n (2 ^ 31)) (pos n) z h in
    (n, refl, sym parts.1, ltb-true n (2 ^ 31) parts.0)

negative_parts : (o : Option ℕ) (z : ℤ) → negative_of o ≡ Some z
    → (n : ℕ) × (o ≡ Some (suc n)) × (z ≡ negsuc n) × (n < 2 ^ 31)
negative_parts None z h = cc
negative_parts (Some zero) z h = cc
negative_parts (Some (suc n)) z h =
    let parts = some_where (nat_lt n (2 ^ 31)) (negsuc n) z h in
    (n, refl, sym parts.1, ltb-true n (2 ^ 31) parts.0)

abbrev Spells : List ℕ → ℤ → Type 0
Spells text z = (text ≡ signed_decimal z) × FitsSigned w32 z

positive_spelled : (text : List ℕ) (z : ℤ) → positive_of (number_of text) ≡ Some z → Spells text z
positive_spelled text z h =
    let parts = positive_parts (number_of text) z h in
    let spelled = number_of-spelled text parts.0 parts.1 in
    subst (Spells text) (sym parts.2) (spelled.0, record { sfits = parts.3 })

negative_spelled : (rest : List ℕ) (z : ℤ) → negative_of (number_of rest) ≡ Some z → Spells (45 ∷ rest) z
negative_spelled rest z h =
    let parts = negative_parts (number_of rest) z h in
    let spelled = number_of-spelled rest (suc parts.0) parts.1 in
    subst (Spells (45 ∷ rest)) (sym parts.2) (ap (λ digits. 45 ∷ digits) spelled.0, record { sfits = parts.3 })

integer_cases : (first : ℕ) (rest : List ℕ) (z : ℤ) → integer_of (first ∷ rest) ≡ Some z
    → ((first ≡ 45) × (negative_of (number_of rest) ≡ Some z)) ⊎ (positive_of (number_of (first ∷ rest)) ≡ Some z)
integer_cases first rest z h =
    elim (cases_Bool (first == 45)) [
      | inl e ↦ inl (
        eqb-true first 45 e,
        sym (cond-true (first == 45) (negative_of (number_of rest)) (positive_of (number_of (first ∷ rest))) e) ∙ h,
      )
      | inr e ↦ inr (sym (cond-false (first == 45) (negative_of (number_of rest))
          (positive_of (number_of (first ∷ rest))) e) ∙ h)
    ]

-- an integer's text is its signed decimal spelling, and it fits 32 bits
pub integer_of-spelled : (text : List ℕ) (z : ℤ) → integer_of text ≡ Some z
    → (text ≡ signed_decimal z) × FitsSigned w32 z
integer_of-spelled [] z h = cc
integer_of-spelled (first ∷ rest) z h =
    elim (integer_cases first rest z h) [
      | inl minus ↦ let P : ℕ → Type 0 = λ b. Spells (b ∷ rest) z in
          subst P (sym minus.0) (negative_spelled rest z minus.1)
      | inr plus ↦ positive_spelled (first ∷ rest) z plus
    ]

positive_read : (text : List ℕ) (n : ℕ) → number_of text ≡ Some n → n < 2 ^ 31 → integer_of text ≡ Some (pos n)
positive_read [] n h small = cc
positive_read (first ∷ rest) n h small =
    let digit = bounds_of_digit first
    (and_parts (is_ascii_digit first) (list_all is_ascii_digit rest) (digits_of_number (first ∷ rest) n h)).0 in
    cond-false (first == 45) (negative_of (number_of rest)) (positive_of (number_of (first ∷ rest)))
    (ne_eqb first 45 (λ e. omega (arith, digit)))
    ∙ ap positive_of h
    ∙ cond-true (nat_lt n (2 ^ 31)) (Some (pos n)) None (lt-ltb n (2 ^ 31) small)

-- an integer of 32 bits is read from its signed decimal spelling
pub integer_of-signed_decimal : (z : ℤ) → FitsSigned w32 z → integer_of (signed_decimal z) ≡ Some z
integer_of-signed_decimal (pos n) fits =
    positive_read (decimal n) n (number_of-decimal n (omega (arith, fits.sfits))) fits.sfits
integer_of-signed_decimal (negsuc n) fits =
    ap negative_of (number_of-decimal (suc n) (omega (arith, fits.sfits)))
    ∙ cond-true (nat_lt n (2 ^ 31)) (Some (negsuc n)) None (lt-ltb n (2 ^ 31) fits.sfits)

-- an integer's text has no control byte and nothing past the tilde
pub integer_is_plain : (text : List ℕ) (z : ℤ) → integer_of text ≡ Some z → list_all is_plain_byte text ≡ true
integer_is_plain [] z h = cc
integer_is_plain (first ∷ rest) z h =
    elim (integer_cases first rest z h) [
      | inl minus ↦
          let parts = negative_parts (number_of rest) z minus.1 in
          let P : ℕ → Type 0 = λ b. list_all is_plain_byte (b ∷ rest) ≡ true in
          subst P (sym minus.0) (number_is_plain rest (suc parts.0) parts.1)
      | inr plus ↦ let parts = positive_parts (number_of (first ∷ rest)) z plus in
          number_is_plain (first ∷ rest) parts.0 parts.1
    ]

-- an integer's text can be a word
pub integer_is_word : (text : List ℕ) (z : ℤ) → integer_of text ≡ Some z → is_word text ≡ true
integer_is_word [] z h = cc
integer_is_word (first ∷ rest) z h =
    elim (integer_cases first rest z h) [
      | inl minus ↦
          let parts = negative_parts (number_of rest) z minus.1 in
          let P : ℕ → Type 0 = λ b. is_word (b ∷ rest) ≡ true in
          subst P (sym minus.0) (no_space_from_digits rest (digits_of_number rest (suc parts.0) parts.1))
      | inr plus ↦ let parts = positive_parts (number_of (first ∷ rest)) z plus in
          number_is_word (first ∷ rest) parts.0 parts.1
    ]

pub decimal_is_plain : (n : ℕ) → n < 10 ^ 12 → list_all is_plain_byte (decimal n) ≡ true
decimal_is_plain n small = number_is_plain (decimal n) n (number_of-decimal n small)

pub decimal_is_word : (n : ℕ) → n < 10 ^ 12 → is_word (decimal n) ≡ true
decimal_is_word n small = number_is_word (decimal n) n (number_of-decimal n small)

pub signed_decimal_is_plain : (z : ℤ) → FitsSigned w32 z → list_all is_plain_byte (signed_decimal z) ≡ true
signed_decimal_is_plain z fits = integer_is_plain (signed_decimal z) z (integer_of-signed_decimal z fits)

pub signed_decimal_is_word : (z : ℤ) → FitsSigned w32 z → is_word (signed_decimal z) ≡ true
signed_decimal_is_word z fits = integer_is_word (signed_decimal z) z (integer_of-signed_decimal z fits)

pub ruleset number_laws = (
  number_of-spelled,
  number_of-decimal,
  number_is_plain,
  number_is_word,
  integer_of-spelled,
  integer_of-signed_decimal,
  integer_is_plain,
  integer_is_word,
)
