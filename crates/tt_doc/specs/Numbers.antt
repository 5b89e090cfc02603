-- The numbers of a document, and how each is spelled.
use Rattle.std.specs.Prelude.{ℕ, zero, suc, ◌+◌, ◌-◌, ◌*◌, ◌^◌, ◌==◌, ◌&&◌, not, nat_le, nat_lt, Bool, true, false, List, [], ◌∷◌, length, fold, ℤ, pos, negsuc, Option, Some, None, if◌then◌else◌}
use Rattle.std.specs.List.{list_all}
use Rattle.std.specs.Char.{is_ascii_digit}

-- no needless leading zero
abbrev pub has_no_leading_zero : List ℕ → Bool
has_no_leading_zero [] = false
has_no_leading_zero (first ∷ []) = true
has_no_leading_zero (first ∷ (second ∷ rest)) = not (first == 48)

-- a number: 1 to 12 decimal digits, without a leading zero unless it is `0`
abbrev pub is_number : List ℕ → Bool
is_number text = (list_all is_ascii_digit text && nat_le (length text) 12) && has_no_leading_zero text

-- what digits are worth
abbrev pub value_of : List ℕ → ℕ
value_of digits = fold (λ n d. n * 10 + (d - 48)) 0 digits

-- a text as a number
abbrev pub number_of : List ℕ → Option ℕ
number_of text = if is_number text then Some (value_of text) else None

-- the integer of a number, from 0 to 2147483647
abbrev pub positive_of : Option ℕ → Option ℤ
positive_of None = None
positive_of (Some n) = if nat_lt n (2 ^ 31) then Some (pos n) else None

-- the integer of a number after a `-`, from -1 to -2147483648
abbrev pub negative_of : Option ℕ → Option ℤ
negative_of None = None
negative_of (Some zero) = None
negative_of (Some (suc n)) = if nat_lt n (2 ^ 31) then Some (negsuc n) else None

-- a text as an integer: a number, or `-` and a number other than `0`, in the range of 32 signed bits
abbrev pub integer_of : List ℕ → Option ℤ
integer_of [] = None
integer_of (first ∷ rest) = if first == 45 then negative_of (number_of rest) else positive_of (number_of (first ∷ rest))
