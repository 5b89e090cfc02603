-- What a name is: the bytes that name a declared thing.
use Rattle.std.specs.Prelude.{◌≡◌, ℕ, ◌-◌, Bool, true, false, IsTrue, ◌&&◌, ◌||◌, ◌==◌, nat_le}
use Rattle.std.specs.Prelude.{List, [], ◌∷◌, ◌++◌, length, replicate}
use Rattle.std.specs.Hash as fed
use Rattle.std.specs.Int.{from_le_bytes, w128}
use Rattle.std.specs.List.{list_all, before_first}
use Rattle.std.specs.Str.{bytes_eq}
use Rattle.std.proofs.Common.{ap}
use Rattle.std.proofs.lemmas.Slice.Eq.{bytes_eq-Decides}

-- `_`, or a letter of either case
abbrev pub is_letter : ℕ → Bool
is_letter c = (c == 95) || ((nat_le 65 c && nat_le c 90) || (nat_le 97 c && nat_le c 122))

abbrev pub is_digit : ℕ → Bool
is_digit c = nat_le 48 c && nat_le c 57

abbrev pub is_name_byte : ℕ → Bool
is_name_byte c = is_letter c || is_digit c

-- what may follow the first byte of a name
abbrev pub is_rest_of_name : List ℕ → Bool
is_rest_of_name rest = list_all is_name_byte rest && nat_le (length rest) 15

-- 1 to 16 bytes: a letter or `_`, and then letters, digits or `_`
abbrev pub is_name : List ℕ → Bool
is_name [] = false
is_name (first ∷ rest) = is_letter first && is_rest_of_name rest

-- a name with zeros after it, sixteen bytes in all
abbrev pub with_zeros : List ℕ → List ℕ
with_zeros name = name ++ replicate (16 - length name) 0

-- the name in sixteen bytes: what stands before the first zero
abbrev pub name_in : List ℕ → List ℕ
name_in bytes = before_first (λ b. b == 0) bytes

-- sixteen bytes that hold a name, with zeros after it
pub record IsPadded (bytes : List ℕ) : Type 0 where
  pub named : is_name (name_in bytes) ≡ true
  pub whole : with_zeros (name_in bytes) ≡ bytes

-- a name with zeros after it as one number, which is what is hashed
unfoldable pub number_of_name : List ℕ → ℕ
number_of_name name = from_le_bytes w128 (with_zeros name)

-- equal names have the same number
pub same_number : (a b : List ℕ) → IsTrue (bytes_eq a b) → fed.u128 (number_of_name a) ≡ fed.u128 (number_of_name b)
same_number a b same = ap (λ n. fed.u128 (number_of_name n)) ((bytes_eq-Decides a b).0 same)
