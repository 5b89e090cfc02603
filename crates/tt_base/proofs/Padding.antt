-- The bytes of a name with zeros after them.
use Rattle.std.proofs.Common.{◌≡◌, ℕ, zero, suc, ◌-◌, ◌≤◌, ◌<◌, true, false, not, nat_le, ◌==◌, List, [], ◌∷◌, ◌++◌, length, take, drop, get_or, replicate}
use Rattle.std.proofs.Common.{arith, ap, sym, ◌∙◌, refl, length-append}
use Rattle.std.specs.List.{list_all}
use Rattle.std.proofs.lemmas.Bool.{and_parts}
use Rattle.std.proofs.lemmas.Grind.{common_steps}
use Rattle.std.proofs.lemmas.List.{get_or_append_left, get_or-append_right, get_or-replicate, length-replicate}
use Rattle.std.proofs.lemmas.List.Sums.{prefix_len_is, AllPass-from_list_all}
use Rattle.std.proofs.Math.Seq.{take-append_seam}
use Rattle.tt_base.specs.Name.{is_letter, is_name_byte, is_rest_of_name, is_name, name_in, with_zeros, IsPadded}

-- a name has at most 16 bytes
pub name_few : (text : List ℕ) → is_name text ≡ true → length text ≤ 16
name_few [] is = omega arith
name_few (first ∷ rest) is = grind (arith, common_steps)

drop-zeros : (n m : ℕ) → drop n (replicate {A = ℕ} m 0) ≡ replicate {A = ℕ} (m - n) 0
drop-zeros zero m = grind (arith, common_steps)
drop-zeros (suc n) zero = grind (arith, common_steps)
drop-zeros (suc n) (suc m) = grind (arith, common_steps, drop-zeros n m)

letter_not_zero : (c : ℕ) → is_letter c ≡ true → (0 < c) × (c < 256)
letter_not_zero c is = grind (arith, common_steps)

name_byte_not_zero : (c : ℕ) → is_name_byte c ≡ true → (0 < c) × (c < 256)
name_byte_not_zero c is = grind (arith, common_steps)

-- the bytes of a name are not zero
pub not_zero : (name : List ℕ) (i : ℕ) → is_name name ≡ true → i < length name
    → (0 < get_or name i 0) × (get_or name i 0 < 256)
not_zero [] i is within = grind (arith, common_steps)
not_zero (first ∷ rest) zero is within = letter_not_zero first (and_parts (is_letter first) (is_rest_of_name rest) is).0
not_zero (first ∷ rest) (suc i) is within = name_byte_not_zero (get_or rest i 0)
    (AllPass-from_list_all is_name_byte rest (and_parts (list_all is_name_byte rest) (nat_le (length rest) 15)
    (and_parts (is_letter first) (is_rest_of_name rest) is).1).0 i 0 (omega (arith, within)))

-- a name with zeros after it holds that name
pub name_in_zeros : (name : List ℕ) (k : ℕ) → is_name name ≡ true → name_in (name ++ replicate k 0) ≡ name
name_in_zeros name k is =
    ap (λ n. take n (name ++ replicate k 0)) (prefix_len_is (λ b. not (b == 0)) (name ++ replicate k 0) (length name) 0
    (omega (arith, length-append name (replicate k 0)))
    (λ n within. tested (get_or name n 0) (name ++ replicate k 0) n (get_or_append_left name (replicate k 0) 0 n within)
    (not_zero name n is within).0)
    (λ more. ends more))
    ∙ take-append_seam name (replicate k 0)
  where
    tested : (b : ℕ) (bytes : List ℕ) (n : ℕ) → get_or bytes n 0 ≡ b → 0 < b → not (get_or bytes n 0 == 0) ≡ true
    tested b bytes n is some = grind (arith, common_steps)

    ends : length name < length (name ++ replicate k 0) → not (get_or (name ++ replicate k 0) (length name) 0 == 0) ≡ false
    ends more = ap (λ b. not (b == 0)) (get_or-append_right name (replicate k 0) (length name) (length name) 0 refl (omega arith)
        ∙ get_or-replicate k (length name - length name) 0 0
        (omega (arith, more, length-append name (replicate k 0), length-replicate {A = ℕ} k 0)))

rest_of_zeros : (n : ℕ) (zeros : List ℕ) → zeros ≡ replicate {A = ℕ} 16 0
    → drop n zeros ≡ replicate {A = ℕ} (16 - n) 0
rest_of_zeros n zeros is = ap (drop n) is ∙ drop-zeros n 16

-- A name followed by the rest of an array of zeros holds that name,
pub held : (text zeros : List ℕ) → zeros ≡ replicate {A = ℕ} 16 0 → is_name text ≡ true
    → name_in (text ++ drop (length text) zeros) ≡ text
held text zeros is named = ap (λ zs. name_in (text ++ zs)) (rest_of_zeros (length text) zeros is)
    ∙ name_in_zeros text (16 - length text) named

-- and is sixteen bytes of the form that a name has.
pub padded : (text zeros : List ℕ) → zeros ≡ replicate {A = ℕ} 16 0 → is_name text ≡ true
    → IsPadded (text ++ drop (length text) zeros)
padded text zeros is named = record {
  named = ap is_name (held text zeros is named) ∙ named;
  whole = ap with_zeros (held text zeros is named) ∙ ap (λ zs. text ++ zs) (sym (rest_of_zeros (length text) zeros is));
}
