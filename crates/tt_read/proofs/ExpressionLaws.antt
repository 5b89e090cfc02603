-- An expression as it is read term by term.
use Rattle.std.proofs.Common.{◌≡◌, ℕ, zero, suc, ◌+◌, ◌-◌, ◌≤◌, ◌<◌, List, [], ◌∷◌, ◌++◌, length, Option, Some, None, refl, sym, ap, ◌∙◌, subst, arith}
use Rattle.std.specs.Prelude.{option_map}
use Rattle.std.proofs.lemmas.List.{append_assoc}
use Rattle.tt_rows.specs.declared.row.Term.{Term}
use Rattle.tt_rows.specs.declared.row.Term.TheVariants as term
use Rattle.tt_rows.specs.Sound.{are_expressions}
use Rattle.tt_read.specs.Reading.{term_of, term_in_front, terms_of, expected_after}

-- from all the words these terms were read; n expressions are still expected, and these words are left
pub record Parsed (all : List (List ℕ)) (terms : List Term) (expected : ℕ) (left : List (List ℕ)) : Type 0 where
  pub read : terms_of all ≡ option_map (λ later. terms ++ later) (terms_of left)
  pub whole : (later : List Term) → are_expressions 1 (terms ++ later) ≡ are_expressions expected later
  pub few : expected + length left ≤ length all + 1

after_term : (t : Term) (expected : ℕ) (later : List Term) → 0 < expected
    → are_expressions expected (t ∷ later) ≡ are_expressions (expected_after t expected) later
after_term t zero later some = absurd (omega arith)
after_term (term.Int value) (suc n) later some = let one : n ≡ suc n - 1 = omega arith in
    ap (λ k. are_expressions k later) one
after_term (term.Name name) (suc n) later some = let one : n ≡ suc n - 1 = omega arith in
    ap (λ k. are_expressions k later) one
after_term (term.Op op) (suc n) later some = let two : suc (suc n) ≡ suc n + 1 = omega arith in
    ap (λ k. are_expressions k later) two

fewer : (t : Term) (expected left all : ℕ) → 0 < expected → expected + (left + 1) ≤ all + 1
    → expected_after t expected + left ≤ all + 1
fewer (term.Int value) expected left all some few = omega arith
fewer (term.Name name) expected left all some few = omega arith
fewer (term.Op op) expected left all some few = omega arith

in_front_again : (terms : List Term) (t : Term) (o : Option (List Term))
    → option_map (λ later. terms ++ later) (term_in_front (Some t) o)
    ≡ option_map (λ later. (terms ++ t ∷ []) ++ later) o
in_front_again terms t None = refl
in_front_again terms t (Some later) = ap (λ whole. Some whole) (sym (append_assoc terms (t ∷ []) later))

more_terms : (all : List (List ℕ)) (terms : List Term) (expected : ℕ) (word : List ℕ) (left : List (List ℕ)) (t : Term)
    → Parsed all terms expected (word ∷ left) → 0 < expected → term_of word ≡ Some t
    → Parsed all (terms ++ t ∷ []) (expected_after t expected) left
more_terms all terms expected word left t parsed some is = record {
  read =
      parsed.read
      ∙ ap (λ o. option_map (λ later. terms ++ later) (term_in_front o (terms_of left))) is
      ∙ in_front_again terms t (terms_of left);
  whole = λ later.
      ap (are_expressions 1) (append_assoc terms (t ∷ []) later) ∙ parsed.whole (t ∷ later)
      ∙ after_term t expected later some;
  few = fewer t expected (length left) (length all) some (omega (arith, parsed.few));
}

-- one more term
pub parsed_more : {all : List (List ℕ)} {terms : List Term} {expected : ℕ} {words : List (List ℕ)}
    → Parsed all terms expected words → 0 < expected
    → (word : List ℕ) (left : List (List ℕ)) (t : Term) → words ≡ word ∷ left → Some t ≡ term_of word
    → (now : List Term) (later : ℕ) → now ≡ terms ++ t ∷ [] → later ≡ expected_after t expected
    → Parsed all now later left
parsed_more {all} {terms} {expected} parsed some word left t front is now later same_terms same_expected =
    let P : List Term → Type 0 = λ ts. Parsed all ts later left in
    subst P (sym same_terms) (subst (λ n. Parsed all (terms ++ t ∷ []) n left) (sym same_expected)
    (more_terms all terms expected word left t (subst (Parsed all terms expected) front parsed) some (sym is)))
