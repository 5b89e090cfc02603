-- Words of the language by their first bytes.
use Rattle.std.proofs.Common.{◌≡◌, ℕ, Bool, true, false, cond, List, [], ◌∷◌, Some, refl, sym, ap, ◌∙◌, subst}
use Rattle.std.specs.Prelude.{find, filter}
use Rattle.std.specs.Str.{bytes_eq}
use Rattle.std.proofs.lemmas.Bool.{cond_both, cond-false, both_ways, eq-eqb}
use Rattle.std.proofs.lemmas.Slice.Eq.{bytes_eq-Decides}
use Rattle.tt_read.specs.Keywords.{begins_with, keyword_text, keywords, keyword_among, keyword_of, keywords_with}

fails_too : (one other : Bool) → (one ≡ true → other ≡ true) → other ≡ false → one ≡ false
fails_too true other both fails = absurd (both_ways other fails (both refl))
fails_too false other both fails = refl

-- what passes one test only where it passes another is found among what passes the other
find_among : {X : Type 0} (test other : X → Bool) (xs : List X) → ((x : X) → test x ≡ true → other x ≡ true)
    → find test (filter other xs) ≡ find test xs
find_among test other [] both = refl
find_among test other (x ∷ xs) both =
    cond_both (other x) (x ∷ filter other xs) (filter other xs) (λ ys. find test ys ≡ find test (x ∷ xs))
    (λ passes. ap (cond (test x) (Some x)) (find_among test other xs both))
    (λ fails. find_among test other xs both
    ∙ sym (cond-false (test x) (Some x) (find test xs) (fails_too (test x) (other x) (both x) fails)))

same_first : (first : ℕ) (rest word : List ℕ) → bytes_eq (first ∷ rest) word ≡ true → begins_with first word ≡ true
same_first first rest word same =
    subst (λ (text : List ℕ). begins_with first text ≡ true) ((bytes_eq-Decides (first ∷ rest) word).0 same)
    (eq-eqb first first refl)

-- a text is a word of the language where it is one of those with its first byte
pub found_by_first : (first : ℕ) (rest : List ℕ)
    → keyword_among (keywords_with first) (first ∷ rest) ≡ keyword_of (first ∷ rest)
unfolding keyword_among keyword_of keywords_with
found_by_first first rest =
    find_among (λ key. bytes_eq (first ∷ rest) (keyword_text key)) (λ key. begins_with first (keyword_text key))
    keywords (λ key. same_first first rest (keyword_text key))
