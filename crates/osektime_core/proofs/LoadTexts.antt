-- The summary of a run, line by line, and the names of tasks.
use Rattle.std.proofs.Common.{◌≡◌, ℕ, ◌<◌, ◌+◌, List, [], ◌∷◌, ◌++◌, None, Some, length, get_or, take, sym, ap, ◌∙◌, append_assoc, add-one}
use Rattle.std.specs.Prelude.{slice_get}
use Rattle.std.proofs.Math.Seq.{take-suc}
use Rattle.std.proofs.lemmas.Option.{get_or_from_slice_get, slice_get-get_or}

-- seven lines, one after another
pub seven_joined : (a b c d e f g none one two three four five six seven : List ℕ) → none ≡ [] → one ≡ none ++ a
    → two ≡ one ++ b → three ≡ two ++ c → four ≡ three ++ d → five ≡ four ++ e → six ≡ five ++ f → seven ≡ six ++ g
    → seven ≡ a ++ (b ++ (c ++ (d ++ (e ++ (f ++ g)))))
seven_joined a b c d e f g none one two three four five six seven p q r s t u v w =
    let all : seven ≡ (((((([] ++ a) ++ b) ++ c) ++ d) ++ e) ++ f) ++ g = cc in all ∙ simp append_assoc

-- one name more
pub name_more : (names now after : List (List ℕ)) (place : ℕ) (name : List ℕ) → place < length names
    → slice_get names place ≡ Some name → now ≡ take place names → after ≡ now ++ name ∷ []
    → after ≡ take (place + 1) names
name_more names now after place name within at so_far put =
    put ∙ ap (λ ns. ns ++ name ∷ []) so_far
    ∙ ap (λ n. take place names ++ n ∷ []) (sym (get_or_from_slice_get names place name name at))
    ∙ sym (ap (λ k. take k names) (add-one place) ∙ take-suc names place name within)

-- a place within has a name
pub none_within : (names : List (List ℕ)) (place : ℕ) → place < length names → slice_get names place ≡ None → ⊥
none_within names place within is =
    let some : slice_get names place ≡ Some (get_or names place []) = slice_get-get_or names place [] within in cc
