-- Words that are appended one after another.
use Rattle.std.proofs.Common.{◌≡◌, ℕ, List, [], ◌∷◌, ◌++◌, append_assoc, ap, ◌∙◌}
use Rattle.std.proofs.lemmas.List.{append-nil}
use Rattle.trace_text.specs.Lines.{spaced}

both : (text first second : List ℕ) → (text ++ 32 ∷ first) ++ 32 ∷ second ≡ text ++ spaced (first ∷ second ∷ [])
both text first second = simp (append_assoc, append-nil)

-- two words after a text
pub spaced_two : (text more all first second : List ℕ) → more ≡ text ++ 32 ∷ first → all ≡ more ++ 32 ∷ second
    → all ≡ text ++ spaced (first ∷ second ∷ [])
spaced_two text more all first second one two = two ∙ ap (λ t. t ++ 32 ∷ second) one ∙ both text first second
