-- Where a frame begins and ends.
use Rattle.std.proofs.Common.{◌≡◌, ℕ, ◌+◌, ◌<◌, List, [], ◌∷◌, ◌++◌, length, Some, sym, ap, subst, ◌∙◌, arith, append_assoc, length-append, append-nil}
use Rattle.std.proofs.Math.Seq.{get_or-append_seam}
use Rattle.std.proofs.lemmas.Option.{slice_get-get_or}
use Rattle.task_lang.specs.declared.syntax.Stmt.{Stmt}
use Rattle.task_machine.specs.Layout.{body_code, Stands}
use Rattle.task_machine.specs.Place.{Left, At_end}
use Rattle.task_machine.specs.declared.instr.Instr.{Instr}
use Rattle.task_machine.proofs.Fronts.{body_left}

-- these instructions are in the code from the first place to the end
pub stands_all : (xs pre : List Instr) → Stands (pre ++ xs) (length pre) xs (length (pre ++ xs))
stands_all [] pre = sym (ap length (append-nil pre))
stands_all (x ∷ xs) pre =
    let within : length pre < length (pre ++ x ∷ xs) = omega (arith, length-append pre (x ∷ xs)) in
    let here = slice_get-get_or (pre ++ x ∷ xs) (length pre) x within ∙ ap Some (get_or-append_seam pre x xs x) in
    let n : length (pre ++ x ∷ []) ≡ length pre + 1 = omega (arith, length-append pre (x ∷ [])) in
    let rest = subst (λ l. Stands l (length (pre ++ x ∷ [])) xs (length l)) (append_assoc pre (x ∷ []) xs)
    (stands_all xs (pre ++ x ∷ [])) in
    (here, subst (λ m. Stands (pre ++ x ∷ xs) m xs (length (pre ++ x ∷ xs))) n rest)

pub whole : (code : List Instr) (cs : List ℕ) (body : List Stmt) → code ≡ body_code 0 body → Left code cs 0 0 body
whole code cs body is =
    let stands = subst (λ c. Stands code 0 c (length code)) is (stands_all code []) in
    let left = body_left code cs 0 0 (length code) body [] stands (At_end (length code) (omega arith)) in
    subst (λ l. Left code cs 0 0 l) (append-nil body) left
