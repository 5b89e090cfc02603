-- The least of some lines.
use Rattle.std.proofs.Common.{◌≡◌, ℕ, zero, suc, ◌+◌, ◌-◌, ◌<◌, min, Bool, true, false, List, [], ◌∷◌, ◌++◌, length, drop, get_or, Option, Some, None, refl, ap, sym, ◌∙◌, arith}
use Rattle.std.proofs.lemmas.Grind.{flat_map-append}
use Rattle.std.proofs.lemmas.List.{at_drop_more, append-nil}
use Rattle.std.specs.Prelude.{flat_map}
use Rattle.tt_rules.specs.Order.{below}
use Rattle.tt_parts.specs.declared.located.At.{At}
use Rattle.tt_rules.specs.Lines.{line_unless, lesser_of, least_line}
use Rattle.tt_rules.specs.Shapes.{lines}

pub lesser_of-assoc : (a b c : Option ℕ) → lesser_of (lesser_of a b) c ≡ lesser_of a (lesser_of b c)
lesser_of-assoc None b c = refl
lesser_of-assoc (Some a) None c = refl
lesser_of-assoc (Some a) (Some b) None = refl
lesser_of-assoc (Some a) (Some b) (Some c) = let same : min (min a b) c ≡ min a (min b c) = omega arith in ap Some same

-- the least of two lists of lines is the lesser of the least of each
pub least_line_append : (lines others : List ℕ)
    → least_line (lines ++ others) ≡ lesser_of (least_line lines) (least_line others)
least_line_append [] others = refl
least_line_append (line ∷ lines) others =
    ap (lesser_of (Some line)) (least_line_append lines others)
    ∙ sym (lesser_of-assoc (Some line) (least_line lines) (least_line others))

-- a line that a test adds
pub least_line-unless : (test : Bool) (line : ℕ) (lines : List ℕ)
    → least_line (line_unless test line lines) ≡ lesser_of (least_line (line_unless test line [])) (least_line lines)
least_line-unless true line lines = refl
least_line-unless false line lines = refl

-- ---- a loop over a list

-- One more element of a loop, at which the lines that are left are those after it and its own where a test fails.
pub least-at : {A : Type 0} (f : List (At A) → List ℕ) (xs : List (At A)) (k : ℕ) (x d : At A)
    (test passed : Bool) (later : List ℕ) (least more all : Option ℕ)
    → k < length xs → x ≡ get_or xs k d → passed ≡ test → f (x ∷ drop (k + 1) xs) ≡ line_unless test x.line later
    → more ≡ lesser_of least (least_line (line_unless passed x.line []))
    → lesser_of least (least_line (f (drop k xs))) ≡ all → lesser_of more (least_line later) ≡ all
least-at f xs k x d test passed later least more all lt is same here less before =
    ap (λ o. lesser_of o (least_line later))
    (less ∙ ap (λ b. lesser_of least (least_line (line_unless b x.line []))) same)
    ∙ lesser_of-assoc least (least_line (line_unless test x.line [])) (least_line later)
    ∙ ap (lesser_of least) (sym (least_line-unless test x.line later))
    ∙ sym (ap (λ ls. lesser_of least (least_line ls))
    (at_drop_more f xs k d lt ∙ ap (λ r. f (r ∷ drop (k + 1) xs)) (sym is) ∙ here)) ∙ before

-- One of the first n lines.
pub past-first : {A : Type 0} (n : ℕ) (x : At A) (xs : List (At A)) → 0 < n
    → drop n (lines (x ∷ xs)) ≡ drop (n - 1) (lines xs)
past-first zero x xs lt = absurd (omega arith)
past-first (suc n) x xs lt = let less : suc n - 1 ≡ n = omega arith in rw less refl

-- ---- the lines of each of some things

-- one more thing: the last of some, or the first of those that are left
pub flat-step : {A : Type 0} (f : A → List ℕ) (xs : List A) (k : ℕ) (x : A) → k < length xs
    → (found more all : Option ℕ)
    → more ≡ lesser_of found (least_line (f (get_or xs k x)))
    → lesser_of found (least_line (flat_map f (drop k xs))) ≡ all
    → lesser_of more (least_line (flat_map f (drop (k + 1) xs))) ≡ all
flat-step f xs k x lt found more all is before =
    ap (λ o. lesser_of o (least_line (flat_map f (drop (k + 1) xs)))) is
    ∙ lesser_of-assoc found (least_line (f (get_or xs k x))) (least_line (flat_map f (drop (k + 1) xs)))
    ∙ ap (lesser_of found) (sym (least_line_append (f (get_or xs k x)) (flat_map f (drop (k + 1) xs))))
    ∙ sym (ap (λ ls. lesser_of found (least_line ls)) (at_drop_more (flat_map f) xs k x lt)) ∙ before

flat-push : {A : Type 0} (f : A → List ℕ) (xs : List A) (x : A)
    → least_line (flat_map f (xs ++ x ∷ [])) ≡ lesser_of (least_line (flat_map f xs)) (least_line (f x))
flat-push f xs x =
    ap least_line (flat_map-append f xs (x ∷ []) ∙ ap (λ ls. flat_map f xs ++ ls) (append-nil (f x)))
    ∙ least_line_append (flat_map f xs) (f x)

-- the next of the numbers below one
pub below-step : (f : ℕ → List ℕ) (n : ℕ) (found more : Option ℕ) → found ≡ least_line (flat_map f (below n))
    → more ≡ lesser_of found (least_line (f n))
    → more ≡ least_line (flat_map f (below (n + 1)))
below-step f n found more before is =
    is ∙ ap (λ o. lesser_of o (least_line (f n))) before ∙ sym (flat-push f (below n) n)
    ∙ ap (λ m. least_line (flat_map f (below m))) (let e : suc n ≡ n + 1 = omega arith in e)
