-- What is left of some numbers, written into a list.
use Rattle.std.proofs.Common.{◌≡◌, ◌≢◌, ℕ, zero, suc, ◌+◌, ◌<◌, ◌≤◌, ◌⊎◌, inl, inr, ⊎_elim, true, false, cond, List, [], ◌∷◌, ◌++◌, length, refl, sym, ap, ◌∙◌, subst, arith, replicate}
use Rattle.std.specs.Prelude.{All, AllPairs, not, slice_index_or, slice_set}
use Rattle.std.proofs.lemmas.Bool.{cases_eq}
use Rattle.std.proofs.lemmas.List.{length-set, get_or-set_same, get_or-set_other, set_comm, set-set, set-get_or, set-append_left}
use Rattle.std.proofs.lemmas.List.Elements.{All-nil, All-cons, All-head, All-tail}
use Rattle.std.proofs.lemmas.List.Sums.{count_by-le-length, sum_by-cons, sum_by-set}
use Rattle.task_lang.specs.declared.syntax.Stmt.{Stmt}
use Rattle.tt_world.specs.Load.{count_left}
use Rattle.tt_world.specs.Runners.{is_done}
use Rattle.run_stack.proofs.Lists.{AllPairs-first, AllPairs-rest}
use Rattle.tt_stack.specs.Kept.{Left, written, lefts_of}

-- what is left of a number
abbrev pub at : List (List Stmt) → ℕ → List Stmt
at lefts n = slice_index_or lefts n []

-- a number is none of those of a list
abbrev pub IsNotIn : ℕ → List Left → Type 0
IsNotIn n given = All (λ (one : Left). one.0 ≢ n) given

-- ---- writes

-- the last one is written last
pub written-push : (lefts : List (List Stmt)) (given : List Left) (one : Left)
    → written lefts (given ++ one ∷ []) ≡ slice_set (written lefts given) one.0 one.1
written-push lefts [] one = refl
written-push lefts (x ∷ xs) one = written-push (slice_set lefts x.0 x.1) xs one

-- the length stays
pub length-written : (lefts : List (List Stmt)) (given : List Left) → length (written lefts given) ≡ length lefts
length-written lefts [] = refl
length-written lefts (x ∷ xs) = length-written (slice_set lefts x.0 x.1) xs ∙ length-set lefts x.0 x.1

-- a number that is not among them keeps what is left
pub written_other : (lefts : List (List Stmt)) (given : List Left) (n : ℕ) → IsNotIn n given
    → at (written lefts given) n ≡ at lefts n
written_other lefts [] n others = refl
written_other lefts (x ∷ xs) n others =
    written_other (slice_set lefts x.0 x.1) xs n (All-tail (λ (one : Left). one.0 ≢ n) x xs others)
    ∙ get_or-set_other lefts x.0 n x.1 [] (λ e. All-head (λ (one : Left). one.0 ≢ n) x xs others (sym e))

-- what is written before the others may be written after them, if its number is none of theirs
pub written_comm : (lefts : List (List Stmt)) (given : List Left) (n : ℕ) (left : List Stmt) → IsNotIn n given
    → written (slice_set lefts n left) given ≡ slice_set (written lefts given) n left
written_comm lefts [] n left others = refl
written_comm lefts (x ∷ xs) n left others =
    ap (λ l. written l xs)
    (set_comm lefts n x.0 left x.1 (λ e. All-head (λ (one : Left). one.0 ≢ n) x xs others (sym e)))
    ∙ written_comm (slice_set lefts x.0 x.1) xs n left (All-tail (λ (one : Left). one.0 ≢ n) x xs others)

-- one more at the end of the list
pub written_more : (lefts : List (List Stmt)) (given : List Left) (last : List Stmt)
    → All (λ (one : Left). one.0 < length lefts) given
    → written (lefts ++ last ∷ []) given ≡ written lefts given ++ last ∷ []
written_more lefts [] last below = refl
written_more lefts (x ∷ xs) last below =
    ap (λ l. written l xs)
    (set-append_left lefts (last ∷ []) x.0 x.1 (All-head (λ (one : Left). one.0 < length lefts) x xs below))
    ∙ written_more (slice_set lefts x.0 x.1) xs last
    (subst (λ n. All (λ (one : Left). one.0 < n) xs) (sym (length-set lefts x.0 x.1))
    (All-tail (λ (one : Left). one.0 < length lefts) x xs below))

-- a number keeps what is left, or it is one of those that were written
pub written_or : (Q : ℕ → Type 0) (lefts : List (List Stmt)) (given : List Left) (n : ℕ)
    → All (λ (one : Left). Q one.0) given
    → (at (written lefts given) n ≡ at lefts n) ⊎ Q n
written_or Q lefts [] n all = inl refl
written_or Q lefts (x ∷ xs) n all =
    ⊎_elim
    (λ (same : at (written (slice_set lefts x.0 x.1) xs) n ≡ at (slice_set lefts x.0 x.1) n).
    ⊎_elim (λ (e : n ≡ x.0). inr (subst Q (sym e) (All-head (λ (one : Left). Q one.0) x xs all)))
    (λ (e : n ≢ x.0). inl (same ∙ get_or-set_other lefts x.0 n x.1 [] e)) (cases_eq n x.0))
    (λ (q : Q n). inr q)
    (written_or Q (slice_set lefts x.0 x.1) xs n (All-tail (λ (one : Left). Q one.0) x xs all))

-- ---- nothing so far

-- nothing is left of any number at first
pub at_none : (count n : ℕ) → at (replicate count []) n ≡ []
at_none zero n = refl
at_none (suc count) zero = refl
at_none (suc count) (suc n) = at_none count n

-- a list with nothing for each of some numbers has their count as its length
pub length-none : (count : ℕ) → length (replicate {A = List Stmt} count []) ≡ count
length-none zero = refl
length-none (suc count) = omega (arith, length-none count)

-- one more number of which nothing is left is one more item at the end
pub none_more : (count : ℕ) → replicate {A = List Stmt} (suc count) [] ≡ replicate count [] ++ [] ∷ []
none_more zero = refl
none_more (suc count) = ap (λ (l : List (List Stmt)). [] ∷ l) (none_more count)

-- the list has an item for each number
pub length-lefts_of : (count : ℕ) (given : List Left) → length (lefts_of count given) ≡ count
length-lefts_of count given = length-written (replicate count []) given ∙ length-none count

-- ---- how many

-- the numbers are distinct and below a count, and something is left of each
pub record AreGiven (count : ℕ) (given : List Left) : Type 0 where
  pub below : All (λ (one : Left). one.0 < count) given
  pub some : All (λ (one : Left). is_done one.1 ≡ false) given
  pub distinct : AllPairs (λ (one other : Left). one.0 ≢ other.0) given

-- the numbers after the first are given, too
pub given_rest : (count : ℕ) (x : Left) (xs : List Left) → AreGiven count (x ∷ xs) → AreGiven count xs
given_rest count x xs g = record {
  below = All-tail (λ (one : Left). one.0 < count) x xs g.below;
  some = All-tail (λ (one : Left). is_done one.1 ≡ false) x xs g.some;
  distinct = AllPairs-rest (λ (one other : Left). one.0 ≢ other.0) x xs g.distinct;
}

-- 1 for one of which something is left
abbrev pub one_left : List Stmt → ℕ
one_left left = cond (not (is_done left)) 1 0

count_set : (lefts : List (List Stmt)) (n : ℕ) (left : List Stmt) → n < length lefts → at lefts n ≡ [] → is_done left
    ≡ false
    → count_left (slice_set lefts n left) ≡ count_left lefts + 1
count_set lefts n left within none some =
    let set = sum_by-set one_left lefts n left [] within in
    let before : one_left (at lefts n) ≡ 0 = ap one_left none in
    let after : one_left left ≡ 1 = ap (λ b. cond (not b) 1 0) some in
    omega (arith, set, before, after)

-- each number that is written is one more of which something is left
pub count_written : (lefts : List (List Stmt)) (given : List Left) → AreGiven (length lefts) given
    → All (λ (one : Left). at lefts one.0 ≡ []) given → count_left (written lefts given)
    ≡ count_left lefts + length given
count_written lefts [] g none = omega arith
count_written lefts (x ∷ xs) g none =
    let within : x.0 < length lefts = All-head (λ (one : Left). one.0 < length lefts) x xs g.below in
    let same : length (slice_set lefts x.0 x.1) ≡ length lefts = length-set lefts x.0 x.1 in
    let rest = given_rest (length lefts) x xs g in
    let first = count_set lefts x.0 x.1 within (All-head (λ (one : Left). at lefts one.0 ≡ []) x xs none)
    (All-head (λ (one : Left). is_done one.1 ≡ false) x xs g.some) in
    let apart : All (λ (one : Left). x.0 ≢ one.0) xs =
    AllPairs-first (λ (one other : Left). one.0 ≢ other.0) x xs g.distinct in
    let still : All (λ (one : Left). at (slice_set lefts x.0 x.1) one.0 ≡ []) xs =
    λ k d l. get_or-set_other lefts x.0 (slice_index_or xs k d).0 x.1 [] (λ e. apart k d l (sym e))
    ∙ All-tail (λ (one : Left). at lefts one.0 ≡ []) x xs none k d l in
    let more = count_written (slice_set lefts x.0 x.1) xs (subst (λ n. AreGiven n xs) (sym same) rest) still in
    omega (arith, first, more)

count_none : (count : ℕ) → count_left (replicate count []) ≡ 0
count_none zero = refl
count_none (suc count) =
    let first = sum_by-cons one_left [] (replicate count []) in
    let rest = count_none count in
    omega (arith, first, rest)

-- as many are unfinished as were given
pub count_lefts_of : (count : ℕ) (given : List Left) → AreGiven count given → count_left (lefts_of count given)
    ≡ length given
count_lefts_of count given g =
    let none = count_none count in
    let more = count_written (replicate count []) given (subst (λ n. AreGiven n given) (sym (length-none count)) g)
    (λ k d l. at_none count (slice_index_or given k d).0) in
    omega (arith, none, more)

-- ---- a finished one leaves room

-- where one is finished, fewer are unfinished than there are
pub count_room : (lefts : List (List Stmt)) (n : ℕ) → n < length lefts → is_done (at lefts n) ≡ true
    → count_left lefts < length lefts
count_room [] n within done = absurd (omega arith)
count_room (x ∷ xs) zero within done =
    let first = sum_by-cons one_left x xs in
    let none : one_left x ≡ 0 = ap (λ b. cond (not b) 1 0) done in
    let rest = count_by-le-length (λ (left : List Stmt). not (is_done left)) xs in
    omega (arith, first, none, rest)
count_room (x ∷ xs) (suc n) within done =
    let first = sum_by-cons one_left x xs in
    let most : one_left x ≤ 1 =
    elim (not (is_done x)) as (λ b. cond b 1 0 ≤ 1) [ true ↦ omega arith | false ↦ omega arith ] in
    let rest = count_room xs n (omega arith) done in
    omega (arith, first, most, rest)

-- ---- one of them

-- what was written of a number is left of it
pub written_in : (lefts : List (List Stmt)) (given : List Left) → AreGiven (length lefts) given
    → All (λ (one : Left). at (written lefts given) one.0 ≡ one.1) given
written_in lefts [] g = All-nil (λ (one : Left). at lefts one.0 ≡ one.1)
written_in lefts (x ∷ xs) g =
    let same : length (slice_set lefts x.0 x.1) ≡ length lefts = length-set lefts x.0 x.1 in
    let apart : All (λ (one : Left). x.0 ≢ one.0) xs =
    AllPairs-first (λ (one other : Left). one.0 ≢ other.0) x xs g.distinct in
    let within : x.0 < length lefts = All-head (λ (one : Left). one.0 < length lefts) x xs g.below in
    All-cons (λ (one : Left). at (written (slice_set lefts x.0 x.1) xs) one.0 ≡ one.1) x xs
    (written_other (slice_set lefts x.0 x.1) xs x.0 (λ k d l e. apart k d l (sym e))
    ∙ get_or-set_same lefts x.0 x.1 [] within)
    (written_in (slice_set lefts x.0 x.1) xs (subst (λ n. AreGiven n xs) (sym same) (given_rest (length lefts) x xs g)))

-- a number that is finished is none of them
pub finished_not_in : (count : ℕ) (given : List Left) (n : ℕ) → AreGiven count given
    → is_done (at (lefts_of count given) n) ≡ true
    → IsNotIn n given
finished_not_in count given n g done = λ k d l e.
    let one = slice_index_or given k d in
    let there : at (lefts_of count given) one.0 ≡ one.1 =
    written_in (replicate count []) given (subst (λ m. AreGiven m given) (sym (length-none count)) g) k d l in
    let f : true ≡ false =
    sym done ∙ ap (λ m. is_done (at (lefts_of count given) m)) (sym e) ∙ ap is_done there ∙ g.some k d l in
    absurd cc

-- nothing is left of one that is none of them
pub nothing_left : (count : ℕ) (given : List Left) (n : ℕ) → IsNotIn n given → at (lefts_of count given) n ≡ []
nothing_left count given n others = written_other (replicate count []) given n others ∙ at_none count n

-- a write of a number that is none of them, undone by a second write, changes nothing
pub gone : (count : ℕ) (given : List Left) (n : ℕ) (left : List Stmt) → IsNotIn n given
    → lefts_of count given ≡ slice_set (slice_set (lefts_of count given) n left) n []
gone count given n left others =
    let lefts = lefts_of count given in
    sym (set-set lefts n left [] ∙ ap (slice_set lefts n) (sym (nothing_left count given n others))
    ∙ set-get_or lefts n [])
