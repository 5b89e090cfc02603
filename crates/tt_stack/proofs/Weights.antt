-- The words of stack of what is unfinished.
use Rattle.std.proofs.Common.{◌≡◌, ◌≢◌, ℕ, zero, suc, ◌+◌, ◌<◌, Bool, true, false, cond, List, [], ◌∷◌, length, refl, sym, ap, ◌∙◌, subst, arith, zero-add, replicate}
use Rattle.std.specs.Prelude.{All, map, not, filter, slice_index_or, slice_set, sum, sum_by}
use Rattle.std.specs.List.{range_with_len, zip}
use Rattle.std.proofs.lemmas.List.{get_or-set_other, length-set}
use Rattle.std.proofs.lemmas.List.Elements.{All-head, All-tail}
use Rattle.std.proofs.lemmas.List.Sums.{sum-map, sum_by-cons, sum_by-set}
use Rattle.task_lang.specs.declared.syntax.Stmt.{Stmt}
use Rattle.tt_world.specs.World.{Job}
use Rattle.tt_world.specs.Runners.{is_done, job_at, no_job, unfinished}
use Rattle.run_stack.proofs.Lists.{AllPairs-first}
use Rattle.run_stack.specs.declared.stack.StackFrame.{StackFrame}
use Rattle.tt_stack.specs.Kept.{Left, jobs_from, lefts_of, routine_left, routine_lefts, routine_number, written}
use Rattle.tt_stack.specs.Words.{Words, routine_words}
use Rattle.tt_stack.proofs.Jobs.{job, job_entry, job_left, jobs_set, length-jobs}
use Rattle.tt_stack.proofs.Written.{at, at_none, AreGiven, given_rest, length-none}

-- ---- activations

module _ (weight : ℕ → ℕ) where
  -- the weight of the entry of an activation that is unfinished
  abbrev pub job_weight : Job → ℕ
  job_weight j = cond (is_done j.left) 0 (weight j.entry)

  -- the weights of the activations of which this is left
  abbrev pub weights : List (List Stmt) → ℕ
  weights lefts = sum_by job_weight (jobs_from 0 lefts)

  weights_set : (lefts : List (List Stmt)) (n : ℕ) (left : List Stmt) → n < length lefts → at lefts n ≡ []
      → is_done left ≡ false
      → weights (slice_set lefts n left) ≡ weights lefts + weight n
  weights_set lefts n left within none some =
      let jobs = jobs_from 0 lefts in
      let entry = (job_at jobs n).entry in
      let moved = ap (sum_by job_weight) (jobs_set 0 lefts n left) in
      let set = sum_by-set job_weight jobs n (job entry left) no_job (omega (arith, length-jobs 0 lefts)) in
      let before : job_weight (job_at jobs n) ≡ 0 =
      ap (λ (l : List Stmt). cond (is_done l) 0 (weight entry)) (job_left 0 lefts n ∙ none) in
      let after : job_weight (job entry left) ≡ weight n =
      ap (λ (b : Bool). cond b 0 (weight entry)) some ∙ ap weight (job_entry 0 lefts n within ∙ zero-add n) in
      omega (arith, moved, set, before, after)

  weights_written : (lefts : List (List Stmt)) (given : List Left) → AreGiven (length lefts) given
      → All (λ (one : Left). at lefts one.0 ≡ []) given
      → weights (written lefts given) ≡ weights lefts + sum_by (λ (one : Left). weight one.0) given
  weights_written lefts [] g none = omega arith
  weights_written lefts (x ∷ xs) g none =
      let same : length (slice_set lefts x.0 x.1) ≡ length lefts = length-set lefts x.0 x.1 in
      let rest = given_rest (length lefts) x xs g in
      let first = weights_set lefts x.0 x.1 (All-head (λ (one : Left). one.0 < length lefts) x xs g.below)
      (All-head (λ (one : Left). at lefts one.0 ≡ []) x xs none)
      (All-head (λ (one : Left). is_done one.1 ≡ false) x xs g.some) in
      let apart = AllPairs-first (λ (one other : Left). one.0 ≢ other.0) x xs g.distinct in
      let still : All (λ (one : Left). at (slice_set lefts x.0 x.1) one.0 ≡ []) xs =
      λ k d l. get_or-set_other lefts x.0 (slice_index_or xs k d).0 x.1 [] (λ e. apart k d l (sym e))
      ∙ All-tail (λ (one : Left). at lefts one.0 ≡ []) x xs none k d l in
      let more = weights_written (slice_set lefts x.0 x.1) xs (subst (λ n. AreGiven n xs) (sym same) rest) still in
      omega (arith, first, more, sum_by-cons (λ (one : Left). weight one.0) x xs)

  weights_none : (from count : ℕ) → sum_by job_weight (jobs_from from (replicate count [])) ≡ 0
  weights_none from zero = refl
  weights_none from (suc count) =
      sum_by-cons job_weight (job from []) (jobs_from (from + 1) (replicate count []))
      ∙ zero-add (sum_by job_weight (jobs_from (from + 1) (replicate count [])))
      ∙ weights_none (from + 1) count

  weights_zip : (entries : List ℕ) (lefts : List (List Stmt)) → length entries ≡ length lefts
      → sum_by (λ (one : Left). weight one.0) (zip entries lefts) ≡ sum_by weight entries
  weights_zip [] [] same = refl
  weights_zip [] (y ∷ ys) same = absurd (omega arith)
  weights_zip (x ∷ xs) [] same = absurd (omega arith)
  weights_zip (x ∷ xs) (y ∷ ys) same =
      let one = sum_by-cons (λ (one : Left). weight one.0) (x, y) (zip xs ys) in
      let other = sum_by-cons weight x xs in
      let rest = weights_zip xs ys (omega arith) in
      omega (arith, one, other, rest)

  -- the weights of all activations are those of the entries of which something is left
  pub weights_given : (count : ℕ) (entries : List ℕ) (lefts : List (List Stmt)) → length entries ≡ length lefts
      → AreGiven count (zip entries lefts) → weights (lefts_of count (zip entries lefts)) ≡ sum_by weight entries
  weights_given count entries lefts same g =
      let all = weights_written (replicate count []) (zip entries lefts)
      (subst (λ n. AreGiven n (zip entries lefts)) (sym (length-none count)) g)
      (λ k d l. at_none count (slice_index_or (zip entries lefts) k d).0) in
      omega (arith, all, weights_none 0 count, weights_zip entries lefts same)

-- ---- routines

module _ (weight : ℕ → ℕ) (passes : ℕ → Bool) where
  more_passed : (n : ℕ) (rest : List ℕ) (b : Bool)
      → sum_by weight (cond b (n ∷ rest) rest) ≡ cond b (weight n) 0 + sum_by weight rest
  more_passed n rest true = sum_by-cons weight n rest
  more_passed n rest false = omega arith

  -- the weights of the numbers from one on that pass, where those pass of which something is left
  passed_weights : (from : ℕ) (lefts : List (List Stmt))
      → ((n : ℕ) → passes (from + n) ≡ not (is_done (at lefts n)))
      → sum_by weight (filter passes (range_with_len from (length lefts)))
      ≡ sum_by (job_weight weight) (jobs_from from lefts)
  passed_weights from [] same = refl
  passed_weights from (x ∷ xs) same =
      let zero_more : from + 0 ≡ from = omega arith in
      let first : passes from ≡ not (is_done x) = ap passes (sym zero_more) ∙ same 0 in
      let next : (n : ℕ) → passes (from + 1 + n) ≡ not (is_done (at xs n)) =
      λ n. let e : from + 1 + n ≡ from + suc n = omega arith in ap passes e ∙ same (suc n) in
      let rest = passed_weights (from + 1) xs next in
      let one = more_passed from (filter passes (range_with_len (from + 1) (length xs))) (passes from) in
      let adds = by_done (passes from) (is_done x) (weight from) first in
      let all = sum_by-cons (job_weight weight) (job from x) (jobs_from (from + 1) xs) in
      omega (arith, rest, one, adds, all)
    where
      by_done : (b done : Bool) (w : ℕ) → b ≡ not done → cond b w 0 ≡ cond done 0 w
      by_done true true w is = cc
      by_done true false w is = refl
      by_done false true w is = refl
      by_done false false w is = cc

-- the weights of the unfinished numbers are those of the numbers of which something is left
pub unfinished_weights : (weight : ℕ → ℕ) (count : ℕ) (given : List Left) → AreGiven count given
    → sum_by weight (unfinished (lefts_of count given)) ≡ sum_by (λ (one : Left). weight one.0) given
unfinished_weights weight count given g =
    let lefts = lefts_of count given in
    let zero_more : (n : ℕ) → 0 + n ≡ n = λ n. omega arith in
    let all = passed_weights weight (λ (n : ℕ). not (is_done (at lefts n))) 0 lefts
    (λ n. ap (λ m. not (is_done (at lefts m))) (zero_more n)) in
    let written = weights_written weight (replicate count []) given
    (subst (λ n. AreGiven n given) (sym (length-none count)) g)
    (λ k d l. at_none count (slice_index_or given k d).0) in
    omega (arith, all, written, weights_none weight 0 count)

-- ---- sums of words

-- where two lists have the same numbers, the sums are the same
pub sum-same : {X Y : Type 0} (f : X → ℕ) (g : Y → ℕ) (xs : List X) (ys : List Y) → map f xs ≡ map g ys
    → sum_by f xs ≡ sum_by g ys
sum-same f g xs ys same = sym (sum-map f xs) ∙ ap sum same ∙ sum-map g ys

-- the words of the frames of routines are those of the routines
pub isrs_sum : (codes : List (List Stmt)) (words : Words) (fs : List StackFrame)
    → All (λ (f : StackFrame). f.words ≡ routine_words words (routine_number f.owner)) fs
    → sum_by (λ (f : StackFrame). f.words) fs
    ≡ sum_by (λ (one : Left). routine_words words one.0) (routine_lefts codes fs)
isrs_sum codes words [] all = refl
isrs_sum codes words (f ∷ fs) all =
    let P : StackFrame → Type 0 = λ f. f.words ≡ routine_words words (routine_number f.owner) in
    let first = All-head P f fs all in
    let rest = isrs_sum codes words fs (All-tail P f fs all) in
    let a = sum_by-cons (λ (f : StackFrame). f.words) f fs in
    let b = sum_by-cons (λ (one : Left). routine_words words one.0) (routine_left codes f) (routine_lefts codes fs) in
    omega (arith, first, rest, a, b)
