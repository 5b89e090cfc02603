-- A statement that ends was begun: no more statements end than begin.
use Rattle.std.proofs.Common.{ℕ, zero, suc, add-one, ◌≡◌, ◌≤◌, ◌<◌, ◌+◌, ◌-◌, List, [], ◌∷◌, Bool, true, false, refl, ap, sym, ◌∙◌, subst, arith, length, ⊎_elim}
use Rattle.std.specs.Prelude.{◌==◌, ◌&&◌, ◌||◌, nat_le, not, filter, if◌then◌else◌}
use Rattle.std.specs.List.{list_any}
use Rattle.std.proofs.lemmas.Bool.{cases_Bool, cond_both, le-leb, leb-true}
use Rattle.std.proofs.lemmas.List.Sums.{count_by-le-length, length-filter}
use Rattle.task_machine.specs.Standing.{work_in_front}
use Rattle.tt_world.specs.declared.config.ConfigParts.{ConfigParts}
use Rattle.tt_world.specs.declared.script.ScriptParts.{ScriptParts}
use Rattle.tt_world.specs.declared.world.Runner.{Runner}
use Rattle.tt_world.specs.Opening.{opening}
use Rattle.tt_world.specs.Schedule.{last_instant, runner_at, world_at}
use Rattle.tt_world.specs.Step.{is_somebody}
use Rattle.stack_dispatch.specs.Counts.{FewMoves, begins_before, begun_before, due_before, ended_before, ends_at, is_due, is_job, list_at, most_moves, same_runner, still_begun}

fewer_kept : (p : Runner → Bool) (xs : List Runner) → length (filter p xs) ≤ length xs
fewer_kept p xs = omega (arith, length-filter p xs, count_by-le-length p xs)

-- a list without one that is there is shorter
one_goes : (test : Runner → Bool) (xs : List Runner) → list_any test xs ≡ true
    → length (filter (λ r. not (test r)) xs) < length xs
one_goes test [] e = cc
one_goes test (x ∷ xs) e =
    let all = fewer_kept (λ r. not (test r)) xs in
    ⊎_elim (λ (is : test x ≡ true). rw is (omega arith))
    (λ (is : test x ≡ false).
    let less = one_goes test xs (sym (ap (λ b. b || list_any test xs) is) ∙ e) in
    rw is (omega arith))
    (cases_Bool (test x))

-- by whether somebody runs, the `work` has at least one or two ticks, and the owner has begun it
count_more : (somebody one two there : Bool) (r : Runner) (others kept : List Runner) (ended begins : ℕ)
    → (two ≡ true → one ≡ true) → length others ≤ length kept → (there ≡ true → length others < length kept)
    → ended + length kept ≤ begins
    → (ended + (if somebody && not two then 1 else 0)) + length (if somebody && two then r ∷ others else others)
    ≤ begins + (if somebody && not (one && there) then 1 else 0)
count_more true true true true r others kept ended begins w l m h = let n = m refl in omega arith
count_more true true false true r others kept ended begins w l m h = let n = m refl in omega arith
count_more true false true there r others kept ended begins w l m h = let both : false ≡ true = w refl in cc
count_more somebody one two there r others kept ended begins w l m h = omega arith

two_one : (n : ℕ) → nat_le 2 n ≡ true → nat_le 1 n ≡ true
two_one n e = let l = leb-true 2 n e in le-leb 1 n (omega arith)

-- what never falls
rises : (f : ℕ → ℕ) → ((n : ℕ) → f n ≤ f (suc n)) → (m k : ℕ) → f m ≤ f (m + k)
rises f step m zero = let z : m + 0 ≡ m = omega arith in rw z (omega arith)
rises f step m (suc k) =
    let z : m + suc k ≡ suc (m + k) = omega arith in
    let before = rises f step m k in
    let next = step (m + k) in
    rw z (omega arith)

module _ (c : ConfigParts) (s : ScriptParts) where
  kept_fewer : (n : ℕ) (begun : List Runner) → length (still_begun c s n begun) ≤ length begun
  kept_fewer n begun =
      cond_both ((opening c s (world_at c s n)).world.start == n) (filter (λ r. not (is_job r)) begun) begun
      (λ (kept : List Runner). length kept ≤ length begun)
      (λ _. fewer_kept (λ r. not (is_job r)) begun) (λ _. omega arith)

  -- the statements that have ended, plus each `work` that is begun and not ended, are at most those that have begun
  account : (n : ℕ) → ended_before c s n + length (begun_before c s n) ≤ begins_before c s n
  unfolding ended_before begun_before begins_before
  account zero = omega arith
  account (suc n) =
      let kept = still_begun c s n (begun_before c s n) in
      let test = same_runner (runner_at c s n) in
      let fewer = kept_fewer n (begun_before c s n) in
      let before = account n in
      count_more (is_somebody (runner_at c s n)) (nat_le 1 (work_in_front (list_at c s n)))
      (nat_le 2 (work_in_front (list_at c s n))) (list_any test kept) (runner_at c s n)
      (filter (λ r. not (test r)) kept) kept (ended_before c s n) (begins_before c s n)
      (two_one (work_in_front (list_at c s n))) (fewer_kept (λ r. not (test r)) kept) (one_goes test kept)
      (omega arith)

  pub ended_begun : (n : ℕ) → ended_before c s n ≤ begins_before c s n
  ended_begun n = let all = account n in omega arith

  -- ---- counts rise

  pub ended_more : (m k : ℕ) → ended_before c s m ≤ ended_before c s (m + k)
  unfolding ended_before
  ended_more = rises (ended_before c s) (λ n. omega arith)

  pub due_more : (m k : ℕ) → due_before c s m ≤ due_before c s (m + k)
  unfolding due_before
  due_more = rises (due_before c s) (λ n. omega arith)

  pub one_ended : (n : ℕ) → ends_at c s n ≡ true → ended_before c s (suc n) ≡ ended_before c s n + 1
  unfolding ended_before
  one_ended n e = ap (λ b. ended_before c s n + (if b then 1 else 0)) e

  pub one_due : (n : ℕ) → is_due c s (world_at c s n) ≡ true → due_before c s (suc n) ≡ due_before c s n + 1
  unfolding due_before
  one_due n e = ap (λ b. due_before c s n + (if b then 1 else 0)) e

  pub due_next : (n : ℕ) → due_before c s (suc n) ≤ due_before c s n + 1
  unfolding due_before
  due_next n =
      cond_both (is_due c s (world_at c s n)) 1 0 (λ (k : ℕ). due_before c s n + k ≤ due_before c s n + 1)
      (λ _. omega arith) (λ _. omega arith)

  -- ---- the moves that are counted from one instant on up to a last one

  module _ (m j last before after : ℕ) (is : last ≡ m + j) where
    at_last : before + 1 + (ended_before c s m + due_before c s (m + 1))
        ≤ before + (ended_before c s ((m + j) + 1) + due_before c s ((m + j) + 2))
        → after ≡ before + 1 → FewMoves c s m last before after
    at_last l counted =
        subst (λ n. FewMoves c s m n before after) (sym is)
        (subst (λ n. FewMoves c s m (m + j) before n) (sym counted) l)

    -- a statement ends at the last instant
    pub few_by_end : after ≡ before + 1 → ends_at c s (m + j) ≡ true → FewMoves c s m last before after
    few_by_end counted e =
        let more = one_ended (m + j) e in
        let next = ap (ended_before c s) (add-one (m + j)) in
        let ended = ended_more m j in
        let place : (m + 1) + (j + 1) ≡ (m + j) + 2 = omega arith in
        let due = due_more (m + 1) (j + 1) in
        let same = ap (due_before c s) place in
        at_last (omega (arith, more, next, ended, due, same)) counted

    -- something is due at the instant after the last
    pub few_by_due : after ≡ before + 1 → is_due c s (world_at c s (m + suc j)) ≡ true
        → FewMoves c s m last before after
    few_by_due counted e =
        let more = one_due (m + suc j) e in
        let place : suc (m + suc j) ≡ (m + j) + 2 = omega arith in
        let same = ap (due_before c s) place in
        let begun : (m + 1) + j ≡ m + suc j = omega arith in
        let due = due_more (m + 1) j in
        let next = ap (due_before c s) begun in
        let later : m + (j + 1) ≡ (m + j) + 1 = omega arith in
        let ended = ended_more m (j + 1) in
        let then_same = ap (ended_before c s) later in
        at_last (omega (arith, more, same, due, next, ended, then_same)) counted

  -- nothing was counted
  pub few_over : (m last moves : ℕ) → last ≡ m → FewMoves c s m last moves moves
  few_over m last moves is =
      let ended = ended_more m 1 in
      let place : (m + 1) + 1 ≡ m + 2 = omega arith in
      let due = due_more (m + 1) 1 in
      let same = ap (due_before c s) place in
      subst (λ n. FewMoves c s m n moves moves) (sym is) (omega (arith, ended, due, same))

  -- ---- the moves of a run

  -- the moves of the instants before, and of those that were passed
  pub moves_last : (from last first before after : ℕ)
      → before ≤ first + (ended_before c s from + due_before c s (from + 1)) → FewMoves c s from last before after
      → after ≤ first + (ended_before c s (last + 1) + due_before c s (last + 2))
  moves_last from last first before after l h = omega (arith, l, h)

  pub moves_later : (from last first before after : ℕ)
      → before ≤ first + (ended_before c s from + due_before c s (from + 1)) → FewMoves c s from last before after
      → after ≤ first + (ended_before c s (last + 1) + due_before c s ((last + 1) + 1))
  moves_later from last first before after l h =
      let place : (last + 1) + 1 ≡ last + 2 = omega arith in
      let same = ap (due_before c s) place in
      omega (arith, l, h, same)

  -- up to the last instant
  pub few_all : (before after n : ℕ) → n ≡ last_instant c s
      → after ≤ before + (ended_before c s (n + 1) + due_before c s (n + 2)) → after ≤ before + most_moves c s
  unfolding most_moves
  few_all before after n is l =
      let end : n + 1 ≡ suc (last_instant c s) = omega (arith, is) in
      let next : n + 2 ≡ suc (suc (last_instant c s)) = omega (arith, is) in
      let ended = ap (ended_before c s) end in
      let due = ap (due_before c s) next in
      let begun = ended_begun (suc (last_instant c s)) in
      let one = due_next (suc (last_instant c s)) in
      omega (arith, l, ended, due, begun, one)

  -- up to an instant before it
  pub few_some : (before after n : ℕ) → n < last_instant c s
      → after ≤ before + (ended_before c s (n + 1) + due_before c s (n + 2)) → after ≤ before + most_moves c s
  few_some before after n less l =
      let more = last_instant c s - n in
      let end : (n + 1) + (last_instant c s - n) ≡ last_instant c s + 1 = omega (arith, less) in
      let next : (n + 2) + (last_instant c s - n) ≡ last_instant c s + 2 = omega (arith, less) in
      let ended = ended_more (n + 1) (last_instant c s - n) in
      let due = due_more (n + 2) (last_instant c s - n) in
      let ended_same = ap (ended_before c s) end in
      let due_same = ap (due_before c s) next in
      few_all before after (last_instant c s) refl (omega (arith, l, ended, due, ended_same, due_same))
