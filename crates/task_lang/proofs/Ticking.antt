-- What one tick does to the worst case of a list, and to what each of its statements has.
use Rattle.std.proofs.Common.{◌≡◌, ◌≢◌, ℕ, zero, suc, ◌+◌, ◌*◌, ◌-◌, ◌≤◌, max, Bool, true, false, ℤ, pos, negsuc, List, [], ◌∷◌, ◌++◌, map, refl, sym, ap, subst, ◌∙◌, arith}
use Rattle.std.specs.Prelude.{◌&&◌, nat_le, slice_get, slice_index, slice_index_or}
use Rattle.std.specs.List.{list_all}
use Rattle.std.proofs.lemmas.List.Sums.{sum_by-cons}
use Rattle.std.proofs.lemmas.Bool.Decides.{nat_tests}
use Rattle.task_lang.specs.declared.demand.Demand.{Demand}
use Rattle.task_lang.specs.declared.syntax.Stmt.{Stmt, out-Stmt}
use Rattle.task_lang.specs.declared.syntax.Stmt.TheOpen.{Stmt-F}
use Rattle.task_lang.specs.declared.syntax.Stmt.TheFolds.{map-Stmt, fold_out-Stmt}
use Rattle.task_lang.specs.declared.syntax.Stmt.TheVariants as s
use Rattle.task_lang.specs.Limits.{AreNumbersInRange, AreMostsInRange, AreUsualsInRange, each_of, each_in, inner_pass, is_number_in_range}
use Rattle.task_lang.specs.Opening.{fold-Work, fold-Repeat}
use Rattle.task_lang.specs.Tick.{Supply, State, work_then, repeat_then, branch, usual_of, values_of, given, tick, tick_by, tick_list, ticks}
use Rattle.task_lang.specs.TickLaws.{KeepsMost, AreValuesKept, LastsThroughTicks, TickLowersWorst, TickKeepsEach, TickKeepsNumbers, TicksEnd}
use Rattle.task_lang.specs.Value.{value_of}
use Rattle.task_lang.specs.Worst.{most_of, worst_of, worst_in, worst_step}
use Rattle.task_lang.proofs.Numbers.{and_left, and_right, from_nat_le, most_small}

-- ---- what a demand is given

usual_small : (demands : List Demand) (demand : ℕ) → AreUsualsInRange demands
    → usual_of (slice_get demands demand) ≤ most_of (slice_get demands demand)
usual_small [] demand usuals = omega arith
usual_small (first ∷ rest) zero usuals =
    from_nat_le first.usual first.most (and_left (nat_le first.usual first.most) _ usuals)
usual_small (first ∷ rest) (suc demand) usuals =
    usual_small rest demand (and_right (nat_le first.usual first.most) _ usuals)

read_small : (most usual : ℕ) (values : List ℕ) (used : ℕ) → usual ≤ most
    → list_all (λ value. nat_le value most) values ≡ true → slice_index_or values used usual ≤ most
read_small most usual [] used small kept = small
read_small most usual (value ∷ values) zero small kept = from_nat_le value most (and_left (nat_le value most) _ kept)
read_small most usual (value ∷ values) (suc used) small kept =
    read_small most usual values used small (and_right (nat_le value most) _ kept)

-- A script whose values are at most the mosts gives no demand more than its most.
pub keeps_most : (supply : Supply) → AreUsualsInRange supply.demands → AreValuesKept supply → KeepsMost supply
keeps_most supply usuals kept demand used =
    read_small (most_of (slice_get supply.demands demand)) (usual_of (slice_get supply.demands demand))
    (values_of supply demand) used
    (usual_small supply.demands demand usuals) (kept demand)

-- ---- the worst case of a list

module _ (demands : List Demand) where
  pub worst-cons : (stmt : Stmt) (rest : List Stmt)
      → worst_in demands (stmt ∷ rest) ≡ worst_of demands stmt + worst_in demands rest
  worst-cons stmt rest = sum_by-cons (λ x. x) (worst_of demands stmt) (map (worst_of demands) rest)

  pub worst-append : (body rest : List Stmt)
      → worst_in demands (body ++ rest) ≡ worst_in demands body + worst_in demands rest
  worst-append [] rest = omega arith
  worst-append (stmt ∷ body) rest =
      omega (arith, worst-cons stmt (body ++ rest), worst-cons stmt body, worst-append body rest)

  worst-work_then : (n : ℕ) (rest : List Stmt) → worst_in demands (work_then n rest) ≡ n + worst_in demands rest
  worst-work_then zero rest = omega arith
  worst-work_then (suc n) rest = worst-cons (s.Work (suc n)) rest
      ∙ ap (λ k. k + worst_in demands rest) (fold-Work ℕ (worst_step demands) (suc n))

  worst-repeat_then : (n : ℕ) (body rest : List Stmt)
      → worst_in demands (repeat_then n body rest) ≡ n * (1 + worst_in demands body) + worst_in demands rest
  worst-repeat_then zero body rest = omega arith
  worst-repeat_then (suc n) body rest =
      worst-cons (s.Repeat (suc n) body) rest
      ∙ ap (λ k. k + worst_in demands rest) (fold-Repeat ℕ (worst_step demands) (suc n) body)

  worst-branch : (value : ℤ) (first second : List Stmt)
      → worst_in demands (branch value first second) ≤ max (worst_in demands first) (worst_in demands second)
  worst-branch (pos zero) first second = omega arith
  worst-branch (pos (suc n)) first second = omega arith
  worst-branch (negsuc n) first second = omega arith

one_turn : (turns inner rest : ℕ) → 1 ≤ turns
    → inner + ((turns - 1) * (1 + inner) + rest) + 1 ≤ turns * (1 + inner) + rest
one_turn zero inner rest some = absurd (omega arith)
one_turn (suc n) inner rest some = grind arith

-- the first statement has numbers in range
abbrev IsFrontInRange : Stmt-F Stmt → Type 0
IsFrontInRange front = is_number_in_range front ≡ true

lowers_by : (supply : Supply) (state : State) (front : Stmt-F Stmt) (rest : List Stmt) → KeepsMost supply
    → IsFrontInRange front
    → worst_in supply.demands (tick_by supply state front rest).left + 1
    ≤ worst_step supply.demands (map-Stmt Stmt ℕ (worst_of supply.demands) front) + worst_in supply.demands rest
lowers_by supply state (Stmt-F.Work ticks) rest keeps range =
    let some : 1 ≤ ticks = from_nat_le 1 ticks (and_left (nat_le 1 ticks) _ range) in
    omega (arith, worst-work_then supply.demands (ticks - 1) rest)
lowers_by supply state (Stmt-F.Take demand) rest keeps range =
    let used = slice_index state.cursors demand.0 in
    omega (arith, worst-work_then supply.demands (given supply demand.0 used) rest, keeps demand.0 used)
lowers_by supply state (Stmt-F.If expr first second) rest keeps range =
    let body = branch (value_of state.vars expr) first second in
    let lowers : worst_in supply.demands (body ++ rest) + 1
    ≤ 1 + max (worst_in supply.demands first) (worst_in supply.demands second) + worst_in supply.demands rest =
    omega (
      arith,
      worst-append supply.demands body rest,
      worst-branch supply.demands (value_of state.vars expr) first second,
    ) in
    lowers
lowers_by supply state (Stmt-F.Repeat turns body) rest keeps range =
    let some : 1 ≤ turns = from_nat_le 1 turns (and_left (nat_le 1 turns) _ range) in
    let lowers : worst_in supply.demands (body ++ repeat_then (turns - 1) body rest) + 1
    ≤ turns * (1 + worst_in supply.demands body) + worst_in supply.demands rest =
    rw (
      worst-append supply.demands body (repeat_then (turns - 1) body rest),
      worst-repeat_then supply.demands (turns - 1) body rest,
    )
    (one_turn turns (worst_in supply.demands body) (worst_in supply.demands rest) some) in
    lowers
lowers_by supply state front rest keeps range = omega arith

-- The test of a number doesn't look inside.
front_range : (front : Stmt-F Stmt) (inside : Stmt → Bool)
    → is_number_in_range (map-Stmt Stmt Bool inside front) ≡ is_number_in_range front
front_range (Stmt-F.Work ticks) inside = refl
front_range front inside = refl

-- what a test of each statement says of an opened statement
opened : (test : Stmt-F Bool → Bool) (stmt : Stmt) → each_of test stmt ≡ true
    → test (map-Stmt Stmt Bool (each_of test) (out-Stmt stmt))
    && inner_pass (map-Stmt Stmt Bool (each_of test) (out-Stmt stmt)) ≡ true
opened test stmt passed = sym (fold_out-Stmt Bool (λ y. test y && inner_pass y) stmt) ∙ passed

lowers_list : (supply : Supply) (state : State) (list : List Stmt) → KeepsMost supply → AreNumbersInRange list
    → list ≢ []
    → worst_in supply.demands (tick_list supply state list).left + 1 ≤ worst_in supply.demands list
lowers_list supply state [] keeps numbers some = absurd (some refl)
lowers_list supply state (front ∷ rest) keeps numbers some =
    let inside = each_of is_number_in_range in
    let passed = opened is_number_in_range front (and_left (inside front) _ numbers) in
    let range : IsFrontInRange (out-Stmt front) = sym (front_range (out-Stmt front) inside)
    ∙ and_left (is_number_in_range (map-Stmt Stmt Bool inside (out-Stmt front))) _ passed in
    rw (worst-cons supply.demands front rest, fold_out-Stmt ℕ (worst_step supply.demands) front)
    (lowers_by supply state (out-Stmt front) rest keeps range)

pub lowers_worst : TickLowersWorst
unfolding tick
lowers_worst supply state keeps numbers some = lowers_list supply state state.left keeps numbers some

-- ---- what each statement has

and_both : (a b : Bool) → a ≡ true → b ≡ true → a && b ≡ true
and_both true b one other = other
and_both false b one other = cc

module _ (test : Stmt-F Bool → Bool) where
  each-append : (body rest : List Stmt) → each_in test body ≡ true → each_in test rest ≡ true
      → each_in test (body ++ rest) ≡ true
  each-append [] rest one other = other
  each-append (stmt ∷ body) rest one other =
      and_both (each_of test stmt) _ (and_left (each_of test stmt) _ one)
      (each-append body rest (and_right (each_of test stmt) _ one) other)

  each-work_then : (n : ℕ) (rest : List Stmt) → ((m : ℕ) → n ≡ suc m → test (Stmt-F.Work (suc m)) ≡ true)
      → each_in test rest ≡ true → each_in test (work_then n rest) ≡ true
  each-work_then zero rest here there = there
  each-work_then (suc n) rest here there =
      and_both (each_of test (s.Work (suc n))) _
      (fold-Work Bool (λ y. test y && inner_pass y) (suc n)
      ∙ and_both (test (Stmt-F.Work (suc n))) true (here n refl) refl) there

  each-repeat_then : (n : ℕ) (body rest : List Stmt)
      → ((m : ℕ) → n ≡ suc m → test (Stmt-F.Repeat (suc m) (map (each_of test) body)) ≡ true)
      → each_in test body ≡ true → each_in test rest ≡ true → each_in test (repeat_then n body rest) ≡ true
  each-repeat_then zero body rest here inside there = there
  each-repeat_then (suc n) body rest here inside there =
      and_both (each_of test (s.Repeat (suc n) body)) _
      (fold-Repeat Bool (λ y. test y && inner_pass y) (suc n) body
      ∙ and_both (test (Stmt-F.Repeat (suc n) (map (each_of test) body))) _ (here n refl) inside) there

  each-branch : (value : ℤ) (first second : List Stmt) → each_in test first ≡ true → each_in test second ≡ true
      → each_in test (branch value first second) ≡ true
  each-branch (pos zero) first second one other = other
  each-branch (pos (suc n)) first second one other = one
  each-branch (negsuc n) first second one other = one

  keeps_by : (supply : Supply) (state : State) (front : Stmt-F Stmt) (rest : List Stmt) → LastsThroughTicks supply test
      → test (map-Stmt Stmt Bool (each_of test) front) ≡ true
      → inner_pass (map-Stmt Stmt Bool (each_of test) front) ≡ true → each_in test rest ≡ true
      → each_in test (tick_by supply state front rest).left ≡ true
  keeps_by supply state (Stmt-F.Work ticks) rest lasts here inside there =
      each-work_then (ticks - 1) rest
      (λ m is. lasts.work m (subst (λ n. test (Stmt-F.Work n) ≡ true) (omega arith) here)) there
  keeps_by supply state (Stmt-F.Take demand) rest lasts here inside there =
      let used = slice_index state.cursors demand.0 in
      each-work_then (given supply demand.0 used) rest (λ m is. lasts.take demand used m is here) there
  keeps_by supply state (Stmt-F.If expr first second) rest lasts here inside there =
      let one = each_in test first in
      each-append (branch (value_of state.vars expr) first second) rest
      (each-branch (value_of state.vars expr) first second (and_left one _ inside) (and_right one _ inside)) there
  keeps_by supply state (Stmt-F.Repeat turns body) rest lasts here inside there =
      each-append body (repeat_then (turns - 1) body rest) inside
      (each-repeat_then (turns - 1) body rest
      (λ m is. lasts.repeat m (map (each_of test) body)
      (subst (λ n. test (Stmt-F.Repeat n (map (each_of test) body)) ≡ true) (omega arith) here)) inside there)
  keeps_by supply state front rest lasts here inside there = there

  keeps_list : (supply : Supply) (state : State) (list : List Stmt) → LastsThroughTicks supply test
      → state.left ≡ list → each_in test list ≡ true → each_in test (tick_list supply state list).left ≡ true
  keeps_list supply state [] lasts is passed = rw is passed
  keeps_list supply state (front ∷ rest) lasts is passed =
      let here = opened test front (and_left (each_of test front) _ passed) in
      let inside = map-Stmt Stmt Bool (each_of test) (out-Stmt front) in
      keeps_by supply state (out-Stmt front) rest lasts (and_left (test inside) _ here)
      (and_right (test inside) _ here) (and_right (each_of test front) _ passed)

pub keeps_each : TickKeepsEach
unfolding tick
keeps_each supply state test lasts passed = keeps_list test supply state state.left lasts refl passed

numbers_last : (supply : Supply) → KeepsMost supply → AreMostsInRange supply.demands
    → LastsThroughTicks supply is_number_in_range
numbers_last supply keeps mosts = record {
  work = λ n range. grind (arith, nat_tests, range);
  repeat = λ n body range. grind (arith, nat_tests, range);
  take = λ demand used n is range.
      let few : suc n ≤ 10000000 = omega (arith, keeps demand.0 used, most_small supply.demands demand.0 mosts) in
      grind (arith, nat_tests, few);
}

pub keeps_numbers : TickKeepsNumbers
keeps_numbers supply state keeps mosts numbers =
    keeps_each supply state is_number_in_range (numbers_last supply keeps mosts) numbers

-- ---- to the end

-- Nothing left stays nothing.
stays_empty : (supply : Supply) (n : ℕ) (state : State) → state.left ≡ [] → (ticks supply n state).left ≡ []
unfolding ticks tick
stays_empty supply zero state is = is
stays_empty supply (suc n) state is = stays_empty supply n (tick supply state) (rw is refl)

front_is_some : (front : Stmt) (rest left : List Stmt) → left ≡ front ∷ rest → left ≢ []
front_is_some front rest left is none = cc

ends_by : (supply : Supply) (n : ℕ) (state : State) (left : List Stmt) → state.left ≡ left → KeepsMost supply
    → AreMostsInRange supply.demands
    → AreNumbersInRange state.left → worst_in supply.demands state.left ≤ n → (ticks supply n state).left ≡ []
unfolding ticks
ends_by supply n state [] is keeps mosts numbers few = stays_empty supply n state is
ends_by supply zero state (front ∷ rest) is keeps mosts numbers few =
    absurd (omega (arith, lowers_worst supply state keeps numbers (front_is_some front rest state.left is)))
ends_by supply (suc n) state (front ∷ rest) is keeps mosts numbers few =
    ends_by supply n (tick supply state) (tick supply state).left refl keeps mosts
    (keeps_numbers supply state keeps mosts numbers)
    (omega (arith, lowers_worst supply state keeps numbers (front_is_some front rest state.left is)))

pub ends : TicksEnd
ends supply state n keeps mosts numbers few = ends_by supply n state state.left refl keeps mosts numbers few
