-- The worst case of a body in its limits fits 128 bits.
use Rattle.std.proofs.Common.{◌≡◌, ℕ, zero, suc, ◌+◌, ◌*◌, ◌^◌, ◌≤◌, ◌<◌, max, Bool, true, List, [], ◌∷◌, map, sym, ap, subst, ◌∙◌, arith, add-mul, one-mul, mul_left_comm, mul-le-mul_right}
use Rattle.std.specs.Prelude.{◌&&◌, nat_le, sum, slice_get}
use Rattle.std.proofs.lemmas.List.Sums.{sum_by-cons}
use Rattle.task_lang.specs.declared.demand.Demand.{Demand}
use Rattle.task_lang.specs.declared.syntax.Stmt.{Stmt}
use Rattle.task_lang.specs.declared.syntax.Stmt.TheOpen.{Stmt-F}
use Rattle.task_lang.specs.declared.syntax.Stmt.TheFolds.{ind-Stmt, map-Stmt, fold-roll-Stmt}
use Rattle.task_lang.specs.declared.syntax.Stmt.TheViews.{roll-Stmt}
use Rattle.task_lang.specs.Limits.{IsNestedInLimit, IsCountInLimit, AreNumbersInRange, AreMostsInRange, nesting_step, nesting_of, nesting_in, count_step, count_of, count_in, each_of, all_true, inner_pass, is_number_in_range}
use Rattle.task_lang.specs.Worst.{most_of, worst_step, worst_of, worst_in}
use Rattle.task_lang.proofs.Numbers.{and_left, and_right, from_nat_le, most_small}

-- the bound on the worst case for each statement counted, where at most n blocks are open at once
abbrev cap : ℕ → ℕ
cap zero = 10000001
cap (suc depth) = 65536 * cap depth

cap_some : (depth : ℕ) → 10000001 ≤ cap depth
cap_some zero = omega arith
cap_some (suc depth) = omega (arith, cap_some depth)

spread : (count c : ℕ) → (1 + count) * c ≡ c + count * c
spread count c = add-mul 1 count c ∙ ap (λ k. k + count * c) (one-mul c)

pulled : (count c : ℕ) → count * (65536 * c) ≡ 65536 * (count * c)
pulled count c = mul_left_comm count 65536 c

if_bound : (first second m n c : ℕ) → first ≤ m * c → second ≤ n * c → 1 ≤ c
    → 1 + max first second ≤ (1 + (m + n)) * (65536 * c)
if_bound first second m n c p q one =
    omega (arith, spread (m + n) (65536 * c), add-mul m n (65536 * c), pulled m c, pulled n c)

repeat_bound : (turns inner n c : ℕ) → turns ≤ 65535 → inner ≤ n * c → 1 ≤ c
    → turns * (1 + inner) ≤ (1 + n) * (65536 * c)
repeat_bound turns inner n c few p one =
    let more : turns * (1 + inner) ≤ 65535 * (1 + inner) = mul-le-mul_right (1 + inner) few in
    omega (arith, more, spread n (65536 * c), pulled n c)

add_bound : (worst count c : ℕ) (worsts counts : List ℕ) → worst ≤ count * c → sum worsts ≤ sum counts * c
    → sum (worst ∷ worsts) ≤ sum (count ∷ counts) * c
add_bound worst count c worsts counts here there =
    let both : worst + sum worsts ≤ (count + sum counts) * c = omega (arith, add-mul count (sum counts) c) in
    rw (sum_by-cons (λ x. x) worst worsts, sum_by-cons (λ x. x) count counts) both

-- ---- statements

abbrev numbers_step : Stmt-F Bool → Bool
numbers_step stmt = is_number_in_range stmt && inner_pass stmt

module _ (demands : List Demand) (mosts : AreMostsInRange demands) where
  abbrev IsBelow : Stmt → Type 0
  IsBelow stmt = (depth : ℕ) → nesting_of stmt ≤ depth → each_of is_number_in_range stmt ≡ true
      → worst_of demands stmt ≤ count_of stmt * cap depth

  -- a statement with the proof
  abbrev Below : Type 0
  Below = (stmt : Stmt) × IsBelow stmt

  body_below : (body : List Below) (depth : ℕ) → nesting_in (map (λ p. p.0) body) ≤ depth
      → AreNumbersInRange (map (λ p. p.0) body)
      → worst_in demands (map (λ p. p.0) body) ≤ count_in (map (λ p. p.0) body) * cap depth
  body_below [] depth nested numbers = omega arith
  body_below (p ∷ body) depth nested numbers =
      let rest = map (λ (p : Below). p.0) body in
      let here : worst_of demands p.0 ≤ count_of p.0 * cap depth =
      p.1 depth (omega arith) (and_left (each_of is_number_in_range p.0) _ numbers) in
      let there : worst_in demands rest ≤ count_in rest * cap depth =
      body_below body depth (omega arith) (and_right (each_of is_number_in_range p.0) _ numbers) in
      add_bound (worst_of demands p.0) (count_of p.0) (cap depth) (map (worst_of demands) rest)
      (map count_of rest) here there

  abbrev plain : Stmt-F Below → Stmt-F Stmt
  plain = map-Stmt Below Stmt (λ p. p.0)

  one_below : (worst depth : ℕ) → worst ≤ 10000001 → worst ≤ 1 * cap depth
  one_below worst depth small = omega (arith, cap_some depth)

  level : (y : Stmt-F Below) (depth : ℕ) → nesting_step (map-Stmt Stmt ℕ nesting_of (plain y)) ≤ depth
      → numbers_step (map-Stmt Stmt Bool (each_of is_number_in_range) (plain y)) ≡ true
      → worst_step demands (map-Stmt Stmt ℕ (worst_of demands) (plain y))
      ≤ count_step (map-Stmt Stmt ℕ count_of (plain y)) * cap depth
  level (Stmt-F.Work ticks) depth nested numbers =
      let few : ticks ≤ 10000000 =
      from_nat_le ticks 10000000 (and_right (nat_le 1 ticks) _
      (and_left (nat_le 1 ticks && nat_le ticks 10000000) _ numbers)) in
      one_below ticks depth (omega arith)
  level (Stmt-F.Take demand) depth nested numbers =
      one_below (1 + most_of (slice_get demands demand.0)) depth (omega (arith, most_small demands demand.0 mosts))
  level (Stmt-F.If expr first second) zero nested numbers = absurd (omega arith)
  level (Stmt-F.If expr first second) (suc depth) nested numbers =
      let passed = all_true (map (each_of is_number_in_range) (map (λ (p : Below). p.0) first)) in
      let one = body_below first depth (omega arith) (and_left passed _ numbers) in
      let other = body_below second depth (omega arith) (and_right passed _ numbers) in
      if_bound _ _ _ _ (cap depth) one other (omega (arith, cap_some depth))
  level (Stmt-F.Repeat turns body) zero nested numbers = absurd (omega arith)
  level (Stmt-F.Repeat turns body) (suc depth) nested numbers =
      let range = nat_le 1 turns && nat_le turns 65535 in
      let few : turns ≤ 65535 = from_nat_le turns 65535 (and_right (nat_le 1 turns) _ (and_left range _ numbers)) in
      let inner = body_below body depth (omega arith) (and_right range _ numbers) in
      repeat_bound turns _ _ (cap depth) few inner (omega (arith, cap_some depth))
  level y depth nested numbers = one_below 1 depth (omega arith)

  stmt_below : (stmt : Stmt) → IsBelow stmt
  stmt_below = ind-Stmt IsBelow (λ x y is depth nested numbers.
      let nested' : nesting_step (map-Stmt Stmt ℕ nesting_of (plain y)) ≤ depth =
      subst (λ k. k ≤ depth) (fold-roll-Stmt ℕ nesting_step x
      ∙ sym (ap (λ z. nesting_step (map-Stmt Stmt ℕ nesting_of z)) is)) nested in
      let numbers' : numbers_step (map-Stmt Stmt Bool (each_of is_number_in_range) (plain y)) ≡ true =
      ap (λ z. numbers_step (map-Stmt Stmt Bool (each_of is_number_in_range) z)) is
      ∙ sym (fold-roll-Stmt Bool numbers_step x) ∙ numbers in
      let worst = ap (λ z. worst_step demands (map-Stmt Stmt ℕ (worst_of demands) z)) is
      ∙ sym (fold-roll-Stmt ℕ (worst_step demands) x) in
      let count = ap (λ z. count_step (map-Stmt Stmt ℕ count_of z)) is ∙ sym (fold-roll-Stmt ℕ count_step x) in
      subst (λ k. k ≤ count_of (roll-Stmt x) * cap depth) worst
      (subst (λ k. worst_step demands (map-Stmt Stmt ℕ (worst_of demands) (plain y)) ≤ k * cap depth) count
      (level y depth nested' numbers')))

  all_below : (body : List Stmt) (depth : ℕ) → nesting_in body ≤ depth → AreNumbersInRange body
      → worst_in demands body ≤ count_in body * cap depth
  all_below [] depth nested numbers = omega arith
  all_below (stmt ∷ body) depth nested numbers =
      let here = stmt_below stmt depth (omega arith) (and_left (each_of is_number_in_range stmt) _ numbers) in
      let there = all_below body depth (omega arith) (and_right (each_of is_number_in_range stmt) _ numbers) in
      add_bound (worst_of demands stmt) (count_of stmt) (cap depth) (map (worst_of demands) body)
      (map count_of body) here there

  pub worst_fits : (body : List Stmt) → IsNestedInLimit body → IsCountInLimit body → AreNumbersInRange body
      → worst_in demands body < 2 ^ 128
  worst_fits body nested counted numbers = omega (arith, all_below body 4 nested numbers, counted)
