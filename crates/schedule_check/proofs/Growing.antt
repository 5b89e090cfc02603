-- The demand grows with the offset up to which it is counted.
use Rattle.std.proofs.Common.{ℕ, zero, suc, ◌≡◌, ◌≤◌, ◌+◌, ◌-◌, ◌/◌, Bool, true, Option, None, Some, arith, length}
use Rattle.std.specs.Prelude.{◌&&◌, ◌==◌, nat_le, nat_lt, cond}
use Rattle.std.specs.List.{range_with_len}
use Rattle.std.proofs.Math.Nat.{mul-le-mul_left, div-mul-le_self}
use Rattle.std.proofs.lemmas.Nat.{le-div}
use Rattle.std.proofs.lemmas.List.Sums.{sum_by-le-sum_by}
use Rattle.std.proofs.lemmas.Bool.{cond_both, cond-true, and_parts, and_from, ltb-true, lt-ltb}
use Rattle.tt_world.specs.declared.config.Activation.{Activation}
use Rattle.tt_world.specs.declared.config.Enable.{Enable}
use Rattle.tt_world.specs.declared.config.IsrDef.{IsrDef}
use Rattle.tt_world.specs.declared.config.ModeDef.{ModeDef}
use Rattle.tt_world.specs.declared.config.ConfigParts.{ConfigParts}
use Rattle.schedule_check.specs.Demand.{is_within, isr_of, task_budget, tasks_demand, enables_in, most_begins, isr_demand, demand}

-- what counts where one test passes counts no more than where a weaker one does
counts_more : (p q : Bool) (x : ℕ) → (p ≡ true → q ≡ true) → cond p x 0 ≤ cond q x 0
counts_more p q x h = cond_both p x 0 (λ y. y ≤ cond q x 0)
    (λ e. let same = cond-true q x 0 (h e) in omega arith) (λ e. omega arith)

module _ (from t u : ℕ) (l : t ≤ u) where
  within_more : (offset : ℕ) → is_within from t offset ≡ true → is_within from u offset ≡ true
  within_more offset e =
      let both = and_parts (nat_le from offset) (nat_lt offset t) e in
      let before = ltb-true offset t both.1 in
      and_from (nat_le from offset) (nat_lt offset u) both.0 (lt-ltb offset u (omega arith))

  tasks_more : (c : ConfigParts) (mode : ModeDef) → tasks_demand c mode from t ≤ tasks_demand c mode from u
  tasks_more c mode = sum_by-le-sum_by
      (λ (row : Activation). cond (is_within from t row.offset) (task_budget c row) 0)
      (λ (row : Activation). cond (is_within from u row.offset) (task_budget c row) 0) mode.activations
      (λ row. counts_more _ _ (task_budget c row) (within_more row.offset))

  enables_more : (mode : ModeDef) (isr : ℕ) → enables_in mode isr from t ≤ enables_in mode isr from u
  enables_more mode isr = sum_by-le-sum_by
      (λ (row : Enable). cond ((row.isr.0 == isr) && is_within from t row.offset) 1 0)
      (λ (row : Enable). cond ((row.isr.0 == isr) && is_within from u row.offset) 1 0) mode.enables
      (λ row. counts_more _ _ 1 (λ e. let both = and_parts (row.isr.0 == isr) (is_within from t row.offset) e in
      and_from (row.isr.0 == isr) (is_within from u row.offset) both.0 (within_more row.offset both.1)))

-- a quotient grows with its dividend
div_more : (a b k : ℕ) → a ≤ b → a / k ≤ b / k
div_more a b zero l = omega arith
div_more a b (suc k) l =
    let below = div-mul-le_self a (suc k) in
    le-div (a / suc k) b (suc k) (omega arith) (omega arith)

begins_more : (distance : Option ℕ) (d e t u : ℕ) → d ≤ e → t ≤ u → most_begins distance d t ≤ most_begins distance e u
begins_more None d e t u l k = l
begins_more (Some distance) d e t u l k =
    let more = div_more (t + (distance - 1)) (u + (distance - 1)) distance (omega arith) in omega arith

-- a routine asks for no less with more enables and ticks
pub routine_more : (isr : IsrDef) (d e t u : ℕ) → d ≤ e → t ≤ u → isr_demand isr d t ≤ isr_demand isr e u
routine_more isr d e t u l k =
    let more = begins_more isr.distance d e t u l k in
    let h : 2 + most_begins isr.distance d t ≤ 2 + most_begins isr.distance e u = omega arith in
    mul-le-mul_left isr.budget h

pub demand_more : (c : ConfigParts) (mode : ModeDef) (from t u : ℕ) → t ≤ u
    → demand c mode from t ≤ demand c mode from u
unfolding demand
demand_more c mode from t u l =
    let tasks = tasks_more from t u l c mode in
    let isrs = sum_by-le-sum_by
    (λ (number : ℕ). isr_demand (isr_of c number) (enables_in mode number from t) (t - from))
    (λ (number : ℕ). isr_demand (isr_of c number) (enables_in mode number from u) (u - from))
    (range_with_len 0 (length c.isrs))
    (λ number. routine_more (isr_of c number) _ _ (t - from) (u - from) (enables_more from t u l mode number)
    (omega arith)) in
    omega arith
