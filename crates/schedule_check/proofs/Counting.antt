-- Counting the rows of a mode from one offset up to a later one, row by row.
use Rattle.std.proofs.Common.{ℕ, ◌≡◌, ◌<◌, ◌≤◌, ◌+◌, ◌-◌, List, Bool, true, false, refl, ap, sym, ◌∙◌, subst, arith, cond, length, get_or, set, ⊎_elim}
use Rattle.std.specs.Prelude.{◌==◌, ◌&&◌, nat_lt, sum_by}
use Rattle.std.specs.List.{range_with_len}
use Rattle.std.specs.List.Sorted.{IsNonDecreasingBy}
use Rattle.std.proofs.lemmas.Bool.{cases_lt, cases_eq, and_parts, eq-eqb, ne_eqb, le-ltb, lt-ltb, ltb-true, ltb-false}
use Rattle.std.proofs.lemmas.List.{get_or_default, get_or-set_same, get_or-set_other, length-set}
use Rattle.std.proofs.lemmas.List.FromFn.{get_or-range_with_len, length-range_with_len}
use Rattle.std.proofs.lemmas.List.Sums.{count_by_more_yes, count_by_more_no}
use Rattle.tt_world.specs.declared.config.Activation.{Activation}
use Rattle.tt_world.specs.declared.config.Enable.{Enable}
use Rattle.tt_world.specs.declared.config.ConfigParts.{ConfigParts}
use Rattle.tt_world.specs.Rows.{no_row}
use Rattle.round_table.specs.Cuts.{IsCut}
use Rattle.round_table.specs.TableRows.{TableRows}
use Rattle.schedule_check.specs.declared.counts.Begun.{Begun}
use Rattle.schedule_check.specs.declared.counts.Enabled.{Enabled}
use Rattle.schedule_check.specs.Counts.{AreBefore, AreEnabled, IsCounted, is_before, no_enable}
use Rattle.schedule_check.specs.Demand.{enables_in, is_within, isr_demand, isr_of, isrs_demand, task_budget, tasks_demand}
use Rattle.schedule_check.proofs.Cuts.{between_cuts}
use Rattle.schedule_check.proofs.Sums.{sum_same_at}

and_rest : (a b : Bool) → a ≡ true → (a && b) ≡ false → b ≡ false
and_rest true b e h = h
and_rest false b e h = cc

module _ {X : Type 0} (key : X → ℕ) (d : X) (rows : List X) (to : ℕ) where
  -- the row is there
  pub there : (place : ℕ) → is_before key d rows to place ≡ true → place < length rows
  there place e = ltb-true place (length rows) (and_parts (nat_lt place (length rows)) _ e).0

  -- one row more
  pub before_more : (place : ℕ) → AreBefore key rows to place → is_before key d rows to place ≡ true
      → AreBefore key rows to (place + 1)
  before_more place before e k other l =
      ⊎_elim (λ (less : k < place). before k other less)
      (λ (ge : place ≤ k).
      let same : k ≡ place = omega arith in
      let row : get_or rows place d ≡ get_or rows k other =
      get_or_default rows place d other (there place e) ∙ ap (λ n. get_or rows n other) (sym same) in
      subst (λ (x : X). nat_lt (key x) to ≡ true) row (and_parts (nat_lt place (length rows)) _ e).1)
      (cases_lt k place)

  -- where the rows ascend, the first place with no such row is the cut
  pub cut_here : IsNonDecreasingBy key rows → (place : ℕ) → place ≤ length rows → AreBefore key rows to place
      → is_before key d rows to place ≡ false → IsCut (λ x. nat_lt (key x) to) rows place
  cut_here up place within before stop = record {
    within = within;
    front = before;
    back = λ k other m l.
        let late = and_rest (nat_lt place (length rows)) (nat_lt (key (get_or rows place d)) to)
        (lt-ltb place (length rows) (omega arith)) stop in
        let far = ltb-false (key (get_or rows place d)) to late in
        let same = ap key (get_or_default rows place d other (omega arith)) in
        let rise = up place k other m l in
        le-ltb (key (get_or rows k other)) to (omega arith);
  }

-- an enable counts for its routine alone
pub enabled_more : (rows : List Enable) (enabled : Enabled) (isr : ℕ) → AreEnabled rows enabled
    → enabled.end < length rows → isr ≡ (get_or rows enabled.end no_enable).isr.0 → isr < 16
    → AreEnabled rows (record {
      first = enabled.first;
      end = enabled.end + 1;
      counts = set enabled.counts isr (get_or enabled.counts isr 0 + 1);
    })
enabled_more rows enabled isr are l is small = record {
  within = omega arith;
  all = length-set enabled.counts isr (get_or enabled.counts isr 0 + 1) ∙ are.all;
  counts = λ other few.
      let so_far = are.counts other few in
      let all = are.all in
      let p : Enable → Bool = λ row. row.isr.0 == other in
      ⊎_elim
      (λ (same : other ≡ isr).
      let more = count_by_more_yes p rows enabled.end no_enable l (eq-eqb _ other (sym is ∙ sym same)) in
      let now = ap (λ n. get_or (set enabled.counts isr (get_or enabled.counts isr 0 + 1)) n 0) same
      ∙ get_or-set_same enabled.counts isr (get_or enabled.counts isr 0 + 1) 0 (omega arith) in
      let was = ap (λ n. get_or enabled.counts n 0) same in
      omega arith)
      (λ (ne : other ≡ isr → ⊥).
      let more = count_by_more_no p rows enabled.end no_enable l (ne_eqb _ other (λ e. ne (sym e ∙ sym is))) in
      let now = get_or-set_other enabled.counts isr other (get_or enabled.counts isr 0 + 1) 0 ne in
      omega arith)
      (cases_eq other isr);
}

-- ---- a whole window

-- what passes both tests counts one
both_count : (p q : Bool) → ◌≡◌ {A = ℕ} (cond (p && q) 1 0) (cond q (cond p 1 0) 0)
both_count true true = refl
both_count true false = refl
both_count false true = refl
both_count false false = refl

module _ (c : ConfigParts) (table : TableRows) (from to : ℕ) (begun : Begun) (enabled : Enabled)
    (counted : IsCounted c table from to begun enabled) where
  -- the budgets that were added up are those that the demand sums
  pub budgets_are : begun.budgets ≡ tasks_demand c table.mode from to
  budgets_are =
      let all = between_cuts (λ (row : Activation). row.offset) (task_budget c) no_row from to counted.order
      table.mode.activations begun.first begun.end counted.first_begun counted.end_begun in
      let so_far = counted.activations.budgets in
      omega arith

  -- the enables that were counted are those of the demand
  pub counts_are : (isr : ℕ) → isr < 16 → get_or enabled.counts isr 0 ≡ enables_in table.mode isr from to
  counts_are isr few =
      let b : Enable → ℕ = λ row. cond (row.isr.0 == isr) 1 0 in
      let all = between_cuts (λ (row : Enable). row.offset) b no_enable from to counted.order
      table.mode.enables enabled.first enabled.end counted.first_enabled counted.end_enabled in
      let split = sum_same_at (λ (row : Enable). cond ((row.isr.0 == isr) && is_within from to row.offset) 1 0)
      (λ (row : Enable). cond (is_within from to row.offset) (b row) 0) no_enable table.mode.enables
      (λ i l. both_count _ _) in
      let so_far = counted.enables.counts isr few in
      omega arith

  -- what the routines ask for
  pub isrs_are : length c.isrs ≤ 16
      → sum_by (λ (number : ℕ). isr_demand (isr_of c number) (get_or enabled.counts number 0) (to - from))
      (range_with_len 0 (length c.isrs)) ≡ isrs_demand c table.mode from to
  isrs_are few =
      sum_same_at (λ (number : ℕ). isr_demand (isr_of c number) (get_or enabled.counts number 0) (to - from))
      (λ (number : ℕ). isr_demand (isr_of c number) (enables_in table.mode number from to) (to - from)) 0
      (range_with_len 0 (length c.isrs))
      (λ i l.
      let long = length-range_with_len 0 (length c.isrs) in
      let at = get_or-range_with_len 0 (length c.isrs) i 0 (omega arith) in
      ap (λ (k : ℕ). isr_demand (isr_of c (get_or (range_with_len 0 (length c.isrs)) i 0)) k (to - from))
      (counts_are (get_or (range_with_len 0 (length c.isrs)) i 0) (omega arith)))
