-- What has opened up to an activation is what has closed by then, and what is open.
use Rattle.std.proofs.Common.{ℕ, zero, suc, ◌≡◌, ◌<◌, ◌≤◌, ◌+◌, ◌-◌, List, [], ◌∷◌, Bool, true, false, refl, ap, sym, ◌∙◌, subst, arith, zero-add, length, get_or, take, ◌⊎◌, inl, inr, ⊎_elim}
use Rattle.std.specs.Prelude.{sum_by, cond, nat_le, nat_lt, ◌==◌, ◌&&◌}
use Rattle.std.proofs.lemmas.List.{take_all}
use Rattle.std.proofs.lemmas.List.Sums.{sum_by-cons, sum_by-append, sum_by_more}
use Rattle.std.proofs.lemmas.Bool.{cases_lt, cases_eq, cond-true, cond-false, cond_both, and_parts, and_from, and_left, and_right, leb-true, ltb-true, le-leb, lt-leb, lt-ltb, le-ltb, eq-eqb, ne_eqb}
use Rattle.tt_world.specs.declared.config.Activation.{Activation}
use Rattle.tt_world.specs.declared.config.ModeDef.{ModeDef}
use Rattle.tt_world.specs.declared.config.ConfigParts.{ConfigParts}
use Rattle.tt_world.specs.declared.world.Point.{Point}
use Rattle.tt_world.specs.declared.world.Point.TheVariants as point
use Rattle.tt_world.specs.Monitoring.{is_at}
use Rattle.tt_world.specs.Points.{point_of}
use Rattle.tt_world.specs.Rows.{no_row, row_of}
use Rattle.tt_world.proofs.Deadlines.{IsFrom, point_is_from}
use Rattle.tt_world.proofs.TableRows.{AreRows, rows_ascend, deadline_after}
use Rattle.round_table.specs.Below.{below}
use Rattle.round_table.specs.DueRows.{entries_of, entries_due, checks_below}
use Rattle.schedule_check.specs.Measures.{counted}
use Rattle.schedule_check.specs.Windows.{window_end, is_open, open_at, largest, most_in}
use Rattle.schedule_check.proofs.Sums.{sum_le_at, sum_same_at, sum_both, sum_filter, sum_places}
use Rattle.schedule_check.proofs.Largest.{largest_at, largest_le}

-- whether a monitoring point is an offset below this one
abbrev is_below : ℕ → Point → Bool
is_below offset (point.At place) = nat_lt place offset
is_below offset point.RoundEnd = false

-- one offset more
below_more : (n x : ℕ) (p : Point) → cond (is_below n p) x 0 + cond (is_at n p) x 0 ≡ cond (is_below (suc n) p) x 0
below_more n x point.RoundEnd = refl
below_more n x (point.At place) =
    ⊎_elim
    (λ (l : place < n).
    let a = cond-true (nat_lt place n) x 0 (lt-ltb place n l) in
    let b = cond-false (place == n) x 0 (ne_eqb place n (λ e. omega arith)) in
    let s = cond-true (nat_lt place (suc n)) x 0 (lt-ltb place (suc n) (omega arith)) in
    omega arith)
    (λ (g : n ≤ place).
    let a = cond-false (nat_lt place n) x 0 (le-ltb place n g) in
    ⊎_elim
    (λ (e : place ≡ n).
    let b = cond-true (place == n) x 0 (eq-eqb place n e) in
    let s = cond-true (nat_lt place (suc n)) x 0 (lt-ltb place (suc n) (omega arith)) in
    omega arith)
    (λ (ne : place ≡ n → ⊥).
    let later : n < place = ⊎_elim (λ (h : n < place). h) (λ (h : place ≤ n). absurd (ne (omega arith)))
    (cases_lt n place) in
    let b = cond-false (place == n) x 0 (ne_eqb place n ne) in
    let s = cond-false (nat_lt place (suc n)) x 0 (le-ltb place (suc n) (omega arith)) in
    omega arith)
    (cases_eq place n))
    (cases_lt place n)

nothing_below : (x : ℕ) (p : Point) → cond (is_below 0 p) x 0 ≡ 0
nothing_below x (point.At place) = cond-false (nat_lt place 0) x 0 (le-ltb place 0 (omega arith))
nothing_below x point.RoundEnd = refl

module _ (w : Activation → ℕ) (mode : ModeDef) where
  -- the sum of what the entries count whose monitoring point is an offset below this one
  closed : (n : ℕ) → sum_by (counted w mode) (checks_below mode n)
      ≡ sum_by (λ entry. cond (is_below n (point_of mode (row_of mode entry))) (counted w mode entry) 0)
      (entries_of mode)
  unfolding below
  closed zero = sym (sum_same_at
      (λ (entry : ℕ). cond (is_below 0 (point_of mode (row_of mode entry))) (counted w mode entry) 0)
      (λ (entry : ℕ). 0) 0 (entries_of mode)
      (λ i l. nothing_below (counted w mode (get_or (entries_of mode) i 0))
      (point_of mode (row_of mode (get_or (entries_of mode) i 0))))
      ∙ none (entries_of mode))
    where
      none : (xs : List ℕ) → sum_by (λ (x : ℕ). 0) xs ≡ 0
      none [] = refl
      none (x ∷ xs) = let a = sum_by-cons (λ (x : ℕ). 0) x xs in let r = none xs in omega arith
  closed (suc n) =
      let Point-of : ℕ → Point = λ entry. point_of mode (row_of mode entry) in
      sum_by-append (counted w mode) (checks_below mode n) (entries_due (is_at n) mode)
      ∙ ap (λ s. s + sum_by (counted w mode) (entries_due (is_at n) mode)) (closed n)
      ∙ ap (λ s. sum_by (λ entry. cond (is_below n (Point-of entry)) (counted w mode entry) 0) (entries_of mode) + s)
      (sum_filter (counted w mode) (λ entry. is_at n (Point-of entry)) (entries_of mode))
      ∙ sum_both (λ entry. cond (is_below n (Point-of entry)) (counted w mode entry) 0)
      (λ entry. cond (is_at n (Point-of entry)) (counted w mode entry) 0) 0 (entries_of mode)
      ∙ sum_same_at
      (λ (entry : ℕ). cond (is_below n (Point-of entry)) (counted w mode entry) 0 + cond (is_at n (Point-of entry))
      (counted w mode entry) 0)
      (λ (entry : ℕ). cond (is_below (suc n) (Point-of entry)) (counted w mode entry) 0) 0 (entries_of mode)
      (λ i l. below_more n (counted w mode (get_or (entries_of mode) i 0)) (Point-of (get_or (entries_of mode) i 0)))

  -- the same over the rows
  closed_rows : (n : ℕ) → sum_by (counted w mode) (checks_below mode n)
      ≡ sum_by (λ (row : Activation). cond (is_below n (point_of mode row)) (w row) 0) mode.activations
  closed_rows n =
      closed n
      ∙ sum_places (λ (row : Activation). cond (is_below n (point_of mode row)) (w row) 0) mode.activations no_row
      (length mode.activations) (omega arith)
      ∙ ap (sum_by (λ (row : Activation). cond (is_below n (point_of mode row)) (w row) 0))
      (take_all (length mode.activations) mode.activations (omega arith))

  -- ---- up to an activation

  module _ (c : ConfigParts) (rules : AreRows c mode) where
    -- what has opened by the offset of an activation
    begun_front : (j : ℕ) → j < length mode.activations → (k : ℕ) → k ≤ suc j
        → sum_by (λ (row : Activation). cond (nat_le row.offset (row_of mode j).offset) (w row) 0)
        (take k mode.activations)
        ≡ sum_by w (take k mode.activations)
    begun_front j l zero h = refl
    begun_front j l (suc k) h =
        let G : Activation → ℕ = λ row. cond (nat_le row.offset (row_of mode j).offset) (w row) 0 in
        let z : k + 1 ≡ suc k = omega arith in
        let r = begun_front j l k (omega arith) in
        let a = sum_by_more G mode.activations k no_row (omega arith) in
        let b = sum_by_more w mode.activations k no_row (omega arith) in
        let order : (row_of mode k).offset ≤ (row_of mode j).offset =
        ⊎_elim (λ (e : k ≡ j). let same = ap (λ n. (row_of mode n).offset) e in omega arith)
        (λ (ne : k ≡ j → ⊥). let less = rows_ascend c mode k j rules
        (⊎_elim (λ (lt : k < j). lt) (λ (ge : j ≤ k). absurd (ne (omega arith))) (cases_lt k j)) l in omega arith)
        (cases_eq k j) in
        let here = cond-true (nat_le (row_of mode k).offset (row_of mode j).offset) (w (row_of mode k)) 0
        (le-leb _ _ order) in
        let e = ap (λ n. sum_by G (take n mode.activations)) z in
        let f = ap (λ n. sum_by w (take n mode.activations)) z in
        omega arith

    begun_back : (j : ℕ) → j < length mode.activations → (more : ℕ) → suc j + more ≤ length mode.activations
        → sum_by (λ (row : Activation). cond (nat_le row.offset (row_of mode j).offset) (w row) 0)
        (take (suc j + more) mode.activations)
        ≡ sum_by w (take (suc j) mode.activations)
    begun_back j l zero h =
        let z : suc j + zero ≡ suc j = omega arith in
        ap (λ n. sum_by (λ (row : Activation). cond (nat_le row.offset (row_of mode j).offset) (w row) 0)
        (take n mode.activations)) z
        ∙ begun_front j l (suc j) (omega arith)
    begun_back j l (suc more) h =
        let G : Activation → ℕ = λ row. cond (nat_le row.offset (row_of mode j).offset) (w row) 0 in
        let k = suc j + more in
        let z : k + 1 ≡ suc j + suc more = omega arith in
        let r = begun_back j l more (omega arith) in
        let a = sum_by_more G mode.activations k no_row (omega arith) in
        let less = rows_ascend c mode j k rules (omega arith) (omega arith) in
        let here = cond-false (nat_le (row_of mode k).offset (row_of mode j).offset) (w (row_of mode k)) 0
        (lt-leb _ _ less) in
        let e = ap (λ n. sum_by G (take n mode.activations)) z in
        omega arith

    begun : (j : ℕ) → j < length mode.activations
        → sum_by w (take (suc j) mode.activations)
        ≡ sum_by (λ (row : Activation). cond (nat_le row.offset (row_of mode j).offset) (w row) 0) mode.activations
    begun j l =
        let z : suc j + (length mode.activations - suc j) ≡ length mode.activations = omega arith in
        sym (begun_back j l (length mode.activations - suc j) (omega arith))
        ∙ ap (sum_by (λ (row : Activation). cond (nat_le row.offset (row_of mode j).offset) (w row) 0))
        (ap (λ n. take n mode.activations) z ∙ take_all (length mode.activations) mode.activations (omega arith))

    -- a row that has opened has closed, or its window covers the offset
    split_row : (o x at : ℕ) (p : Point) → o < c.round + c.adjust → (from : ℕ) → at < from → IsFrom from p
        → cond (is_below (suc o) p) x 0 + cond (nat_le at o && nat_lt o (window_end c p)) x 0 ≡ cond (nat_le at o) x 0
    split_row o x at point.RoundEnd inside from later h =
        zero-add (cond (nat_le at o && nat_lt o (c.round + c.adjust)) x 0)
        ∙ cond_both (nat_le at o) x 0 (λ (v : ℕ). cond (nat_le at o && nat_lt o (c.round + c.adjust)) x 0 ≡ v)
        (λ e. cond-true (nat_le at o && nat_lt o (c.round + c.adjust)) x 0
        (and_from (nat_le at o) (nat_lt o (c.round + c.adjust)) e (lt-ltb o (c.round + c.adjust) inside)))
        (λ e. cond-false (nat_le at o && nat_lt o (c.round + c.adjust)) x 0 (and_left (nat_le at o) _ e))
    split_row o x at (point.At place) inside from later h =
        ⊎_elim
        (λ (covers : o < place).
        let before = cond-false (nat_lt place (suc o)) x 0 (le-ltb place (suc o) (omega arith)) in
        let here : cond (nat_le at o && nat_lt o place) x 0 ≡ cond (nat_le at o) x 0 =
        ap (λ b. cond b x 0) (and_true (nat_le at o) (nat_lt o place) (lt-ltb o place covers)) in
        omega arith)
        (λ (shut : place ≤ o).
        let before = cond-true (nat_lt place (suc o)) x 0 (lt-ltb place (suc o) (omega arith)) in
        let here = cond-false (nat_le at o && nat_lt o place) x 0
        (and_right (nat_le at o) (nat_lt o place) (le-ltb o place shut)) in
        let there = cond-true (nat_le at o) x 0 (le-leb at o (omega arith)) in
        omega arith)
        (cases_lt o place)
      where
        and_true : (a b : Bool) → b ≡ true → (a && b) ≡ a
        and_true true b e = e
        and_true false b e = refl

    -- each row has its monitoring point after its offset
    row_after : (i : ℕ) → i < length mode.activations
        → ((row_of mode i).offset < (row_of mode i).deadline)
        × IsFrom (row_of mode i).deadline (point_of mode (row_of mode i))
    row_after i l = (deadline_after c mode i rules l, point_is_from mode (row_of mode i))

    module _ (inside : (i : ℕ) → i < length mode.activations → (row_of mode i).offset < c.round + c.adjust) where
      pub open_split : (j : ℕ) → j < length mode.activations
          → sum_by w (take (suc j) mode.activations)
          ≡ sum_by (counted w mode) (checks_below mode (suc (row_of mode j).offset)) + open_at w c mode
          (row_of mode j).offset
      open_split j l =
          let o = (row_of mode j).offset in
          let f : Activation → ℕ = λ row. cond (is_below (suc o) (point_of mode row)) (w row) 0 in
          let g : Activation → ℕ = λ row. cond (is_open c mode o row) (w row) 0 in
          begun j l
          ∙ sym (sum_same_at (λ (row : Activation). f row + g row)
          (λ (row : Activation). cond (nat_le row.offset o) (w row) 0) no_row mode.activations
          (λ i k. let after = row_after i k in
          split_row o (w (row_of mode i)) (row_of mode i).offset (point_of mode (row_of mode i)) (inside j l)
          (row_of mode i).deadline after.0 after.1))
          ∙ sym (sum_both f g no_row mode.activations)
          ∙ ap (λ s. s + open_at w c mode o) (sym (closed_rows (suc o)))

      -- the last activation at or before an offset, if there is one
      last_before : (o n : ℕ) → n ≤ length mode.activations
          → ((k : ℕ) → k < n → o < (row_of mode k).offset)
          ⊎ ((j : ℕ) × (j < n) × ((row_of mode j).offset ≤ o) × ((k : ℕ) → j < k → k < n → o < (row_of mode k).offset))
      last_before o zero h = inl (λ k l. absurd (omega arith))
      last_before o (suc n) h =
          ⊎_elim
          (λ (past : o < (row_of mode n).offset).
          ⊎_elim
          (λ (none : (k : ℕ) → k < n → o < (row_of mode k).offset).
          inl (λ k l. ⊎_elim (λ (less : k < n). none k less)
          (λ (ge : n ≤ k). let same : n ≡ k = omega arith in subst (λ i. o < (row_of mode i).offset) same past)
          (cases_lt k n)))
          (λ (some : (j : ℕ) × (j < n) × ((row_of mode j).offset ≤ o)
          × ((k : ℕ) → j < k → k < n → o < (row_of mode k).offset)).
          let less = some.1 in
          inr (
            some.0,
            omega arith,
            some.2,
            λ k a l. ⊎_elim (λ (lt : k < n). some.3 k a lt)
                (λ (ge : n ≤ k). let same : n ≡ k = omega arith in subst (λ i. o < (row_of mode i).offset) same past)
                (cases_lt k n),
          ))
          (last_before o n (omega arith)))
          (λ (here : (row_of mode n).offset ≤ o). inr (n, omega arith, here, λ k a l. absurd (omega arith)))
          (cases_lt o (row_of mode n).offset)

      -- what is open at an offset is at most what bounds it at the offsets of activations
      open_le : (o m : ℕ) → ((j : ℕ) → j < length mode.activations → open_at w c mode (row_of mode j).offset ≤ m)
          → open_at w c mode o ≤ m
      open_le o m each =
          ⊎_elim
          (λ (none : (k : ℕ) → k < length mode.activations → o < (row_of mode k).offset).
          let zero_le = sum_le_at (λ (row : Activation). cond (is_open c mode o row) (w row) 0)
          (λ (row : Activation). 0)
          no_row mode.activations
          (λ i l. let shut = cond-false (is_open c mode o (row_of mode i)) (w (row_of mode i)) 0
          (and_left (nat_le (row_of mode i).offset o) _ (lt-leb _ _ (none i l))) in omega arith) in
          let nothing = zeros mode.activations in
          omega arith)
          (λ (some : (j : ℕ) × (j < length mode.activations) × ((row_of mode j).offset ≤ o)
          × ((k : ℕ) → j < k → k < length mode.activations → o < (row_of mode k).offset)).
          let j = some.0 in
          let more = sum_le_at (λ (row : Activation). cond (is_open c mode o row) (w row) 0)
          (λ (row : Activation). cond (is_open c mode (row_of mode j).offset row) (w row) 0) no_row mode.activations
          (λ i l. still (row_of mode i) (row_of mode j).offset o some.2
          (λ before. ⊎_elim (λ (lt : j < i). absurd (let later = some.3 i lt l in omega arith))
          (λ (ge : i ≤ j). ⊎_elim (λ (less : i < j). let rise = rows_ascend c mode i j rules less some.1 in omega arith)
          (λ (ge' : j ≤ i). let same : i ≡ j = omega arith in let e = ap (λ n. (row_of mode n).offset) same in
          omega arith)
          (cases_lt i j)) (cases_lt j i))) in
          let here = each j some.1 in
          omega arith)
          (last_before o (length mode.activations) (omega arith))
        where
          zeros : (xs : List Activation) → sum_by (λ (row : Activation). 0) xs ≡ 0
          zeros [] = refl
          zeros (x ∷ xs) = let a = sum_by-cons (λ (row : Activation). 0) x xs in let r = zeros xs in omega arith

          still : (row : Activation) (first o : ℕ) → first ≤ o → (row.offset ≤ o → row.offset ≤ first)
              → cond (is_open c mode o row) (w row) 0 ≤ cond (is_open c mode first row) (w row) 0
          still row first o order early =
              cond_both (is_open c mode o row) (w row) 0 (λ (v : ℕ). v ≤ cond (is_open c mode first row) (w row) 0)
              (λ e.
              let both = and_parts (nat_le row.offset o) (nat_lt o (window_end c (point_of mode row))) e in
              let begins = leb-true row.offset o both.0 in
              let shuts = ltb-true o (window_end c (point_of mode row)) both.1 in
              let covers = cond-true (is_open c mode first row) (w row) 0
              (and_from (nat_le row.offset first) (nat_lt first (window_end c (point_of mode row)))
              (le-leb row.offset first (early begins))
              (lt-ltb first (window_end c (point_of mode row)) (omega arith))) in
              omega arith)
              (λ e. omega arith)

      -- so the largest over all offsets is that over the offsets of activations
      pub most_is : largest (λ j. open_at w c mode (row_of mode j).offset) (length mode.activations) ≡ most_in w c mode
      unfolding most_in
      most_is =
          let at_rows = largest (λ j. open_at w c mode (row_of mode j).offset) (length mode.activations) in
          let below = largest_le (λ j. open_at w c mode (row_of mode j).offset) (length mode.activations)
          (largest (open_at w c mode) (c.round + c.adjust))
          (λ j l. largest_at (open_at w c mode) (c.round + c.adjust) (row_of mode j).offset (inside j l)) in
          let above = largest_le (open_at w c mode) (c.round + c.adjust) at_rows
          (λ o l. open_le o at_rows
          (λ j k. largest_at (λ n. open_at w c mode (row_of mode n).offset) (length mode.activations) j k)) in
          omega arith
