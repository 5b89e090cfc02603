-- The sweep along the activations of a table: what has opened, and what has closed.
use Rattle.std.proofs.Common.{ℕ, suc, ◌≡◌, ◌<◌, ◌≤◌, ◌+◌, List, ◌++◌, Some, ap, sym, ◌∙◌, subst, arith, length, get_or, take, take-take, append_assoc, ⊎_elim}
use Rattle.std.specs.Prelude.{slice_get, sum_by}
use Rattle.std.proofs.Math.Seq.{take-append_seam}
use Rattle.std.proofs.lemmas.List.{get_or_default}
use Rattle.std.proofs.lemmas.List.Sums.{sum_by_more, sum_by-take-le}
use Rattle.std.proofs.lemmas.Option.{get_or_from_slice_get, slice_get_within}
use Rattle.std.proofs.lemmas.Bool.{cases_lt, cases_eq}
use Rattle.tt_world.specs.declared.config.Activation.{Activation}
use Rattle.tt_world.specs.declared.config.ConfigParts.{ConfigParts}
use Rattle.tt_world.specs.ConfigRules.{IsConfig}
use Rattle.tt_world.specs.Monitoring.{is_at}
use Rattle.tt_world.specs.Rows.{no_row, row_of}
use Rattle.tt_world.proofs.TableRows.{AreRows, mode_rows, rows_ascend}
use Rattle.round_table.specs.Below.{below}
use Rattle.round_table.specs.DueRows.{entries_due, checks_below, checks_of, due_at, is_round_end}
use Rattle.round_table.specs.declared.due.Due.{Due}
use Rattle.round_table.specs.TableRows.{TableRows}
use Rattle.round_table.proofs.Laid.{below_begins, below_rises}
use Rattle.schedule_check.specs.Measures.{counted}
use Rattle.schedule_check.specs.TablesOf.{IsTableOf}
use Rattle.schedule_check.specs.Windows.{open_at, largest, most_in}
use Rattle.schedule_check.proofs.Opened.{open_split, most_is}
use Rattle.schedule_check.proofs.Rows.{mode_of_table, row_within}

module _ (c : ConfigParts) (rules : IsConfig c) (table : TableRows) (of : IsTableOf c table) (w : Activation → ℕ) where
  rows : AreRows c table.mode
  rows = subst (AreRows c) (sym (ap (λ (t : TableRows). t.mode) of.is)) (mode_rows c of.mode rules)

  -- the place after the checks at the offset of an activation or before it
  abbrev pub place_after : ℕ → ℕ
  place_after j = length (checks_below table.mode (suc (row_of table.mode j).offset))

  inside : (j : ℕ) → j < length table.mode.activations → (row_of table.mode j).offset < c.round + c.adjust
  inside j l = let b = row_within c rules table of j l in let a = b.0 in let d = b.1 in omega arith

  -- the checks at an offset or before it come first in the list
  front : (o : ℕ) → o ≤ table.limit
      → take (length (checks_below table.mode (suc o))) (checks_of table) ≡ checks_below table.mode (suc o)
  front o l =
      let at : ℕ → List ℕ = λ k. entries_due (is_at k) table.mode in
      let rest = below_begins at (suc o) (suc table.limit) (omega arith) in
      let ends = entries_due is_round_end table.mode in
      ap (λ xs. take (length (checks_below table.mode (suc o))) (xs ++ ends)) rest.1
      ∙ ap (take (length (checks_below table.mode (suc o)))) (append_assoc (below at (suc o)) rest.0 ends)
      ∙ take-append_seam (below at (suc o)) (rest.0 ++ ends)

  pub split : (j : ℕ) → j < length table.mode.activations
      → sum_by w (take (suc j) table.mode.activations)
      ≡ sum_by (counted w table.mode) (take (place_after j) (checks_of table))
      + open_at w c table.mode (row_of table.mode j).offset
  split j l =
      let b = row_within c rules table of j l in
      let early : (row_of table.mode j).offset ≤ table.limit =
      (let a = b.0 in let d = b.1 in let limit = ap (λ (t : TableRows). t.limit) of.is in omega arith) in
      open_split w table.mode c rows inside j l
      ∙ ap (λ xs. sum_by (counted w table.mode) xs + open_at w c table.mode (row_of table.mode j).offset)
      (sym (front (row_of table.mode j).offset early))

  -- the place of a later activation is no earlier
  pub place_rises : (i j : ℕ) → i ≤ j → j < length table.mode.activations → place_after i ≤ place_after j
  place_rises i j h l =
      ⊎_elim
      (λ (e : i ≡ j). let same = ap place_after e in omega arith)
      (λ (ne : i ≡ j → ⊥).
      let less : i < j = ⊎_elim (λ (lt : i < j). lt) (λ (ge : j ≤ i). absurd (ne (omega arith))) (cases_lt i j) in
      let rise = rows_ascend c table.mode i j rows less l in
      below_rises (λ k. entries_due (is_at k) table.mode) (suc (row_of table.mode i).offset)
      (suc (row_of table.mode j).offset) (omega arith))
      (cases_eq i j)

  pub few_rows : length table.mode.activations ≤ 4096
  few_rows = let few = (mode_of_table c rules table of).few in omega arith

  pub most_here : largest (λ j. open_at w c table.mode (row_of table.mode j).offset) (length table.mode.activations)
      ≡ most_in w c table.mode
  most_here = most_is w table.mode c rows inside

  -- the row that is read at a place
  pub item_is : (j : ℕ) (d : Activation) (read : List Activation) → read ≡ table.mode.activations → j < length read
      → get_or read j d ≡ row_of table.mode j
  item_is j d read are l = get_or_default read j d no_row l ∙ ap (λ (xs : List Activation). get_or xs j no_row) are

  -- the place after the checks that are due at its offset
  pub next_is : (j : ℕ) (row : Activation) (due : Due) → row ≡ row_of table.mode j → due ≡ due_at row.offset table
      → due.checks_to ≡ place_after j
  next_is j row due is e =
      ap (λ (d : Due). d.checks_to) e ∙ ap (λ (r : Activation). length (checks_below table.mode (suc r.offset))) is

  -- one activation more has opened
  pub opens : (j : ℕ) (row : Activation) (opened weight : ℕ) → j < length table.mode.activations
      → row ≡ row_of table.mode j
      → opened ≡ sum_by w (take j table.mode.activations) → weight ≡ w row
      → opened + weight ≡ sum_by w (take (j + 1) table.mode.activations)
  opens j row opened weight l is so_far heavy =
      let more = sum_by_more w table.mode.activations j no_row l in
      let here = ap w is in
      omega arith

  -- a step of the sweep: what has opened is what has closed, and what is open
  pub step : (j : ℕ) (row : Activation) (opened weight next : ℕ) → j < length table.mode.activations
      → row ≡ row_of table.mode j
      → opened ≡ sum_by w (take j table.mode.activations) → weight ≡ w row → next ≡ place_after j
      → opened + weight ≡ sum_by (counted w table.mode) (take next (checks_of table))
      + open_at w c table.mode (row_of table.mode j).offset
  step j row opened weight next l is so_far heavy there =
      opens j row opened weight l is so_far heavy
      ∙ (let z : j + 1 ≡ suc j = omega arith in ap (λ n. sum_by w (take n table.mode.activations)) z)
      ∙ split j l
      ∙ ap (λ (n : ℕ). sum_by (counted w table.mode) (take n (checks_of table)) + open_at w c table.mode
      (row_of table.mode j).offset)
      (sym there)

-- ---- the checks up to a place

module _ (w : Activation → ℕ) (table : TableRows) where
  -- one check more
  pub checked_more : (place entry weight : ℕ) → slice_get (checks_of table) place ≡ Some entry
      → weight ≡ w (row_of table.mode entry)
      → sum_by (counted w table.mode) (take place (checks_of table)) + weight
      ≡ sum_by (counted w table.mode) (take (place + 1) (checks_of table))
  checked_more place entry weight at heavy =
      let l = slice_get_within (checks_of table) place entry at in
      let more = sum_by_more (counted w table.mode) (checks_of table) place entry l in
      let same = ap (counted w table.mode) (get_or_from_slice_get (checks_of table) place entry entry at) in
      omega arith

  -- more checks count no less
  pub checked_less : (place to : ℕ) → place ≤ to
      → sum_by (counted w table.mode) (take place (checks_of table))
      ≤ sum_by (counted w table.mode) (take to (checks_of table))
  checked_less place to l =
      let front : take place (take to (checks_of table)) ≡ take place (checks_of table) =
      take-take place to (checks_of table) l in
      let less = sum_by-take-le (counted w table.mode) (take to (checks_of table)) place in
      let same = ap (sum_by (counted w table.mode)) front in
      omega arith
