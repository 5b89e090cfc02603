-- The answer of the check.
use Rattle.std.proofs.Common.{ℕ, ◌≡◌, ◌<◌, ◌≤◌, ◌+◌, ◌-◌, List, true, false, Option, None, Some, refl, ap, sym, ◌∙◌, arith, length, get_or}
use Rattle.std.specs.Prelude.{is_some, is_none, unwrap_or}
use Rattle.std.proofs.lemmas.List.{get_or-map}
use Rattle.std.proofs.lemmas.Bool.{leb-true}
use Rattle.tt_world.specs.declared.config.Activation.{Activation}
use Rattle.tt_world.specs.declared.config.ModeDef.{ModeDef}
use Rattle.tt_world.specs.declared.config.ConfigParts.{ConfigParts}
use Rattle.tt_world.specs.Rows.{no_mode, mode_at, row_of}
use Rattle.schedule_check.specs.Demand.{demand}
use Rattle.schedule_check.specs.Responses.{IsResponse, EachResponds}
use Rattle.round_table.specs.TableRows.{TableRows, no_table, table_at, table_of, tables_of}
use Rattle.schedule_check.specs.declared.answers.CheckAnswer.TheVariants.{Yes, No}
use Rattle.schedule_check.specs.TablesOf.{IsTableOf}
use Rattle.schedule_check.specs.Responses.{demand_fits, response, late_entry, late_mode, answer_at, answer_of}
use Rattle.schedule_check.proofs.Leasts.{least_is, least_none, least_passes, least_fails}

none_is : {X : Type 0} (o : Option X) → is_some o ≡ false → o ≡ None
none_is None e = refl
none_is (Some x) e = cc

some_is : {X : Type 0} (o : Option X) → is_none o ≡ false → (x : X) × (o ≡ Some x)
some_is None e = absurd (let differ : true ≡ false = e in cc)
some_is (Some x) e = (x, refl)

module _ (c : ConfigParts) where
  -- the table of a mode
  pub table_is : (n : ℕ) (table : TableRows) (tables : List TableRows) → tables ≡ tables_of c → n < length c.modes
      → table ≡ table_at tables (record { 0 = n }) → table ≡ table_of c (mode_at c n)
  table_is n table tables are l is = is ∙ ap (λ ts. get_or ts n no_table) are
      ∙ get_or-map (table_of c) c.modes n no_mode no_table l

  pub is_table : (n : ℕ) (table : TableRows) → n < length c.modes → table ≡ table_of c (mode_at c n) → IsTableOf c table
  is_table n table l is = record { mode = n; within = l; is = is }

  -- no mode below this one has a late entry
  abbrev pub NoneLate : ℕ → Type 0
  NoneLate n = (k : ℕ) → k < n → is_some (late_entry c (mode_at c k)) ≡ false

  some_late : (n entry : ℕ) → late_entry c (mode_at c n) ≡ Some entry → is_some (late_entry c (mode_at c n)) ≡ true
  some_late n entry e = ap (λ o. is_some o) e

  pub answer_no : (n entry : ℕ) → n < length c.modes → NoneLate n → late_entry c (mode_at c n) ≡ Some entry
      → No (record { 0 = n }) entry ≡ answer_of c
  unfolding late_mode
  answer_no n entry l none e =
      let mode : late_mode c ≡ Some n =
      least_is (λ m. is_some (late_entry c (mode_at c m))) 0 (length c.modes) n (omega arith) (omega arith)
      (some_late n entry e) (λ j a b. none j b) in
      let first : answer_at c (Some n) ≡ answer_of c = ap (answer_at c) (sym mode) in
      let here : No (record { 0 = n }) entry ≡ answer_at c (Some n) =
      ap (λ o. No (record { 0 = n }) (unwrap_or o 0)) (sym e) in
      here ∙ first

  pub answer_yes : (n : ℕ) → length c.modes ≤ n → NoneLate n → Yes ≡ answer_of c
  unfolding late_mode
  answer_yes n l none =
      let mode : late_mode c ≡ None =
      least_none (λ m. is_some (late_entry c (mode_at c m))) 0 (length c.modes) (λ j a b. none j (omega arith)) in
      ap (answer_at c) (sym mode)

  -- a response end is one
  response_from : (mode : ModeDef) (row : Activation) (t : ℕ) → response c mode row ≡ Some t → IsResponse c mode row t
  unfolding response
  response_from mode row t e =
      let r = least_passes (demand_fits c mode row) (row.offset + 1) (row.deadline - row.offset) t e in
      let above = r.0 in
      let below = r.1 in
      let fits = leb-true (demand c mode row.offset t) (t - row.offset) r.2 in
      record { later = omega arith; in_time = omega arith; fits = fits }

  responds_from : (mode : ModeDef) → is_some (late_entry c mode) ≡ false → (entry : ℕ) → entry < length mode.activations
      → (t : ℕ) × IsResponse c mode (row_of mode entry) t
  unfolding late_entry
  responds_from mode e entry l =
      let none = least_fails (λ k. is_none (response c mode (row_of mode k))) 0 (length mode.activations)
      (none_is (late_entry c mode) e) entry (omega arith) (omega arith) in
      let some = some_is (response c mode (row_of mode entry)) none in
      (some.0, response_from mode (row_of mode entry) some.0 some.1)

  by_answer : (first : Option ℕ) → first ≡ late_mode c → answer_at c first ≡ Yes → late_mode c ≡ None
  by_answer None is e = sym is
  by_answer (Some n) is e = absurd
      (let differ : No (record { 0 = n }) (unwrap_or (late_entry c (mode_at c n)) 0) ≡ Yes = e in cc)

  -- where the answer is yes each activation has a response end
  pub each_responds : answer_of c ≡ Yes → EachResponds c
  unfolding late_mode
  each_responds e mode entry l i =
      responds_from (mode_at c mode)
      (least_fails (λ m. is_some (late_entry c (mode_at c m))) 0 (length c.modes) (by_answer (late_mode c) refl e) mode
      (omega arith) (omega arith))
      entry i
