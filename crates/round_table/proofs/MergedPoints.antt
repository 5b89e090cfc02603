-- Expiry points, merged from the rows and the checks of a mode.
use Rattle.std.proofs.Common.{ℕ, suc, ◌≡◌, ◌≤◌, ◌<◌, ◌+◌, ◌-◌, min, false, List, [], ◌∷◌, ◌++◌, length, Option, None, Some, refl, sym, ap, ◌∙◌, subst, inl, inr, ⊎_elim, arith}
use Rattle.std.specs.Prelude.{◌⊎◌, ◌==◌, nat_lt, IfSome}
use Rattle.std.proofs.lemmas.Bool.{cases_lt, cond-true, cond-false, le-ltb, lt-ltb, false_from_ne_true}
use Rattle.tt_base.specs.declared.number.IsrNo.{IsrNo}
use Rattle.tt_world.specs.declared.config.Activation.{Activation}
use Rattle.tt_world.specs.declared.config.Enable.{Enable}
use Rattle.tt_world.specs.Monitoring.{is_at}
use Rattle.tt_world.specs.Rows.{enables_at, no_row}
use Rattle.round_table.specs.declared.checks.Check.{Check}
use Rattle.round_table.specs.declared.due.Due.{Due}
use Rattle.round_table.specs.declared.due.ExpiryPoint.{ExpiryPoint}
use Rattle.round_table.specs.declared.merging.Places.{Places}
use Rattle.round_table.specs.Below.{below}
use Rattle.round_table.specs.CheckLists.{entries_in}
use Rattle.round_table.specs.Cuts.{IsCut}
use Rattle.round_table.specs.DueRows.{due_at, entries_due, isrs_of}
use Rattle.round_table.specs.ExpiryPoints.{IsFree, is_free, expiry_below, expiry_points}
use Rattle.round_table.specs.Merged.{AreInOrder, ArePlaces, ModeRows, due_between, earlier, next_offset}
use Rattle.round_table.specs.TableRows.{TableRows}
use Rattle.round_table.proofs.Ascending.{absent, cut_later, cut_order, first_at, moves, place_is, position_none}
use Rattle.round_table.proofs.Cursors.{free_from_test, still_free}
use Rattle.round_table.proofs.Cutting.{filter_none}
use Rattle.round_table.proofs.Laid.{below_nothing}

-- ---- the lesser of two offsets

earlier_bounds : (x y : Option ℕ) (k : ℕ) → IfSome (earlier x y) (λ m. k ≤ m)
    → IfSome x (λ m. k ≤ m) × IfSome y (λ m. k ≤ m)
earlier_bounds None y k h = (tt, h)
earlier_bounds (Some x) None k h = (h, tt)
earlier_bounds (Some x) (Some y) k h = (omega arith, omega arith)

earlier_one : (x y : Option ℕ) (m : ℕ) → earlier x y ≡ Some m → (x ≡ Some m) ⊎ (y ≡ Some m)
earlier_one None y m e = inr e
earlier_one (Some x) None m e = inl e
earlier_one (Some x) (Some y) m e =
    ⊎_elim (λ (l : x < y). let same : min x y ≡ x = omega arith in inl (ap Some (sym same) ∙ e))
    (λ (g : y ≤ x). let same : min x y ≡ y = omega arith in inr (ap Some (sym same) ∙ e)) (cases_lt x y)

abbrev of_activation : Activation → ℕ
of_activation row = row.offset

abbrev of_enable : Enable → ℕ
of_enable row = row.offset

abbrev of_check : Check → ℕ
of_check check = check.offset

pub due_same : {a a' b b' c c' d d' : ℕ} {e e' : Option ℕ} → a ≡ a' → b ≡ b' → c ≡ c' → d ≡ d' → e ≡ e'
    → ◌≡◌ {A = Due} (record { checks_from = a; checks_to = b; enables_from = c; enables_to = d; activation = e })
    (record { checks_from = a'; checks_to = b'; enables_from = c'; enables_to = d'; activation = e' })
due_same p q r s t = rw (p, q, r, s, t) refl

-- the places at the start are those of offset 0
pub places_first : (rows : ModeRows) → ArePlaces rows 0 (record { activations = 0; enables = 0; checks = 0 })
places_first rows = record { activations = first _ _; enables = first _ _; checks = first _ _ } where
  first : {X : Type 0} (key : X → ℕ) (xs : List X) → IsCut (λ x. nat_lt (key x) 0) xs 0
  first key xs = record {
    within = omega arith;
    front = λ k d l. absurd (omega arith);
    back =
        λ k d m l. le-ltb _ 0 (omega arith);
  }

module _ (rows : ModeRows) (order : AreInOrder rows) where
  abbrev checks_at : ℕ → List ℕ
  checks_at k = entries_due (is_at k) rows.mode

  abbrev enabled_at : ℕ → List IsrNo
  enabled_at k = isrs_of (enables_at k rows.mode.enables)

  checks_place : (k place : ℕ) → IsCut (λ (check : Check). nat_lt check.offset k) rows.checks place
      → place ≡ length (below checks_at k)
  checks_place = place_is of_check rows.checks order.checks.ascending
      (λ (check : Check). check.entry) checks_at order.checks.entries

  enables_place : (k place : ℕ) → IsCut (λ (row : Enable). nat_lt row.offset k) rows.mode.enables place
      → place ≡ length (below enabled_at k)
  enables_place = place_is of_enable rows.mode.enables order.enables (λ (row : Enable). row.isr) enabled_at (λ k. refl)

  module _ (offset : ℕ) (places : Places) (cuts : ArePlaces rows offset places) where
    -- the places stay up to the next offset
    later_places : (later : ℕ) → offset ≤ later → IfSome (next_offset rows places) (λ next. later ≤ next)
        → ArePlaces rows later places
    later_places later le next =
        let one = earlier_bounds _ _ later next in
        let others = earlier_bounds _ _ later one.1 in
        record {
          activations = cut_later of_activation rows.mode.activations order.activations offset later
              places.activations le cuts.activations one.0;
          enables = cut_later of_enable rows.mode.enables order.enables offset later places.enables le cuts.enables
              others.0;
          checks = cut_later of_check rows.checks order.checks.ascending offset later places.checks le cuts.checks
              others.1;
        }

    -- and nothing is due before it
    pub free_before : (k : ℕ) → offset ≤ k → IfSome (next_offset rows places) (λ next. k < next) → IsFree k rows.mode
    free_before k le next =
        let more = later_places (suc k) (omega arith) next in
        record {
          checks =
              sym (order.checks.entries k)
              ∙ ap entries_in
              (filter_none (λ (check : Check). check.offset == k) rows.checks
              (absent of_check rows.checks order.checks.ascending offset
              (suc k) places.checks cuts.checks more.checks k le (omega arith)));
          enables =
              filter_none (λ (row : Enable). row.offset == k) rows.mode.enables
              (absent of_enable rows.mode.enables order.enables offset
              (suc k) places.enables cuts.enables more.enables k le (omega arith));
          activation =
              position_none (λ (row : Activation). row.offset == k) rows.mode.activations no_row
              (absent of_activation rows.mode.activations order.activations offset
              (suc k) places.activations cuts.activations more.activations k le (omega arith));
        }

    -- ---- the next offset, and the places after it

    module _ (next : ℕ) (next_is : next_offset rows places ≡ Some next) (after : Places)
        (ends : ArePlaces rows (suc next) after) where
      moved : (offset ≤ next) × ((places.activations < after.activations)
          ⊎ ((places.enables < after.enables) ⊎ (places.checks < after.checks)))
      moved =
          ⊎_elim
          (λ is.
          let m = moves of_activation rows.mode.activations order.activations offset places.activations next
          after.activations cuts.activations is ends.activations in
          (m.0, inl m.1))
          (λ others.
          ⊎_elim
          (λ is.
          let m = moves of_enable rows.mode.enables order.enables offset places.enables next after.enables
          cuts.enables is ends.enables in
          (m.0, inr (inl m.1)))
          (λ is.
          let m = moves of_check rows.checks order.checks.ascending offset places.checks next after.checks cuts.checks
          is ends.checks in
          (m.0, inr (inr m.1)))
          (earlier_one _ _ next others))
          (earlier_one _ _ next next_is)

      -- fewer rows are left
      pub fewer : (length rows.mode.activations + length rows.mode.enables + length rows.checks) -
          (after.activations + after.enables + after.checks)
          < (length rows.mode.activations + length rows.mode.enables + length rows.checks) -
          (places.activations + places.enables + places.checks)
      fewer =
          let later = moved.0 in
          let a = cut_order of_activation rows.mode.activations no_row offset (suc next) _ _
          (omega arith) cuts.activations ends.activations in
          let e = cut_order of_enable rows.mode.enables (record { offset = 0; isr = record { 0 = 0 } }) offset
          (suc next) _ _ (omega arith) cuts.enables ends.enables in
          let c = cut_order of_check rows.checks (record { offset = 0; entry = 0 }) offset (suc next) _ _
          (omega arith) cuts.checks ends.checks in
          let a_in = ends.activations.within in
          let e_in = ends.enables.within in
          let c_in = ends.checks.within in
          ⊎_elim (λ (l : places.activations < after.activations). omega arith)
          (λ (others : (places.enables < after.enables) ⊎ (places.checks < after.checks)).
          ⊎_elim (λ (l : places.enables < after.enables). omega arith)
          (λ (l : places.checks < after.checks). omega arith) others)
          moved.1

      there : ArePlaces rows next places
      there = later_places next moved.0 (subst (λ (o : Option ℕ). IfSome o (λ n. next ≤ n)) (sym next_is) (omega arith))

      pub due_is : (limit : ℕ) → due_between places after ≡ due_at next (record { mode = rows.mode; limit = limit })
      due_is limit =
          due_same (checks_place next places.checks there.checks) (checks_place (suc next) after.checks ends.checks)
          (enables_place next places.enables there.enables) (enables_place (suc next) after.enables ends.enables)
          (first_at of_activation rows.mode.activations no_row next places.activations after.activations
          there.activations ends.activations)

      -- something is due there
      not_free : is_free next rows.mode ≡ false
      not_free = false_from_ne_true _ (λ test. none (free_from_test next rows.mode test)) where
        none : IsFree next rows.mode → ⊥
        none free =
            ⊎_elim
            (λ (l : places.activations < after.activations).
            let one = sym (cond-true _ (Some places.activations) None (lt-ltb _ _ l))
            ∙ first_at of_activation rows.mode.activations no_row next places.activations after.activations
            there.activations ends.activations
            ∙ free.activation in
            absurd (let impossible : Some places.activations ≡ None = one in cc))
            (λ (others : (places.enables < after.enables) ⊎ (places.checks < after.checks)).
            ⊎_elim
            (λ (l : places.enables < after.enables).
            let before = enables_place next places.enables there.enables in
            let last = enables_place (suc next) after.enables ends.enables in
            let still = below_nothing enabled_at next (ap isrs_of free.enables) in
            omega arith)
            (λ (l : places.checks < after.checks).
            let before = checks_place next places.checks there.checks in
            let last = checks_place (suc next) after.checks ends.checks in
            let still = below_nothing checks_at next free.checks in
            omega arith)
            others)
            moved.1

      -- one more expiry point
      pub one_more : (limit : ℕ) (points : List ExpiryPoint)
          → points ≡ expiry_below (record { mode = rows.mode; limit = limit }) offset
          → points ++ record { offset = next; due = due_between places after } ∷ []
          ≡ expiry_below (record { mode = rows.mode; limit = limit }) (suc next)
      unfolding below
      one_more limit points is =
          let table : TableRows = record { mode = rows.mode; limit = limit } in
          let between = still_free table offset next moved.0
          (λ j oj jn. free_before j oj (subst (λ (o : Option ℕ). IfSome o (λ n. j < n)) (sym next_is) jn)) in
          ap (λ ps. ps ++ record { offset = next; due = due_between places after } ∷ []) (is ∙ sym between)
          ∙ ap (λ due. expiry_below table next ++ record { offset = next; due = due } ∷ []) (due_is limit)
          ∙ ap (λ ps. expiry_below table next ++ ps) (sym (cond-false (is_free next rows.mode) _ _ not_free))

    -- where there is no next offset, the expiry points are complete
    pub complete : (limit : ℕ) → ((k : ℕ) → limit < k → IsFree k rows.mode) → None ≡ next_offset rows places
        → expiry_below (record { mode = rows.mode; limit = limit }) offset
        ≡ expiry_points (record { mode = rows.mode; limit = limit })
    complete limit past none =
        let table : TableRows = record { mode = rows.mode; limit = limit } in
        ⊎_elim
        (λ (l : offset < suc limit).
        sym (still_free table offset (suc limit) (omega arith)
        (λ j oj jl. free_before j oj (subst (λ (o : Option ℕ). IfSome o (λ n. j < n)) none tt))))
        (λ (g : suc limit ≤ offset).
        still_free table (suc limit) offset g (λ j lj jo. past j (omega arith)))
        (cases_lt offset (suc limit))
