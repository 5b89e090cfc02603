-- Cursors in the list of expiry points.
use Rattle.std.proofs.Common.{ℕ, zero, suc, ◌≡◌, ◌≤◌, ◌<◌, ◌+◌, ◌-◌, Bool, true, false, List, [], ◌∷◌, ◌++◌, length, length-append, Option, None, Some, refl, sym, ap, ◌∙◌, subst, ⊎_elim, add-one, arith}
use Rattle.std.specs.Prelude.{◌==◌, nat_lt, filter, is_none, IfSome, slice_get}
use Rattle.std.specs.List.{All, AllPairs}
use Rattle.std.specs.List.Sorted.{IsNonDecreasingBy}
use Rattle.std.proofs.lemmas.Bool.{and_parts, cases_lt, cases_Bool, cond_both, cond-true, cond-false, eqb-true, le-ltb, lt-ltb}
use Rattle.std.proofs.lemmas.List.{append-nil, nil_from_length}
use Rattle.std.proofs.lemmas.List.Elements.{All-cons, All-nil, All-push, All-weaker, filter-append}
use Rattle.std.proofs.lemmas.List.Quantifiers.{all_pairs_push}
use Rattle.std.proofs.lemmas.Option.{get_or_from_slice_get, slice_get_past, slice_get_within, IfSome_then}
use Rattle.tt_world.specs.declared.config.ModeDef.{ModeDef}
use Rattle.tt_world.specs.Monitoring.{is_at}
use Rattle.tt_world.specs.Rows.{enables_at}
use Rattle.round_table.specs.declared.due.ExpiryPoint.{ExpiryPoint}
use Rattle.round_table.specs.Below.{below}
use Rattle.round_table.specs.Cuts.{IsCut}
use Rattle.round_table.specs.DueRows.{due_at, entries_due}
use Rattle.round_table.specs.ExpiryPoints.{IsFree, is_free, expiry_at, expiry_below, expiry_points, IsCursor, IsNextPoint}
use Rattle.round_table.specs.TableRows.{TableRows}
use Rattle.round_table.proofs.Cutting.{cut_length, filter_all}
use Rattle.round_table.proofs.Laid.{all_below, below_get, below_still}
use Rattle.round_table.proofs.RowOrder.{rises}

none_is : {X : Type 0} (o : Option X) → is_none o ≡ true → o ≡ None
none_is None e = refl
none_is (Some x) e = cc

-- the test whether nothing is due at an offset
pub free_from_test : (offset : ℕ) (mode : ModeDef) → is_free offset mode ≡ true → IsFree offset mode
free_from_test offset mode e =
    let all = and_parts (length (entries_due (is_at offset) mode) == 0) _ e in
    let others = and_parts (length (enables_at offset mode.enables) == 0) _ all.1 in
    record {
      checks = nil_from_length _ (eqb-true _ 0 all.0);
      enables = nil_from_length _ (eqb-true _ 0 others.0);
      activation = none_is _ others.1;
    }

pub free_test : (offset : ℕ) (mode : ModeDef) → IsFree offset mode → is_free offset mode ≡ true
free_test offset mode free = rw (free.checks, free.enables, free.activation) refl

module _ (table : TableRows) where
  abbrev point_at : ℕ → ExpiryPoint
  point_at offset = record { offset = offset; due = due_at offset table }

  none_at : (offset : ℕ) → is_free offset table.mode ≡ true → expiry_at table offset ≡ []
  none_at offset e = cond-true (is_free offset table.mode) _ _ e

  -- offsets at which nothing is due have no expiry point
  pub still_free : (from to : ℕ) → from ≤ to → ((offset : ℕ) → from ≤ offset → offset < to → IsFree offset table.mode)
      → expiry_below table to ≡ expiry_below table from
  still_free from to le free =
      below_still (expiry_at table) from to le
      (λ offset above under. none_at offset (free_test offset table.mode (free offset above under)))

  -- the expiry points of the offsets below a number are at such offsets, and ascend strictly
  points_ascend : (n : ℕ) → All (λ (p : ExpiryPoint). p.offset < n) (expiry_below table n)
      × AllPairs (λ (p later : ExpiryPoint). p.offset < later.offset) (expiry_below table n)
  unfolding below
  points_ascend zero = (All-nil (λ (p : ExpiryPoint). p.offset < 0), λ i j d lt l. absurd (omega arith))
  points_ascend (suc n) =
      let Before : ℕ → ExpiryPoint → Type 0 = λ k p. p.offset < k in
      let Earlier : ExpiryPoint → ExpiryPoint → Type 0 = λ p later. p.offset < later.offset in
      let before = points_ascend n in
      let all = All-weaker (Before n) (Before (suc n)) (λ p less. omega arith) (expiry_below table n) before.0 in
      cond_both (is_free n table.mode) [] (point_at n ∷ [])
      (λ ps. All (Before (suc n)) (expiry_below table n ++ ps) × AllPairs Earlier (expiry_below table n ++ ps))
      (λ _. subst (λ ps. All (Before (suc n)) ps × AllPairs Earlier ps) (sym (append-nil (expiry_below table n)))
      (all, before.1))
      (λ _. (
        All-push (Before (suc n)) (expiry_below table n) (point_at n) all (omega arith),
        all_pairs_push Earlier (expiry_below table n) (point_at n) before.1 before.0,
      ))

  pub points_rise : IsNonDecreasingBy (λ (p : ExpiryPoint). p.offset) (expiry_points table)
  points_rise =
      rises (λ (p : ExpiryPoint). p.offset) (λ p later. p.offset < later.offset) (λ p later less. omega arith)
      (expiry_points table) (points_ascend (suc table.limit)).1

  pub points_within : All (λ (p : ExpiryPoint). p.offset < suc table.limit) (expiry_points table)
  points_within = (points_ascend (suc table.limit)).0

  -- each has what is due at its offset
  pub points_due : All (λ (p : ExpiryPoint). p.due ≡ due_at p.offset table) (expiry_points table)
  points_due =
      let IsOwn : ExpiryPoint → Type 0 = λ p. p.due ≡ due_at p.offset table in
      all_below (expiry_at table) IsOwn
      (λ n. cond_both (is_free n table.mode) [] (point_at n ∷ []) (All IsOwn) (λ _. All-nil IsOwn)
      (λ _. All-cons IsOwn (point_at n) [] refl (All-nil IsOwn)))
      (suc table.limit)

  module _ (offset : ℕ) where
    abbrev before : ExpiryPoint → Bool
    before p = nat_lt p.offset offset

    all_before : (n : ℕ) → n ≤ offset → filter before (expiry_below table n) ≡ expiry_below table n
    all_before n le =
        filter_all (λ (p : ExpiryPoint). nat_lt p.offset offset) (expiry_below table n)
        (λ k d l. let less = (points_ascend n).0 k d l in lt-ltb _ offset (omega arith))

    -- the expiry points before an offset are those of the offsets below it
    some_before : (n : ℕ) → offset ≤ n → filter before (expiry_below table n) ≡ expiry_below table offset
    unfolding below
    some_before zero le = let none : 0 ≡ offset = omega arith in ap (expiry_below table) none
    some_before (suc n) le =
        ⊎_elim
        (λ (l : n < offset). let same : suc n ≡ offset = omega arith in all_before (suc n) (omega arith)
        ∙ ap (expiry_below table) same)
        (λ (g : offset ≤ n).
        let none = cond_both (is_free n table.mode) [] (point_at n ∷ []) (λ ps. filter before ps ≡ []) (λ _. refl)
        (λ _. cond-false (nat_lt n offset) _ _ (le-ltb n offset g)) in
        filter-append before (expiry_below table n) (expiry_at table n)
        ∙ ap (λ ps. ps ++ filter before (expiry_at table n)) (some_before n g)
        ∙ ap (λ ps. expiry_below table offset ++ ps) none
        ∙ append-nil (expiry_below table offset))
        (cases_lt n offset)

  module _ (past : (offset : ℕ) → table.limit < offset → IsFree offset table.mode) where
    abbrev end : ℕ
    end = suc table.limit

    -- the next expiry point at or after an offset
    Next : ℕ → Type 0
    Next offset = IsNextPoint table (length (expiry_below table offset)) offset
        (slice_get (expiry_points table) (length (expiry_below table offset)))

    past_end : (offset : ℕ) → end ≤ offset → Next offset
    unfolding Next
    past_end offset le =
        let all : expiry_below table offset ≡ expiry_points table =
        still_free end offset le (λ j ej jo. past j (omega arith)) in
        subst (IsNextPoint table (length (expiry_below table offset)) offset)
        (sym (slice_get_past (expiry_points table) (length (expiry_below table offset))
        (let long = ap length all in omega arith)))
        (record {
          ahead = tt;
          due = tt;
          next = tt;
          free = λ between l b. past between (omega arith);
          still = λ later l b. sym (ap length (still_free offset later l (λ j oj jl. past j (omega arith))));
        })

    here : (offset : ℕ) → offset < end → is_free offset table.mode ≡ false → Next offset
    unfolding Next below
    here offset l e =
        let there : expiry_at table offset ≡ point_at offset ∷ [] = cond-false (is_free offset table.mode) _ _ e in
        subst (IsNextPoint table (length (expiry_below table offset)) offset)
        (sym (below_get (expiry_at table) offset end (point_at offset) l there))
        (record {
          ahead = omega arith;
          due = refl;
          next =
              let more = length-append (expiry_below table offset) (expiry_at table offset) in
              let one = ap length there in
              let after = ap (λ o. length (expiry_below table o)) (add-one offset) in
              omega arith;
          free = λ between l b. absurd (omega arith);
          still = λ later l b. let same : offset ≡ later = omega arith in ap (λ o. length (expiry_below table o)) same;
        })

    -- an offset where nothing is due has the next expiry point of the offset after it
    later_too : (offset place : ℕ) (found : Option ExpiryPoint) → IsFree offset table.mode → IsCursor table place offset
        → IsNextPoint table place (suc offset) found → IsNextPoint table place offset found
    later_too offset place found free cursor next = record {
      ahead = IfSome_then found next.ahead (λ p h. omega arith);
      due = next.due;
      next = next.next;
      free = λ between l b.
          ⊎_elim (λ (lt : offset < between). next.free between (omega arith) b)
          (λ (ge : between ≤ offset). let same : offset ≡ between = omega arith in
          subst (λ o. IsFree o table.mode) same free)
          (cases_lt offset between);
      still = λ later l b.
          ⊎_elim (λ (lt : offset < later). next.still later (omega arith) b)
          (λ (ge : later ≤ offset). let same : offset ≡ later = omega arith in cursor
          ∙ ap (λ o. length (expiry_below table o)) same)
          (cases_lt offset later);
    }

    later : (offset : ℕ) → is_free offset table.mode ≡ true → Next (suc offset) → Next offset
    unfolding Next
    later offset e next =
        let free = free_from_test offset table.mode e in
        let still : expiry_below table (suc offset) ≡ expiry_below table offset =
        still_free offset (suc offset) (omega arith)
        (λ j oj jo. let same : offset ≡ j = omega arith in subst (λ o. IsFree o table.mode) same free) in
        later_too offset _ _ free refl
        (subst (λ (place : ℕ). IsNextPoint table place (suc offset) (slice_get (expiry_points table) place))
        (ap length still) next)

    next_from : (offset more : ℕ) → offset + more ≡ end → Next offset
    next_from offset zero is = past_end offset (omega arith)
    next_from offset (suc more) is =
        ⊎_elim (λ e. later offset e (next_from (suc offset) more (omega arith))) (λ e. here offset (omega arith) e)
        (cases_Bool (is_free offset table.mode))

    -- the place after the points with lesser offsets is the cursor
    pub cursor_at : (place offset : ℕ)
        → IsCut (λ (p : ExpiryPoint). nat_lt p.offset offset) (expiry_points table) place → IsCursor table place offset
    cursor_at place offset cut =
        cut_length (λ (p : ExpiryPoint). nat_lt p.offset offset) (expiry_points table) place cut
        ∙ ap length
        (⊎_elim (λ (l : offset < end). some_before offset end (omega arith))
        (λ (g : end ≤ offset).
        all_before offset end g ∙ sym (still_free end offset g (λ j ej jo. past j (omega arith))))
        (cases_lt offset end))

    pub cursor_next : (place offset : ℕ) → IsCursor table place offset → (found : Option ExpiryPoint)
        → found ≡ slice_get (expiry_points table) place
        → IsNextPoint table place offset found
    unfolding Next
    cursor_next place offset cursor found is =
        let next = ⊎_elim (λ (l : offset < end). next_from offset (end - offset) (omega arith))
        (λ (g : end ≤ offset). past_end offset g) (cases_lt offset end) in
        subst (IsNextPoint table place offset) (sym is)
        (subst (λ (p : ℕ). IsNextPoint table p offset (slice_get (expiry_points table) p)) (sym cursor) next)

-- what holds of the elements of a list holds of the one at a place
pub if_found : {X : Type 0} (P : X → Type 0) (xs : List X) (place : ℕ) (found : Option X) → found ≡ slice_get xs place
    → All P xs → IfSome found P
if_found P xs place None is h = tt
if_found P xs place (Some x) is h =
    subst P (get_or_from_slice_get xs place x x (sym is)) (h place x (slice_get_within xs place x (sym is)))
