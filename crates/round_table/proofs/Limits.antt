-- The monitoring points of a mode whose rows are within a limit: none comes after the limit, and where one is at the
-- limit, none is the round's end.
use Rattle.std.proofs.Common.{ℕ, zero, suc, ◌≡◌, ◌≤◌, ◌<◌, Bool, true, false, List, [], ◌∷◌, ◌++◌, length, get_or, map, Option, None, Some, refl, subst, ⊎_elim, arith}
use Rattle.std.specs.Prelude.{◌==◌, nat_le, nat_lt, min, flat_map, IfSome}
use Rattle.std.specs.List.{All}
use Rattle.std.proofs.lemmas.Bool.{cases_lt, cond_both, eqb-true, leb-true, leb-false, ltb-true, ne_eqb}
use Rattle.std.proofs.lemmas.List.Elements.{All-append, All-cons, All-head, All-map, All-nil, All-tail, All-weaker}
use Rattle.std.proofs.lemmas.List.FromFn.{get_or-range_with_len, length-range_with_len}
use Rattle.tt_world.specs.declared.config.Activation.{Activation}
use Rattle.tt_world.specs.declared.config.Enable.{Enable}
use Rattle.tt_world.specs.declared.config.ModeDef.{ModeDef}
use Rattle.tt_world.specs.declared.world.Point.{Point}
use Rattle.tt_world.specs.declared.world.Point.TheVariants as point
use Rattle.tt_world.specs.Monitoring.{is_at}
use Rattle.tt_world.specs.Points.{at_or_end, deadline_if, least_from, lesser_or, offsets_in, point_by, point_of, stringent_deadlines}
use Rattle.tt_world.specs.Rows.{no_row, row_of}
use Rattle.tt_world.proofs.TableRows.{list_all_get}
use Rattle.round_table.specs.DueRows.{entries_of, is_round_end}
use Rattle.round_table.specs.ExpiryPoints.{IsFree}
use Rattle.round_table.specs.Inside.{IsWithin}
use Rattle.round_table.proofs.Ascending.{position_none}
use Rattle.round_table.proofs.Cutting.{filter_none}

-- ---- lists

module _ {X : Type 0} (P : X → Type 0) where
  all_parts : (xs ys : List X) → All P (xs ++ ys) → All P xs × All P ys
  all_parts [] ys h = (All-nil P, h)
  all_parts (x ∷ xs) ys h =
      let rest = all_parts xs ys (All-tail P x (xs ++ ys) h) in
      (All-cons P x xs (All-head P x (xs ++ ys) h) rest.0, rest.1)

  flat_all : {Y : Type 0} (f : Y → List X) (ys : List Y) → All (λ y. All P (f y)) ys → All P (flat_map f ys)
  flat_all f [] h = All-nil P
  flat_all f (y ∷ ys) h =
      All-append P (f y) (flat_map f ys) (All-head (λ z. All P (f z)) y ys h)
      (flat_all f ys (All-tail (λ z. All P (f z)) y ys h))

  all_flat : {Y : Type 0} (f : Y → List X) (ys : List Y) (i : ℕ) (d : Y) → i < length ys → All P (flat_map f ys)
      → All P (f (get_or ys i d))
  all_flat f [] i d l h = absurd (omega arith)
  all_flat f (y ∷ ys) zero d l h = (all_parts (f y) (flat_map f ys) h).0
  all_flat f (y ∷ ys) (suc i) d l h = all_flat f ys i d (omega arith) (all_parts (f y) (flat_map f ys) h).1

-- ---- the least of some offsets

module _ (P : ℕ → Type 0) where
  lesser : (x : ℕ) (o : Option ℕ) → P x → IfSome o P → P (lesser_or x o)
  lesser x None h k = h
  lesser x (Some y) h k =
      ⊎_elim (λ (l : x < y). let same : x ≡ min x y = omega arith in subst P same h)
      (λ (g : y ≤ x). let same : y ≡ min x y = omega arith in subst P same k) (cases_lt x y)

  -- what holds of all offsets holds of it
  pub least_all : (from : ℕ) (xs : List ℕ) → All P xs → IfSome (least_from from xs) P
  least_all from [] h = tt
  least_all from (x ∷ xs) h =
      let rest = least_all from xs (All-tail P x xs h) in
      cond_both (nat_le from x) _ _ (λ (o : Option ℕ). IfSome o P)
      (λ _. lesser x (least_from from xs) (All-head P x xs h) rest) (λ _. rest)

-- where there is none, all offsets come before `from`
pub least_none : (from : ℕ) (xs : List ℕ) → least_from from xs ≡ None → All (λ x. x < from) xs
least_none from [] = λ none. All-nil (λ x. x < from)
least_none from (x ∷ xs) =
    cond_both (nat_le from x) (Some (lesser_or x (least_from from xs))) (least_from from xs)
    (λ (o : Option ℕ). o ≡ None → All (λ y. y < from) (x ∷ xs)) (λ _ none. cc)
    (λ h none. All-cons (λ y. y < from) x xs (leb-false from x h) (least_none from xs none))

-- ---- entries

pub all_entries : (mode : ModeDef) (P : ℕ → Type 0) → ((entry : ℕ) → entry < length mode.activations → P entry)
    → All P (entries_of mode)
all_entries mode P h k d l =
    let within : k < length mode.activations = omega (arith, length-range_with_len 0 (length mode.activations)) in
    let same : k ≡ get_or (entries_of mode) k d =
    omega (arith, get_or-range_with_len 0 (length mode.activations) k d within) in
    subst P same (h k within)

-- ---- points

-- a point is an offset that P holds of, or the round's end
abbrev pub IfOffset : (ℕ → Type 0) → Point → Type 0
IfOffset P (point.At offset) = P offset
IfOffset P point.RoundEnd = Unit {0}

if_offset : (P : ℕ → Type 0) (o : Option ℕ) → IfSome o P → IfOffset P (at_or_end o)
if_offset P None h = tt
if_offset P (Some offset) h = h

-- what holds of the offsets of a mode holds of the points that are offsets
point_all : (P : ℕ → Type 0) (mode : ModeDef) → All P (offsets_in mode) → (row : Activation)
    → (row.stringent ≡ true → P row.deadline)
    → IfOffset P (point_of mode row)
point_all P mode h row own = by row.stringent own where
  by : (stringent : Bool) → (stringent ≡ true → P row.deadline) → IfOffset P (point_by stringent mode row.deadline)
  by true own = own refl
  by false own = if_offset P (least_from row.deadline (offsets_in mode)) (least_all P row.deadline (offsets_in mode) h)

module _ (limit : ℕ) (mode : ModeDef) (within : IsWithin limit mode) where
  deadlines : All (λ (row : Activation). row.deadline ≤ limit) mode.activations
  deadlines k d l = leb-true _ limit
      (list_all_get (λ (row : Activation). nat_le row.deadline limit) mode.activations k d within.deadlines l)

  activations : All (λ (row : Activation). row.offset < limit) mode.activations
  activations k d l = ltb-true _ limit
      (list_all_get (λ (row : Activation). nat_lt row.offset limit) mode.activations k d within.below l)

  pub enables_within : All (λ (row : Enable). row.offset < limit) mode.enables
  enables_within k d l = ltb-true _ limit
      (list_all_get (λ (row : Enable). nat_lt row.offset limit) mode.enables k d within.enables_below l)

  offsets : All (λ offset. offset ≤ limit) (offsets_in mode)
  offsets =
      All-append (λ o. o ≤ limit) (map (λ (row : Activation). row.offset) mode.activations) _
      (All-map (λ o. o ≤ limit) (λ (row : Activation). row.offset) mode.activations
      (λ k d l. let less = activations k d l in omega arith))
      (All-append (λ o. o ≤ limit) (map (λ (row : Enable). row.offset) mode.enables)
      (stringent_deadlines mode.activations)
      (All-map (λ o. o ≤ limit) (λ (row : Enable). row.offset) mode.enables
      (λ k d l. let less = enables_within k d l in omega arith))
      (flat_all (λ o. o ≤ limit) (λ (row : Activation). deadline_if row.stringent row) mode.activations
      (λ k d l. one (get_or mode.activations k d) (deadlines k d l)))) where
        one : (row : Activation) → row.deadline ≤ limit → All (λ o. o ≤ limit) (deadline_if row.stringent row)
        one row le = by row.stringent where
          by : (stringent : Bool) → All (λ o. o ≤ limit) (deadline_if stringent row)
          by true = All-cons (λ o. o ≤ limit) row.deadline [] le (All-nil (λ o. o ≤ limit))
          by false = All-nil (λ o. o ≤ limit)

  -- no point comes after the limit
  pub point_within : (entry : ℕ) → entry < length mode.activations
      → IfOffset (λ offset. offset ≤ limit) (point_of mode (row_of mode entry))
  point_within entry l = point_all (λ o. o ≤ limit) mode offsets (row_of mode entry) (λ _. deadlines entry no_row l)

  -- nothing is due after the limit
  pub past_free : (offset : ℕ) → limit < offset → IsFree offset mode
  past_free offset l = record {
    checks =
        filter_none (λ entry. is_at offset (point_of mode (row_of mode entry))) (entries_of mode)
        (all_entries mode (λ entry. is_at offset (point_of mode (row_of mode entry)) ≡ false)
        (λ entry in'. other (point_of mode (row_of mode entry)) (point_within entry in')));
    enables =
        filter_none (λ (row : Enable). row.offset == offset) mode.enables
        (λ k d in'. ne_eqb _ offset (λ same. let less = enables_within k d in' in omega arith));
    activation =
        position_none (λ (row : Activation). row.offset == offset) mode.activations no_row
        (λ k d in'. ne_eqb _ offset (λ same. let less = activations k d in' in omega arith));
  } where
    other : (p : Point) → IfOffset (λ o. o ≤ limit) p → is_at offset p ≡ false
    other (point.At place) le = ne_eqb place offset (λ same. omega arith)
    other point.RoundEnd le = refl

  -- where a point is the round's end, all offsets come before its deadline
  ended : (stringent : Bool) (deadline : ℕ) → is_round_end (point_by stringent mode deadline) ≡ true
      → All (λ x. x < deadline) (offsets_in mode)
  ended true deadline e = cc
  ended false deadline e = by (least_from deadline (offsets_in mode)) refl e where
    by : (o : Option ℕ) → least_from deadline (offsets_in mode) ≡ o → is_round_end (at_or_end o) ≡ true
        → All (λ x. x < deadline) (offsets_in mode)
    by None is e = least_none deadline (offsets_in mode) is
    by (Some x) is e = cc

  -- no mode has both a point at the limit and one at the round's end
  pub one_end : (entry other : ℕ) → entry < length mode.activations → other < length mode.activations
      → is_at limit (point_of mode (row_of mode entry)) ≡ true
      → is_round_end (point_of mode (row_of mode other)) ≡ true → ⊥
  one_end entry other l m here end =
      not_at (point_of mode row) (point_all (λ x. x < limit) mode before row own) here where
        row : Activation
        row = row_of mode entry

        before : All (λ x. x < limit) (offsets_in mode)
        before =
            let last = deadlines other no_row m in
            All-weaker (λ x. x < (row_of mode other).deadline) (λ x. x < limit) (λ x less. omega arith)
            (offsets_in mode)
            (ended (row_of mode other).stringent (row_of mode other).deadline end)

        own : row.stringent ≡ true → row.deadline < limit
        own is =
            let enables_on = (all_parts (λ x. x < limit)
            (map (λ (r : Activation). r.offset) mode.activations) _ before).1 in
            let stringent = (all_parts (λ x. x < limit) (map (λ (r : Enable). r.offset) mode.enables)
            (stringent_deadlines mode.activations) enables_on).1 in
            All-head (λ x. x < limit) row.deadline []
            (subst (λ b. All (λ x. x < limit) (deadline_if b row)) is
            (all_flat (λ x. x < limit) (λ (r : Activation). deadline_if r.stringent r) mode.activations entry no_row l
            stringent))

        not_at : (p : Point) → IfOffset (λ x. x < limit) p → is_at limit p ≡ true → ⊥
        not_at (point.At place) less e = let same = eqb-true place limit e in omega arith
        not_at point.RoundEnd less e = cc
