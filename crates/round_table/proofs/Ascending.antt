-- Rows in ascending order of offset, laid out offset after offset.
use Rattle.std.proofs.Common.{ℕ, zero, suc, ◌≡◌, ◌≤◌, ◌<◌, Bool, false, cond, List, ◌++◌, length, get_or, map, Option, None, Some, refl, sym, ap, ◌∙◌, subst, ⊎_elim, arith}
use Rattle.std.specs.Prelude.{◌||◌, ◌==◌, nat_lt, filter, position, slice_get, IfSome}
use Rattle.std.specs.List.{All, position_or_len}
use Rattle.std.specs.Option.{option_map}
use Rattle.std.specs.List.Sorted.{IsNonDecreasingBy}
use Rattle.std.proofs.lemmas.Bool.{cond-true, cond-false, cases_lt, lt-ltb, le-ltb, ltb-true, ltb-false, eq-eqb, eqb-true, ne_eqb}
use Rattle.std.proofs.lemmas.Bool.Decides.{nat_tests}
use Rattle.std.proofs.lemmas.List.{length-map, map-append}
use Rattle.std.proofs.lemmas.List.Elements.{filter_agree}
use Rattle.std.proofs.lemmas.List.Sums.{position_or_len_is}
use Rattle.std.proofs.lemmas.Option.{slice_get-get_or, slice_get_cases}
use Rattle.round_table.specs.Below.{below}
use Rattle.round_table.specs.Cuts.{IsCut}
use Rattle.round_table.proofs.Cutting.{filter_all, filter_none, filter_split, cut_length}

module _ {X : Type 0} (key : X → ℕ) (xs : List X) (up : IsNonDecreasingBy key xs) where
  -- the rows of an offset
  abbrev pub rows_at : ℕ → List X
  rows_at k = filter (λ x. key x == k) xs

  -- the rows before an offset, one offset after another
  below_rows : (offset : ℕ) → filter (λ x. nat_lt (key x) offset) xs ≡ below rows_at offset
  unfolding below
  below_rows zero = filter_none (λ x. nat_lt (key x) 0) xs (λ k d l. le-ltb _ 0 (omega arith))
  below_rows (suc offset) =
      sym (filter_agree (λ x. nat_lt (key x) offset || (key x == offset)) (λ x. nat_lt (key x) (suc offset))
      (λ x. more (key x)) xs)
      ∙ filter_split (λ x. nat_lt (key x) offset) (λ x. key x == offset) xs
      (λ i j d le l at before.
      let rise = up i j d le l in let same = eqb-true _ offset at in let less = ltb-true _ offset before in omega arith)
      ∙ ap (λ ys. ys ++ rows_at offset) (below_rows offset) where
        more : (n : ℕ) → (nat_lt n offset || (n == offset)) ≡ nat_lt n (suc offset)
        more n = grind (arith, nat_tests)

  -- a list that is made of the rows, and what each offset has of it
  module _ {Y : Type 0} (f : X → Y) (at : ℕ → List Y) (same : (k : ℕ) → map f (rows_at k) ≡ at k) where
    map_below : (offset : ℕ) → map f (below rows_at offset) ≡ below at offset
    unfolding below
    map_below zero = refl
    map_below (suc offset) =
        map-append f (below rows_at offset) (rows_at offset)
        ∙ ap (λ ys. ys ++ map f (rows_at offset)) (map_below offset)
        ∙ ap (λ ys. below at offset ++ ys) (same offset)

    -- the list is what the offsets have, one offset after another
    pub laid_out : (limit : ℕ) → All (λ x. key x < limit) xs → map f xs ≡ below at limit
    laid_out limit h =
        ap (map f) (sym (filter_all (λ x. nat_lt (key x) limit) xs (λ k d l. lt-ltb _ limit (h k d l)))
        ∙ below_rows limit)
        ∙ map_below limit

    -- there are as many rows before an offset as the offsets below it have
    pub place_is : (offset place : ℕ) → IsCut (λ x. nat_lt (key x) offset) xs place → place ≡ length (below at offset)
    place_is offset place cut =
        cut_length (λ x. nat_lt (key x) offset) xs place cut
        ∙ ap length (below_rows offset)
        ∙ sym (length-map (below rows_at offset) f)
        ∙ ap length (map_below offset)

  -- ---- cuts

  -- the place of an offset is also that of each later offset, up to the offset of the row at the place
  pub cut_later : (offset later place : ℕ) → offset ≤ later → IsCut (λ x. nat_lt (key x) offset) xs place
      → IfSome (option_map key (slice_get xs place)) (λ next. later ≤ next) → IsCut (λ x. nat_lt (key x) later) xs place
  cut_later offset later place le cut next = record {
    within = cut.within;
    front = λ k d l. lt-ltb _ later (let less = ltb-true _ offset (cut.front k d l) in omega arith);
    back = λ k d m l.
        let here = subst (λ (o : Option X). IfSome (option_map key o) (λ n. later ≤ n))
        (slice_get-get_or xs place d (omega arith)) next in
        let rise = up place k d m l in
        le-ltb _ later (omega arith);
  }

  -- the row at the place has no earlier offset, and the place after that row's offset is a later one
  pub moves : (offset place next to : ℕ) → IsCut (λ x. nat_lt (key x) offset) xs place
      → option_map key (slice_get xs place) ≡ Some next
      → IsCut (λ x. nat_lt (key x) (suc next)) xs to → (offset ≤ next) × (place < to)
  moves offset place next to cut is more = ⊎_elim here past (slice_get_cases xs place).1 where
    here : (x : X) × (place < length xs) × (slice_get xs place ≡ Some x) × (get_or xs place x ≡ x)
        → (offset ≤ next) × (place < to)
    here found =
        let at : Some (key found.0) ≡ Some next = ap (option_map key) (sym found.2) ∙ is in
        let same : key found.0 ≡ next = cc in
        let first = ap key found.3 in
        let later = ltb-false _ offset (cut.back place found.0 (omega arith) found.1) in
        let before : place < to =
        ⊎_elim (λ (l : place < to). l)
        (λ (g : to ≤ place). let past = ltb-false _ (suc next) (more.back place found.0 g found.1) in
        absurd (omega arith)) (cases_lt place to) in
        (omega arith, before)

    past : (length xs ≤ place) × (slice_get xs place ≡ None) → (offset ≤ next) × (place < to)
    past none = let at : None ≡ Some next = ap (option_map key) (sym none.1) ∙ is in cc

  -- where two offsets have the same place, no row is between them
  pub absent : (offset later place : ℕ) → IsCut (λ x. nat_lt (key x) offset) xs place
      → IsCut (λ x. nat_lt (key x) later) xs place
      → (k : ℕ) → offset ≤ k → k < later → All (λ x. (key x == k) ≡ false) xs
  absent offset later place cut more k ok kl i d l =
      ne_eqb _ k
      (λ same.
      ⊎_elim (λ (before : i < place). let less = ltb-true _ offset (cut.front i d before) in omega arith)
      (λ (after : place ≤ i). let ge = ltb-false _ later (more.back i d after l) in omega arith) (cases_lt i place))

-- the place of a later offset is not an earlier one
pub cut_order : {X : Type 0} (key : X → ℕ) (xs : List X) (d : X) (offset later from to : ℕ) → offset ≤ later
    → IsCut (λ x. nat_lt (key x) offset) xs from → IsCut (λ x. nat_lt (key x) later) xs to → from ≤ to
cut_order key xs d offset later from to le cut more =
    ⊎_elim
    (λ (l : to < from).
    let w = cut.within in
    let less = ltb-true _ offset (cut.front to d l) in
    let ge = ltb-false _ later (more.back to d (omega arith) (omega arith)) in
    absurd (omega arith))
    (λ (g : from ≤ to). g) (cases_lt to from)

pub position_none : {X : Type 0} (test : X → Bool) (xs : List X) (d : X) → All (λ x. test x ≡ false) xs
    → position test xs ≡ None
position_none test xs d h =
    ap (λ n. cond (nat_lt n (length xs)) (Some n) None)
    (position_or_len_is test xs (length xs) d (omega arith) (λ k l. h k d l) (λ l. absurd (omega arith)))
    ∙ cond-false (nat_lt (length xs) (length xs)) _ _ (le-ltb (length xs) (length xs) (omega arith))

-- the first row of an offset is at its place, where the next offset has a later place
pub first_at : {X : Type 0} (key : X → ℕ) (xs : List X) (d : X) (offset from to : ℕ)
    → IsCut (λ x. nat_lt (key x) offset) xs from
    → IsCut (λ x. nat_lt (key x) (suc offset)) xs to
    → cond (nat_lt from to) (Some from) None ≡ position (λ x. key x == offset) xs
first_at key xs d offset from to cut more = ⊎_elim here none (cases_lt from to) where
  earlier : (k : ℕ) → k < from → (key (get_or xs k d) == offset) ≡ false
  earlier k l = ne_eqb _ offset (λ same. let less = ltb-true _ offset (cut.front k d l) in omega arith)

  here : from < to → cond (nat_lt from to) (Some from) None ≡ position (λ x. key x == offset) xs
  here l =
      let w = more.within in
      let within : from < length xs = omega arith in
      let place : position_or_len (λ x. key x == offset) xs ≡ from =
      position_or_len_is (λ x. key x == offset) xs from d (omega arith) earlier
      (λ _.
      let less = ltb-true _ (suc offset) (more.front from d l) in
      let ge = ltb-false _ offset (cut.back from d (omega arith) within) in eq-eqb _ offset (omega arith)) in
      cond-true (nat_lt from to) (Some from) None (lt-ltb from to l)
      ∙ sym (ap (λ n. cond (nat_lt n (length xs)) (Some n) None) place
      ∙ cond-true (nat_lt from (length xs)) _ _ (lt-ltb from (length xs) within))

  none : to ≤ from → cond (nat_lt from to) (Some from) None ≡ position (λ x. key x == offset) xs
  none g =
      cond-false (nat_lt from to) (Some from) None (le-ltb from to g)
      ∙ sym
      (position_none (λ x. key x == offset) xs d
      (λ k e l.
      ⊎_elim (λ (before : k < from). ne_eqb _ offset
      (λ same. let less = ltb-true _ offset (cut.front k e before) in omega arith))
      (λ (after : from ≤ k). ne_eqb _ offset
      (λ same. let ge = ltb-false _ (suc offset) (more.back k e (omega arith) l) in omega arith))
      (cases_lt k from)))
