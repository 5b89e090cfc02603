-- The checks of a mode, by entry number and by offset.
use Rattle.std.proofs.Common.{ℕ, ◌≡◌, ◌+◌, ◌<◌, Bool, true, false, cond, List, [], ◌∷◌, ◌++◌, length, get_or, map, take, refl, sym, ap, ◌∙◌, zero-add, arith}
use Rattle.std.specs.Prelude.{◌&&◌, ◌==◌, not, filter, flat_map}
use Rattle.std.specs.List.{range_with_len}
use Rattle.std.specs.List.Sorted.{IsStableByKey, ties}
use Rattle.std.specs.Ordering.{is_lt, nat_cmp}
use Rattle.std.proofs.lemmas.Bool.Decides.{nat_tests}
use Rattle.std.proofs.lemmas.Grind.{flat_map-append}
use Rattle.std.proofs.lemmas.List.{append-nil, get_or_default, map-append, map-id, take_more}
use Rattle.std.proofs.lemmas.List.Elements.{filter-append, filter_agree}
use Rattle.std.proofs.lemmas.List.FromFn.{map-range_with_len_more}
use Rattle.tt_world.specs.declared.config.Activation.{Activation}
use Rattle.tt_world.specs.declared.config.ModeDef.{ModeDef}
use Rattle.tt_world.specs.declared.world.Point.{Point}
use Rattle.tt_world.specs.declared.world.Point.TheVariants as point
use Rattle.tt_world.specs.Monitoring.{is_at}
use Rattle.tt_world.specs.Points.{point_of}
use Rattle.tt_world.specs.Rows.{no_row, row_of}
use Rattle.round_table.specs.declared.checks.Check.{Check}
use Rattle.round_table.specs.CheckLists.{check_if, checks_among, ends_among, entries_in}
use Rattle.round_table.specs.DueRows.{entries_due, entries_of, is_round_end}

below_more : (n : ℕ) → range_with_len 0 (n + 1) ≡ range_with_len 0 n ++ n ∷ []
below_more n =
    sym (map-id (range_with_len 0 (n + 1))) ∙ map-range_with_len_more (λ k. k) 0 n n (zero-add n)
    ∙ ap (λ ks. ks ++ n ∷ []) (map-id (range_with_len 0 n))

-- the points, the checks and the ends with one more entry
module _ (mode : ModeDef) (n : ℕ) (within : n < length mode.activations) (p : Point) (d : Activation)
    (is : p ≡ point_of mode (get_or mode.activations n d)) where
  is_here : p ≡ point_of mode (row_of mode n)
  is_here = is ∙ ap (point_of mode) (get_or_default mode.activations n d no_row within)

  pub points_more : (points : List Point) → points ≡ map (point_of mode) (take n mode.activations)
      → points ++ p ∷ [] ≡ map (point_of mode) (take (n + 1) mode.activations)
  points_more points same =
      ap (λ ps. ps ++ p ∷ []) same ∙ ap (λ q. map (point_of mode) (take n mode.activations) ++ q ∷ []) is
      ∙ sym (ap (map (point_of mode)) (take_more mode.activations n d within)
      ∙ map-append (point_of mode) (take n mode.activations) (get_or mode.activations n d ∷ []))

  pub checks_more : (checks : List Check) → checks ≡ checks_among mode n
      → checks ++ check_if n p ≡ checks_among mode (n + 1)
  checks_more checks same =
      ap (λ cs. cs ++ check_if n p) same ∙ ap (λ q. checks_among mode n ++ check_if n q) is_here
      ∙ sym (ap (flat_map (λ entry. check_if entry (point_of mode (row_of mode entry)))) (below_more n)
      ∙ flat_map-append (λ entry. check_if entry (point_of mode (row_of mode entry))) (range_with_len 0 n) (n ∷ [])
      ∙ ap (λ cs. checks_among mode n ++ cs) (append-nil (check_if n (point_of mode (row_of mode n)))))

  pub ends_more : (ends : List ℕ) → ends ≡ ends_among mode n
      → ends ++ cond (is_round_end p) (n ∷ []) [] ≡ ends_among mode (n + 1)
  ends_more ends same =
      ap (λ es. es ++ cond (is_round_end p) (n ∷ []) []) same
      ∙ ap (λ q. ends_among mode n ++ cond (is_round_end q) (n ∷ []) []) is_here
      ∙ sym (ap (filter (λ entry. is_round_end (point_of mode (row_of mode entry)))) (below_more n)
      ∙ filter-append (λ entry. is_round_end (point_of mode (row_of mode entry))) (range_with_len 0 n) (n ∷ []))

-- the checks of an offset, among those of some entries
module _ (mode : ModeDef) (offset : ℕ) where
  among : (entries : List ℕ)
      → entries_in (filter (λ (check : Check). check.offset == offset)
      (flat_map (λ entry. check_if entry (point_of mode (row_of mode entry))) entries))
      ≡ filter (λ entry. is_at offset (point_of mode (row_of mode entry))) entries
  among [] = refl
  among (entry ∷ entries) = at (point_of mode (row_of mode entry)) (among entries) where
    checks : List Check
    checks = flat_map (λ e. check_if e (point_of mode (row_of mode e))) entries

    rest : List ℕ
    rest = filter (λ e. is_at offset (point_of mode (row_of mode e))) entries

    kept : List Check → List Check
    kept xs = filter (λ (check : Check). check.offset == offset) xs

    at : (p : Point) → entries_in (kept checks) ≡ rest
        → entries_in (kept (check_if entry p ++ checks)) ≡ cond (is_at offset p) (entry ∷ rest) rest
    at (point.At place) e = by (place == offset) where
      by : (b : Bool) → entries_in (cond b (record { offset = place; entry = entry } ∷ kept checks) (kept checks))
          ≡ cond b (entry ∷ rest) rest
      by true = ap (λ es. entry ∷ es) e
      by false = e
    at point.RoundEnd e = e

tied : (offset n : ℕ) → (not (is_lt (nat_cmp offset n)) && not (is_lt (nat_cmp n offset))) ≡ (n == offset)
tied offset n = grind (arith, nat_tests)

-- in a stable order by offset, the checks of an offset are those of the entries that are due there
pub in_order : (mode : ModeDef) (checks sorted : List Check) → checks ≡ checks_among mode (length mode.activations)
    → IsStableByKey (λ (check : Check). check.offset) nat_cmp checks sorted
    → (offset : ℕ) → entries_in (filter (λ (check : Check). check.offset == offset) sorted)
    ≡ entries_due (is_at offset) mode
in_order mode checks sorted are stable offset =
    let one : Check = record { offset = offset; entry = 0 } in
    let at : Check → Bool = λ check. check.offset == offset in
    let ties_one : Check → Bool = ties (λ (x y : Check). is_lt (nat_cmp x.offset y.offset)) one in
    ap entries_in
    (sym (filter_agree ties_one at (λ check. tied offset check.offset) sorted) ∙ stable one
    ∙ filter_agree ties_one at (λ check. tied offset check.offset) checks ∙ ap (filter at) are)
    ∙ among mode offset (entries_of mode)
