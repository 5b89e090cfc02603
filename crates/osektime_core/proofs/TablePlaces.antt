-- The places of a dispatcher table, one after another.
use Rattle.std.proofs.Common.{◌≡◌, ℕ, suc, ◌≤◌, ◌<◌, ◌+◌, ◌-◌, List, [], ◌∷◌, ◌++◌, Some, length, get_or, take, drop, sym, ap, ◌∙◌, add-one, arith}
use Rattle.std.specs.Prelude.{slice_get, slice_range}
use Rattle.std.specs.List.{flat_map}
use Rattle.std.proofs.Math.Seq.{take-suc, drop-append_seam}
use Rattle.std.proofs.lemmas.List.{get_or-drop, length-drop, take_all, flat_map_more, length-append}
use Rattle.std.proofs.lemmas.Option.{slice_get_within, get_or_from_slice_get}
use Rattle.round_table.specs.DueRows.{checks_below, checks_of, entries_due, is_round_end}
use Rattle.round_table.specs.TableRows.{TableRows}

-- ---- a range of places

range_more : {X : Type 0} (xs : List X) (from place : ℕ) (x : X) → from ≤ place → slice_get xs place ≡ Some x
    → slice_range xs from (place + 1) ≡ slice_range xs from place ++ x ∷ []
range_more xs from place x le at =
    let longer : (place + 1) - from ≡ suc (place - from) = omega arith in
    let within : place < length xs = slice_get_within xs place x at in
    let short : place - from < length (drop from xs) = omega (arith, length-drop from xs) in
    let same : from + (place - from) ≡ place = omega arith in
    let item : get_or (drop from xs) (place - from) x ≡ x =
    get_or-drop from xs (place - from) x ∙ ap (λ k. get_or xs k x) same ∙ get_or_from_slice_get xs place x x at in
    ap (λ k. take k (drop from xs)) longer ∙ take-suc (drop from xs) (place - from) x short
    ∙ ap (λ y. slice_range xs from place ++ y ∷ []) item

-- the text of a range, and then that of the next place
pub text_more : {X : Type 0} (text_of : X → List ℕ) (before now after : List ℕ) (xs : List X) (from place : ℕ) (x : X)
    → from ≤ place
    → slice_get xs place ≡ Some x → now ≡ before ++ flat_map text_of (slice_range xs from place)
    → after ≡ now ++ text_of x
    → after ≡ before ++ flat_map text_of (slice_range xs from (place + 1))
text_more text_of before now after xs from place x le at so_far one =
    one ∙ ap (λ t. t ++ text_of x) so_far ∙ flat_map_more text_of before (slice_range xs from place) x
    ∙ ap (λ ys. before ++ flat_map text_of ys) (sym (range_more xs from place x le at))

-- ---- the checks of a table

-- after the checks of all offsets come those of the round's end
pub checks_at_end : (table : TableRows) (past from to : ℕ) → past ≡ table.limit + 1
    → from ≡ length (checks_below table.mode past) → to ≡ length (checks_of table)
    → slice_range (checks_of table) from to ≡ entries_due is_round_end table.mode
checks_at_end table past from to is one other =
    let below = checks_below table.mode (suc table.limit) in
    let last = entries_due is_round_end table.mode in
    let first : from ≡ length below = one ∙ ap (λ n. length (checks_below table.mode n)) (is ∙ add-one table.limit) in
    let long : length last ≤ to - from = omega (arith, length-append below last) in
    ap (λ k. take (to - from) (drop k (below ++ last))) first ∙ ap (take (to - from)) (drop-append_seam below last)
    ∙ take_all (to - from) last long
