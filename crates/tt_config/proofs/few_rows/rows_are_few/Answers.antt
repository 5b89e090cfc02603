use Rattle.std.proofs.Common.{◌≡◌, ℕ, suc, ◌+◌, ◌-◌, ◌≤◌, ◌<◌, ◌^◌, true, List, [], ◌∷◌, length, arith, subst, sym}
use Rattle.std.specs.Prelude.{nat_le, slice_get, Some}
use Rattle.std.proofs.lemmas.Bool.{and_parts}
use Rattle.std.proofs.lemmas.Bool.Decides.{nat_tests}
use Rattle.tt_rows.specs.declared.row.NumberedRow.{NumberedRow}
use Rattle.tt_rows.specs.Sound.{AreSound, ascend_from}
use Rattle.tt_config.proofs.few_rows.rows_are_few.Goals as goal

-- there are at most as many lines that ascend as the number of the last line
last_bound : (least : ℕ) (row last : NumberedRow) (rows : List NumberedRow) → ascend_from least (row ∷ rows) ≡ true
    → slice_get (row ∷ rows) (length rows) ≡ Some last → length rows + least ≤ last.line
last_bound least row last [] ascend is = grind (arith, nat_tests)
last_bound least row last (next ∷ rows) ascend is =
    let both = and_parts (nat_le least row.line) _ ascend in
    grind (arith, nat_tests, both.0, last_bound (suc row.line) next last rows both.1 is)

few : (rows : List NumberedRow) (last : NumberedRow) → AreSound rows → slice_get rows (length rows - 1) ≡ Some last
    → last.line < 2 ^ 32 → length rows < 2 ^ 32
few [] last sound is below = omega arith
few (row ∷ rows) last sound is below =
    let here : slice_get (row ∷ rows) (length rows) ≡ Some last =
    subst (λ n. slice_get (row ∷ rows) n ≡ Some last) (omega arith) is in
    omega (arith, last_bound 1 row last rows sound.ascending here)

pub returns-in-Some : goal.returns-in-Some
returns-in-Some c =
    few c.args.rows.now c.in-Some.last.now c.requires (sym c.in-Some.ensures.value) c.number_fits.ensures
