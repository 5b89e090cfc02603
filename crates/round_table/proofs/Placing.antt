-- What is due at an offset, in the lists of a table.
use Rattle.std.proofs.Common.{ℕ, suc, ◌≡◌, ◌≤◌, ◌<◌, ◌+◌, Bool, List, [], ◌++◌, length, length-append, get_or, Option, None, Some, refl, sym, ap, ◌∙◌, subst, ⊎_elim, append_assoc, arith}
use Rattle.std.specs.Prelude.{◌||◌, ◌==◌, filter, slice_get, slice_range, IfSome}
use Rattle.std.specs.List.{All}
use Rattle.std.specs.Option.{option_map}
use Rattle.std.proofs.lemmas.Bool.{cases_lt, eq-eqb, lt-leb, true≢false}
use Rattle.std.proofs.lemmas.Bool.Decides.{nat_tests}
use Rattle.std.proofs.lemmas.List.{append-nil, length-map, nil_from_length}
use Rattle.std.proofs.lemmas.List.Elements.{All-append, All-filter}
use Rattle.std.proofs.lemmas.List.Quantifiers.{position-Some}
use Rattle.tt_base.specs.declared.number.IsrNo.{IsrNo}
use Rattle.tt_world.specs.declared.config.Activation.{Activation}
use Rattle.tt_world.specs.declared.config.Enable.{Enable}
use Rattle.tt_world.specs.declared.config.ModeDef.{ModeDef}
use Rattle.tt_world.specs.declared.world.Point.{Point}
use Rattle.tt_world.specs.declared.world.Point.TheVariants as point
use Rattle.tt_world.specs.Points.{point_of}
use Rattle.tt_world.specs.Monitoring.{is_at, is_at_end}
use Rattle.tt_world.specs.Rows.{enables_at, entry_at, no_row, row_of}
use Rattle.round_table.specs.declared.checks.Check.{Check}
use Rattle.round_table.specs.declared.due.Due.{Due}
use Rattle.round_table.specs.declared.due.ExpiryPoint.{ExpiryPoint}
use Rattle.round_table.specs.Below.{below}
use Rattle.round_table.specs.CheckLists.{AreChecks, entries_in}
use Rattle.round_table.specs.DueRows.{checks_below, checks_of, due_at, enables_below, enables_of, entries_due, entries_of, is_round_end, isrs_of, none_due}
use Rattle.round_table.specs.ExpiryPoints.{IsDue, IsFree, IsNextPoint, expiry_below, expiry_points, next_after}
use Rattle.round_table.specs.Inside.{IsTable, IsWithin}
use Rattle.round_table.specs.TableRows.{TableRows}
use Rattle.round_table.proofs.Ascending.{laid_out}
use Rattle.round_table.proofs.Cursors.{cursor_next, if_found, points_within}
use Rattle.round_table.proofs.Cutting.{filter_alike, filter_empty, filter_split}
use Rattle.round_table.proofs.Laid.{all_below, below_nothing, below_part, below_past, below_still, below_within, slice_range-end}
use Rattle.round_table.proofs.Limits.{IfOffset, all_entries, enables_within, one_end, past_free, point_within}
use Rattle.round_table.proofs.MergedPoints.{due_same}
use Rattle.round_table.proofs.RowOrder.{enables_rise}

-- what a table keeps, of the rows that contracts see
pub kept : {rows table : TableRows} {points : List Point} {checks : List ℕ} {end : ℕ} {expiry : List ExpiryPoint}
    → rows ≡ table → IsTable rows points checks end expiry → IsTable table points checks end expiry
kept {points} {checks} {end} {expiry} is h = subst (λ (t : TableRows). IsTable t points checks end expiry) is h

-- the rows of a copy
pub copied : (mode : ModeDef) (activations : List Activation) (enables : List Enable) (limit : ℕ)
    → activations ≡ mode.activations → enables ≡ mode.enables
    → ◌≡◌ {A = TableRows} (record { mode = mode; limit = limit })
    (record { mode = record { activations = activations; enables = enables }; limit = limit })
copied mode activations enables limit a e = rw (a, e) refl

module _ (table : TableRows) (within : IsWithin table.limit table.mode) where
  abbrev end : ℕ
  end = suc table.limit

  abbrev checks_at : ℕ → List ℕ
  checks_at k = entries_due (is_at k) table.mode

  abbrev enabled_at : ℕ → List IsrNo
  enabled_at k = isrs_of (enables_at k table.mode.enables)

  pub past : (k : ℕ) → end ≤ k → IsFree k table.mode
  past k g = past_free table.limit table.mode within k (omega arith)

  -- the list of enables, offset after offset
  enables_laid : enables_of table ≡ below enabled_at end ++ []
  enables_laid =
      laid_out (λ (row : Enable). row.offset) table.mode.enables (enables_rise table.limit table.mode within)
      (λ (row : Enable). row.isr) enabled_at (λ k. refl) end
      (λ k d l. let less = enables_within table.limit table.mode within k d l in omega arith)
      ∙ sym (append-nil (below enabled_at end))

  pub is_due : (offset : ℕ) (due : Due) → due ≡ due_at offset table → IsDue table offset due
  is_due offset due is = subst (IsDue table offset) (sym is) (record {
    exact = refl;
    checks = below_part checks_at end (entries_due is_round_end table.mode) (λ k g. (past k g).checks) offset;
    checks_within = below_within checks_at end (entries_due is_round_end table.mode) (λ k g. (past k g).checks)
        (suc offset);
    enables =
        ap (λ xs. slice_range xs (length (enables_below table.mode offset))
        (length (enables_below table.mode (suc offset)))) enables_laid
        ∙ below_part enabled_at end [] (λ k g. ap isrs_of (past k g).enables) offset;
    enables_within =
        let all = ap length enables_laid in
        omega (arith, below_within enabled_at end [] (λ k g. ap isrs_of (past k g).enables) (suc offset));
    activation = refl;
    activation_within = entry_there (entry_at offset table.mode.activations) refl;
  }) where
    entry_there : (found : Option ℕ) → entry_at offset table.mode.activations ≡ found
        → IfSome found (λ entry. entry < length table.mode.activations)
    entry_there None e = tt
    entry_there (Some entry) e =
        (position-Some (λ (row : Activation). row.offset == offset) table.mode.activations entry no_row e).0

  -- ---- the list of checks

  -- the checks of entries of the mode
  pub entries_within : All (λ entry. entry < length table.mode.activations) (checks_of table)
  entries_within =
      let of_mode = all_entries table.mode (λ entry. entry < length table.mode.activations) (λ entry l. l) in
      let due = λ (is_due : Point → Bool). All-filter
      (λ entry. is_due (point_of table.mode (row_of table.mode entry)))
      (λ entry. entry < length table.mode.activations) (entries_of table.mode) of_mode in
      All-append (λ entry. entry < length table.mode.activations) (checks_below table.mode end)
      (entries_due is_round_end table.mode)
      (all_below checks_at (λ entry. entry < length table.mode.activations) (λ k. due (is_at k)) end) (due is_round_end)

  module _ (checks : List Check) (are : AreChecks table.mode checks) where
    offsets_within : All (λ (check : Check). check.offset < end) checks
    offsets_within k d l =
        let offset = (get_or checks k d).offset in
        ⊎_elim (λ (less : offset < end). less)
        (λ (g : end ≤ offset).
        let none : filter (λ (check : Check). check.offset == offset) checks ≡ [] =
        nil_from_length _ (sym (length-map (filter (λ (check : Check). check.offset == offset) checks)
        (λ (check : Check). check.entry)) ∙ ap length (are.entries offset ∙ (past offset g).checks)) in
        absurd (true≢false (sym (eq-eqb offset offset refl)
        ∙ filter_empty (λ (check : Check). check.offset == offset) checks none k d l)))
        (cases_lt offset end)

    entries_laid : entries_in checks ≡ checks_below table.mode end
    entries_laid =
        laid_out (λ (check : Check). check.offset) checks are.ascending
        (λ (check : Check). check.entry) checks_at are.entries end offsets_within

    pub checks_are : (entries ends : List ℕ) → entries ≡ entries_in checks ++ ends
        → ends ≡ entries_due is_round_end table.mode → entries ≡ checks_of table
    checks_are entries ends is last = is ∙ ap (λ es. es ++ ends) entries_laid
        ∙ ap (λ es. checks_below table.mode end ++ es) last

    pub end_is : length checks ≡ length (checks_below table.mode end)
    end_is = sym (length-map checks (λ (check : Check). check.entry)) ∙ ap length entries_laid

  -- ---- the checks at the end of a round

  -- two tests of points that agree up to the limit
  same_due : (p q : Point → Bool)
      → ((point : Point) → IfOffset (λ offset. offset ≤ table.limit) point → p point ≡ q point)
      → entries_due p table.mode ≡ entries_due q table.mode
  same_due p q same =
      filter_alike (λ entry. p (point_of table.mode (row_of table.mode entry)))
      (λ entry. q (point_of table.mode (row_of table.mode entry))) (entries_of table.mode)
      (all_entries table.mode (λ entry. p (point_of table.mode (row_of table.mode entry))
      ≡ q (point_of table.mode (row_of table.mode entry)))
      (λ entry l. same (point_of table.mode (row_of table.mode entry))
      (point_within table.limit table.mode within entry l)))

  abbrev ends : List ℕ
  ends = entries_due is_round_end table.mode

  -- at a length that no offset reaches, they are those at the round's end
  past_limit : (long : ℕ) → table.limit < long → (p : Point) → IfOffset (λ offset. offset ≤ table.limit) p
      → is_round_end p ≡ is_at_end long p
  past_limit long l (point.At offset) le = sym (lt-leb long offset (omega arith))
  past_limit long l point.RoundEnd le = refl

  -- at the limit, they are those at the limit or at the round's end; there are not both
  at_limit : (p : Point) → IfOffset (λ offset. offset ≤ table.limit) p
      → (is_at table.limit p || is_round_end p) ≡ is_at_end table.limit p
  at_limit (point.At offset) le = grind (arith, nat_tests)
  at_limit point.RoundEnd le = refl

  both : checks_at table.limit ++ ends ≡ entries_due (is_at_end table.limit) table.mode
  both =
      let test = λ (is_due : Point → Bool) (entry : ℕ). is_due (point_of table.mode (row_of table.mode entry)) in
      sym
      (filter_split (test (is_at table.limit)) (test is_round_end) (entries_of table.mode)
      (λ i j d le l end here.
      let within_all = all_entries table.mode (λ entry. entry < length table.mode.activations) (λ entry m. m) in
      one_end table.limit table.mode within _ _ (within_all j d l) (within_all i d (omega arith)) here end))
      ∙ same_due (λ p. is_at table.limit p || is_round_end p) (is_at_end table.limit) at_limit

  pub end_range : (long : ℕ) → table.limit ≤ long
      → slice_range (checks_of table) (length (checks_below table.mode long)) (length (checks_of table))
      ≡ entries_due (is_at_end long) table.mode
  unfolding below
  end_range long le =
      ⊎_elim
      (λ (later : table.limit < long).
      ap (λ (xs : List ℕ). slice_range (checks_of table) (length xs) (length (checks_of table)))
      (below_past checks_at end ends (λ k g. (past k g).checks) long later)
      ∙ slice_range-end (checks_below table.mode end) ends
      ∙ same_due is_round_end (is_at_end long) (past_limit long later))
      (λ (no_later : long ≤ table.limit).
      let same : table.limit ≡ long = omega arith in
      subst (λ n. slice_range (checks_of table) (length (checks_below table.mode n)) (length (checks_of table))
      ≡ entries_due (is_at_end n) table.mode) same
      (ap (λ xs. slice_range xs (length (checks_below table.mode table.limit)) (length xs))
      (append_assoc (checks_below table.mode table.limit) (checks_at table.limit) ends)
      ∙ slice_range-end (checks_below table.mode table.limit) (checks_at table.limit ++ ends)
      ∙ both))
      (cases_lt table.limit long)

  -- ---- an offset at which nothing is due

  due_none : (offset later : ℕ) → offset < later → ((k : ℕ) → offset ≤ k → k < later → IsFree k table.mode)
      → none_due (length (checks_below table.mode later)) (length (enables_below table.mode later))
      ≡ due_at offset table
  due_none offset later lt free =
      let here = free offset (omega arith) lt in
      let checks = ap length (below_still checks_at offset later (omega arith) (λ k ok kl. (free k ok kl).checks)) in
      let enables = ap length (below_still enabled_at offset later (omega arith)
      (λ k ok kl. ap isrs_of (free k ok kl).enables)) in
      due_same checks (checks ∙ sym (below_nothing checks_at offset here.checks))
      enables (enables ∙ sym (below_nothing enabled_at offset (ap isrs_of here.enables))) (sym here.activation)

  module _ (place offset : ℕ) where
    -- where the next expiry point comes later
    pub none_before : (p : ExpiryPoint) → IsNextPoint table place offset (Some p) → (p.offset ≡ offset → ⊥)
        → none_due p.due.checks_from p.due.enables_from ≡ due_at offset table
    none_before p next other =
        let ahead = next.ahead in
        ap (λ (due : Due). none_due due.checks_from due.enables_from) next.due
        ∙ due_none offset p.offset (omega arith) (λ k ok kl. next.free k ok kl)

    -- where there is none
    pub none_after : (checks enables : ℕ) → checks ≡ length (checks_below table.mode end)
        → enables ≡ length table.mode.enables
        → IsNextPoint table place offset None → none_due checks enables ≡ due_at offset table
    none_after checks enables c e next =
        let later = suc (offset + table.limit) in
        let all = ap length (below_past checks_at end ends (λ k g. (past k g).checks) later (omega arith)) in
        let laid = ap length enables_laid in
        let long = length-map table.mode.enables (λ (row : Enable). row.isr) in
        let both = length-append (below enabled_at end) [] in
        let rest = ap length (below_past enabled_at end [] (λ k g. ap isrs_of (past k g).enables) later
        (omega arith)) in
        let c_is : checks ≡ length (checks_below table.mode later) = omega arith in
        let e_is : enables ≡ length (enables_below table.mode later) = omega arith in
        ap (λ n. none_due n enables) c_is ∙ ap (none_due (length (checks_below table.mode later))) e_is
        ∙ due_none offset later (omega arith) (λ k ok kl. next.free k ok tt)

  -- ---- the next offset

  next_point : (offset : ℕ) → IsNextPoint table (length (expiry_below table (suc offset))) (suc offset)
      (slice_get (expiry_points table) (length (expiry_below table (suc offset))))
  next_point offset = cursor_next table past (length (expiry_below table (suc offset))) (suc offset) refl _ refl

  -- it comes after the offset, and not after the limit
  pub next_ahead : (offset : ℕ) → IfSome (next_after offset table) (λ next. (offset < next) × (next ≤ table.limit))
  next_ahead offset =
      let place = length (expiry_below table (suc offset)) in
      by (slice_get (expiry_points table) place) (next_point offset).ahead
      (if_found (λ (p : ExpiryPoint). p.offset < end) (expiry_points table) place _ refl (points_within table)) where
        by : (found : Option ExpiryPoint) → IfSome found (λ p. suc offset ≤ p.offset)
            → IfSome found (λ p. p.offset < end)
            → IfSome (option_map (λ (p : ExpiryPoint). p.offset) found) (λ next. (offset < next) × (next ≤ table.limit))
        by None ahead less = tt
        by (Some p) ahead less = (ahead, omega arith)

  -- nothing is due between the two
  pub free_between : (offset between : ℕ) → offset < between
      → IfSome (next_after offset table) (λ next. between < next) → IsFree between table.mode
  free_between offset between lt before =
      (next_point offset).free between lt
      (by (slice_get (expiry_points table) (length (expiry_below table (suc offset)))) before) where
        by : (found : Option ExpiryPoint)
            → IfSome (option_map (λ (p : ExpiryPoint). p.offset) found) (λ next. between < next)
            → IfSome found (λ p. between < p.offset)
        by None h = tt
        by (Some p) h = h
