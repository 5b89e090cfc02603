-- The checks of an instant are those of the rows of its mode: the law of checks at one instant.
use Rattle.std.proofs.Common.{ℕ, suc, ◌≡◌, ◌<◌, ◌≤◌, ◌+◌, List, [], ◌∷◌, Bool, true, false, None, refl, ap, sym, ◌∙◌, arith, length, get_or}
use Rattle.std.proofs.lemmas.Bool.{ne_eqb}
use Rattle.tt_base.specs.declared.number.TaskNo.{TaskNo}
use Rattle.tt_base.specs.declared.event.Event.{Event}
use Rattle.tt_base.specs.declared.event.Event.TheVariants.{Check}
use Rattle.tt_base.specs.declared.event.Owner.TheVariants as owner
use Rattle.tt_world.specs.declared.config.Activation.{Activation as ActivationRow}
use Rattle.tt_world.specs.declared.config.ModeDef.{ModeDef}
use Rattle.tt_world.specs.declared.config.ConfigParts.{ConfigParts}
use Rattle.tt_world.specs.declared.world.Point.{Point}
use Rattle.tt_world.specs.declared.world.Point.TheVariants as point
use Rattle.tt_world.specs.World.{World, Job}
use Rattle.tt_world.specs.ConfigRules.{IsConfig}
use Rattle.tt_world.specs.Rows.{offset_of, mode_of, row_of, no_row}
use Rattle.tt_world.specs.Runners.{job_at, is_done}
use Rattle.tt_world.specs.Points.{point_of}
use Rattle.tt_world.specs.Monitoring.{Checked, check_then, check_if, checked, is_at}
use Rattle.tt_world.specs.Readings.{has_ended}
use Rattle.tt_world.specs.EventLaws.{checked_rows}
use Rattle.tt_world.proofs.TableRows.{mode_rows, deadline_after}
use Rattle.tt_world.proofs.Deadlines.{IsFrom, point_is_from}
use Rattle.tt_world.proofs.Places.{Placed}

module _ (seen : List Event) (at start : ℕ) (mode : ModeDef) (is_due : Point → Bool) where
  abbrev pub rows_of : List ActivationRow → List Event
  rows_of rows = checked_rows seen at start mode is_due rows

  abbrev pub ended : ActivationRow → Bool
  ended row = has_ended (start + row.offset) (owner.Task row.task) seen

  abbrev pub check_of : TaskNo → Bool → List Event → List Event
  check_of task met others = (check_then at task met (record { events = others; missed = None })).events

  pub no_rows : rows_of [] ≡ []
  unfolding checked_rows
  no_rows = refl

  pub row_not_due : (row : ActivationRow) (rest : List ActivationRow) → is_due (point_of mode row) ≡ false
      → rows_of (row ∷ rest) ≡ rows_of rest
  unfolding checked_rows
  row_not_due row rest e = rw e refl

  pub row_due : (row : ActivationRow) (rest : List ActivationRow) (met : Bool) → is_due (point_of mode row) ≡ true
      → ended row ≡ met → rows_of (row ∷ rest) ≡ check_of row.task met (rows_of rest)
  unfolding checked_rows
  row_due row rest true e f = rw e (rw f refl)
  row_due row rest false e f = rw e (rw f refl)

  then_events : (task : TaskNo) (met : Bool) (others : Checked) (es : List Event) → others.events ≡ es
      → (check_then at task met others).events ≡ check_of task met es
  then_events task true others es e = ap (λ (xs : List Event). Check at task true ∷ xs) e
  then_events task false others es e = refl

  if_events : (due : Bool) (check others : Checked) (es fs : List Event) → (due ≡ true → check.events ≡ es)
      → (due ≡ false → others.events ≡ es) → (check_if due check others).events ≡ es
  if_events true check others es fs a b = a refl
  if_events false check others es fs a b = b refl

  -- the activations of the rows from this one on, in their order; no row after those is due
  pub record Same (n : ℕ) (xs : List Job) (rows : List ActivationRow) : Type 0 where
    pub entries : (i : ℕ) → i < length xs → (job_at xs i).entry ≡ n + i
    pub rows_are : (i : ℕ) → i < length rows → get_or rows i no_row ≡ row_of mode (n + i)
    pub few : length xs ≤ length rows
    pub later : (i : ℕ) → length xs ≤ i → i < length rows → is_due (point_of mode (get_or rows i no_row)) ≡ false
    pub met : (i : ℕ) → i < length xs → is_due (point_of mode (get_or rows i no_row)) ≡ true
        → is_done (job_at xs i).left ≡ ended (get_or rows i no_row)

  next : (n : ℕ) (x : Job) (xs : List Job) (row : ActivationRow) (rows : List ActivationRow)
      → Same n (x ∷ xs) (row ∷ rows) → Same (n + 1) xs rows
  next n x xs row rows h =
      record {
        entries = λ i l. let z : n + suc i ≡ n + 1 + i = omega arith in h.entries (suc i) (omega arith) ∙ z;
        rows_are = λ i l. let z : n + suc i ≡ n + 1 + i = omega arith in
            h.rows_are (suc i) (omega arith) ∙ ap (row_of mode) z;
        few = let f = h.few in omega arith;
        later = λ i g l. h.later (suc i) (omega arith) (omega arith);
        met = λ i l d. h.met (suc i) (omega arith) d;
      }

  none_due : (rows : List ActivationRow)
      → ((i : ℕ) → i < length rows → is_due (point_of mode (get_or rows i no_row)) ≡ false) → rows_of rows ≡ []
  none_due [] h = no_rows
  none_due (row ∷ rows) h = row_not_due row rows (h 0 (omega arith)) ∙ none_due rows (λ i l. h (suc i) (omega arith))

  pub checks_are_rows : (n : ℕ) (xs : List Job) (rows : List ActivationRow) → Same n xs rows
      → (checked at mode is_due xs).events ≡ rows_of rows
  unfolding checked
  checks_are_rows n [] rows h = sym (none_due rows (λ i l. h.later i (omega arith) l))
  checks_are_rows n (x ∷ xs) [] h = absurd (let f = h.few in omega arith)
  checks_are_rows n (x ∷ xs) (row ∷ rows) h =
      let rest = checks_are_rows (n + 1) xs rows (next n x xs row rows h) in
      let row_is : row_of mode x.entry ≡ row = ap (row_of mode) (h.entries 0 (omega arith))
      ∙ sym (h.rows_are 0 (omega arith)) in
      let due_is : is_due (point_of mode (row_of mode x.entry)) ≡ is_due (point_of mode row) =
      ap (λ (r : ActivationRow). is_due (point_of mode r)) row_is in
      if_events (is_due (point_of mode (row_of mode x.entry)))
      (check_then at (row_of mode x.entry).task (is_done x.left) (checked at mode is_due xs))
      (checked at mode is_due xs) (rows_of (row ∷ rows)) []
      (λ d.
      let due : is_due (point_of mode row) ≡ true = sym due_is ∙ d in
      then_events (row_of mode x.entry).task (is_done x.left) (checked at mode is_due xs) (rows_of rows) rest
      ∙ ap (λ (r : ActivationRow). check_of r.task (is_done x.left) (rows_of rows)) row_is
      ∙ sym (row_due row rows (is_done x.left) due (sym (h.met 0 (omega arith) due))))
      (λ d. rest ∙ sym (row_not_due row rows (sym due_is ∙ d)))

-- ---- at an offset of the round

-- at an instant, for each activation whose point is due: nothing is left of it exactly where its task has an end later
-- than its offset
abbrev pub EndsAreSeen : ConfigParts → World → List Event → (Point → Bool) → Type 0
EndsAreSeen c w es is_due =
    (i : ℕ) → i < length w.jobs → is_due (point_of (mode_of c w) (row_of (mode_of c w) i)) ≡ true
    → is_done (job_at w.jobs i).left ≡ has_ended (w.start + (row_of (mode_of c w) i).offset)
    (owner.Task (row_of (mode_of c w) i).task) es

not_at : (offset from : ℕ) (p : Point) → offset < from → IsFrom from p → is_at offset p ≡ false
not_at offset from (point.At place) l h = ne_eqb place offset (λ e. absurd (omega arith))
not_at offset from point.RoundEnd l h = refl

-- the checks at an offset are those of the rows whose points are this offset
pub checks_at_offset : (c : ConfigParts) → IsConfig c → (w : World) (es : List Event) → Placed c 0 w
    → EndsAreSeen c w es (is_at (offset_of w))
    → (checked w.tick (mode_of c w) (is_at (offset_of w)) w.jobs).events ≡ checked_rows es w.tick w.start (mode_of c w)
    (is_at (offset_of w)) (mode_of c w).activations
checks_at_offset c rules w es p seen =
    let mode = mode_of c w in
    checks_are_rows es w.tick w.start mode (is_at (offset_of w)) 0 w.jobs mode.activations
    (record {
      entries = λ i l. let z : 0 + i ≡ i = omega arith in p.entries i l ∙ sym z;
      rows_are = λ i l. let z : 0 + i ≡ i = omega arith in ap (row_of mode) (sym z);
      few = p.few;
      later = λ i g l.
          let low = p.later i g l in
          let dead = deadline_after c mode i (mode_rows c w.mode.0 rules) l in
          not_at (offset_of w) (row_of mode i).deadline (point_of mode (row_of mode i)) (omega arith)
          (point_is_from mode (row_of mode i));
      met = λ i l d. seen i l d;
    })
