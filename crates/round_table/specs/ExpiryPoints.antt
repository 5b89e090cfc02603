-- The expiry points of a dispatcher table.
use Rattle.std.specs.Prelude.{◌≡◌, ℕ, suc, ◌+◌, ◌≤◌, ◌<◌, ◌==◌, ◌&&◌, Bool, List, [], ◌∷◌, length, Option, None, is_none, slice_get, slice_range, IfSome, if◌then◌else◌}
use Rattle.std.specs.Option.{option_map}
use Rattle.tt_world.specs.declared.config.ModeDef.{ModeDef}
use Rattle.tt_world.specs.Monitoring.{is_at}
use Rattle.tt_world.specs.Rows.{enables_at, entry_at}
use Rattle.round_table.specs.declared.due.Due.{Due}
use Rattle.round_table.specs.declared.due.ExpiryPoint.{ExpiryPoint}
use Rattle.round_table.specs.Below.{below}
use Rattle.round_table.specs.DueRows.{checks_of, due_at, enables_of, entries_due, isrs_of}
use Rattle.round_table.specs.TableRows.{TableRows}

-- what is due at an offset, in places of the table's lists of checks and enables
pub record IsDue (table : TableRows) (offset : ℕ) (due : Due) : Type 0 where
  pub exact : due ≡ due_at offset table
  pub checks : slice_range (checks_of table) due.checks_from due.checks_to ≡ entries_due (is_at offset) table.mode
  pub checks_within : due.checks_to ≤ length (checks_of table)
  pub enables : slice_range (enables_of table) due.enables_from due.enables_to
      ≡ isrs_of (enables_at offset table.mode.enables)
  pub enables_within : due.enables_to ≤ length (enables_of table)
  pub activation : due.activation ≡ entry_at offset table.mode.activations
  pub activation_within : IfSome due.activation (λ entry. entry < length table.mode.activations)

-- nothing is due at an offset
pub record IsFree (offset : ℕ) (mode : ModeDef) : Type 0 where
  pub checks : entries_due (is_at offset) mode ≡ []
  pub enables : enables_at offset mode.enables ≡ []
  pub activation : entry_at offset mode.activations ≡ None

-- whether nothing is due at an offset
abbrev pub is_free : ℕ → ModeDef → Bool
is_free offset mode =
    (length (entries_due (is_at offset) mode) == 0)
    && ((length (enables_at offset mode.enables) == 0) && is_none (entry_at offset mode.activations))

-- the expiry point of an offset, if something is due there
abbrev pub expiry_at : TableRows → ℕ → List ExpiryPoint
expiry_at table offset =
    if is_free offset table.mode then [] else record { offset = offset; due = due_at offset table } ∷ []

-- the expiry points of the offsets below this one, in ascending order
abbrev pub expiry_below : TableRows → ℕ → List ExpiryPoint
expiry_below table offset = below (expiry_at table) offset

-- the expiry points of a table in ascending order: one for each offset at which something is due
abbrev pub expiry_points : TableRows → List ExpiryPoint
expiry_points table = expiry_below table (suc table.limit)

-- the offset of the first expiry point after this offset
abbrev pub next_after : ℕ → TableRows → Option ℕ
next_after offset table =
    option_map (λ (p : ExpiryPoint). p.offset)
    (slice_get (expiry_points table) (length (expiry_below table (suc offset))))

-- ---- cursors

-- the place is the cursor of an offset: the number of the expiry points before it
abbrev pub IsCursor : TableRows → (place offset : ℕ) → Type 0
IsCursor table place offset = place ≡ length (expiry_below table offset)

-- what is found at a cursor's place is the first expiry point at or after the cursor's offset
pub record IsNextPoint (table : TableRows) (place offset : ℕ) (found : Option ExpiryPoint) : Type 0 where
  -- it comes at the offset or after it
  pub ahead : IfSome found (λ p. offset ≤ p.offset)
  -- its ranges are those of its offset
  pub due : IfSome found (λ p. p.due ≡ due_at p.offset table)
  -- the next place is the cursor of the offset after it
  pub next : IfSome found (λ p. IsCursor table (place + 1) (p.offset + 1))
  -- nothing is due from the cursor's offset up to below the point's
  pub free : (between : ℕ) → offset ≤ between → IfSome found (λ p. between < p.offset) → IsFree between table.mode
  -- the place stays the cursor up to the point's offset
  pub still : (later : ℕ) → offset ≤ later → IfSome found (λ p. later ≤ p.offset) → IsCursor table place later
