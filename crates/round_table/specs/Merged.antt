-- How expiry points are merged from the rows and the checks of a mode.
use Rattle.std.specs.Prelude.{ℕ, nat_lt, cond, List, Option, None, Some, slice_get}
use Rattle.std.specs.List.Sorted.{IsNonDecreasingBy}
use Rattle.std.specs.Option.{option_map}
use Rattle.tt_world.specs.declared.config.Activation.{Activation}
use Rattle.tt_world.specs.declared.config.Enable.{Enable}
use Rattle.tt_world.specs.declared.config.ModeDef.{ModeDef}
use Rattle.tt_world.specs.Points.{lesser_or}
use Rattle.round_table.specs.declared.checks.Check.{Check}
use Rattle.round_table.specs.declared.due.Due.{Due}
use Rattle.round_table.specs.declared.merging.Places.{Places}
use Rattle.round_table.specs.CheckLists.{AreChecks}
use Rattle.round_table.specs.Cuts.{IsCut}

-- a mode with its checks at offsets of the round
pub record ModeRows : Type 0 where
  pub mode : ModeDef
  pub checks : List Check

-- each list ascends
pub record AreInOrder (rows : ModeRows) : Type 0 where
  pub activations : IsNonDecreasingBy (λ (row : Activation). row.offset) rows.mode.activations
  pub enables : IsNonDecreasingBy (λ (row : Enable). row.offset) rows.mode.enables
  pub checks : AreChecks rows.mode rows.checks

-- the places after what comes before an offset
pub record ArePlaces (rows : ModeRows) (offset : ℕ) (places : Places) : Type 0 where
  pub activations : IsCut (λ (row : Activation). nat_lt row.offset offset) rows.mode.activations places.activations
  pub enables : IsCut (λ (row : Enable). nat_lt row.offset offset) rows.mode.enables places.enables
  pub checks : IsCut (λ (check : Check). nat_lt check.offset offset) rows.checks places.checks

-- the lesser of two offsets, where there are any
abbrev pub earlier : Option ℕ → Option ℕ → Option ℕ
earlier None other = other
earlier (Some offset) other = Some (lesser_or offset other)

-- the least offset of the rows and the checks from these places on
abbrev pub next_offset : ModeRows → Places → Option ℕ
next_offset rows places =
    earlier (option_map (λ (row : Activation). row.offset) (slice_get rows.mode.activations places.activations))
    (earlier (option_map (λ (row : Enable). row.offset) (slice_get rows.mode.enables places.enables))
    (option_map (λ (check : Check). check.offset) (slice_get rows.checks places.checks)))

-- what is due between places
abbrev pub due_between : Places → Places → Due
due_between from to = record {
  checks_from = from.checks;
  checks_to = to.checks;
  enables_from = from.enables;
  enables_to = to.enables;
  activation = cond (nat_lt from.activations to.activations) (Some from.activations) None;
}
