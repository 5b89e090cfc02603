-- What a table keeps.
use Rattle.std.specs.Prelude.{◌≡◌, ℕ, suc, nat_le, nat_lt, true, List, length, map}
use Rattle.std.specs.List.{list_all}
use Rattle.tt_world.specs.declared.config.Activation.{Activation}
use Rattle.tt_world.specs.declared.config.Enable.{Enable}
use Rattle.tt_world.specs.declared.config.ModeDef.{ModeDef}
use Rattle.tt_world.specs.declared.world.Point.{Point}
use Rattle.tt_world.specs.ConfigRules.{enables_ascend, offsets_ascend}
use Rattle.tt_world.specs.Points.{point_of}
use Rattle.round_table.specs.declared.due.ExpiryPoint.{ExpiryPoint}
use Rattle.round_table.specs.DueRows.{checks_below, checks_of}
use Rattle.round_table.specs.ExpiryPoints.{expiry_points}
use Rattle.round_table.specs.TableRows.{TableRows}

-- the rows of a mode ascend, with offsets below a limit and deadlines up to it
pub record IsWithin (limit : ℕ) (mode : ModeDef) : Type 0 where
  pub ascending : offsets_ascend 0 mode.activations ≡ true
  pub enables_ascending : enables_ascend mode.enables ≡ true
  pub below : list_all (λ (row : Activation). nat_lt row.offset limit) mode.activations ≡ true
  pub enables_below : list_all (λ (row : Enable). nat_lt row.offset limit) mode.enables ≡ true
  pub deadlines : list_all (λ (row : Activation). nat_le row.deadline limit) mode.activations ≡ true

-- what is kept beside the rows: the monitoring point of each activation, the checks, the place of the first check at
-- the round's end, and the expiry points
pub record IsTable (table : TableRows) (points : List Point) (checks : List ℕ) (end : ℕ)
    (expiry : List ExpiryPoint) : Type 0 where
  pub rows : IsWithin table.limit table.mode
  pub points_are : points ≡ map (point_of table.mode) table.mode.activations
  pub checks_are : checks ≡ checks_of table
  pub end_is : end ≡ length (checks_below table.mode (suc table.limit))
  pub expiry_are : expiry ≡ expiry_points table
