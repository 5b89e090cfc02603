-- What an activation counts in a bound.
use Rattle.std.specs.Prelude.{ℕ}
use Rattle.tt_world.specs.declared.config.Activation.{Activation}
use Rattle.tt_world.specs.declared.config.ModeDef.{ModeDef}
use Rattle.tt_world.specs.declared.config.ConfigParts.{ConfigParts}
use Rattle.tt_world.specs.Rows.{row_of}
use Rattle.schedule_check.specs.declared.windows.Measure.{Measure}
use Rattle.schedule_check.specs.declared.windows.Measure.TheVariants.{Depth, Words}
use Rattle.schedule_check.specs.Windows.{stack_of}

-- one, or the stack words of its task
abbrev pub weight_of : Measure → ConfigParts → Activation → ℕ
weight_of Depth c row = 1
weight_of Words c row = stack_of c row

-- what an entry of a mode counts
abbrev pub counted : (Activation → ℕ) → ModeDef → ℕ → ℕ
counted weight mode entry = weight (row_of mode entry)
