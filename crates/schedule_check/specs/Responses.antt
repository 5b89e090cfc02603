-- The response ends of activations, and the answer of the check.
use Rattle.std.specs.Prelude.{ℕ, ◌+◌, ◌-◌, ◌<◌, ◌≤◌, nat_le, Bool, Option, None, Some, is_none, is_some, length, unwrap_or}
use Rattle.tt_world.specs.declared.config.Activation.{Activation}
use Rattle.tt_world.specs.declared.config.ModeDef.{ModeDef}
use Rattle.tt_world.specs.declared.config.ConfigParts.{ConfigParts}
use Rattle.tt_world.specs.Rows.{mode_at, row_of}
use Rattle.schedule_check.specs.Demand.{demand}
use Rattle.schedule_check.specs.declared.answers.CheckAnswer.{CheckAnswer}
use Rattle.schedule_check.specs.declared.answers.CheckAnswer.TheVariants.{Yes, No}
use Rattle.schedule_check.specs.Least.{least}

-- whether the demand from an activation's offset up to a later one fits between them
abbrev pub demand_fits : ConfigParts → ModeDef → Activation → ℕ → Bool
demand_fits c mode row t = nat_le (demand c mode row.offset t) (t - row.offset)

-- the response end of an activation: the least offset after its own and up to its deadline at which the demand fits
unfoldable pub response : ConfigParts → ModeDef → Activation → Option ℕ
response c mode row = least (demand_fits c mode row) (row.offset + 1) (row.deadline - row.offset)

-- the first entry of a mode that has no response end
unfoldable pub late_entry : ConfigParts → ModeDef → Option ℕ
late_entry c mode = least (λ entry. is_none (response c mode (row_of mode entry))) 0 (length mode.activations)

-- the first mode that has such an entry
unfoldable pub late_mode : ConfigParts → Option ℕ
late_mode c = least (λ mode. is_some (late_entry c (mode_at c mode))) 0 (length c.modes)

abbrev pub answer_at : ConfigParts → Option ℕ → CheckAnswer
answer_at c None = Yes
answer_at c (Some mode) = No (record { 0 = mode }) (unwrap_or (late_entry c (mode_at c mode)) 0)

-- the answer of the check: yes where every activation of every mode has a response end; otherwise the first mode with
-- an activation that has none, and the first such activation in it
abbrev pub answer_of : ConfigParts → CheckAnswer
answer_of c = answer_at c (late_mode c)

-- ---- what a yes means

-- a response end of an activation: at or before its deadline the demand fits
pub record IsResponse (c : ConfigParts) (mode : ModeDef) (row : Activation) (t : ℕ) : Type 0 where
  pub later : row.offset < t
  pub in_time : t ≤ row.deadline
  pub fits : demand c mode row.offset t ≤ t - row.offset

-- each activation of each mode has a response end
abbrev pub EachResponds : ConfigParts → Type 0
EachResponds c =
    (mode entry : ℕ) → mode < length c.modes → entry < length (mode_at c mode).activations
    → (t : ℕ) × IsResponse c (mode_at c mode) (row_of (mode_at c mode) entry) t
