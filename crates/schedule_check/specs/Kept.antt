-- The declared bounds that a script keeps.
use Rattle.std.specs.Prelude.{◌≡◌, ℕ, ◌+◌, ◌<◌, ◌&&◌, nat_le, Bool, true, List, [], ◌∷◌, Option, None, Some, length, slice_index_or}
use Rattle.task_lang.specs.Tick.{supply_of}
use Rattle.task_lang.specs.TickLaws.{AreValuesKept}
use Rattle.tt_world.specs.declared.config.ConfigParts.{ConfigParts}
use Rattle.tt_world.specs.declared.script.ScriptParts.{ScriptParts}
use Rattle.schedule_check.specs.Demand.{isr_of}

-- consecutive ticks are at least this distance apart
abbrev pub are_spaced : (distance least : ℕ) → List ℕ → Bool
are_spaced distance least [] = true
are_spaced distance least (tick ∷ rest) = nat_le least tick && are_spaced distance (tick + distance) rest

abbrev pub keeps_distance : Option ℕ → List ℕ → Bool
keeps_distance None arrivals = true
keeps_distance (Some distance) arrivals = are_spaced distance 0 arrivals

-- the arrivals of each routine keep its distance
abbrev pub AreDistancesKept : ConfigParts → ScriptParts → Type 0
AreDistancesKept c s =
    (isr : ℕ) → isr < length c.isrs
    → keeps_distance (isr_of c isr).distance (slice_index_or s.arrivals.isrs isr []) ≡ true

-- each value of each demand is at most its most, and the arrivals of each routine keep its distance
pub record KeepsBounds (c : ConfigParts) (s : ScriptParts) : Type 0 where
  pub values : AreValuesKept (supply_of c.demands s.values)
  pub distances : AreDistancesKept c s
