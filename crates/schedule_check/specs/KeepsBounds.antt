-- Whether a script keeps the bounds that a configuration declares, as a test.
use Rattle.std.specs.Prelude.{ℕ, zero, suc, ◌&&◌, Bool, true, [], nat_le, length, slice_get, slice_index_or}
use Rattle.std.specs.List.{list_all}
use Rattle.task_lang.specs.Worst.{most_of}
use Rattle.tt_world.specs.declared.config.ConfigParts.{ConfigParts}
use Rattle.tt_world.specs.declared.script.ScriptParts.{ScriptParts}
use Rattle.schedule_check.specs.Demand.{isr_of}
use Rattle.schedule_check.specs.Kept.{keeps_distance}

-- whether each number below n passes a test
unfoldable pub each_below : (ℕ → Bool) → (n : ℕ) → Bool
each_below test zero = true
each_below test (suc n) = each_below test n && test n

-- whether the values of a demand are at most its most
abbrev pub keeps_value : ConfigParts → ScriptParts → ℕ → Bool
keeps_value c s demand =
    list_all (λ value. nat_le value (most_of (slice_get c.demands demand))) (slice_index_or s.values demand [])

-- whether the arrivals of a time-triggered routine keep its distance
abbrev pub keeps_arrivals : ConfigParts → ScriptParts → ℕ → Bool
keeps_arrivals c s isr = keeps_distance (isr_of c isr).distance (slice_index_or s.arrivals.isrs isr [])

-- whether a script keeps its declared bounds
unfoldable pub keeps_bounds : ConfigParts → ScriptParts → Bool
keeps_bounds c s =
    each_below (keeps_value c s) (length s.values) && each_below (keeps_arrivals c s) (length c.isrs)
