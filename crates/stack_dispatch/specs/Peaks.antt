-- The greatest depth and the most words of stack of the instants so far.
use Rattle.std.specs.Prelude.{ℕ, max}
use Rattle.tt_world.specs.declared.config.ConfigParts.{ConfigParts}
use Rattle.tt_world.specs.declared.script.ScriptParts.{ScriptParts}
use Rattle.tt_world.specs.Load.{depth_of, in_tick, most_before, words_of}
use Rattle.tt_world.specs.Moved.{Moved}
use Rattle.stack_dispatch.specs.declared.peaks.Peaks.{Peaks}

-- the peaks after the opening of one more instant
abbrev pub raised : ConfigParts → Moved → Peaks → Peaks
raised c opened before = record {
  deepest = max before.deepest (in_tick depth_of opened);
  words = max before.words (in_tick (words_of c) opened);
}

-- the peaks of the instants before n
abbrev pub peaks_before : ConfigParts → ScriptParts → ℕ → Peaks
peaks_before c s n = record { deepest = most_before depth_of c s n; words = most_before (words_of c) c s n }
