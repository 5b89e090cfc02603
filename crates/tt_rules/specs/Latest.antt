-- The latest arrival of each source, for the search for an arrival that is not after it.
use Rattle.std.specs.Prelude.{ℕ, nat_lt, ◌&&◌, Bool, true, false, List, [], ◌∷◌, Option, Some, None, if◌then◌else◌}
use Rattle.tt_base.specs.declared.names.Declared.{Declared}
use Rattle.tt_base.specs.Names.{index_of, kind_of, number_of}
use Rattle.tt_parts.specs.declared.entries.Arrival.{Arrival}
use Rattle.tt_rules.specs.TableRules.{same_pair}

-- the kind and the number of a declared thing
abbrev pub thing_of : Declared → (ℕ × ℕ)
thing_of d = (index_of (kind_of d), number_of d)

abbrev pub is_thing : (ℕ × ℕ) → Option Declared → Bool
is_thing q None = false
is_thing q (Some d) = same_pair (thing_of d) q

-- a tick is after a latest one, where there is one
abbrev pub is_after : ℕ → Option ℕ → Bool
is_after tick None = true
is_after tick (Some latest) = nat_lt latest tick

abbrev pub latest_then : Bool → ℕ → Option ℕ → Option ℕ
latest_then is_it tick latest = if is_it && is_after tick latest then Some tick else latest

-- the latest tick of a thing among arrivals
abbrev pub latest_in : (ℕ × ℕ) → List Arrival → Option ℕ
latest_in q [] = None
latest_in q (a ∷ above) = latest_then (is_thing q a.source) a.tick (latest_in q above)

-- the latest tick of a source according to a look-up
abbrev pub latest_at : ((ℕ × ℕ) → Option ℕ) → Option Declared → Option ℕ
latest_at found None = None
latest_at found (Some d) = found (thing_of d)
