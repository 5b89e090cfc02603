-- The interrupt sources of a run: which are enabled, where an interrupt is held, and which arrivals are to come.
use Rattle.std.specs.Prelude.{◌<◌, ◌≡◌, ℕ, ◌==◌, ◌&&◌, not, min, Bool, true, false, List, [], ◌∷◌, ◌++◌, Option, None, Some, drop, find, length, map, replicate, slice_get, slice_index_or, slice_set}
use Rattle.std.specs.List.{range_with_len}
use Rattle.tt_base.specs.declared.number.IsrNo.{IsrNo}
use Rattle.tt_base.specs.declared.event.Owner.{Owner}
use Rattle.tt_base.specs.declared.event.Owner.TheVariants as owner
use Rattle.tt_world.specs.declared.script.Arrivals.{Arrivals}
use Rattle.tt_world.specs.World.{Source, IsrSource, OisrSource}
use Rattle.tt_world.specs.Gates.{source_owner}
use Rattle.isr_window.specs.Busy.{BusySources, is_busy}

-- what is known of the sources at an instant
pub record Window : Type 0 where
  -- of each time-triggered source: whether it is enabled, whether an interrupt is held, and the ticks of the arrivals
  -- to come
  pub isrs_enabled : List Bool
  pub isrs_held : List Bool
  pub isrs_left : List (List ℕ)
  -- the same of each source of the OSEK subsystem, which is always enabled
  pub oisrs_held : List Bool
  pub oisrs_left : List (List ℕ)

-- before tick 0: all sources enabled, and nothing held
abbrev pub new_window : Arrivals → Window
new_window arrivals = record {
  isrs_enabled = replicate (length arrivals.isrs) true;
  isrs_held = replicate (length arrivals.isrs) false;
  isrs_left = arrivals.isrs;
  oisrs_held = replicate (length arrivals.oisrs) false;
  oisrs_left = arrivals.oisrs;
}

-- no flag is set
abbrev pub AreClear : List Bool → Type 0
AreClear flags = (number : ℕ) → slice_index_or flags number false ≡ false

-- ---- sources

-- all sources in their order: the time-triggered ones by number, then those of the OSEK subsystem by number
abbrev pub all_sources : Window → List Source
all_sources g =
    map (λ (number : ℕ). IsrSource (record { 0 = number })) (range_with_len 0 (length g.isrs_left))
    ++ map (λ (number : ℕ). OisrSource (record { 0 = number })) (range_with_len 0 (length g.oisrs_left))

-- the ticks of the arrivals to come at a source
abbrev pub left_at : Window → Source → List ℕ
left_at g (IsrSource isr) = slice_index_or g.isrs_left isr.0 []
left_at g (OisrSource oisr) = slice_index_or g.oisrs_left oisr.0 []

-- whether an interrupt of a source is held
abbrev pub held_at : Window → Source → Bool
held_at g (IsrSource isr) = slice_index_or g.isrs_held isr.0 false
held_at g (OisrSource oisr) = slice_index_or g.oisrs_held oisr.0 false

-- whether a source is enabled; one of the OSEK subsystem always is
abbrev pub enabled_at : Window → Source → Bool
enabled_at g (IsrSource isr) = slice_index_or g.isrs_enabled isr.0 false
enabled_at g (OisrSource oisr) = true

-- the owner is a source of one of these numbers
abbrev pub IsSourceOf : Window → Owner → Type 0
IsSourceOf g (owner.Isr isr) = isr.0 < length g.isrs_left
IsSourceOf g (owner.Oisr oisr) = oisr.0 < length g.oisrs_left
IsSourceOf g _ = ⊥

-- ---- the next arrival

-- whether there is a tick, and it is this one
abbrev pub is_at : ℕ → Option ℕ → Bool
is_at now None = false
is_at now (Some tick) = tick == now

-- whether the first of some ticks is this one
abbrev pub is_next : ℕ → List ℕ → Bool
is_next now ticks = is_at now (slice_get ticks 0)

-- the lesser of two ticks; where one is missing, the other
abbrev pub lesser : Option ℕ → Option ℕ → Option ℕ
lesser None other = other
lesser (Some tick) None = Some tick
lesser (Some tick) (Some other) = Some (min tick other)

-- the least of the first ticks of some lists
unfoldable pub least_next : List (List ℕ) → Option ℕ
least_next [] = None
least_next (ticks ∷ rest) = lesser (slice_get ticks 0) (least_next rest)

-- the least tick of an arrival to come: the ticks of each source ascend
abbrev pub next_tick : Window → Option ℕ
next_tick g = lesser (least_next g.isrs_left) (least_next g.oisrs_left)

-- ---- arrivals

-- whether the next arrival at a source is at this tick
abbrev pub is_due : ℕ → Window → Source → Bool
is_due now g source = is_next now (left_at g source)

-- the first source with an arrival at a tick
abbrev pub first_due : ℕ → Window → Option Source
first_due now g = find (is_due now g) (all_sources g)

-- the next arrival at a source is taken, and an interrupt is held there
abbrev pub taking : Option Source → Window → Window
taking None g = g
taking (Some (IsrSource isr)) g = record g {
  isrs_held = slice_set g.isrs_held isr.0 true;
  isrs_left = slice_set g.isrs_left isr.0 (drop 1 (slice_index_or g.isrs_left isr.0 []));
}
taking (Some (OisrSource oisr)) g = record g {
  oisrs_held = slice_set g.oisrs_held oisr.0 true;
  oisrs_left = slice_set g.oisrs_left oisr.0 (drop 1 (slice_index_or g.oisrs_left oisr.0 []));
}

-- ---- enables

-- a time-triggered source is enabled
abbrev pub enabling : IsrNo → Window → Window
enabling isr g = record g { isrs_enabled = slice_set g.isrs_enabled isr.0 true }

-- ---- acceptances

-- whether an interrupt of a source can be accepted: it is held, and the source is enabled and not busy
abbrev pub is_ready : BusySources → Window → Source → Bool
is_ready busy g source = held_at g source && (enabled_at g source && not (is_busy busy (source_owner source)))

-- the first source of which an interrupt can be accepted
abbrev pub first_ready : BusySources → Window → Option Source
first_ready busy g = find (is_ready busy g) (all_sources g)

-- the interrupt of a source is no longer held, and a time-triggered source is disabled
abbrev pub accepting : Option Source → Window → Window
accepting None g = g
accepting (Some (IsrSource isr)) g = record g {
  isrs_enabled = slice_set g.isrs_enabled isr.0 false;
  isrs_held = slice_set g.isrs_held isr.0 false;
}
accepting (Some (OisrSource oisr)) g = record g { oisrs_held = slice_set g.oisrs_held oisr.0 false }
