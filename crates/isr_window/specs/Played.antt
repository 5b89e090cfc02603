-- The sources of a run as the gates of a world, and how far the arrivals and the acceptances of an instant were played.
use Rattle.std.specs.Prelude.{◌≡◌, ℕ, ◌+◌, ◌<◌, ◌≤◌, not, Bool, true, false, List, None, length, map, slice_index_or, take}
use Rattle.tt_base.specs.declared.event.Event.{Event}
use Rattle.tt_base.specs.declared.event.Event.TheVariants.{Arrive, Merge}
use Rattle.tt_base.specs.declared.event.Owner.{Owner}
use Rattle.tt_base.specs.declared.event.Owner.TheVariants as owner
use Rattle.tt_world.specs.declared.config.ConfigParts.{ConfigParts}
use Rattle.tt_world.specs.declared.script.ScriptParts.{ScriptParts}
use Rattle.tt_world.specs.World.{World, Source, IsrSource, OisrSource}
use Rattle.tt_world.specs.Moved.{Gives, chain}
use Rattle.tt_world.specs.Runners.{is_done, left_of, leaving}
use Rattle.tt_world.specs.Gates.{sources, source_owner, source_runner, arrivals_of, arrival, acceptance}
use Rattle.tt_world.specs.Rows.{routine_of}
use Rattle.isr_window.specs.declared.gates.Arrived.{Arrived}
use Rattle.isr_window.specs.Busy.{BusySources, is_busy}
use Rattle.isr_window.specs.Window.{Window, held_at, left_at, is_ready}
use Rattle.isr_window.specs.Ticks.{ticks_from}

-- the world with the gates of these sources
abbrev pub with_window : World → Window → World
with_window w g = record w { isrs_enabled = g.isrs_enabled; isrs_held = g.isrs_held; oisrs_held = g.oisrs_held }

-- the source at a place after the last one
abbrev pub no_source : Source
no_source = IsrSource (record { 0 = 0 })

-- the source at a place among all sources of a configuration
abbrev pub source_at : ConfigParts → ℕ → Source
source_at c place = slice_index_or (sources c) place no_source

-- there are as many sources as the configuration has routines
pub record AreSourcesOf (c : ConfigParts) (g : Window) : Type 0 where
  pub isrs : length g.isrs_left ≡ length c.isrs
  pub oisrs : length g.oisrs_left ≡ length c.oisrs
  pub isrs_held : length g.isrs_held ≡ length c.isrs
  pub oisrs_held : length g.oisrs_held ≡ length c.oisrs

-- the arrivals to come are those of a script from a tick on
pub record AreLeftFrom (c : ConfigParts) (s : ScriptParts) (now : ℕ) (g : Window) : Type 0 where
  pub left : (place : ℕ) → place < length (sources c)
      → left_at g (source_at c place) ≡ ticks_from now (arrivals_of s (source_at c place))

-- the event of an arrival that was taken
abbrev pub arrival_event : ℕ → Arrived → Event
arrival_event now arrived = event_of arrived.merged
  where
    event_of : Bool → Event
    event_of false = Arrive now arrived.source
    event_of true = Merge now arrived.source

-- the arrivals of the sources before a place were played, from a world u on, and those after it are to come
pub record Arriving {L : Type 0} (Told : L → List Event → L → Type 0) (c : ConfigParts) (s : ScriptParts) (a b : L)
    (u w : World) (g : Window) : Type 0 where
  pub place : ℕ
  pub within : place ≤ length (sources c)
  pub gives : Gives Told a b w None (chain (map (arrival s) (take place (sources c))) u)
  pub seen : with_window w g ≡ w
  pub are : AreSourcesOf c g
  pub taken : (before : ℕ) → before < place
      → left_at g (source_at c before) ≡ ticks_from (w.tick + 1) (arrivals_of s (source_at c before))
  pub left : (after : ℕ) → place ≤ after → after < length (sources c)
      → left_at g (source_at c after) ≡ ticks_from w.tick (arrivals_of s (source_at c after))

-- the routine of a source begins
abbrev pub begun : ConfigParts → Owner → World → World
begun c (owner.Isr isr) w = leaving w (source_runner (IsrSource isr)) (routine_of c (IsrSource isr))
begun c (owner.Oisr oisr) w = leaving w (source_runner (OisrSource oisr)) (routine_of c (OisrSource oisr))
begun c _ w = w

-- a source at which an interrupt is held is busy exactly where its routine is unfinished
pub record AreUnfinished (c : ConfigParts) (busy : BusySources) (w : World) (g : Window) : Type 0 where
  pub flags : (place : ℕ) → place < length (sources c) → held_at g (source_at c place) ≡ true
      → is_busy busy (source_owner (source_at c place)) ≡ not (is_done (left_of w (source_runner (source_at c place))))

-- the acceptances of the sources before a place were played, from a world u on, and none of these can be accepted
pub record Accepting {L : Type 0} (Told : L → List Event → L → Type 0) (c : ConfigParts) (a b : L) (u w : World)
    (g : Window) (busy : BusySources) : Type 0 where
  pub place : ℕ
  pub within : place ≤ length (sources c)
  pub gives : Gives Told a b w None (chain (map (acceptance c) (take place (sources c))) u)
  pub seen : with_window w g ≡ w
  pub are : AreSourcesOf c g
  pub unfinished : AreUnfinished c busy w g
  pub accepted : (before : ℕ) → before < place → is_ready busy g (source_at c before) ≡ false
