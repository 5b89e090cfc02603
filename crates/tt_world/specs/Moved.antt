-- What a part of an instant gives: the next world, its events, and how it ends.
use Rattle.std.specs.Prelude.{◌≡◌, Option, None, Some, Bool, true, false, List, [], ◌∷◌, ◌++◌}
use Rattle.tt_base.specs.declared.event.Event.{Event}
use Rattle.tt_world.specs.World.{World}
use Rattle.tt_world.specs.declared.world.RunEnd.{RunEnd}

-- how a part of an instant ends: the run goes on, or it has ended in this way
abbrev pub Outcome : Type 0
Outcome = Option RunEnd

pub record Moved : Type 0 where
  pub world : World
  pub events : List Event
  pub end : Outcome

abbrev pub moved : Outcome → World → List Event → Moved
moved end w events = record { world = w; events = events; end = end }

-- the run goes on after these events
abbrev pub goes_on : World → List Event → Moved
goes_on = moved None

-- these events came before
abbrev pub preceded : List Event → Moved → Moved
preceded events m = record { world = m.world; events = events ++ m.events; end = m.end }

-- whether the run has ended
abbrev pub is_over : Outcome → Bool
is_over None = false
is_over (Some end) = true

abbrev pub continued : Bool → Moved → (World → Moved) → Moved
continued false m next = preceded m.events (next m.world)
continued true m next = m

-- the next part follows, if the run goes on
unfoldable pub followed : Moved → (World → Moved) → Moved
followed m next = continued (is_over m.end) m next

-- parts of an instant in their order
unfoldable pub chain : List (World → Moved) → World → Moved
chain [] w = goes_on w []
chain (part ∷ parts) w = followed (part w) (chain parts)

-- an event where a test holds
abbrev pub event_if : Bool → Event → List Event
event_if true event = event ∷ []
event_if false event = []

-- events are recorded one after another: no events change nothing, and two lists one after the other are one list
pub record IsTelling {L : Type 0} (Told : L → List Event → L → Type 0) : Type 0 where
  pub none : (a : L) → Told a [] a
  pub both : (a b d : L) (some others : List Event) → Told a some b → Told b others d → Told a (some ++ others) d

-- what a part of the code did is what its definition gives; it recorded the events of the part
pub record Gives {L : Type 0} (Told : L → List Event → L → Type 0) (before after : L) (world : World) (end : Outcome)
    (m : Moved) : Type 0 where
  pub world_is : world ≡ m.world
  pub told : Told before m.events after
  pub end_is : end ≡ m.end
