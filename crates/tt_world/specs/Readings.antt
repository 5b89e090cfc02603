-- What is read from a list of events, without a world.
use Rattle.std.specs.Prelude.{ℕ, ◌-◌, ◌&&◌, nat_le, nat_lt, Bool, false, List, [], ◌∷◌, filter, flat_map, length, slice_get, Option, None, Some, if◌then◌else◌}
use Rattle.std.specs.List.{list_any}
use Rattle.tt_base.specs.declared.number.TaskNo.{TaskNo}
use Rattle.tt_base.specs.declared.number.IsrNo.{IsrNo}
use Rattle.tt_base.specs.declared.number.ModeNo.{ModeNo}
use Rattle.tt_base.specs.declared.event.Event.{Event}
use Rattle.tt_base.specs.declared.event.Event.TheVariants.{Round, Accept, Activate, Run, End}
use Rattle.tt_base.specs.declared.event.Owner.{Owner}
use Rattle.tt_base.specs.declared.event.Owner.TheVariants as owner
use Rattle.tt_world.specs.Runners.{same_owner}
use Rattle.tt_world.specs.Status.{stamp_of}

-- the events with stamps of at most a tick
abbrev pub seen_at : ℕ → List Event → List Event
seen_at u events = filter (λ (event : Event). nat_le (stamp_of event) u) events

-- ---- the owner of a tick

abbrev pub owner_after : Option Owner → Event → Option Owner
owner_after before (Run at who) = Some who
owner_after before event = before

-- the owner of the last Run event
unfoldable pub last_owner : Option Owner → List Event → Option Owner
last_owner before [] = before
last_owner before (event ∷ rest) = last_owner (owner_after before event) rest

abbrev pub owner_at : ℕ → List Event → Option Owner
owner_at u events = last_owner None (seen_at u events)

-- ---- rounds

pub record RoundStart : Type 0 where
  pub start : ℕ
  pub mode : ModeNo

-- the round that an event begins
abbrev pub round_of : Event → Option RoundStart
round_of (Round at number mode) = Some (record { start = at; mode = mode })
round_of event = None

-- the events before the next round begins
abbrev pub before_round : Option RoundStart → List Event → List Event
before_round None events = events
before_round (Some round) events = []

unfoldable pub until_round : List Event → List Event
until_round [] = []
until_round (event ∷ rest) = before_round (round_of event) (event ∷ until_round rest)

abbrev pub after_if : Option RoundStart → (kept rest : List Event) → List Event
after_if None kept rest = kept
after_if (Some round) kept rest = rest

-- the events after the last Round event; `kept` where there is no Round event
unfoldable pub after_round : List Event → List Event → List Event
after_round kept [] = kept
after_round kept (event ∷ rest) = after_round (after_if (round_of event) kept rest) rest

abbrev pub present_round : List Event → List Event
present_round events = after_round events events

-- ---- what is unfinished

-- whether an event is the end of an owner, later than a tick
abbrev pub is_end_after : ℕ → Owner → Event → Bool
is_end_after from who (End at other) = same_owner who other && nat_lt from at
is_end_after from who event = false

-- whether what began at a tick has ended
abbrev pub has_ended : (from : ℕ) → Owner → List Event → Bool
has_ended from who events = list_any (is_end_after from who) events

-- the task of an Activate event, if these events leave it unfinished
abbrev pub task_if : List Event → Event → List TaskNo
task_if seen (Activate at task) = if has_ended at (owner.Task task) seen then [] else task ∷ []
task_if seen event = []

-- the routine of an Accept event, if these events leave it unfinished
abbrev pub isr_if : List Event → Event → List IsrNo
isr_if seen (Accept at (owner.Isr isr)) = if has_ended at (owner.Isr isr) seen then [] else isr ∷ []
isr_if seen event = []

-- the tasks whose Activate events of the present round are unfinished at a tick, in their order
abbrev pub tasks_at : ℕ → List Event → List TaskNo
tasks_at u events = let seen = seen_at u events in flat_map (task_if seen) (present_round seen)

-- the time-triggered routines whose Accept events are unfinished at a tick
abbrev pub isrs_at : ℕ → List Event → List IsrNo
isrs_at u events = let seen = seen_at u events in flat_map (isr_if seen) seen

abbrev pub last_of : List TaskNo → Option TaskNo
last_of tasks = slice_get tasks (length tasks - 1)
