-- The laws of the events of a schedule. Each is read from the events and the configuration alone.
use Rattle.std.specs.Prelude.{◌≡◌, ℕ, ◌+◌, ◌-◌, ◌<◌, ◌≤◌, ◌==◌, ◌⊎◌, not, nat_lt, Bool, true, false, List, [], ◌∷◌, ◌++◌, map, filter, All, Option, None, Some, is_some, IfSome, cond, ℤ}
use Rattle.std.specs.List.{list_any}
use Rattle.tt_base.specs.declared.number.TaskNo.{TaskNo}
use Rattle.tt_base.specs.declared.number.IsrNo.{IsrNo}
use Rattle.tt_base.specs.declared.event.Event.{Event}
use Rattle.tt_base.specs.declared.event.Event.TheVariants.{Check, Enable, Arrive, Accept, Activate, End, Out, ErrorHook, ShutdownHook, Shutdown}
use Rattle.tt_base.specs.declared.event.Owner.{Owner}
use Rattle.tt_base.specs.declared.event.Owner.TheVariants as owner
use Rattle.tt_world.specs.declared.config.Activation.{Activation as ActivationRow}
use Rattle.tt_world.specs.declared.config.ModeDef.{ModeDef}
use Rattle.tt_world.specs.declared.config.ConfigParts.{ConfigParts}
use Rattle.tt_world.specs.declared.world.Point.{Point}
use Rattle.tt_world.specs.World.{Source, IsrSource, OisrSource}
use Rattle.tt_world.specs.Rows.{mode_at}
use Rattle.tt_world.specs.Runners.{same_owner, isr_levels, highest}
use Rattle.tt_world.specs.Points.{point_of}
use Rattle.tt_world.specs.Monitoring.{is_at, is_at_end}
use Rattle.tt_world.specs.Gates.{source_owner, sources}
use Rattle.tt_world.specs.Status.{last_stamp, Status, Done, Missed, Shut, status_of}
use Rattle.tt_world.specs.Readings.{seen_at, owner_at, RoundStart, round_of, until_round, has_ended, tasks_at, isrs_at, last_of}

-- a tick that the run takes: each before the last stamp, and the tick of a ttShutdownOS
abbrev pub IsTaken : List Event → ℕ → Type 0
IsTaken events u = (u < last_stamp events) ⊎ (status_of events ≡ Shut u)

-- ---- rounds

-- when the next round begins; `end` where none does
abbrev pub start_or : ℕ → Option RoundStart → ℕ
start_or end None = end
start_or end (Some round) = round.start

unfoldable pub next_start : (end : ℕ) → List Event → ℕ
next_start end [] = end
next_start end (event ∷ rest) = start_or (next_start end rest) (round_of event)

-- whether no further round begins
abbrev pub is_last_round : List Event → Bool
is_last_round rest = not (list_any (λ (event : Event). is_some (round_of event)) rest)

-- a law of each round: of its start and mode, and of the events after its Round event
abbrev pub EachRound : (RoundStart → List Event → Type 0) → List Event → Type 0
EachRound Law [] = Unit {0}
EachRound Law (event ∷ rest) = IfSome (round_of event) (λ round. Law round rest) × EachRound Law rest

-- ---- activations

abbrev pub is_activate : Event → Bool
is_activate (Activate at task) = true
is_activate event = false

-- the activations of a mode with offsets below this one, in a round that begins at `start`
abbrev pub activates_below : List ActivationRow → (start offset : ℕ) → List Event
activates_below rows start offset =
    map (λ (row : ActivationRow). Activate (start + row.offset) row.task)
    (filter (λ (row : ActivationRow). nat_lt row.offset offset) rows)

-- one past the last tick with activations: a ttShutdownOS ends a run after the activation of its tick
abbrev pub after_end : Status → ℕ → ℕ
after_end (Shut tick) stamp = stamp + 1
after_end status stamp = stamp

-- each round has exactly the activations of its mode up to its end
abbrev pub ActivatesRows : ConfigParts → List Event → Type 0
ActivatesRows c events =
    EachRound
    (λ round rest.
    filter is_activate (until_round rest)
    ≡ activates_below (mode_at c round.mode.0).activations round.start
    (next_start (after_end (status_of events) (last_stamp events)) rest - round.start))
    events

-- ---- owners

-- who takes a tick, where these tasks and time-triggered routines are unfinished
abbrev pub IsOwner : ConfigParts → Option Owner → List TaskNo → List IsrNo → Type 0
IsOwner c None tasks isrs = ⊥
IsOwner c (Some (owner.Task task)) tasks isrs = (isrs ≡ []) × (last_of tasks ≡ Some task)
IsOwner c (Some (owner.Isr isr)) tasks isrs =
    highest (isr_levels c) (map (λ (other : IsrNo). other.0) isrs) ≡ Some isr.0
IsOwner c (Some who) tasks isrs = (isrs ≡ []) × (tasks ≡ [])

-- a task runs where no time-triggered routine is unfinished and it is the last activated unfinished task; such a
-- routine where it is the unfinished one of the highest level; anybody else where no task and no such routine is
abbrev pub OwnersRun : ConfigParts → List Event → Type 0
OwnersRun c events = (u : ℕ) → IsTaken events u → IsOwner c (owner_at u events) (tasks_at u events) (isrs_at u events)

-- ---- checks

-- the checks of the rows whose point is due at a tick, in a round that begins at `start`, up to the first that is
-- missed; a check is met where the activation has ended
unfoldable pub checked_rows : (seen : List Event) → (at start : ℕ) → ModeDef → (Point → Bool) → List ActivationRow
    → List Event
checked_rows seen at start mode is_due [] = []
checked_rows seen at start mode is_due (row ∷ rest) =
    check_row (is_due (point_of mode row)) (has_ended (start + row.offset) (owner.Task row.task) seen)
    (checked_rows seen at start mode is_due rest)
  where
    check_row : (due met : Bool) → List Event → List Event
    check_row false met others = others
    check_row true true others = Check at row.task true ∷ others
    check_row true false others = Check at row.task false ∷ []

abbrev pub is_check_at : ℕ → Event → Bool
is_check_at t (Check at task met) = at == t
is_check_at t event = false

-- at a tick, a round that begins at `start` has the checks of the points that are due
abbrev pub HasChecks : ConfigParts → (events : List Event) → RoundStart → (rest : List Event) → ℕ → (Point → Bool)
    → Type 0
HasChecks c events round rest t is_due =
    let mode = mode_at c round.mode.0 in
    filter (is_check_at t) (until_round rest)
    ≡ checked_rows (seen_at t events) t round.start mode is_due mode.activations

-- a round can have this length
abbrev pub IsRoundLength : ConfigParts → ℕ → Type 0
IsRoundLength c length = (c.round - c.adjust ≤ length) × (length ≤ c.round + c.adjust)

-- at the last tick of a round: the points that are not offsets of the round, where it ends by its length; or the points
-- at its last offset, where a missed deadline or ttShutdownOS ends the run there
abbrev pub ChecksAtEnd : ConfigParts → (last : Bool) → Status → ((Point → Bool) → Type 0) → ℕ → Type 0
ChecksAtEnd c false status Has length = Has (is_at_end length)
ChecksAtEnd c true Done Has length = Has (is_at_end length)
ChecksAtEnd c true (Shut tick) Has length = Has (is_at length)
ChecksAtEnd c true (Missed task tick) Has length =
    ((length < c.round + c.adjust) × Has (is_at length)) ⊎ (IsRoundLength c length × Has (is_at_end length))

-- an event of the body of a hook
abbrev pub IsOutOf : Owner → ℕ → Event → Type 0
IsOutOf hook at event = (value : ℤ) × (event ≡ Out at hook value)

-- what follows a missed check: the hooks, and nothing else
pub record IsViolation (at : ℕ) (task : TaskNo) (after : List Event) : Type 0 where
  pub errors : List Event
  pub outs : List Event
  pub errors_are : All (IsOutOf owner.ErrorHook at) errors
  pub outs_are : All (IsOutOf owner.ShutdownHook at) outs
  pub is : after ≡ ErrorHook at task ∷ (errors ++ ShutdownHook at ∷ (outs ++ Shutdown at ∷ []))

-- each round has the checks of the points that it reaches, up to the first that is missed, and no others; a missed
-- check is followed by the hooks, and ttErrorHook is called only right after a missed check
pub record ChecksMonitor (c : ConfigParts) (events : List Event) : Type 0 where
  pub checks : EachRound
      (λ round rest.
      (t : ℕ) → round.start ≤ t → t < next_start (last_stamp events) rest
      → HasChecks c events round rest t (is_at (t - round.start)))
      events
  pub at_end : EachRound
      (λ round rest.
      let end = next_start (last_stamp events) rest in
      ChecksAtEnd c (is_last_round rest) (status_of events) (HasChecks c events round rest end) (end - round.start))
      events
  pub others : EachRound
      (λ round rest.
      (t : ℕ) → (t < round.start) ⊎ (next_start (last_stamp events) rest < t)
      → filter (is_check_at t) (until_round rest) ≡ [])
      events
  pub violation : (before after : List Event) (at : ℕ) (task : TaskNo) → events ≡ before ++ Check at task false ∷ after
      → IsViolation at task after
  pub hook : (before after : List Event) (at : ℕ) (task : TaskNo) → events ≡ before ++ ErrorHook at task ∷ after
      → (first : List Event) × (before ≡ first ++ Check at task false ∷ [])

-- ---- interrupts

abbrev pub is_accept_of : Owner → Event → Bool
is_accept_of who (Accept at source) = same_owner source who
is_accept_of who event = false

-- whether a source is closed by an acceptance
abbrev pub is_gated : Source → Bool
is_gated (IsrSource isr) = true
is_gated (OisrSource oisr) = false

-- what a prefix of the events says of a source
pub record SourceSeen : Type 0 where
  -- how many interrupts arrived after the last Accept event
  pub waiting : ℕ
  -- whether there was an Accept event, and whether an End event and an Enable event came after the last one
  pub accepted : Bool
  pub ended : Bool
  pub enabled : Bool
  -- the stamp of the last Accept event
  pub at : ℕ

abbrev pub nothing_seen : SourceSeen
nothing_seen = record { waiting = 0; accepted = false; ended = false; enabled = false; at = 0 }

abbrev pub seen_next : Owner → SourceSeen → Event → SourceSeen
seen_next who seen (Accept at source) =
    cond (same_owner source who) (record { waiting = 0; accepted = true; ended = false; enabled = false; at = at })
    seen
seen_next who seen (Arrive at source) = cond (same_owner source who) (record seen { waiting = seen.waiting + 1 }) seen
seen_next who seen (End at source) = cond (same_owner source who) (record seen { ended = true }) seen
seen_next (owner.Isr isr) seen (Enable at other) = cond (isr.0 == other.0) (record seen { enabled = true }) seen
seen_next who seen event = seen

unfoldable pub source_seen : Owner → SourceSeen → List Event → SourceSeen
source_seen who seen [] = seen
source_seen who seen (event ∷ rest) = source_seen who (seen_next who seen event) rest

-- between two acceptances, and before the first, there is exactly one arrival; between two there is also an end, and an
-- enable where the source is time-triggered
pub record IsAdmitted (source : Source) (seen : SourceSeen) : Type 0 where
  pub one : seen.waiting ≡ 1
  pub ended : seen.accepted ≡ true → seen.ended ≡ true
  pub enabled : seen.accepted ≡ true → is_gated source ≡ true → seen.enabled ≡ true

-- an interrupt that waits at a tick waits for the end of its routine or for an enable: after the last Accept event of
-- the source there is no End event, nor one with a later stamp; or there is no Enable event after it
abbrev pub WaitsFor : Source → (events : List Event) → Type 0
WaitsFor source events =
    let who = source_owner source in
    let seen = source_seen who nothing_seen events in
    ((seen.accepted ≡ true) × (seen.ended ≡ false) × (has_ended seen.at who events ≡ false))
    ⊎ ((is_gated source ≡ true) × (seen.accepted ≡ true) × (seen.enabled ≡ false))

pub record SourceLaw (events : List Event) (source : Source) : Type 0 where
  pub accepts : (before after : List Event) (at : ℕ) → events ≡ before ++ Accept at (source_owner source) ∷ after
      → IsAdmitted source (source_seen (source_owner source) nothing_seen before)
  pub waits : (u : ℕ) → IsTaken events u
      → 1 ≤ (source_seen (source_owner source) nothing_seen (seen_at u events)).waiting
      → WaitsFor source (seen_at u events)

abbrev pub InterruptsWait : ConfigParts → List Event → Type 0
InterruptsWait c events = All (SourceLaw events) (sources c)
