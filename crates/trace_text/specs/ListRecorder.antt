-- What contracts see of a recorder that keeps events.
use Rattle.std.specs.Prelude.{◌≡◌, ℕ, List, [], ◌∷◌, ◌++◌}
use Rattle.tt_base.specs.declared.event.Event.{Event}
use Rattle.trace_text.specs.declared.list_recorder.ListRecorder.{ListRecorder}

-- the events that were kept
abbrev pub events_in : ListRecorder → List Event
events_in r = r.events.items

-- how many events it keeps at most
abbrev pub room_in : ListRecorder → ℕ
room_in r = r.room

-- how many notes failed
abbrev pub faults_in : ListRecorder → ℕ
faults_in r = r.faults

-- an event was appended to those that were kept, and nothing else changed
pub record Lists (before : ListRecorder) (event : Event) (after : ListRecorder) : Type 0 where
  pub events : events_in after ≡ events_in before ++ event ∷ []
  pub room : room_in after ≡ room_in before
  pub faults : faults_in after ≡ faults_in before

-- the events stayed
pub record Refuses (before after : ListRecorder) : Type 0 where
  pub events : events_in after ≡ events_in before
  pub room : room_in after ≡ room_in before
