-- What a recorder did over a list of events. Of a bound `R: Recorder` the first argument is `R.Recorder`.
use Rattle.std.specs.Prelude.{◌≡◌, ◌≤◌, IsTrue, List, ◌∷◌, ◌++◌, Result, Ok, Err}
use Rattle.std.specs.List.{FoldsTo}
use Rattle.tt_base.specs.declared.event.Event.{Event}
use Rattle.tt_base.specs.declared.names.NameEntry.{NameEntry}
use Rattle.tt_io.specs.Count.{Rose}
use Rattle.trace_text.specs.declared.recorder.Recorder.{Ghosts}

-- one kept step per event, in order, each with these names
abbrev pub KeptAll : {S : Type 0} → Ghosts S → List NameEntry → S → List Event → S → Type 0
KeptAll r names before events after = FoldsTo (λ s event t. r.kept s event names t) before events after

-- it noted these events with these names, and is ready for more
pub record Notes {S : Type 0} (r : Ghosts S) (names : List NameEntry) (before : S) (events : List Event) (after : S)
    : Type 0 where
  pub kept : KeptAll r names before events after
  pub ready : IsTrue (r.ready after)
  pub never_falls : r.faults before ≤ r.faults after

-- it noted a proper prefix of these events with these names, was cut at the next one, and its count rose
pub record CutWithin {S : Type 0} (r : Ghosts S) (names : List NameEntry) (before : S) (events : List Event) (after : S)
    : Type 0 where
  pub done : List Event
  pub next : Event
  pub rest : List Event
  pub split : events ≡ done ++ next ∷ rest
  pub middle : S
  pub kept : KeptAll r names before done middle
  pub cut : r.cut middle next names after
  pub cause : Rose (r.faults before) (r.faults after)
  pub never_falls : r.faults before ≤ r.faults after

-- by the answer: it noted these events, or was cut within them
abbrev pub Records : {S T E : Type 0} → Ghosts S → List NameEntry → S → List Event → S → Result T E → Type 0
Records r names before events after (Ok value) = Notes r names before events after
Records r names before events after (Err error) = CutWithin r names before events after
