-- What was reported of a run.
use Rattle.std.specs.Prelude.{◌≡◌, ◌≤◌, ℕ, Bool, true, false, List, length}
use Rattle.std.specs.Borrow.{MutBor}
use Rattle.tt_base.specs.declared.event.Event.{Event}
use Rattle.tt_base.specs.declared.names.NameEntry.{NameEntry}
use Rattle.tt_io.specs.Count.{counted}
use Rattle.tt_world.specs.Load.{activations_in}
use Rattle.trace_text.specs.declared.recorder.Recorder.{Ghosts}
use Rattle.trace_text.specs.Records.{KeptAll, CutWithin}

-- the recorder that is borrowed, the names of the things in events, whether a note has failed, and how many events and
-- activations were reported
pub record Logged (S : Type 0) : Type 0 where
  pub recorder : MutBor S
  pub names : List NameEntry
  pub failed : Bool
  pub events : ℕ
  pub activations : ℕ

-- a log with these names, and no events yet
pub record IsFresh {S : Type 0} (names : List NameEntry) (log : Logged S) : Type 0 where
  pub names_are : log.names ≡ names
  pub not_failed : log.failed ≡ false
  pub no_events : log.events ≡ 0
  pub no_activations : log.activations ≡ 0

-- it noted these events with these names
pub record Keeps {S : Type 0} (r : Ghosts S) (names : List NameEntry) (before : S) (events : List Event) (after : S)
    : Type 0 where
  pub kept : KeptAll r names before events after
  pub never_falls : r.faults before ≤ r.faults after

-- by whether a note had failed before, and has failed now
abbrev pub ByFailed : {S : Type 0} → Ghosts S → List NameEntry → Bool → S → List Event → Bool → S → Type 0
ByFailed r names true before events true after = after ≡ before
ByFailed r names true before events false after = ⊥
ByFailed r names false before events true after = CutWithin r names before events after
ByFailed r names false before events false after = Keeps r names before events after

-- Events were reported: the recorder noted them, or was cut within them; after that it notes nothing any more. All of
-- them were counted.
pub record Tells {S : Type 0} (r : Ghosts S) (before : Logged S) (events : List Event) (after : Logged S) : Type 0 where
  pub same_recorder : after.recorder.ghost_name ≡ before.recorder.ghost_name
  pub names_are : after.names ≡ before.names
  pub told : ByFailed r before.names before.failed before.recorder.now events after.failed after.recorder.now
  pub events_are : after.events ≡ counted before.events (length events)
  pub activations_are : after.activations ≡ counted before.activations (activations_in events)
