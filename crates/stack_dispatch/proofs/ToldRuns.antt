-- A run that is reported to a recorder.
use Rattle.std.proofs.Common.{◌≡◌, ℕ, IsTrue, Bool, true, false, List, ◌++◌, refl, sym, ap, ◌∙◌, subst}
use Rattle.std.specs.Borrow.{MutBor}
use Rattle.std.specs.Prelude.{Option, Some, None, MatchOption, if◌then◌else◌}
use Rattle.tt_base.specs.declared.event.Event.{Event}
use Rattle.tt_base.specs.declared.names.NameEntry.{NameEntry}
use Rattle.tt_world.specs.Schedule.{schedule}
use Rattle.trace_text.specs.declared.recorder.Recorder.{Ghosts}
use Rattle.trace_text.specs.Records.{CutWithin, Notes}
use Rattle.trace_text.proofs.Recording.{cut_before}
use Rattle.stack_dispatch.specs.declared.peaks.Peaks.{Peaks}
use Rattle.stack_dispatch.specs.declared.run.Last.{Last}
use Rattle.stack_dispatch.specs.declared.report.Run.{Run}
use Rattle.stack_dispatch.specs.declared.report.Run.TheVariants.{Ended, Failed}
use Rattle.stack_dispatch.specs.Reports.{Benched, EndsAll, FailsWithin, OnEnded, Ran, answered}
use Rattle.stack_dispatch.specs.Told.{Logged, IsFresh, ByFailed, Tells}

module _ {S : Type 0} (r : Ghosts S) (names : List NameEntry) where
  cut_by : (failed : Bool) (s t : S) (events : List Event) → failed ≡ true → ByFailed r names false s events failed t
      → CutWithin r names s events t
  cut_by true s t events e p = p
  cut_by false s t events e p = cc

  notes_by : (failed : Bool) (s t : S) (events : List Event) → failed ≡ false → IsTrue (r.ready t)
      → ByFailed r names false s events failed t → Notes r names s events t
  notes_by true s t events e ready p = cc
  notes_by false s t events e ready p = record { kept = p.kept; ready = ready; never_falls = p.never_falls }

-- a log that has no events yet
abbrev fresh : {S : Type 0} → MutBor S → List NameEntry → Logged S
fresh lent names = record { recorder = lent; names = names; failed = false; events = 0; activations = 0 }

fresh_is : {S : Type 0} (names : List NameEntry) (log : Logged S) → IsFresh names log → fresh log.recorder names ≡ log
fresh_is names log f =
    sym (ap (λ ns. record log { names = ns }) f.names_are
    ∙ ap (λ failed. record log { names = names; failed = failed }) f.not_failed
    ∙ ap (λ (k : ℕ). record log { names = names; failed = false; events = k }) f.no_events
    ∙ ap (λ (k : ℕ). record log { names = names; failed = false; events = 0; activations = k }) f.no_activations)

module _ {S : Type 0} (r : Ghosts S) (b : Benched) (lent : MutBor S) (after : Logged S) where
  abbrev events : List Event
  events = schedule b.config b.script

  abbrev Ended_so : Option Last → Type 0
  Ended_so last = MatchOption last (FailsWithin r (fresh lent b.config.names) events after)
      (λ (l : Last). EndsAll r b.config b.script (fresh lent b.config.names) after l)

  ran_failed : (front : List Event) → (rest : List Event) → events ≡ front ++ rest
      → Tells r (fresh lent b.config.names) front after
      → after.failed ≡ true → CutWithin r b.config.names lent.now events after.recorder.now
  ran_failed front rest split told failed =
      cut_before rest events split
      (cut_by r b.config.names after.failed lent.now after.recorder.now front failed told.told)

  ran_by : (failed : Bool) → after.failed ≡ failed → (last : Last)
      → EndsAll r b.config b.script (fresh lent b.config.names) after last
      → (run : Run)
      → run ≡ (if failed then Failed
      else Ended (record {
        ticks = last.tick;
        rounds = last.rounds;
        events = after.events;
        activations = after.activations;
        deepest = last.peaks.deepest;
        words = last.peaks.words;
        end = last.end;
      }))
      → OnEnded run (λ _. IsTrue (r.ready after.recorder.now))
      → Ran r b lent.now after.recorder.now run
  ran_by true is last e run run_is ready =
      subst (Ran r b lent.now after.recorder.now) (sym run_is)
      (cut_by r b.config.names after.failed lent.now after.recorder.now events is e.told.told)
  ran_by false is last e run run_is ready =
      subst (Ran r b lent.now after.recorder.now) (sym run_is) (record {
        noted = notes_by r b.config.names after.failed lent.now after.recorder.now events is
            (subst (λ (x : Run). OnEnded x (λ _. IsTrue (r.ready after.recorder.now))) run_is ready) e.told.told;
        reports = record {
          status = e.status;
          ticks = e.tick;
          rounds = e.rounds;
          events_are = e.told.events_are;
          activations_are = e.told.activations_are;
          deepest_is = ap (λ (p : Peaks). p.deepest) e.peaks;
          words_are = ap (λ (p : Peaks). p.words) e.peaks;
        };
      })

  told_run : (last : Option Last) → Ended_so last → (run : Run) → run ≡ answered last after
      → OnEnded run (λ _. IsTrue (r.ready after.recorder.now)) → Ran r b lent.now after.recorder.now run
  told_run None p run run_is ready =
      subst (Ran r b lent.now after.recorder.now) (sym run_is) (ran_failed p.front p.rest p.split p.told p.failed)
  told_run (Some last) p run run_is ready = ran_by after.failed refl last p run run_is ready

-- a run that was reported to a log that had no events
pub logged_run : {S : Type 0} (r : Ghosts S) (b : Benched) (before after : Logged S) (last : Option Last) (run : Run)
    → IsFresh b.config.names before
    → MatchOption last (FailsWithin r before (schedule b.config b.script) after)
    (λ (l : Last). EndsAll r b.config b.script before after l)
    → run ≡ answered last after → OnEnded run (λ _. IsTrue (r.ready after.recorder.now))
    → Ran r b before.recorder.now after.recorder.now run
logged_run {S} r b before after last run is_fresh ended run_is ready =
    told_run r b before.recorder after last
    (subst (λ (log : Logged S). MatchOption last (FailsWithin r log (schedule b.config b.script) after)
    (λ (l : Last). EndsAll r b.config b.script log after l))
    (sym (fresh_is b.config.names before is_fresh)) ended) run run_is ready
