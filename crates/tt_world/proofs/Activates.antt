-- The law of activations: each round has exactly the activations of its mode up to its end, each at its offset, in
-- their order.
use Rattle.std.proofs.Common.{ℕ, suc, ◌≡◌, ◌≤◌, ◌+◌, ◌-◌, List, [], ◌∷◌, ◌++◌, Bool, true, false, Option, None, Some, refl, ap, sym, ◌∙◌, subst, arith, append-nil}
use Rattle.std.specs.Prelude.{filter}
use Rattle.tt_base.specs.declared.event.Event.{Event}
use Rattle.tt_base.specs.declared.event.Event.TheVariants.{Activate}
use Rattle.tt_world.specs.declared.config.ConfigParts.{ConfigParts}
use Rattle.tt_world.specs.declared.script.ScriptParts.{ScriptParts}
use Rattle.tt_world.specs.declared.world.Point.{Point}
use Rattle.tt_world.specs.World.{World}
use Rattle.tt_world.specs.ConfigRules.{IsConfig}
use Rattle.tt_world.specs.Rows.{offset_of, mode_at, mode_of, row_of, entry_at}
use Rattle.tt_world.specs.Monitoring.{checked}
use Rattle.tt_world.specs.Opening.{activated}
use Rattle.tt_world.specs.Schedule.{IsLast, events_before, last_instant, schedule}
use Rattle.tt_world.specs.Status.{Status, status_of, last_stamp}
use Rattle.tt_world.specs.Readings.{RoundStart, until_round}
use Rattle.tt_world.specs.EventLaws.{next_start, is_activate, is_last_round, activates_below, after_end, ActivatesRows}
use Rattle.tt_world.specs.RunLaws.{ActivationsLaw}
use Rattle.tt_world.proofs.Parts.{Phase}
use Rattle.tt_world.proofs.TableRows.{mode_rows, row_found}
use Rattle.tt_world.proofs.Ends.{are_bounded, last_is}
use Rattle.tt_world.proofs.Emits.{Of, checked_all}
use Rattle.tt_world.proofs.Through.{each_more}
use Rattle.tt_world.proofs.Forward.{round_in, last_stamp_at}
use Rattle.tt_world.proofs.RoundActs.{has_acts, acts_same, acts_row, acts_none}
use Rattle.tt_world.proofs.RoundFolds.{ByLast, OfLast, OfRound, each_has, last_start, none_such}
use Rattle.tt_world.proofs.RoundRuns.{OfPresent, Ended, IsOfRows, RoundParts, ended_at}

module _ (c : ConfigParts) (s : ScriptParts) (rules : IsConfig c) where
  -- a round has had the activations of its mode up to this tick
  abbrev Has : RoundStart → ℕ → List Event → Type 0
  Has round end kept = kept ≡ has_acts c round end

  abbrev UpTo : ℕ → OfPresent
  UpTo T round kept = Has round T kept

  -- the last round, where the run ends at tick T
  abbrev Finally : ℕ → Status → OfPresent
  Finally T status round kept = Has round (after_end status T) kept

  abbrev Any : ℕ → Phase → World → Type 0
  Any T phase w = Unit {0}

  of_rows : IsOfRows c s is_activate Has
  of_rows (Activate at task) n = cc
  of_rows e n = refl

  -- a check is no activation
  with_checks : (T : ℕ) (w : World) (is_due : Point → Bool) (kept : List Event) → UpTo T (round_in w) kept
      → UpTo T (round_in w) (kept ++ filter is_activate (checked w.tick (mode_of c w) is_due w.jobs).events)
  with_checks T w is_due kept d =
      let fs = (checked w.tick (mode_of c w) is_due w.jobs).events in
      let none : Of (λ e. is_activate e ≡ false) fs =
      checked_all (λ e. is_activate e ≡ false) w.tick (mode_of c w) is_due w.jobs (λ _ _ _. refl) in
      ap (λ (xs : List Event). kept ++ xs) (none_such is_activate fs none) ∙ append-nil kept ∙ d

  -- at the start of a round there is none yet
  none_yet : (T : ℕ) (round : RoundStart) → round.start ≡ T → [] ≡ has_acts c round T
  none_yet T round e =
      let z : T - round.start ≡ 0 = omega arith in
      let rows = (mode_at c round.mode.0).activations in
      sym (ap (λ (o : ℕ). activates_below rows round.start o) z ∙ acts_none rows round.start)

  -- the activation of a tick
  activated_acts : (T : ℕ) (w : World) (found : Option ℕ) → w.tick ≡ T → w.start ≤ T
      → entry_at (offset_of w) (mode_of c w).activations ≡ found
      → (kept : List Event) → UpTo T (round_in w) kept
      → UpTo (T + 1) (round_in w) (kept ++ filter is_activate (activated c found w).events)
  activated_acts T w found tick started f kept d =
      let rows = (mode_of c w).activations in
      let later : T + 1 - w.start ≡ w.tick - w.start + 1 = omega arith in
      one found f ∙ sym (ap (activates_below rows w.start) later)
    where
      one : (found : Option ℕ) → entry_at (offset_of w) (mode_of c w).activations ≡ found
          → kept ++ filter is_activate (activated c found w).events
          ≡ activates_below (mode_of c w).activations w.start (w.tick - w.start + 1)
      one None f =
          let here : T - w.start ≡ w.tick - w.start = omega arith in
          let rows = (mode_of c w).activations in
          append-nil kept ∙ d ∙ ap (activates_below rows w.start) here
          ∙ sym (acts_same w.start (w.tick - w.start) rows f)
      one (Some entry) f =
          let here : T - w.start ≡ w.tick - w.start = omega arith in
          let at : w.start + (w.tick - w.start) ≡ w.tick = omega arith in
          let rows = (mode_of c w).activations in
          let task = (row_of (mode_of c w) entry).task in
          let row = row_found (offset_of w) entry (mode_of c w) f in
          ap (λ (xs : List Event). xs ++ Activate w.tick task ∷ []) (d ∙ ap (activates_below rows w.start) here)
          ∙ ap (λ (x : ℕ). activates_below rows w.start (w.tick - w.start) ++ Activate x task ∷ []) (sym at)
          ∙ sym (acts_row 0 w.start (w.tick - w.start) rows entry (mode_rows c w.mode.0 rules).ascending row.0 row.1)

  parts : (T : ℕ)
      → RoundParts c s is_activate Has of_rows T (UpTo T) (UpTo T) (UpTo T) (UpTo (T + 1)) (Finally T) (Any T)
  parts T = record {
    latch_is = λ _ _. tt;
    end_checks = λ w _ kept d. with_checks T w _ kept d;
    end_missed = λ _ _ _ _ _ d. d;
    over = λ _ _ d. d;
    stop = λ _ _ d. d;
    begin = λ mode. none_yet T (record { start = T; mode = mode }) refl;
    fresh = λ _ _ _ _. tt;
    still = λ _ _ _ _. tt;
    checks = λ w _ _ _ kept d. with_checks T w _ kept d;
    missed = λ _ _ _ _ _ _ d. d;
    activation = λ w tick started kept d. activated_acts T w _ tick started refl kept d;
    shut = λ _ _ _ _ d. d;
  }

  ended : (n : ℕ) → IsLast c s n → Ended c s is_activate Has n (Finally n) (events_before c s (suc n))
  ended n last =
      ended_at c s is_activate Has of_rows UpTo UpTo UpTo Finally Any parts (λ _ _ _. tt) tt
      (none_yet 0 (record { start = 0; mode = s.start }) refl) n last

  of_last : (n : ℕ) → IsLast c s n → ActivatesRows c (events_before c s (suc n))
  of_last n last =
      let es = events_before c s (suc n) in
      let p = ended n last in
      let end = after_end (status_of es) (last_stamp es) in
      let stamp : n ≡ last_stamp es = sym (last_stamp_at n es p.last) in
      let L : OfPresent = λ round kept. Has round end kept in
      let due : Has p.round end p.kept =
      subst (λ (t : ℕ). Has p.round (after_end (status_of es) t) p.kept) stamp p.due in
      each_more (λ round rest. OfRound is_activate Has L end round [] rest) _
      (λ round rest q.
      alike (is_last_round rest) end (next_start end rest) round (filter is_activate (until_round rest))
      (last_start end rest) q)
      es (each_has is_activate Has L end None es p.over (subst (OfLast is_activate Has L end) (sym p.now) due))
    where
      alike : (last : Bool) (end stop : ℕ) (round : RoundStart) (kept : List Event) → (last ≡ true → stop ≡ end)
          → ByLast last (Has round end kept) (Has round stop kept) → Has round stop kept
      alike true end stop round kept e p = p ∙ ap (λ (x : ℕ). has_acts c round x) (sym (e refl))
      alike false end stop round kept e p = p

pub activations_law : ActivationsLaw
unfolding schedule
activations_law c s rules script = of_last c s rules (last_instant c s) (last_is c s (are_bounded c s rules script))
