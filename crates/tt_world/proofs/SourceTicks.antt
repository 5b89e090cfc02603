-- A tick, for one source of interrupts.
use Rattle.std.proofs.Common.{ℕ, ◌≡◌, ◌+◌, List, [], ◌∷◌, ◌++◌, Bool, true, false, Option, None, Some, refl, ap, sym, subst, ⊎_elim}
use Rattle.std.specs.Prelude.{◌&&◌, cond, option_map}
use Rattle.std.proofs.lemmas.Bool.{cases_Bool}
use Rattle.tt_base.specs.declared.number.OisrNo.{OisrNo}
use Rattle.tt_base.specs.declared.event.Event.{Event}
use Rattle.tt_base.specs.declared.event.Event.TheVariants.{Run, End}
use Rattle.tt_base.specs.declared.event.Owner.{Owner}
use Rattle.tt_base.specs.declared.event.Owner.TheVariants as owner
use Rattle.task_lang.specs.declared.syntax.Stmt.{Stmt}
use Rattle.tt_world.specs.declared.config.ConfigParts.{ConfigParts}
use Rattle.tt_world.specs.declared.script.ScriptParts.{ScriptParts}
use Rattle.tt_world.specs.declared.world.Runner.{Runner}
use Rattle.tt_world.specs.declared.world.Runner.TheVariants as runner
use Rattle.tt_world.specs.World.{World, Source, IsrSource, OisrSource}
use Rattle.tt_world.specs.Moved.{preceded, event_if}
use Rattle.tt_world.specs.Gates.{source_owner, source_runner}
use Rattle.tt_world.specs.Runners.{is_done, left_of, unfinished, highest, oisr_priorities, first_runner, runner_of, owner_of, same_owner}
use Rattle.tt_world.specs.Step.{state_after, runner_tick, is_somebody, run_line, tick_over, step}
use Rattle.tt_world.specs.EventLaws.{nothing_seen}
use Rattle.tt_world.proofs.Parts.{Leads, followed_at}
use Rattle.tt_world.proofs.Keeps.{IsOsek}
use Rattle.tt_world.proofs.Emits.{Of, all_more, event_if_all, effected_all}
use Rattle.tt_world.proofs.WhoRuns.{isr_runs, highest_undone}
use Rattle.tt_world.proofs.OpenTicks.{Ended, Left, effected_left}
use Rattle.tt_world.proofs.SourceEvents.{SaysNothing, SourceFacts, SourceLists, lists_of, lists_left, seen_of, own_owner, source_same, other_left, own_ended, own_left, admits_more, admits_silent, facts_silent, facts_one}
use Rattle.tt_world.proofs.SourceParts.{Known, EachAdmitted, silent_hooks}

-- where a routine of the OSEK subsystem runs, it is the unfinished one of the highest priority
oisr_first : (o p q r : Option ℕ) (oisr : OisrNo)
    → first_runner (option_map (λ (number : ℕ). runner.Isr (record { 0 = number })) o ∷ option_map
    (λ (place : ℕ). runner.Job place) p ∷ option_map (λ (number : ℕ). runner.Oisr (record { 0 = number })) q
    ∷ option_map (λ (number : ℕ). runner.Osek (record { 0 = number })) r ∷ []) ≡ runner.Oisr oisr
    → q ≡ Some oisr.0
oisr_first (Some n) p q r oisr e = cc
oisr_first None (Some n) q r oisr e = cc
oisr_first None None (Some n) r oisr e = cc
oisr_first None None None (Some n) oisr e = cc
oisr_first None None None None oisr e = cc

pub oisr_runs : (c : ConfigParts) (w : World) (oisr : OisrNo) → runner_of c w ≡ runner.Oisr oisr
    → highest (oisr_priorities c) (unfinished w.oisrs) ≡ Some oisr.0
unfolding runner_of
oisr_runs c w oisr e = oisr_first _ _ _ _ oisr e

module _ (c : ConfigParts) (s : ScriptParts) (x : Source) where
  -- only a routine has an end that is one of a source
  not_task : (x : Source) (task : _) → same_owner (owner.Task task) (source_owner x) ≡ false
  not_task (IsrSource i) task = refl
  not_task (OisrSource i) task = refl

  not_osek : (x : Source) (task : _) → same_owner (owner.Osek task) (source_owner x) ≡ false
  not_osek (IsrSource i) task = refl
  not_osek (OisrSource i) task = refl

  silent_end : (b : Bool) (t : ℕ) (who : Owner) → same_owner who (source_owner x) ≡ false
      → Of (SaysNothing x) (event_if b (End t who))
  silent_end b t who ne = event_if_all (SaysNothing x) b (End t who)
      (λ r. ap (λ (b : Bool). cond b (record r { ended = true }) r) ne, refl)

  module _ (w : World) (ds : List Event) (t : ℕ) (after : List Stmt) (p : Known x false w ds) where
    own_over : (ended : Bool) → is_done (left_of w (source_runner x)) ≡ false → ended ≡ is_done after
        → SourceFacts x false (lists_left (source_runner x) (lists_of w) after)
        (ds ++ event_if ended (End t (source_owner x)))
    own_over true u e =
        let q = seen_of x ds in
        facts_one x false false (lists_of w) _ ds (End t (source_owner x)) (record q { ended = true }) p
        (ap (λ (b : Bool). cond b (record q { ended = true }) q) (own_owner x)) (λ a. cc) p.few
        (own_ended x (lists_of w) after q (sym e) p.stands) (λ a. cc)
    own_over false u e =
        facts_silent x false (lists_of w) _ ds [] p tt (own_left x w after (seen_of x ds) u (sym e))

    -- the routine of a source
    source_over : (y : Source) (ended : Bool) → is_done (left_of w (source_runner y)) ≡ false → ended ≡ is_done after
        → SourceFacts x false (lists_left (source_runner y) (lists_of w) after)
        (ds ++ event_if ended (End t (source_owner y)))
    source_over y ended u e =
        ⊎_elim
        (λ (same : same_owner (source_owner y) (source_owner x) ≡ true).
        subst (λ (y : Source). is_done (left_of w (source_runner y)) ≡ false
        → SourceFacts x false (lists_left (source_runner y) (lists_of w) after)
        (ds ++ event_if ended (End t (source_owner y)))) (sym (source_same y x same)) (λ v. own_over ended v e) u)
        (λ (ne : same_owner (source_owner y) (source_owner x) ≡ false).
        facts_silent x false (lists_of w) _ ds (event_if ended (End t (source_owner y))) p
        (silent_end ended t (source_owner y) ne) (other_left y x (lists_of w) after (seen_of x ds) ne))
        (cases_Bool (same_owner (source_owner y) (source_owner x)))

    -- anybody else
    other_over : (b : Bool) (who : Owner) → same_owner who (source_owner x) ≡ false
        → SourceFacts x false (lists_of w) (ds ++ event_if b (End t who))
    other_over b who ne = facts_silent x false (lists_of w) (lists_of w) ds (event_if b (End t who)) p
        (silent_end b t who ne) (λ q. q)

    over : (r : Runner) (ended : Bool) → runner_of c w ≡ r → Ended r ended after
        → SourceFacts x false (lists_left r (lists_of w) after)
        (ds ++ event_if (is_somebody r && ended) (End t (owner_of c w r)))
    over (runner.Isr i) ended e o =
        source_over (IsrSource i) ended (highest_undone _ w.isrs i.0 (isr_runs c w i e))
        (⊎_elim (λ (n : IsOsek (runner.Isr i)). cc) (λ (h : ended ≡ is_done after). h) o)
    over (runner.Oisr i) ended e o =
        source_over (OisrSource i) ended (highest_undone _ w.oisrs i.0 (oisr_runs c w i e))
        (⊎_elim (λ (n : IsOsek (runner.Oisr i)). cc) (λ (h : ended ≡ is_done after). h) o)
    over (runner.Job q) ended e o = other_over ended _ (not_task x _)
    over (runner.Osek i) ended e o = other_over ended _ (not_osek x _)
    over runner.Nobody ended e o = facts_silent x false (lists_of w) (lists_of w) ds [] p tt (λ q. q)

  -- the events of a tick before its end say nothing of a source
  pub silent_now : (w : World) → let r = runner_of c w in let who = owner_of c w r in
      Of (SaysNothing x) (run_line w who ++ (runner_tick c s r who w).move.events)
  silent_now w =
      let r = runner_of c w in
      let who = owner_of c w r in
      let state = state_after c s w (left_of w r) in
      all_more (SaysNothing x) (run_line w who) (runner_tick c s r who w).move.events
      (event_if_all (SaysNothing x) _ (Run w.tick who) (λ _. refl, refl))
      (effected_all (SaysNothing x) (silent_hooks x) c s (λ _ _ _ _. (λ _. refl, refl)) r who state.effects state.left
      (record w { vars = state.vars; cursors = state.cursors }))

  -- a tick keeps what is known of a source
  pub step_known : Leads (Known x true) (Known x false) (EachAdmitted x) (step c s)
  unfolding step
  step_known w es p =
      let r = runner_of c w in
      let who = owner_of c w r in
      let state = state_after c s w (left_of w r) in
      let tick = runner_tick c s r who w in
      let line = run_line w who ++ tick.move.events in
      let weaker : Known x false w es =
      record { admits = p.admits; few = p.few; stands = p.stands; waits = λ a. cc } in
      followed_at (Known x false) (EachAdmitted x) es (preceded (run_line w who) tick.move)
      (tick_over who (is_somebody r && tick.ended))
      (λ _. admits_more x nothing_seen es line p.admits (admits_silent x (seen_of x es) line (silent_now w)))
      (λ on.
      let v = tick.move.world in
      let l : Left w r v tick.ended = effected_left c s r who state.effects state.left w
      (record w { vars = state.vars; cursors = state.cursors }) refl refl refl refl refl on in
      subst (λ (k : SourceLists). SourceFacts x false k
      ((es ++ line) ++ event_if (is_somebody r && tick.ended) (End (v.tick + 1) who))) (sym l.lists)
      (over w (es ++ line) (v.tick + 1) l.after
      (facts_silent x false (lists_of w) (lists_of w) es line weaker (silent_now w) (λ q. q)) r tick.ended refl
      l.ends))
