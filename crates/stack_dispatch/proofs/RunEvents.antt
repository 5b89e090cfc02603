-- A move reports at most one Run event: that of its first tick.
use Rattle.std.proofs.Common.{ℕ, Option, None, Some, ◌≡◌, ◌≤◌, ◌+◌, List, [], ◌∷◌, ◌++◌, Bool, true, false, refl, ap, sym, ◌∙◌, subst, arith, length, ⊎_elim}
use Rattle.std.specs.Prelude.{◌&&◌, IfSome, filter, not}
use Rattle.std.proofs.lemmas.Bool.{cases_Bool, cond-false, cond_both}
use Rattle.std.proofs.lemmas.List.{length-append}
use Rattle.std.proofs.lemmas.List.Elements.{filter-append}
use Rattle.tt_base.specs.declared.event.Event.{Event}
use Rattle.tt_base.specs.declared.event.Event.TheVariants.{Run, End}
use Rattle.tt_world.specs.declared.config.ConfigParts.{ConfigParts}
use Rattle.tt_world.specs.declared.script.ScriptParts.{ScriptParts}
use Rattle.tt_world.specs.Gates.{arrivals, acceptances, enables}
use Rattle.tt_world.specs.Monitoring.{is_at}
use Rattle.tt_world.specs.Moved.{Gives, IsTelling, Moved, Outcome, continued, event_if, followed, is_over, preceded}
use Rattle.tt_world.specs.Opening.{activation, checks, opening}
use Rattle.tt_world.specs.Rounds.{head, latch, round_end}
use Rattle.tt_world.specs.Rows.{entry_at, mode_of, offset_of}
use Rattle.tt_world.specs.Runners.{left_of, owner_of, ran_before, runner_of}
use Rattle.tt_world.specs.Step.{is_somebody, run_line, runner_tick, state_after, tick_over}
use Rattle.tt_world.specs.World.{World}
use Rattle.tt_world.proofs.Emits.{Of, OfHooks, acceptances_all, activated_all, all_more, arrivals_all, effected_all, enables_all, event_if_all, latch_all, monitored_all, round_end_all}
use Rattle.tt_world.proofs.Parts.{Leads, OfEnd, OfRun, OpeningKeeps, led_on, led_over, leads_by, opening_leads}
use Rattle.stack_dispatch.specs.Counts.{Counted, is_run, runs_in}
use Rattle.stack_dispatch.specs.declared.report.Run.{Run as TheRun}
use Rattle.stack_dispatch.specs.declared.report.Run.TheVariants.{Ended, Failed}
use Rattle.stack_dispatch.specs.declared.run.Last.{Last}
use Rattle.stack_dispatch.specs.Jumps.{at_work, jump}
use Rattle.stack_dispatch.specs.Reports.{OnEnded, answered}
use Rattle.stack_dispatch.specs.Told.{Logged}

abbrev NoRun : Event → Type 0
NoRun e = is_run e ≡ false

hooks : OfHooks NoRun
hooks = record { error = λ _ _. refl; out = λ _ _ _. refl; hook = λ _. refl; shutdown = λ _. refl }

runs_more : (es fs : List Event) → runs_in (es ++ fs) ≡ runs_in es + runs_in fs
runs_more es fs = ap length (filter-append is_run es fs) ∙ length-append (filter is_run es) (filter is_run fs)

no_runs : (es : List Event) → Of NoRun es → runs_in es ≡ 0
no_runs [] h = refl
no_runs (e ∷ es) h = ap length (cond-false (is_run e) (e ∷ filter is_run es) (filter is_run es) h.0) ∙ no_runs es h.1

line_runs : (b : Bool) (e : Event) → runs_in (event_if b e) ≤ 1
line_runs true e = cond_both (is_run e) (e ∷ []) [] (λ (xs : List Event). length xs ≤ 1) (λ _. omega arith)
    (λ _. omega arith)
line_runs false e = omega arith

module _ (c : ConfigParts) (s : ScriptParts) where
  abbrev NoRuns : OfRun
  NoRuns w es = Of NoRun es

  abbrev NoRunsOver : OfEnd
  NoRunsOver end w es = Of NoRun es

  told_none : (part : World → Moved) → ((w : World) → Of NoRun (part w).events) → Leads NoRuns NoRuns NoRunsOver part
  told_none part h w es p =
      leads_by NoRuns NoRunsOver es (part w) (λ _. all_more NoRun es (part w).events p (h w))
      (λ _. all_more NoRun es (part w).events p (h w))

  opening_keeps : OpeningKeeps c s (λ _. NoRuns) NoRunsOver
  unfolding head checks activation
  opening_keeps = record {
    head_is = λ w es z p. told_none (head s) (λ _. (refl, (refl, tt))) w es p;
    latch_is = told_none (latch c) (latch_all NoRun c (λ _ _. refl));
    round_end_is = told_none (round_end c s)
        (round_end_all NoRun hooks c s (λ _ _ _. refl) (λ _. refl) (λ _ _ _. refl));
    checks_are = told_none (checks c) (λ w. monitored_all NoRun hooks c (is_at (offset_of w)) (λ _ _ _. refl) w);
    enables_are = told_none (enables c) (enables_all NoRun c (λ _ _. refl));
    arrivals_are = told_none (arrivals c s) (arrivals_all NoRun c s (λ _ _. refl) (λ _ _. refl));
    acceptances_are = told_none (acceptances c) (acceptances_all NoRun c (λ _ _. refl));
    activation_is = told_none (activation c)
        (λ w. activated_all NoRun c (entry_at (offset_of w) (mode_of c w).activations) (λ _ _. refl) w);
  }

  -- an opening has none
  pub opening_runs : (w : World) → runs_in (opening c s w).events ≡ 0
  opening_runs w =
      let m = opening c s w in
      let h = opening_leads c s (λ _. NoRuns) NoRunsOver opening_keeps w [] tt in
      no_runs m.events
      (⊎_elim (λ (over : is_over m.end ≡ true). led_over NoRuns NoRunsOver [] m over h)
      (λ (on : is_over m.end ≡ false). led_on NoRuns NoRunsOver [] m on h) (cases_Bool (is_over m.end)))

  -- the ticks have only that of the line before them
  pub jump_runs : (k : ℕ) (w : World) → runs_in (jump c s k w).events ≤ 1
  unfolding jump followed
  jump_runs k w =
      let r = runner_of c w in
      let who = owner_of c w r in
      let u = at_work c k w in
      let tick = runner_tick c s r who u in
      let state = state_after c s u (left_of u r) in
      let line = run_line w who in
      let next = tick_over who (is_somebody r && tick.ended) in
      let quiet = no_runs tick.move.events (effected_all NoRun hooks c s (λ _ _ _ _. refl) r who state.effects
      state.left (record u { vars = state.vars; cursors = state.cursors })) in
      let one = runs_more line tick.move.events in
      let few = line_runs (not (ran_before w.last who)) (Run w.tick who) in
      let end = no_runs (next tick.move.world).events
      (event_if_all NoRun (is_somebody r && tick.ended) (End (tick.move.world.tick + 1) who) refl) in
      let both = runs_more (line ++ tick.move.events) (next tick.move.world).events in
      by_end (is_over tick.move.end) (preceded line tick.move) next (omega (arith, quiet, one, few))
      (omega (arith, quiet, one, few, end, both))
    where
      by_end : (over : Bool) (m : Moved) (next : World → Moved) → runs_in m.events ≤ 1
          → runs_in (m.events ++ (next m.world).events) ≤ 1 → runs_in (continued over m next).events ≤ 1
      by_end true m next h k = h
      by_end false m next h k = k

-- ---- moves as a reporting of events

pub counting : IsTelling Counted
counting = record {
  none = λ a. omega arith;
  both = λ a b d some others p q. let more = runs_more some others in omega (arith, p, q, more);
}

module _ {L : Type 0} {Told : L → List Event → L → Type 0} (c : ConfigParts) (s : ScriptParts) (a b : L) (v : World)
    (end : Outcome) where
  -- no move is counted in an opening
  pub counted_opening : (w : World) (moves : ℕ) → Gives Told a b v end (opening c s w)
      → Gives Counted moves moves v end (opening c s w)
  counted_opening w moves g =
      let none = opening_runs c s w in
      record { world_is = g.world_is; told = omega (arith, none); end_is = g.end_is }

  -- and one in the ticks after it
  pub counted_jump : (k : ℕ) (w : World) (moves moved : ℕ) → moved ≡ moves + 1 → Gives Told a b v end (jump c s k w)
      → Gives Counted moves moved v end (jump c s k w)
  counted_jump k w moves moved one g =
      let few = jump_runs c s k w in
      record { world_is = g.world_is; told = omega (arith, few, one); end_is = g.end_is }

-- the log of a run that has ended
pub enough_answered : {S : Type 0} (last : Option Last) (log : Logged S) (run : TheRun) (P : Type 0)
    → IfSome last (λ _. P) → run ≡ answered last log → OnEnded run (λ _. P)
enough_answered None log run P h is = subst (λ r. OnEnded r (λ _. P)) (sym is) tt
enough_answered (Some last) log run P h is =
    subst (λ r. OnEnded r (λ _. P)) (sym is)
    (cond_both log.failed Failed
    (Ended (record {
      ticks = last.tick;
      rounds = last.rounds;
      events = log.events;
      activations = log.activations;
      deepest = last.peaks.deepest;
      words = last.peaks.words;
      end = last.end;
    })) (λ r. OnEnded r (λ _. P)) (λ _. tt) (λ _. h))
