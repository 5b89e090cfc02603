-- The world is in the last round that began in the events of a run so far.
use Rattle.std.proofs.Common.{ℕ, zero, suc, ◌≡◌, ◌+◌, ◌-◌, List, [], ◌∷◌, ◌++◌, Bool, true, false, Option, None, Some, refl, ap, sym, ◌∙◌, eqb, arith, ⊎_elim}
use Rattle.std.specs.Prelude.{◌==◌, ◌&&◌, not}
use Rattle.std.specs.List.{list_any}
use Rattle.std.proofs.lemmas.Bool.{cond_both, cases_Bool}
use Rattle.tt_base.specs.declared.event.Event.{Event}
use Rattle.tt_base.specs.declared.event.Event.TheVariants.{Round, Run, End}
use Rattle.tt_base.specs.declared.event.Owner.{Owner}
use Rattle.task_lang.specs.declared.syntax.Stmt.{Stmt}
use Rattle.task_lang.specs.declared.tick.Effect.{Effect}
use Rattle.task_lang.specs.declared.tick.Effect.TheVariants as effect
use Rattle.tt_world.specs.declared.config.ConfigParts.{ConfigParts}
use Rattle.tt_world.specs.declared.script.ScriptParts.{ScriptParts}
use Rattle.tt_world.specs.declared.world.Point.{Point}
use Rattle.tt_world.specs.declared.world.Runner.{Runner}
use Rattle.tt_world.specs.declared.world.Runner.TheVariants as runner
use Rattle.tt_world.specs.World.{World, Source, IsrSource, OisrSource}
use Rattle.tt_world.specs.Moved.{Moved, is_over, preceded, chain}
use Rattle.tt_world.specs.Rows.{offset_of, mode_of, enables_at, entry_at}
use Rattle.tt_world.specs.Correction.{is_no_change, is_length}
use Rattle.tt_world.specs.Monitoring.{checked, monitored, after_checks, is_at, is_at_end}
use Rattle.tt_world.specs.Rounds.{head, latch, next_round, round_end}
use Rattle.tt_world.specs.Gates.{enable, enables, arrived, arrival, arrivals, is_accepted, acceptance, acceptances, sources, arrivals_of, is_held}
use Rattle.tt_world.specs.Runners.{left_of, leaving, runner_of, owner_of}
use Rattle.tt_world.specs.Services.{service, is_shutdown}
use Rattle.tt_world.specs.Opening.{checks, activated, activation, due, opening}
use Rattle.tt_world.specs.Step.{effected, state_after, runner_tick, is_somebody, run_line, tick_over, step}
use Rattle.tt_world.specs.Schedule.{first_world, instant, instant_at, world_at, events_before}
use Rattle.tt_world.specs.Load.{round_after, last_round}
use Rattle.tt_world.proofs.Parts.{OfRun, OfEnd, LeadsTo, Leads, leads_by, led_on, led_over, followed_leads, chain_each, Phase, Before, OpeningKeeps, due_leads, instant_leads, GoesOnBefore}
use Rattle.tt_world.proofs.Keeps.{service_answers}
use Rattle.tt_world.proofs.Emits.{Of, OfHooks, all_more, event_if_all, monitored_all, effected_all}
use Rattle.tt_world.proofs.Ends.{tick_at}

-- ---- events

-- no round begins with it
abbrev IsQuiet : Event → Type 0
IsQuiet e = (n : ℕ) (rest : List Event) → round_after n (e ∷ rest) ≡ round_after n rest

quiet : (n : ℕ) (es : List Event) → Of IsQuiet es → round_after n es ≡ n
quiet n [] p = refl
quiet n (e ∷ es) p = p.0 n es ∙ quiet n es p.1

hooks : OfHooks IsQuiet
hooks = record { error = λ _ _ _ _. refl; out = λ _ _ _ _ _. refl; hook = λ _ _ _. refl; shutdown = λ _ _ _. refl }

after_more : (n : ℕ) (es fs : List Event) → round_after n (es ++ fs) ≡ round_after (round_after n es) fs
after_more n [] fs = refl
after_more n (Round at next mode ∷ es) fs = after_more next es fs
after_more n (event ∷ es) fs = after_more n es fs

more : {n : ℕ} (es fs : List Event) → last_round es ≡ n → Of IsQuiet fs → last_round (es ++ fs) ≡ n
more es fs p q = after_more 0 es fs ∙ quiet (last_round es) fs q ∙ p

-- ---- parts of an instant

-- the world is in the last round that began, where the run goes on and where it ends
abbrev Known : OfRun
Known w es = last_round es ≡ w.number

abbrev Ends : OfEnd
Ends end w es = last_round es ≡ w.number

-- before an instant that is not the first, and after each part of its opening
abbrev KnownAt : Phase → OfRun
KnownAt Before w es = (w.tick ≡ 0 → ⊥) × Known w es
KnownAt phase w es = Known w es

-- a part with which no round begins
silent : (w : World) (es : List Event) (m : Moved) → Known w es → Of IsQuiet m.events → w.number ≡ m.world.number
    → LeadsTo Known Ends es m
silent w es m p q e =
    let all = more es m.events p q ∙ e in leads_by Known Ends es m (λ _. all) (λ _. all)

module _ (c : ConfigParts) (s : ScriptParts) where
  latch_known : Leads Known Known Ends (latch c)
  unfolding latch
  latch_known w es p =
      cond_both (eqb (offset_of w) (c.round - c.adjust)) _ _ (LeadsTo Known Ends es)
      (λ _. more es _ p (event_if_all IsQuiet (not (is_no_change w.pending)) _ (λ _ _. refl))) (λ _. more es [] p tt)

  after_number : (fs : List Event) (missed : _) (w : World) → w.number ≡ (after_checks c fs missed w).world.number
  after_number fs None w = refl
  after_number fs (Some task) w = refl

  monitored_known : (is_due : Point → Bool) → Leads Known Known Ends (monitored c is_due)
  monitored_known is_due w es p =
      silent w es (monitored c is_due w) p (monitored_all IsQuiet hooks c is_due (λ _ _ _ _ _. refl) w)
      (after_number _ (checked w.tick (mode_of c w) is_due w.jobs).missed w)

  next_known : Leads Known Known Ends (next_round s)
  unfolding next_round
  next_known w es p = cond_both (eqb w.number s.rounds) _ _ (LeadsTo Known Ends es)
      (λ _. more es _ p (λ _ _. refl, tt)) (λ _. after_more 0 es _)

  round_end_known : Leads Known Known Ends (round_end c s)
  unfolding round_end
  round_end_known w es p =
      cond_both (is_length w.latched (offset_of w)) _ _ (LeadsTo Known Ends es)
      (λ _. followed_leads Known Known Ends es (monitored c (is_at_end (offset_of w)) w) (next_round s)
      (monitored_known _ w es p) next_known)
      (λ _. more es [] p tt)

  arrived_known : (held : Bool) (source : Source) → Leads Known Known Ends (arrived held source)
  arrived_known true source w es p = more es _ p (λ _ _. refl, tt)
  arrived_known false (IsrSource i) w es p = more es _ p (λ _ _. refl, tt)
  arrived_known false (OisrSource i) w es p = more es _ p (λ _ _. refl, tt)

  arrival_known : (source : Source) → Leads Known Known Ends (arrival s source)
  unfolding arrival
  arrival_known source w es p =
      cond_both (list_any (λ (tick : ℕ). tick == w.tick) (arrivals_of s source)) _ _ (LeadsTo Known Ends es)
      (λ _. arrived_known (is_held w source) source w es p) (λ _. more es [] p tt)

  acceptance_known : (source : Source) → Leads Known Known Ends (acceptance c source)
  unfolding acceptance
  acceptance_known (IsrSource i) w es p = cond_both (is_accepted w (IsrSource i)) _ _ (LeadsTo Known Ends es)
      (λ _. more es _ p (λ _ _. refl, tt)) (λ _. more es [] p tt)
  acceptance_known (OisrSource i) w es p = cond_both (is_accepted w (OisrSource i)) _ _ (LeadsTo Known Ends es)
      (λ _. more es _ p (λ _ _. refl, tt)) (λ _. more es [] p tt)

  activated_known : (entry : Option ℕ) → Leads Known Known Ends (activated c entry)
  activated_known None w es p = more es [] p tt
  activated_known (Some entry) w es p = more es _ p (λ _ _. refl, tt)

  opening_keeps : OpeningKeeps c s KnownAt Ends
  unfolding checks enables enable arrivals acceptances activation
  opening_keeps = record {
    head_is = λ w es z p. absurd (p.0 z);
    latch_is = λ w es p. latch_known w es p.1;
    round_end_is = round_end_known;
    checks_are = λ w es p. monitored_known (is_at (offset_of w)) w es p;
    enables_are = λ w es p. chain_each Known Ends enable (enables_at (offset_of w) (mode_of c w).enables)
        (λ row v ds q. more ds _ q (λ _ _. refl, tt)) w es p;
    arrivals_are = chain_each Known Ends (arrival s) (sources c) arrival_known;
    acceptances_are = chain_each Known Ends (acceptance c) (sources c) acceptance_known;
    activation_is = λ w es p. activated_known (entry_at (offset_of w) (mode_of c w).activations) w es p;
  }

  -- ---- the tick

  leaving_number : (w : World) (r : Runner) (left : List Stmt) → w.number ≡ (leaving w r left).number
  leaving_number w (runner.Isr i) left = refl
  leaving_number w r left = refl

  effected_number : (r : Runner) (who : Owner) (effects : List Effect) (left : List Stmt) (w : World)
      → w.number ≡ (effected c s r who effects left w).move.world.number
  effected_number r who [] left w = leaving_number w r left
  effected_number r who (effect.Out value ∷ rest) left w = leaving_number w r left
  effected_number r who (effect.Service k ∷ rest) left w =
      let answer = service c s r k left w in
      let same = sym (ap (λ (v : World). v.number) (service_answers c s r k left w).world.is)
      ∙ leaving_number answer.world r answer.left in
      cond_both (is_shutdown k) _ _ (λ (m : Moved). w.number ≡ m.world.number) (λ _. same) (λ _. same)

  step_known : Leads Known Known Ends (step c s)
  unfolding step
  step_known w es p =
      let r = runner_of c w in
      let who = owner_of c w r in
      let state = state_after c s w (left_of w r) in
      let v = record w { vars = state.vars; cursors = state.cursors } in
      let tick = runner_tick c s r who w in
      followed_leads Known Known Ends es (preceded (run_line w who) tick.move)
      (tick_over who (is_somebody r && tick.ended))
      (silent w es (preceded (run_line w who) tick.move) p
      (all_more IsQuiet (run_line w who) tick.move.events (event_if_all IsQuiet _ (Run w.tick who) (λ _ _. refl))
      (effected_all IsQuiet hooks c s (λ _ _ _ _ _ _. refl) r who state.effects state.left v))
      (effected_number r who state.effects state.left v))
      (λ u ds q. more ds _ q (event_if_all IsQuiet (is_somebody r && tick.ended) (End (u.tick + 1) who) (λ _ _. refl)))

  -- ---- instants

  first_known : LeadsTo Known Ends [] (instant c s (first_world c s))
  unfolding instant opening chain head
  first_known =
      let w = first_world c s in
      followed_leads Known Known Ends [] (opening c s w) (step c s)
      (followed_leads Known Known Ends [] (head s w) (chain (due c s)) refl
      (due_leads c s KnownAt Ends opening_keeps)) step_known

  known_by : (es : List Event) (m : Moved) → LeadsTo Known Ends es m → last_round (es ++ m.events) ≡ m.world.number
  known_by es m h =
      ⊎_elim (λ over. led_over Known Ends es m over h) (λ on. led_on Known Ends es m on h) (cases_Bool (is_over m.end))

  -- an instant that the run reaches leaves the world in the last round that began, also where it ends the run
  pub last_round_is : (n : ℕ) → GoesOnBefore c s n
      → last_round (events_before c s (suc n)) ≡ (instant_at c s n).world.number
  unfolding events_before instant_at world_at
  last_round_is zero g = known_by [] (instant c s (first_world c s)) first_known
  last_round_is (suc n) g =
      let w = world_at c s (suc n) in
      let es = events_before c s (suc n) in
      let before = last_round_is n (λ k l. g k (omega arith)) in
      known_by es (instant c s w) (instant_leads c s KnownAt Ends opening_keeps Known step_known w es
      (λ z. omega (arith, tick_at c s (suc n) g), before))
