-- The owner of the last Run event of a run is the owner of the tick before.
use Rattle.std.proofs.Common.{ℕ, ◌≡◌, ◌-◌, List, [], ◌∷◌, ◌++◌, Bool, true, false, Option, None, Some, refl, ap, sym, ◌∙◌, subst, eqb, ⊎_elim, append_assoc}
use Rattle.std.specs.Prelude.{◌==◌, not}
use Rattle.std.specs.List.{list_any}
use Rattle.std.proofs.lemmas.Bool.{cond_both, cases_Bool, eqb-true}
use Rattle.tt_base.specs.declared.event.Event.{Event}
use Rattle.tt_base.specs.declared.event.Event.TheVariants.{Run}
use Rattle.tt_base.specs.declared.event.Owner.{Owner}
use Rattle.tt_base.specs.declared.event.Owner.TheVariants as owner
use Rattle.tt_base.specs.declared.number.TaskNo.{TaskNo}
use Rattle.task_lang.specs.declared.syntax.Stmt.{Stmt}
use Rattle.task_lang.specs.declared.tick.Effect.{Effect}
use Rattle.task_lang.specs.declared.tick.Effect.TheVariants as effect
use Rattle.tt_world.specs.declared.config.Enable.{Enable as EnableRow}
use Rattle.tt_world.specs.declared.config.ConfigParts.{ConfigParts}
use Rattle.tt_world.specs.declared.config.ModeDef.{ModeDef}
use Rattle.tt_world.specs.declared.script.ScriptParts.{ScriptParts}
use Rattle.tt_world.specs.declared.world.Point.{Point}
use Rattle.tt_world.specs.declared.world.Runner.{Runner}
use Rattle.tt_world.specs.World.{World, Source, IsrSource, OisrSource, Job}
use Rattle.tt_world.specs.Rows.{offset_of, mode_of, row_of, enables_at, entry_at}
use Rattle.tt_world.specs.Moved.{Moved, preceded, event_if}
use Rattle.tt_world.specs.Correction.{is_length}
use Rattle.tt_world.specs.Monitoring.{Checked, check_then, check_if, checked, monitored, after_checks, is_at, is_at_end}
use Rattle.tt_world.specs.Points.{point_of}
use Rattle.tt_world.specs.Rounds.{head, latch, next_round, round_end}
use Rattle.tt_world.specs.Gates.{enable, enables, arrived, arrival, arrivals, is_accepted, acceptance, acceptances, sources, arrivals_of, is_held}
use Rattle.tt_world.specs.Opening.{checks, activated, activation, opening}
use Rattle.tt_world.specs.Runners.{is_done, left_of, runner_of, owner_of, same_owner, ran_before}
use Rattle.tt_world.specs.Services.{is_shutdown}
use Rattle.tt_world.specs.Step.{effected, state_after, runner_tick, step, run_line}
use Rattle.tt_world.specs.Schedule.{instant}
use Rattle.tt_world.specs.Readings.{last_owner, owner_after}
use Rattle.tt_world.proofs.Parts.{OfRun, OpeningKeeps, Anything, LeadsTo, Leads, followed_leads, still_leads, chain_each, opening_leads, instant_leads}

-- ---- events without a Run

Silent : List Event → Type 0
Silent fs = (before : Option Owner) → last_owner before fs ≡ before

pub owner-append : (before : Option Owner) (es fs : List Event)
    → last_owner before (es ++ fs) ≡ last_owner (last_owner before es) fs
unfolding last_owner
owner-append before [] fs = refl
owner-append before (e ∷ es) fs = owner-append (owner_after before e) es fs

-- the owner of the last Run event is this
abbrev pub Ran : Option Owner → List Event → Type 0
Ran who es = last_owner None es ≡ who

silent_on : (who : Option Owner) (es fs : List Event) → Silent fs → Ran who es → Ran who (es ++ fs)
unfolding Silent
silent_on who es fs q r = owner-append None es fs ∙ q (last_owner None es) ∙ r

if_silent : (due : Bool) (check others : Checked) → Silent check.events → Silent others.events
    → Silent (check_if due check others).events
if_silent true check others a b = a
if_silent false check others a b = b

then_silent : (at : ℕ) (task : TaskNo) (met : Bool) (others : Checked) → Silent others.events
    → Silent (check_then at task met others).events
unfolding Silent last_owner
then_silent at task true others q = q
then_silent at task false others q = λ before. refl

none_silent : Silent []
unfolding Silent last_owner
none_silent = λ before. refl

checked_silent : (at : ℕ) (mode : ModeDef) (is_due : Point → Bool) (xs : List Job)
    → Silent (checked at mode is_due xs).events
unfolding checked
checked_silent at mode is_due [] = none_silent
checked_silent at mode is_due (x ∷ xs) =
    if_silent (is_due (point_of mode (row_of mode x.entry))) _ _
    (then_silent at _ (is_done x.left) _ (checked_silent at mode is_due xs)) (checked_silent at mode is_due xs)

-- owners that compare equal are equal
pub owner_same : (a b : Owner) → same_owner a b ≡ true → a ≡ b
owner_same (owner.Task a) (owner.Task b) e = ap (λ (n : ℕ). owner.Task (record { 0 = n })) (eqb-true a.0 b.0 e)
owner_same (owner.Isr a) (owner.Isr b) e = ap (λ (n : ℕ). owner.Isr (record { 0 = n })) (eqb-true a.0 b.0 e)
owner_same (owner.Osek a) (owner.Osek b) e = ap (λ (n : ℕ). owner.Osek (record { 0 = n })) (eqb-true a.0 b.0 e)
owner_same (owner.Oisr a) (owner.Oisr b) e = ap (λ (n : ℕ). owner.Oisr (record { 0 = n })) (eqb-true a.0 b.0 e)
owner_same owner.ErrorHook owner.ErrorHook e = refl
owner_same owner.ShutdownHook owner.ShutdownHook e = refl
owner_same owner.Idle owner.Idle e = refl
owner_same a b e = cc

ran_same : (last : Option Owner) (who : Owner) → ran_before last who ≡ true → last ≡ Some who
ran_same None who e = cc
ran_same (Some before) who e = ap Some (owner_same before who e)

last_here : (before : Option Owner) (at : ℕ) (who : Owner) → last_owner before (Run at who ∷ []) ≡ Some who
unfolding last_owner
last_here before at who = refl

ran_here : (es : List Event) (at : ℕ) (who : Owner) → Ran (Some who) (es ++ Run at who ∷ [])
ran_here es at who = owner-append None es (Run at who ∷ []) ∙ last_here (last_owner None es) at who

-- ---- each part

abbrev pub LastRan : OfRun
LastRan w es = Ran w.last es

module _ (c : ConfigParts) (s : ScriptParts) where
  checks_ran : (fs : List Event) (missed : Option TaskNo) (w : World) (es : List Event) → Silent fs → LastRan w es
      → LeadsTo LastRan Anything es (after_checks c fs missed w)
  checks_ran fs None w es q r = silent_on w.last es fs q r
  checks_ran fs (Some task) w es q r = tt

  monitored_ran : (is_due : Point → Bool) → Leads LastRan LastRan Anything (monitored c is_due)
  monitored_ran is_due w es r = checks_ran _ (checked w.tick (mode_of c w) is_due w.jobs).missed w es
      (checked_silent w.tick (mode_of c w) is_due w.jobs) r

  correct_silent : (b : Bool) (e : Event) → ((before : Option Owner) → owner_after before e ≡ before)
      → Silent (event_if b e)
  unfolding Silent last_owner
  correct_silent true e q = q
  correct_silent false e q = λ before. refl

  latch_ran : Leads LastRan LastRan Anything (latch c)
  unfolding latch
  latch_ran w es r =
      cond_both (eqb (offset_of w) (c.round - c.adjust)) _ _ (LeadsTo LastRan Anything es)
      (λ _. silent_on w.last es _ (correct_silent _ _ (λ before. refl)) r) (λ _. still_leads LastRan Anything es w r)

  one : (w : World) (es : List Event) (e : Event) → ((before : Option Owner) → owner_after before e ≡ before)
      → Ran w.last es → Ran w.last (es ++ e ∷ [])
  one w es e q r = silent_on w.last es (e ∷ []) (correct_silent true e q) r

  next_round_ran : Leads LastRan LastRan Anything (next_round s)
  unfolding next_round
  next_round_ran w es r = cond_both (eqb w.number s.rounds) _ _ (LeadsTo LastRan Anything es) (λ _. tt)
      (λ _. one w es _ (λ before. refl) r)

  round_end_ran : Leads LastRan LastRan Anything (round_end c s)
  unfolding round_end
  round_end_ran w es r =
      cond_both (is_length w.latched (offset_of w)) _ _ (LeadsTo LastRan Anything es)
      (λ _. followed_leads LastRan LastRan Anything es (monitored c (is_at_end (offset_of w)) w) (next_round s)
      (monitored_ran _ w es r) next_round_ran)
      (λ _. still_leads LastRan Anything es w r)

  head_ran : (w : World) (es : List Event) → w.tick ≡ 0 → LastRan w es → LeadsTo LastRan Anything es (head s w)
  unfolding head Silent last_owner
  head_ran w es z r = silent_on w.last es _ (λ before. refl) r

  enable_ran : (row : EnableRow) → Leads LastRan LastRan Anything (enable row)
  unfolding enable
  enable_ran row w es r = one w es _ (λ before. refl) r

  arrived_ran : (held : Bool) (source : Source) (w : World) (es : List Event) → LastRan w es
      → LeadsTo LastRan Anything es (arrived held source w)
  arrived_ran true source w es r = one w es _ (λ before. refl) r
  arrived_ran false (IsrSource i) w es r = one w es _ (λ before. refl) r
  arrived_ran false (OisrSource i) w es r = one w es _ (λ before. refl) r

  arrival_ran : (source : Source) → Leads LastRan LastRan Anything (arrival s source)
  unfolding arrival
  arrival_ran source w es r =
      cond_both (list_any (λ (tick : ℕ). tick == w.tick) (arrivals_of s source)) _ _ (LeadsTo LastRan Anything es)
      (λ _. arrived_ran (is_held w source) source w es r) (λ _. still_leads LastRan Anything es w r)

  acceptance_ran : (source : Source) → Leads LastRan LastRan Anything (acceptance c source)
  unfolding acceptance
  acceptance_ran (IsrSource i) w es r =
      cond_both (is_accepted w (IsrSource i)) _ _ (LeadsTo LastRan Anything es) (λ _. one w es _ (λ before. refl) r)
      (λ _. still_leads LastRan Anything es w r)
  acceptance_ran (OisrSource i) w es r =
      cond_both (is_accepted w (OisrSource i)) _ _ (LeadsTo LastRan Anything es) (λ _. one w es _ (λ before. refl) r)
      (λ _. still_leads LastRan Anything es w r)

  activated_ran : (entry : Option ℕ) (w : World) (es : List Event) → LastRan w es
      → LeadsTo LastRan Anything es (activated c entry w)
  activated_ran None w es r = still_leads LastRan Anything es w r
  activated_ran (Some entry) w es r = one w es _ (λ before. refl) r

  opening_keeps : OpeningKeeps c s (λ _. LastRan) Anything
  unfolding checks enables arrivals acceptances activation
  opening_keeps = record {
    head_is = head_ran;
    latch_is = latch_ran;
    round_end_is = round_end_ran;
    checks_are = λ w es r. monitored_ran (is_at (offset_of w)) w es r;
    enables_are = λ w es r. chain_each LastRan Anything enable
        (enables_at (offset_of w) (mode_of c w).enables) enable_ran w es r;
    arrivals_are = chain_each LastRan Anything (arrival s) (sources c) arrival_ran;
    acceptances_are = chain_each LastRan Anything (acceptance c) (sources c) acceptance_ran;
    activation_is = λ w es r. activated_ran (entry_at (offset_of w) (mode_of c w).activations) w es r;
  }

  silent_more : (who : Owner) (es fs gs : List Event) → Silent gs → Ran (Some who) (es ++ fs)
      → Ran (Some who) (es ++ (fs ++ gs))
  silent_more who es fs gs q r = subst (Ran (Some who)) (append_assoc es fs gs) (silent_on (Some who) (es ++ fs) gs q r)

  -- after the Run event of a tick, its owner is the last that ran
  pub run_now : (w : World) (who : Owner) (es : List Event) → LastRan w es → Ran (Some who) (es ++ run_line w who)
  run_now w who es r =
      ⊎_elim
      (λ (e : ran_before w.last who ≡ true).
      let same : run_line w who ≡ [] = ap (λ (b : Bool). event_if (not b) (Run w.tick who)) e in
      subst (λ fs. Ran (Some who) (es ++ fs)) (sym same)
      (silent_on (Some who) es [] none_silent (r ∙ ran_same w.last who e)))
      (λ (e : ran_before w.last who ≡ false).
      let now : run_line w who ≡ Run w.tick who ∷ [] = ap (λ (b : Bool). event_if (not b) (Run w.tick who)) e in
      subst (λ fs. Ran (Some who) (es ++ fs)) (sym now) (ran_here es w.tick who))
      (cases_Bool (ran_before w.last who))

  -- the events of a tick have no other Run event
  abbrev RanNow : Owner → OfRun
  RanNow who w es = Ran (Some who) es

  effect_ran : (r : Runner) (who : Owner) (effects : List Effect) (left : List Stmt) (w v : World) (es : List Event)
      → LastRan v es → LeadsTo (RanNow who) Anything es
      (preceded (run_line v who) (effected c s r who effects left w).move)
  effect_ran r who [] left w v es l = silent_more who es (run_line v who) [] none_silent (run_now v who es l)
  effect_ran r who (effect.Out value ∷ rest) left w v es l =
      silent_more who es (run_line v who) _ (correct_silent true _ (λ before. refl)) (run_now v who es l)
  effect_ran r who (effect.Service k ∷ rest) left w v es l =
      cond_both (is_shutdown k) _ _ (λ (m : Moved). LeadsTo (RanNow who) Anything es (preceded (run_line v who) m))
      (λ _. tt)
      (λ _. silent_more who es (run_line v who) _ (correct_silent true _ (λ before. refl)) (run_now v who es l))

  step_ran : Leads LastRan LastRan Anything (step c s)
  unfolding step
  step_ran w es l =
      let r = runner_of c w in
      let who = owner_of c w r in
      let state = state_after c s w (left_of w r) in
      followed_leads (RanNow who) LastRan Anything es (preceded (run_line w who) (runner_tick c s r who w).move) _
      (effect_ran r who state.effects state.left _ w es l)
      (λ v ds q. silent_on (Some who) ds _ (correct_silent _ _ (λ before. refl)) q)

  pub opening_ran : (w : World) (es : List Event) → LastRan w es → LeadsTo LastRan Anything es (opening c s w)
  opening_ran w es l = opening_leads c s (λ _. LastRan) Anything opening_keeps w es l

  -- the owner of the last Run event is the owner of the tick before, at each instant
  pub instant_ran : (w : World) (es : List Event) → LastRan w es → LeadsTo LastRan Anything es (instant c s w)
  instant_ran w es l = instant_leads c s (λ _. LastRan) Anything opening_keeps LastRan step_ran w es l
