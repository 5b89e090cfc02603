-- The rule for laws of rounds: what the present round has had so far, part after part and instant after instant.
use Rattle.std.proofs.Common.{ℕ, zero, suc, ◌≡◌, ◌≤◌, ◌+◌, List, [], ◌∷◌, ◌++◌, Bool, true, false, Option, None, Some, refl, ap, sym, ◌∙◌, subst, eqb, arith, append-nil}
use Rattle.std.specs.Prelude.{filter}
use Rattle.std.proofs.lemmas.Bool.{cond_both, eqb-false}
use Rattle.std.proofs.lemmas.List.Elements.{filter-append}
use Rattle.tt_base.specs.declared.number.ModeNo.{ModeNo}
use Rattle.tt_base.specs.declared.number.TaskNo.{TaskNo}
use Rattle.tt_base.specs.declared.event.Owner.TheVariants as owner
use Rattle.tt_base.specs.declared.event.Event.{Event}
use Rattle.tt_base.specs.declared.event.Event.TheVariants.{Round, Correct, Check, Enable, Arrive, Merge, Accept, Activate, Run, End, Out, Called, ErrorHook, ShutdownHook, Shutdown, Stop}
use Rattle.tt_world.specs.declared.config.ConfigParts.{ConfigParts}
use Rattle.tt_world.specs.declared.script.ScriptParts.{ScriptParts}
use Rattle.tt_world.specs.declared.world.Point.{Point}
use Rattle.tt_world.specs.World.{World}
use Rattle.tt_world.specs.Hooks.{vars_after, outs_of, misses}
use Rattle.tt_world.specs.Rows.{offset_of, mode_of, entry_at}
use Rattle.tt_world.specs.Correction.{is_length}
use Rattle.tt_world.specs.Monitoring.{checked, monitored, after_checks, is_at, is_at_end}
use Rattle.tt_world.specs.Moved.{Moved, chain}
use Rattle.tt_world.specs.Rounds.{head, latch, next_round, round_end}
use Rattle.tt_world.specs.Gates.{enables, arrivals, acceptances}
use Rattle.tt_world.specs.Opening.{checks, activated, activation, due, opening}
use Rattle.tt_world.specs.Step.{step}
use Rattle.tt_world.specs.Schedule.{IsLast, instant, instant_at, world_at, events_before}
use Rattle.tt_world.specs.Status.{Status, Done, Missed, Shut, status_of}
use Rattle.tt_world.specs.Readings.{RoundStart}
use Rattle.tt_world.proofs.Parts.{OfRun, OfEnd, Phase, Before, Latched, Begun, Checked, Accepted, Activated, OpeningKeeps, Alone, Anything, LeadsTo, Leads, leads_by, led_on, led_over, still_leads, followed_leads, due_leads, instant_leads, GoesOnBefore}
use Rattle.tt_world.proofs.Emits.{Of, all_more, OfHooks, checked_all, after_all, latch_all, enables_all, arrivals_all, acceptances_all, step_all}
use Rattle.tt_world.proofs.Forward.{round_in, EndsAt, ends_after, shut_at, Forward, step_forward}
use Rattle.tt_world.proofs.Parts.{Never}
use Rattle.tt_world.proofs.SameRounds.{SameRound, latch_same, enables_same, arrivals_same, acceptances_same, OneLater, step_later}
use Rattle.tt_world.proofs.Stamps.{each_of}
use Rattle.tt_world.proofs.Calm.{IsCalm, calm_status, ChecksTell, checked_tell, step_tells}
use Rattle.tt_world.proofs.RoundFolds.{Present, with_more, NoRound, present_after, present_more, same_round, none_such, OverBy, RoundsOver, rounds_more, none_over}
use Rattle.tt_world.specs.declared.world.RunEnd.TheVariants as ending

-- no event so far says that the run ends; where it ends, the events say that there was a shutdown
abbrev CalmSoFar : OfRun
CalmSoFar w es = Of IsCalm es

abbrev TellsShut : OfEnd
TellsShut end w es = (tick : ℕ) × (status_of es ≡ Shut tick)

-- whether an event is a check or an activation: what the rows that activate have
abbrev pub is_of_row : Event → Bool
is_of_row (Check at task met) = true
is_of_row (Activate at task) = true
is_of_row event = false

-- what holds of a round, and of its events of a kind so far
abbrev pub OfPresent : Type 1
OfPresent = RoundStart → List Event → Type 0

module _ (c : ConfigParts) (s : ScriptParts) (test : Event → Bool) (Has : RoundStart → ℕ → List Event → Type 0) where
  -- at tick T: each round that is over had its events; D holds of the present round and of its events so far; and no
  -- event says that the run ends
  pub record Going (T : ℕ) (D : OfPresent) (w : World) (es : List Event) : Type 0 where
    pub tick : w.tick ≡ T
    pub started : w.start ≤ T
    pub kept : List Event
    pub now : present_after test None es ≡ Some (record { round = round_in w; kept = kept })
    pub over : RoundsOver test Has None es
    pub due : D (round_in w) kept
    pub calm : Of IsCalm es

  -- where the run ends at tick T: L holds of its status, of the last round and of its events
  pub record Ended (T : ℕ) (L : Status → OfPresent) (es : List Event) : Type 0 where
    pub round : RoundStart
    pub kept : List Event
    pub now : present_after test None es ≡ Some (record { round = round; kept = kept })
    pub over : RoundsOver test Has None es
    pub due : L (status_of es) round kept
    pub last : EndsAt T es

  -- ---- events that begin no round

  more_now : (p : Present) (es fs : List Event) → present_after test None es ≡ Some p → Of NoRound fs
      → present_after test None (es ++ fs) ≡ with_more (Some p) (filter test fs)
  more_now p es fs e q =
      present_more test None es fs ∙ ap (λ (o : Option Present). present_after test o fs) e
      ∙ same_round test (Some p) fs q

  more_over : (es fs : List Event) → RoundsOver test Has None es → Of NoRound fs → RoundsOver test Has None (es ++ fs)
  more_over es fs p q =
      rounds_more test Has None es fs p (none_over test Has (present_after test None es) fs q)

  -- the run goes on
  goes : (T later : ℕ) (D Next : OfPresent) (w v : World) (es fs : List Event) → v.tick ≡ later → w.start ≤ later
      → v.start ≡ w.start → v.mode ≡ w.mode → Of NoRound fs → Of IsCalm fs → (p : Going T D w es)
      → Next (round_in w) (p.kept ++ filter test fs) → Going later Next v (es ++ fs)
  goes T later D Next w v es fs t l a b q k p d =
      let same : round_in w ≡ round_in v =
      sym (ap (λ x. record { start = x; mode = v.mode }) a ∙ ap (λ m. record { start = w.start; mode = m }) b) in
      let all = p.kept ++ filter test fs in
      record {
        tick = t;
        started = omega arith;
        kept = all;
        now = more_now (record { round = round_in w; kept = p.kept }) es fs p.now q
            ∙ ap (λ (r : RoundStart). Some (record { round = r; kept = all })) same;
        over = more_over es fs p.over q;
        due = subst (λ (r : RoundStart). Next r all) same d;
        calm = all_more IsCalm es fs p.calm k;
      }

  -- the run ends
  stops : (T : ℕ) (D : OfPresent) (L : Status → OfPresent) (w : World) (es fs : List Event) → Of NoRound fs
      → EndsAt T fs → (p : Going T D w es) → L (status_of fs) (round_in w) (p.kept ++ filter test fs)
      → Ended T L (es ++ fs)
  stops T D L w es fs q l p d =
      record {
        round = round_in w;
        kept = p.kept ++ filter test fs;
        now = more_now (record { round = round_in w; kept = p.kept }) es fs p.now q;
        over = more_over es fs p.over q;
        due = subst (λ (x : Status). L x (round_in w) (p.kept ++ filter test fs)) (sym (calm_status es fs p.calm)) d;
        last = ends_after T es fs l;
      }

  -- ---- events that begin no round and are not of the kind

  abbrev Silent : Event → Type 0
  Silent e = NoRound e × (test e ≡ false)

  silent_rounds : (es : List Event) → Of Silent es → Of NoRound es
  silent_rounds es q = each_of Silent NoRound (λ e p. p.0) es q

  silent_none : (es : List Event) → Of Silent es → filter test es ≡ []
  silent_none es q = none_such test es (each_of Silent (λ e. test e ≡ false) (λ e p. p.1) es q)

  none_more : (D : OfPresent) (round : RoundStart) (kept es : List Event) → Of Silent es → D round kept
      → D round (kept ++ filter test es)
  none_more D round kept es q d =
      subst (D round) (sym (ap (λ (xs : List Event). kept ++ xs) (silent_none es q) ∙ append-nil kept)) d

  silent_goes : (T T2 : ℕ) (D : OfPresent) (w v : World) (es fs : List Event) → v.tick ≡ T2 → w.start ≤ T2
      → v.start ≡ w.start → v.mode ≡ w.mode → Of Silent fs → Of IsCalm fs → Going T D w es → Going T2 D v (es ++ fs)
  silent_goes T T2 D w v es fs t l a b q k p =
      goes T T2 D D w v es fs t l a b (silent_rounds fs q) k p (none_more D (round_in w) p.kept fs q p.due)

  -- events of the kind are checks or activations
  abbrev pub IsOfRows : Type 0
  IsOfRows = (e : Event) → is_of_row e ≡ false → test e ≡ false

  module _ (of_rows : IsOfRows) where
    hooks : OfHooks Silent
    hooks = record {
      error = λ at task. (refl, of_rows (ErrorHook at task) refl);
      out = λ at who value. (refl, of_rows (Out at who value) refl);
      hook = λ at. (refl, of_rows (ShutdownHook at) refl);
      shutdown = λ at. (refl, of_rows (Shutdown at) refl);
    }

    -- ---- the parts of the instant at tick T

    -- D holds of the present round before the checks, E after those at its end, C after those at the offset, and A
    -- after the activation; L holds where the run ends, and X of the world
    module _ (T : ℕ) (D E C A : OfPresent) (L : Status → OfPresent) (X : Phase → World → Type 0) where
      -- what holds after each part of the instant
      abbrev pub P : Phase → OfRun
      P Before w es = (1 ≤ T) × Going T D w es × X Before w
      P Latched w es = (1 ≤ T) × Going T D w es × X Latched w
      P Begun w es = Going T D w es × X Begun w
      P Activated w es = Going T A w es
      P phase w es = Going T C w es

      -- and where the run ends
      abbrev pub Q : OfEnd
      Q end w es = Ended T L es

      -- with the events of the kind among these
      abbrev pub With : OfPresent → World → List Event → List Event → Type 0
      With F w fs kept = F (round_in w) (kept ++ filter test fs)

      -- where a check is missed, the run ends
      abbrev pub MayMiss : OfPresent → World → Type 0
      MayMiss F w =
          (kept : List Event) (task : TaskNo) (tick : ℕ) → F (round_in w) kept → L (Missed task tick) (round_in w) kept

      -- the round of this world can end at this tick
      pub record CanEnd (w : World) : Type 0 where
        pub tick : w.tick ≡ T
        pub started : w.start ≤ T
        pub world : X Latched w
        pub length : is_length w.latched (offset_of w) ≡ true

      -- what has to be shown of the parts that begin a round or write events of the kind
      pub record RoundParts : Type 0 where
        -- the latch
        pub latch_is : (w : World) → X Before w → X Latched (latch c w).world
        -- the end of a round: its checks; the round is over, or the run stops; and the next round
        pub end_checks : (w : World) → CanEnd w → (kept : List Event) → D (round_in w) kept
            → With E w (checked w.tick (mode_of c w) (is_at_end (offset_of w)) w.jobs).events kept
        pub end_missed : (w : World) → CanEnd w → MayMiss E w
        pub over : (round : RoundStart) (kept : List Event) → E round kept → Has round T kept
        pub stop : (round : RoundStart) (kept : List Event) → E round kept → L Done round kept
        pub begin : (mode : ModeNo) → D (record { start = T; mode = mode }) []
        pub fresh : (w : World) → w.tick ≡ T → w.start ≡ w.tick → w.jobs ≡ [] → X Begun w
        -- where no round ends
        pub still : (w : World) → w.tick ≡ T → is_length w.latched (offset_of w) ≡ false → X Latched w → X Begun w
        -- the checks at the offset, the activation, and a ttShutdownOS
        pub checks : (w : World) → w.tick ≡ T → w.start ≤ T → X Begun w → (kept : List Event) → D (round_in w) kept
            → With C w (checked w.tick (mode_of c w) (is_at (offset_of w)) w.jobs).events kept
        pub missed : (w : World) → w.start ≤ T → X Begun w → MayMiss C w
        pub activation : (w : World) → w.tick ≡ T → w.start ≤ T → (kept : List Event) → C (round_in w) kept
            → With A w (activated c (entry_at (offset_of w) (mode_of c w).activations) w).events kept
        pub shut : (round : RoundStart) (kept : List Event) (tick : ℕ) → round.start ≤ T → A round kept
            → L (Shut tick) round kept

      -- ---- each part

      same_as : (w : World) → SameRound w w
      same_as w = record { tick = refl; start = refl; mode = refl }

      silent_part : (F : OfPresent) (w : World) (es : List Event) (m : Moved) → Going T F w es → Of Silent m.events
          → Of IsCalm m.events → LeadsTo (λ v fs. SameRound w v) Never es m → LeadsTo (Going T F) Q es m
      silent_part F w es m p q k h =
          leads_by (Going T F) Q es m
          (λ on.
          let same = led_on (λ v fs. SameRound w v) Never es m on h in
          silent_goes T T F w m.world es m.events (same.tick ∙ p.tick) p.started same.start same.mode q k p)
          (λ over. absurd (led_over (λ v fs. SameRound w v) Never es m over h))

      -- checks, and what follows from a missed one
      after_leads : (F G : OfPresent) (fs : List Event) (missed : Option TaskNo) (w : World) (es : List Event)
          → (p : Going T F w es) → ChecksTell w.tick fs missed → Of NoRound fs → With G w fs p.kept → MayMiss G w
          → LeadsTo (Going T G) Q es (after_checks c fs missed w)
      after_leads F G fs None w es p tell q d miss = goes T T F G w w es fs p.tick p.started refl refl q tell p d
      after_leads F G fs (Some task) w es p tell q d miss =
          let ms = (misses c task w).events in
          let outs = outs_of w.tick owner.ErrorHook w.vars c.error_hook in
          let silent : Of Silent ms = after_all Silent hooks c [] (Some task) w tt in
          let v = record w { vars = vars_after w.vars c.error_hook } in
          let last = shut_at c s (Some (ending.Missed task)) v (ErrorHook w.tick task ∷ outs) in
          let kept_is : filter test (fs ++ ms) ≡ filter test fs =
          filter-append test fs ms ∙ ap (λ (xs : List Event). filter test fs ++ xs) (silent_none ms silent)
          ∙ append-nil (filter test fs) in
          stops T F L w es (fs ++ ms) (all_more NoRound fs ms q (silent_rounds ms silent))
          (subst (λ (t : ℕ). EndsAt t (fs ++ ms)) p.tick (ends_after w.tick fs ms last)) p
          (subst (λ (status : Status). L status (round_in w) (p.kept ++ filter test (fs ++ ms))) (sym (tell ms))
          (subst (λ (xs : List Event). L (Missed task w.tick) (round_in w) (p.kept ++ xs)) (sym kept_is)
          (miss (p.kept ++ filter test fs) task w.tick d)))

      monitored_leads : (F G : OfPresent) (is_due : Point → Bool) (w : World) (es : List Event) → (p : Going T F w es)
          → With G w (checked w.tick (mode_of c w) is_due w.jobs).events p.kept → MayMiss G w
          → LeadsTo (Going T G) Q es (monitored c is_due w)
      monitored_leads F G is_due w es p d miss =
          let all = checked w.tick (mode_of c w) is_due w.jobs in
          after_leads F G all.events all.missed w es p (checked_tell w.tick (mode_of c w) is_due w.jobs)
          (checked_all NoRound w.tick (mode_of c w) is_due w.jobs (λ _ _ _. refl)) d miss

      module _ (k : RoundParts) where
        latch_leads : Leads (P Before) (P Latched) Q (latch c)
        latch_leads w es p =
            let m = latch c w in
            let h = silent_part D w es m p.1 (latch_all Silent c (λ at by. (refl, of_rows (Correct at by) refl)) w)
            (latch_all IsCalm c (λ _ _ _. refl) w) (latch_same c s w w es (same_as w)) in
            leads_by (P Latched) Q es m (λ on. (p.0, led_on (Going T D) Q es m on h, k.latch_is w p.2))
            (λ over. led_over (Going T D) Q es m over h)

        next_leads : Leads (Going T E) (P Begun) Q (next_round s)
        unfolding next_round
        next_leads w es p =
            cond_both (eqb w.number s.rounds) _ _ (LeadsTo (P Begun) Q es)
            (λ _.
            let fs = Stop w.tick ∷ [] in
            stops T E L w es fs (refl, tt) ([], Stop w.tick, refl, p.tick) p
            (none_more (L Done) (round_in w) p.kept fs ((refl, of_rows (Stop w.tick) refl), tt)
            (k.stop (round_in w) p.kept p.due)))
            (λ _.
            let begin = Round w.tick (w.number + 1) w.wanted ∷ [] in
            let v =
            record w { start = w.tick; number = w.number + 1; mode = w.wanted; latched = None; jobs = [] } in
            let over : OverBy test Has (present_after test None es) (Some (round_in v)) =
            subst (λ (o : Option Present). OverBy test Has o (Some (round_in v))) (sym p.now)
            (subst (λ (t : ℕ). Has (round_in w) t p.kept) (sym p.tick) (k.over (round_in w) p.kept p.due)) in
            let tick = p.tick in (
              record {
                tick = p.tick;
                started = omega arith;
                kept = [];
                now = present_more test None es begin;
                over = rounds_more test Has None es begin p.over (over, tt);
                due = subst (λ (t : ℕ). D (record { start = t; mode = w.wanted }) []) (sym p.tick) (k.begin w.wanted);
                calm = all_more IsCalm es begin p.calm (λ _. refl, tt);
              },
              k.fresh v p.tick refl refl,
            ))

        round_end_leads : Leads (P Latched) (P Begun) Q (round_end c s)
        unfolding round_end
        round_end_leads w es p =
            let going = p.1 in
            cond_both (is_length w.latched (offset_of w)) _ _ (LeadsTo (P Begun) Q es)
            (λ e.
            let can : CanEnd w = record { tick = going.tick; started = going.started; world = p.2; length = e } in
            followed_leads (Going T E) (P Begun) Q es (monitored c (is_at_end (offset_of w)) w) (next_round s)
            (monitored_leads D E (is_at_end (offset_of w)) w es going (k.end_checks w can going.kept going.due)
            (k.end_missed w can))
            next_leads)
            (λ e. still_leads (P Begun) Q es w (going, k.still w going.tick e p.2))

        checks_lead : Leads (P Begun) (P Checked) Q (checks c)
        unfolding checks
        checks_lead w es p =
            let going = p.0 in
            monitored_leads D C (is_at (offset_of w)) w es going
            (k.checks w going.tick going.started p.1 going.kept going.due) (k.missed w going.started p.1)

        enables_lead : Leads (Going T C) (Going T C) Q (enables c)
        enables_lead w es p =
            silent_part C w es (enables c w) p (enables_all Silent c (λ at isr. (refl, of_rows (Enable at isr) refl)) w)
            (enables_all IsCalm c (λ _ _ _. refl) w) (enables_same c s w w es (same_as w))

        arrivals_lead : Leads (Going T C) (Going T C) Q (arrivals c s)
        arrivals_lead w es p =
            silent_part C w es (arrivals c s w) p
            (arrivals_all Silent c s (λ at who. (refl, of_rows (Arrive at who) refl))
            (λ at who. (refl, of_rows (Merge at who) refl)) w)
            (arrivals_all IsCalm c s (λ _ _ _. refl) (λ _ _ _. refl) w) (arrivals_same c s w w es (same_as w))

        acceptances_lead : Leads (Going T C) (Going T C) Q (acceptances c)
        acceptances_lead w es p =
            silent_part C w es (acceptances c w) p
            (acceptances_all Silent c (λ at who. (refl, of_rows (Accept at who) refl)) w)
            (acceptances_all IsCalm c (λ _ _ _. refl) w) (acceptances_same c s w w es (same_as w))

        activated_leads : (found : Option ℕ) (w : World) (es : List Event) → (p : Going T C w es)
            → With A w (activated c found w).events p.kept → LeadsTo (Going T A) Q es (activated c found w)
        activated_leads None w es p d = goes T T C A w w es [] p.tick p.started refl refl tt tt p d
        activated_leads (Some entry) w es p d =
            let m = activated c (Some entry) w in
            goes T T C A w m.world es m.events p.tick p.started refl refl (refl, tt) (λ _. refl, tt) p d

        activation_leads : Leads (P Accepted) (P Activated) Q (activation c)
        unfolding activation
        activation_leads w es p =
            activated_leads (entry_at (offset_of w) (mode_of c w).activations) w es p
            (k.activation w p.tick p.started p.kept p.due)

        opening_keeps : OpeningKeeps c s P Q
        opening_keeps = record {
          head_is = λ w es z p. absurd (let t = p.1.tick in let l = p.0 in omega arith);
          latch_is = latch_leads;
          round_end_is = round_end_leads;
          checks_are = checks_lead;
          enables_are = enables_lead;
          arrivals_are = arrivals_lead;
          acceptances_are = acceptances_lead;
          activation_is = activation_leads;
        }

        step_leads : Leads (Going T A) (Going (T + 1) A) Q (step c s)
        step_leads w es p =
            let m = step c s w in
            let silent = step_all Silent hooks c s (λ at who. (refl, of_rows (Run at who) refl))
            (λ at who. (refl, of_rows (End at who) refl))
            (λ at who call result. (refl, of_rows (Called at who call result) refl)) w in
            leads_by (Going (T + 1) A) Q es m
            (λ on.
            let later = led_on (Alone (OneLater c s w)) Anything es m on (step_later c s w es) in
            let started = p.started in
            silent_goes T (T + 1) A w m.world es m.events (later.tick ∙ ap (λ (t : ℕ). t + 1) p.tick) (omega arith)
            later.start later.mode silent
            (led_on CalmSoFar TellsShut [] m on (step_tells c s w)) p)
            (λ over.
            let shut = led_over CalmSoFar TellsShut [] m over (step_tells c s w) in
            stops T A L w es m.events (silent_rounds m.events silent)
            (subst (λ (t : ℕ). EndsAt t m.events) p.tick
            (led_over (λ v fs. Forward c w v fs) (λ end v fs. EndsAt w.tick fs) [] m over (step_forward c s w))) p
            (subst (λ (status : Status). L status (round_in w) (p.kept ++ filter test m.events)) (sym shut.1)
            (none_more (L (Shut shut.0)) (round_in w) p.kept m.events silent
            (k.shut (round_in w) p.kept shut.0 p.started p.due))))

        -- an instant after the first
        pub later_leads : (w : World) (es : List Event) → 1 ≤ T → Going T D w es → X Before w
            → LeadsTo (Going (T + 1) A) Q es (instant c s w)
        later_leads w es l p y = instant_leads c s P Q opening_keeps (Going (T + 1) A) step_leads w es (l, p, y)

        head_leads : (w : World) → w.tick ≡ T → w.start ≡ w.tick → w.mode ≡ s.start
            → D (record { start = w.tick; mode = s.start }) [] → X Begun w → LeadsTo (P Begun) Q [] (head s w)
        unfolding head
        head_leads w t a b d y =
            let same : record { start = w.tick; mode = s.start } ≡ round_in w =
            ap (λ x. record { start = x; mode = s.start }) (sym a)
            ∙ ap (λ n. record { start = w.start; mode = n }) (sym b) in (
              record {
                tick = t;
                started = omega arith;
                kept = [];
                now = ap (λ (r : RoundStart). Some (record { round = r; kept = [] })) same;
                over = (tt, (tt, tt));
                due = subst (λ (r : RoundStart). D r []) same d;
                calm = (λ _. refl, (λ _. refl, tt));
              },
              y,
            )

        opening_first : (w : World) → w.tick ≡ 0 → LeadsTo (P Begun) Q [] (head s w)
            → LeadsTo (P Activated) Q [] (opening c s w)
        unfolding opening chain
        opening_first w z h =
            cond_both (eqb w.tick 0) _ _ (LeadsTo (P Activated) Q [])
            (λ _.
            followed_leads (P Begun) (P Activated) Q [] (head s w) (chain (due c s)) h
            (due_leads c s P Q opening_keeps))
            (λ e. absurd (eqb-false w.tick 0 e z))

        -- the first instant
        pub first_leads : (w : World) → w.tick ≡ T → T ≡ 0 → w.start ≡ w.tick → w.mode ≡ s.start
            → D (record { start = w.tick; mode = s.start }) [] → X Begun w
            → LeadsTo (Going (T + 1) A) Q [] (instant c s w)
        unfolding instant
        first_leads w t z a b d y =
            followed_leads (P Activated) (Going (T + 1) A) Q [] (opening c s w) (step c s)
            (opening_first w (t ∙ z) (head_leads w t a b d y)) step_leads

    -- ---- a run

    module _ (D E C : ℕ → OfPresent) (L : ℕ → Status → OfPresent) (X : ℕ → Phase → World → Type 0)
        (parts : (T : ℕ) → RoundParts T (D T) (E T) (C T) (D (T + 1)) (L T) (X T))
        (ready : (n : ℕ) → 1 ≤ n → GoesOnBefore c s n → X n Before (world_at c s n))
        (ready_first : X 0 Begun (world_at c s 0))
        (first_due : D 0 (record { start = 0; mode = s.start }) []) where
      abbrev Next : ℕ → OfRun
      Next n = Going (n + 1) (D (n + 1))

      abbrev Over : ℕ → OfEnd
      Over n end w es = Ended n (L n) es

      instant_led : (n : ℕ) → GoesOnBefore c s n
          → LeadsTo (Next n) (Over n) (events_before c s n) (instant c s (world_at c s n))
      unfolding world_at events_before instant_at
      instant_led zero g =
          first_leads 0 (D 0) (E 0) (C 0) (D 1) (L 0) (X 0) (parts 0) (world_at c s 0) refl refl refl refl first_due
          ready_first
      instant_led (suc n) g =
          let z : n + 1 ≡ suc n = omega arith in
          let before : GoesOnBefore c s n = λ k l. g k (omega arith) in
          let es = events_before c s n in
          let going =
          led_on (Next n) (Over n) es (instant c s (world_at c s n)) (g n (omega arith)) (instant_led n before) in
          later_leads (suc n) (D (suc n)) (E (suc n)) (C (suc n)) (D (suc n + 1)) (L (suc n)) (X (suc n))
          (parts (suc n))
          (world_at c s (suc n)) (events_before c s (suc n)) (omega arith)
          (subst (λ (j : ℕ). Going j (D j) (world_at c s (suc n)) (events_before c s (suc n))) z going)
          (ready (suc n) (omega arith) g)

      pub ended_at : (n : ℕ) → IsLast c s n → Ended n (L n) (events_before c s (suc n))
      unfolding events_before instant_at
      ended_at n last =
          led_over (Next n) (Over n) (events_before c s n) (instant c s (world_at c s n)) last.ends
          (instant_led n last.first)
