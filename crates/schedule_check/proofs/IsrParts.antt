-- The account of one time-triggered routine at each part of an instant.
use Rattle.std.proofs.Common.{ℕ, ◌≡◌, ◌≢◌, ◌<◌, ◌≤◌, ◌+◌, ◌-◌, List, [], ◌∷◌, ◌++◌, Bool, true, false, Option, None, Some, refl, ap, sym, ◌∙◌, subst, eqb, cond, arith, length, ◌⊎◌, ⊎_elim, inl, inr, get_or, set, get_or-set_same, get_or-set_other}
use Rattle.std.specs.Prelude.{◌==◌, map, if◌then◌else◌, slice_index_or}
use Rattle.std.specs.List.{list_any}
use Rattle.std.proofs.lemmas.List.Sums.{sum_by-cons}
use Rattle.std.proofs.lemmas.Bool.{cond_both, cases_Bool, cases_eq, eqb-true, eq-eqb, false≢true, and_parts}
use Rattle.tt_base.specs.declared.event.Event.{Event}
use Rattle.tt_base.specs.declared.event.Event.TheVariants.{Enable}
use Rattle.tt_base.specs.declared.number.IsrNo.{IsrNo}
use Rattle.tt_base.specs.declared.number.OisrNo.{OisrNo}
use Rattle.tt_base.specs.declared.number.TaskNo.{TaskNo}
use Rattle.task_lang.specs.declared.syntax.Stmt.{Stmt}
use Rattle.task_lang.specs.Limits.{AreNumbersInRange}
use Rattle.task_lang.specs.Worst.{worst_in}
use Rattle.tt_world.specs.declared.config.Enable.{Enable as EnableRow}
use Rattle.tt_world.specs.declared.config.ConfigParts.{ConfigParts}
use Rattle.tt_world.specs.declared.script.ScriptParts.{ScriptParts}
use Rattle.tt_world.specs.declared.world.Point.{Point}
use Rattle.tt_world.specs.declared.world.Runner.{Runner}
use Rattle.tt_world.specs.declared.world.Runner.TheVariants as runner
use Rattle.tt_world.specs.World.{World, Source, IsrSource, OisrSource}
use Rattle.tt_world.specs.ConfigRules.{IsConfig}
use Rattle.tt_world.specs.Rows.{offset_of, mode_of, enables_at, entry_at}
use Rattle.tt_world.specs.Runners.{is_done, leaving, runner_of}
use Rattle.tt_world.specs.Correction.{is_length}
use Rattle.tt_world.specs.Monitoring.{checked, monitored, after_checks, is_at, is_at_end}
use Rattle.tt_world.specs.Moved.{chain}
use Rattle.tt_world.specs.Rounds.{head, latch, next_round, round_end}
use Rattle.tt_world.specs.Gates.{enable, enables, arrived, arrival, arrivals, is_accepted, acceptance, acceptances, sources, arrivals_of}
use Rattle.tt_world.specs.Opening.{checks, activated, activation, opening}
use Rattle.tt_world.specs.Step.{step}
use Rattle.tt_world.specs.Schedule.{instant}
use Rattle.schedule_check.specs.Demand.{isr_of}
use Rattle.schedule_check.specs.Kept.{KeepsBounds}
use Rattle.schedule_check.specs.DeadlineLaws.{is_isr, is_enable}
use Rattle.tt_world.proofs.Parts.{OfRun, Phase, Before, Latched, Begun, Checked, Enabled, OpeningKeeps, Alone, Anything, LeadsTo, Leads, leads_by, led_on, still_leads, followed_leads, followed_at, chain_each, opening_leads}
use Rattle.tt_world.proofs.Keeps.{Holds, IsLeftAfter, StepKeeps, step_holds}
use Rattle.tt_world.proofs.WhoRuns.{isr_runs, highest_undone}
use Rattle.schedule_check.proofs.IsrAccounts.{Account, enables_of, count_more, account_more, account_enabled, account_enabled_other, account_arrived, account_held_other, account_accepted, account_left_other, account_tick, account_other, left_less, cond_within}

-- checks that let the run go on leave the world, and add events
checked_leads : (P : OfRun) (c : ConfigParts) (fs : List Event) (missed : Option TaskNo) (w : World) (es : List Event)
    → P w (es ++ fs) → LeadsTo P Anything es (after_checks c fs missed w)
checked_leads P c fs None w es p = p
checked_leads P c fs (Some task) w es p = tt

pub monitored_leads : (P : OfRun) (c : ConfigParts) (is_due : Point → Bool) (w : World) (es : List Event)
    → ((fs : List Event) → P w (es ++ fs)) → LeadsTo P Anything es (monitored c is_due w)
monitored_leads P c is_due w es p = checked_leads P c _ (checked w.tick (mode_of c w) is_due w.jobs).missed w es (p _)

module _ (c : ConfigParts) (s : ScriptParts) (rules : IsConfig c) (bounds : KeepsBounds c s) (isr : ℕ)
    (within : isr < length c.isrs) where
  -- after t ticks and a arrivals, at this tick
  abbrev pub Acc : (t a now : ℕ) → OfRun
  Acc t a now w es = (w.tick ≡ now) × Account c isr t (enables_of isr es) a w.isrs_enabled w.isrs_held w.isrs

  enables_grow : (es fs : List Event) → enables_of isr es ≤ enables_of isr (es ++ fs)
  enables_grow es fs = let n = count_more (is_enable isr) es fs in omega arith

  events : (t a now : ℕ) (w : World) (es fs : List Event) → Acc t a now w es → Acc t a now w (es ++ fs)
  events t a now w es fs p =
      (p.0, account_more c isr t _ a _ a w.isrs_enabled w.isrs_held w.isrs (enables_grow es fs) (omega arith) p.1)

  module _ (t a now : ℕ) where
    A : OfRun
    A = Acc t a now

    head_acc : (w : World) (es : List Event) → w.tick ≡ 0 → A w es → LeadsTo A Anything es (head s w)
    unfolding head A
    head_acc w es z p = events t a now w es _ p

    latch_acc : Leads A A Anything (latch c)
    unfolding latch A
    latch_acc w es p =
        cond_both (eqb (offset_of w) (c.round - c.adjust)) _ _ (LeadsTo A Anything es) (λ _. events t a now w es _ p)
        (λ _. still_leads A Anything es w p)

    next_round_acc : Leads A A Anything (next_round s)
    unfolding next_round A
    next_round_acc w es p = cond_both (eqb w.number s.rounds) _ _ (LeadsTo A Anything es) (λ _. tt)
        (λ _. events t a now w es _ p)

    round_end_acc : Leads A A Anything (round_end c s)
    unfolding round_end A
    round_end_acc w es p =
        cond_both (is_length w.latched (offset_of w)) _ _ (LeadsTo A Anything es)
        (λ _. followed_leads A A Anything es (monitored c (is_at_end (offset_of w)) w) (next_round s)
        (monitored_leads A c _ w es (λ fs. events t a now w es fs p)) next_round_acc)
        (λ _. still_leads A Anything es w p)

    checks_acc : Leads A A Anything (checks c)
    unfolding checks A
    checks_acc w es p = monitored_leads A c (is_at (offset_of w)) w es (λ fs. events t a now w es fs p)

    one_enable : (row : EnableRow) (w : World) (es : List Event) → row.isr.0 ≡ isr
        → enables_of isr (es ++ Enable w.tick row.isr ∷ []) ≡ enables_of isr es + 1
    one_enable row w es e =
        let n = count_more (is_enable isr) es (Enable w.tick row.isr ∷ []) in
        let one = sum_by-cons (λ x. cond (is_enable isr x) 1 0) (Enable w.tick row.isr) [] in
        let b : cond {A = ℕ} (is_enable isr (Enable w.tick row.isr)) 1 0 ≡ 1 =
        ap (λ (x : Bool). cond {A = ℕ} x 1 0) (eq-eqb row.isr.0 isr e) in
        omega arith

    enable_acc : (row : EnableRow) → Leads A A Anything (enable row)
    unfolding enable A
    enable_acc row w es p =
        ⊎_elim
        (λ (e : isr ≡ row.isr.0). (
          p.0,
          subst (λ n. Account c isr t n a (set w.isrs_enabled row.isr.0 true) w.isrs_held w.isrs)
              (sym (one_enable row w es (sym e)))
              (subst (λ j. Account c isr t (enables_of isr es + 1) a (set w.isrs_enabled j true) w.isrs_held w.isrs) e
              (account_enabled c isr t _ a w.isrs_enabled w.isrs_held w.isrs p.1)),
        ))
        (λ (ne : isr ≢ row.isr.0).
        events t a now (record w { isrs_enabled = set w.isrs_enabled row.isr.0 true }) es _
        (p.0, account_enabled_other c isr t _ a row.isr.0 true w.isrs_enabled w.isrs_held w.isrs ne p.1))
        (cases_eq isr row.isr.0)

    enables_acc : Leads A A Anything (enables c)
    unfolding enables
    enables_acc w es p = chain_each A Anything enable (enables_at (offset_of w) (mode_of c w).enables) enable_acc w es p

    acceptance_acc : (source : Source) (w : World) (es : List Event) → A w es
        → LeadsTo A Anything es (acceptance c source w)
    unfolding acceptance A
    acceptance_acc (OisrSource oisr) w es p =
        cond_both (is_accepted w (OisrSource oisr)) _ _ (LeadsTo A Anything es) (λ _. events t a now w es _ p)
        (λ _. still_leads A Anything es w p)
    acceptance_acc (IsrSource j) w es p =
        cond_both (is_accepted w (IsrSource j)) _ _ (LeadsTo A Anything es)
        (λ e.
        let held = and_parts (get_or w.isrs_held j.0 false) _ e in
        let other = and_parts (get_or w.isrs_enabled j.0 false) _ held.1 in
        ⊎_elim
        (λ (f : isr ≡ j.0).
        let k = account_accepted c s rules bounds isr within t _ a w.isrs_enabled w.isrs_held w.isrs (rw f held.0)
        (rw f other.0) (rw f other.1) p.1 in (
          p.0,
          account_more c isr t _ a _ a _ _ _ (enables_grow es _) (omega arith)
              (subst (λ n. Account c isr t (enables_of isr es) a (set w.isrs_enabled n false) (set w.isrs_held n false)
              (set w.isrs n (isr_of c n).body)) f k),
        ))
        (λ (ne : isr ≢ j.0). (
          p.0,
          account_more c isr t _ a _ a _ _ _ (enables_grow es _) (omega arith)
              (account_left_other c s rules bounds isr within t _ a j.0 (isr_of c j.0).body _ _ w.isrs ne
              (account_other c isr t _ a j.0 false false w.isrs_enabled w.isrs_held w.isrs ne p.1)),
        ))
        (cases_eq isr j.0))
        (λ _. still_leads A Anything es w p)

    acceptances_acc : Leads A A Anything (acceptances c)
    unfolding acceptances
    acceptances_acc = chain_each A Anything (acceptance c) (sources c) acceptance_acc

    activated_acc : (entry : Option ℕ) (w : World) (es : List Event) → A w es
        → LeadsTo A Anything es (activated c entry w)
    unfolding A
    activated_acc None w es p = still_leads A Anything es w p
    activated_acc (Some entry) w es p = events t a now w es _ p

    activation_acc : Leads A A Anything (activation c)
    unfolding activation
    activation_acc w es p = activated_acc (entry_at (offset_of w) (mode_of c w).activations) w es p

  -- ---- arrivals

  -- whether an interrupt arrives at a tick
  abbrev pub comes_at : ℕ → Bool
  comes_at now = list_any (λ (tick : ℕ). tick == now) (slice_index_or s.arrivals.isrs isr [])

  module _ (t a now : ℕ) where
    -- before the arrival of the source, and after it
    B : OfRun
    B w es = Acc t a now w es ⊎ ((comes_at now ≡ true) × (get_or w.isrs_held isr false ≡ true) × Acc t (a + 1) now w es)

    b_events : (w : World) (es fs : List Event) → B w es → B w (es ++ fs)
    unfolding B
    b_events w es fs p =
        ⊎_elim (λ (q : Acc t a now w es). inl (events t a now w es fs q))
        (λ (q : (comes_at now ≡ true) × (get_or w.isrs_held isr false ≡ true) × Acc t (a + 1) now w es). inr
        (q.0, q.1, events t (a + 1) now w es fs q.2)) p

    -- at the source itself
    here : (held : Bool) (j : IsrNo) (w : World) (es : List Event) → isr ≡ j.0 → comes_at now ≡ true
        → get_or w.isrs_held isr false ≡ held → B w es → LeadsTo B Anything es (arrived held (IsrSource j) w)
    unfolding B
    here true j w es f come h p = b_events w es _ p
    here false j w es f come h p =
        ⊎_elim
        (λ (q : Acc t a now w es).
        let k = account_arrived c isr t _ a w.isrs_enabled w.isrs_held w.isrs q.1 in
        let m : Account c isr t (enables_of isr es) (a + 1) w.isrs_enabled (set w.isrs_held j.0 true) w.isrs =
        subst (λ n. Account c isr t (enables_of isr es) (a + 1) w.isrs_enabled (set w.isrs_held n true) w.isrs) f
        k in
        let now_held : get_or (set w.isrs_held j.0 true) isr false ≡ true =
        subst (λ (n : ℕ). get_or (set w.isrs_held n true) isr false ≡ true) f
        (get_or-set_same w.isrs_held isr true false q.1.hold) in
        inr (come, now_held, (q.0, account_more c isr t _ (a + 1) _ (a + 1) _ _ _ (enables_grow es _) (omega arith) m)))
        (λ (q : (comes_at now ≡ true) × (get_or w.isrs_held isr false ≡ true) × Acc t (a + 1) now w es). absurd
        (false≢true (sym h ∙ q.1)))
        p

    -- at another source
    there : (held : Bool) (j : IsrNo) (w : World) (es : List Event) → isr ≢ j.0 → B w es
        → LeadsTo B Anything es (arrived held (IsrSource j) w)
    unfolding B
    there true j w es ne p = b_events w es _ p
    there false j w es ne p =
        let same = get_or-set_other w.isrs_held j.0 isr true false ne in
        ⊎_elim
        (λ (q : Acc t a now w es).
        inl (
          q.0,
          account_more c isr t _ a _ a _ _ _ (enables_grow es _) (omega arith)
              (account_held_other c isr t _ a j.0 true w.isrs_enabled w.isrs_held w.isrs ne q.1),
        ))
        (λ (q : (comes_at now ≡ true) × (get_or w.isrs_held isr false ≡ true) × Acc t (a + 1) now w es).
        inr (
          q.0,
          same
              ∙ q.1,
          (
            q.2.0,
            account_more c isr t _ (a + 1) _ (a + 1) _ _ _ (enables_grow es _) (omega arith)
                (account_held_other c isr t _ (a + 1) j.0 true w.isrs_enabled w.isrs_held w.isrs ne q.2.1),
          ),
        ))
        p

    tick_is : (w : World) (es : List Event) → B w es → w.tick ≡ now
    unfolding B
    tick_is w es p = ⊎_elim (λ (q : Acc t a now w es). q.0)
        (λ (q : (comes_at now ≡ true) × (get_or w.isrs_held isr false ≡ true) × Acc t (a + 1) now w es). q.2.0) p

    other_arrived : (held : Bool) (oisr : OisrNo) (w : World) (es : List Event) → B w es
        → LeadsTo B Anything es (arrived held (OisrSource oisr) w)
    unfolding B
    other_arrived true oisr w es p = b_events w es _ p
    other_arrived false oisr w es p = b_events w es _ p

    arrival_acc : (source : Source) → Leads B B Anything (arrival s source)
    unfolding arrival
    arrival_acc (OisrSource oisr) w es p =
        cond_both (list_any (λ (tick : ℕ). tick == w.tick) (arrivals_of s (OisrSource oisr))) _ _
        (LeadsTo B Anything es)
        (λ _. other_arrived _ oisr w es p) (λ _. still_leads B Anything es w p)
    arrival_acc (IsrSource j) w es p =
        cond_both (list_any (λ (tick : ℕ). tick == w.tick) (arrivals_of s (IsrSource j))) _ _ (LeadsTo B Anything es)
        (λ come.
        ⊎_elim
        (λ (f : isr ≡ j.0).
        let n : comes_at now ≡ true = rw (f, sym (tick_is w es p)) come in
        here (get_or w.isrs_held j.0 false) j w es f n (ap (λ i. get_or w.isrs_held i false) f) p)
        (λ (ne : isr ≢ j.0). there (get_or w.isrs_held j.0 false) j w es ne p)
        (cases_eq isr j.0))
        (λ _. still_leads B Anything es w p)

    -- how many arrivals there are up to and with this tick
    arrivals_acc : (b : ℕ) → a ≤ b → (comes_at now ≡ true → a + 1 ≤ b)
        → Leads (Acc t a now) (Acc t b now) Anything (arrivals c s)
    unfolding arrivals B
    arrivals_acc b l m w es p =
        leads_by (Acc t b now) Anything es (chain (map (arrival s) (sources c)) w)
        (λ e.
        let led = led_on B Anything es (chain (map (arrival s) (sources c)) w) e
        (chain_each B Anything (arrival s) (sources c) arrival_acc w es (inl p)) in
        ⊎_elim
        (λ (q : Acc t a now (chain (map (arrival s) (sources c)) w).world
        (es ++ (chain (map (arrival s) (sources c)) w).events)).
        (q.0, account_more c isr t _ a _ b _ _ _ (omega arith) l q.1))
        (λ (q : (comes_at now ≡ true) × (get_or (chain (map (arrival s) (sources c)) w).world.isrs_held isr false
        ≡ true) × Acc t (a + 1) now (chain (map (arrival s) (sources c)) w).world
        (es ++ (chain (map (arrival s) (sources c)) w).events)).
        (q.2.0, account_more c isr t _ (a + 1) _ b _ _ _ (omega arith) (m q.0) q.2.1))
        led)
        (λ _. tt)

  -- ---- the opening, and the tick

  abbrev AccAt : (t a b now : ℕ) → Phase → OfRun
  AccAt t a b now Before = Acc t a now
  AccAt t a b now Latched = Acc t a now
  AccAt t a b now Begun = Acc t a now
  AccAt t a b now Checked = Acc t a now
  AccAt t a b now Enabled = Acc t a now
  AccAt t a b now phase = Acc t b now

  opening_keeps : (t a b now : ℕ) → a ≤ b → (comes_at now ≡ true → a + 1 ≤ b)
      → OpeningKeeps c s (AccAt t a b now) Anything
  unfolding A
  opening_keeps t a b now l m = record {
    head_is = head_acc t a now;
    latch_is = latch_acc t a now;
    round_end_is = round_end_acc t a now;
    checks_are = checks_acc t a now;
    enables_are = enables_acc t a now;
    arrivals_are = arrivals_acc t a now b l m;
    acceptances_are = acceptances_acc t b now;
    activation_is = activation_acc t b now;
  }

  -- the ticks that a runner adds
  abbrev pub adds : Runner → ℕ
  adds r = if is_isr isr r then 1 else 0

  module _ (t b now e : ℕ) (r0 : Runner) where
    Old : World → Type 0
    Old w = (runner_of c w ≡ r0) × ((w.tick ≡ now) × Account c isr t e b w.isrs_enabled w.isrs_held w.isrs)

    New : ℕ → World → Type 0
    New at w = (w.tick ≡ at) × Account c isr (t + adds r0) e b w.isrs_enabled w.isrs_held w.isrs

    same_ticks : (w : World) → is_isr isr r0 ≡ false → Account c isr t e b w.isrs_enabled w.isrs_held w.isrs
        → Account c isr (t + adds r0) e b w.isrs_enabled w.isrs_held w.isrs
    same_ticks w f k =
        let z : t ≡ t + adds r0 = let y : adds r0 ≡ 0 = ap (λ (x : Bool). cond {A = ℕ} x 1 0) f in omega arith in
        subst (λ n. Account c isr n e b w.isrs_enabled w.isrs_held w.isrs) z k

    isr_left : (w : World) (j : IsrNo) (after : List Stmt) → r0 ≡ runner.Isr j → Old w
        → IsLeftAfter c s w (runner.Isr j) after → New now (leaving w (runner.Isr j) after)
    unfolding Old New
    isr_left w j after r p l =
        ⊎_elim
        (λ (f : isr ≡ j.0).
        let runs = isr_runs c w j (p.0 ∙ r) in
        let u : is_done (get_or w.isrs isr []) ≡ false = rw f (highest_undone _ w.isrs j.0 runs) in
        let less = left_less c s rules bounds isr within w j after (sym f) u p.1.1.numbers l in
        let k = account_tick c s rules bounds isr within t e b after w.isrs_enabled w.isrs_held w.isrs less.0 less.1
        p.1.1 in
        let y : adds r0 ≡ 1 = ap adds r ∙ ap (λ (x : Bool). cond {A = ℕ} x 1 0) (eq-eqb j.0 isr (sym f)) in
        let z : t + 1 ≡ t + adds r0 = omega arith in (
          p.1.0,
          subst (λ n. Account c isr n e b w.isrs_enabled w.isrs_held (set w.isrs j.0 after)) z
              (subst (λ i. Account c isr (t + 1) e b w.isrs_enabled w.isrs_held (set w.isrs i after)) f k),
        ))
        (λ (ne : isr ≢ j.0).
        let y : is_isr isr r0 ≡ false = ap (is_isr isr) r ∙ other_isr j ne in (
          p.1.0,
          same_ticks (leaving w (runner.Isr j) after) y
              (account_left_other c s rules bounds isr within t e b j.0 after w.isrs_enabled w.isrs_held w.isrs ne
              p.1.1),
        ))
        (cases_eq isr j.0)
      where
        other_isr : (j : IsrNo) → isr ≢ j.0 → (j.0 == isr) ≡ false
        other_isr j ne = ⊎_elim (λ (g : (j.0 == isr) ≡ true). absurd (ne (sym (eqb-true j.0 isr g)))) (λ g. g)
            (cases_Bool (j.0 == isr))

    left_new : (w : World) (r : Runner) (after : List Stmt) → r0 ≡ r → Old w → IsLeftAfter c s w r after
        → New now (leaving w r after)
    unfolding Old New
    left_new w (runner.Isr j) after r p l = isr_left w j after r p l
    left_new w (runner.Job place) after r p l = (p.1.0, same_ticks w (ap (is_isr isr) r) p.1.1)
    left_new w (runner.Oisr oisr) after r p l = (p.1.0, same_ticks w (ap (is_isr isr) r) p.1.1)
    left_new w (runner.Osek task) after r p l = (p.1.0, same_ticks w (ap (is_isr isr) r) p.1.1)
    left_new w runner.Nobody after r p l = (p.1.0, same_ticks w (ap (is_isr isr) r) p.1.1)

    step_keeps : StepKeeps c s Old (New now) (New (now + 1))
    unfolding Old New
    step_keeps = record {
      left = λ w after p l. left_new w (runner_of c w) after (sym p.0) p l;
      free = λ w vars cursors wanted used oseks p. p;
      synced = λ w global p. p;
      over = λ w last p. (omega (arith, p.0), p.1);
    }

    step_acc : (w : World) (es : List Event) → Old w → Holds (New (now + 1)) es (step c s w)
    step_acc w es p = step_holds c s Old (New now) (New (now + 1)) step_keeps w es p

  -- an instant
  pub instant_acc : (t a b now : ℕ) → a ≤ b → (comes_at now ≡ true → a + 1 ≤ b) → (w : World) (es : List Event)
      → Acc t a now w es
      → LeadsTo (Acc (t + adds (runner_of c (opening c s w).world)) b (now + 1)) Anything es (instant c s w)
  unfolding instant Old New
  instant_acc t a b now l m w es p =
      let o = opening c s w in
      let r0 = runner_of c o.world in
      let R : OfRun = Acc (t + adds r0) b (now + 1) in
      followed_at R Anything es o (step c s) (λ _. tt)
      (λ on.
      let led = led_on (Acc t b now) Anything es o on
      (opening_leads c s (AccAt t a b now) Anything (opening_keeps t a b now l m) w es p) in
      leads_by R Anything (es ++ o.events) (step c s o.world)
      (λ e.
      let q = led_on (Alone (New t b now (enables_of isr (es ++ o.events)) r0 (now + 1))) Anything (es ++ o.events)
      (step c s o.world) e
      (step_acc t b now (enables_of isr (es ++ o.events)) r0 o.world (es ++ o.events) (refl, (led.0, led.1))) in
      (q.0, account_more c isr (t + adds r0) _ b _ b _ _ _ (enables_grow (es ++ o.events) _) (omega arith) q.1))
      (λ _. tt))

  pub opening_acc : (t a b now : ℕ) → a ≤ b → (comes_at now ≡ true → a + 1 ≤ b) → (w : World) (es : List Event)
      → Acc t a now w es → LeadsTo (Acc t b now) Anything es (opening c s w)
  opening_acc t a b now l m w es p = opening_leads c s (AccAt t a b now) Anything (opening_keeps t a b now l m) w es p

  -- the one who runs has a tick left
  other_isr : (j : IsrNo) → isr ≢ j.0 → (j.0 == isr) ≡ false
  other_isr j ne = ⊎_elim (λ (g : (j.0 == isr) ≡ true). absurd (ne (sym (eqb-true j.0 isr g)))) (λ g. g)
      (cases_Bool (j.0 == isr))

  pub adds_within : (w : World) (r : Runner) → runner_of c w ≡ r → AreNumbersInRange (get_or w.isrs isr [])
      → adds r ≤ worst_in c.demands (get_or w.isrs isr [])
  adds_within w (runner.Isr j) e numbers =
      ⊎_elim
      (λ (f : isr ≡ j.0).
      let u : is_done (get_or w.isrs isr []) ≡ false = rw f (highest_undone _ w.isrs j.0 (isr_runs c w j e)) in
      let less = left_less c s rules bounds isr within w j [] (sym f) u numbers (inr (inl refl)) in
      let one = cond_within (j.0 == isr) 1 in
      let some = less.1 in
      omega arith)
      (λ (ne : isr ≢ j.0). let z : adds (runner.Isr j) ≡ 0 = ap (λ (x : Bool). cond {A = ℕ} x 1 0) (other_isr j ne) in
      omega arith)
      (cases_eq isr j.0)
  adds_within w (runner.Job place) e numbers = omega arith
  adds_within w (runner.Oisr oisr) e numbers = omega arith
  adds_within w (runner.Osek task) e numbers = omega arith
  adds_within w runner.Nobody e numbers = omega arith
