-- What becomes of each activation: kept by each part of an instant.
use Rattle.std.proofs.Common.{ℕ, ◌≡◌, ◌<◌, ◌≤◌, ◌+◌, ◌-◌, List, [], ◌∷◌, ◌++◌, Bool, true, false, Option, None, Some, refl, ap, sym, ◌∙◌, subst, eqb, arith, length, ⊎_elim, inl, inr}
use Rattle.std.specs.Prelude.{◌==◌, ◌&&◌, nat_le, nat_lt}
use Rattle.std.specs.List.{list_any}
use Rattle.std.proofs.Math.ListN.{get_or-append}
use Rattle.std.proofs.Math.Seq.{get_or-append_seam}
use Rattle.std.proofs.lemmas.List.{length-append}
use Rattle.std.proofs.lemmas.List.Elements.{All-get_or}
use Rattle.std.proofs.lemmas.Bool.{cond_both, ltb-true}
use Rattle.tt_base.specs.declared.event.Event.{Event}
use Rattle.tt_base.specs.declared.event.Event.TheVariants.{OsStart, Round, Activate, Stop}
use Rattle.tt_base.specs.declared.number.TaskNo.{TaskNo}
use Rattle.task_lang.specs.declared.syntax.Stmt.{Stmt}
use Rattle.tt_world.specs.declared.config.Enable.{Enable as EnableRow}
use Rattle.tt_world.specs.declared.config.ConfigParts.{ConfigParts}
use Rattle.tt_world.specs.declared.script.ScriptParts.{ScriptParts}
use Rattle.tt_world.specs.World.{World, Source, IsrSource, OisrSource, Job}
use Rattle.tt_world.specs.ConfigRules.{IsConfig, IsTask, is_activation}
use Rattle.tt_world.specs.Moved.{Moved}
use Rattle.tt_world.specs.Rows.{offset_of, mode_at, mode_of, row_of, entry_at, enables_at, body_of, no_row, no_task}
use Rattle.tt_world.specs.Runners.{no_job, job_at, is_done}
use Rattle.tt_world.specs.Correction.{is_length}
use Rattle.tt_world.specs.Monitoring.{checked, monitored, is_at, is_at_end}
use Rattle.tt_world.specs.Rounds.{head, latch, next_round, round_end}
use Rattle.tt_world.specs.Gates.{enable, enables, arrived, arrival, arrivals, is_accepted, acceptance, acceptances, sources, arrivals_of, is_held}
use Rattle.tt_world.specs.Opening.{checks, activated, activation}
use Rattle.tt_world.specs.Step.{step}
use Rattle.tt_world.specs.Schedule.{IsBounded, instant}
use Rattle.tt_world.specs.Status.{stamp_of}
use Rattle.tt_world.specs.Readings.{RoundStart}
use Rattle.tt_world.proofs.Parts.{Never, OfRun, OfEnd, Phase, Before, Latched, Begun, OpeningKeeps, Alone, Anything, LeadsTo, Leads, leads_by, led_on, led_over, still_leads, followed_leads, chain_each, instant_leads}
use Rattle.tt_world.proofs.Keeps.{Holds}
use Rattle.tt_world.proofs.Time.{Timed}
use Rattle.tt_world.proofs.TableRows.{mode_rows, row_found, list_all_get, both_left}
use Rattle.schedule_check.proofs.Unfinished.{Each}
use Rattle.tt_world.proofs.Emits.{Of, OfHooks, latch_all, checked_all, enables_all, arrivals_all, acceptances_all, step_all}
use Rattle.tt_world.proofs.Through.{Through, last_round, last_round_more, through_more, through_each}
use Rattle.schedule_check.proofs.Waiting.{IsEarly}
use Rattle.tt_world.proofs.TableRows.{deadline_low}
use Rattle.schedule_check.proofs.NoMissed.{after_leads, at_length, checks_met, end_met, early, timed}
use Rattle.tt_world.proofs.Forward.{round_in, Forward, same_forward, EndsAt, ends_after, step_forward}
use Rattle.schedule_check.proofs.Fates.{IsOpen, OfActivate, activate_each, no_activate, HasEnded, Fate, Settled, Told, IsQuiet, quiet_through, fate_forward, told_forward, settled_over, has_end_more}

same_activate : (a b : ℕ) (task other : TaskNo) → Activate a task ≡ Activate b other → task ≡ other
same_activate a b task other e = cc

some_undone : (body : List Stmt) → 1 ≤ length body → is_done body ≡ false
some_undone [] l = absurd (omega arith)
some_undone (x ∷ body) l = refl

-- ---- parts that leave the round and its activations alone

pub record Same (w v : World) : Type 0 where
  pub start : v.start ≡ w.start
  pub mode : v.mode ≡ w.mode
  pub acts : v.jobs ≡ w.jobs

module _ (c : ConfigParts) (s : ScriptParts) (w : World) where
  S : OfRun
  S v es = Same w v

  latch_same : Leads S S Never (latch c)
  unfolding latch S
  latch_same v es p =
      cond_both (eqb (offset_of v) (c.round - c.adjust)) _ _ (LeadsTo S Never es)
      (λ _. record { start = p.start; mode = p.mode; acts = p.acts }) (λ _. p)

  enable_same : (row : EnableRow) → Leads S S Never (enable row)
  unfolding enable S
  enable_same row v es p = record { start = p.start; mode = p.mode; acts = p.acts }

  enables_same : Leads S S Never (enables c)
  unfolding enables
  enables_same v es p = chain_each S Never enable (enables_at (offset_of v) (mode_of c v).enables) enable_same v es p

  arrived_same : (held : Bool) (source : Source) (v : World) (es : List Event) → S v es
      → LeadsTo S Never es (arrived held source v)
  unfolding S
  arrived_same true source v es p = p
  arrived_same false (IsrSource i) v es p = record { start = p.start; mode = p.mode; acts = p.acts }
  arrived_same false (OisrSource i) v es p = record { start = p.start; mode = p.mode; acts = p.acts }

  arrival_same : (source : Source) → Leads S S Never (arrival s source)
  unfolding arrival
  arrival_same source v es p =
      cond_both (list_any (λ (tick : ℕ). tick == v.tick) (arrivals_of s source)) _ _ (LeadsTo S Never es)
      (λ _. arrived_same (is_held v source) source v es p) (λ _. still_leads S Never es v p)

  arrivals_same : Leads S S Never (arrivals c s)
  unfolding arrivals
  arrivals_same = chain_each S Never (arrival s) (sources c) arrival_same

  acceptance_same : (source : Source) → Leads S S Never (acceptance c source)
  unfolding acceptance S
  acceptance_same (IsrSource i) v es p =
      cond_both (is_accepted v (IsrSource i)) _ _ (LeadsTo S Never es)
      (λ _. record { start = p.start; mode = p.mode; acts = p.acts }) (λ _. p)
  acceptance_same (OisrSource i) v es p =
      cond_both (is_accepted v (OisrSource i)) _ _ (LeadsTo S Never es)
      (λ _. record { start = p.start; mode = p.mode; acts = p.acts }) (λ _. p)

  acceptances_same : Leads S S Never (acceptances c)
  unfolding acceptances
  acceptances_same = chain_each S Never (acceptance c) (sources c) acceptance_same

module _ (c : ConfigParts) (s : ScriptParts) (rules : IsConfig c) (bounded : IsBounded c s) (T : ℕ) where
  abbrev first : RoundStart
  first = record { start = 0; mode = s.start }

  abbrev Early : World → Type 0
  Early = Each c (IsEarly c T) T

  abbrev T0 : World → List Event → Type 0
  T0 w es = Told c first T w es

  -- where the run ends, each activation whose deadline was reached has ended by it, and the last event has this tick
  abbrev pub Over : OfEnd
  Over end w es = Through (OfActivate c (Settled c T es)) first es × EndsAt T es

  -- a part in which no round begins and no task is activated
  quiet_told : (w : World) (es : List Event) (m : Moved) → T0 w es → Early w → Of IsQuiet m.events
      → LeadsTo (λ v fs. Same w v) Never es m → LeadsTo T0 Over es m
  quiet_told w es m p e q h =
      leads_by T0 Over es m
      (λ on. let same = led_on (λ v fs. Same w v) Never es m on h in
      told_forward c first T T w m.world es m.events (omega arith) e
      (same_forward c w m.world m.events same.start same.mode same.acts) q p)
      (λ over. absurd (led_over (λ v fs. Same w v) Never es m over h))

  same_as : (w : World) → Same w w
  same_as w = record { start = refl; mode = refl; acts = refl }

  latch_told : (w : World) (es : List Event) → T0 w es → Early w → LeadsTo T0 Over es (latch c w)
  unfolding S
  latch_told w es p e = quiet_told w es (latch c w) p e (latch_all IsQuiet c (λ _ _. (refl, refl)) w)
      (latch_same c s w w es (same_as w))

  enables_told : (w : World) (es : List Event) → T0 w es → Early w → LeadsTo T0 Over es (enables c w)
  unfolding S
  enables_told w es p e = quiet_told w es (enables c w) p e (enables_all IsQuiet c (λ _ _. (refl, refl)) w)
      (enables_same c s w w es (same_as w))

  arrivals_told : (w : World) (es : List Event) → T0 w es → Early w → LeadsTo T0 Over es (arrivals c s w)
  unfolding S
  arrivals_told w es p e = quiet_told w es (arrivals c s w) p e
      (arrivals_all IsQuiet c s (λ _ _. (refl, refl)) (λ _ _. (refl, refl)) w) (arrivals_same c s w w es (same_as w))

  acceptances_told : (w : World) (es : List Event) → T0 w es → Early w → LeadsTo T0 Over es (acceptances c w)
  unfolding S
  acceptances_told w es p e = quiet_told w es (acceptances c w) p e (acceptances_all IsQuiet c (λ _ _. (refl, refl)) w)
      (acceptances_same c s w w es (same_as w))

  -- checks that are met
  checks_told : (w : World) (es : List Event) → T0 w es → Early w → LeadsTo T0 Over es (checks c w)
  unfolding checks
  checks_told w es p e =
      let all = checked w.tick (mode_of c w) (is_at (offset_of w)) w.jobs in
      after_leads T0 Over c all.events all.missed w es (checks_met c s rules bounded T w e).missed
      (told_forward c first T T w w es all.events (omega arith) e (same_forward c w w all.events refl refl refl)
      (checked_all IsQuiet w.tick (mode_of c w) (is_at (offset_of w)) w.jobs (λ _ _ _. (refl, refl))) p)

  head_told : (w : World) (es : List Event) → w.tick ≡ 0 → w.mode ≡ s.start → T0 w es → Early w
      → LeadsTo T0 Over es (head s w)
  unfolding head
  head_told w es z m p e =
      let fs = OsStart w.tick s.start ∷ Round w.tick 1 s.start ∷ [] in
      let started = e.started in
      let tick = e.tick in
      let zero_start : w.tick ≡ w.start = omega arith in
      record {
        fates =
            through_more (OfActivate c (Fate c T w (es ++ fs))) first es fs
            (through_each (OfActivate c (Fate c T w es)) (OfActivate c (Fate c T w (es ++ fs)))
            (activate_each c (Fate c T w es) (Fate c T w (es ++ fs))
            (λ round entry q. fate_forward c first T T w w es fs (omega arith) e
            (same_forward c w w fs refl refl refl) round entry q)) first es p.fates) (
              no_activate c (Fate c T w (es ++ fs)) (last_round first es) (OsStart w.tick s.start) refl,
              (no_activate c (Fate c T w (es ++ fs)) (last_round first es) (Round w.tick 1 s.start) refl, tt),
            );
        now = last_round_more first es fs ∙
            (ap (λ x. record { start = x; mode = s.start }) zero_start
            ∙ ap (λ n. record { start = w.start; mode = n }) (sym m));
      }

  -- ---- an activation

  row_task : (number entry : ℕ) → entry < length (mode_at c number).activations
      → is_done (body_of c (row_of (mode_at c number) entry).task) ≡ false
  row_task number entry l =
      let row = row_of (mode_at c number) entry in
      let h = list_all_get (is_activation c) (mode_at c number).activations entry no_row
      (mode_rows c number rules).activations l in
      let within = ltb-true row.task.0 (length c.tasks)
      (both_left (nat_lt row.task.0 (length c.tasks))
      (nat_lt row.offset row.deadline && nat_le row.deadline (c.round - c.adjust)) h) in
      some_undone (body_of c row.task) (All-get_or
      (IsTask c) c.tasks row.task.0 no_task within rules.tasks).routine.some

  activated_told : (found : Option ℕ) (w : World) (es : List Event)
      → entry_at (offset_of w) (mode_of c w).activations ≡ found → T0 w es → Early w
      → LeadsTo T0 Over es (activated c found w)
  activated_told None w es f p e = told_forward c first T T w w es [] (omega arith) e
      (same_forward c w w [] refl refl refl) tt p
  activated_told (Some entry) w es f p e =
      let task = (row_of (mode_of c w) entry).task in
      let y : Job = record { entry = entry; left = body_of c task } in
      let v = record w { jobs = w.jobs ++ y ∷ [] } in
      let fs = Activate w.tick task ∷ [] in
      let row = row_found (offset_of w) entry (mode_of c w) f in
      let here = row.1 in
      let tick = e.tick in
      let started = e.started in
      let n = length-append w.jobs (y ∷ []) in
      let last : job_at (w.jobs ++ y ∷ []) (length w.jobs) ≡ y = get_or-append_seam w.jobs y [] no_job in
      let grows : Forward c w v fs = record {
        start = refl;
        mode = refl;
        each = λ place l u. let same = get_or-append w.jobs (y ∷ []) no_job place l in
            inl (omega arith, (ap (λ (i : Job). is_done i.left) same ∙ u, ap (λ (i : Job). i.entry) same));
      } in
      let new : OfActivate c (Fate c T v (es ++ fs)) (round_in w) (Activate w.tick task) = λ at other g.
      let same_at : w.tick ≡ at = ap stamp_of g in
      let same_task : task ≡ other = same_activate w.tick at task other g in (
        entry,
        row.0,
        omega arith,
        sym same_task,
        inr (record {
          start = refl;
          mode = refl;
          begun = omega arith;
          place = length w.jobs;
          within = omega arith;
          undone = ap (λ (i : Job). is_done i.left) last ∙ row_task w.mode.0 entry row.0;
          same = ap (λ (i : Job). i.entry) last;
        }),
      ) in
      record {
        fates =
            through_more (OfActivate c (Fate c T v (es ++ fs))) first es fs
            (through_each (OfActivate c (Fate c T w es)) (OfActivate c (Fate c T v (es ++ fs)))
            (activate_each c (Fate c T w es) (Fate c T v (es ++ fs))
            (λ round entry q. fate_forward c first T T w v es fs (omega arith) e grows round entry q)) first es
            p.fates)
            (subst (λ r. OfActivate c (Fate c T v (es ++ fs)) r (Activate w.tick task)) (sym p.now) new, tt);
        now = last_round_more first es fs ∙ p.now;
      }

  activation_told : (w : World) (es : List Event) → T0 w es → Early w → LeadsTo T0 Over es (activation c w)
  unfolding activation
  activation_told w es p e = activated_told _ w es refl p e

  -- ---- the round's end

  -- each activation has ended
  AllEnded : World → List Event → Type 0
  AllEnded v ds = (v.tick ≡ T) × Through (OfActivate c (HasEnded c ds)) first ds

  ended_now : (w : World) (es fs : List Event) → T0 w es → Early w → Timed Latched c s w
      → is_length w.latched (offset_of w) ≡ true → Of IsQuiet fs → AllEnded w (es ++ fs)
  unfolding AllEnded
  ended_now w es fs p e t h q = (
    e.tick,
    through_more (OfActivate c (HasEnded c (es ++ fs))) first es fs
        (through_each (OfActivate c (Fate c T w es)) (OfActivate c (HasEnded c (es ++ fs)))
        (activate_each c (Fate c T w es) (HasEnded c (es ++ fs)) settle) first es p.fates)
        (quiet_through c (HasEnded c (es ++ fs)) (last_round first es) fs q),
  )
    where
      settle : (round : RoundStart) (entry : ℕ) → Fate c T w es round entry → HasEnded c (es ++ fs) round entry
      settle round entry q =
          let row = row_of (mode_at c round.mode.0) entry in
          ⊎_elim (λ (d : HasEnded c es round entry). has_end_more es fs row.task (round.start + row.offset)
          (round.start + row.deadline) d)
          (λ (o : IsOpen c T w round entry).
          let ahead = e.each o.place o.within o.undone in
          let low = deadline_low c (mode_of c w) (job_at w.jobs o.place).entry (mode_rows c w.mode.0 rules) in
          let past = at_length c w.latched (w.tick - w.start) h t.stands in
          let tick = e.tick in
          let started = e.started in
          absurd (omega arith))
          q

  next_told : Leads AllEnded T0 Over (next_round s)
  unfolding next_round AllEnded
  next_told v ds p =
      let stop = Stop v.tick ∷ [] in
      let tick = p.0 in
      cond_both (eqb v.number s.rounds) _ _ (LeadsTo T0 Over ds)
      (λ _. (
        through_more (OfActivate c (Settled c T (ds ++ stop))) first ds stop
            (through_each (OfActivate c (HasEnded c ds)) (OfActivate c (Settled c T (ds ++ stop)))
            (activate_each c (HasEnded c ds) (Settled c T (ds ++ stop))
            (λ round entry q reached. let row = row_of (mode_at c round.mode.0) entry in
            has_end_more ds stop row.task (round.start + row.offset) (round.start + row.deadline) q)) first ds p.1)
            (no_activate c (Settled c T (ds ++ stop)) (last_round first ds) (Stop v.tick) refl, tt),
        (ds, Stop v.tick, refl, tick),
      ))
      (λ _.
      let u = record v { start = v.tick; number = v.number + 1; mode = v.wanted; latched = None; jobs = [] } in
      let begin = Round v.tick (v.number + 1) v.wanted ∷ [] in
      record {
        fates =
            through_more (OfActivate c (Fate c T u (ds ++ begin))) first ds begin
            (through_each (OfActivate c (HasEnded c ds)) (OfActivate c (Fate c T u (ds ++ begin)))
            (activate_each c (HasEnded c ds) (Fate c T u (ds ++ begin))
            (λ round entry q. let row = row_of (mode_at c round.mode.0) entry in
            inl (has_end_more ds begin row.task (round.start + row.offset) (round.start + row.deadline) q))) first
            ds p.1) (
              no_activate c (Fate c T u (ds ++ begin)) (last_round first ds)
                  (Round v.tick (v.number + 1) v.wanted) refl,
              tt,
            );
        now = last_round_more first ds begin;
      })

  round_end_told : (w : World) (es : List Event) → T0 w es → Early w → Timed Latched c s w
      → LeadsTo T0 Over es (round_end c s w)
  unfolding round_end
  round_end_told w es p e t =
      let all = checked w.tick (mode_of c w) (is_at_end (offset_of w)) w.jobs in
      cond_both (is_length w.latched (offset_of w)) _ _ (LeadsTo T0 Over es)
      (λ h.
      followed_leads AllEnded T0 Over es (monitored c (is_at_end (offset_of w)) w) (next_round s)
      (after_leads AllEnded Over c all.events all.missed w es (end_met c s rules bounded T w e t h).missed
      (ended_now w es all.events p e t h
      (checked_all IsQuiet w.tick (mode_of c w) (is_at_end (offset_of w)) w.jobs (λ _ _ _. (refl, refl)))))
      next_told)
      (λ _. told_forward c first T T w w es [] (omega arith) e (same_forward c w w [] refl refl refl) tt p)

  -- ---- the tick

  hooks : OfHooks IsQuiet
  hooks = record {
    error = λ _ _. (refl, refl);
    out = λ _ _ _. (refl, refl);
    hook = λ _. (refl, refl);
    shutdown =
        λ _. (refl, refl);
  }

  step_told : (w : World) (es : List Event) → T0 w es → Early w
      → LeadsTo (λ v fs. Told c first (T + 1) v fs) Over es (step c s w)
  step_told w es p e =
      let m = step c s w in
      let quiet = step_all IsQuiet hooks c s (λ _ _. (refl, refl)) (λ _ _. (refl, refl)) (λ _ _ _ _. (refl, refl)) w in
      leads_by (λ v fs. Told c first (T + 1) v fs) Over es m
      (λ on. told_forward c first T (T + 1) w m.world es m.events (omega arith) e
      (led_on (λ v fs. Forward c w v fs) (λ end v fs. EndsAt w.tick fs) [] m on (step_forward c s w)) quiet p)
      (λ over. (
        settled_over c first T w es m.events e quiet p,
        subst (λ (t : ℕ). EndsAt t (es ++ m.events)) e.tick
            (ends_after w.tick es m.events (led_over (λ v fs. Forward c w v fs) (λ end v fs. EndsAt w.tick fs) [] m over
            (step_forward c s w))),
      ))

  -- ---- the whole instant

  abbrev ToldAt : Phase → OfRun
  ToldAt Before w es = (Early w × Timed Before c s w) × (T0 w es × (w.tick ≡ 0 → w.mode ≡ s.start))
  ToldAt Latched w es = (Early w × Timed Latched c s w) × T0 w es
  ToldAt phase w es = (Early w × Timed Begun c s w) × T0 w es

  joined : (A B : World → Type 0) (es : List Event) (m : Moved) → LeadsTo T0 Over es m → Holds A es m → Holds B es m
      → LeadsTo (λ v fs. (A v × B v) × T0 v fs) Over es m
  joined A B es m h a b =
      leads_by (λ v fs. (A v × B v) × T0 v fs) Over es m
      (λ e. ((led_on (Alone A) Anything es m e a, led_on (Alone B) Anything es m e b), led_on T0 Over es m e h))
      (λ e. led_over T0 Over es m e h)

  abbrev on : World → Type 0
  on = Timed Begun c s

  opening_told : OpeningKeeps c s ToldAt Over
  opening_told =
      let a = early c s rules bounded T in
      let t = timed c s rules bounded T in
      record {
        head_is = λ w es z p. joined Early on es (head s w) (head_told w es z (p.1.1 z) p.1.0 p.0.0)
            (a.head_is w es z p.0.0) (t.head_is w es z p.0.1);
        latch_is = λ w es p. joined Early (Timed Latched c s) es (latch c w) (latch_told w es p.1.0 p.0.0)
            (a.latch_is w es p.0.0) (t.latch_is w es p.0.1);
        round_end_is = λ w es p. joined Early on es (round_end c s w) (round_end_told w es p.1 p.0.0 p.0.1)
            (a.round_end_is w es p.0.0) (t.round_end_is w es p.0.1);
        checks_are = λ w es p. joined Early on es (checks c w) (checks_told w es p.1 p.0.0) (a.checks_are w es p.0.0)
            (t.checks_are w es p.0.1);
        enables_are = λ w es p. joined Early on es (enables c w) (enables_told w es p.1 p.0.0)
            (a.enables_are w es p.0.0) (t.enables_are w es p.0.1);
        arrivals_are = λ w es p. joined Early on es (arrivals c s w) (arrivals_told w es p.1 p.0.0)
            (a.arrivals_are w es p.0.0) (t.arrivals_are w es p.0.1);
        acceptances_are = λ w es p. joined Early on es (acceptances c w) (acceptances_told w es p.1 p.0.0)
            (a.acceptances_are w es p.0.0) (t.acceptances_are w es p.0.1);
        activation_is = λ w es p. joined Early on es (activation c w) (activation_told w es p.1 p.0.0)
            (a.activation_is w es p.0.0) (t.activation_is w es p.0.1);
      }

  -- what becomes of each activation is kept by an instant
  pub instant_told : (w : World) (es : List Event) → Each c (IsEarly c T) T w → Timed Before c s w
      → (w.tick ≡ 0 → w.mode ≡ s.start) → Told c (record { start = 0; mode = s.start }) T w es
      → LeadsTo (λ v fs. Told c (record { start = 0; mode = s.start }) (T + 1) v fs) Over es (instant c s w)
  instant_told w es e t m p =
      instant_leads c s ToldAt Over opening_told (λ v fs. Told c first (T + 1) v fs)
      (λ v ds q. step_told v ds q.1 q.0.0) w es ((e, t), (p, m))
