-- The enables of a round are its rows: how many there are from an offset on.
use Rattle.std.proofs.Common.{ℕ, zero, suc, ◌≡◌, ◌<◌, ◌≤◌, ◌+◌, ◌-◌, List, [], ◌∷◌, ◌++◌, Bool, true, false, Option, None, Some, refl, ap, sym, ◌∙◌, subst, eqb, cond, arith, ◌⊎◌, ⊎_elim, inl, inr}
use Rattle.std.specs.Prelude.{◌==◌, ◌&&◌, count_by, map, slice_set}
use Rattle.std.proofs.lemmas.List.Sums.{sum_by-cons}
use Rattle.std.proofs.lemmas.Bool.{cond_both, cases_lt}
use Rattle.std.proofs.lemmas.Bool.Decides.{nat_tests}
use Rattle.tt_base.specs.declared.number.ModeNo.{ModeNo}
use Rattle.tt_base.specs.declared.event.Event.{Event}
use Rattle.tt_base.specs.declared.event.Event.TheVariants.{Enable}
use Rattle.task_lang.specs.declared.syntax.Stmt.{Stmt}
use Rattle.tt_world.specs.declared.world.Runner.{Runner}
use Rattle.tt_world.specs.declared.world.Runner.TheVariants as runner
use Rattle.tt_world.specs.declared.config.Enable.{Enable as EnableRow}
use Rattle.tt_world.specs.declared.config.ConfigParts.{ConfigParts}
use Rattle.tt_world.specs.declared.script.ScriptParts.{ScriptParts}
use Rattle.tt_world.specs.World.{World}
use Rattle.tt_world.specs.Rows.{offset_of, mode_of, mode_at, enables_at}
use Rattle.tt_world.specs.Moved.{Moved, followed, chain}
use Rattle.tt_world.specs.Correction.{is_length}
use Rattle.tt_world.specs.Monitoring.{monitored, is_at, is_at_end}
use Rattle.tt_world.specs.Rounds.{head, latch, next_round, round_end}
use Rattle.tt_world.specs.Gates.{enable, enables, arrivals, acceptances}
use Rattle.tt_world.specs.Opening.{checks, activated, activation}
use Rattle.tt_world.specs.Step.{step}
use Rattle.tt_world.specs.Runners.{leaving, runner_of}
use Rattle.tt_world.specs.Schedule.{instant, instant_at, world_at, events_between, ends_at}
use Rattle.schedule_check.specs.Demand.{is_within, enables_in}
use Rattle.schedule_check.specs.DeadlineLaws.{is_enable}
use Rattle.tt_world.proofs.Parts.{OfRun, Phase, Before, Latched, Begun, Checked, OpeningKeeps, Alone, Anything, LeadsTo, Leads, leads_by, led_on, followed_leads, instant_leads, GoesOnBefore}
use Rattle.tt_world.proofs.Keeps.{Holds, monitored_holds, IgnoresGates, enables_hold, arrivals_hold, acceptances_hold, StepKeeps, step_holds}
use Rattle.schedule_check.proofs.IsrAccounts.{enables_of, count_more}
use Rattle.tt_world.proofs.Emits.{Of, OfHooks, latch_all, round_end_all, monitored_all, arrivals_all, acceptances_all, step_all}

-- ---- no enable

abbrev pub IsNoEnable : ℕ → Event → Type 0
IsNoEnable isr e = is_enable isr e ≡ false

pub none_of : (isr : ℕ) (es : List Event) → Of (IsNoEnable isr) es → enables_of isr es ≡ 0
none_of isr [] p = refl
none_of isr (e ∷ es) p =
    let one = sum_by-cons (λ (x : Event). cond {A = ℕ} (is_enable isr x) 1 0) e es in
    let none : cond {A = ℕ} (is_enable isr e) 1 0 ≡ 0 = ap (λ (b : Bool). cond {A = ℕ} b 1 0) p.0 in
    let rest = none_of isr es p.1 in
    omega arith

and_true : (a b : Bool) → b ≡ true → cond {A = ℕ} (a && b) 1 0 ≡ cond {A = ℕ} a 1 0
and_true true true e = refl
and_true false true e = refl
and_true a false e = cc

and_false : (a b : Bool) → b ≡ false → cond {A = ℕ} (a && b) 1 0 ≡ 0
and_false true false e = refl
and_false false b e = refl
and_false true true e = cc

-- ---- rows

-- how many rows of a routine have this offset
abbrev pub rows_at : ℕ → ℕ → List EnableRow → ℕ
rows_at isr offset rows = count_by (λ (row : EnableRow). (row.isr.0 == isr) && (row.offset == offset)) rows

row_here : (a : Bool) (x offset from : ℕ) → from ≤ offset
    → cond {A = ℕ} (a && is_within from offset x) 1 0 + cond {A = ℕ} (a && (x == offset)) 1 0 ≤ cond {A = ℕ}
    (a && is_within from (offset + 1) x) 1 0
row_here false x offset from l = omega arith
row_here true x offset from l = grind (arith, nat_tests)

-- the rows up to an offset and those at it are within those up to the next
pub rows_more : (isr from offset : ℕ) (rows : List EnableRow) → from ≤ offset
    → count_by (λ (row : EnableRow). (row.isr.0 == isr) && is_within from offset row.offset) rows
    + rows_at isr offset rows
    ≤ count_by (λ (row : EnableRow). (row.isr.0 == isr) && is_within from (offset + 1) row.offset) rows
rows_more isr from offset [] l = omega arith
rows_more isr from offset (row ∷ rows) l =
    let f : EnableRow → ℕ = λ (row : EnableRow). cond {A = ℕ}
    ((row.isr.0 == isr) && is_within from offset row.offset) 1 0 in
    let g : EnableRow → ℕ = λ (row : EnableRow). cond {A = ℕ} ((row.isr.0 == isr) && (row.offset == offset)) 1 0 in
    let h : EnableRow → ℕ = λ (row : EnableRow). cond {A = ℕ}
    ((row.isr.0 == isr) && is_within from (offset + 1) row.offset) 1 0 in
    let a = sum_by-cons f row rows in
    let b = sum_by-cons g row rows in
    let d = sum_by-cons h row rows in
    let here = row_here (row.isr.0 == isr) row.offset offset from l in
    let rest = rows_more isr from offset rows l in
    omega arith

-- the events of the rows at an offset
pub row_events : ℕ → List EnableRow → List Event
row_events at [] = []
row_events at (row ∷ rows) = Enable at row.isr ∷ row_events at rows

pub events_of_rows : (isr at offset : ℕ) (rows : List EnableRow)
    → enables_of isr (row_events at (enables_at offset rows)) ≡ rows_at isr offset rows
unfolding row_events
events_of_rows isr at offset [] = refl
events_of_rows isr at offset (row ∷ rows) = split (row.offset == offset) refl (events_of_rows isr at offset rows)
  where
    split : (b : Bool) → row.offset == offset ≡ b
        → enables_of isr (row_events at (enables_at offset rows)) ≡ rows_at isr offset rows
        → enables_of isr (row_events at (cond b (row ∷ enables_at offset rows) (enables_at offset rows)))
        ≡ rows_at isr offset (row ∷ rows)
    split true e rest =
        let one = sum_by-cons (λ (x : Event). cond {A = ℕ} (is_enable isr x) 1 0) (Enable at row.isr)
        (row_events at (enables_at offset rows)) in
        let b = sum_by-cons (λ (row : EnableRow). cond {A = ℕ} ((row.isr.0 == isr) && (row.offset == offset)) 1 0) row
        rows in
        let same : cond {A = ℕ} ((row.isr.0 == isr) && (row.offset == offset)) 1 0 ≡ cond {A = ℕ}
        (row.isr.0 == isr) 1 0 = and_true (row.isr.0 == isr) (row.offset == offset) e in
        omega arith
    split false e rest =
        let b = sum_by-cons (λ (row : EnableRow). cond {A = ℕ} ((row.isr.0 == isr) && (row.offset == offset)) 1 0) row
        rows in
        let none : cond {A = ℕ} ((row.isr.0 == isr) && (row.offset == offset)) 1 0 ≡ 0 =
        and_false (row.isr.0 == isr) (row.offset == offset) e in
        omega arith

-- the events of these enables
chain_events : (rows : List EnableRow) (w : World) → (chain (map enable rows) w).events ≡ row_events w.tick rows
unfolding chain followed enable row_events
chain_events [] w = refl
chain_events (row ∷ rows) w = ap (λ (es : List Event). Enable w.tick row.isr ∷ es)
    (chain_events rows (record w { isrs_enabled = slice_set w.isrs_enabled row.isr.0 true }))

-- ---- one instant

-- at instant T of a world: the round is that of the world, or one that begins
pub record Here (T at : ℕ) (w v : World) : Type 0 where
  pub tick : v.tick ≡ at
  pub started : v.start ≤ T
  pub same : ((v.start ≡ w.start) × (v.mode ≡ w.mode)) ⊎ (v.start ≡ T)

module _ (c : ConfigParts) (s : ScriptParts) (isr T : ℕ) (w : World) where
  now_rows : World → ℕ
  now_rows v = rows_at isr (T - v.start) (mode_of c v).enables

  -- before the enables, and after them
  Zero : OfRun
  Zero v es = Here T T w v × (enables_of isr es ≡ 0)

  Full : ℕ → OfRun
  Full at v es = Here T at w v × (enables_of isr es ≡ now_rows v)

  ignores : (n : ℕ) → IgnoresGates (λ v. Here T T w v × (now_rows v ≡ n))
  unfolding now_rows
  ignores n v _ _ _ _ _ p = (record { tick = p.0.tick; started = p.0.started; same = p.0.same }, p.1)

  none_more : (es fs : List Event) → Of (IsNoEnable isr) fs → enables_of isr (es ++ fs) ≡ enables_of isr es
  none_more es fs p = let a = count_more (is_enable isr) es fs in let b = none_of isr fs p in omega arith

  -- parts without enables
  zero_leads : (es : List Event) (m : Moved) → enables_of isr es ≡ 0 → Of (IsNoEnable isr) m.events
      → Holds (Here T T w) es m → LeadsTo Zero Anything es m
  unfolding Zero
  zero_leads es m n o h =
      leads_by (λ v fs. Here T T w v × (enables_of isr fs ≡ 0)) Anything es m
      (λ e. (led_on (Alone (Here T T w)) Anything es m e h, none_more es m.events o ∙ n)) (λ _. tt)

  full_leads : (at : ℕ) (es : List Event) (m : Moved) (n : ℕ) → enables_of isr es ≡ n → Of (IsNoEnable isr) m.events
      → Holds (λ v. Here T at w v × (now_rows v ≡ n)) es m → LeadsTo (Full at) Anything es m
  unfolding Full
  full_leads at es m n k o h =
      leads_by (λ v fs. Here T at w v × (enables_of isr fs ≡ now_rows v)) Anything es m
      (λ e. let q = led_on (Alone (λ v. Here T at w v × (now_rows v ≡ n))) Anything es m e h in
      (q.0, none_more es m.events o ∙ k ∙ sym q.1)) (λ _. tt)

  head_zero : (v : World) (es : List Event) → v.tick ≡ 0 → Zero v es → LeadsTo Zero Anything es (head s v)
  unfolding head Zero
  head_zero v es z p = zero_leads es (head s v) p.1 (refl, (refl, tt)) p.0

  latch_zero : Leads Zero Zero Anything (latch c)
  unfolding Zero latch
  latch_zero v es p = zero_leads es (latch c v) p.1 (latch_all (IsNoEnable isr) c (λ _ _. refl) v) (keep v es p.0)
    where
      keep : (v : World) (es : List Event) → Here T T w v → Holds (Here T T w) es (latch c v)
      keep v es p = cond_both (eqb (offset_of v) (c.round - c.adjust)) _ _ (Holds (Here T T w) es)
          (λ _. record { tick = p.tick; started = p.started; same = p.same }) (λ _. p)

  hooks : OfHooks (IsNoEnable isr)
  hooks = record { error = λ _ _. refl; out = λ _ _ _. refl; hook = λ _. refl; shutdown = λ _. refl }

  next_round_here : Leads (Alone (Here T T w)) (Alone (Here T T w)) Anything (next_round s)
  unfolding next_round
  next_round_here v es p =
      let t = p.tick in
      cond_both (eqb v.number s.rounds) _ _ (Holds (Here T T w) es) (λ _. tt)
      (λ _. record { tick = p.tick; started = omega arith; same = inr t })

  round_end_here : (v : World) (es : List Event) → Here T T w v → Holds (Here T T w) es (round_end c s v)
  unfolding round_end
  round_end_here v es p =
      cond_both (is_length v.latched (offset_of v)) _ _ (Holds (Here T T w) es)
      (λ _. followed_leads (Alone (Here T T w)) (Alone (Here T T w)) Anything es
      (monitored c (is_at_end (offset_of v)) v) (next_round s)
      (monitored_holds (Here T T w) c _ v es (λ _. p)) next_round_here)
      (λ _. p)

  round_end_zero : Leads Zero Zero Anything (round_end c s)
  unfolding Zero
  round_end_zero v es p =
      zero_leads es (round_end c s v) p.1
      (round_end_all (IsNoEnable isr) hooks c s (λ _ _ _. refl) (λ _. refl) (λ _ _ _. refl) v)
      (round_end_here v es p.0)

  checks_zero : Leads Zero Zero Anything (checks c)
  unfolding Zero checks
  checks_zero v es p =
      zero_leads es (checks c v) p.1 (monitored_all (IsNoEnable isr) hooks c (is_at (offset_of v)) (λ _ _ _. refl) v)
      (monitored_holds (Here T T w) c (is_at (offset_of v)) v es (λ _. p.0))

  enables_full : Leads Zero (Full T) Anything (enables c)
  unfolding Zero Full now_rows enables
  enables_full v es p =
      let rows = enables_at (offset_of v) (mode_of c v).enables in
      let m = chain (map enable rows) v in
      let t = p.0.tick in
      let off : offset_of v ≡ T - v.start = ap (λ (x : ℕ). x - v.start) t in
      let n = count_more (is_enable isr) es m.events in
      let e1 : enables_of isr m.events ≡ enables_of isr (row_events v.tick rows) =
      ap (enables_of isr) (chain_events rows v) in
      let e2 = events_of_rows isr v.tick (offset_of v) (mode_of c v).enables in
      let e3 : rows_at isr (offset_of v) (mode_of c v).enables ≡ rows_at isr (T - v.start) (mode_of c v).enables =
      ap (λ (x : ℕ). rows_at isr x (mode_of c v).enables) off in
      let z = p.1 in
      let all : enables_of isr (es ++ m.events) ≡ rows_at isr (T - v.start) (mode_of c v).enables = omega arith in
      leads_by (λ u fs. Here T T w u × (enables_of isr fs ≡ now_rows u)) Anything es m
      (λ e. let q = led_on (Alone (λ u. Here T T w u × (now_rows u ≡ now_rows v))) Anything es m e (kept v es p.0) in
      (q.0, all ∙ sym q.1)) (λ _. tt)
    where
      kept : (v : World) (es : List Event) → Here T T w v
          → Holds (λ u. Here T T w u × (now_rows u ≡ now_rows v)) es
          (chain (map enable (enables_at (offset_of v) (mode_of c v).enables)) v)
      kept v es p = enables_hold (λ u. Here T T w u × (now_rows u ≡ now_rows v)) (ignores (now_rows v)) c v es (p, refl)

  arrivals_full : Leads (Full T) (Full T) Anything (arrivals c s)
  unfolding Full
  arrivals_full v es p =
      full_leads T es (arrivals c s v) (now_rows v) p.1
      (arrivals_all (IsNoEnable isr) c s (λ _ _. refl) (λ _ _. refl) v)
      (arrivals_hold (λ u. Here T T w u × (now_rows u ≡ now_rows v)) (ignores (now_rows v)) c s v es (p.0, refl))

  acceptances_full : Leads (Full T) (Full T) Anything (acceptances c)
  unfolding Full
  acceptances_full v es p =
      full_leads T es (acceptances c v) (now_rows v) p.1 (acceptances_all (IsNoEnable isr) c (λ _ _. refl) v)
      (acceptances_hold (λ u. Here T T w u × (now_rows u ≡ now_rows v)) (ignores (now_rows v)) c v es (p.0, refl))

  activated_full : (found : Option ℕ) (v : World) (es : List Event) → Full T v es
      → LeadsTo (Full T) Anything es (activated c found v)
  unfolding Full now_rows
  activated_full None v es p = full_leads T es (activated c None v) (now_rows v) p.1 tt (p.0, refl)
  activated_full (Some entry) v es p =
      full_leads T es (activated c (Some entry) v) (now_rows v) p.1 (refl, tt)
      (record { tick = p.0.tick; started = p.0.started; same = p.0.same }, refl)

  activation_full : Leads (Full T) (Full T) Anything (activation c)
  unfolding activation
  activation_full v es p = activated_full _ v es p

  abbrev EnableAt : Phase → OfRun
  EnableAt Before = Zero
  EnableAt Latched = Zero
  EnableAt Begun = Zero
  EnableAt Checked = Zero
  EnableAt phase = Full T

  opening_full : OpeningKeeps c s EnableAt Anything
  opening_full = record {
    head_is = head_zero;
    latch_is = latch_zero;
    round_end_is = round_end_zero;
    checks_are = checks_zero;
    enables_are = enables_full;
    arrivals_are = arrivals_full;
    acceptances_are = acceptances_full;
    activation_is = activation_full;
  }

  Old : ℕ → ℕ → World → Type 0
  Old at n v = Here T at w v × (now_rows v ≡ n)

  step_keeps : (n : ℕ) → StepKeeps c s (Old T n) (Old T n) (Old (T + 1) n)
  unfolding Old now_rows
  step_keeps n = record {
    free = λ v _ _ _ _ _ p. (record { tick = p.0.tick; started = p.0.started; same = p.0.same }, p.1);
    synced = λ v _ p. (record { tick = p.0.tick; started = p.0.started; same = p.0.same }, p.1);
    left = λ v after p _. kept n v (runner_of c v) after p;
    over = λ v _ p. (record { tick = omega (arith, p.0.tick); started = p.0.started; same = p.0.same }, p.1);
  }
    where
      kept : (n : ℕ) (v : World) (r : Runner) (after : List Stmt) → Old T n v → Old T n (leaving v r after)
      kept n v (runner.Isr i) after p = (record { tick = p.0.tick; started = p.0.started; same = p.0.same }, p.1)
      kept n v (runner.Job i) after p = (record { tick = p.0.tick; started = p.0.started; same = p.0.same }, p.1)
      kept n v (runner.Oisr i) after p = (record { tick = p.0.tick; started = p.0.started; same = p.0.same }, p.1)
      kept n v (runner.Osek i) after p = (record { tick = p.0.tick; started = p.0.started; same = p.0.same }, p.1)
      kept n v runner.Nobody after p = p

  step_full : Leads (Full T) (Full (T + 1)) Anything (step c s)
  unfolding Full Old
  step_full v es p =
      full_leads (T + 1) es (step c s v) (now_rows v) p.1
      (step_all (IsNoEnable isr) hooks c s (λ _ _. refl) (λ _ _. refl) (λ _ _ _ _. refl) v)
      (step_holds c s (Old T (now_rows v)) (Old T (now_rows v)) (Old (T + 1) (now_rows v))
      (step_keeps (now_rows v)) v es (p.0, refl))

  -- the enables of an instant are the rows at its offset
  pub instant_full : w.tick ≡ T → w.start ≤ T
      → LeadsTo (λ v es. Here T (T + 1) w v × (enables_of isr es ≡ rows_at isr (T - v.start) (mode_of c v).enables))
      Anything [] (instant c s w)
  unfolding Full Zero now_rows
  instant_full t l = instant_leads c s EnableAt Anything opening_full (Full (T + 1)) step_full w []
      (record { tick = t; started = l; same = inl (refl, refl) }, refl)

-- before the opening of instant T
pub record EnablesAt (c : ConfigParts) (s : ScriptParts) (isr T : ℕ) (w : World) : Type 0 where
  pub tick : w.tick ≡ T
  pub started : w.start ≤ T
  pub within : (from : ℕ) → w.start + from ≤ T
      → count_by (is_enable isr) (events_between c s (w.start + from) (T - (w.start + from))) ≤ enables_in
      (mode_of c w) isr from (T - w.start)

module _ (c : ConfigParts) (s : ScriptParts) (isr : ℕ) where
  -- where the enables before an instant are within the rows up to its offset, so are those before the next instant
  counted : (n m : ℕ) (v : World)
      → (enables_of isr (instant_at c s n).events ≡ rows_at isr (n - v.start) (mode_of c v).enables) → (from : ℕ)
      → v.start + from ≡ m → m ≤ n → enables_of isr (events_between c s m (n - m)) ≤ enables_in (mode_of c v) isr from
      (n - v.start)
      → enables_of isr (events_between c s m ((n + 1) - m)) ≤ enables_in (mode_of c v) isr from ((n + 1) - v.start)
  unfolding events_between
  counted n m v e from f l h =
      let z : (n + 1) - m ≡ suc (n - m) = omega arith in
      let y : m + (n - m) ≡ n = omega arith in
      let x : (n + 1) - v.start ≡ (n - v.start) + 1 = omega arith in
      let more = count_more (is_enable isr) (events_between c s m (n - m)) (instant_at c s (m + (n - m))).events in
      let here : enables_of isr (instant_at c s (m + (n - m))).events ≡ rows_at isr (n - v.start)
      (mode_of c v).enables = ap (λ (j : ℕ). enables_of isr (instant_at c s j).events) y ∙ e in
      let rows = rows_more isr from (n - v.start) (mode_of c v).enables (omega arith) in
      rw (z, x) (omega arith)

  next_enables : (n : ℕ) → ends_at c s n ≡ false → EnablesAt c s isr n (world_at c s n)
      → EnablesAt c s isr (n + 1) (world_at c s (suc n))
  unfolding world_at instant_at events_between
  next_enables n g p =
      let w = world_at c s n in
      let v = (instant c s w).world in
      let q = led_on (λ v es. Here n (n + 1) w v
      × (enables_of isr es ≡ rows_at isr (n - v.start) (mode_of c v).enables)) Anything [] (instant c s w) g
      (instant_full c s isr n w p.tick p.started) in
      let started = q.0.started in
      record {
        tick = q.0.tick;
        started = omega arith;
        within = λ from l.
            ⊎_elim
            (λ (h : v.start + from < n + 1).
            counted n (v.start + from) v q.1 from refl (omega arith)
            (⊎_elim
            (λ (same : (v.start ≡ w.start) × (v.mode ≡ w.mode)).
            let a = p.within from (let x = same.0 in omega arith) in
            subst (λ (x : ℕ). enables_of isr (events_between c s (x + from) (n - (x + from))) ≤ enables_in
            (mode_of c v) isr from (n - x)) (sym same.0)
            (subst (λ (mode : ModeNo). enables_of isr
            (events_between c s (w.start + from) (n - (w.start + from))) ≤ enables_in (mode_at c mode.0) isr from
            (n - w.start)) (sym same.1) a))
            (λ (new : v.start ≡ n).
            let z : n - (v.start + from) ≡ 0 = omega arith in
            rw z (omega arith))
            q.0.same))
            (λ (h : n + 1 ≤ v.start + from).
            let z : (n + 1) - (v.start + from) ≡ 0 = omega arith in
            rw z (omega arith))
            (cases_lt (v.start + from) (n + 1));
      }

  first_enables : EnablesAt c s isr 0 (world_at c s 0)
  unfolding world_at events_between
  first_enables = record {
    tick = refl;
    started = omega arith;
    within = λ from l. let z : 0 - (0 + from) ≡ 0 =
        omega arith in rw z (omega arith);
  }

  -- at each instant of a run
  pub enables_at_instant : (n : ℕ) → GoesOnBefore c s n → EnablesAt c s isr n (world_at c s n)
  enables_at_instant zero g = first_enables
  enables_at_instant (suc n) g =
      let z : n + 1 ≡ suc n = omega arith in
      subst (λ (j : ℕ). EnablesAt c s isr j (world_at c s (suc n))) z
      (next_enables n (g n (omega arith)) (enables_at_instant n (λ k l. g k (omega arith))))
