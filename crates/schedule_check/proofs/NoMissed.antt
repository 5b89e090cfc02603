-- Where the check says yes and the script keeps its bounds, no check is missed.
use Rattle.std.proofs.Common.{ℕ, zero, suc, ◌≡◌, ◌<◌, ◌≤◌, ◌-◌, List, [], ◌∷◌, ◌++◌, Bool, true, false, Option, None, Some, refl, arith, length, ⊎_elim}
use Rattle.std.proofs.lemmas.Bool.{cond_both, cases_Bool, eqb-true}
use Rattle.tt_base.specs.declared.number.TaskNo.{TaskNo}
use Rattle.tt_base.specs.declared.event.Event.{Event}
use Rattle.tt_base.specs.declared.event.Event.TheVariants.{Check, Shutdown}
use Rattle.tt_world.specs.declared.config.ModeDef.{ModeDef}
use Rattle.tt_world.specs.declared.config.ConfigParts.{ConfigParts}
use Rattle.tt_world.specs.declared.script.ScriptParts.{ScriptParts}
use Rattle.tt_world.specs.declared.world.Point.{Point}
use Rattle.tt_world.specs.declared.world.Point.TheVariants as point
use Rattle.tt_world.specs.World.{World, Job}
use Rattle.tt_world.specs.ConfigRules.{IsConfig}
use Rattle.tt_world.specs.ScriptRules.{IsScript}
use Rattle.tt_world.specs.Moved.{Moved, is_over}
use Rattle.tt_world.specs.Rows.{offset_of, mode_of, row_of, entry_at}
use Rattle.tt_world.specs.Runners.{job_at, is_done}
use Rattle.tt_world.specs.Correction.{is_length}
use Rattle.tt_world.specs.Monitoring.{Checked, check_then, check_if, checked, monitored, after_checks, is_at, is_at_end}
use Rattle.tt_world.specs.Points.{point_of}
use Rattle.tt_world.specs.Rounds.{head, latch, next_round, round_end}
use Rattle.tt_world.specs.Gates.{enables, arrivals, acceptances}
use Rattle.tt_world.specs.Opening.{checks, activation}
use Rattle.tt_world.specs.Step.{step}
use Rattle.tt_world.specs.Schedule.{IsBounded, instant, instant_at, world_at, events_before, last_instant, schedule}
use Rattle.tt_world.specs.Status.{Missed, status_of}
use Rattle.schedule_check.specs.Kept.{KeepsBounds}
use Rattle.schedule_check.specs.Responses.{EachResponds}
use Rattle.tt_world.specs.RunLaws.{is_missed}
use Rattle.tt_world.proofs.Parts.{OfRun, OfEnd, Phase, Before, Latched, Begun, Activated, OpeningKeeps, Alone, Anything, LeadsTo, Leads, leads_by, led_on, led_over, instant_leads, GoesOnBefore}
use Rattle.tt_world.proofs.Keeps.{Holds}
use Rattle.tt_world.proofs.Time.{Timed, Stands, timed_at, opening_keeps as timed_keeps, TimedAt}
use Rattle.tt_world.proofs.Ends.{are_bounded, last_is}
use Rattle.tt_world.proofs.Deadlines.{IsFrom, point_is_from}
use Rattle.tt_world.proofs.TableRows.{deadline_low, mode_rows}
use Rattle.schedule_check.proofs.Unfinished.{Each, opening_keeps as each_keeps}
use Rattle.tt_world.proofs.Emits.{Of, all_more, followed_all, OfHooks, latch_all, next_round_all, enables_all, arrivals_all, acceptances_all, activated_all, step_all}
use Rattle.schedule_check.proofs.Waiting.{IsEarly, early_at, early_new}

-- ---- no missed check

abbrev pub IsNoMiss : Event → Type 0
IsNoMiss e = is_missed e ≡ false

head_met : (e : Event) (rest : List Event) (task : TaskNo) (tick : ℕ) → is_missed e ≡ false
    → (status_of rest ≡ Missed task tick → ⊥) → status_of (e ∷ rest) ≡ Missed task tick → ⊥
head_met (Check at other false) rest task tick n h e = cc
head_met (Shutdown at) rest task tick n h e = cc
head_met event rest task tick n h e = h e

-- a list without a missed check has no such status
pub none_missed : (es : List Event) (task : TaskNo) (tick : ℕ) → Of IsNoMiss es → status_of es ≡ Missed task tick → ⊥
none_missed [] task tick p e = cc
none_missed (x ∷ es) task tick p e = head_met x es task tick p.0 (none_missed es task tick p.1) e

-- ---- checks of activations of which nothing is left

pub record AreMet (all : Checked) : Type 0 where
  pub clean : Of IsNoMiss all.events
  pub missed : all.missed ≡ None

then_met : (at : ℕ) (task : TaskNo) (met : Bool) (others : Checked) → met ≡ true → AreMet others
    → AreMet (check_then at task met others)
then_met at task true others e h = record { clean = (refl, h.clean); missed = h.missed }
then_met at task false others e h = cc

if_met : (due : Bool) (check others : Checked) → (due ≡ true → AreMet check) → AreMet others
    → AreMet (check_if due check others)
if_met true check others a b = a refl
if_met false check others a b = b

pub checked_met : (at : ℕ) (mode : ModeDef) (is_due : Point → Bool) (xs : List Job)
    → ((place : ℕ) → place < length xs → is_due (point_of mode (row_of mode (job_at xs place).entry)) ≡ true
    → is_done (job_at xs place).left ≡ true) → AreMet (checked at mode is_due xs)
unfolding checked
checked_met at mode is_due [] h = record { clean = tt; missed = refl }
checked_met at mode is_due (x ∷ xs) h =
    let rest = checked_met at mode is_due xs (λ place l d. h (suc place) (omega arith) d) in
    if_met (is_due (point_of mode (row_of mode x.entry))) _ (checked at mode is_due xs)
    (λ d. then_met at _ (is_done x.left) _ (h 0 (omega arith) d) rest) rest

after_clean : (c : ConfigParts) (fs : List Event) (missed : Option TaskNo) (w : World) → missed ≡ None → Of IsNoMiss fs
    → Of IsNoMiss (after_checks c fs missed w).events
after_clean c fs None w e p = p
after_clean c fs (Some task) w e p = cc

pub after_leads : (P : OfRun) (Q : OfEnd) (c : ConfigParts) (fs : List Event) (missed : Option TaskNo) (w : World)
    (es : List Event) → missed ≡ None → P w (es ++ fs) → LeadsTo P Q es (after_checks c fs missed w)
after_leads P Q c fs None w es e p = p
after_leads P Q c fs (Some task) w es e p = cc

at_offset : (deadline offset : ℕ) (p : Point) → IsFrom deadline p → is_at offset p ≡ true → deadline ≤ offset
at_offset deadline offset (point.At place) f e = let z = eqb-true place offset e in omega arith
at_offset deadline offset point.RoundEnd f e = cc

pub at_length : (c : ConfigParts) (latched : Option ℕ) (offset : ℕ) → is_length latched offset ≡ true
    → Stands Latched c latched offset → c.round - c.adjust ≤ offset
at_length c None offset e h = cc
at_length c (Some length) offset e h = let z = eqb-true _ _ e in let l = h.0.0 in omega arith

-- ---- each part

-- all events of a run that has ended
abbrev pub Clean : OfEnd
Clean end w es = Of IsNoMiss es

module _ (c : ConfigParts) (s : ScriptParts) (rules : IsConfig c) (bounded : IsBounded c s) (T : ℕ) where
  abbrev Early : World → Type 0
  Early = Each c (IsEarly c T) T

  abbrev SafeAt : Phase → OfRun
  SafeAt Before w es = (Early w × Timed Before c s w) × Of IsNoMiss es
  SafeAt Latched w es = (Early w × Timed Latched c s w) × Of IsNoMiss es
  SafeAt phase w es = (Early w × Timed Begun c s w) × Of IsNoMiss es

  safe_leads : (A B : World → Type 0) (es : List Event) (m : Moved) → Of IsNoMiss es → Of IsNoMiss m.events
      → Holds A es m → Holds B es m → LeadsTo (λ v fs. (A v × B v) × Of IsNoMiss fs) Clean es m
  safe_leads A B es m p q a b =
      leads_by (λ v fs. (A v × B v) × Of IsNoMiss fs) Clean es m
      (λ e.
      ((led_on (Alone A) Anything es m e a, led_on (Alone B) Anything es m e b), all_more IsNoMiss es m.events p q))
      (λ e. all_more IsNoMiss es m.events p q)

  pub early : OpeningKeeps c s (λ _. Alone Early) Anything
  early = each_keeps c s rules (IsEarly c T) T (early_new c rules T)

  pub timed : OpeningKeeps c s (TimedAt c s bounded) Anything
  timed = timed_keeps c s bounded

  hooks : OfHooks IsNoMiss
  hooks = record { error = λ _ _. refl; out = λ _ _ _. refl; hook = λ _. refl; shutdown = λ _. refl }

  -- nothing is left of what is checked
  pub checks_met : (w : World) → Early w → AreMet (checked w.tick (mode_of c w) (is_at (offset_of w)) w.jobs)
  checks_met w p =
      checked_met w.tick (mode_of c w) (is_at (offset_of w)) w.jobs
      (λ place l d.
      let row = row_of (mode_of c w) (job_at w.jobs place).entry in
      ⊎_elim (λ e. e)
      (λ (u : is_done (job_at w.jobs place).left ≡ false).
      let ahead = p.each place l u in
      let due = at_offset row.deadline (offset_of w) (point_of (mode_of c w) row) (point_is_from (mode_of c w) row) d in
      let t = p.tick in
      let b = p.started in
      absurd (omega arith))
      (cases_Bool (is_done (job_at w.jobs place).left)))

  pub end_met : (w : World) → Early w → Timed Latched c s w → is_length w.latched (offset_of w) ≡ true
      → AreMet (checked w.tick (mode_of c w) (is_at_end (offset_of w)) w.jobs)
  end_met w p q e =
      checked_met w.tick (mode_of c w) (is_at_end (offset_of w)) w.jobs
      (λ place l d.
      ⊎_elim (λ e. e)
      (λ (u : is_done (job_at w.jobs place).left ≡ false).
      let ahead = p.each place l u in
      let low = deadline_low c (mode_of c w) (job_at w.jobs place).entry (mode_rows c w.mode.0 rules) in
      let past = at_length c w.latched (w.tick - w.start) e q.stands in
      let t = p.tick in
      let b = p.started in
      absurd (omega arith))
      (cases_Bool (is_done (job_at w.jobs place).left)))

  round_end_clean : (w : World) → Early w → Timed Latched c s w → Of IsNoMiss (round_end c s w).events
  unfolding round_end
  round_end_clean w p q =
      cond_both (is_length w.latched (offset_of w)) _ _ (λ (m : Moved). Of IsNoMiss m.events)
      (λ e.
      let met = end_met w p q e in
      followed_all IsNoMiss (monitored c (is_at_end (offset_of w)) w) (next_round s)
      (after_clean c _ (checked w.tick (mode_of c w) (is_at_end (offset_of w)) w.jobs).missed w met.missed
      met.clean)
      (next_round_all IsNoMiss s (λ _. refl) (λ _ _ _. refl)))
      (λ _. tt)

  checks_clean : (w : World) → Early w → Of IsNoMiss (checks c w).events
  unfolding checks
  checks_clean w p = let met = checks_met w p in
      after_clean c _ (checked w.tick (mode_of c w) (is_at (offset_of w)) w.jobs).missed w met.missed met.clean

  activation_clean : (w : World) → Of IsNoMiss (activation c w).events
  unfolding activation
  activation_clean w = activated_all IsNoMiss c (entry_at (offset_of w) (mode_of c w).activations) (λ _ _. refl) w

  head_clean : (w : World) → Of IsNoMiss (head s w).events
  unfolding head
  head_clean w = (refl, (refl, tt))

  abbrev on : World → Type 0
  on = Timed Begun c s

  opening_clean : OpeningKeeps c s SafeAt Clean
  opening_clean = record {
    head_is = λ w es z p. safe_leads Early on es (head s w) p.1 (head_clean w) (early.head_is w es z p.0.0)
        (timed.head_is w es z p.0.1);
    latch_is = λ w es p. safe_leads Early (Timed Latched c s) es (latch c w) p.1 (latch_all IsNoMiss c (λ _ _. refl) w)
        (early.latch_is w es p.0.0) (timed.latch_is w es p.0.1);
    round_end_is = λ w es p. safe_leads Early on es (round_end c s w) p.1 (round_end_clean w p.0.0 p.0.1)
        (early.round_end_is w es p.0.0) (timed.round_end_is w es p.0.1);
    checks_are = λ w es p. safe_leads Early on es (checks c w) p.1 (checks_clean w p.0.0) (early.checks_are w es p.0.0)
        (timed.checks_are w es p.0.1);
    enables_are = λ w es p. safe_leads Early on es (enables c w) p.1 (enables_all IsNoMiss c (λ _ _. refl) w)
        (early.enables_are w es p.0.0) (timed.enables_are w es p.0.1);
    arrivals_are = λ w es p. safe_leads Early on es (arrivals c s w) p.1
        (arrivals_all IsNoMiss c s (λ _ _. refl) (λ _ _. refl) w) (early.arrivals_are w es p.0.0)
        (timed.arrivals_are w es p.0.1);
    acceptances_are = λ w es p. safe_leads Early on es (acceptances c w) p.1
        (acceptances_all IsNoMiss c (λ _ _. refl) w) (early.acceptances_are w es p.0.0)
        (timed.acceptances_are w es p.0.1);
    activation_is = λ w es p. safe_leads Early on es (activation c w) p.1 (activation_clean w)
        (early.activation_is w es p.0.0) (timed.activation_is w es p.0.1);
  }

  step_clean : Leads (SafeAt Activated) (λ v fs. Of IsNoMiss fs) Clean (step c s)
  step_clean w es p =
      let now = all_more IsNoMiss es (step c s w).events p.1
      (step_all IsNoMiss hooks c s (λ _ _. refl) (λ _ _. refl) (λ _ _ _ _. refl) w) in
      leads_by (λ v fs. Of IsNoMiss fs) Clean es (step c s w) (λ _. now) (λ _. now)

  pub instant_clean : (w : World) → Each c (IsEarly c T) T w → Timed Before c s w → Of IsNoMiss (instant c s w).events
  instant_clean w p q =
      let led = instant_leads c s SafeAt Clean opening_clean (λ v fs. Of IsNoMiss fs) step_clean w [] ((p, q), tt) in
      ⊎_elim (λ (e : is_over (instant c s w).end ≡ true). led_over (λ v fs. Of IsNoMiss fs) Clean []
      (instant c s w) e led)
      (λ (e : is_over (instant c s w).end ≡ false). led_on (λ v fs. Of IsNoMiss fs) Clean [] (instant c s w) e led)
      (cases_Bool (is_over (instant c s w).end))

module _ (c : ConfigParts) (s : ScriptParts) (rules : IsConfig c) (script : IsScript c s) (responds : EachResponds c)
    (bounds : KeepsBounds c s) where
  -- no check of a run is missed
  pub clean_before : (n : ℕ) → n ≤ suc (last_instant c s) → Of IsNoMiss (events_before c s n)
  unfolding events_before instant_at
  clean_before zero l = tt
  clean_before (suc n) l =
      let bounded = are_bounded c s rules script in
      let g : GoesOnBefore c s n = λ k j. (last_is c s bounded).first k (omega arith) in
      all_more IsNoMiss (events_before c s n) (instant c s (world_at c s n)).events (clean_before n (omega arith))
      (instant_clean c s rules bounded n (world_at c s n) (early_at c s rules script bounds responds n g)
      (timed_at c s bounded n g))

  pub none_is_missed : (task : TaskNo) (tick : ℕ) → status_of (schedule c s) ≡ Missed task tick → ⊥
  unfolding schedule
  none_is_missed task tick e = none_missed (events_before c s (suc (last_instant c s))) task tick
      (clean_before (suc (last_instant c s)) (omega arith)) e
