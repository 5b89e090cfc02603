-- In any consecutive instants of a run, a time-triggered routine takes at most the ticks of its demand there.
use Rattle.std.proofs.Common.{ℕ, zero, suc, ◌≡◌, ◌<◌, ◌≤◌, ◌+◌, ◌-◌, ◌*◌, List, [], ◌++◌, Bool, true, false, refl, ap, sym, ◌∙◌, subst, arith, length, get_or, add-one, ⊎_elim, append_assoc}
use Rattle.std.specs.Prelude.{count_by, slice_index_or}
use Rattle.std.proofs.lemmas.List.{get_or-replicate, length-replicate}
use Rattle.std.proofs.lemmas.List.Elements.{All-get_or}
use Rattle.std.proofs.lemmas.Bool.{cases_Bool}
use Rattle.tt_base.specs.declared.event.Event.{Event}
use Rattle.task_lang.specs.declared.syntax.Stmt.{Stmt}
use Rattle.tt_world.specs.declared.config.ConfigParts.{ConfigParts}
use Rattle.tt_world.specs.declared.script.ScriptParts.{ScriptParts}
use Rattle.tt_world.specs.World.{World}
use Rattle.tt_world.specs.ConfigRules.{IsConfig, IsIsr}
use Rattle.tt_world.specs.ScriptRules.{IsScript}
use Rattle.tt_world.specs.Rows.{no_isr}
use Rattle.tt_world.specs.Moved.{is_over, followed}
use Rattle.tt_world.specs.Runners.{runner_of}
use Rattle.tt_world.specs.Opening.{opening}
use Rattle.tt_world.specs.Step.{step}
use Rattle.tt_world.specs.Schedule.{runner_if, world_at, instant, instant_at, events_between, runner_at, ticks_of, last_instant}
use Rattle.schedule_check.specs.Demand.{isr_of, isr_demand}
use Rattle.schedule_check.specs.Kept.{KeepsBounds}
use Rattle.schedule_check.specs.DeadlineLaws.{is_isr, is_enable, IsrIsBounded}
use Rattle.tt_world.proofs.Parts.{OfRun, Anything, LeadsTo, GoesOnBefore, kept_from, leads_by, led_on, followed_on, followed_events}
use Rattle.tt_world.proofs.Ends.{are_bounded, last_is, tick_at}
use Rattle.schedule_check.proofs.Spacing.{arrivals_in, are_few, by_times, count_later, count_found}
use Rattle.schedule_check.proofs.IsrAccounts.{Account, enables_of, count_more, cond_within, more_times}
use Rattle.schedule_check.proofs.IsrParts.{Acc, adds, adds_within, opening_acc, instant_acc}

module _ (c : ConfigParts) (s : ScriptParts) (rules : IsConfig c) (script : IsScript c s) (bounds : KeepsBounds c s)
    (isr : ℕ) (within : isr < length c.isrs) where
  -- the ticks at which the source has arrivals
  abbrev comes : List ℕ
  comes = slice_index_or s.arrivals.isrs isr []

  ticks : (m k : ℕ) → ℕ
  ticks m k = ticks_of (is_isr isr) c s m k

  -- after k instants from instant m on
  After : (m k : ℕ) → OfRun
  After m k = Acc c s rules bounds isr within (ticks m k) (arrivals_in m (m + k) comes) (m + k)

  -- the ticks of instant m + k
  now : (m k : ℕ) → ℕ
  now m k = adds c s rules bounds isr within (runner_at c s (m + k))

  ticks_next : (m k : ℕ) → ticks m k + now m k ≡ ticks m (k + 1)
  unfolding ticks ticks_of now
  ticks_next m k = ap (λ (j : ℕ). ticks_of (is_isr isr) c s m j) (sym (add-one k))

  ran : (m k : ℕ) → is_over (opening c s (world_at c s (m + k))).end ≡ false
      → adds c s rules bounds isr within (runner_of c (opening c s (world_at c s (m + k))).world) ≡ now m k
  unfolding now runner_at
  ran m k e =
      ap (λ (b : Bool). adds c s rules bounds isr within
      (runner_if b (runner_of c (opening c s (world_at c s (m + k))).world))) (sym e)

  idle : (m k : ℕ) → is_over (opening c s (world_at c s (m + k))).end ≡ true → now m k ≡ 0
  unfolding now runner_at
  idle m k e =
      ap (λ (b : Bool). adds c s rules bounds isr within
      (runner_if b (runner_of c (opening c s (world_at c s (m + k))).world))) e

  opening_on : (w : World) → is_over (instant c s w).end ≡ false → is_over (opening c s w).end ≡ false
  unfolding instant
  opening_on w e = followed_on (opening c s w) (step c s) e

  each : (m k : ℕ) → After m k (world_at c s (m + k)) (events_between c s m k)
      → LeadsTo (After m (k + 1)) Anything (events_between c s m k) (instant c s (world_at c s (m + k)))
  unfolding After
  each m k p =
      let w = world_at c s (m + k) in
      let es = events_between c s m k in
      let a = arrivals_in m (m + k) comes in
      let b = arrivals_in m ((m + k) + 1) comes in
      let r = adds c s rules bounds isr within (runner_of c (opening c s w).world) in
      leads_by (Acc c s rules bounds isr within (ticks m (k + 1)) (arrivals_in m (m + (k + 1)) comes) (m + (k + 1)))
      Anything es (instant c s w)
      (λ e.
      let led = led_on (Acc c s rules bounds isr within (ticks m k + r) b ((m + k) + 1)) Anything es (instant c s w) e
      (instant_acc c s rules bounds isr within (ticks m k) a b (m + k) (count_later m (m + k) comes)
      (λ e. count_found m (m + k) comes (omega arith) e) w es p) in
      let z : (m + k) + 1 ≡ m + (k + 1) = omega arith in
      let t : ticks m k + r ≡ ticks m (k + 1) = ap (λ n. ticks m k + n) (ran m k (opening_on w e)) ∙ ticks_next m k in
      subst (λ (t : ℕ). Acc c s rules bounds isr within t (arrivals_in m (m + (k + 1)) comes) (m + (k + 1))
      (instant c s w).world (es ++ (instant c s w).events)) t
      (subst (λ (n : ℕ). Acc c s rules bounds isr within (ticks m k + r) (arrivals_in m n comes) n (instant c s w).world
      (es ++ (instant c s w).events)) z led))
      (λ _. tt)

  after_from : (m : ℕ) → After m 0 (world_at c s m) [] → (k : ℕ) → GoesOnBefore c s (m + k)
      → After m k (world_at c s (m + k)) (events_between c s m k)
  after_from m first k g = kept_from c s (After m) Anything m (λ k _ p. each m k p) first k g

  routine : IsIsr c (isr_of c isr)
  routine = All-get_or (IsIsr c) c.isrs isr no_isr within rules.isrs

  -- at tick 0
  first : After 0 0 (world_at c s 0) []
  unfolding After ticks ticks_of world_at
  first =
      let n = get_or-replicate {A = List Stmt} (length c.isrs) isr [] [] within in
      let g = get_or-replicate (length c.isrs) isr true false within in
      let h = get_or-replicate (length c.isrs) isr false false within in (
        refl,
        record {
          gate = let l = length-replicate (length c.isrs) true in omega arith;
          hold = let l = length-replicate (length c.isrs) false in omega arith;
          has = let l = length-replicate {A = List Stmt} (length c.isrs) [] in omega arith;
          numbers = rw n refl;
          small = rw n (omega arith);
          by_enables = rw (n, g) (omega arith);
          by_arrivals = rw (n, h) (omega arith);
        },
      )

  -- from any instant on
  again : (t e a : ℕ) (m : ℕ) → Account c isr t e a (world_at c s m).isrs_enabled (world_at c s m).isrs_held
      (world_at c s m).isrs → (world_at c s m).tick ≡ m → After m 0 (world_at c s m) []
  unfolding After ticks ticks_of
  again t e a m k n =
      let x = cond_within (get_or (world_at c s m).isrs_enabled isr false) (isr_of c isr).budget in
      let y = cond_within (get_or (world_at c s m).isrs_held isr false) (isr_of c isr).budget in
      let small = k.small in
      let twice = more_times (isr_of c isr).budget 0 (arrivals_in m (m + 0) comes) (omega arith) in (
        n ∙ add-none m,
        record {
          gate = k.gate;
          hold = k.hold;
          has = k.has;
          numbers = k.numbers;
          small = k.small;
          by_enables = omega arith;
          by_arrivals = omega arith;
        },
      )
    where
      add-none : (m : ℕ) → m ≡ m + 0
      add-none m = omega arith

  after : (m k : ℕ) → GoesOnBefore c s (m + k) → After m k (world_at c s (m + k)) (events_between c s m k)
  unfolding After
  after m k g =
      let z : 0 + m ≡ m = omega arith in
      let start = after_from 0 first m (λ j l. g j (omega arith)) in
      let p =
      subst (λ (n : ℕ). Account c isr (ticks 0 m) (enables_of isr (events_between c s 0 m))
      (arrivals_in 0 (0 + m) comes) (world_at c s n).isrs_enabled (world_at c s n).isrs_held (world_at c s n).isrs)
      z start.1 in
      after_from m (again _ _ _ m p (tick_at c s m (λ j l. g j (omega arith)))) k g

  grows : (es fs : List Event) → enables_of isr es ≤ enables_of isr (es ++ fs)
  grows es fs = let n = count_more (is_enable isr) es fs in omega arith

  instant_grows : (w : World) (es : List Event) → is_over (opening c s w).end ≡ false
      → enables_of isr (es ++ (opening c s w).events) ≤ enables_of isr (es ++ (instant c s w).events)
  unfolding instant
  instant_grows w es e =
      let f = followed_events (opening c s w) (step c s) e in
      let o = (opening c s w).events in
      let t = (step c s (opening c s w).world).events in
      let g : es ++ (followed (opening c s w) (step c s)).events ≡ (es ++ o) ++ t = ap (λ x. es ++ x) f
      ∙ sym (append_assoc es o t) in
      subst (λ (x : List Event). enables_of isr (es ++ o) ≤ enables_of isr x) (sym g) (grows (es ++ o) t)

  -- the ticks of k + 1 instants of which only the last may end the run
  within_next : (m k : ℕ) → GoesOnBefore c s (m + k)
      → (ticks m (k + 1) ≤ (isr_of c isr).budget *
      (2 + enables_of isr (events_between c s m k ++ (instant c s (world_at c s (m + k))).events)))
      × (ticks m (k + 1) ≤ (isr_of c isr).budget * (2 + arrivals_in m ((m + k) + 1) comes))
  unfolding After
  within_next m k g =
      let w = world_at c s (m + k) in
      let es = events_between c s m k in
      let b = arrivals_in m ((m + k) + 1) comes in
      let p = after m k g in
      let sum = ticks_next m k in
      ⊎_elim
      (λ (over : is_over (opening c s w).end ≡ true).
      let z : now m k ≡ 0 = idle m k over in
      let x = p.1.by_enables in
      let y = p.1.by_arrivals in
      let e = more_times (isr_of c isr).budget _ _ (grows es (instant c s w).events) in
      let a = more_times (isr_of c isr).budget _ _ (count_later m (m + k) comes) in
      (omega arith, omega arith))
      (λ (on : is_over (opening c s w).end ≡ false).
      let q = led_on (Acc c s rules bounds isr within (ticks m k) b (m + k)) Anything es (opening c s w) on
      (opening_acc c s rules bounds isr within (ticks m k) (arrivals_in m (m + k) comes) b (m + k)
      (count_later m (m + k) comes) (λ e. count_found m (m + k) comes (omega arith) e) w es p) in
      let x = q.1.by_enables in
      let y = q.1.by_arrivals in
      let r = ran m k on in
      let n = adds_within c s rules bounds isr within (opening c s w).world
      (runner_of c (opening c s w).world) refl q.1.numbers in
      let e = more_times (isr_of c isr).budget _ _ (instant_grows w es on) in
      (omega arith, omega arith))
      (cases_Bool (is_over (opening c s w).end))

  bounded_next : (m k : ℕ) → GoesOnBefore c s (m + k)
      → ticks_of (is_isr isr) c s m (k + 1) ≤ isr_demand (isr_of c isr)
      (count_by (is_enable isr) (events_between c s m (k + 1))) (k + 1)
  unfolding events_between instant_at ticks
  bounded_next m k g =
      let p = within_next m k g in
      let few = are_few (isr_of c isr).distance m ((m + k) + 1) comes routine.distance (bounds.distances isr within) in
      let z : ((m + k) + 1) - m ≡ k + 1 = omega arith in
      let y : suc k ≡ k + 1 = omega arith in
      let q : ticks_of (is_isr isr) c s m (k + 1) ≤ (isr_of c isr).budget *
      (2 + enables_of isr (events_between c s m (suc k))) = p.0 in
      by_times (isr_of c isr).distance (isr_of c isr).budget (ticks_of (is_isr isr) c s m (k + 1)) _
      (arrivals_in m ((m + k) + 1) comes) (k + 1)
      (subst (λ (j : ℕ). ticks_of (is_isr isr) c s m (k + 1) ≤ (isr_of c isr).budget *
      (2 + enables_of isr (events_between c s m j))) y q) p.1 (rw z at few)

  bounded : (m k : ℕ) → m + k ≤ suc (last_instant c s)
      → ticks_of (is_isr isr) c s m k ≤ isr_demand (isr_of c isr) (count_by (is_enable isr) (events_between c s m k)) k
  unfolding ticks_of
  bounded m zero l = omega arith
  bounded m (suc k) l =
      let last = last_is c s (are_bounded c s rules script) in
      let y : k + 1 ≡ suc k = omega arith in
      subst (λ (j : ℕ). ticks_of (is_isr isr) c s m j ≤ isr_demand (isr_of c isr)
      (count_by (is_enable isr) (events_between c s m j)) j) y
      (bounded_next m k (λ j n. last.first j (omega arith)))

pub isr_bounded : IsrIsBounded
isr_bounded c s rules script bounds isr within m k l = bounded c s rules script bounds isr within m k l
