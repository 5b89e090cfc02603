-- The law of owners: of time-triggered routines, of tasks and of idle time.
use Rattle.std.proofs.Common.{ℕ, zero, suc, ◌≡◌, ◌<◌, ◌≤◌, ◌+◌, List, [], ◌∷◌, ◌++◌, true, false, Option, None, Some, refl, ap, sym, ◌∙◌, subst, arith, length, append_assoc, append-nil, ⊎_elim, get_or}
use Rattle.std.specs.Prelude.{nat_le, filter, flat_map, not, replicate}
use Rattle.std.proofs.lemmas.List.{length-replicate, get_or-replicate, get_or_past}
use Rattle.std.proofs.lemmas.List.Elements.{filter-append}
use Rattle.std.proofs.lemmas.Bool.{cases_Bool, cases_lt, false≢true}
use Rattle.tt_base.specs.declared.event.Event.{Event}
use Rattle.tt_base.specs.declared.event.Event.TheVariants.{Run}
use Rattle.tt_base.specs.declared.event.Owner.{Owner}
use Rattle.tt_world.specs.declared.config.ConfigParts.{ConfigParts}
use Rattle.tt_world.specs.declared.script.ScriptParts.{ScriptParts}
use Rattle.task_lang.specs.declared.syntax.Stmt.{Stmt}
use Rattle.tt_world.specs.World.{World}
use Rattle.tt_world.specs.ConfigRules.{IsConfig}
use Rattle.tt_world.specs.ScriptRules.{IsScript}
use Rattle.tt_world.specs.Moved.{Moved, is_over}
use Rattle.tt_world.specs.Opening.{opening}
use Rattle.tt_world.specs.Runners.{is_done, runner_of, owner_of}
use Rattle.tt_world.specs.Step.{runner_tick, step, run_line}
use Rattle.tt_world.specs.Schedule.{IsBounded, instant, instant_at, world_at, events_before, last_instant, schedule}
use Rattle.tt_world.specs.Status.{stamp_of, stamp_after, last_stamp, status_of, Shut}
use Rattle.tt_world.specs.Readings.{after_round, seen_at, last_owner, owner_after, present_round, task_if, isr_if}
use Rattle.tt_world.specs.EventLaws.{IsTaken, IsOwner, OwnersRun}
use Rattle.tt_world.specs.RunLaws.{OwnersLaw}
use Rattle.tt_world.proofs.Parts.{OfRun, Alone, Anything, LeadsTo, GoesOnBefore, leads_by, led_on, led_over, followed_leads, followed_on, followed_events}
use Rattle.tt_world.proofs.Points.{Ahead, ahead_at, opening_ahead}
use Rattle.tt_world.proofs.Ends.{are_bounded, last_is}
use Rattle.tt_world.proofs.Emits.{Of, all_more}
use Rattle.tt_world.proofs.Owners.{Ran, LastRan, owner-append, run_now, opening_ran, instant_ran}
use Rattle.tt_world.proofs.Stamps.{Mute, IsAt, MuteAt, AtTick, EndsAtTick, StillAt, is_still, each_of, shut_at, status_after, opening_at_tick, followed_go, followed_over, all_seen, none_seen, Reads, step_reads, served_still}
use Rattle.tt_world.proofs.OpenLists.{tasks_of, tasks_are, isrs_are}
use Rattle.tt_world.proofs.Unended.{FactsOf, opening_facts}
use Rattle.tt_world.proofs.OpenTicks.{now_facts, step_facts}
use Rattle.tt_world.proofs.TheOwner.{is_owner}

still_after : (e : Event) → is_still e ≡ true → (before : Option Owner) → owner_after before e ≡ before
still_after (Run at who) n before = cc
still_after e n before = refl

still_silent : (t : ℕ) (es : List Event) → Of (StillAt t) es → (before : Option Owner) → last_owner before es ≡ before
unfolding last_owner
still_silent t [] p before = refl
still_silent t (e ∷ es) p before = ap (λ (o : Option Owner). last_owner o es) (still_after e p.0.1 before)
    ∙ still_silent t es p.1 before

-- what an instant's events say of its tick
record Said (T : ℕ) (m : Moved) : Type 0 where
  pub low : Of (λ e. T ≤ stamp_of e) m.events
  pub on : is_over m.end ≡ false → Of Mute m.events
  pub over : is_over m.end ≡ true → Of (IsAt T) m.events

stamps_low : (t x : ℕ) (es : List Event) → x ≤ t → Of (λ e. stamp_of e ≤ t) es → stamp_after x es ≤ t
stamps_low t x [] l p = l
stamps_low t x (e ∷ es) l p = stamps_low t (stamp_of e) es p.0 p.1

-- ---- an instant

module _ (c : ConfigParts) (s : ScriptParts) (T : ℕ) (w : World) (t : w.tick ≡ T) where
  abbrev begun : Moved
  begun = opening c s w

  at_opening : LeadsTo (AtTick c s T) (EndsAtTick c s T) [] begun
  at_opening = opening_at_tick c s T w t

  goes : is_over begun.end ≡ false → (begun.world.tick ≡ T) × Of (MuteAt T) begun.events
  goes e = led_on (AtTick c s T) (EndsAtTick c s T) [] begun e at_opening

  reads : is_over begun.end ≡ false → Reads T (step c s begun.world)
      (run_line begun.world (owner_of c begun.world (runner_of c begun.world))
      ++ (runner_tick c s (runner_of c begun.world)
      (owner_of c begun.world (runner_of c begun.world)) begun.world).move.events)
  reads e =
      subst (λ (k : ℕ). Reads k (step c s begun.world)
      (run_line begun.world (owner_of c begun.world (runner_of c begun.world))
      ++ (runner_tick c s (runner_of c begun.world)
      (owner_of c begun.world (runner_of c begun.world)) begun.world).move.events)) (goes e).0
      (step_reads c s begun.world)

  said : Said T (instant c s w)
  unfolding instant
  said =
      ⊎_elim
      (λ (over : is_over begun.end ≡ true).
      let at = (led_over (AtTick c s T) (EndsAtTick c s T) [] begun over at_opening).0 in
      subst (Said T) (sym (followed_over begun (step c s) over))
      (record {
        low = each_of (IsAt T) (λ e. T ≤ stamp_of e) (λ e q. omega arith) begun.events at;
        on =
            λ on. absurd (false≢true (sym on ∙ over));
        over = λ _. at;
      }))
      (λ (on : is_over begun.end ≡ false).
      let g = (goes on).1 in
      let r = reads on in
      let more = (step c s begun.world).events in
      subst (Said T) (sym (followed_go begun (step c s) on))
      (record {
        low = all_more (λ e. T ≤ stamp_of e) begun.events more
            (each_of (MuteAt T) (λ e. T ≤ stamp_of e) (λ e q. let z = q.0 in omega arith) begun.events g) r.low;
        on = λ e. all_more Mute begun.events more (each_of (MuteAt T) Mute (λ e q. q.1) begun.events g) (r.on e);
        over = λ e. all_more (IsAt T) begun.events more (each_of (MuteAt T) (IsAt T) (λ e q. q.0) begun.events g)
            (r.over e);
      }))
      (cases_Bool (is_over begun.end))

  -- an opening that ends the run does not end it by a ttShutdownOS
  shut_on : (u : ℕ) → status_of (instant c s w).events ≡ Shut u → is_over begun.end ≡ false
  unfolding instant
  shut_on u h =
      ⊎_elim
      (λ (over : is_over begun.end ≡ true). absurd
      ((led_over (AtTick c s T) (EndsAtTick c s T) [] begun over at_opening).1 u
      (sym (ap (λ (m : Moved). status_of m.events) (followed_over begun (step c s) over)) ∙ h)))
      (λ (on : is_over begun.end ≡ false). on) (cases_Bool (is_over begun.end))

all_done : (k i : ℕ) → is_done (get_or (replicate k []) i []) ≡ true
all_done k i =
    ⊎_elim (λ (l : i < k). ap is_done (get_or-replicate k i [] [] l))
    (λ (g : k ≤ i). ap is_done (get_or_past (replicate k []) i []
    (let n = length-replicate {A = List Stmt} k [] in omega arith))) (cases_lt i k)

-- ---- a run

module _ (c : ConfigParts) (s : ScriptParts) (rules : IsConfig c) (script : IsScript c s) where
  abbrev pub State : ℕ → OfRun
  State n v es = FactsOf c n n v es × (Ran v.last es × Of Mute es)

  -- after an opening that goes on
  opened : (n : ℕ) (w : World) (es : List Event) → FactsOf c n n w es → Ahead c 0 w
      → LeadsTo (λ v fs. FactsOf c n (n + 1) v fs × Ahead c 1 v) Anything es (opening c s w)
  opened n w es f a =
      leads_by (λ v fs. FactsOf c n (n + 1) v fs × Ahead c 1 v) Anything es (opening c s w)
      (λ e. (
        led_on (FactsOf c n (n + 1)) Anything es (opening c s w) e (opening_facts c s rules n w es f),
        led_on
            (Alone (Ahead c 1)) Anything es (opening c s w) e (opening_ahead c s rules w es a),
      )) (λ _. tt)

  facts_next : (n : ℕ) (w : World) (es : List Event) → FactsOf c n n w es → Ahead c 0 w
      → LeadsTo (FactsOf c (n + 1) (n + 1)) Anything es (instant c s w)
  unfolding instant
  facts_next n w es f a =
      followed_leads (λ v fs. FactsOf c n (n + 1) v fs × Ahead c 1 v) (FactsOf c (n + 1) (n + 1)) Anything es
      (opening c s w) (step c s) (opened n w es f a) (λ v ds p. step_facts c s rules n v ds p.0 p.1)

  pub state_at : (n : ℕ) → GoesOnBefore c s n → State n (world_at c s n) (events_before c s n)
  unfolding world_at events_before instant_at last_owner after_round
  state_at zero g = (
    (
      refl,
      record {
        stamps = tt;
        started = omega arith;
        rows = λ p l. absurd (omega arith);
        up = λ i j k l. absurd (omega arith);
        tasks = refl;
        runs = λ k. sym (ap not (all_done (length c.isrs) k));
        sized = length-replicate (length c.isrs) [];
        gates = length-replicate (length c.isrs) false;
      },
    ),
    (refl, tt),
  )
  state_at (suc n) g =
      let z : n + 1 ≡ suc n = omega arith in
      let h : GoesOnBefore c s n = λ k l. g k (omega arith) in
      let w = world_at c s n in
      let es = events_before c s n in
      let on = g n (omega arith) in
      let p = state_at n h in
      let f = led_on (FactsOf c (n + 1) (n + 1)) Anything es (instant c s w) on
      (facts_next n w es p.0 (ahead_at c s rules n h)) in (
        subst (λ (j : ℕ). FactsOf c j j (world_at c s (suc n)) (events_before c s (suc n))) z f,
        (
          led_on LastRan Anything es (instant c s w) on (instant_ran c s w es p.1.0),
          all_more Mute es
              (instant c s w).events p.1.1 ((said c s n w p.0.0).on on),
        ),
      )

  abbrev n : ℕ
  n = last_instant c s

  bounded : IsBounded c s
  bounded = are_bounded c s rules script

  pub before : (k : ℕ) → k ≤ n → GoesOnBefore c s k
  before k l j m = (last_is c s bounded).first j (omega arith)

  said_at : (k : ℕ) → k ≤ n → Said k (instant_at c s k)
  unfolding instant_at
  said_at k l = said c s k (world_at c s k) (state_at k (before k l)).0.0

  -- later instants are not seen
  pub later_unseen : (u j : ℕ) → u + 1 ≤ j → j ≤ n + 1
      → seen_at u (events_before c s j) ≡ seen_at u (events_before c s (suc u))
  unfolding events_before
  later_unseen u zero l m = absurd (omega arith)
  later_unseen u (suc j) l m =
      ⊎_elim
      (λ (lt : u < j).
      let fs = (instant_at c s j).events in
      let none =
      none_seen u fs (each_of (λ e. j ≤ stamp_of e) (λ e. u + 1 ≤ stamp_of e) (λ e q. omega arith) fs
      (said_at j (omega arith)).low) in
      filter-append (λ (event : Event). nat_le (stamp_of event) u) (events_before c s j) fs
      ∙ ap (λ (xs : List Event). seen_at u (events_before c s j) ++ xs) none
      ∙ append-nil (seen_at u (events_before c s j))
      ∙ later_unseen u j (omega arith) (omega arith))
      (λ (ge : j ≤ u). let same : j ≡ u = omega arith in ap (λ (k : ℕ). seen_at u (events_before c s (suc k))) same)
      (cases_lt u j)

  -- the owner according to the events seen
  abbrev OwnerBy : List Event → Type 0
  OwnerBy seen = IsOwner c (last_owner None seen) (flat_map (task_if seen) (present_round seen))
      (flat_map (isr_if seen) seen)

  module _ (u : ℕ) (l : u ≤ n) (on : is_over (opening c s (world_at c s u)).end ≡ false) where
    abbrev first : World
    first = world_at c s u

    abbrev es : List Event
    es = events_before c s u

    abbrev o : Moved
    o = opening c s first

    abbrev who : Owner
    who = owner_of c o.world (runner_of c o.world)

    abbrev line : List Event
    line = run_line o.world who

    abbrev now : List Event
    now = (runner_tick c s (runner_of c o.world) who o.world).move.events

    abbrev state : State u first es
    state = state_at u (before u l)

    -- the events of a tick that the run takes: those before its instant, its opening, and its tick without the end
    pub seen_now : seen_at u (schedule c s) ≡ (es ++ o.events) ++ (line ++ now)
    unfolding schedule events_before instant_at instant
    seen_now =
        let test = λ (event : Event). nat_le (stamp_of event) u in
        let st = state.0 in
        let fs = (instant_at c s u).events in
        let r = reads c s u first st.0 on in
        let g = (goes c s u first st.0 on).1 in
        let split : fs ≡ o.events ++ (step c s o.world).events = followed_events o (step c s) on in
        let part : filter test fs ≡ o.events ++ (line ++ now) =
        ap (filter test) split ∙ filter-append test o.events (step c s o.world).events
        ∙ ap (λ (xs : List Event). xs ++ filter test (step c s o.world).events)
        (all_seen u o.events (each_of (MuteAt u) (λ e. stamp_of e ≤ u)
        (λ e q. let z = q.0 in omega arith) o.events g))
        ∙ ap (λ (xs : List Event). o.events ++ xs) r.seen in
        later_unseen u (suc n) (omega arith) (omega arith)
        ∙ filter-append test es fs ∙ ap (λ (xs : List Event). xs ++ filter test fs) (all_seen u es st.1.stamps)
        ∙ ap (λ (xs : List Event). es ++ xs) part
        ∙ sym (append_assoc es o.events (line ++ now))

    opened_now : FactsOf c u (u + 1) o.world (es ++ o.events)
    opened_now =
        (led_on (λ v fs. FactsOf c u (u + 1) v fs × Ahead c 1 v) Anything es o on
        (opened u first es state.0 (ahead_at c s rules u (before u l)))).0

    ran_now : last_owner None ((es ++ o.events) ++ (line ++ now)) ≡ Some who
    ran_now =
        let r = led_on LastRan Anything es o on (opening_ran c s first es state.1.0) in
        ap (last_owner None) (sym (append_assoc (es ++ o.events) line now))
        ∙ owner-append None ((es ++ o.events) ++ line) now
        ∙ still_silent o.world.tick now (served_still c s o.world (runner_of c o.world) who) _
        ∙ run_now c s o.world who (es ++ o.events) r

    owner_now : OwnerBy (seen_at u (schedule c s))
    owner_now =
        let all = (es ++ o.events) ++ (line ++ now) in
        let is = is_owner c rules u (u + 1) o.world all (now_facts c s rules u o.world (es ++ o.events) opened_now) in
        subst OwnerBy (sym seen_now)
        (subst (λ who. IsOwner c who (flat_map (task_if all) (present_round all)) (flat_map (isr_if all) all))
        (sym ran_now)
        (subst (λ tasks. IsOwner c (Some who) tasks (flat_map (isr_if all) all)) (sym (tasks_are all))
        (subst (λ isrs. IsOwner c (Some who) (tasks_of all) isrs) (sym (isrs_are all)) is)))

  -- no stamp is later than the last instant
  last_low : last_stamp (schedule c s) ≤ n
  unfolding schedule events_before
  last_low =
      let st = state_at n (before n (omega arith)) in
      let last = (said_at n (omega arith)).over (last_is c s bounded).ends in
      let fs = (instant_at c s n).events in
      stamps_low n 0 (events_before c s n ++ fs) (omega arith)
      (all_more (λ e. stamp_of e ≤ n) (events_before c s n) fs st.0.1.stamps
      (each_of (IsAt n) (λ e. stamp_of e ≤ n) (λ e q. omega arith) fs last))

  goes_on : (u : ℕ) → u < n → is_over (opening c s (world_at c s u)).end ≡ false
  unfolding instant_at instant
  goes_on u l = followed_on (opening c s (world_at c s u)) (step c s) ((last_is c s bounded).first u l)

  -- the opening of a tick that the run takes goes on
  pub taken : (u : ℕ) → IsTaken (schedule c s) u
      → (u ≤ n) × (is_over (opening c s (world_at c s u)).end ≡ false)
  unfolding schedule events_before instant_at
  taken u t =
      ⊎_elim
      (λ (l : u < last_stamp (schedule c s)).
      let m = last_low in
      let early : u < n = omega arith in (omega arith, goes_on u early))
      (λ (h : status_of (schedule c s) ≡ Shut u).
      let st = state_at n (before n (omega arith)) in
      let tells = sym (status_after (events_before c s n) (instant_at c s n).events st.1.1) ∙ h in
      let same : u ≡ n = shut_at (instant_at c s n).events n u
      ((said_at n (omega arith)).over (last_is c s bounded).ends) tells in (
        omega arith,
        subst (λ (k : ℕ). is_over (opening c s (world_at c s k)).end ≡ false) (sym same)
            (shut_on c s n (world_at c s n) st.0.0 u tells),
      ))
      t

  owners_run : OwnersRun c (schedule c s)
  owners_run u t = let h = taken u t in owner_now u h.0 h.1

-- each tick has the owner according to the events before it
pub owners_are_right : OwnersLaw
owners_are_right c s rules script = owners_run c s rules script
