-- The ends that are seen at each instant of a run; so the checks at an offset of a round are those of its rows.
use Rattle.std.proofs.Common.{ℕ, zero, suc, ◌≡◌, ◌<◌, ◌≤◌, ◌+◌, ◌-◌, List, [], ◌∷◌, ◌++◌, Bool, false, Option, None, Some, refl, ap, sym, ◌∙◌, subst, eqb, arith, length, ⊎_elim}
use Rattle.std.specs.Prelude.{◌&&◌, nat_lt, not}
use Rattle.std.proofs.lemmas.Bool.{cond_both, ltb-true, ltb-false, le-ltb, and_cases, and_left, and_right, or_parts, or_from}
use Rattle.std.proofs.lemmas.List.Elements.{All-get_or}
use Rattle.tt_base.specs.declared.event.Event.{Event}
use Rattle.tt_base.specs.declared.event.Event.TheVariants.{Run, End, Round, Activate, Correct, OsStart}
use Rattle.tt_base.specs.declared.event.Owner.{Owner}
use Rattle.tt_base.specs.declared.event.Owner.TheVariants as owner
use Rattle.task_lang.specs.declared.syntax.Stmt.{Stmt}
use Rattle.tt_world.specs.declared.config.ConfigParts.{ConfigParts}
use Rattle.tt_world.specs.declared.script.ScriptParts.{ScriptParts}
use Rattle.tt_world.specs.declared.world.Point.{Point}
use Rattle.tt_world.specs.World.{World, Job}
use Rattle.tt_world.specs.ConfigRules.{IsConfig, IsTask, is_activation}
use Rattle.tt_world.specs.Moved.{Moved, preceded, event_if}
use Rattle.tt_world.specs.Rows.{offset_of, mode_at, mode_of, row_of, entry_at, body_of, no_row, no_task}
use Rattle.tt_world.specs.Runners.{is_done, left_of, runner_of, owner_of, same_owner}
use Rattle.tt_world.specs.Correction.{is_no_change, is_length}
use Rattle.tt_world.specs.Monitoring.{checked, monitored, is_at, is_at_end}
use Rattle.tt_world.specs.Rounds.{head, latch, next_round, round_end}
use Rattle.tt_world.specs.Gates.{enables, arrivals, acceptances}
use Rattle.tt_world.specs.Opening.{checks, activated, activation, opening}
use Rattle.tt_world.specs.Step.{state_after, runner_tick, is_somebody, run_line, tick_over, step}
use Rattle.tt_world.specs.Schedule.{instant, instant_at, world_at, events_before}
use Rattle.tt_world.specs.Readings.{is_end_after, has_ended}
use Rattle.tt_world.specs.EventLaws.{checked_rows}
use Rattle.tt_world.proofs.Parts.{OfRun, OpeningKeeps, Alone, Anything, LeadsTo, Leads, leads_by, led_on, still_leads, followed_at, followed_leads, opening_leads, GoesOnBefore}
use Rattle.tt_world.proofs.Keeps.{Holds, monitored_holds, enables_hold, arrivals_hold, acceptances_hold}
use Rattle.tt_world.proofs.TableRows.{mode_rows, row_found, list_all_get, both_left}
use Rattle.tt_world.proofs.JobLists.{IsOldPlace, IsNewPlace, place_of_more}
use Rattle.tt_world.proofs.Points.{Ahead, opening_ahead, ahead_at}
use Rattle.tt_world.proofs.Emits.{Of, all_more, event_if_all, enables_all, arrivals_all, acceptances_all, monitored_all}
use Rattle.tt_world.proofs.Forward.{effected_mid}
use Rattle.tt_world.proofs.Places.{Placed, placed_at, opening_placed, single}
use Rattle.tt_world.proofs.EndsSeen.{NoEnd, ended_more, ended_same, early_end}
use Rattle.tt_world.proofs.SeenTicks.{Seen, seen_same, seen_more, no_end_hooks, effected_no_end, step_seen}
use Rattle.tt_world.proofs.CheckRows.{EndsAreSeen, checks_at_offset}

-- ---- no end is later than the present tick

abbrev pub NoneLater : ℕ → List Event → Type 0
NoneLater at es = (who : Owner) → has_ended at who es ≡ false

event_later : (from : ℕ) (who : Owner) (e : Event) → is_end_after from who e ≡ false
    → is_end_after (from + 1) who e ≡ false
event_later from who (End at other) n =
    ⊎_elim (λ (d : same_owner who other ≡ false). and_left (same_owner who other) (nat_lt (from + 1) at) d)
    (λ (d : nat_lt from at ≡ false). let l = ltb-false from at d in
    and_right (same_owner who other) (nat_lt (from + 1) at) (le-ltb (from + 1) at (omega arith)))
    (and_cases (same_owner who other) (nat_lt from at) n)
event_later from who event n = refl

later_too : (from : ℕ) (who : Owner) (es : List Event) → has_ended from who es ≡ false
    → has_ended (from + 1) who es ≡ false
later_too from who [] n = refl
later_too from who (e ∷ es) n =
    let k = or_parts (is_end_after from who e) (has_ended from who es) n in
    or_from (is_end_after (from + 1) who e) (has_ended (from + 1) who es) (event_later from who e k.0)
    (later_too from who es k.1)

some_undone : (body : List Stmt) → 1 ≤ length body → is_done body ≡ false
some_undone [] l = absurd (omega arith)
some_undone (x ∷ body) l = refl

pub record SameAll (w v : World) : Type 0 where
  pub tick : v.tick ≡ w.tick
  pub start : v.start ≡ w.start
  pub mode : v.mode ≡ w.mode
  pub acts : v.jobs ≡ w.jobs

module _ (c : ConfigParts) (s : ScriptParts) (rules : IsConfig c) (T : ℕ) where
  pub record Told (w : World) (es : List Event) : Type 0 where
    pub tick : w.tick ≡ T
    pub started : w.start ≤ T
    pub late : NoneLater T es
    pub seen : Seen c w.start w.mode.0 w.jobs es

  quiet_told : (w v : World) (es fs : List Event) → SameAll w v → Of NoEnd fs → Told w es → Told v (es ++ fs)
  quiet_told w v es fs a q p =
      record {
        tick = a.tick ∙ p.tick;
        started = let l = p.started in let e = a.start in omega arith;
        late = λ who. ended_same T who es fs q ∙ p.late who;
        seen = seen_same c w v (es ++ fs) a.start a.mode a.acts (seen_more c w.start w.mode.0 w.jobs es fs q p.seen);
      }

  same_as : (w : World) → SameAll w w
  same_as w = record { tick = refl; start = refl; mode = refl; acts = refl }

  same_told : (w : World) (es : List Event) (m : Moved) → Told w es → Of NoEnd m.events → Holds (SameAll w) es m
      → LeadsTo Told Anything es m
  same_told w es m p q h = leads_by Told Anything es m
      (λ on. quiet_told w m.world es m.events (led_on (Alone (SameAll w)) Anything es m on h) q p) (λ _. tt)

  latch_told : Leads Told Told Anything (latch c)
  unfolding latch
  latch_told w es p =
      cond_both (eqb (offset_of w) (c.round - c.adjust)) _ _ (LeadsTo Told Anything es)
      (λ _. quiet_told w _ es (event_if (not (is_no_change w.pending)) (Correct w.tick w.pending))
      (record { tick = refl; start = refl; mode = refl; acts = refl })
      (event_if_all NoEnd (not (is_no_change w.pending)) (Correct w.tick w.pending) refl) p)
      (λ _. still_leads Told Anything es w p)

  monitored_told : (is_due : Point → Bool) → Leads Told Told Anything (monitored c is_due)
  monitored_told is_due w es p = same_told w es (monitored c is_due w) p
      (monitored_all NoEnd no_end_hooks c is_due (λ _ _ _. refl) w)
      (monitored_holds (SameAll w) c is_due w es (λ _. same_as w))

  next_told : Leads Told Told Anything (next_round s)
  unfolding next_round
  next_told w es p =
      cond_both (eqb w.number s.rounds) _ _ (LeadsTo Told Anything es) (λ _. tt)
      (λ _. record {
        tick = p.tick;
        started = let t = p.tick in omega arith;
        late = λ who. ended_same T who es (Round w.tick (w.number + 1) w.wanted ∷ []) (refl, tt) ∙ p.late who;
        seen = λ place l. absurd (omega arith);
      })

  round_end_told : Leads Told Told Anything (round_end c s)
  unfolding round_end
  round_end_told w es p =
      cond_both (is_length w.latched (offset_of w)) _ _ (LeadsTo Told Anything es)
      (λ _. followed_leads Told Told Anything es (monitored c (is_at_end (offset_of w)) w) (next_round s)
      (monitored_told (is_at_end (offset_of w)) w es p) next_told)
      (λ _. still_leads Told Anything es w p)

  row_task : (number entry : ℕ) → entry < length (mode_at c number).activations
      → is_done (body_of c (row_of (mode_at c number) entry).task) ≡ false
  row_task number entry l =
      let row = row_of (mode_at c number) entry in
      let h = list_all_get (is_activation c) (mode_at c number).activations entry no_row
      (mode_rows c number rules).activations l in
      let within = ltb-true row.task.0 (length c.tasks) (both_left (nat_lt row.task.0 (length c.tasks)) _ h) in
      some_undone (body_of c row.task) (All-get_or
      (IsTask c) c.tasks row.task.0 no_task within rules.tasks).routine.some

  activated_told : (found : Option ℕ) (w : World) (es : List Event)
      → entry_at (offset_of w) (mode_of c w).activations ≡ found → Told w es
      → LeadsTo Told Anything es (activated c found w)
  activated_told None w es e p = still_leads Told Anything es w p
  activated_told (Some entry) w es e p =
      let task = (row_of (mode_of c w) entry).task in
      let y : Job = record { entry = entry; left = body_of c task } in
      let fs = Activate w.tick task ∷ [] in
      let row = row_found (offset_of w) entry (mode_of c w) e in
      let Goal : Job → Type 0 = λ (i : Job). is_done i.left ≡ has_ended
      (w.start + (row_of (mode_of c w) i.entry).offset) (owner.Task (row_of (mode_of c w) i.entry).task)
      (es ++ fs) in
      let more = seen_more c w.start w.mode.0 w.jobs es fs (refl, tt) p.seen in
      let here = row.1 in
      let tick = p.tick in
      let started = p.started in
      let now : w.start + (row_of (mode_of c w) entry).offset ≡ T = omega arith in
      let fresh : Goal y = row_task w.mode.0 entry row.0
      ∙ sym (ap (λ (x : ℕ). has_ended x (owner.Task task) (es ++ fs)) now
      ∙ ended_same T (owner.Task task) es fs (refl, tt) ∙ p.late (owner.Task task)) in
      record {
        tick = p.tick;
        started = p.started;
        late = λ who. ended_same T who es fs (refl, tt) ∙ p.late who;
        seen = λ place l.
            ⊎_elim (λ (old : IsOldPlace w.jobs y place). subst Goal (sym old.1) (more place old.0))
            (λ (new : IsNewPlace w.jobs y place). subst Goal (sym new.1) fresh) (place_of_more w.jobs y place l);
      }

  activation_told : Leads Told Told Anything (activation c)
  unfolding activation
  activation_told w es p = activated_told _ w es refl p

  opening_told : OpeningKeeps c s (λ _. Told) Anything
  unfolding head checks
  opening_told = record {
    head_is = λ w es _ p. quiet_told w w es (OsStart w.tick s.start ∷ Round w.tick 1 s.start ∷ []) (same_as w)
        (refl, (refl, tt)) p;
    latch_is = latch_told;
    round_end_is = round_end_told;
    checks_are = λ w es p. monitored_told (is_at (offset_of w)) w es p;
    enables_are = λ w es p. same_told w es (enables c w) p (enables_all NoEnd c (λ _ _. refl) w)
        (enables_hold (SameAll w)
        (λ v _ _ _ _ _ a. record { tick = a.tick; start = a.start; mode = a.mode; acts = a.acts }) c w es (same_as w));
    arrivals_are = λ w es p. same_told w es (arrivals c s w) p (arrivals_all NoEnd c s (λ _ _. refl) (λ _ _. refl) w)
        (arrivals_hold (SameAll w)
        (λ v _ _ _ _ _ a. record { tick = a.tick; start = a.start; mode = a.mode; acts = a.acts }) c s w es
        (same_as w));
    acceptances_are = λ w es p. same_told w es (acceptances c w) p (acceptances_all NoEnd c (λ _ _. refl) w)
        (acceptances_hold (SameAll w)
        (λ v _ _ _ _ _ a. record { tick = a.tick; start = a.start; mode = a.mode; acts = a.acts }) c w es (same_as w));
    activation_is = activation_told;
  }

  -- the clock of a tick, and no end later than it
  abbrev Clock : OfRun
  Clock v fs = (v.tick ≡ T + 1) × (v.start ≤ T + 1) × NoneLater (T + 1) fs

  step_clock : (w : World) (es : List Event) → Told w es → LeadsTo Clock Anything es (step c s w)
  unfolding step
  step_clock w es p =
      let r = runner_of c w in
      let who = owner_of c w r in
      let state = state_after c s w (left_of w r) in
      let v = record w { vars = state.vars; cursors = state.cursors } in
      let tick = runner_tick c s r who w in
      let line = run_line w who ++ tick.move.events in
      let quiet = all_more NoEnd (run_line w who) tick.move.events (event_if_all NoEnd _ (Run w.tick who) refl)
      (effected_no_end c s r who state.effects state.left v) in
      followed_at Clock Anything es (preceded (run_line w who) tick.move) (tick_over who (is_somebody r && tick.ended))
      (λ over. tt)
      (λ on.
      let mid = effected_mid c s r who state.effects state.left w v refl refl refl refl on in
      let t = mid.tick in
      let b = mid.start in
      let now = p.tick in
      let started = p.started in (
        omega arith,
        omega arith,
        λ (other : Owner).
            ended_more (T + 1) other (es ++ line)
            (event_if (is_somebody r && tick.ended) (End (tick.move.world.tick + 1) who))
            ∙ or_from (has_ended (T + 1) other (es ++ line))
            (has_ended (T + 1) other (event_if (is_somebody r && tick.ended) (End (tick.move.world.tick + 1) who)))
            (ended_same (T + 1) other es line quiet ∙ later_too T other es (p.late other))
            (early_end (T + 1) (tick.move.world.tick + 1) other who (is_somebody r && tick.ended) (omega arith)),
      ))

module _ (c : ConfigParts) (s : ScriptParts) (rules : IsConfig c) where
  instant_told : (T : ℕ) (w : World) (es : List Event) → Placed c 0 w → Ahead c 0 w → Told c s rules T w es
      → LeadsTo (Told c s rules (T + 1)) Anything es (instant c s w)
  unfolding instant
  instant_told T w es h a p =
      let m = opening c s w in
      followed_at (Told c s rules (T + 1)) Anything es m (step c s) (λ _. tt)
      (λ on.
      let ds = es ++ m.events in
      let told = led_on (Told c s rules T) Anything es m on
      (opening_leads c s (λ _. Told c s rules T) Anything (opening_told c s rules T) w es p) in
      let placed = led_on (Alone (Placed c 1)) Anything es m on (opening_placed c s rules w es h) in
      let ahead = led_on (Alone (Ahead c 1)) Anything es m on (opening_ahead c s rules w es a) in
      let next = step c s m.world in
      leads_by (Told c s rules (T + 1)) Anything ds next
      (λ e.
      let clock = led_on (Clock c s rules T) Anything ds next e (step_clock c s rules T m.world ds told) in
      record {
        tick = clock.0;
        started = clock.1;
        late = clock.2;
        seen = led_on (λ v fs. Seen c v.start v.mode.0 v.jobs fs) Anything ds next e
            (step_seen c s m.world ds placed (single c s rules m.world ahead placed) told.seen);
      })
      (λ _. tt))

  pub told_at : (n : ℕ) → GoesOnBefore c s n → Told c s rules n (world_at c s n) (events_before c s n)
  unfolding world_at events_before instant_at
  told_at zero g = record {
    tick = refl;
    started = omega arith;
    late = λ who. refl;
    seen =
        λ place l. absurd (omega arith);
  }
  told_at (suc n) g =
      let z : n + 1 ≡ suc n = omega arith in
      let h : GoesOnBefore c s n = λ k l. g k (omega arith) in
      subst (λ (j : ℕ). Told c s rules j (world_at c s (suc n)) (events_before c s (suc n))) z
      (led_on (Told c s rules (n + 1)) Anything (events_before c s n) (instant c s (world_at c s n)) (g n (omega arith))
      (instant_told n (world_at c s n) (events_before c s n) (placed_at c s rules n h) (ahead_at c s rules n h)
      (told_at n h)))

  -- nothing is left of an activation exactly where its task has an end among the events so far
  pub ends_are_seen : (n : ℕ) → GoesOnBefore c s n → (is_due : Point → Bool)
      → EndsAreSeen c (world_at c s n) (events_before c s n) is_due
  ends_are_seen n g is_due i l d =
      let w = world_at c s n in
      let entry = (placed_at c s rules n g).entries i l in
      (told_at n g).seen i l
      ∙ ap (λ (j : ℕ). has_ended (w.start + (row_of (mode_of c w) j).offset) (owner.Task (row_of (mode_of c w) j).task)
      (events_before c s n)) entry

  -- at each instant the checks at the present offset are those of the rows whose points are this offset, read from the
  -- events so far
  pub checks_at : (n : ℕ) → GoesOnBefore c s n → let w = world_at c s n in
      (checked w.tick (mode_of c w) (is_at (offset_of w)) w.jobs).events ≡ checked_rows
      (events_before c s n) w.tick w.start (mode_of c w) (is_at (offset_of w)) (mode_of c w).activations
  checks_at n g =
      let w = world_at c s n in
      checks_at_offset c rules w (events_before c s n) (placed_at c s rules n g)
      (ends_are_seen n g (is_at (offset_of w)))
