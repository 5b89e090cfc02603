-- The checks of an instant at the end of its round; and the ends seen at a tick are those among the events before it.
use Rattle.std.proofs.Common.{ℕ, suc, ◌≡◌, ◌≤◌, ◌+◌, ◌-◌, List, [], ◌∷◌, ◌++◌, Bool, true, false, refl, ap, sym, ◌∙◌, subst, arith, ⊎_elim}
use Rattle.std.specs.Prelude.{filter, nat_le, not}
use Rattle.std.proofs.lemmas.Bool.{cond_both, cases_Bool}
use Rattle.std.proofs.lemmas.List.Elements.{filter-append}
use Rattle.tt_base.specs.declared.event.Event.{Event}
use Rattle.tt_base.specs.declared.event.Event.TheVariants.{Run, End}
use Rattle.tt_base.specs.declared.event.Owner.{Owner}
use Rattle.tt_base.specs.declared.event.Owner.TheVariants as owner
use Rattle.tt_world.specs.declared.config.Activation.{Activation as ActivationRow}
use Rattle.tt_world.specs.declared.config.ConfigParts.{ConfigParts}
use Rattle.tt_world.specs.declared.config.ModeDef.{ModeDef}
use Rattle.tt_world.specs.declared.script.ScriptParts.{ScriptParts}
use Rattle.tt_world.specs.declared.world.Point.{Point}
use Rattle.tt_world.specs.World.{World}
use Rattle.tt_world.specs.ConfigRules.{IsConfig}
use Rattle.tt_world.specs.ScriptRules.{IsScript}
use Rattle.tt_world.specs.Moved.{Moved, is_over}
use Rattle.tt_world.specs.Rows.{offset_of, mode_of, row_of, entry_at}
use Rattle.tt_world.specs.Runners.{runner_of, owner_of, ran_before}
use Rattle.tt_world.specs.Points.{point_of}
use Rattle.tt_world.specs.Monitoring.{checked, is_at, is_at_end}
use Rattle.tt_world.specs.Rounds.{head, latch, round_end}
use Rattle.tt_world.specs.Gates.{enables, arrivals, acceptances}
use Rattle.tt_world.specs.Opening.{checks, activation, opening}
use Rattle.tt_world.specs.Step.{run_line, runner_tick, step}
use Rattle.tt_world.specs.Schedule.{instant, instant_at, world_at, events_before, last_instant, schedule}
use Rattle.tt_world.specs.Status.{stamp_of}
use Rattle.tt_world.specs.Readings.{seen_at, has_ended}
use Rattle.tt_world.specs.EventLaws.{checked_rows}
use Rattle.tt_world.proofs.Parts.{OfRun, OfEnd, OpeningKeeps, Leads, leads_by, led_on, led_over, opening_leads, followed_events, GoesOnBefore}
use Rattle.tt_world.proofs.Ends.{are_bounded, last_is, tick_at}
use Rattle.tt_world.proofs.Emits.{Of, all_more, event_if_all, latch_all, round_end_all, monitored_all, enables_all, arrivals_all, acceptances_all, activated_all}
use Rattle.tt_world.proofs.TableRows.{mode_rows, deadline_after}
use Rattle.tt_world.proofs.TableRows.{deadline_low}
use Rattle.tt_world.proofs.Places.{Placed, placed_at}
use Rattle.tt_world.proofs.CheckRows.{checks_are_rows, row_due, row_not_due, no_rows, check_of, EndsAreSeen}
use Rattle.tt_world.proofs.EndsSeen.{NoEnd, is_end, ended_same}
use Rattle.tt_world.proofs.SeenTicks.{no_end_hooks}
use Rattle.tt_world.proofs.SeenRuns.{ends_are_seen}
use Rattle.tt_world.proofs.Stamps.{AtTick, EndsAtTick, StillAt, is_still, each_of, opening_at_tick, followed_over, all_seen, step_reads, served_still}
use Rattle.tt_world.proofs.OwnerLaws.{state_at, later_unseen}

-- ---- at the end of a round

-- the checks at the end of a round are those of the rows whose points are not earlier offsets
checks_at_length : (c : ConfigParts) → IsConfig c → (w : World) (es : List Event) → Placed c 0 w
    → c.round - c.adjust ≤ offset_of w → EndsAreSeen c w es (is_at_end (offset_of w))
    → (checked w.tick (mode_of c w) (is_at_end (offset_of w)) w.jobs).events
    ≡ checked_rows es w.tick w.start (mode_of c w) (is_at_end (offset_of w)) (mode_of c w).activations
checks_at_length c rules w es p late seen =
    let mode = mode_of c w in
    checks_are_rows es w.tick w.start mode (is_at_end (offset_of w)) 0 w.jobs mode.activations
    (record {
      entries = λ i l. let z : 0 + i ≡ i = omega arith in p.entries i l ∙ sym z;
      rows_are = λ i l. let z : 0 + i ≡ i = omega arith in ap (row_of mode) (sym z);
      few = p.few;
      later = λ i g l.
          let rows = mode_rows c w.mode.0 rules in
          let after = p.later i g l in
          let dead = deadline_after c mode i rows l in
          let low = deadline_low c mode i rows in
          absurd (omega arith);
      met = λ i l d. seen i l d;
    })

-- at each instant, where the round can end there, the checks at its end are read from the events so far
pub checks_at_end : (c : ConfigParts) (s : ScriptParts) → IsConfig c → (n : ℕ) → GoesOnBefore c s n
    → let w = world_at c s n in
    let mode = mode_of c w in
    let is_due = is_at_end (offset_of w) in
    c.round - c.adjust ≤ offset_of w
    → (checked w.tick mode is_due w.jobs).events
    ≡ checked_rows (events_before c s n) w.tick w.start mode is_due mode.activations
checks_at_end c s rules n g late =
    let w = world_at c s n in
    checks_at_length c rules w (events_before c s n) (placed_at c s rules n g) late
    (ends_are_seen c s rules n g (is_at_end (offset_of w)))

-- ---- only the ends count

abbrev pub SameEnds : List Event → List Event → Type 0
SameEnds es fs = (from : ℕ) (who : Owner) → has_ended from who es ≡ has_ended from who fs

module _ (es fs : List Event) (same : SameEnds es fs) (at start : ℕ) (mode : ModeDef) (is_due : Point → Bool) where
  pub rows_same : (rows : List ActivationRow)
      → checked_rows es at start mode is_due rows ≡ checked_rows fs at start mode is_due rows
  rows_same [] = no_rows es at start mode is_due ∙ sym (no_rows fs at start mode is_due)
  rows_same (row ∷ rows) =
      let rest = rows_same rows in
      let met = has_ended (start + row.offset) (owner.Task row.task) es in
      ⊎_elim
      (λ (d : is_due (point_of mode row) ≡ true).
      row_due es at start mode is_due row rows met d refl
      ∙ ap (λ (xs : List Event). check_of es at start mode is_due row.task met xs) rest
      ∙ sym (row_due fs at start mode is_due row rows met d (sym (same (start + row.offset) (owner.Task row.task)))))
      (λ (d : is_due (point_of mode row) ≡ false).
      row_not_due es at start mode is_due row rows d ∙ rest ∙ sym (row_not_due fs at start mode is_due row rows d))
      (cases_Bool (is_due (point_of mode row)))

-- ---- the ends of an instant come after its tick

of_filter : (E : Event → Type 0) (test : Event → Bool) (es : List Event) → Of E es → Of E (filter test es)
of_filter E test [] p = tt
of_filter E test (e ∷ es) p =
    let rest = of_filter E test es p.1 in cond_both (test e) _ _ (Of E) (λ _. (p.0, rest)) (λ _. rest)

pub still_end : (e : Event) → is_still e ≡ true → is_end e ≡ false
still_end (End at who) n = cc
still_end e n = refl

module _ (c : ConfigParts) (s : ScriptParts) where
  abbrev NoEnds : OfRun
  NoEnds w es = Of NoEnd es

  abbrev NoEndsOver : OfEnd
  NoEndsOver end w es = Of NoEnd es

  no_ends : (part : World → Moved) → ((w : World) → Of NoEnd (part w).events) → Leads NoEnds NoEnds NoEndsOver part
  no_ends part h w es p =
      leads_by NoEnds NoEndsOver es (part w) (λ _. all_more NoEnd es (part w).events p (h w))
      (λ _. all_more NoEnd es (part w).events p (h w))

  opening_keeps : OpeningKeeps c s (λ _. NoEnds) NoEndsOver
  unfolding head checks activation
  opening_keeps = record {
    head_is = λ w es z p. no_ends (head s) (λ _. (refl, (refl, tt))) w es p;
    latch_is = no_ends (latch c) (latch_all NoEnd c (λ _ _. refl));
    round_end_is = no_ends (round_end c s)
        (round_end_all NoEnd no_end_hooks c s (λ _ _ _. refl) (λ _. refl) (λ _ _ _. refl));
    checks_are = no_ends (checks c) (λ w. monitored_all NoEnd no_end_hooks c (is_at (offset_of w)) (λ _ _ _. refl) w);
    enables_are = no_ends (enables c) (enables_all NoEnd c (λ _ _. refl));
    arrivals_are = no_ends (arrivals c s) (arrivals_all NoEnd c s (λ _ _. refl) (λ _ _. refl));
    acceptances_are = no_ends (acceptances c) (acceptances_all NoEnd c (λ _ _. refl));
    activation_is = no_ends (activation c)
        (λ w. activated_all NoEnd c (entry_at (offset_of w) (mode_of c w).activations) (λ _ _. refl) w);
  }

  -- an opening has no end
  pub opening_no_end : (w : World) → Of NoEnd (opening c s w).events
  opening_no_end w =
      let m = opening c s w in
      let h = opening_leads c s (λ _. NoEnds) NoEndsOver opening_keeps w [] tt in
      ⊎_elim (λ (over : is_over m.end ≡ true). led_over NoEnds NoEndsOver [] m over h)
      (λ (on : is_over m.end ≡ false). led_on NoEnds NoEndsOver [] m on h) (cases_Bool (is_over m.end))

  step_no_end : (w : World) → Of NoEnd (filter (λ (e : Event). nat_le (stamp_of e) w.tick) (step c s w).events)
  step_no_end w =
      let r = runner_of c w in
      let who = owner_of c w r in
      let line = run_line w who in
      let fs = (runner_tick c s r who w).move.events in
      subst (Of NoEnd) (sym (step_reads c s w).seen)
      (all_more NoEnd line fs (event_if_all NoEnd (not (ran_before w.last who)) (Run w.tick who) refl)
      (each_of (StillAt w.tick) NoEnd (λ e q. still_end e q.1) fs (served_still c s w r who)))

  instant_no_end : (T : ℕ) (w : World) → w.tick ≡ T
      → Of NoEnd (filter (λ (e : Event). nat_le (stamp_of e) T) (instant c s w).events)
  unfolding instant
  instant_no_end T w t =
      let test = λ (e : Event). nat_le (stamp_of e) T in
      let o = opening c s w in
      let first = of_filter NoEnd test o.events (opening_no_end w) in
      ⊎_elim
      (λ (over : is_over o.end ≡ true).
      subst (λ (m : Moved). Of NoEnd (filter test m.events)) (sym (followed_over o (step c s) over)) first)
      (λ (on : is_over o.end ≡ false).
      let tick = (led_on (AtTick c s T) (EndsAtTick c s T) [] o on (opening_at_tick c s T w t)).0 in
      let more = (step c s o.world).events in
      subst (λ (es : List Event). Of NoEnd (filter test es)) (sym (followed_events o (step c s) on))
      (subst (Of NoEnd) (sym (filter-append test o.events more))
      (all_more NoEnd (filter test o.events) (filter test more) first
      (subst (λ (k : ℕ). Of NoEnd (filter (λ (e : Event). nat_le (stamp_of e) k) more)) tick (step_no_end o.world)))))
      (cases_Bool (is_over o.end))

-- the ends seen at a tick of the run are those among the events before it
pub seen_ends : (c : ConfigParts) (s : ScriptParts) → IsConfig c → IsScript c s → (u : ℕ) → u ≤ last_instant c s
    → SameEnds (seen_at u (schedule c s)) (events_before c s u)
unfolding schedule events_before instant_at
seen_ends c s rules script u l from who =
    let n = last_instant c s in
    let before : GoesOnBefore c s u = λ j m. (last_is c s (are_bounded c s rules script)).first j (omega arith) in
    let test = λ (e : Event). nat_le (stamp_of e) u in
    let es = events_before c s u in
    let fs = (instant_at c s u).events in
    let stamps = (state_at c s rules script u before).0.1.stamps in
    let seen : seen_at u (events_before c s (suc n)) ≡ es ++ filter test fs =
    later_unseen c s rules script u (suc n) (omega arith) (omega arith) ∙ filter-append test es fs
    ∙ ap (λ (xs : List Event). xs ++ filter test fs) (all_seen u es stamps) in
    ap (has_ended from who) seen
    ∙ ended_same from who es (filter test fs) (instant_no_end c s u (world_at c s u) (tick_at c s u before))
