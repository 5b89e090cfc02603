-- What is known of a state after the parts of an opening, and after the tick.
use Rattle.std.proofs.Common.{ℕ, ◌≡◌, ◌<◌, ◌+◌, ◌-◌, ◌^◌, List, [], false, Option, None, Some, refl, ap, sym, ◌∙◌, subst, eqb, length, get_or}
use Rattle.std.specs.Prelude.{slice_range}
use Rattle.std.proofs.lemmas.List.{length-replicate}
use Rattle.std.proofs.lemmas.Bool.{cond_both, cond-true, cond-false, eqb-true, false_from_ne_true}
use Rattle.tt_base.specs.declared.event.Event.{Event}
use Rattle.tt_base.specs.declared.number.IsrNo.{IsrNo}
use Rattle.tt_world.specs.declared.config.ConfigParts.{ConfigParts}
use Rattle.tt_world.specs.declared.config.ModeDef.{ModeDef}
use Rattle.tt_world.specs.declared.script.ScriptParts.{ScriptParts}
use Rattle.tt_world.specs.declared.world.RunEnd.{RunEnd}
use Rattle.tt_world.specs.World.{World, Source, IsrSource, OisrSource}
use Rattle.tt_world.specs.ConfigRules.{IsConfig}
use Rattle.tt_world.specs.ScriptRules.{IsScript}
use Rattle.tt_world.specs.Correction.{is_length}
use Rattle.tt_world.specs.Gates.{enable, enables, arrivals, acceptances, is_accepted}
use Rattle.tt_world.specs.Monitoring.{monitored, is_at, is_at_end}
use Rattle.tt_world.specs.Moved.{IsTelling, Moved, Gives, Outcome, is_over, chain}
use Rattle.tt_world.specs.Opening.{checks, due, later_parts, opening}
use Rattle.tt_world.specs.Rounds.{head, latch, next_round, round_end}
use Rattle.tt_world.specs.Rows.{offset_of, mode_of, enables_at, entry_at}
use Rattle.tt_world.specs.Runners.{runner_of}
use Rattle.tt_world.specs.Schedule.{instant}
use Rattle.tt_world.specs.Step.{step}
use Rattle.tt_world.proofs.Ends.{are_bounded}
use Rattle.tt_world.proofs.Keeps.{Holds, IgnoresGates, monitored_holds, enables_hold, arrivals_hold, acceptances_hold}
use Rattle.tt_world.proofs.Late.{Late, late_at}
use Rattle.tt_world.proofs.Modes.{Named, has_mode, opening_named, run_named}
use Rattle.tt_world.proofs.Moves.{gives_first, gives_over, gives_done, gives_stop}
use Rattle.tt_world.proofs.Openings.{activated_in, due_same, enables_from}
use Rattle.tt_world.proofs.Parts.{Phase, Before, Latched, Begun, Alone, Anything, Leads, followed_leads, chain_each, led_on}
use Rattle.tt_world.proofs.Points.{Ahead, latch_ahead, round_end_ahead, checks_ahead, ahead_at}
use Rattle.tt_world.proofs.Places.{Placed, latch_placed, opening_placed, round_end_placed, placed_at}
use Rattle.tt_world.proofs.Stamps.{AtTick as AtStamp, EndsAtTick, opening_at_tick}
use Rattle.tt_world.proofs.Still.{step_still}
use Rattle.tt_world.proofs.Time.{Timed, latch_timed, round_end_timed, opening_timed, opening_keeps, timed_at}
use Rattle.isr_window.specs.Window.{left_at, new_window}
use Rattle.isr_window.specs.Played.{AreSourcesOf, AreLeftFrom, source_at}
use Rattle.isr_window.proofs.Arrivals.{new_left}
use Rattle.round_table.specs.declared.due.Due.{Due}
use Rattle.round_table.specs.DueRows.{checks_of, enables_of, isrs_of}
use Rattle.round_table.specs.TableRows.{TableRows}
use Rattle.stack_dispatch.specs.Checking.{monitored_entries}
use Rattle.stack_dispatch.specs.First.{first_state}
use Rattle.stack_dispatch.specs.Due.{enables_by, NoneAccepted}
use Rattle.stack_dispatch.specs.Jumps.{IsOnSchedule}
use Rattle.stack_dispatch.specs.Served.{IsServed, IsTableOf, IsWeighed, StandsAt, HasSources, IsOpened, CanPass}
use Rattle.stack_dispatch.specs.State.{RunState, Beside, Fixed, IsFor, window_in}
use Rattle.stack_dispatch.specs.Ticking.{CanTick}
use Rattle.stack_dispatch.proofs.Enabling.{enables_are}
use Rattle.stack_dispatch.proofs.Running.{has_number}
use Rattle.stack_dispatch.proofs.Served.{due_given, checked_same}
use Rattle.stack_dispatch.proofs.Telling.{outcome_is}

-- ---- the sources

pub record Kept (w v : World) : Type 0 where
  pub tick : v.tick ≡ w.tick
  pub held : v.isrs_held ≡ w.isrs_held
  pub oheld : v.oisrs_held ≡ w.oisrs_held

-- before an activation, at the offset and in the mode of this world: no point of an unfinished activation was passed,
-- and the activations are those of the rows before the offset
pub record BeforeActivation (c : ConfigParts) (w v : World) : Type 0 where
  pub ahead : Ahead c 1 v
  pub placed : Placed c 0 v
  pub offset : offset_of v ≡ offset_of w
  pub mode : v.mode ≡ w.mode

module _ {L : Type 0} {Told : L → List Event → L → Type 0} (telling : IsTelling Told) where
  -- what holds after a part of the definitions holds after the part of the code that goes on
  pub after : (P : World → Type 0) (m : Moved) (a b : L) (v : World) → Gives Told a b v None m → Holds P [] m → P v
  after P m a b v g h = subst P (sym g.world_is) (led_on (Alone P) Anything [] m (ap is_over (sym g.end_is)) h)

  module _ (c : ConfigParts) (s : ScriptParts) (t : ℕ) (st next : RunState) (beside : next.beside ≡ st.beside) where
    pub left_kept : AreLeftFrom c s t (window_in st) → AreLeftFrom c s t (window_in next)
    left_kept h = record { left = λ place l. same (source_at c place) ∙ h.left place l }
      where
        same : (x : Source) → left_at (window_in next) x ≡ left_at (window_in st) x
        same (IsrSource i) = ap (λ (b : Beside). get_or b.isrs_ticks i.0 []) beside
        same (OisrSource i) = ap (λ (b : Beside). get_or b.oisrs_ticks i.0 []) beside

    pub sources_kept : next.world.isrs_held ≡ st.world.isrs_held → next.world.oisrs_held ≡ st.world.oisrs_held
        → AreSourcesOf c (window_in st) → AreSourcesOf c (window_in next)
    sources_kept held oheld h = record {
      isrs = ap (λ (b : Beside). length b.isrs_ticks) beside ∙ h.isrs;
      oisrs = ap (λ (b : Beside). length b.oisrs_ticks) beside ∙ h.oisrs;
      isrs_held = ap length held ∙ h.isrs_held;
      oisrs_held = ap length oheld ∙ h.oisrs_held;
    }

  module _ (c : ConfigParts) (s : ScriptParts) where
    pub has_sources : (st next : RunState) → next.beside ≡ st.beside → Kept st.world next.world
        → HasSources c s st.world.tick st
        → HasSources c s next.world.tick next
    has_sources st next beside k h = record {
      sources = sources_kept c s st.world.tick st next beside k.held k.oheld h.sources;
      left = subst (λ t. AreLeftFrom c s t (window_in next)) (sym k.tick)
          (left_kept c s st.world.tick st next beside h.left);
    }

    module _ (w : World) where
      latch_kept : Holds (Kept w) [] (latch c w)
      unfolding latch
      latch_kept =
          cond_both (eqb (offset_of w) (c.round - c.adjust)) _ _ (Holds (Kept w) [])
          (λ _. record { tick = refl; held = refl; oheld = refl })
          (λ _. record { tick = refl; held = refl; oheld = refl })

      next_kept : Leads (Alone (Kept w)) (Alone (Kept w)) Anything (next_round s)
      unfolding next_round
      next_kept v es p =
          cond_both (eqb v.number s.rounds) _ _ (Holds (Kept w) es) (λ _. tt)
          (λ _. record { tick = p.tick; held = p.held; oheld = p.oheld })

      round_end_kept : Holds (Kept w) [] (round_end c s w)
      unfolding round_end
      round_end_kept =
          cond_both (is_length w.latched (offset_of w)) _ _ (Holds (Kept w) [])
          (λ _. followed_leads (Alone (Kept w)) (Alone (Kept w)) Anything [] (monitored c (is_at_end (offset_of w)) w)
          (next_round s)
          (monitored_holds (Kept w) c _ w [] (λ _. record { tick = refl; held = refl; oheld = refl })) next_kept)
          (λ _. record { tick = refl; held = refl; oheld = refl })

      -- the latch and the round's end leave the tick and the sources
      pub latched_kept : {a b : L} {v : World} → Gives Told a b v None (latch c w) → Kept w v
      latched_kept {a} {b} {v} g = after (Kept w) (latch c w) a b v g latch_kept

      pub ended_kept : {a b : L} {v : World} → Gives Told a b v None (round_end c s w) → Kept w v
      ended_kept {a} {b} {v} g = after (Kept w) (round_end c s w) a b v g round_end_kept

    pub enables_kept : (isrs : List IsrNo) (w : World) → Holds (Kept w) [] (enables_by isrs w)
    unfolding enable
    enables_kept isrs w =
        chain_each (Alone (Kept w)) Anything (λ (isr : IsrNo). enable (record { offset = 0; isr = isr })) isrs
        (λ x v es p. record { tick = p.tick; held = p.held; oheld = p.oheld }) w []
        (record { tick = refl; held = refl; oheld = refl })

    activated_kept : (mode : ModeDef) (found : Option ℕ) (w : World) → Kept w (activated_in c mode found w).world
    activated_kept mode None w = record { tick = refl; held = refl; oheld = refl }
    activated_kept mode (Some entry) w = record { tick = refl; held = refl; oheld = refl }

    activated_accepts : (mode : ModeDef) (found : Option ℕ) (w : World) (x : Source)
        → is_accepted (activated_in c mode found w).world x ≡ is_accepted w x
    activated_accepts mode None w x = refl
    activated_accepts mode (Some entry) w (IsrSource i) = refl
    activated_accepts mode (Some entry) w (OisrSource i) = refl

    -- after an activation too the sources are as they were, and nothing can be accepted
    pub is_opened : (t : ℕ) (mode : ModeDef) (found : Option ℕ) (st last : RunState) (a b : L) → last.beside ≡ st.beside
        → Gives Told a b last.world None (activated_in c mode found st.world) → AreSourcesOf c (window_in st)
        → AreLeftFrom c s (t + 1) (window_in st)
        → NoneAccepted c st.world → IsOpened c s t last
    is_opened t mode found st last a b beside g sources left none =
        let k = subst (Kept st.world) (sym g.world_is) (activated_kept mode found st.world) in
        record {
          sources = record {
            sources = sources_kept c s (t + 1) st last beside k.held k.oheld sources;
            left = left_kept c s (t + 1) st last beside left;
          };
          none = λ place l.
              ap (λ (w : World). is_accepted w (source_at c place)) g.world_is
              ∙ activated_accepts mode found st.world (source_at c place)
              ∙ none place l;
        }

    -- ---- what is due

    ignores_gates : (w : World) → IgnoresGates (BeforeActivation c w)
    ignores_gates w u enabled held oheld isrs oisrs p = record {
      ahead = record { started = p.ahead.started; ahead = p.ahead.ahead };
      placed = record {
        started = p.placed.started;
        entries = p.placed.entries;
        few = p.placed.few;
        begun = p.placed.begun;
        later = p.placed.later;
      };
      offset = p.offset;
      mode = p.mode;
    }

    module _ {table : TableRows} {w : World} {d : Due} (served : IsServed Begun c s w) (is_table : IsTableOf c table w)
        (stands : StandsAt table (offset_of w) d) where
      checks_part : {a b : L} {v : World} {end next : Outcome}
          → Gives Told a b v end (monitored_entries c table.mode
          (slice_range (checks_of table) d.checks_from d.checks_to) w) → end ≡ next
          → Gives Told a b v next (monitored c (is_at (offset_of w)) w)
      checks_part {a} {b} {v} {end} g is =
          outcome_is (due_given telling Begun c s table w served is_table a b v end _ g stands.checks) is

      -- the enables of the code are those of the definitions
      enables_part : {a b : L} {v : World} (u : World)
          → Gives Told a b v None (enables_by (slice_range (enables_of table) d.enables_from d.enables_to) u)
          → Gives Told a b v None (enables_from (offset_of w) (mode_of c w) u)
      enables_part {a} {b} {v} u g =
          let rows = λ (m : ModeDef). enables_at (offset_of w) m.enables in
          subst (Gives Told a b v None)
          (ap (λ isrs. enables_by isrs u) (stands.enables ∙ ap (λ (t : TableRows). isrs_of (rows t.mode)) is_table)
          ∙ sym (enables_are (rows (mode_of c w)) u)) g

      -- after the checks and the enables the tick and the sources are as they were
      pub enabled : {v u : World} {a b e : L} {end : Outcome} (isrs : List IsrNo)
          → Gives Told a b v end (monitored_entries c table.mode
          (slice_range (checks_of table) d.checks_from d.checks_to) w) → end ≡ None
          → Gives Told b e u None (enables_by isrs v) → Kept w u
      enabled {v} {u} {a} {b} {e} isrs g on h =
          subst (λ x. Kept x u) (checked_same telling c (is_at (offset_of w)) w v a b (checks_part g on))
          (after (Kept v) _ b e u h (enables_kept isrs v))

      -- a check was missed
      pub due_over : {a b : L} {v : World} {end : Outcome} {last : RunEnd}
          → Gives Told a b v end (monitored_entries c table.mode
          (slice_range (checks_of table) d.checks_from d.checks_to) w) → end ≡ Some last
          → Gives Told a b v (Some last) (chain (due c s) w)
      due_over {a} {b} {v} {last = last} g is =
          subst (Gives Told a b v (Some last)) (sym (due_same c s w))
          (gives_over a b v (Some last) _ _ w refl (checks_part g is))

      -- after the acceptances the activations are as before, and no point of an unfinished activation was passed
      pub before_activation : {e0 e1 e2 e3 e4 : L} {w1 w2 w3 w4 : World} {end : Outcome}
          → Gives Told e0 e1 w1 end (monitored_entries c table.mode
          (slice_range (checks_of table) d.checks_from d.checks_to) w) → end ≡ None
          → Gives Told e1 e2 w2 None (enables_by (slice_range (enables_of table) d.enables_from d.enables_to) w1)
          → Gives Told e2 e3 w3 None (arrivals c s w2) → Gives Told e3 e4 w4 None (acceptances c w3)
          → BeforeActivation c w w4
      unfolding checks enables
      before_activation {e0} {e1} {e2} {e3} {e4} {w1} {w2} {w3} {w4} g1 on g2 g3 g4 =
          let checked = checks_part g1 on in
          let same1 = checked_same telling c (is_at (offset_of w)) w w1 e0 e1 checked in
          let first : BeforeActivation c w w1 = record {
            ahead = after (Ahead c 1) (monitored c (is_at (offset_of w)) w) e0 e1 w1 checked
                (checks_ahead c s served.rules w [] served.ahead);
            placed = subst (Placed c 0) (sym same1) served.placed;
            offset = ap offset_of same1;
            mode = ap (λ (x : World). x.mode) same1;
          } in
          let second = after (BeforeActivation c w) (enables c w1) e1 e2 w2
          (subst (λ (x : World). Gives Told e1 e2 w2 None (enables_from (offset_of x) (mode_of c x) w1)) (sym same1)
          (enables_part w1 g2))
          (enables_hold (BeforeActivation c w) (ignores_gates w) c w1 [] first) in
          let third = after (BeforeActivation c w) (arrivals c s w2) e2 e3 w3 g3
          (arrivals_hold (BeforeActivation c w) (ignores_gates w) c s w2 [] second) in
          after (BeforeActivation c w) (acceptances c w3) e3 e4 w4 g4
          (acceptances_hold (BeforeActivation c w) (ignores_gates w) c w3 [] third)

      pub due_all : {e0 e1 e2 e3 e4 e5 : L} {w1 w2 w3 w4 w5 : World} {end : Outcome}
          → Gives Told e0 e1 w1 end (monitored_entries c table.mode
          (slice_range (checks_of table) d.checks_from d.checks_to) w) → end ≡ None
          → Gives Told e1 e2 w2 None (enables_by (slice_range (enables_of table) d.enables_from d.enables_to) w1)
          → Gives Told e2 e3 w3 None (arrivals c s w2) → Gives Told e3 e4 w4 None (acceptances c w3)
          → Gives Told e4 e5 w5 None (activated_in c table.mode d.activation w4)
          → Gives Told e0 e5 w5 None (chain (due c s) w)
      due_all {e0} {e1} {e2} {e3} {e4} {e5} {w1} {w2} {w3} {w4} {w5} g1 on g2 g3 g4 g5 =
          let same : table.mode ≡ mode_of c w = ap (λ (t : TableRows). t.mode) is_table in
          let activation = subst (Gives Told e4 e5 w5 None)
          (ap (λ (found : Option ℕ). activated_in c table.mode found w4) stands.activation
          ∙ ap (λ (m : ModeDef). activated_in c m (entry_at (offset_of w) m.activations) w4) same) g5 in
          subst (Gives Told e0 e5 w5 None) (sym (due_same c s w))
          (gives_first telling e0 e1 e5 w1 w5 None _ _ w (checks_part g1 on)
          (gives_first telling e1 e2 e5 w2 w5 None _ _ w1 (enables_part w1 g2)
          (gives_first telling e2 e3 e5 w3 w5 None _ _ w2 g3 (gives_first telling e3 e4 e5 w4 w5 None _ _ w3 g4
          (gives_first telling e4 e5 e5 w5 w5 None _ [] w4 activation (gives_done telling e5 w5))))))

    -- ---- the parts of a round

    -- what is served after a part
    served_then : {a b : L} {v : World} {phase : Phase} (m : Moved) → Gives Told a b v None m
        → IsConfig c → IsScript c s
        → Holds (Timed phase c s) [] m → Holds (Placed c 0) [] m → Holds (Ahead c 0) [] m → IsServed phase c s v
    served_then {a} {b} {v} {phase} m g rules script timed placed ahead = record {
      rules = rules;
      script = script;
      timed = after (Timed phase c s) m a b v g timed;
      placed = after (Placed c 0) m a b v g placed;
      ahead = after (Ahead c 0) m a b v g ahead;
    }

    module _ (w : World) where
      pub latched_served : (a b : L) (v : World) → Gives Told a b v None (latch c w) → IsServed Before c s w
          → IsServed Latched c s v
      latched_served a b v g h =
          served_then (latch c w) g h.rules h.script (latch_timed c s (are_bounded c s h.rules h.script) w [] h.timed)
          (latch_placed c s h.rules w [] h.placed) (latch_ahead c s h.rules w [] h.ahead)

      pub begun_served : (a b : L) (v : World) → Gives Told a b v None (round_end c s w) → IsServed Latched c s w
          → IsServed Begun c s v
      begun_served a b v g h =
          served_then (round_end c s w) g h.rules h.script
          (round_end_timed c s (are_bounded c s h.rules h.script) w [] h.timed)
          (round_end_placed c s h.rules w [] h.placed) (round_end_ahead c s h.rules w [] h.ahead)

      pub first_served : (a b : L) → w.tick ≡ 0 → Gives Told a b w None (head s w) → IsServed Before c s w
          → IsServed Begun c s w
      unfolding head
      first_served a b z g h =
          served_then (head s w) g h.rules h.script
          ((opening_keeps c s (are_bounded c s h.rules h.script)).head_is w [] z h.timed) h.placed h.ahead

      -- the opening of tick 0, and that of a later tick
      pub opens_first : (a b d : L) (v : World) (end : Outcome) → w.tick ≡ 0 → Gives Told a b w None (head s w)
          → Gives Told b d v end (chain (due c s) w) → Gives Told a d v end (opening c s w)
      unfolding opening
      opens_first a b d v end z g h =
          subst (Gives Told a d v end) (sym (cond-true (eqb w.tick 0) _ _ (ap (λ n. eqb n 0) z)))
          (gives_first telling a b d w v end _ _ w g h)

      pub opens_later : (a b : L) (v : World) (end : Outcome) → (w.tick ≡ 0 → ⊥)
          → Gives Told a b v end (chain (later_parts c s) w)
          → Gives Told a b v end (opening c s w)
      unfolding opening
      opens_later a b v end ne h =
          subst (Gives Told a b v end)
          (sym (cond-false (eqb w.tick 0) _ _ (false_from_ne_true _ (λ e. ne (eqb-true w.tick 0 e))))) h

    -- ---- the instant

    module _ (w v : World) (a b : L) (g : Gives Told a b v None (opening c s w)) (h : IsServed Before c s w)
        (n : Named c w) where
      pub opened_tick : v.tick ≡ w.tick
      opened_tick =
          ap (λ (x : World). x.tick) g.world_is
          ∙ (led_on (AtStamp c s w.tick) (EndsAtTick c s w.tick) [] (opening c s w) (ap is_over (sym g.end_is))
          (opening_at_tick c s w.tick w refl)).0

      opened_named : Named c v
      opened_named = after (Named c) (opening c s w) a b v g (opening_named c s h.rules w [] n)

      pub opened_timed : Timed Begun c s v
      opened_timed = after (Timed Begun c s) (opening c s w) a b v g
          (opening_timed c s (are_bounded c s h.rules h.script) w [] h.timed)

      -- the words of stack of the opened world can be read
      pub can_weigh : (st : RunState) → st.world ≡ v → IsFor c s st.beside → IsWeighed c st
      can_weigh st is fixed = record {
        isr_words = ap (λ (f : Fixed). f.isr_words) fixed;
        row_words = ap (λ (f : Fixed). f.row_words) fixed;
        placed = subst (Placed c 1) (sym is)
            (after (Placed c 1) (opening c s w) a b v g (opening_placed c s h.rules w [] h.placed));
      }

      pub can_tick : (st : RunState) → st.world ≡ v → IsFor c s st.beside → w.tick + 1 < 2 ^ 64 → CanTick c s st
      can_tick st is fixed room =
          let named = subst (Named c) (sym is) opened_named in
          record {
            rules = h.rules;
            kept = fixed;
            tick = subst (λ t. t + 1 < 2 ^ 64) (sym (ap (λ (x : World). x.tick) is ∙ opened_tick)) room;
            started = (subst (Timed Begun c s) (sym is) opened_timed).started;
            mode = has_mode c st.world named;
            runnable = named.lefts (runner_of c st.world);
          }

    pub instant_over : (w v : World) (a b : L) (end : Outcome) (last : RunEnd) → Gives Told a b v end (opening c s w)
        → end ≡ Some last
        → Gives Told a b v (Some last) (instant c s w)
    unfolding instant
    instant_over w v a b end last g is =
        gives_stop a b v (Some last) (opening c s w) (step c s) refl (outcome_is g is)

    -- after the tick the arrivals to come are those from the next tick on
    pub ticked_sources : (t : ℕ) (st next : RunState) (a b : L) → Gives Told a b next.world None (step c s st.world)
        → next.beside ≡ st.beside
        → HasSources c s t st → HasSources c s t next
    ticked_sources t st next a b g beside h =
        let still = step_still c s st.world (ap is_over (sym g.end_is)) in
        record {
          sources = sources_kept c s t st next beside (ap (λ (x : World). x.isrs_held) g.world_is ∙ still.held)
              (ap (λ (x : World). x.oisrs_held) g.world_is ∙ still.oheld) h.sources;
          left = left_kept c s t st next beside h.left;
        }

    -- ---- the run

    -- at each tick of a run
    pub can_pass : (st : RunState) → IsConfig c → IsScript c s → IsOnSchedule c s st.world → IsFor c s st.beside
        → HasSources c s st.world.tick st → CanPass c s st
    can_pass st rules script a fixed sources =
        let bounded = are_bounded c s rules script in
        let n = st.world.tick in
        record {
          served = record {
            rules = rules;
            script = script;
            timed = subst (Timed Before c s) (sym a.world) (timed_at c s bounded n a.going);
            placed = subst (Placed c 0) (sym a.world) (placed_at c s rules n a.going);
            ahead = subst (Ahead c 0) (sym a.world) (ahead_at c s rules n a.going);
          };
          late = subst (Late 0 c) (sym a.world) (late_at c s n a.going);
          named = subst (Named c) (sym a.world) (run_named c s rules script n a.going);
          fixed = fixed;
          sources = sources;
          tick = has_number c s bounded st.world a;
        }

    pub first_sources : IsScript c s → HasSources c s 0 (first_state c s)
    first_sources script = record {
      sources = record {
        isrs = script.isrs;
        oisrs = script.oisrs;
        isrs_held = length-replicate (length c.isrs) false;
        oisrs_held = length-replicate (length c.oisrs) false;
      };
      left = record { left = λ place l. same (source_at c place) ∙ (new_left c s script).left place l };
    }
      where
        same : (x : Source) → left_at (window_in (first_state c s)) x ≡ left_at (new_window s.arrivals) x
        same (IsrSource i) = refl
        same (OisrSource i) = refl
