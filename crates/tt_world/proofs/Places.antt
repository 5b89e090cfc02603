-- The activations of a round are in the order of the rows of its mode: the activation at a place is that of the row
-- with this number.
use Rattle.std.proofs.Common.{ℕ, zero, suc, ◌≡◌, ◌<◌, ◌≤◌, ◌+◌, ◌-◌, List, [], ◌∷◌, false, Option, None, Some, refl, ap, sym, ◌∙◌, subst, eqb, arith, length, get_or, ⊎_elim}
use Rattle.std.specs.Prelude.{◌==◌}
use Rattle.std.specs.List.{position_or_len}
use Rattle.std.proofs.lemmas.Bool.{cond_both, cases_lt, cases_order, eqb-false}
use Rattle.std.proofs.lemmas.List.{length-append, length-set}
use Rattle.tt_base.specs.declared.event.Event.{Event}
use Rattle.task_lang.specs.declared.syntax.Stmt.{Stmt}
use Rattle.tt_world.specs.declared.config.Activation.{Activation as ActivationRow}
use Rattle.tt_world.specs.declared.config.ConfigParts.{ConfigParts}
use Rattle.tt_world.specs.declared.script.ScriptParts.{ScriptParts}
use Rattle.tt_world.specs.declared.world.Point.{Point}
use Rattle.tt_world.specs.declared.world.Point.TheVariants as point
use Rattle.tt_world.specs.declared.world.Runner.{Runner}
use Rattle.tt_world.specs.declared.world.Runner.TheVariants as runner
use Rattle.tt_world.specs.World.{World, Job}
use Rattle.tt_world.specs.ConfigRules.{IsConfig}
use Rattle.tt_world.specs.Moved.{is_over}
use Rattle.tt_world.specs.Rows.{offset_of, mode_of, row_of, entry_at, body_of, no_row}
use Rattle.tt_world.specs.Runners.{job_at, leaving, runner_of}
use Rattle.tt_world.specs.Correction.{is_length}
use Rattle.tt_world.specs.Points.{point_of}
use Rattle.tt_world.specs.Monitoring.{is_at, is_at_end, monitored}
use Rattle.tt_world.specs.Rounds.{head, latch, next_round, round_end}
use Rattle.tt_world.specs.Opening.{checks, activated, activation, opening}
use Rattle.tt_world.specs.Schedule.{instant, world_at}
use Rattle.tt_world.specs.RunLaws.{IsUnfinished, AreTasksSingle, TasksAreSingle}
use Rattle.tt_world.proofs.Parts.{OfRun, Phase, Activated, OpeningKeeps, Alone, Anything, Leads, followed_leads, GoesOnBefore, kept_at, instant_leads, opening_leads, led_on}
use Rattle.tt_world.proofs.Keeps.{Holds, monitored_holds, enables_hold, arrivals_hold, acceptances_hold, StepKeeps, step_holds}
use Rattle.tt_world.proofs.TableRows.{mode_rows, row_found, rows_ascend, rows_apart}
use Rattle.tt_world.proofs.Deadlines.{IsFrom, IsUpTo, point_up_to}
use Rattle.tt_world.proofs.JobLists.{IsOldPlace, IsNewPlace, place_of_more, place_of_set, entry_of_set}
use Rattle.tt_world.proofs.Points.{Ahead, opening_ahead, ahead_at}
use Rattle.tt_world.proofs.Ends.{are_bounded, last_is}
use Rattle.tt_world.proofs.RoundActs.{none_after}

-- where no row is found at an offset, none has it
pub none_found : (o : ℕ) (rows : List ActivationRow) (i : ℕ) → entry_at o rows ≡ None → i < length rows
    → (get_or rows i no_row).offset ≡ o → ⊥
none_found o [] i e l h = absurd (omega arith)
none_found o (a ∷ rest) zero e l h =
    eqb-false a.offset o (none_after (a.offset == o) (position_or_len (λ (row : ActivationRow). row.offset == o) rest)
    (length rest) e).0 h
none_found o (a ∷ rest) (suc i) e l h =
    none_found o rest i (none_after (a.offset == o) (position_or_len (λ (row : ActivationRow). row.offset == o) rest)
    (length rest) e).1 (omega arith) h

-- the activations so far are those of the rows with offsets below the present one: k is 0 before the activation of an
-- instant, and 1 after it
pub record Placed (c : ConfigParts) (k : ℕ) (w : World) : Type 0 where
  pub started : w.start ≤ w.tick
  pub entries : (place : ℕ) → place < length w.jobs → (job_at w.jobs place).entry ≡ place
  pub few : length w.jobs ≤ length (mode_of c w).activations
  pub begun : (i : ℕ) → i < length w.jobs → (row_of (mode_of c w) i).offset < (w.tick - w.start) + k
  pub later : (i : ℕ) → length w.jobs ≤ i → i < length (mode_of c w).activations
      → (w.tick - w.start) + k ≤ (row_of (mode_of c w) i).offset

abbrev pub PlacedAt : ConfigParts → Phase → OfRun
PlacedAt c Activated = Alone (Placed c 1)
PlacedAt c phase = Alone (Placed c 0)

module _ (c : ConfigParts) (s : ScriptParts) (rules : IsConfig c) where
  pub latch_placed : Leads (Alone (Placed c 0)) (Alone (Placed c 0)) Anything (latch c)
  unfolding latch
  latch_placed w es p =
      cond_both (eqb (offset_of w) (c.round - c.adjust)) _ _ (Holds (Placed c 0) es)
      (λ _. record { started = p.started; entries = p.entries; few = p.few; begun = p.begun; later = p.later })
      (λ _. p)

  next_round_placed : (w : World) (es : List Event) → Placed c 0 w → Holds (Placed c 0) es (next_round s w)
  unfolding next_round
  next_round_placed w es p =
      cond_both (eqb w.number s.rounds) _ _ (Holds (Placed c 0) es) (λ _. tt)
      (λ _. record {
        started = omega arith;
        entries = λ place l. absurd (omega arith);
        few = omega arith;
        begun =
            λ i l. absurd (omega arith);
        later = λ i g l. omega arith;
      })

  pub round_end_placed : Leads (Alone (Placed c 0)) (Alone (Placed c 0)) Anything (round_end c s)
  unfolding round_end
  round_end_placed w es p =
      cond_both (is_length w.latched (offset_of w)) _ _ (Holds (Placed c 0) es)
      (λ _. followed_leads (Alone (Placed c 0)) (Alone (Placed c 0)) Anything es
      (monitored c (is_at_end (offset_of w)) w) (next_round s)
      (monitored_holds (Placed c 0) c (is_at_end (offset_of w)) w es (λ _. p)) next_round_placed)
      (λ _. p)

  -- the row found is the next one
  pub next_row : (w : World) (entry : ℕ) → Placed c 0 w → entry_at (offset_of w) (mode_of c w).activations ≡ Some entry
      → entry ≡ length w.jobs
  next_row w entry p e =
      let found = row_found (offset_of w) entry (mode_of c w) e in
      let here = found.1 in
      let within = found.0 in
      ⊎_elim (λ (same : entry ≡ length w.jobs). same)
      (λ o. ⊎_elim
      (λ (l : entry < length w.jobs). absurd (let b = p.begun entry l in omega arith))
      (λ (g : length w.jobs < entry).
      absurd (let low = p.later (length w.jobs) (omega arith) (omega arith) in
      let up = rows_ascend c (mode_of c w) (length w.jobs) entry (mode_rows c w.mode.0 rules) g within in
      omega arith)) o)
      (cases_order entry (length w.jobs))

  pub activated_placed : (w : World) (es : List Event) → Placed c 0 w → (found : Option ℕ)
      → entry_at (offset_of w) (mode_of c w).activations ≡ found → Holds (Placed c 1) es (activated c found w)
  activated_placed w es p None e =
      record {
        started = p.started;
        entries = p.entries;
        few = p.few;
        begun = λ i l. let b = p.begun i l in omega arith;
        later = λ i g l.
            let b = p.later i g l in
            ⊎_elim (λ (lt : w.tick - w.start < (row_of (mode_of c w) i).offset). let m = lt in omega arith)
            (λ (ge : (row_of (mode_of c w) i).offset ≤ w.tick - w.start). absurd
            (none_found (offset_of w) (mode_of c w).activations i e l (omega arith)))
            (cases_lt (w.tick - w.start) (row_of (mode_of c w) i).offset);
      }
  activated_placed w es p (Some entry) e =
      let y : Job = record { entry = entry; left = body_of c (row_of (mode_of c w) entry).task } in
      let found = row_found (offset_of w) entry (mode_of c w) e in
      let here = found.1 in
      let within = found.0 in
      let next = next_row w entry p e in
      let n = length-append w.jobs (y ∷ []) in
      record {
        started = p.started;
        entries = λ place l.
            ⊎_elim
            (λ (old : IsOldPlace w.jobs y place). ap (λ (x : Job). x.entry) old.1 ∙ p.entries place old.0)
            (λ (new : IsNewPlace w.jobs y place). ap (λ (x : Job). x.entry) new.1 ∙ next ∙ sym new.0)
            (place_of_more w.jobs y place l);
        few = omega arith;
        begun = λ i l.
            ⊎_elim (λ (lt : i < length w.jobs). let b = p.begun i lt in omega arith)
            (λ (ge : length w.jobs ≤ i). let same : i ≡ entry = omega arith in
            let b = ap (λ (j : ℕ). (row_of (mode_of c w) j).offset) same in omega arith)
            (cases_lt i (length w.jobs));
        later = λ i g l. let up = rows_ascend c (mode_of c w) entry i (mode_rows c w.mode.0 rules) (omega arith) l in
            omega arith;
      }

  activation_placed : Leads (Alone (Placed c 0)) (Alone (Placed c 1)) Anything (activation c)
  unfolding activation
  activation_placed w es p = activated_placed w es p _ refl

  opening_keeps : OpeningKeeps c s (PlacedAt c) Anything
  unfolding head checks
  opening_keeps = record {
    head_is = λ w es _ p. p;
    latch_is = latch_placed;
    round_end_is = round_end_placed;
    checks_are = λ w es p. monitored_holds (Placed c 0) c (is_at (offset_of w)) w es (λ _. p);
    enables_are = enables_hold (Placed c 0)
        (λ w _ _ _ _ _ p. record {
          started = p.started;
          entries = p.entries;
          few = p.few;
          begun = p.begun;
          later =
              p.later;
        }) c;
    arrivals_are = arrivals_hold (Placed c 0)
        (λ w _ _ _ _ _ p. record {
          started = p.started;
          entries = p.entries;
          few = p.few;
          begun = p.begun;
          later =
              p.later;
        }) c s;
    acceptances_are = acceptances_hold (Placed c 0)
        (λ w _ _ _ _ _ p. record {
          started = p.started;
          entries = p.entries;
          few = p.few;
          begun = p.begun;
          later =
              p.later;
        }) c;
    activation_is = activation_placed;
  }

  left_placed : (w : World) (r : Runner) (after : List Stmt) → Placed c 1 w → Placed c 1 (leaving w r after)
  left_placed w (runner.Job q) after p =
      let n = length-set w.jobs q (record { entry = (job_at w.jobs q).entry; left = after }) in
      record {
        started = p.started;
        entries = λ place l. entry_of_set w.jobs q after place l
            ∙ p.entries place (place_of_set w.jobs q after place l);
        few = let f = p.few in omega arith;
        begun = λ i l. p.begun i (omega arith);
        later = λ i g l. p.later i (omega arith) l;
      }
  left_placed w (runner.Isr i) after p =
      record { started = p.started; entries = p.entries; few = p.few; begun = p.begun; later = p.later }
  left_placed w (runner.Oisr i) after p =
      record { started = p.started; entries = p.entries; few = p.few; begun = p.begun; later = p.later }
  left_placed w (runner.Osek i) after p =
      record { started = p.started; entries = p.entries; few = p.few; begun = p.begun; later = p.later }
  left_placed w runner.Nobody after p = p

  step_keeps : StepKeeps c s (Placed c 1) (Placed c 1) (Placed c 0)
  step_keeps = record {
    free = λ w vars cursors wanted used oseks p.
        record { started = p.started; entries = p.entries; few = p.few; begun = p.begun; later = p.later };
    synced = λ w global p. record {
      started = p.started;
      entries = p.entries;
      few = p.few;
      begun = p.begun;
      later =
          p.later;
    };
    left = λ w after p _. left_placed w (runner_of c w) after p;
    over = λ w last p.
        let l = p.started in
        record {
          started = omega arith;
          entries = p.entries;
          few = p.few;
          begun = λ i m. let b = p.begun i m in omega arith;
          later = λ i g m. let b = p.later i g m in omega arith;
        };
  }

  instant_placed : (w : World) (es : List Event) → Placed c 0 w → Holds (Placed c 0) es (instant c s w)
  instant_placed w es p =
      instant_leads c s (PlacedAt c) Anything opening_keeps (Alone (Placed c 0))
      (step_holds c s (Placed c 1) (Placed c 1) (Placed c 0) step_keeps) w es p

  pub opening_placed : (w : World) (es : List Event) → Placed c 0 w → Holds (Placed c 1) es (opening c s w)
  opening_placed w es p = opening_leads c s (PlacedAt c) Anything opening_keeps w es p

  first_placed : Placed c 0 (world_at c s 0)
  unfolding world_at
  first_placed = record {
    started = omega arith;
    entries = λ place l. absurd (omega arith);
    few = omega arith;
    begun =
        λ i l. absurd (omega arith);
    later = λ i g l. omega arith;
  }

  pub placed_at : (n : ℕ) → GoesOnBefore c s n → Placed c 0 (world_at c s n)
  placed_at = kept_at c s (Placed c 0) first_placed instant_placed

  -- ---- a task has at most one unfinished activation

  -- the point of a row is not after the offset of a later row of the same task
  passed : (t offset : ℕ) (p : Point) → IsUpTo offset p → offset < t + 1 → IsFrom (t + 1) p → ⊥
  passed t offset (point.At place) u l f = absurd (omega arith)
  passed t offset point.RoundEnd u l f = u

  not_both : (w : World) → Ahead c 1 w → Placed c 1 w → (p q : ℕ) → p < q → IsUnfinished w p → IsUnfinished w q
      → (row_of (mode_of c w) (job_at w.jobs p).entry).task ≡ (row_of (mode_of c w) (job_at w.jobs q).entry).task → ⊥
  not_both w a h p q l up uq same =
      let mode = mode_of c w in
      let ep = h.entries p up.within in
      let eq = h.entries q uq.within in
      let few = h.few in
      let inq = uq.within in
      let there : q < length mode.activations = omega arith in
      let one : (row_of mode p).task ≡ (row_of mode q).task = sym (ap (λ (i : ℕ). (row_of mode i).task) ep) ∙ same
      ∙ ap (λ (i : ℕ). (row_of mode i).task) eq in
      let apart = rows_apart c mode p q (mode_rows c w.mode.0 rules) l there one in
      passed (w.tick - w.start) (row_of mode q).offset (point_of mode (row_of mode p))
      (point_up_to mode (row_of mode p) q there apart) (h.begun q inq)
      (subst (λ (i : ℕ). IsFrom ((w.tick - w.start) + 1) (point_of mode (row_of mode i))) ep
      (a.ahead p up.within up.undone))

  pub single : (w : World) → Ahead c 1 w → Placed c 1 w → AreTasksSingle c w
  single w a h p q up uq same =
      ⊎_elim (λ (e : p ≡ q). e)
      (λ o. ⊎_elim (λ (l : p < q). absurd (not_both w a h p q l up uq same))
      (λ (l : q < p). absurd (not_both w a h q p l uq up (sym same))) o)
      (cases_order p q)

pub tasks_single : TasksAreSingle
tasks_single c s rules script n l e =
    let bounded = are_bounded c s rules script in
    let last = last_is c s bounded in
    let before : GoesOnBefore c s n = λ k m. last.first k (omega arith) in
    let on : is_over (opening c s (world_at c s n)).end ≡ false = ap is_over e in
    single c s rules (opening c s (world_at c s n)).world
    (led_on (Alone (Ahead c 1)) Anything [] (opening c s (world_at c s n)) on
    (opening_ahead c s rules (world_at c s n) [] (ahead_at c s rules n before)))
    (led_on (Alone (Placed c 1)) Anything [] (opening c s (world_at c s n)) on
    (opening_placed c s rules (world_at c s n) [] (placed_at c s rules n before)))
