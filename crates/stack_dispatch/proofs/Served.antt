-- The checks of the entries that are due are those of the activations whose point is due.
use Rattle.std.proofs.Common.{ℕ, ◌≡◌, ◌<◌, ◌≤◌, ◌-◌, List, [], length, Bool, true, false, Option, None, Some, refl, ap, sym, ◌∙◌, subst, arith, ⊎_elim}
use Rattle.std.specs.Prelude.{ℤ, pos, negsuc, ◌&&◌, nat_le, nat_lt}
use Rattle.std.proofs.lemmas.Bool.{cond-true, cases_lt, eqb-true, leb-true, ltb-true, and_parts, false_from_ne_true}
use Rattle.tt_base.specs.declared.event.Event.{Event}
use Rattle.tt_world.specs.declared.config.Activation.{Activation}
use Rattle.tt_world.specs.declared.config.ConfigParts.{ConfigParts}
use Rattle.tt_world.specs.declared.config.ModeDef.{ModeDef}
use Rattle.tt_world.specs.declared.script.ScriptParts.{ScriptParts}
use Rattle.tt_world.specs.declared.world.Point.{Point}
use Rattle.tt_world.specs.declared.world.Point.TheVariants as point
use Rattle.tt_world.specs.ConfigRules.{is_activation}
use Rattle.tt_world.specs.World.{World}
use Rattle.tt_world.specs.Correction.{is_no_change, is_length}
use Rattle.tt_world.specs.Moved.{IsTelling, Gives, Outcome, is_over, followed}
use Rattle.tt_world.specs.Monitoring.{Checked, monitored, after_checks, is_at, is_at_end}
use Rattle.tt_world.specs.Points.{point_of}
use Rattle.tt_world.specs.Rounds.{next_round, round_end}
use Rattle.tt_world.specs.Rows.{no_row, offset_of, mode_of, row_of}
use Rattle.tt_world.proofs.Deadlines.{IsFrom, point_is_from}
use Rattle.tt_world.proofs.Keeps.{monitored_holds}
use Rattle.tt_world.proofs.Moves.{gives_next, gives_stop}
use Rattle.tt_world.proofs.Parts.{Phase, Latched, Alone, Anything, led_on}
use Rattle.tt_world.proofs.TableRows.{AreRows, mode_rows, deadline_after, list_all_get}
use Rattle.tt_world.proofs.Time.{Stands}
use Rattle.round_table.specs.DueRows.{entries_due}
use Rattle.round_table.specs.TableRows.{TableRows}
use Rattle.stack_dispatch.specs.Checking.{monitored_entries}
use Rattle.stack_dispatch.specs.Served.{IsServed, IsTableOf}
use Rattle.stack_dispatch.proofs.Checking.{checked_by_entry}
use Rattle.stack_dispatch.proofs.Telling.{outcome_is}

-- a correction that is not 0 is a change
pub no_change : (by : ℤ) → (by ≡ pos 0 → ⊥) → is_no_change by ≡ false
no_change (pos ticks) ne = false_from_ne_true _ (λ e. ne (ap pos (eqb-true ticks 0 e)))
no_change (negsuc ticks) ne = refl

at_point : (offset deadline : ℕ) (p : Point) → is_at offset p ≡ true → IsFrom deadline p → deadline ≤ offset
at_point offset deadline (point.At place) e f = let same = eqb-true place offset e in omega arith
at_point offset deadline point.RoundEnd e f = cc

-- a round has at least the length L - A
pub least_length : (c : ConfigParts) (latched : Option ℕ) (offset : ℕ) → is_length latched offset ≡ true
    → Stands Latched c latched offset → c.round - c.adjust ≤ offset
least_length c None offset e h = cc
least_length c (Some length) offset e h = let same = eqb-true length offset e in let l = h.0.0 in omega arith

early : (c : ConfigParts) (row : Activation) → is_activation c row ≡ true → row.offset < c.round - c.adjust
early c row e =
    let parts = and_parts (nat_lt row.task.0 (length c.tasks))
    (nat_lt row.offset row.deadline && nat_le row.deadline (c.round - c.adjust)) e in
    let both = and_parts (nat_lt row.offset row.deadline) (nat_le row.deadline (c.round - c.adjust)) parts.1 in
    let before = ltb-true row.offset row.deadline both.0 in
    let upto = leb-true row.deadline (c.round - c.adjust) both.1 in omega arith

module _ {L : Type 0} {Told : L → List Event → L → Type 0} (telling : IsTelling Told) where
  module _ (phase : Phase) (c : ConfigParts) (s : ScriptParts) (table : TableRows) (w : World)
      (served : IsServed phase c s w) (is_table : IsTableOf c table w) where
    rows : AreRows c (mode_of c w)
    rows = mode_rows c w.mode.0 served.rules

    -- an entry whose monitoring point is the present offset has an activation
    due_there : (entry : ℕ) → entry < length (mode_of c w).activations
        → is_at (offset_of w) (point_of (mode_of c w) (row_of (mode_of c w) entry)) ≡ true → entry < length w.jobs
    due_there entry l here =
        let mode = mode_of c w in
        ⊎_elim (λ (there : entry < length w.jobs). there)
        (λ (past : length w.jobs ≤ entry).
        let later = served.placed.later entry past l in
        let after = deadline_after c mode entry rows l in
        let upto = at_point (offset_of w) _ _ here (point_is_from mode (row_of mode entry)) in absurd (omega arith))
        (cases_lt entry (length w.jobs))

    -- from the offset L - A on each entry has one
    end_there : c.round - c.adjust ≤ offset_of w → (entry : ℕ) → entry < length (mode_of c w).activations
        → entry < length w.jobs
    end_there over entry l =
        let mode = mode_of c w in
        ⊎_elim (λ (there : entry < length w.jobs). there)
        (λ (past : length w.jobs ≤ entry).
        let later = served.placed.later entry past l in
        let below = early c (row_of mode entry)
        (list_all_get (is_activation c) mode.activations entry no_row rows.activations l) in
        absurd (omega arith))
        (cases_lt entry (length w.jobs))

    by_entry : (is_due : Point → Bool)
        → ((entry : ℕ) → entry < length (mode_of c w).activations
        → is_due (point_of (mode_of c w) (row_of (mode_of c w) entry)) ≡ true → entry < length w.jobs)
        → (entries : List ℕ) → entries ≡ entries_due is_due table.mode
        → monitored_entries c table.mode entries w ≡ monitored c is_due w
    by_entry is_due there entries are =
        let same : table.mode ≡ mode_of c w = ap (λ (t : TableRows). t.mode) is_table in
        ap (λ es. monitored_entries c table.mode es w) are
        ∙ ap (λ (m : ModeDef). monitored_entries c m (entries_due is_due m) w) same
        ∙ sym (ap (λ (all : Checked). after_checks c all.events all.missed w)
        (checked_by_entry w.tick (mode_of c w) is_due w.jobs served.placed.entries served.placed.few there))

    module _ (a b : L) (v : World) (end : Outcome) (entries : List ℕ)
        (g : Gives Told a b v end (monitored_entries c table.mode entries w)) where
      pub end_given : c.round - c.adjust ≤ offset_of w → entries ≡ entries_due (is_at_end (offset_of w)) table.mode
          → Gives Told a b v end (monitored c (is_at_end (offset_of w)) w)
      end_given over are = subst (Gives Told a b v end)
          (by_entry (is_at_end (offset_of w)) (λ entry l _. end_there over entry l) entries are) g

      pub due_given : entries ≡ entries_due (is_at (offset_of w)) table.mode
          → Gives Told a b v end (monitored c (is_at (offset_of w)) w)
      due_given are = subst (Gives Told a b v end) (by_entry (is_at (offset_of w)) due_there entries are) g

  -- an outcome that is an end
  pub over_from : (end : Outcome) → (end ≡ None → ⊥) → is_over end ≡ true
  over_from None ne = absurd (ne refl)
  over_from (Some end) ne = refl

  -- the round's end, where the round has its length
  module _ (c : ConfigParts) (s : ScriptParts) (w : World) (over : is_length w.latched (offset_of w) ≡ true) where
    over_parts : round_end c s w ≡ followed (monitored c (is_at_end (offset_of w)) w) (next_round s)
    unfolding round_end
    over_parts = cond-true _ _ _ over

    module _ (a b : L) (v : World) (end : Outcome)
        (g : Gives Told a b v end (monitored c (is_at_end (offset_of w)) w)) where
      pub ended_stop : (end ≡ None → ⊥) → Gives Told a b v end (round_end c s w)
      ended_stop ne = subst (Gives Told a b v end) (sym over_parts)
          (gives_stop a b v end _ (next_round s) (over_from end ne) g)

      pub ended_next : end ≡ None → (d : L) (u : World) (last : Outcome) → Gives Told b d u last (next_round s v)
          → Gives Told a d u last (round_end c s w)
      ended_next on d u last h =
          subst (Gives Told a d u last) (sym over_parts)
          (gives_next telling a b d v u last _ (next_round s) (outcome_is g on) h)

  -- checks after which the run goes on leave the world as it was
  pub checked_same : (c : ConfigParts) (is_due : Point → Bool) (w v : World) (a b : L)
      → Gives Told a b v None (monitored c is_due w) → v ≡ w
  checked_same c is_due w v a b g =
      g.world_is ∙ led_on (Alone (λ u. u ≡ w)) Anything [] (monitored c is_due w) (ap is_over (sym g.end_is))
      (monitored_holds (λ u. u ≡ w) c is_due w [] (λ _. refl))
