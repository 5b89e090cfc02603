-- The activation of an entry: it is the next one of the round, and there is room for it.
use Rattle.std.proofs.Common.{ℕ, ◌≡◌, ◌<◌, ◌≤◌, List, [], Option, None, Some, ap, sym, ◌∙◌, subst, arith, length, ⊎_elim}
use Rattle.std.specs.Prelude.{IfSome, slice_index_or}
use Rattle.std.proofs.lemmas.Bool.{cases_lt}
use Rattle.std.proofs.lemmas.List.{get_or_past}
use Rattle.std.proofs.lemmas.List.Elements.{All-get_or}
use Rattle.task_lang.specs.declared.syntax.Stmt.{Stmt}
use Rattle.tt_world.specs.declared.config.ConfigParts.{ConfigParts}
use Rattle.tt_world.specs.declared.config.ModeDef.{ModeDef}
use Rattle.tt_world.specs.declared.script.ScriptParts.{ScriptParts}
use Rattle.tt_world.specs.World.{World}
use Rattle.tt_world.specs.ConfigRules.{IsConfig, IsMode}
use Rattle.tt_world.specs.Rows.{offset_of, mode_at, mode_of, no_mode, row_of, entry_at}
use Rattle.tt_world.proofs.Places.{next_row}
use Rattle.tt_world.proofs.Room.{room_for, task_exists}
use Rattle.round_table.specs.declared.due.Due.{Due}
use Rattle.round_table.specs.TableRows.{TableRows}
use Rattle.stack_dispatch.specs.Served.{CanActivate, IsTableOf, StandsAt}
use Rattle.stack_dispatch.specs.State.{Fixed, RunState, IsFor, bodies_of}
use Rattle.stack_dispatch.proofs.Opened.{BeforeActivation}
use Rattle.stack_dispatch.proofs.ProgramBodies.{task_program}

-- a mode has few rows
few_rows : (c : ConfigParts) (n : ℕ) → IsConfig c → length (mode_at c n).activations ≤ 4096
few_rows c n rules =
    ⊎_elim
    (λ (l : n < length c.modes). let few = (All-get_or (IsMode c) c.modes n no_mode l rules.modes).few in omega arith)
    (λ (g : length c.modes ≤ n). subst (λ (m : ModeDef). length m.activations ≤ 4096)
    (sym (get_or_past c.modes n no_mode g)) (omega arith))
    (cases_lt n (length c.modes))

module _ (c : ConfigParts) (s : ScriptParts) (rules : IsConfig c) (table : TableRows) (w : World)
    (is_table : IsTableOf c table w)
    (st : RunState) (fixed : IsFor c s st.beside) (before : BeforeActivation c w st.world) where
  same_mode : table.mode ≡ mode_of c st.world
  same_mode = ap (λ (t : TableRows). t.mode) is_table ∙ ap (λ m. mode_of c (record w { mode = m })) (sym before.mode)

  can_activate : (found : Option ℕ) → found ≡ entry_at (offset_of w) table.mode.activations
      → IfSome found (λ entry. entry < length table.mode.activations) → CanActivate c table found st
  can_activate None is within = tt
  can_activate (Some entry) is within =
      let here : entry_at (offset_of st.world) (mode_of c st.world).activations ≡ Some entry =
      ap (λ o. entry_at o (mode_of c st.world).activations) before.offset
      ∙ ap (λ (m : ModeDef). entry_at (offset_of w) m.activations) (sym same_mode) ∙ sym is in
      let inside : entry < length (mode_of c st.world).activations =
      subst (λ (m : ModeDef). entry < length m.activations) same_mode within in
      let exists : (row_of table.mode entry).task.0 < length c.tasks =
      subst (λ (m : ModeDef). (row_of m entry).task.0 < length c.tasks) (sym same_mode)
      (task_exists c s rules st.world before.ahead before.placed entry here entry inside) in
      let next : entry ≡ length st.world.jobs = next_row c s rules st.world entry before.placed here in
      let first : st.beside.first ≡ length c.tasks = ap (λ (f : Fixed). f.first) fixed in
      let codes : st.beside.codes ≡ bodies_of c = ap (λ (f : Fixed). f.codes) fixed in
      record {
        within = within;
        next = next;
        few = let most = few_rows c st.world.mode.0 rules in omega arith;
        exists = omega arith;
        body = sym (ap (λ (bs : List (List Stmt)). slice_index_or bs (row_of table.mode entry).task.0 []) codes
            ∙ task_program c (row_of table.mode entry).task.0 exists);
        room = room_for c s rules st.world before.ahead before.placed entry here;
      }

  pub activates : (d : Due) → StandsAt table (offset_of w) d → CanActivate c table d.activation st
  activates d stands = can_activate d.activation stands.activation stands.activation_within
