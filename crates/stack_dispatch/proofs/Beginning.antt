-- A routine that begins.
use Rattle.std.proofs.Common.{ℕ, ◌≡◌, ◌≢◌, ◌<◌, ◌+◌, List, [], length, get_or, ap, ◌∙◌, arith}
use Rattle.std.specs.Prelude.{Some, Option, IfSome, slice_set}
use Rattle.std.proofs.lemmas.List.{length-map, map-set}
use Rattle.std.proofs.lemmas.List.Elements.{All-get_or, All-set}
use Rattle.task_lang.specs.declared.syntax.Stmt.{Stmt}
use Rattle.task_machine.specs.Standing.{body_of}
use Rattle.tt_world.specs.declared.config.ConfigParts.{ConfigParts}
use Rattle.tt_world.specs.declared.config.OsekDef.{OsekDef}
use Rattle.tt_world.specs.declared.script.ScriptParts.{ScriptParts}
use Rattle.tt_world.specs.ConfigRules.{IsConfig, IsOisr}
use Rattle.tt_world.specs.Rows.{no_oisr, routine_of}
use Rattle.tt_world.specs.World.{World, IsrSource, OisrSource}
use Rattle.osek_idle.specs.Subsystem.{Subsystem, begun, left_in, lefts, IsSettled}
use Rattle.osek_idle.specs.Standing.{routine_body}
use Rattle.stack_dispatch.specs.State.{Beside, Fixed, IsFor, bodies_of}
use Rattle.stack_dispatch.proofs.ProgramBodies.{isr_program, oisr_program}

module _ (c : ConfigParts) (s : ScriptParts) (b : Beside) (is_for : IsFor c s b) where
  codes_are : b.codes ≡ bodies_of c
  codes_are = ap (λ (f : Fixed). f.codes) is_for

  -- it begins with its whole body
  pub isr_begins : (n : ℕ) → n < length c.isrs
      → body_of b.codes (b.first + n) ≡ routine_of c (IsrSource (record { 0 = n }))
  isr_begins n l =
      ap (λ codes. body_of codes (b.first + n)) codes_are
      ∙ ap (λ first. body_of (bodies_of c) (first + n)) (ap (λ (f : Fixed). f.first) is_for)
      ∙ isr_program c n l

  pub oisr_begins : (n : ℕ) → n < length c.oisrs
      → routine_body b.codes b.setup n ≡ routine_of c (OisrSource (record { 0 = n }))
  oisr_begins n l =
      ap (λ codes. routine_body codes b.setup n) codes_are
      ∙ ap (λ (f : Fixed). routine_body (bodies_of c) f.setup n) is_for
      ∙ ap (λ k. body_of (bodies_of c) ((length c.tasks + length c.isrs) + (k + n)))
      (length-map c.oseks (λ (task : OsekDef). task.priority))
      ∙ oisr_program c n l

-- the body of a routine is not empty
pub oisr_some : (c : ConfigParts) → IsConfig c → (n : ℕ) → n < length c.oisrs
    → routine_of c (OisrSource (record { 0 = n })) ≢ []
oisr_some c rules n l e =
    let some = (All-get_or (IsOisr c) c.oisrs n no_oisr l rules.oisrs).routine.some in
    let none : length (get_or c.oisrs n no_oisr).body ≡ 0 = ap length e in
    absurd (omega arith)

-- the world with this subsystem
abbrev pub with_osek : World → Subsystem → World
with_osek w s = record w { oisrs = lefts s.routines; oseks = lefts s.tasks }

abbrev pub with_oisrs : World → List (List Stmt) → World
with_oisrs w left = record w { oisrs = left }

-- what is left after a routine began
pub lefts_begun : (body : List Stmt) (n : ℕ) (s : Subsystem)
    → lefts (begun body n s).routines ≡ slice_set (lefts s.routines) n body
lefts_begun body n s = map-set left_in s.routines n (Some body)

-- something is still left of each
pub settled_begun : (body : List Stmt) (n : ℕ) (s : Subsystem) → body ≢ [] → IsSettled s → IsSettled (begun body n s)
settled_begun body n s some h = record {
  tasks = h.tasks;
  routines = All-set (λ (state : Option (List Stmt)). IfSome state (λ left. left ≢ [])) s.routines n
      (Some body) some h.routines;
}
