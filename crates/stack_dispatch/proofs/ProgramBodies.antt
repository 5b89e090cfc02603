-- The bodies of an application by program number.
use Rattle.std.proofs.Common.{ℕ, ◌≡◌, ◌≢◌, ◌<◌, ◌+◌, List, [], ◌++◌, length, get_or, ap, sym, ◌∙◌, arith}
use Rattle.std.specs.Prelude.{map, slice_index_or}
use Rattle.std.proofs.lemmas.List.{length-map, get_or-map, get_or_append_left, get_or-append-add}
use Rattle.task_lang.specs.declared.syntax.Stmt.{Stmt}
use Rattle.task_machine.specs.Standing.{body_of as program_body}
use Rattle.tt_world.specs.declared.config.ConfigParts.{ConfigParts}
use Rattle.tt_world.specs.declared.config.TaskDef.{TaskDef}
use Rattle.tt_world.specs.declared.config.IsrDef.{IsrDef}
use Rattle.tt_world.specs.declared.config.OsekDef.{OsekDef}
use Rattle.tt_world.specs.declared.config.OisrDef.{OisrDef}
use Rattle.tt_base.specs.declared.number.OsekNo.{OsekNo}
use Rattle.tt_world.specs.ConfigRules.{IsConfig}
use Rattle.tt_world.specs.Rows.{no_task, no_isr, no_osek, no_oisr, osek_body}
use Rattle.osek_idle.specs.Subsystem.{Setup}
use Rattle.osek_idle.specs.Standing.{task_body, setup_for}
use Rattle.stack_dispatch.specs.State.{bodies_of}

-- a number after n places
past : {X : Type 0} (xs ys : List X) (n k : ℕ) (d : X) → length xs ≡ n → get_or (xs ++ ys) (n + k) d ≡ get_or ys k d
past xs ys n k d e = ap (λ m. get_or (xs ++ ys) (m + k) d) (sym e) ∙ get_or-append-add xs ys k d

module _ (c : ConfigParts) where
  abbrev tasks : List (List Stmt)
  tasks = map (λ (task : TaskDef). task.body) c.tasks

  abbrev isrs : List (List Stmt)
  isrs = map (λ (isr : IsrDef). isr.body) c.isrs

  abbrev oseks : List (List Stmt)
  oseks = map (λ (task : OsekDef). task.body) c.oseks

  abbrev oisrs : List (List Stmt)
  oisrs = map (λ (oisr : OisrDef). oisr.body) c.oisrs

  -- the program of a task has its body
  pub task_program : (n : ℕ) → n < length c.tasks → program_body (bodies_of c) n ≡ (get_or c.tasks n no_task).body
  task_program n l =
      get_or_append_left tasks (isrs ++ (oseks ++ oisrs)) [] n
      (rw (length-map c.tasks (λ (task : TaskDef). task.body)) l)
      ∙ get_or-map (λ (task : TaskDef). task.body) c.tasks n no_task [] l

  -- so has that of a time-triggered routine
  pub isr_program : (n : ℕ) → n < length c.isrs
      → program_body (bodies_of c) (length c.tasks + n) ≡ (get_or c.isrs n no_isr).body
  isr_program n l =
      past tasks (isrs ++ (oseks ++ oisrs)) (length c.tasks) n [] (length-map c.tasks (λ (task : TaskDef). task.body))
      ∙ get_or_append_left isrs (oseks ++ oisrs) [] n (rw (length-map c.isrs (λ (isr : IsrDef). isr.body)) l)
      ∙ get_or-map (λ (isr : IsrDef). isr.body) c.isrs n no_isr [] l

  -- the programs after those of the time-triggered routines
  later : (n : ℕ) → program_body (bodies_of c) ((length c.tasks + length c.isrs) + n) ≡ get_or (oseks ++ oisrs) n []
  later n =
      let same : (length c.tasks + length c.isrs) + n ≡ length c.tasks + (length c.isrs + n) = omega arith in
      ap (program_body (bodies_of c)) same
      ∙ past tasks (isrs ++ (oseks ++ oisrs)) (length c.tasks) (length c.isrs + n) []
      (length-map c.tasks (λ (task : TaskDef). task.body))
      ∙ past isrs (oseks ++ oisrs) (length c.isrs) n [] (length-map c.isrs (λ (isr : IsrDef). isr.body))

  -- so has that of an OSEK task
  pub osek_program : (n : ℕ) → n < length c.oseks
      → program_body (bodies_of c) ((length c.tasks + length c.isrs) + n) ≡ (get_or c.oseks n no_osek).body
  osek_program n l =
      later n
      ∙ get_or_append_left oseks oisrs [] n (rw (length-map c.oseks (λ (task : OsekDef). task.body)) l)
      ∙ get_or-map (λ (task : OsekDef). task.body) c.oseks n no_osek [] l

  -- so has that of a routine of the OSEK subsystem
  pub oisr_program : (n : ℕ) → n < length c.oisrs
      → program_body (bodies_of c) ((length c.tasks + length c.isrs) + (length c.oseks + n))
      ≡ (get_or c.oisrs n no_oisr).body
  oisr_program n l =
      later (length c.oseks + n)
      ∙ past oseks oisrs (length c.oseks) n [] (length-map c.oseks (λ (task : OsekDef). task.body))
      ∙ get_or-map (λ (oisr : OisrDef). oisr.body) c.oisrs n no_oisr [] l

-- ---- the bodies of the OSEK tasks, where the codes and the setup are those of the configuration

module _ (c : ConfigParts) (codes : List (List Stmt)) (setup : Setup) (codes_are : codes ≡ bodies_of c)
    (setup_is : setup ≡ setup_for c (length c.tasks + length c.isrs)) where
  -- there are as many as OSEK tasks
  pub count_tasks : length setup.tasks ≡ length c.oseks
  count_tasks =
      ap (λ (s : Setup). length s.tasks) setup_is
      ∙ length-map c.oseks (λ (task : OsekDef). task.priority)

  -- each is that of its task
  pub task_bodies : (task : OsekNo) → task.0 < length setup.tasks
      → task_body codes setup task.0 ≡ osek_body c task
  task_bodies task l =
      ap (λ (k : List (List Stmt)). task_body k setup task.0) codes_are
      ∙ ap (λ (s : Setup). task_body (bodies_of c) s task.0) setup_is
      ∙ osek_program c task.0 (omega (arith, count_tasks, l))

  -- none is empty
  pub have_some : IsConfig c → (n : ℕ) → n < length setup.tasks → task_body codes setup n ≢ []
  have_some rules n l none =
      let within : n < length c.oseks = omega (arith, count_tasks, l) in
      let some = (rules.oseks n no_osek within).routine.some in
      let empty : (slice_index_or c.oseks n no_osek).body ≡ [] = sym (task_bodies (record { 0 = n }) l) ∙ none in
      let zero_long : length (slice_index_or c.oseks n no_osek).body ≡ 0 = ap length empty in
      omega (arith, some, zero_long)
