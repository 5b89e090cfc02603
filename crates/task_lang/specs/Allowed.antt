-- Which owner may have which statements.
use Rattle.std.specs.Prelude.{Bool, true, false}
use Rattle.tt_base.specs.declared.event.Call.{Call}
use Rattle.tt_base.specs.declared.event.Call.TheVariants.{Switch, Sync, Shutdown, Activate, Chain, Terminate}
use Rattle.task_lang.specs.declared.allowed.OwnerKind.{OwnerKind}
use Rattle.task_lang.specs.declared.allowed.OwnerKind.TheVariants.{Task, Isr, Osek, Oisr, Hook}
use Rattle.task_lang.specs.declared.syntax.Stmt.TheOpen.{Stmt-F}

-- a row of the table, read in the column of an owner's kind
abbrev pub column : OwnerKind → (task isr osek oisr hook : Bool) → Bool
column Task task isr osek oisr hook = task
column Isr task isr osek oisr hook = isr
column Osek task isr osek oisr hook = osek
column Oisr task isr osek oisr hook = oisr
column Hook task isr osek oisr hook = hook

-- the rows of the services; the columns are task, isr, osek, oisr and hook
abbrev pub may_call : OwnerKind → Call → Bool
may_call kind (Switch mode) = column kind true true false false false
may_call kind Sync = column kind true true false false false
may_call kind Shutdown = column kind true true false false false
may_call kind (Activate task) = column kind false false true true false
may_call kind (Chain task) = column kind false false true false false
may_call kind Terminate = column kind false false true false false

-- the rows of the statements, each for the statement itself and not for those inside it
abbrev pub is_allowed : {A : Type 0} → OwnerKind → Stmt-F A → Bool
is_allowed kind (Stmt-F.Set var expr) = column kind true true true true true
is_allowed kind (Stmt-F.Out expr) = column kind true true true true true
is_allowed kind (Stmt-F.Work ticks) = column kind true true true true false
is_allowed kind (Stmt-F.Take demand) = column kind true true true true false
is_allowed kind (Stmt-F.If expr first second) = column kind true true true true false
is_allowed kind (Stmt-F.Repeat turns body) = column kind true true true true false
is_allowed kind (Stmt-F.Service call) = may_call kind call
