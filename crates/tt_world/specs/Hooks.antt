-- The bodies of ttErrorHook and ttShutdownHook. A hook runs as a whole at one instant: it takes no time.
use Rattle.std.specs.Prelude.{ℕ, ℤ, List, [], ◌∷◌, ◌++◌, slice_set}
use Rattle.tt_base.specs.declared.number.TaskNo.{TaskNo}
use Rattle.tt_base.specs.declared.event.Event.{Event}
use Rattle.tt_base.specs.declared.event.Event.TheVariants.{Out, ErrorHook, ShutdownHook, Shutdown}
use Rattle.tt_base.specs.declared.event.Owner.{Owner}
use Rattle.tt_base.specs.declared.event.Owner.TheVariants as owner
use Rattle.task_lang.specs.declared.syntax.Stmt.{Stmt, out-Stmt}
use Rattle.task_lang.specs.declared.syntax.Stmt.TheOpen.{Stmt-F}
use Rattle.task_lang.specs.Value.{value_of}
use Rattle.tt_world.specs.declared.config.ConfigParts.{ConfigParts}
use Rattle.tt_world.specs.World.{World}
use Rattle.tt_world.specs.Moved.{Moved, moved, preceded}
use Rattle.std.specs.Prelude.{Some}
use Rattle.tt_world.specs.declared.world.RunEnd.TheVariants as ending
use Rattle.tt_world.specs.Moved.{Outcome}

-- ---- a body, which has no statements but `set` and `out`; any other would do nothing

-- the variables after a statement: a `set` gives a variable the value of its expression
abbrev pub vars_by : List ℤ → Stmt-F Stmt → List ℤ
vars_by vars (Stmt-F.Set var expr) = slice_set vars var.0 (value_of vars expr)
vars_by vars _ = vars

-- the events of a statement: an `out` has one, with the value of its expression
abbrev pub outs_by : (at : ℕ) → Owner → List ℤ → Stmt-F Stmt → List Event
outs_by at hook vars (Stmt-F.Out expr) = Out at hook (value_of vars expr) ∷ []
outs_by at hook vars _ = []

-- the variables after a body
unfoldable pub vars_after : List ℤ → List Stmt → List ℤ
vars_after vars [] = vars
vars_after vars (stmt ∷ rest) = vars_after (vars_by vars (out-Stmt stmt)) rest

-- the events of a body; each statement finds the variables that the ones before it left
unfoldable pub outs_of : (at : ℕ) → Owner → List ℤ → List Stmt → List Event
outs_of at hook vars [] = []
outs_of at hook vars (stmt ∷ rest) =
    outs_by at hook vars (out-Stmt stmt) ++ outs_of at hook (vars_by vars (out-Stmt stmt)) rest

-- ---- the calls of the hooks

-- ttShutdownHook is called, and the run ends by a shutdown with this outcome
abbrev pub shuts_down : ConfigParts → Outcome → World → Moved
shuts_down c end w =
    moved end (record w { vars = vars_after w.vars c.shutdown_hook })
    (ShutdownHook w.tick ∷ (outs_of w.tick owner.ShutdownHook w.vars c.shutdown_hook ++ Shutdown w.tick ∷ []))

-- a task has missed its deadline: ttErrorHook is called with it, and then the run is shut down
abbrev pub misses : ConfigParts → TaskNo → World → Moved
misses c task w =
    preceded (ErrorHook w.tick task ∷ outs_of w.tick owner.ErrorHook w.vars c.error_hook)
    (shuts_down c (Some (ending.Missed task)) (record w { vars = vars_after w.vars c.error_hook }))
