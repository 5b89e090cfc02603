-- The place of each row of a document among bodies and blocks.
use Rattle.std.specs.Prelude.{List, [], ◌∷◌, Option, Some, None}
use Rattle.task_lang.specs.declared.allowed.OwnerKind.TheVariants as owner
use Rattle.tt_rows.specs.declared.row.Row.{Row}
use Rattle.tt_rows.specs.declared.row.Row.TheVariants as r
pub use Rattle.tt_parts.specs.declared.structure.Standing.{Standing}
pub use Rattle.tt_parts.specs.declared.structure.Standing.TheVariants.{Top, Opener, Plain, OfIf, OfElse, OfRepeat, OfEnd}
pub use Rattle.tt_parts.specs.declared.structure.Open.{Open}
pub use Rattle.tt_parts.specs.declared.structure.Open.TheVariants.{Body, If, Else, Repeat}

-- the place of a row: outside of bodies, before a body, or in one as a statement, `if`, `else`, `repeat` or `end`
abbrev pub standing_of : Row → Standing
standing_of (r.Task name stack) = Opener owner.Task
standing_of (r.Isr name level stack) = Opener owner.Isr
standing_of (r.IsrFar name level stack distance) = Opener owner.Isr
standing_of (r.Osek name priority) = Opener owner.Osek
standing_of (r.OsekAuto name priority) = Opener owner.Osek
standing_of (r.Oisr name priority) = Opener owner.Oisr
standing_of r.HookError = Opener owner.Hook
standing_of r.HookShutdown = Opener owner.Hook
standing_of (r.Work ticks) = Plain
standing_of (r.Take demand) = Plain
standing_of (r.Set var terms) = Plain
standing_of (r.If terms) = OfIf
standing_of r.Else = OfElse
standing_of (r.Repeat turns) = OfRepeat
standing_of r.End = OfEnd
standing_of (r.Out terms) = Plain
standing_of (r.Switch mode) = Plain
standing_of r.Sync = Plain
standing_of r.Shutdown = Plain
standing_of (r.Activate task) = Plain
standing_of (r.Chain task) = Plain
standing_of r.Terminate = Plain
standing_of row = Top

-- an `else` is allowed where the innermost open thing is an `if` without one
abbrev pub after_else : Open → List Open → Option (List Open)
after_else If outer = Some (Else ∷ outer)
after_else (Body kind) outer = None
after_else Else outer = None
after_else Repeat outer = None

-- the stack of what is open after a row, one entry for each, the innermost first. None where the row is not allowed: a
-- top row is allowed only where nothing is open, and a row of a body only where something is
abbrev pub stack_after : List Open → Standing → Option (List Open)
stack_after [] Top = Some []
stack_after [] (Opener kind) = Some (Body kind ∷ [])
stack_after [] standing = None
stack_after (inner ∷ outer) Top = None
stack_after (inner ∷ outer) (Opener kind) = None
stack_after (inner ∷ outer) Plain = Some (inner ∷ outer)
stack_after (inner ∷ outer) OfIf = Some (If ∷ inner ∷ outer)
stack_after (inner ∷ outer) OfElse = after_else inner outer
stack_after (inner ∷ outer) OfRepeat = Some (Repeat ∷ inner ∷ outer)
stack_after (inner ∷ outer) OfEnd = Some outer
