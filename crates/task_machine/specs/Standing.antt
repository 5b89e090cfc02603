-- The list of statements that a frame, with its codes, stands for.
use Rattle.std.specs.Prelude.{◌≡◌, ℕ, ◌<◌, ◌≤◌, Bool, List, [], ◌∷◌, ◌++◌, length, slice_index_or, IsTrue, ◌↔◌}
use Rattle.task_lang.specs.declared.syntax.Stmt.{Stmt, out-Stmt}
use Rattle.task_lang.specs.declared.syntax.Stmt.TheOpen.{Stmt-F}
use Rattle.task_lang.specs.Tick.{work_then}
use Rattle.task_machine.specs.Layout.{body_code}
use Rattle.task_machine.specs.Place.{Rests}
use Rattle.task_machine.specs.Reading.{left_at}
use Rattle.task_machine.specs.declared.instr.Instr.{Instr}
use Rattle.task_machine.specs.declared.frame.Frame.{Frame}

-- the body of a program
abbrev pub body_of : List (List Stmt) → ℕ → List Stmt
body_of codes program = slice_index_or codes program []

-- the instructions of a program
abbrev pub code_of : List (List Stmt) → ℕ → List Instr
code_of codes program = body_code 0 (body_of codes program)

-- The list of statements that is left at the place of a frame.
unfoldable pub left_of : List (List Stmt) → Frame → List Stmt
left_of codes frame = work_then frame.work (left_at (code_of codes frame.program) frame.counters frame.place)

-- the number of its program
abbrev pub program_of : Frame → ℕ
program_of frame = frame.program

-- In this code the frame rests at a place where this list is left, and it knows whether that is empty.
pub record IsAt (code : List Instr) (frame : Frame) (l : List Stmt) : Type 0 where
  pub rests : Rests code frame.counters l frame.place frame.work
  pub ended : IsTrue frame.ended ↔ (l ≡ [])

-- The frame belongs to these codes: its program exists, and it rests at a place of it.
pub record IsSound (codes : List (List Stmt)) (frame : Frame) : Type 0 where
  pub exists : frame.program < length codes
  pub is_at : IsAt (code_of codes frame.program) frame (left_of codes frame)

-- A frame, with its codes, stands for a list of statements left.
pub record StandsFor (codes : List (List Stmt)) (frame : Frame) (l : List Stmt) : Type 0 where
  pub sound : IsSound codes frame
  pub left : left_of codes frame ≡ l

-- the ticks of a `work`, and 0 for another statement
abbrev pub work_of : {A : Type 0} → Stmt-F A → ℕ
work_of (Stmt-F.Work ticks) = ticks
work_of _ = 0

-- the ticks of the `work` at the front of a list, 0 where the first statement is no `work` or there is none
abbrev pub work_in_front : List Stmt → ℕ
work_in_front [] = 0
work_in_front (front ∷ rest) = work_of (out-Stmt front)

-- the ticks left of the `work` that it has begun
abbrev pub work_begun : Frame → ℕ
work_begun frame = frame.work

-- whether it knows that nothing is left
abbrev pub is_ended : Frame → Bool
is_ended frame = frame.ended

-- A frame that stands for no list, whatever the codes are (at most 256).
abbrev pub IsNoFrame : Frame → Type 0
IsNoFrame frame = (codes : List (List Stmt)) → length codes ≤ 256 → IsSound codes frame → ⊥

-- A frame stands for the same list after more codes were appended.
abbrev pub CodesMayGrow : Type 0
CodesMayGrow = (codes more : List (List Stmt)) (frame : Frame) (l : List Stmt) → StandsFor codes frame l
    → StandsFor (codes ++ more) frame l
