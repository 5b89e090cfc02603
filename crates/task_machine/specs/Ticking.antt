-- What ticks of a frame leave.
use Rattle.std.specs.Prelude.{◌≡◌, ℕ, ℤ, List, [], Option, option_to_list}
use Rattle.task_lang.specs.declared.syntax.Stmt.{Stmt}
use Rattle.task_lang.specs.declared.tick.Effect.{Effect}
use Rattle.task_lang.specs.Tick.{State, state_of}
use Rattle.task_machine.specs.Place.{Left}
use Rattle.task_machine.specs.Standing.{IsAt}
use Rattle.task_machine.specs.declared.frame.Frame.{Frame}
use Rattle.task_machine.specs.declared.instr.Instr.{Instr}

-- the state of a list, with no effect so far
abbrev pub begin : List Stmt → List ℤ → List ℕ → State
begin l vars cursors = state_of l vars cursors []

-- what a tick leaves, before the places that take no time are passed
pub record Stepped (code : List Instr) (counters : List ℕ) (p : ℕ) (vars : List ℤ) (cursors : List ℕ)
    (effect : Option Effect) (state : State) : Type 0 where
  pub depth : ℕ
  pub left : Left code counters depth p state.left
  pub vars_are : vars ≡ state.vars
  pub cursors_are : cursors ≡ state.cursors
  pub effects_are : state.effects ≡ option_to_list effect

-- what the ticks of a frame leave
pub record Advanced (code : List Instr) (frame : Frame) (vars : List ℤ) (cursors : List ℕ) (effect : Option Effect)
    (state : State) : Type 0 where
  pub is_at : IsAt code frame state.left
  pub vars_are : vars ≡ state.vars
  pub cursors_are : cursors ≡ state.cursors
  pub effects_are : state.effects ≡ option_to_list effect
