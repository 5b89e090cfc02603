-- The world at an instant: all that a run depends on besides its configuration and its script.
use Rattle.std.specs.Prelude.{ℕ, ℤ, Bool, List, Option}
use Rattle.tt_base.specs.declared.number.IsrNo.{IsrNo}
use Rattle.tt_base.specs.declared.number.ModeNo.{ModeNo}
use Rattle.tt_base.specs.declared.number.OisrNo.{OisrNo}
use Rattle.tt_base.specs.declared.event.Owner.{Owner}
use Rattle.task_lang.specs.declared.syntax.Stmt.{Stmt}

-- an activation of the present round: the entry number of the row that activated the task, and what is left of the
-- task's body
pub record Job : Type 0 where
  pub entry : ℕ
  pub left : List Stmt

-- a source of interrupts: that of a time-triggered routine, or of one of the OSEK subsystem
pub data Source : Type 0 where
  IsrSource : IsrNo → Source
  OisrSource : OisrNo → Source

pub record World : Type 0 where
  -- the present tick, and the tick at which the present round began
  pub tick : ℕ
  pub start : ℕ
  -- the number of the present round, counted from 1, and its application mode
  pub number : ℕ
  pub mode : ModeNo
  -- the mode of the next round
  pub wanted : ModeNo
  -- the correction of the next round whose length is latched
  pub pending : ℤ
  -- the length of the present round, once it is latched
  pub latched : Option ℕ
  -- how many global times were used
  pub times_used : ℕ
  -- the values of the variables, and how many of its script values each demand has used
  pub vars : List ℤ
  pub cursors : List ℕ
  -- all activations of the present round, in their order
  pub jobs : List Job
  -- for each time-triggered routine: whether its source is enabled, whether an interrupt is held, and what is left of
  -- the routine, nothing where it is not unfinished
  pub isrs_enabled : List Bool
  pub isrs_held : List Bool
  pub isrs : List (List Stmt)
  -- the same for each routine of the OSEK subsystem; its source is always enabled
  pub oisrs_held : List Bool
  pub oisrs : List (List Stmt)
  -- what is left of each OSEK task, nothing where it is suspended
  pub oseks : List (List Stmt)
  -- the owner of the tick before, if there was one
  pub last : Option Owner
