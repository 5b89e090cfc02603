-- The declared words of stack.
use Rattle.std.specs.Prelude.{ℕ, List, [], map, slice_index_or}
use Rattle.tt_base.specs.declared.number.ModeNo.{ModeNo}
use Rattle.tt_world.specs.declared.config.Activation.{Activation}
use Rattle.tt_world.specs.declared.config.ConfigParts.{ConfigParts}
use Rattle.tt_world.specs.declared.config.IsrDef.{IsrDef}
use Rattle.tt_world.specs.declared.config.ModeDef.{ModeDef}
use Rattle.tt_world.specs.Rows.{no_task}

pub record Words : Type 0 where
  -- those of the routines, and those of the rows of each mode: these never change
  pub isrs : List ℕ
  pub rows : List (List ℕ)
  -- the mode of the present round
  pub mode : ModeNo

-- ---- of a configuration

-- the words of the task of a row
abbrev pub row_words : ConfigParts → Activation → ℕ
row_words c row = (slice_index_or c.tasks row.task.0 no_task).stack

-- the words of the rows of a mode
abbrev pub mode_words : ConfigParts → ModeDef → List ℕ
mode_words c mode = map (row_words c) mode.activations

-- the words of the rows of each mode
abbrev pub all_row_words : ConfigParts → List (List ℕ)
all_row_words c = map (mode_words c) c.modes

-- the words of the routines
abbrev pub all_isr_words : ConfigParts → List ℕ
all_isr_words c = map (λ (isr : IsrDef). isr.stack) c.isrs

-- ---- of a round

-- the words of a row of the present mode; 0 where there is none
abbrev pub entry_words : Words → ℕ → ℕ
entry_words words entry = slice_index_or (slice_index_or words.rows words.mode.0 []) entry 0

-- the words of a routine; 0 where there is none
abbrev pub routine_words : Words → ℕ → ℕ
routine_words words isr = slice_index_or words.isrs isr 0
