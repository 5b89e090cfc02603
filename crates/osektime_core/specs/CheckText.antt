-- The text of the schedule check.
use Rattle.std.specs.Prelude.{ℕ, Bool, true, false, List, [], ◌∷◌, ◌++◌, length, Option, None, Some, codes, decimal}
use Rattle.tt_base.specs.declared.number.ModeNo.{ModeNo}
use Rattle.tt_base.specs.declared.names.Declared.TheVariants as Which
use Rattle.tt_base.specs.Names.{name_of}
use Rattle.trace_text.specs.Lines.{line}
use Rattle.tt_world.specs.declared.config.Activation.{Activation}
use Rattle.tt_world.specs.declared.config.ModeDef.{ModeDef}
use Rattle.tt_world.specs.declared.config.ConfigParts.{ConfigParts}
use Rattle.tt_world.specs.declared.script.ScriptParts.{ScriptParts}
use Rattle.tt_world.specs.Rows.{mode_at, row_of}
use Rattle.schedule_check.specs.Demand.{demand}
use Rattle.schedule_check.specs.KeepsBounds.{keeps_bounds}
use Rattle.schedule_check.specs.Responses.{answer_of, response}
use Rattle.schedule_check.specs.declared.answers.CheckAnswer.{CheckAnswer}
use Rattle.schedule_check.specs.declared.answers.CheckAnswer.TheVariants.{Yes, No}
use Rattle.osektime_core.specs.TableText.{texts_below}

-- the response end of an activation, or, where it has none, its demand at the deadline
abbrev pub found_words : Option ℕ → (late : ℕ) → List (List ℕ)
found_words (Some end) late = codes "response" ∷ decimal end ∷ []
found_words None late = codes "late" ∷ decimal late ∷ []

abbrev pub response_words : ConfigParts → ModeDef → Activation → List (List ℕ)
response_words c mode row = found_words (response c mode row) (demand c mode row.offset row.deadline)

-- the line of an activation of a mode
unfoldable pub response_line : ConfigParts → ModeNo → Activation → List ℕ
response_line c number row =
    line (name_of c.names (Which.Mode number) ∷ decimal row.offset ∷ name_of c.names (Which.Task row.task)
    ∷ (response_words c (mode_at c number.0) row ++ codes "deadline" ∷ decimal row.deadline ∷ []))

-- the lines of the activations of a mode with entry numbers below this one
abbrev pub entries_below : ConfigParts → ModeNo → ℕ → List ℕ
entries_below c number count =
    texts_below (λ entry. response_line c number (row_of (mode_at c number.0) entry)) count

-- the lines of a mode
unfoldable pub responses_text : ConfigParts → ModeNo → List ℕ
responses_text c number = entries_below c number (length (mode_at c number.0).activations)

-- the lines of the modes with numbers below this one
abbrev pub responses_below : ConfigParts → ℕ → List ℕ
responses_below c count = texts_below (λ number. responses_text c (record { 0 = number })) count

-- whether the script keeps its declared bounds
abbrev pub bounds_line : Bool → List ℕ
bounds_line true = line (codes "bounds" ∷ codes "kept" ∷ [])
bounds_line false = line (codes "bounds" ∷ codes "broken" ∷ [])

-- the answer of the check
abbrev pub answer_line : CheckAnswer → List ℕ
answer_line Yes = line (codes "check" ∷ codes "yes" ∷ [])
answer_line (No mode entry) = line (codes "check" ∷ codes "no" ∷ [])

-- the lines of all modes, that of the bounds and that of the answer
unfoldable pub check_text : ConfigParts → ScriptParts → List ℕ
check_text c s =
    responses_below c (length c.modes) ++ (bounds_line (keeps_bounds c s) ++ answer_line (answer_of c))
