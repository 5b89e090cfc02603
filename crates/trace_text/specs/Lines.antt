-- The line that a trace has for an event.
use Rattle.std.specs.Prelude.{ℕ, ℤ, pos, negsuc, true, false, List, [], ◌∷◌, ◌++◌, codes, decimal}
use Rattle.std.specs.List.{flat_map}
use Rattle.std.specs.Fmt.{signed_decimal}
use Rattle.tt_base.specs.declared.names.NameEntry.{NameEntry}
use Rattle.tt_base.specs.declared.names.Declared.TheVariants as Which
use Rattle.tt_base.specs.declared.event.Call.{Call}
use Rattle.tt_base.specs.declared.event.Call.TheVariants as Service
use Rattle.tt_base.specs.declared.event.Event.{Event}
use Rattle.tt_base.specs.declared.event.Event.TheVariants as On
use Rattle.tt_base.specs.declared.event.Owner.{Owner}
use Rattle.tt_base.specs.declared.event.Owner.TheVariants as By
use Rattle.tt_base.specs.Names.{name_of}
use Rattle.tt_doc.specs.Words.{joined}

-- the name of an owner of ticks
abbrev pub owner_name : List NameEntry → Owner → List ℕ
owner_name names (By.Task task) = name_of names (Which.Task task)
owner_name names (By.Isr isr) = name_of names (Which.Isr isr)
owner_name names (By.Osek task) = name_of names (Which.Osek task)
owner_name names (By.Oisr isr) = name_of names (Which.Oisr isr)
owner_name names By.ErrorHook = codes "ttErrorHook"
owner_name names By.ShutdownHook = codes "ttShutdownHook"
owner_name names By.Idle = codes "idle"

-- a service, and its argument where it has one
abbrev pub call_words : List NameEntry → Call → List (List ℕ)
call_words names (Service.Switch mode) = codes "ttSwitchAppMode" ∷ name_of names (Which.Mode mode) ∷ []
call_words names Service.Sync = codes "ttSyncTimes" ∷ []
call_words names Service.Shutdown = codes "ttShutdownOS" ∷ []
call_words names (Service.Activate task) = codes "ActivateTask" ∷ name_of names (Which.Osek task) ∷ []
call_words names (Service.Chain task) = codes "ChainTask" ∷ name_of names (Which.Osek task) ∷ []
call_words names Service.Terminate = codes "TerminateTask" ∷ []

-- a correction with its sign: `-` below 0, else `+`
abbrev pub correction : ℤ → List ℕ
correction (pos ticks) = codes "+" ++ decimal ticks
correction (negsuc ticks) = signed_decimal (negsuc ticks)

-- the words of an event's line: its stamp in ticks comes first
abbrev pub words_of_event : List NameEntry → Event → List (List ℕ)
words_of_event names (On.OsStart at mode) =
    decimal at ∷ codes "os" ∷ codes "start" ∷ name_of names (Which.Mode mode) ∷ []
words_of_event names (On.Round at number mode) =
    decimal at ∷ codes "round" ∷ decimal number ∷ name_of names (Which.Mode mode) ∷ []
words_of_event names (On.Correct at by) = decimal at ∷ codes "correct" ∷ correction by ∷ []
words_of_event names (On.Check at task true) =
    decimal at ∷ codes "check" ∷ name_of names (Which.Task task) ∷ codes "met" ∷ []
words_of_event names (On.Check at task false) =
    decimal at ∷ codes "check" ∷ name_of names (Which.Task task) ∷ codes "missed" ∷ []
words_of_event names (On.Enable at isr) = decimal at ∷ codes "enable" ∷ name_of names (Which.Isr isr) ∷ []
words_of_event names (On.Arrive at source) = decimal at ∷ codes "arrive" ∷ owner_name names source ∷ []
words_of_event names (On.Merge at source) = decimal at ∷ codes "merge" ∷ owner_name names source ∷ []
words_of_event names (On.Accept at source) = decimal at ∷ codes "accept" ∷ owner_name names source ∷ []
words_of_event names (On.Activate at task) = decimal at ∷ codes "activate" ∷ name_of names (Which.Task task) ∷ []
words_of_event names (On.Run at who) = decimal at ∷ codes "run" ∷ owner_name names who ∷ []
words_of_event names (On.End at owner) = decimal at ∷ codes "end" ∷ owner_name names owner ∷ []
words_of_event names (On.Out at owner value) =
    decimal at ∷ codes "out" ∷ owner_name names owner ∷ signed_decimal value ∷ []
words_of_event names (On.Called at owner call result) =
    decimal at ∷ codes "call" ∷ owner_name names owner ∷ call_words names call ++ decimal result ∷ []
words_of_event names (On.ErrorHook at task) =
    decimal at ∷ codes "hook" ∷ codes "ttErrorHook" ∷ name_of names (Which.Task task) ∷ []
words_of_event names (On.ShutdownHook at) = decimal at ∷ codes "hook" ∷ codes "ttShutdownHook" ∷ []
words_of_event names (On.Shutdown at) = decimal at ∷ codes "shutdown" ∷ []
words_of_event names (On.Stop at) = decimal at ∷ codes "stop" ∷ []

-- words with one space between them, and a LF after them
abbrev pub line : List (List ℕ) → List ℕ
line words = joined words ++ 10 ∷ []

-- words, each with a space in front of it
abbrev pub spaced : List (List ℕ) → List ℕ
spaced words = flat_map (λ word. 32 ∷ word) words

-- the line of an event
unfoldable pub line_of : List NameEntry → Event → List ℕ
line_of names event = line (words_of_event names event)

-- the text of a trace: the lines of its events
unfoldable pub text_of : List NameEntry → List Event → List ℕ
text_of names events = flat_map (line_of names) events
