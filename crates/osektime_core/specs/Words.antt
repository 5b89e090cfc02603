-- Which command the words of a command line are.
use Rattle.std.specs.Prelude.{ℕ, ◌^◌, nat_lt, List, [], ◌∷◌, map, codes, Option, Some, None, if◌then◌else◌}
use Rattle.std.specs.Global.{Vec}
use Rattle.std.specs.Str.{bytes_eq}
use Rattle.tt_doc.specs.Numbers.{number_of}
use Rattle.osektime_core.specs.declared.words.Command.{Command}
use Rattle.osektime_core.specs.declared.words.Command.TheVariants.{Trace, Show, Table, Check, Load, Bulk}

-- the bytes of each word
abbrev pub bytes_of_each : List (Vec ℕ) → List (List ℕ)
bytes_of_each words = map (λ (word : Vec ℕ). word.items) words

-- the command that a word is
abbrev pub command_named : List ℕ → Option Command
command_named word =
    if bytes_eq word (codes "trace") then Some Trace
    else (if bytes_eq word (codes "show") then Some Show
    else (if bytes_eq word (codes "table") then Some Table
    else (if bytes_eq word (codes "check") then Some Check
    else (if bytes_eq word (codes "load") then Some Load else None))))

-- the command for the bulk document of a number, of which there are 2^32
abbrev pub bulk_of : Option ℕ → Option Command
bulk_of None = None
bulk_of (Some number) = if nat_lt number (2 ^ 32) then Some (Bulk number) else None

-- the command that a word and a number are
abbrev pub command_numbered : (word number : List ℕ) → Option Command
command_numbered word number = if bytes_eq word (codes "bulk") then bulk_of (number_of number) else None

-- the command that the words are: its name, or `bulk` and a number
abbrev pub command_of : List (List ℕ) → Option Command
command_of [] = None
command_of (word ∷ []) = command_named word
command_of (word ∷ (number ∷ [])) = command_numbered word number
command_of (word ∷ (number ∷ (next ∷ rest))) = None
