-- The lines of a document, and what can be wrong with a line by itself.
use Rattle.std.specs.Prelude.{ℕ, ◌==◌, ◌&&◌, not, nat_le, nat_lt, Bool, true, false, List, [], ◌∷◌, length, Option, Some, None, if◌then◌else◌}
use Rattle.std.specs.List.{list_all}
use Rattle.tt_doc.specs.declared.lines.LineKind.{LineKind}
use Rattle.tt_doc.specs.declared.lines.LineKind.TheVariants.{Byte, Long, Cut}

-- a line: its bytes without the LF, and whether a LF ends it
pub record Line : Type 0 where
  pub text : List ℕ
  pub ended : Bool

-- one more byte, at the front of the first of some lines
abbrev pub in_front : ℕ → List Line → List Line
in_front b [] = record { text = b ∷ []; ended = false } ∷ []
in_front b (line ∷ lines) = record { text = b ∷ line.text; ended = line.ended } ∷ lines

-- the lines of a text: a LF ends a line, and bytes after the last LF are a last line that no LF ends
abbrev pub lines_of : List ℕ → List Line
lines_of [] = []
lines_of (b ∷ bytes) = if b == 10 then record { text = []; ended = true } ∷ lines_of bytes
    else in_front b (lines_of bytes)

-- a byte that a line may have
abbrev pub is_plain_byte : ℕ → Bool
is_plain_byte b = nat_le 0x20 b && nat_le b 0x7E

-- the least kind of fault that a line has by itself: a byte outside 0x20 to 0x7E, more than 200 bytes, no LF
abbrev pub fault_of : Line → Option LineKind
fault_of line =
    if not (list_all is_plain_byte line.text) then Some Byte
    else (if nat_lt 200 (length line.text) then Some Long
    else (if line.ended then None else Some Cut))
