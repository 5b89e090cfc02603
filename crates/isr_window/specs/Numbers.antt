-- The sources of one kind, by number.
use Rattle.std.specs.Prelude.{ℕ, ◌&&◌, not, Bool, false, List, [], Option, None, Some, drop, find, length, slice_index_or, slice_set}
use Rattle.std.specs.List.{range_with_len}
use Rattle.isr_window.specs.Window.{is_next}

-- the first of this many numbers, from 0 on, that passes a test
abbrev pub first_number : (ℕ → Bool) → ℕ → Option ℕ
first_number test count = find test (range_with_len 0 count)

-- the number of the first list whose first tick is this one
abbrev pub first_at : ℕ → List (List ℕ) → Option ℕ
first_at now left = first_number (λ number. is_next now (slice_index_or left number [])) (length left)

-- the lists, without the first tick of the list of a number
abbrev pub without_next : Option ℕ → List (List ℕ) → List (List ℕ)
without_next None left = left
without_next (Some number) left = slice_set left number (drop 1 (slice_index_or left number []))

-- the flags, with this value at a number
abbrev pub with_flag : Option ℕ → Bool → List Bool → List Bool
with_flag None flag flags = flags
with_flag (Some number) flag flags = slice_set flags number flag

-- whether an interrupt of a source can be accepted: one that is held, at a source that is enabled and not busy
abbrev pub is_ready_in : (held enabled busy : List Bool) → ℕ → Bool
is_ready_in held enabled busy number =
    slice_index_or held number false && (slice_index_or enabled number false && not (slice_index_or busy number false))

-- the number of the first such source
abbrev pub first_ready_in : (held enabled busy : List Bool) → Option ℕ
first_ready_in held enabled busy = first_number (is_ready_in held enabled busy) (length held)
