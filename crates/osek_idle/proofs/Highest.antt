-- Who has the highest priority among those that have a frame, from the last number back.
use Rattle.std.proofs.Common.{ℕ, suc, ◌≡◌, ◌<◌, ◌+◌, ◌-◌, List, ◌∷◌, true, false, None, Some, refl, arith, length, ap}
use Rattle.std.specs.Prelude.{filter, slice_index_or}
use Rattle.std.specs.List.{range_with_len}
use Rattle.std.specs.Option.{is_some}
use Rattle.std.proofs.lemmas.List.{length-map}
use Rattle.tt_world.specs.Runners.{higher, highest}
use Rattle.osek_idle.specs.Subsystem.{is_ready, ready_numbers}
use Rattle.osek_idle.specs.Slots.{priorities, frames}
use Rattle.osek_idle.specs.declared.slot.Slot.{Slot}

-- the numbers from this one on of those that have a frame
abbrev pub ready_from : List Slot → ℕ → List ℕ
ready_from slots number = filter (λ (k : ℕ). is_ready (frames slots) k) (range_with_len number (length slots - number))

pub none_yet : (slots : List Slot) (n : ℕ) → n ≡ length slots → highest (priorities slots) (ready_from slots n) ≡ None
unfolding highest
none_yet slots n e =
    let z : length slots - n ≡ 0 = omega arith in
    rw z refl

pub all_seen : (slots : List Slot) → ready_from slots 0 ≡ ready_numbers (frames slots)
all_seen slots =
    let z : length slots - 0 ≡ length (frames slots) = omega (arith, length-map slots (λ (slot : Slot). slot.frame)) in
    ap (λ n. filter (λ (k : ℕ). is_ready (frames slots) k) (range_with_len 0 n)) z

longer : (slots : List Slot) (n m : ℕ) → m ≡ n + 1 → n < length slots
    → range_with_len n (length slots - n) ≡ n ∷ range_with_len m (length slots - m)
longer slots n m e l =
    let z : length slots - n ≡ suc (length slots - m) = omega arith in
    rw (z, e) refl

pub one_more : (slots : List Slot) (n m : ℕ) → m ≡ n + 1 → n < length slots
    → is_some (slice_index_or (frames slots) n None) ≡ true
    → highest (priorities slots) (ready_from slots n)
    ≡ Some (higher (priorities slots) n (highest (priorities slots) (ready_from slots m)))
unfolding highest
one_more slots n m e l u = rw (longer slots n m e l, u) refl

pub none_more : (slots : List Slot) (n m : ℕ) → m ≡ n + 1 → n < length slots
    → is_some (slice_index_or (frames slots) n None) ≡ false
    → ready_from slots n ≡ ready_from slots m
none_more slots n m e l u = rw (longer slots n m e l, u) refl
