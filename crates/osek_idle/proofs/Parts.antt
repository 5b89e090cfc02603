-- The frames of the subsystem one by one.
use Rattle.std.proofs.Common.{◌≡◌, ℕ, zero, suc, List, [], ◌∷◌, length, Option, None, Some, refl, ap, sym, ◌∙◌}
use Rattle.std.specs.Prelude.{filter, slice_index_or, slice_set}
use Rattle.std.specs.List.{range_with_len}
use Rattle.std.specs.Option.{is_some, option_map}
use Rattle.std.proofs.lemmas.List.{length-map, length-set, map-set}
use Rattle.std.proofs.Math.Seq.{map-set_same}
use Rattle.std.proofs.lemmas.List.Elements.{filter_agree}
use Rattle.task_lang.specs.declared.syntax.Stmt.{Stmt}
use Rattle.task_machine.specs.declared.frame.Frame.{Frame}
use Rattle.task_machine.specs.Standing.{left_of}
use Rattle.osek_idle.specs.Subsystem.{is_ready, ready_numbers, left_in, picked, routine_first}
use Rattle.tt_world.specs.Runners.{highest}
use Rattle.osek_idle.specs.Standing.{states, slot_left, subsystem_of, setup_of}
use Rattle.osek_idle.specs.Slots.{priorities, frames}
use Rattle.osek_idle.specs.declared.slot.Slot.{Slot}
use Rattle.osek_idle.specs.declared.subsystem.Osek.{Osek}

abbrev pub no_slot : Slot
no_slot = record { priority = 0; frame = None }

-- ---- one of them

pub state_at : (codes : List (List Stmt)) (fs : List (Option Frame)) (n : ℕ)
    → slice_index_or (states codes fs) n None ≡ option_map (left_of codes) (slice_index_or fs n None)
state_at codes [] n = refl
state_at codes (f ∷ fs) zero = refl
state_at codes (f ∷ fs) (suc n) = state_at codes fs n

-- what is left of one that has a frame
pub left_is : (codes : List (List Stmt)) (slots : List Slot) (n : ℕ) (f : Frame)
    → slice_index_or (frames slots) n None ≡ Some f → slot_left codes slots n ≡ left_of codes f
left_is codes slots n f is = ap left_in (state_at codes (frames slots) n ∙ ap (option_map (left_of codes)) is)

-- ---- one is changed

pub slots_set : (slots : List Slot) (n : ℕ) (d slot : Slot) → slot.priority ≡ (slice_index_or slots n d).priority
    → priorities (slice_set slots n slot) ≡ priorities slots
slots_set slots n d slot same = map-set_same (λ (s : Slot). s.priority) slots n slot d same

pub frames_set : (slots : List Slot) (n : ℕ) (slot : Slot)
    → frames (slice_set slots n slot) ≡ slice_set (frames slots) n slot.frame
frames_set slots n slot = map-set (λ (s : Slot). s.frame) slots n slot

pub states_set : (codes : List (List Stmt)) (fs : List (Option Frame)) (n : ℕ) (f : Option Frame)
    → states codes (slice_set fs n f) ≡ slice_set (states codes fs) n (option_map (left_of codes) f)
states_set codes fs n f = map-set (option_map (left_of codes)) fs n f

pub set_here : (fs : List (Option Frame)) (n : ℕ) (f g : Frame) → slice_index_or fs n None ≡ Some f
    → slice_index_or (slice_set fs n (Some g)) n None ≡ Some g
set_here [] n f g is = cc
set_here (h ∷ fs) zero f g is = refl
set_here (h ∷ fs) (suc n) f g is = set_here fs n f g is

-- ---- who is ready

some_same : {A B : Type 0} (g : A → B) (o : Option A) → is_some (option_map g o) ≡ is_some o
some_same g None = refl
some_same g (Some a) = refl

pub ready_same : (codes : List (List Stmt)) (fs : List (Option Frame)) (n : ℕ)
    → is_ready (states codes fs) n ≡ is_ready fs n
ready_same codes fs n = ap is_some (state_at codes fs n) ∙ some_same (left_of codes) (slice_index_or fs n None)

pub numbers_same : (codes : List (List Stmt)) (fs : List (Option Frame))
    → ready_numbers (states codes fs) ≡ ready_numbers fs
numbers_same codes fs =
    filter_agree (λ (n : ℕ). is_ready (states codes fs) n) (λ (n : ℕ). is_ready fs n) (ready_same codes fs)
    (range_with_len 0 (length (states codes fs)))
    ∙ ap (λ (n : ℕ). filter (λ (k : ℕ). is_ready fs k) (range_with_len 0 n))
    (length-map fs (option_map (left_of codes)))

ready_as_before : (fs : List (Option Frame)) (n : ℕ) (f g : Frame) → slice_index_or fs n None ≡ Some f
    → (k : ℕ) → is_ready (slice_set fs n (Some g)) k ≡ is_ready fs k
ready_as_before [] n f g is k = refl
ready_as_before (h ∷ fs) zero f g is zero = ap is_some (sym is)
ready_as_before (h ∷ fs) zero f g is (suc k) = refl
ready_as_before (h ∷ fs) (suc n) f g is zero = refl
ready_as_before (h ∷ fs) (suc n) f g is (suc k) = ready_as_before fs n f g is k

-- Where a frame takes the place of another, the same are ready.
pub numbers_as_before : (fs : List (Option Frame)) (n : ℕ) (f g : Frame) → slice_index_or fs n None ≡ Some f
    → ready_numbers (slice_set fs n (Some g)) ≡ ready_numbers fs
numbers_as_before fs n f g is =
    filter_agree (λ (k : ℕ). is_ready (slice_set fs n (Some g)) k) (λ (k : ℕ). is_ready fs k)
    (ready_as_before fs n f g is)
    (range_with_len 0 (length (slice_set fs n (Some g))))
    ∙ ap (λ (l : ℕ). filter (λ (k : ℕ). is_ready fs k) (range_with_len 0 l)) (length-set fs n (Some g))

-- the one who is picked, from the frames
pub picked_is : (codes : List (List Stmt)) (osek : Osek)
    → picked (setup_of osek) (subsystem_of codes osek)
    ≡ routine_first (highest (priorities osek.routines) (ready_numbers (frames osek.routines)))
    (highest (priorities osek.tasks) (ready_numbers (frames osek.tasks)))
picked_is codes osek =
    ap (λ k. routine_first (highest (priorities osek.routines) k)
    (highest (priorities osek.tasks) (ready_numbers (states codes (frames osek.tasks)))))
    (numbers_same codes (frames osek.routines))
    ∙ ap (λ k. routine_first (highest (priorities osek.routines) (ready_numbers (frames osek.routines)))
    (highest (priorities osek.tasks) k))
    (numbers_same codes (frames osek.tasks))
