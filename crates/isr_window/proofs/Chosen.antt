-- The first source of all, found kind by kind.
use Rattle.std.proofs.Common.{ℕ, ◌≡◌, ◌≤◌, ◌+◌, Bool, true, false, cond, List, [], ◌∷◌, ◌++◌, length, get_or, refl, sym, ap, ◌∙◌}
use Rattle.std.specs.Prelude.{Option, None, Some, ◌&&◌, not, find, map, option_map}
use Rattle.std.specs.List.{range_with_len}
use Rattle.std.specs.Option.{option_or, ForSome}
use Rattle.std.proofs.lemmas.List.Folds.{find-append}
use Rattle.tt_world.specs.World.{Source, IsrSource, OisrSource}
use Rattle.isr_window.specs.Busy.{BusySources}
use Rattle.isr_window.specs.Window.{Window, is_at, is_next, is_due, is_ready, first_due, first_ready, least_next, next_tick, taking}
use Rattle.isr_window.specs.Numbers.{first_at, first_ready_in, is_ready_in, with_flag, without_next}
use Rattle.isr_window.proofs.Firsts.{find-map, none_next, none_passes, is_after, is_from, from_both}

-- the time-triggered source of a number
abbrev pub isr_source : ℕ → Source
isr_source number = IsrSource (record { 0 = number })

-- the source of the OSEK subsystem of a number
abbrev pub oisr_source : ℕ → Source
oisr_source number = OisrSource (record { 0 = number })

-- the first of the sources of one kind, else the first of those of the other
pub first_of_both : (test : Source → Bool) (isrs oisrs : ℕ)
    → find test (map isr_source (range_with_len 0 isrs) ++ map oisr_source (range_with_len 0 oisrs)) ≡ option_or
    (option_map isr_source (find (λ number. test (isr_source number)) (range_with_len 0 isrs)))
    (option_map oisr_source (find (λ number. test (oisr_source number)) (range_with_len 0 oisrs)))
first_of_both test isrs oisrs =
    find-append test (map isr_source (range_with_len 0 isrs)) (map oisr_source (range_with_len 0 oisrs))
    ∙ ap (λ o. option_or o (find test (map oisr_source (range_with_len 0 oisrs))))
    (find-map test isr_source (range_with_len 0 isrs))
    ∙ ap (option_or (option_map isr_source (find (λ number. test (isr_source number)) (range_with_len 0 isrs))))
    (find-map test oisr_source (range_with_len 0 oisrs))

-- ---- arrivals

-- the first source with an arrival, by kind
pub first_due_is : (now : ℕ) (g : Window)
    → first_due now g ≡ option_or (option_map isr_source (first_at now g.isrs_left))
    (option_map oisr_source (first_at now g.oisrs_left))
first_due_is now g = first_of_both (is_due now g) (length g.isrs_left) (length g.oisrs_left)

-- where the next arrival comes later, no source has one now
pub none_due : (now : ℕ) (g : Window) → ForSome (next_tick g) (λ tick. now ≤ tick) → is_at now (next_tick g) ≡ false
    → None ≡ first_due now g
none_due now g none_before other =
    let after = from_both (now + 1) (least_next g.isrs_left) (least_next g.oisrs_left)
    (is_after now (next_tick g) (is_from now (next_tick g) none_before) other) in
    sym (first_due_is now g
    ∙ ap (λ o. option_or (option_map isr_source o) (option_map oisr_source (first_at now g.oisrs_left)))
    (none_passes (λ number. is_next now (get_or g.isrs_left number [])) 0 (length g.isrs_left)
    (none_next now g.isrs_left after.0))
    ∙ ap (option_map oisr_source) (none_passes (λ number. is_next now (get_or g.oisrs_left number [])) 0
    (length g.oisrs_left) (none_next now g.oisrs_left after.1)))

-- a time-triggered source has one
pub due_isr : (now : ℕ) (g : Window) (number : ℕ) → first_at now g.isrs_left ≡ Some number
    → first_due now g ≡ Some (isr_source number)
due_isr now g number found =
    first_due_is now g
    ∙ ap (λ o. option_or (option_map isr_source o) (option_map oisr_source (first_at now g.oisrs_left))) found

-- no time-triggered source has one
pub due_oisr : (now : ℕ) (g : Window) → first_at now g.isrs_left ≡ None
    → first_due now g ≡ option_map oisr_source (first_at now g.oisrs_left)
due_oisr now g none =
    first_due_is now g
    ∙ ap (λ o. option_or (option_map isr_source o) (option_map oisr_source (first_at now g.oisrs_left))) none

-- ---- acceptances

-- the same first number passes two tests that agree
pub find_same : (test other : ℕ → Bool) (numbers : List ℕ) → ((number : ℕ) → test number ≡ other number)
    → find test numbers ≡ find other numbers
find_same test other [] same = refl
find_same test other (number ∷ rest) same =
    ap (λ passes. cond passes (Some number) (find test rest)) (same number)
    ∙ ap (cond (other number) (Some number)) (find_same test other rest same)

-- it changes nothing to test twice whether an interrupt is held
held_twice : (held free : Bool) → (held && free) ≡ (held && (held && free))
held_twice true free = refl
held_twice false free = refl

-- the first source of which an interrupt can be accepted, by kind
pub first_ready_is : (busy : BusySources) (g : Window) → length g.isrs_held ≡ length g.isrs_left
    → length g.oisrs_held ≡ length g.oisrs_left
    → first_ready busy g ≡ option_or (option_map isr_source (first_ready_in g.isrs_held g.isrs_enabled busy.isrs))
    (option_map oisr_source (first_ready_in g.oisrs_held g.oisrs_held busy.oisrs))
first_ready_is busy g isrs oisrs =
    first_of_both (is_ready busy g) (length g.isrs_left) (length g.oisrs_left)
    ∙ ap
    (λ n. option_or (option_map isr_source
    (find (is_ready_in g.isrs_held g.isrs_enabled busy.isrs) (range_with_len 0 n)))
    (option_map oisr_source (find (λ number. is_ready busy g (oisr_source number))
    (range_with_len 0 (length g.oisrs_left))))) (sym isrs)
    ∙ ap (λ o. option_or (option_map isr_source (first_ready_in g.isrs_held g.isrs_enabled busy.isrs))
    (option_map oisr_source o))
    (find_same (λ number. is_ready busy g (oisr_source number)) (is_ready_in g.oisrs_held g.oisrs_held busy.oisrs)
    (range_with_len 0 (length g.oisrs_left))
    (λ number. held_twice (get_or g.oisrs_held number false) (not (get_or busy.oisrs number false)))
    ∙ ap (λ n. find (is_ready_in g.oisrs_held g.oisrs_held busy.oisrs) (range_with_len 0 n)) (sym oisrs))

-- it is a time-triggered one
pub ready_isr : (busy : BusySources) (g : Window) (number : ℕ) → length g.isrs_held ≡ length g.isrs_left
    → length g.oisrs_held ≡ length g.oisrs_left → first_ready_in g.isrs_held g.isrs_enabled busy.isrs ≡ Some number
    → first_ready busy g ≡ Some (isr_source number)
ready_isr busy g number isrs oisrs found =
    first_ready_is busy g isrs oisrs
    ∙ ap (λ o. option_or (option_map isr_source o)
    (option_map oisr_source (first_ready_in g.oisrs_held g.oisrs_held busy.oisrs))) found

-- it is none of the time-triggered ones
pub ready_oisr : (busy : BusySources) (g : Window) → length g.isrs_held ≡ length g.isrs_left
    → length g.oisrs_held ≡ length g.oisrs_left → first_ready_in g.isrs_held g.isrs_enabled busy.isrs ≡ None
    → first_ready busy g ≡ option_map oisr_source (first_ready_in g.oisrs_held g.oisrs_held busy.oisrs)
ready_oisr busy g isrs oisrs none =
    first_ready_is busy g isrs oisrs
    ∙ ap (λ o. option_or (option_map isr_source o)
    (option_map oisr_source (first_ready_in g.oisrs_held g.oisrs_held busy.oisrs))) none

-- ---- what was found

-- a number and a flag of it
pub found_number : (flag : ℕ → Bool) (found : Option ℕ) (number : ℕ) (merged : Bool)
    → ◌≡◌ {A = Option (ℕ × Bool)} (Some (number, merged)) (option_map (λ (n : ℕ). (n, flag n)) found)
    → (found ≡ Some number) × (merged ≡ flag number)
found_number flag None number merged e = absurd cc
found_number flag (Some n) number merged e =
    let numbers : Some number ≡ Some n = ap (option_map (λ (p : ℕ × Bool). p.0)) e in
    let flags : Some merged ≡ Some (flag n) = ap (option_map (λ (p : ℕ × Bool). p.1)) e in
    let same : n ≡ number = cc in
    let flagged : merged ≡ flag n = cc in
    (sym numbers, flagged ∙ ap flag same)

-- nothing
pub found_none : (flag : ℕ → Bool) (found : Option ℕ)
    → ◌≡◌ {A = Option (ℕ × Bool)} None (option_map (λ (n : ℕ). (n, flag n)) found) → found ≡ None
found_none flag None e = refl
found_none flag (Some n) e = absurd cc

-- an option that holds no element is None
pub not_some : {X : Type 0} (o : Option X) → ((x : X) → o ≡ Some x → ⊥) → o ≡ None
not_some None none = refl
not_some (Some x) none = absurd (none x refl)

-- ---- the state after an arrival

taking_isr : (g : Window) (found : Option ℕ)
    → record g { isrs_held = with_flag found true g.isrs_held; isrs_left = without_next found g.isrs_left } ≡ taking
    (option_map isr_source found) g
taking_isr g None = refl
taking_isr g (Some number) = refl

taking_oisr : (g : Window) (found : Option ℕ)
    → record g { oisrs_held = with_flag found true g.oisrs_held; oisrs_left = without_next found g.oisrs_left } ≡ taking
    (option_map oisr_source found) g
taking_oisr g None = refl
taking_oisr g (Some number) = refl

-- after an arrival at a time-triggered source
pub took_isr : (now : ℕ) (g : Window) (number : ℕ) (left : List (List ℕ)) (held : List Bool)
    → first_at now g.isrs_left ≡ Some number → left ≡ without_next (first_at now g.isrs_left) g.isrs_left
    → held ≡ with_flag (first_at now g.isrs_left) true g.isrs_held
    → record g { isrs_held = held; isrs_left = left } ≡ taking (first_due now g) g
took_isr now g number left held found left_is held_is =
    ap (λ l. record g { isrs_held = held; isrs_left = l }) left_is
    ∙ ap (λ h. record g { isrs_held = h; isrs_left = without_next (first_at now g.isrs_left) g.isrs_left }) held_is
    ∙ taking_isr g (first_at now g.isrs_left)
    ∙ ap (λ o. taking (option_map isr_source o) g) found
    ∙ sym (ap (λ o. taking o g) (due_isr now g number found))

-- after one at a source of the OSEK subsystem, or none
pub took_oisr : (now : ℕ) (g : Window) (isrs_left left : List (List ℕ)) (isrs_held held : List Bool)
    → first_at now g.isrs_left ≡ None → isrs_left ≡ without_next (first_at now g.isrs_left) g.isrs_left
    → isrs_held ≡ with_flag (first_at now g.isrs_left) true g.isrs_held
    → left ≡ without_next (first_at now g.oisrs_left) g.oisrs_left
    → held ≡ with_flag (first_at now g.oisrs_left) true g.oisrs_held
    → record g { isrs_held = isrs_held; isrs_left = isrs_left; oisrs_held = held; oisrs_left = left } ≡ taking
    (first_due now g) g
took_oisr now g isrs_left left isrs_held held none isrs_left_is isrs_held_is left_is held_is =
    let same_left : isrs_left ≡ g.isrs_left = isrs_left_is ∙ ap (λ o. without_next o g.isrs_left) none in
    let same_held : isrs_held ≡ g.isrs_held = isrs_held_is ∙ ap (λ o. with_flag o true g.isrs_held) none in
    ap (λ l. record g { isrs_held = isrs_held; isrs_left = l; oisrs_held = held; oisrs_left = left }) same_left
    ∙ ap (λ h. record g { isrs_held = h; oisrs_held = held; oisrs_left = left }) same_held
    ∙ ap (λ l. record g { oisrs_held = held; oisrs_left = l }) left_is
    ∙ ap (λ h. record g { oisrs_held = h; oisrs_left = without_next (first_at now g.oisrs_left) g.oisrs_left }) held_is
    ∙ taking_oisr g (first_at now g.oisrs_left)
    ∙ sym (ap (λ o. taking o g) (due_oisr now g none))
