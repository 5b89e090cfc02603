-- The one that is picked between two ticks.
use Rattle.std.proofs.Common.{◌≡◌, ◌≢◌, ℕ, zero, suc, List, [], ◌∷◌, length, Option, None, Some, IfSome, refl, sym, ap, ◌∙◌, arith}
use Rattle.std.specs.Prelude.{filter, not, slice_index_or}
use Rattle.std.specs.List.{All, range_with_len}
use Rattle.std.specs.Option.{is_some, option_map}
use Rattle.std.proofs.lemmas.List.{length-map}
use Rattle.std.proofs.lemmas.List.Elements.{filter_agree}
use Rattle.task_lang.specs.declared.syntax.Stmt.{Stmt}
use Rattle.tt_world.specs.declared.world.Runner.TheVariants.{Oisr, Osek}
use Rattle.tt_world.specs.Runners.{is_done, unfinished, highest, oisr_priorities, osek_priorities, first_runner}
use Rattle.osek_idle.specs.Laws.{runner_in, PicksAreTheRunners}
use Rattle.osek_idle.specs.Subsystem.{left_in, lefts, is_ready, ready_numbers, routine_first}

-- something is left of each
abbrev pub AreSettled : List (Option (List Stmt)) → Type 0
AreSettled states = All (λ (state : Option (List Stmt)). IfSome state (λ left. left ≢ [])) states

-- what is left at a number
pub left_at : (states : List (Option (List Stmt))) (n : ℕ)
    → slice_index_or (lefts states) n [] ≡ left_in (slice_index_or states n None)
left_at [] n = refl
left_at (state ∷ states) zero = refl
left_at (state ∷ states) (suc n) = left_at states n

one_done : (state : Option (List Stmt)) → IfSome state (λ left. left ≢ [])
    → is_some state ≡ not (is_done (left_in state))
one_done None settled = refl
one_done (Some []) settled = absurd (settled refl)
one_done (Some (front ∷ rest)) settled = refl

settled_at : (states : List (Option (List Stmt))) (n : ℕ) → AreSettled states
    → IfSome (slice_index_or states n None) (λ left. left ≢ [])
settled_at [] n settled = tt
settled_at (state ∷ states) zero settled = settled 0 None (omega arith)
settled_at (state ∷ states) (suc n) settled = settled_at states n (λ k d within. settled (suc k) d (omega arith))

-- those that are ready, or unfinished, are those of which something is left
pub ready_at : (states : List (Option (List Stmt))) (n : ℕ) → AreSettled states
    → is_ready states n ≡ not (is_done (slice_index_or (lefts states) n []))
ready_at states n settled =
    one_done (slice_index_or states n None) (settled_at states n settled)
    ∙ ap (λ l. not (is_done l)) (sym (left_at states n))

numbers_are : (states : List (Option (List Stmt))) → AreSettled states
    → ready_numbers states ≡ unfinished (lefts states)
numbers_are states settled =
    filter_agree (λ (n : ℕ). is_ready states n) (λ (n : ℕ). not (is_done (slice_index_or (lefts states) n [])))
    (λ n. ready_at states n settled)
    (range_with_len 0 (length states))
    ∙ ap (λ (k : ℕ). filter (λ (n : ℕ). not (is_done (slice_index_or (lefts states) n []))) (range_with_len 0 k))
    (sym (length-map states left_in))

runners : (routine task : Option ℕ) → runner_in (routine_first routine task)
    ≡ first_runner (option_map (λ (number : ℕ). Oisr (record { 0 = number })) routine ∷ option_map
    (λ (number : ℕ). Osek (record { 0 = number })) task ∷ [])
runners (Some routine) task = refl
runners None (Some task) = refl
runners None None = refl

pub picks_are : PicksAreTheRunners
picks_are c w setup s of =
    let routines : highest setup.routines (ready_numbers s.routines)
    ≡ highest (oisr_priorities c) (unfinished w.oisrs) =
    ap (λ p. highest p (ready_numbers s.routines)) of.routine_priorities
    ∙ ap (highest (oisr_priorities c)) (numbers_are s.routines of.settled.routines ∙ ap unfinished (sym of.routines)) in
    let tasks : highest setup.tasks (ready_numbers s.tasks) ≡ highest (osek_priorities c) (unfinished w.oseks) =
    ap (λ p. highest p (ready_numbers s.tasks)) of.task_priorities
    ∙ ap (highest (osek_priorities c)) (numbers_are s.tasks of.settled.tasks ∙ ap unfinished (sym of.tasks)) in
    ap (λ r. runner_in (routine_first r (highest setup.tasks (ready_numbers s.tasks)))) routines
    ∙ ap (λ t. runner_in (routine_first (highest (oisr_priorities c) (unfinished w.oisrs)) t)) tasks
    ∙ runners (highest (oisr_priorities c) (unfinished w.oisrs)) (highest (osek_priorities c) (unfinished w.oseks))
