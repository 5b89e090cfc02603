-- The next arrival is the least of those to come.
use Rattle.std.proofs.Common.{ℕ, ◌≡◌, ◌≤◌, ◌+◌, true, List, [], ◌∷◌, refl, ap, ◌∙◌, arith}
use Rattle.std.specs.Prelude.{Option, None, Some, ◌&&◌, nat_le, slice_get}
use Rattle.std.specs.List.{list_all}
use Rattle.std.proofs.lemmas.Bool.{le-leb}
use Rattle.tt_world.specs.World.{Source}
use Rattle.tt_world.specs.ScriptRules.{ticks_ascend}
use Rattle.isr_window.specs.Window.{left_at, next_tick}
use Rattle.isr_window.specs.NextLaw.{AreNotBefore, NextIsLeast}
use Rattle.isr_window.proofs.Firsts.{IsFrom}
use Rattle.isr_window.proofs.TickLists.{ascends}
use Rattle.isr_window.proofs.Arrivals.{each_next}

-- ticks that ascend from `least` on are not before a tick that is at most `least`
all_from : (next least : ℕ) (ticks : List ℕ) → next ≤ least → ticks_ascend least ticks ≡ true
    → list_all (λ tick. nat_le next tick) ticks ≡ true
all_from next least [] low up = refl
all_from next least (tick ∷ rest) low up =
    let parts = ascends least tick rest up in
    let first = parts.first in
    let from : next ≤ tick = omega arith in
    ap (λ b. b && list_all (λ other. nat_le next other) rest) (le-leb next tick from)
    ∙ all_from next (tick + 1) rest (omega arith) parts.others

first_low : (next : ℕ) (ticks : List ℕ) → ticks_ascend 0 ticks ≡ true → IsFrom next (slice_get ticks 0)
    → list_all (λ tick. nat_le next tick) ticks ≡ true
first_low next [] up from = refl
first_low next (tick ∷ rest) up from =
    ap (λ b. b && list_all (λ other. nat_le next other) rest) (le-leb next tick from)
    ∙ all_from next (tick + 1) rest (omega arith) (ascends 0 tick rest up).others

-- a list is empty where its first tick is not before any number
none_first : (ticks : List ℕ) → ((n : ℕ) → IsFrom n (slice_get ticks 0)) → ticks ≡ []
none_first [] from = refl
none_first (tick ∷ rest) from = let low : tick + 1 ≤ tick = from (tick + 1) in absurd (omega arith)

-- the law
pub next_is_least_of : NextIsLeast
next_is_least_of g source up = by_next (next_tick g) (λ n. each_next n g)
  where
    by_next : (next : Option ℕ) → ((n : ℕ) → IsFrom n next → (x : Source) → IsFrom n (slice_get (left_at g x) 0))
        → AreNotBefore next (left_at g source)
    by_next None each = none_first (left_at g source) (λ n. each n tt source)
    by_next (Some next) each = first_low next (left_at g source) up (each next (omega arith) source)
