-- The next arrival among the arrivals to come.
use Rattle.std.specs.Prelude.{◌≡◌, ℕ, nat_le, true, List, []}
use Rattle.std.specs.List.{list_all}
use Rattle.std.specs.Prelude.{Option, None, Some}
use Rattle.tt_world.specs.World.{Source}
use Rattle.tt_world.specs.ScriptRules.{ticks_ascend}
use Rattle.isr_window.specs.Window.{Window, left_at, next_tick}

-- none of the arrivals to come at a source is before the next arrival
abbrev pub AreNotBefore : Option ℕ → List ℕ → Type 0
AreNotBefore None left = left ≡ []
AreNotBefore (Some next) left = list_all (λ tick. nat_le next tick) left ≡ true

-- none of the arrivals to come at a source whose ticks ascend is before the next arrival
abbrev pub NextIsLeast : Type 0
NextIsLeast =
    (g : Window) (source : Source) → ticks_ascend 0 (left_at g source) ≡ true
    → AreNotBefore (next_tick g) (left_at g source)
