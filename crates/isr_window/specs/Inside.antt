-- The fields of the crate's values, and how contracts see them.
use Rattle.std.specs.Prelude.{◌≡◌, ℕ, ◌≤◌, List, [], ◌∷◌, drop, length, take, count_by}
use Rattle.isr_window.specs.declared.flags.Flags.TheInside.{Inside as FlagsInside}
use Rattle.isr_window.specs.declared.busy.Busy.TheInside.{Inside as BusyInside}
use Rattle.isr_window.specs.declared.gates.Gates.TheInside.{Inside as GatesInside}
use Rattle.isr_window.specs.Window.{Window, lesser, least_next}

-- the number of flags that are set is known
pub record AreCounted (f : FlagsInside) : Type 0 where
  pub few : f.len ≤ 16
  pub counted : f.set ≡ count_by (λ flag. flag) (take f.len f.flags)

-- there is a flag for each number below 16
pub record AreSixteen (b : BusyInside) : Type 0 where
  pub isrs : length b.isrs ≡ 16
  pub oisrs : length b.oisrs ≡ 16

-- what is left of each list after the number of items that were taken of it
abbrev pub untaken : (taken : List ℕ) → List (List ℕ) → List (List ℕ)
untaken taken [] = []
untaken [] (ticks ∷ rest) = ticks ∷ rest
untaken (count ∷ taken) (ticks ∷ rest) = drop count ticks ∷ untaken taken rest

-- the fields of the gates as the sources of a run
abbrev pub window_of : GatesInside → Window
window_of g = record {
  isrs_enabled = g.isrs_enabled;
  isrs_held = g.isrs_held;
  isrs_left = g.isrs_left;
  oisrs_held = g.oisrs_held;
  oisrs_left = g.oisrs_left;
}

-- there are at most 16 sources of each kind, there is a flag for each, and the least tick is known
pub record IsWindow (g : GatesInside) : Type 0 where
  pub isrs : length g.isrs_left ≤ 16
  pub oisrs : length g.oisrs_left ≤ 16
  pub isrs_enabled : length g.isrs_enabled ≡ length g.isrs_left
  pub isrs_held : length g.isrs_held ≡ length g.isrs_left
  pub oisrs_held : length g.oisrs_held ≡ length g.oisrs_left
  pub next : g.next ≡ lesser (least_next g.isrs_left) (least_next g.oisrs_left)
