-- What ticks do to the worst case of a list, and to what each of its statements has.
use Rattle.std.specs.Prelude.{◌≡◌, ◌≢◌, ℕ, suc, ◌+◌, ◌≤◌, Bool, true, nat_le, IsTrue, List, [], slice_get}
use Rattle.std.specs.List.{list_all}
use Rattle.tt_base.specs.declared.number.DemandNo.{DemandNo}
use Rattle.task_lang.specs.declared.syntax.Stmt.TheOpen.{Stmt-F}
use Rattle.task_lang.specs.Limits.{AreNumbersInRange, AreMostsInRange, each_in}
use Rattle.task_lang.specs.Tick.{Supply, State, values_of, given, tick, ticks}
use Rattle.task_lang.specs.Worst.{most_of, worst_in}

-- What a demand is given is at most its most, however many of its values were used.
abbrev pub KeepsMost : Supply → Type 0
KeepsMost supply = (demand used : ℕ) → given supply demand used ≤ most_of (slice_get supply.demands demand)

-- No value that the script gives for a demand is more than its most.
abbrev pub AreValuesKept : Supply → Type 0
AreValuesKept supply =
    (demand : ℕ) → IsTrue (list_all (λ value. nat_le value (most_of (slice_get supply.demands demand)))
    (values_of supply demand))

-- A tick lowers the worst case by at least one.
abbrev pub TickLowersWorst : Type 0
TickLowersWorst = (supply : Supply) (state : State) → KeepsMost supply → AreNumbersInRange state.left → state.left ≢ []
    → worst_in supply.demands (tick supply state).left + 1 ≤ worst_in supply.demands state.left

-- A test that passes at a statement passes at what a tick makes of it.
pub record LastsThroughTicks (supply : Supply) (test : Stmt-F Bool → Bool) : Type 0 where
  pub work : (n : ℕ) → test (Stmt-F.Work (suc (suc n))) ≡ true → test (Stmt-F.Work (suc n)) ≡ true
  pub repeat : (n : ℕ) (body : List Bool) → test (Stmt-F.Repeat (suc (suc n)) body) ≡ true
      → test (Stmt-F.Repeat (suc n) body) ≡ true
  pub take : (demand : DemandNo) (used n : ℕ) → given supply demand.0 used ≡ suc n → test (Stmt-F.Take demand) ≡ true
      → test (Stmt-F.Work (suc n)) ≡ true

-- Where all statements pass such a test, inner ones too, they still do after a tick.
abbrev pub TickKeepsEach : Type 0
TickKeepsEach = (supply : Supply) (state : State) (test : Stmt-F Bool → Bool) → LastsThroughTicks supply test
    → each_in test state.left ≡ true
    → each_in test (tick supply state).left ≡ true

-- A tick keeps the numbers in range.
abbrev pub TickKeepsNumbers : Type 0
TickKeepsNumbers = (supply : Supply) (state : State) → KeepsMost supply → AreMostsInRange supply.demands
    → AreNumbersInRange state.left
    → AreNumbersInRange (tick supply state).left

-- After as many ticks as the worst case nothing is left.
abbrev pub TicksEnd : Type 0
TicksEnd = (supply : Supply) (state : State) (n : ℕ) → KeepsMost supply → AreMostsInRange supply.demands
    → AreNumbersInRange state.left
    → worst_in supply.demands state.left ≤ n → (ticks supply n state).left ≡ []
