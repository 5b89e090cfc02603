-- Ticks of the `work` at the front of a list.
use Rattle.std.proofs.Common.{ℕ, zero, suc, ◌≡◌, ◌≤◌, ◌-◌, List, [], ◌∷◌, false, refl, ap, ◌∙◌, arith}
use Rattle.std.specs.Prelude.{ℤ, max}
use Rattle.task_lang.specs.Tick.{Supply, state_of, tick, tick_by, ticks, work_then}
use Rattle.task_lang.specs.declared.syntax.Stmt.{Stmt, out-Stmt}
use Rattle.task_lang.specs.declared.syntax.Stmt.TheOpen.{Stmt-F}
use Rattle.task_lang.specs.declared.syntax.Stmt.TheVariants.{outs-Work}
use Rattle.task_machine.specs.Standing.{work_in_front, work_of}
use Rattle.tt_world.specs.Runners.{is_done}
use Rattle.stack_dispatch.specs.Jumps.{worked_off}

front_left : (n : ℕ) (rest : List Stmt) → 1 ≤ n → work_in_front (work_then n rest) ≡ n
front_left zero rest l = absurd (omega arith)
front_left (suc n) rest l = ap work_of (outs-Work (suc n))

undone_then : (n : ℕ) (rest : List Stmt) → 1 ≤ n → is_done (work_then n rest) ≡ false
undone_then zero rest l = absurd (omega arith)
undone_then (suc n) rest l = refl

more_then : (j n : ℕ) (rest : List Stmt) → 1 ≤ n → worked_off (suc j) (work_then n rest) ≡ work_then (n - suc j) rest
more_then j zero rest l = absurd (omega arith)
more_then j (suc n) rest l = ap (λ (x : Stmt-F Stmt). work_then (work_of x - suc j) rest) (outs-Work (suc n))

-- after k ticks of a longer `work`, something is left exactly where it was before
pub undone_worked : (k : ℕ) (left : List Stmt) → suc k ≤ max 1 (work_in_front left)
    → is_done (worked_off k left) ≡ is_done left
undone_worked zero left l = refl
undone_worked (suc k) [] l = refl
undone_worked (suc k) (front ∷ rest) l = undone_then (work_of (out-Stmt front) - suc k) rest (omega arith)

-- and the other ticks of that `work` are left
pub front_worked : (k : ℕ) (left : List Stmt) → suc k ≤ max 1 (work_in_front left)
    → work_in_front (worked_off k left) ≡ work_in_front left - k
front_worked zero left l = omega arith
front_worked (suc k) [] l = omega arith
front_worked (suc k) (front ∷ rest) l = front_left (work_of (out-Stmt front) - suc k) rest (omega arith)

-- k ticks and then one
pub one_more : (k : ℕ) (left : List Stmt) → suc (suc k) ≤ max 1 (work_in_front left)
    → worked_off 1 (worked_off k left) ≡ worked_off (suc k) left
one_more zero left l = refl
one_more (suc k) [] l = refl
one_more (suc k) (front ∷ rest) l =
    let n = work_of (out-Stmt front) in
    let same : (n - suc k) - 1 ≡ n - suc (suc k) = omega arith in
    more_then 0 (n - suc k) rest (omega arith) ∙ ap (λ m. work_then m rest) same

-- one tick and then k
one_first : (k : ℕ) (left : List Stmt) → suc (suc k) ≤ max 1 (work_in_front left)
    → worked_off k (worked_off 1 left) ≡ worked_off (suc k) left
one_first zero left l = refl
one_first (suc k) [] l = refl
one_first (suc k) (front ∷ rest) l =
    let n = work_of (out-Stmt front) in
    let same : (n - 1) - suc k ≡ n - suc (suc k) = omega arith in
    more_then k (n - 1) rest (omega arith) ∙ ap (λ m. work_then m rest) same

module _ (supply : Supply) (vars : List ℤ) (cursors : List ℕ) where
  by_front : (left : List Stmt) (x : Stmt-F Stmt) (rest : List Stmt) → 1 ≤ work_of x
      → tick_by supply (state_of left vars cursors []) x rest
      ≡ state_of (work_then (work_of x - 1) rest) vars cursors []
  by_front left (Stmt-F.Work n) rest l = refl
  by_front left front rest l = absurd (omega arith)

  -- a tick of work takes it off, and does nothing else
  pub tick_works : (left : List Stmt) → 1 ≤ work_in_front left
      → tick supply (state_of left vars cursors []) ≡ state_of (worked_off 1 left) vars cursors []
  unfolding tick
  tick_works [] l = absurd (omega arith)
  tick_works (front ∷ rest) l = by_front (front ∷ rest) (out-Stmt front) rest l

  -- ticks of work and then one are one tick of what the work leaves
  pub last_tick : (k : ℕ) (left : List Stmt) → suc k ≤ max 1 (work_in_front left)
      → ticks supply (suc k) (state_of left vars cursors [])
      ≡ tick supply (state_of (worked_off k left) vars cursors [])
  unfolding ticks
  last_tick zero left l = refl
  last_tick (suc k) left l =
      let less = front_worked 1 left (omega arith) in
      ap (ticks supply (suc k)) (tick_works left (omega arith))
      ∙ last_tick k (worked_off 1 left) (omega arith)
      ∙ ap (λ (m : List Stmt). tick supply (state_of m vars cursors [])) (one_first k left l)
