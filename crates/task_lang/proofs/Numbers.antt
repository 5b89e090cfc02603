-- What the tests of the numbers of a body give.
use Rattle.std.proofs.Common.{◌≡◌, ℕ, ◌+◌, ◌*◌, ◌≤◌, ◌<◌, Bool, true, false, List, [], ◌∷◌, refl, arith, ◌∙◌, sym}
use Rattle.std.specs.Prelude.{zero, suc, ◌&&◌, nat_le, slice_get}
use Rattle.std.proofs.lemmas.Bool.Decides.{nat_tests}
use Rattle.task_lang.specs.declared.demand.Demand.{Demand}
use Rattle.task_lang.specs.declared.syntax.Stmt.{Stmt}
use Rattle.task_lang.specs.declared.syntax.Stmt.TheVariants as s
use Rattle.task_lang.specs.Limits.{AreMostsInRange, AreNumbersInRange, each_of, inner_pass, is_number_in_range}
use Rattle.task_lang.specs.Opening.{fold-Repeat}
use Rattle.task_lang.specs.Worst.{most_of, worst_of, worst_in, worst_step}

pub and_left : (a b : Bool) → a && b ≡ true → a ≡ true
and_left true b both = refl
and_left false b both = cc

pub and_right : (a b : Bool) → a && b ≡ true → b ≡ true
and_right true b both = both
and_right false b both = cc

pub from_nat_le : (a b : ℕ) → nat_le a b ≡ true → a ≤ b
from_nat_le a b is = grind (arith, nat_tests, is)

-- no demand asks for more than the rules allow
pub most_small : (demands : List Demand) (demand : ℕ) → AreMostsInRange demands
    → most_of (slice_get demands demand) ≤ 10000000
most_small [] demand small = omega arith
most_small (first ∷ rest) zero small = from_nat_le first.most 10000000 (and_left (nat_le first.most 10000000) _ small)
most_small (first ∷ rest) (suc demand) small = most_small rest demand (and_right (nat_le first.most 10000000) _ small)

-- ---- a `repeat` whose numbers are in range

repeat_tests : (turns : ℕ) (body : List Stmt) → each_of is_number_in_range (s.Repeat turns body) ≡ true
    → (1 ≤ turns) × AreNumbersInRange body
repeat_tests turns body passed =
    let here = sym (fold-Repeat Bool (λ stmt. is_number_in_range stmt && inner_pass stmt) turns body) ∙ passed in
    let range = nat_le 1 turns && nat_le turns 65535 in
    (from_nat_le 1 turns (and_left (nat_le 1 turns) _ (and_left range _ here)), and_right range _ here)

inner_less : (turns inner top : ℕ) → 1 ≤ turns → turns * (1 + inner) < top → inner < top
inner_less turns inner top some fits = grind arith

-- the body of a `repeat` also has numbers in range, and its worst case has the same bound
pub repeat_body : (demands : List Demand) (turns : ℕ) (body : List Stmt) (top : ℕ)
    → each_of is_number_in_range (s.Repeat turns body) ≡ true
    → worst_of demands (s.Repeat turns body) < top → AreNumbersInRange body × (worst_in demands body < top)
repeat_body demands turns body top passed fits =
    let parts = repeat_tests turns body passed in
    let worst : worst_of demands (s.Repeat turns body) ≡ turns * (1 + worst_in demands body) =
    fold-Repeat ℕ (worst_step demands) turns body in
    (parts.1, inner_less turns (worst_in demands body) top parts.0 (rw (← worst) fits))
