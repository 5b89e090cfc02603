-- What the rules ask of a body.
use Rattle.std.specs.Prelude.{ℕ, ◌+◌, ◌^◌, ◌<◌, ◌≤◌, max, Bool, true, ◌&&◌, nat_le, nat_lt, IsTrue, List, [], ◌∷◌, map, sum}
use Rattle.std.specs.List.{list_all}
use Rattle.tt_base.specs.declared.event.Call.{Call}
use Rattle.tt_base.specs.declared.event.Call.TheVariants as call
use Rattle.task_lang.specs.Allowed.{is_allowed}
use Rattle.task_lang.specs.declared.allowed.OwnerKind.{OwnerKind}
use Rattle.task_lang.specs.declared.demand.Demand.{Demand}
use Rattle.task_lang.specs.declared.syntax.Expr.{Expr}
use Rattle.task_lang.specs.declared.syntax.Expr.TheOpen.{Expr-F}
use Rattle.task_lang.specs.declared.syntax.Expr.TheFolds.{fold-Expr}
use Rattle.task_lang.specs.declared.syntax.Stmt.{Stmt}
use Rattle.task_lang.specs.declared.syntax.Stmt.TheOpen.{Stmt-F}
use Rattle.task_lang.specs.declared.syntax.Stmt.TheFolds.{fold-Stmt}

-- ---- how deep and how many

-- the greatest of the numbers, 0 where there is none
abbrev pub greatest : List ℕ → ℕ
greatest [] = 0
greatest (n ∷ ns) = max n (greatest ns)

-- how many blocks are open at once at most: the statement's own, and those inside it
abbrev pub nesting_step : Stmt-F ℕ → ℕ
nesting_step (Stmt-F.If expr first second) = 1 + max (greatest first) (greatest second)
nesting_step (Stmt-F.Repeat turns body) = 1 + greatest body
nesting_step _ = 0

abbrev pub nesting_of : Stmt → ℕ
nesting_of = fold-Stmt ℕ nesting_step

-- how many blocks are open at once at most in a body
abbrev pub nesting_in : List Stmt → ℕ
nesting_in body = greatest (map nesting_of body)

-- how many statements there are: the statement, and those inside it
abbrev pub count_step : Stmt-F ℕ → ℕ
count_step (Stmt-F.If expr first second) = 1 + (sum first + sum second)
count_step (Stmt-F.Repeat turns body) = 1 + sum body
count_step _ = 1

abbrev pub count_of : Stmt → ℕ
count_of = fold-Stmt ℕ count_step

-- how many statements a body has, inner ones counted
abbrev pub count_in : List Stmt → ℕ
count_in body = sum (map count_of body)

-- ---- what each statement has

abbrev pub all_true : List Bool → Bool
all_true [] = true
all_true (b ∷ bs) = b && all_true bs

-- whether the statements inside a statement all pass
abbrev pub inner_pass : Stmt-F Bool → Bool
inner_pass (Stmt-F.If expr first second) = all_true first && all_true second
inner_pass (Stmt-F.Repeat turns body) = all_true body
inner_pass _ = true

-- whether a test passes at a statement and at each one inside it
abbrev pub each_of : (Stmt-F Bool → Bool) → Stmt → Bool
each_of test = fold-Stmt Bool (λ stmt. test stmt && inner_pass stmt)

-- whether a test passes at each statement of a body, inner ones too
abbrev pub each_in : (Stmt-F Bool → Bool) → List Stmt → Bool
each_in test body = all_true (map (each_of test) body)

-- ---- expressions

-- the terms: the constants, variables and operators
abbrev pub terms_step : Expr-F ℕ → ℕ
terms_step (Expr-F.Const number) = 1
terms_step (Expr-F.Var var) = 1
terms_step (Expr-F.Bin op left right) = 1 + (left + right)

abbrev pub terms_of : Expr → ℕ
terms_of = fold-Expr ℕ terms_step

-- whether each variable is one of the first n
abbrev pub reads_step : ℕ → Expr-F Bool → Bool
reads_step count (Expr-F.Const number) = true
reads_step count (Expr-F.Var var) = nat_lt var.0 count
reads_step count (Expr-F.Bin op left right) = left && right

abbrev pub reads_only : ℕ → Expr → Bool
reads_only count = fold-Expr Bool (reads_step count)

-- ---- the tests, each of the statement itself

-- `work` is for 1 to 10,000,000 ticks, and `repeat` for 1 to 65,535 turns
abbrev pub is_number_in_range : {A : Type 0} → Stmt-F A → Bool
is_number_in_range (Stmt-F.Work ticks) = nat_le 1 ticks && nat_le ticks 10000000
is_number_in_range (Stmt-F.Repeat turns body) = nat_le 1 turns && nat_le turns 65535
is_number_in_range _ = true

-- the expression has at most 100 terms
abbrev pub is_expression_short : {A : Type 0} → Stmt-F A → Bool
is_expression_short (Stmt-F.Set var expr) = nat_le (terms_of expr) 100
is_expression_short (Stmt-F.If expr first second) = nat_le (terms_of expr) 100
is_expression_short (Stmt-F.Out expr) = nat_le (terms_of expr) 100
is_expression_short _ = true

-- its variables are some of the first n
abbrev pub has_variables : {A : Type 0} → ℕ → Stmt-F A → Bool
has_variables count (Stmt-F.Set var expr) = nat_lt var.0 count && reads_only count expr
has_variables count (Stmt-F.If expr first second) = reads_only count expr
has_variables count (Stmt-F.Out expr) = reads_only count expr
has_variables count _ = true

-- its demand is one of the first n
abbrev pub has_demand : {A : Type 0} → ℕ → Stmt-F A → Bool
has_demand count (Stmt-F.Take demand) = nat_lt demand.0 count
has_demand count _ = true

-- its mode or OSEK task is one of the first n
abbrev pub names_below : (modes oseks : ℕ) → Call → Bool
names_below modes oseks (call.Switch mode) = nat_lt mode.0 modes
names_below modes oseks (call.Activate task) = nat_lt task.0 oseks
names_below modes oseks (call.Chain task) = nat_lt task.0 oseks
names_below modes oseks _ = true

abbrev pub has_callee : {A : Type 0} → (modes oseks : ℕ) → Stmt-F A → Bool
has_callee modes oseks (Stmt-F.Service call) = names_below modes oseks call
has_callee modes oseks _ = true

-- ---- the rules

-- At most 4 blocks are open at once.
abbrev pub IsNestedInLimit : List Stmt → Type 0
IsNestedInLimit body = nesting_in body ≤ 4

-- There are fewer than 2^32 statements, inner ones counted.
abbrev pub IsCountInLimit : List Stmt → Type 0
IsCountInLimit body = count_in body < 2 ^ 32

-- The numbers of `work` and `repeat` are in range.
abbrev pub AreNumbersInRange : List Stmt → Type 0
AreNumbersInRange body = IsTrue (each_in is_number_in_range body)

-- Each expression has at most 100 terms.
abbrev pub AreExpressionsShort : List Stmt → Type 0
AreExpressionsShort body = IsTrue (each_in is_expression_short body)

-- Each variable that is named is one of the first n.
abbrev pub HasVariables : ℕ → List Stmt → Type 0
HasVariables count body = IsTrue (each_in (has_variables count) body)

-- Each demand that is named is one of the first n.
abbrev pub HasDemands : ℕ → List Stmt → Type 0
HasDemands count body = IsTrue (each_in (has_demand count) body)

-- Each mode and each OSEK task that a service names is one of the first n.
abbrev pub HasCallees : (modes oseks : ℕ) → List Stmt → Type 0
HasCallees modes oseks body = IsTrue (each_in (has_callee modes oseks) body)

-- A demand asks for at most 10,000,000 ticks.
abbrev pub AreMostsInRange : List Demand → Type 0
AreMostsInRange demands = IsTrue (list_all (λ demand. nat_le demand.most 10000000) demands)

-- What a demand usually asks for is at most its most.
abbrev pub AreUsualsInRange : List Demand → Type 0
AreUsualsInRange demands = IsTrue (list_all (λ demand. nat_le demand.usual demand.most) demands)
