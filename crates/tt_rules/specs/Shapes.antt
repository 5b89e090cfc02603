-- Rules on parts. A rule is stated once and read in two ways: as the lines that break it, and as a test of the parts
-- without their lines.
use Rattle.std.specs.Prelude.{◌≡◌, ℕ, ◌&&◌, not, nat_le, Bool, true, false, Option, Some, None, List, [], ◌∷◌, ◌++◌, drop, filter, length}
use Rattle.std.specs.List.{list_all, list_any}
use Rattle.std.specs.Fn.{Shared, FnReturnsAt}
use Rattle.std.specs.Borrow.{Bor}
use Rattle.tt_parts.specs.declared.located.At.{At}
pub use Rattle.tt_parts.specs.Located.{parts, lines}
use Rattle.tt_rules.specs.Lines.{line_unless}

-- a rule on a list of parts: there is a part; there are at most n; each one passes a test; none is the same as one
-- above; none clashes with any of them
pub data Shape (A : Type 0) : Type 0 where
  Present : Shape A
  AtMost : ℕ → Shape A
  Every : (A → Bool) → Shape A
  Differ : (A → A → Bool) → Shape A
  Clear : (A → A → Bool) → Shape A

-- the parts that pass a test
abbrev pub filter_at : {A : Type 0} → (A → Bool) → List (At A) → List (At A)
filter_at test xs = filter (λ x. test x.part) xs

-- ---- the lines that break a rule

-- a line, where there is no part
abbrev pub missing : {A : Type 0} → ℕ → List (At A) → List ℕ
missing line [] = line ∷ []
missing line (x ∷ xs) = []

-- the lines of the parts that fail a test
abbrev pub failing : {A : Type 0} → (A → Bool) → List (At A) → List ℕ
failing test [] = []
failing test (x ∷ xs) = line_unless (test x.part) x.line (failing test xs)

-- a part is the same as none of those above
abbrev pub is_new : {A : Type 0} → (A → A → Bool) → List A → A → Bool
is_new same above x = not (list_any (λ other. same other x) above)

-- the lines of the parts that are the same as one above; these parts are above
abbrev pub repeating : {A : Type 0} → (A → A → Bool) → List A → List (At A) → List ℕ
repeating same above [] = []
repeating same above (x ∷ xs) = line_unless (is_new same above x.part) x.line (repeating same (x.part ∷ above) xs)

-- a part clashes with none of these
abbrev pub is_clear : {A : Type 0} → (A → A → Bool) → List A → A → Bool
is_clear clash xs x = not (list_any (clash x) xs)

-- the lines that break a rule; for a missing part it is the first line of the document
abbrev pub breaking : {A : Type 0} → ℕ → Shape A → List (At A) → List ℕ
breaking first Present xs = missing first xs
breaking first (AtMost n) xs = drop n (lines xs)
breaking first (Every test) xs = failing test xs
breaking first (Differ same) xs = repeating same [] xs
breaking first (Clear clash) xs = failing (is_clear clash (parts xs)) xs

-- the lines that break one of some rules
abbrev pub breaking_one : {A : Type 0} → ℕ → List (Shape A) → List (At A) → List ℕ
breaking_one first [] xs = []
breaking_one first (rule ∷ rules) xs = breaking first rule xs ++ breaking_one first rules xs

-- ---- the test

abbrev pub differ_from : {A : Type 0} → (A → A → Bool) → List A → List A → Bool
differ_from same above [] = true
differ_from same above (x ∷ xs) = is_new same above x && differ_from same (x ∷ above) xs

-- whether parts keep a rule
abbrev pub keeps : {A : Type 0} → Shape A → List A → Bool
keeps Present xs = nat_le 1 (length xs)
keeps (AtMost n) xs = nat_le (length xs) n
keeps (Every test) xs = list_all test xs
keeps (Differ same) xs = differ_from same [] xs
keeps (Clear clash) xs = list_all (is_clear clash xs) xs

abbrev pub keeps_each : {A : Type 0} → List (Shape A) → List A → Bool
keeps_each [] xs = true
keeps_each (rule ∷ rules) xs = keeps rule xs && keeps_each rules xs

-- two keys are the same; a missing key is the same as no other
abbrev pub same_keys : {K : Type 0} → (K → K → Bool) → Option K → Option K → Bool
same_keys same (Some a) (Some b) = same a b
same_keys same a b = false

-- two parts have the same key
abbrev pub same_by : {A K : Type 0} → (K → K → Bool) → (A → Option K) → A → A → Bool
same_by same key a b = same_keys same (key a) (key b)

-- there is a key, and it is this one
abbrev pub is_key : {K : Type 0} → (K → K → Bool) → K → Option K → Bool
is_key same q None = false
is_key same q (Some k) = same k q

-- there is a key, and it passes a test
abbrev pub passes_key : {K : Type 0} → (K → Bool) → Option K → Bool
passes_key test None = false
passes_key test (Some k) = test k

-- ---- closures

-- a closure answers for each part what a test does
abbrev pub Answers : {F A R : Type 0} → Shared F (Bor A × Unit {0}) R → F → (A → R) → Type 0
Answers closure f test = (x : _) (answer : _) → FnReturnsAt closure f x answer → answer ≡ test x
