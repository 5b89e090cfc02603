-- The rules in their order, by topic, and the first that is broken.
use Rattle.std.specs.Prelude.{◌≡◌, ℕ, ◌+◌, List, [], ◌∷◌, ◌++◌, Option, Some, None, slice_index_or}
use Rattle.tt_base.specs.declared.names.NameKind.TheVariants as Kind
use Rattle.tt_base.specs.Names.{count_of}
use Rattle.tt_parts.specs.Located.{parts}
use Rattle.tt_rules.specs.declared.broken.Broken.{Broken}
use Rattle.tt_rules.specs.Lines.{least_line}
use Rattle.tt_rules.specs.Document.{Document, names_of, limit_of}
use Rattle.tt_rules.specs.StructureRules.{lines_1, lines_2, lines_3}
use Rattle.tt_rules.specs.RoundRules.{lines_4, lines_5, lines_6}
use Rattle.tt_rules.specs.NameRules.{lines_7, lines_8}
use Rattle.tt_rules.specs.DeclarationRules.{lines_9, lines_10, lines_11, lines_12, lines_13}
use Rattle.tt_rules.specs.BodyRules.{lines_14, lines_15, lines_16, lines_17}
use Rattle.tt_rules.specs.TableRules.{lines_18, lines_19, lines_20, lines_21, lines_22, lines_23, lines_24}
use Rattle.tt_rules.specs.InputRules.{lines_25, lines_26, lines_27, lines_28}

-- a rule, as the lines that break it
abbrev pub Rule : Type 0
Rule = Document → List ℕ

abbrev pub broken_or : ℕ → Option ℕ → Option Broken → Option Broken
broken_or number (Some line) later = Some (record { number = number; line = line })
broken_or number None later = later

-- the first of some rules that has a line; they are numbered from this number on, each given by its least line
abbrev pub first_some : ℕ → List (Option ℕ) → Option Broken
first_some number [] = None
first_some number (line ∷ lines) = broken_or number line (first_some (number + 1) lines)

-- the first of some rules that is broken, with its least line; they are numbered from this number on
abbrev pub first_broken : ℕ → List Rule → Document → Option Broken
first_broken number [] d = None
first_broken number (rule ∷ rules) d = broken_or number (least_line (rule d)) (first_broken (number + 1) rules d)

-- no line breaks one of some rules, by its place
abbrev pub AreKept : List Rule → Document → Type 0
AreKept rules d = (n : ℕ) → slice_index_or rules n (λ (other : Document). []) d ≡ []

-- ---- the rules by topic

abbrev pub structure_rules : List Rule
structure_rules = (λ (d : Document). lines_1 d.rows) ∷ (λ (d : Document). lines_2 d.rows)
    ∷ (λ (d : Document). lines_3 d.rows) ∷ []

abbrev pub round_rules : List Rule
round_rules = (λ (d : Document). lines_4 d.declared) ∷ (λ (d : Document). lines_5 d.declared)
    ∷ (λ (d : Document). lines_6 d.declared) ∷ []

abbrev pub name_rules : List Rule
name_rules = (λ (d : Document). lines_7 d.declared) ∷ (λ (d : Document). lines_8 d.declared) ∷ []

abbrev pub declaration_rules : List Rule
declaration_rules =
    (λ (d : Document). lines_9 d.rows) ∷ (λ (d : Document). lines_10 d.bodies) ∷ (λ (d : Document). lines_11 d.bodies)
    ∷ (λ (d : Document). lines_12 d.bodies) ∷ (λ (d : Document). lines_13 d.bodies) ∷ []

abbrev pub body_rules : List Rule
body_rules =
    (λ (d : Document). lines_14 (names_of d) d.rows) ∷ (λ (d : Document). lines_15 d.rows)
    ∷ (λ (d : Document). lines_16 d.bodies)
    ∷ (λ (d : Document). lines_17 (parts d.said.demands) d.bodies) ∷ []

abbrev pub table_rules : List Rule
table_rules =
    (λ (d : Document). lines_18 (limit_of d.declared) d.said.entries)
    ∷ (λ (d : Document). lines_19 (limit_of d.declared) d.said.entries)
    ∷ (λ (d : Document). lines_20 (limit_of d.declared) d.said.entries) ∷ (λ (d : Document). lines_21 d.said.entries)
    ∷ (λ (d : Document). lines_22 d.said.entries) ∷ (λ (d : Document). lines_23 d.said.entries)
    ∷ (λ (d : Document). lines_24 (count_of Kind.Mode (names_of d)) d.said.entries) ∷ []

abbrev pub input_rules : List Rule
input_rules =
    (λ (d : Document). lines_25 d.declared.first d.said.starts)
    ∷ (λ (d : Document). lines_26 d.declared.first d.said.counts)
    ∷ (λ (d : Document). lines_27 d.said.arrivals) ∷ (λ (d : Document). lines_28 d.said.values) ∷ []

-- those that need no number of a name, and those that do
abbrev pub first_rules : List Rule
first_rules = structure_rules ++ (round_rules ++ name_rules)

abbrev pub later_rules : List Rule
later_rules = declaration_rules ++ (body_rules ++ (table_rules ++ input_rules))

abbrev pub the_rules : List Rule
the_rules = first_rules ++ later_rules
