-- Rules 7 and 8: declared names.
use Rattle.std.specs.Prelude.{ℕ, not, Bool, List, [], ◌∷◌, ◌++◌, flat_map, Some}
use Rattle.std.specs.Str.{bytes_eq}
use Rattle.tt_base.specs.declared.names.NameKind.{NameKind}
use Rattle.tt_base.specs.declared.names.NameKind.TheVariants as Kind
use Rattle.tt_base.specs.declared.names.NameEntry.{NameEntry}
use Rattle.tt_base.specs.Names.{is_same_kind}
use Rattle.tt_world.specs.ConfigRules.{is_reserved}
use Rattle.tt_parts.specs.declared.declared_parts.Declarations.{Declarations}
use Rattle.tt_rules.specs.Shapes.{Shape, Present, AtMost, Every, Differ, breaking, breaking_one, same_by, filter_at}

-- 7. Declared names differ, and none is reserved.
abbrev pub rule_7 : List (Shape NameEntry)
rule_7 = Every (λ entry. not (is_reserved entry.name)) ∷ Differ (same_by bytes_eq (λ entry. Some entry.name)) ∷ []

abbrev pub lines_7 : Declarations → List ℕ
lines_7 d = breaking_one d.first rule_7 d.names

-- how many of each kind there may be
abbrev pub most_of : NameKind → ℕ
most_of Kind.Mode = 16
most_of Kind.Var = 256
most_of Kind.Demand = 256
most_of Kind.Task = 64
most_of Kind.Isr = 16
most_of Kind.Osek = 32
most_of Kind.Oisr = 16

abbrev pub kinds : List NameKind
kinds = Kind.Mode ∷ Kind.Var ∷ Kind.Demand ∷ Kind.Task ∷ Kind.Isr ∷ Kind.Osek ∷ Kind.Oisr ∷ []

abbrev pub is_of_kind : NameKind → NameEntry → Bool
is_of_kind kind entry = is_same_kind kind entry.kind

-- the names of a kind past its limit
abbrev pub lines_past : Declarations → NameKind → List ℕ
lines_past d kind = breaking d.first (AtMost (most_of kind)) (filter_at (is_of_kind kind) d.names)

-- 8. There are 1 to 16 modes, at most 256 variables, 256 demands, 64 tasks, 16 interrupt service routines, 32 OSEK
-- tasks and 16 OSEK interrupt service routines; rows past a limit break it, or the header where there is no mode.
abbrev pub lines_8 : Declarations → List ℕ
lines_8 d = breaking d.first Present (filter_at (is_of_kind Kind.Mode) d.names) ++ flat_map (lines_past d) kinds
