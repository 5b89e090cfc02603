-- Rules 4 to 6: the round.
use Rattle.std.specs.Prelude.{ℕ, ◌*◌, ◌&&◌, nat_le, Bool, List, [], ◌∷◌}
use Rattle.tt_parts.specs.declared.declared_parts.Declarations.{Declarations}
use Rattle.tt_rules.specs.Shapes.{Shape, Present, AtMost, Every, breaking_one}
use Rattle.tt_rules.specs.Document.{round_of}

abbrev pub is_within : ℕ → ℕ → ℕ → Bool
is_within least most n = nat_le least n && nat_le n most

-- 4. There is exactly one round, of 2 to 10,000,000 ticks; a row with another length or one after the first breaks it,
-- or the header where there is none.
abbrev pub rule_4 : List (Shape ℕ)
rule_4 = Present ∷ Every (is_within 2 10000000) ∷ AtMost 1 ∷ []

-- 5. There is at most one greatest correction; one after the first breaks it.
abbrev pub rule_5 : List (Shape ℕ)
rule_5 = AtMost 1 ∷ []

-- 6. It is at most a quarter of a round.
abbrev pub rule_6 : ℕ → List (Shape ℕ)
rule_6 round = Every (λ most. nat_le (4 * most) round) ∷ []

abbrev pub lines_4 : Declarations → List ℕ
lines_4 d = breaking_one d.first rule_4 d.rounds

abbrev pub lines_5 : Declarations → List ℕ
lines_5 d = breaking_one d.first rule_5 d.adjusts

abbrev pub lines_6 : Declarations → List ℕ
lines_6 d = breaking_one d.first (rule_6 (round_of d)) d.adjusts
