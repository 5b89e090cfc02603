-- Rules that are asked in groups: the first that is broken, and what holds where none is.
use Rattle.std.proofs.Common.{◌≡◌, ℕ, zero, suc, ◌+◌, ◌≤◌, List, [], ◌∷◌, ◌++◌, Option, Some, None, length, refl, ap, sym, ◌∙◌, arith}
use Rattle.std.specs.Option.{option_or}
use Rattle.tt_base.specs.declared.names.NameKind.{NameKind}
use Rattle.tt_base.specs.declared.names.NameKind.TheVariants as Kind
use Rattle.tt_base.specs.Names.{count_of}
use Rattle.tt_parts.specs.Names.{names_in}
use Rattle.tt_parts.specs.Parts.{declarations_of}
use Rattle.tt_rules.specs.NameRules.{most_of}
use Rattle.tt_rules.proofs.SoundDeclarations.{declarations_sound}
use Rattle.tt_rules.specs.declared.broken.Broken.{Broken}
use Rattle.tt_rows.specs.declared.row.NumberedRow.{NumberedRow}
use Rattle.tt_rules.specs.Document.{Document, document_of}
use Rattle.tt_rules.specs.Lines.{least_line}
use Rattle.tt_rules.specs.Table.{Rule, AreKept, broken_or, first_broken, structure_rules, round_rules, name_rules, declaration_rules, body_rules, table_rules, input_rules, first_rules, later_rules, the_rules}
use Rattle.tt_config.specs.Broken.{broken_rule}

least_none : (lines : List ℕ) → least_line lines ≡ None → lines ≡ []
least_none [] is = refl
least_none (line ∷ lines) is = grind arith

or_later : (number : ℕ) (line : Option ℕ) (all own rest : Option Broken) → all ≡ option_or own rest
    → broken_or number line all ≡ option_or (broken_or number line own) rest
or_later number None all own rest same = same
or_later number (Some least) all own rest same = refl

module _ (d : Document) where
  -- where no rule is broken, no line breaks one
  pub kept : (number : ℕ) (rules : List Rule) → first_broken number rules d ≡ None → AreKept rules d
  kept number [] is zero = refl
  kept number [] is (suc n) = refl
  kept number (rule ∷ rules) is zero = least_none (rule d) (grind arith)
  kept number (rule ∷ rules) is (suc n) = kept (number + 1) rules (grind arith) n

  -- the first broken rule is that of the first rules, or else that of the others
  joined : (number : ℕ) (first others : List Rule) → first_broken number (first ++ others) d
      ≡ option_or (first_broken number first d) (first_broken (number + length first) others d)
  joined number [] others = ap (λ n. first_broken n others d) (omega arith)
  joined number (rule ∷ first) others =
      or_later number (least_line (rule d)) _ _ _ (joined (number + 1) first others
      ∙ ap (λ n. option_or (first_broken (number + 1) first d) (first_broken n others d)) (omega arith))

  -- rules 1 to 8 are asked in three groups
  pub first_by : (a b e : Option Broken) → a ≡ first_broken 1 structure_rules d → b ≡ first_broken 4 round_rules d
      → e ≡ first_broken 7 name_rules d → option_or a (option_or b e) ≡ first_broken 1 first_rules d
  first_by a b e one two three =
      cc (one, two, three, joined 1 structure_rules (round_rules ++ name_rules), joined 4 round_rules name_rules)

  -- rules 9 to 28 are asked in four groups
  pub later_by : (a b e f : Option Broken) → a ≡ first_broken 9 declaration_rules d → b ≡ first_broken 14 body_rules d
      → e ≡ first_broken 18 table_rules d → f ≡ first_broken 25 input_rules d
      → option_or a (option_or b (option_or e f)) ≡ first_broken 9 later_rules d
  later_by a b e f one two three four =
      cc (
        one,
        two,
        three,
        four,
        joined 9 declaration_rules (body_rules ++ (table_rules ++ input_rules)),
        joined 14 body_rules (table_rules ++ input_rules),
        joined 18 table_rules input_rules,
      )

module _ (rows : List NumberedRow) where
  -- all rules are asked in two groups
  pub broken_by : (a b : Option Broken) → a ≡ first_broken 1 first_rules (document_of rows)
      → b ≡ first_broken 9 later_rules (document_of rows) → broken_rule rows ≡ option_or a b
  unfolding broken_rule
  broken_by a b one two = joined (document_of rows) 1 first_rules later_rules ∙ (λ i. option_or (sym one i) (sym two i))

  -- where no rule is broken, no line breaks one
  pub none_broken : broken_rule rows ≡ None → AreKept the_rules (document_of rows)
  unfolding broken_rule
  none_broken is = kept (document_of rows) 1 the_rules is

-- ---- what the rules that need no number of a name say

most_small : (kind : NameKind) → most_of kind ≤ 1024
most_small Kind.Mode = omega arith
most_small kind = omega arith

module _ (rows : List NumberedRow) (none : None ≡ first_broken 1 first_rules (document_of rows)) where
  pub no_line : AreKept first_rules (document_of rows)
  no_line = kept (document_of rows) 1 first_rules (sym none)

  pub few_by_kind : (kind : NameKind) → count_of kind (names_in rows) ≤ most_of kind
  few_by_kind = (declarations_sound (declarations_of rows) (no_line 3) (no_line 5) (no_line 6) (no_line 7)).few

  pub few_names : (kind : NameKind) → count_of kind (names_in rows) ≤ 1024
  few_names kind = omega (arith, few_by_kind kind, most_small kind)
