-- The round and the names are those of a configuration, where no line breaks the rules on them.
use Rattle.std.proofs.Common.{◌≡◌, ℕ, ◌*◌, ◌≤◌, Bool, true, false, not, List, [], ◌∷◌, length, filter, refl, ap, sym, ◌∙◌, arith, subst}
use Rattle.std.specs.Prelude.{flat_map, Some}
use Rattle.std.specs.List.{AllByRecursion as Each, list_all}
use Rattle.std.specs.Str.{bytes_eq}
use Rattle.std.specs.Cmp.Lexicographic.{nat_list_eq_equiv}
use Rattle.std.proofs.lemmas.List.{length-map}
use Rattle.std.proofs.lemmas.Bool.{and_parts, leb-true}
use Rattle.std.proofs.lemmas.Bool.Decides.{nat_tests}
use Rattle.tt_base.specs.declared.names.NameKind.{NameKind}
use Rattle.tt_base.specs.declared.names.NameKind.TheVariants as Kind
use Rattle.tt_base.specs.declared.names.NameEntry.{NameEntry}
use Rattle.tt_base.specs.Names.{count_of}
use Rattle.tt_world.specs.ConfigRules.{is_reserved, are_names_free}
use Rattle.tt_parts.specs.declared.declared_parts.Declarations.{Declarations}
use Rattle.tt_rules.specs.Document.{first_or_zero, round_of}
use Rattle.tt_rules.specs.Laws.{AreDeclarationsSound}
use Rattle.tt_rules.specs.Shapes.{Present, AtMost, breaking, filter_at, parts, same_by, differ_from, keeps_each}
use Rattle.tt_rules.specs.RoundRules.{rule_4, rule_6, lines_4, lines_6}
use Rattle.tt_rules.specs.NameRules.{is_of_kind, kinds, lines_7, lines_8, lines_past, most_of, rule_7}
use Rattle.tt_rules.proofs.Each.{Pairs, each_from_all, none_from_each, each_weaker}
use Rattle.tt_rules.proofs.Kept.{kept, kept_one, none_of_both, filter_at-parts}
use Rattle.tt_rules.proofs.Pairs.{pairs_differ}

-- ---- the round

pub first-passes : (test : ℕ → Bool) (ns : List ℕ) → 1 ≤ length ns → list_all test ns ≡ true
    → test (first_or_zero ns) ≡ true
first-passes test [] some is = absurd (omega arith)
first-passes test (n ∷ ns) some is = (and_parts (test n) (list_all test ns) is).0

-- 4. The round is within its range.
round_within : (ns : List ℕ) → keeps_each rule_4 ns ≡ true → (2 ≤ first_or_zero ns) × (first_or_zero ns ≤ 10000000)
round_within [] is = cc
round_within (n ∷ ns) is = (grind (arith, nat_tests), grind (arith, nat_tests))

-- 6. Its correction is at most a quarter.
adjust_within : (round : ℕ) (ns : List ℕ) → keeps_each (rule_6 round) ns ≡ true → 4 * first_or_zero ns ≤ round
adjust_within round [] is = omega arith
adjust_within round (n ∷ ns) is = grind (arith, nat_tests)

-- ---- names

free : (xs : List NameEntry) → Each (λ (e : NameEntry). not (is_reserved e.name) ≡ true) xs
    → Pairs (λ (a b : NameEntry). bytes_eq a.name b.name ≡ false) xs
    → are_names_free xs ≡ true
free [] fit apart = refl
free (x ∷ xs) fit apart =
    let none = none_from_each (λ (other : NameEntry). bytes_eq other.name x.name) xs
    (each_weaker (λ (b : NameEntry). bytes_eq x.name b.name ≡ false) _
    (λ b k. nat_list_eq_equiv.symm b.name x.name ∙ k) xs apart.0) in
    grind (arith, nat_tests, fit.0, none, free xs fit.1 apart.1)

-- 7. The names differ, and none is reserved.
names_free : (d : Declarations) → lines_7 d ≡ [] → are_names_free (parts d.names) ≡ true
names_free d is =
    let names = parts d.names in
    let fit = λ (e : NameEntry). not (is_reserved e.name) in
    let same = same_by bytes_eq (λ (e : NameEntry). Some e.name) in
    let both = and_parts (list_all fit names) _ (kept d.first rule_7 d.names is) in
    free names (each_from_all fit names both.0)
    (pairs_differ same names (and_parts (differ_from same [] names) true both.1).0)

counted : (d : Declarations) (kind : NameKind)
    → length (parts (filter_at (is_of_kind kind) d.names)) ≡ count_of kind (parts d.names)
counted d kind =
    ap length (filter_at-parts (is_of_kind kind) d.names)
    ∙ sym (length-map (filter (is_of_kind kind) (parts d.names)) (λ (e : NameEntry). e.name))

-- no line for any of some things
each_none : {A : Type 0} (f : A → List ℕ) (xs : List A) → flat_map f xs ≡ [] → Each (λ x. f x ≡ []) xs
each_none f [] is = tt
each_none f (x ∷ xs) is = let both = none_of_both (f x) (flat_map f xs) is in (both.0, each_none f xs both.1)

of_kinds : (P : NameKind → Type 0) → Each P kinds → (kind : NameKind) → P kind
of_kinds P each Kind.Mode = each.0
of_kinds P each Kind.Var = each.1.0
of_kinds P each Kind.Demand = each.1.1.0
of_kinds P each Kind.Task = each.1.1.1.0
of_kinds P each Kind.Isr = each.1.1.1.1.0
of_kinds P each Kind.Osek = each.1.1.1.1.1.0
of_kinds P each Kind.Oisr = each.1.1.1.1.1.1.0

-- 8. A kind has no more names than its limit, and there is a mode.
few : (d : Declarations) → lines_8 d ≡ [] → (kind : NameKind) → count_of kind (parts d.names) ≤ most_of kind
few d is kind =
    let none = of_kinds (λ k. lines_past d k ≡ [])
    (each_none (lines_past d) kinds
    (none_of_both (breaking d.first Present (filter_at (is_of_kind Kind.Mode) d.names)) _ is).1) kind in
    let xs = filter_at (is_of_kind kind) d.names in
    subst (λ n. n ≤ most_of kind) (counted d kind)
    (leb-true (length (parts xs)) (most_of kind) (kept_one d.first (AtMost (most_of kind)) xs none))

some_mode : (d : Declarations) → lines_8 d ≡ [] → 1 ≤ count_of Kind.Mode (parts d.names)
some_mode d is =
    let xs = filter_at (is_of_kind Kind.Mode) d.names in
    subst (λ n. 1 ≤ n) (counted d Kind.Mode)
    (leb-true 1 (length (parts xs))
    (kept_one d.first Present xs (none_of_both (breaking d.first Present xs) (flat_map (lines_past d) kinds) is).0))

pub declarations_sound : (d : Declarations) → lines_4 d ≡ [] → lines_6 d ≡ [] → lines_7 d ≡ [] → lines_8 d ≡ []
    → AreDeclarationsSound d
declarations_sound d is_4 is_6 is_7 is_8 =
    let within = round_within (parts d.rounds) (kept d.first rule_4 d.rounds is_4) in
    record {
      round_long = within.0;
      round_short = within.1;
      adjust = adjust_within (round_of d) (parts d.adjusts) (kept d.first (rule_6 (round_of d)) d.adjusts is_6);
      names = names_free d is_7;
      some_mode = some_mode d is_8;
      few = few d is_8;
    }
