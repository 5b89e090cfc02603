-- Sound rows that break no rule give a configuration and a script that keep the rules of theirs.
use Rattle.std.proofs.Common.{◌≡◌, ℕ, ◌^◌, ◌<◌, Bool, true, List, [], ◌∷◌, All, None, length, arith, subst, sym, ◌+◌, ◌≤◌, false, map, Option, Some, refl, ◌∙◌, if◌then◌else◌}
use Rattle.std.specs.Prelude.{◌&&◌, nat_le, nat_lt, IfSome, ◌==◌, flat_map}
use Rattle.std.specs.List.{AllByRecursion as Each, list_all}
use Rattle.std.proofs.lemmas.Bool.{and_parts, and_from, leb-true, ltb-true}
use Rattle.tt_base.specs.declared.names.NameKind.{NameKind}
use Rattle.tt_base.specs.declared.names.NameKind.TheVariants as Kind
use Rattle.tt_base.specs.declared.names.NameEntry.{NameEntry}
use Rattle.tt_base.specs.Names.{count_of, is_same_kind, kind_of, number_of}
use Rattle.tt_world.specs.declared.config.ConfigParts.{ConfigParts}
use Rattle.tt_world.specs.ConfigRules.{IsConfig, IsMode}
use Rattle.tt_world.specs.ScriptRules.{IsScript, ticks_ascend}
use Rattle.tt_rows.specs.declared.row.Row.{Row}
use Rattle.tt_rows.specs.declared.row.Row.TheVariants as r
use Rattle.tt_rows.specs.declared.row.NumberedRow.{NumberedRow}
use Rattle.tt_rows.specs.Sound.{AreSound}
use Rattle.tt_parts.specs.declared.located.At.{At}
use Rattle.tt_parts.specs.declared.entries.Entry.{Entry}
use Rattle.tt_parts.specs.Located.{each_at, parts}
use Rattle.tt_parts.specs.Bodies.{bodies_of}
use Rattle.tt_parts.specs.Entries.{entry_in, rounds_in, arrival_in, start_in, time_in, value_in}
use Rattle.tt_parts.specs.Names.{names_in}
use Rattle.tt_parts.specs.Parts.{declarations_of, first_line}
use Rattle.tt_rules.specs.DeclarationRules.{level_of, oisr_priority_of, osek_priority_of}
use Rattle.tt_rules.specs.Document.{document_of, first_or_zero}
use Rattle.tt_rules.specs.Laws.{AreDeclarationsSound}
use Rattle.tt_rules.specs.Order.{below}
use Rattle.tt_rules.specs.Table.{AreKept, the_rules}
use Rattle.tt_rules.specs.Tables.{is_entry_known, mode_with}
use Rattle.tt_rules.proofs.Each.{all_from_each, each_weaker, Pairs, each_always, each_flat_map, pairs_flat_map}
use Rattle.tt_rules.proofs.SoundDeclarations.{declarations_sound, first-passes}
use Rattle.tt_rules.proofs.SoundTables.{mode_sound, alone, one}
use Rattle.tt_config.specs.BodyRules.{HasSoundBodies, KeepBodyRules}
use Rattle.tt_config.specs.Broken.{broken_rule}
use Rattle.tt_config.specs.Document.{elaborated_of}
use Rattle.tt_config.specs.Parts.{config_of, config_with, script_of, arrival_by, arrival_place, first_mode, script_with, value_place}
use Rattle.tt_config.specs.Sound.{IsSound}
use Rattle.tt_config.proofs.Asked.{none_broken}
use Rattle.tt_config.proofs.Counted.{few, fields_distinct, get_or-each, length-each, level_told, named, oisr_told, osek_told}
use Rattle.tt_config.proofs.Known.{number_below}
use Rattle.tt_config.proofs.Rows.{IsRowFit, each_part, rows_fit}
use Rattle.tt_config.proofs.SoundBodies.{bodies_are_sound, bodies_fit, mosts_in_range, usuals_in_range}
use Rattle.std.proofs.lemmas.Bool.Decides.{nat_tests}
use Rattle.tt_base.specs.declared.names.Declared.{Declared}
use Rattle.tt_base.specs.declared.number.ModeNo.{ModeNo}
use Rattle.tt_parts.specs.declared.entries.Arrival.{Arrival}
use Rattle.tt_parts.specs.declared.entries.Value.{Value}
use Rattle.tt_rules.specs.InputRules.{is_not_after, is_same_source, rule_25, rule_26, rule_27, rule_28}
use Rattle.tt_rules.specs.RoundRules.{is_within}
use Rattle.tt_rules.specs.Shapes.{differ_from}
use Rattle.tt_rules.proofs.Kept.{kept as keeps, EachRow}
use Rattle.tt_rules.proofs.Pairs.{pairs_differ}
use Rattle.tt_config.specs.Lists.{at_number, given}

-- ---- parts

module _ (names : List NameEntry) where
  abbrev is_known : Entry → Bool
  is_known = is_entry_known (count_of Kind.Mode names) (count_of Kind.Task names) (count_of Kind.Isr names)

  entry_known : (row : Row) → IsRowFit names row → IfSome (entry_in names row) (λ x. is_known x ≡ true)
  entry_known (r.AtStringent offset mode task deadline) fit =
      grind (arith, fit.known, number_below names Kind.Mode mode, number_below names Kind.Task task)
  entry_known (r.AtNonstringent offset mode task deadline) fit =
      grind (arith, fit.known, number_below names Kind.Mode mode, number_below names Kind.Task task)
  entry_known (r.AtEnable offset mode isr) fit =
      grind (arith, fit.known, number_below names Kind.Mode mode, number_below names Kind.Isr isr)
  entry_known row fit = tt

  start_fits : (row : Row) → IsRowFit names row
      → IfSome (start_in names row) (λ (mode : ModeNo). mode.0 < count_of Kind.Mode names)
  start_fits (r.Start mode) fit = ltb-true _ _ (number_below names Kind.Mode mode (and_parts _ _ fit.known).0)
  start_fits row fit = tt

  time_fits : (row : Row) → IsRowFit names row → IfSome (time_in row) (λ time. nat_lt time (10 ^ 12) ≡ true)
  time_fits (r.Time global) fit = grind (arith, fit.sound)
  time_fits row fit = tt

  tick_fits : (row : Row) → IsRowFit names row
      → IfSome (arrival_in names row) (λ (a : Arrival). nat_lt a.tick (10 ^ 12) ≡ true)
  tick_fits (r.Arrive source tick) fit = grind (arith, fit.sound)
  tick_fits row fit = tt

first_holds : (P : ModeNo → Type 0) (modes : List ModeNo) → 1 ≤ length modes → Each P modes → P (first_mode modes)
first_holds P [] some h = absurd (omega arith)
first_holds P (mode ∷ modes) some h = h.0

-- ---- lists by number

all_lists : {X : Type 0} (test : X → Bool) (f : ℕ → X) → ((k : ℕ) → test (f k) ≡ true) → (ks : List ℕ)
    → list_all test (map f ks) ≡ true
all_lists test f each [] = refl
all_lists test f each (k ∷ ks) = and_from (test (f k)) _ (each k) (all_lists test f each ks)

values_small : (k : ℕ) (values : List Value) → list_all (λ (v : Value). nat_le v.ticks 10000000) values ≡ true
    → list_all (λ n. nat_le n 10000000) (given value_place values k) ≡ true
values_small k [] is = refl
values_small k (v ∷ values) is =
    let both = and_parts (nat_le v.ticks 10000000) _ is in grind (arith, both.0, values_small k values both.1)

ascend : (least : ℕ) (ticks : List ℕ) → Each (λ tick. least ≤ tick) ticks
    → Each (λ tick. nat_lt tick (10 ^ 12) ≡ true) ticks → Pairs (λ a b. a < b) ticks
    → ticks_ascend least ticks ≡ true
ascend least [] low small h = refl
ascend least (tick ∷ ticks) low small h =
    let rest = each_weaker (λ b. tick < b) (λ b. tick + 1 ≤ b) (λ b lt. omega arith) ticks h.0 in
    grind (arith, nat_tests, low.0, small.0, ascend (tick + 1) ticks rest small.1 h.1)

module _ (kind : NameKind) (k : ℕ) where
  -- a source is one of a kind and a number
  abbrev is_own : Option Declared → Bool
  is_own None = false
  is_own (Some d) = is_same_kind kind (kind_of d) && (number_of d == k)

  -- the tick of an arrival, where its source is that one
  abbrev own_ticks : Arrival → List ℕ
  own_ticks a = if is_own a.source then a.tick ∷ [] else []

  given-own : (s : Option Declared) (tick : ℕ)
      → at_number k (arrival_by kind s tick) ≡ (if is_own s then tick ∷ [] else [])
  given-own None tick = refl
  given-own (Some d) tick = grind (arith, nat_tests)

  apart : (s t : Option Declared) (a b : ℕ) → is_same_source s t && nat_le b a ≡ false → is_own s ≡ true
      → is_own t ≡ true → a < b
  apart None t a b late own other = cc
  apart (Some d) None a b late own other = cc
  apart (Some d) (Some e) a b late own other = grind (arith, nat_tests)

  -- 27. The arrivals of a source ascend.
  own_ascend : (arrivals : List Arrival) → Each (λ (a : Arrival). nat_lt a.tick (10 ^ 12) ≡ true) arrivals
      → differ_from is_not_after [] arrivals ≡ true → ticks_ascend 0 (given (arrival_place kind) arrivals k) ≡ true
  own_ascend arrivals small is =
      let Small = λ (tick : ℕ). nat_lt tick (10 ^ 12) ≡ true in
      (λ i. ticks_ascend 0 (flat_map (λ (a : Arrival). given-own a.source a.tick i) arrivals))
      ∙ ascend 0 (flat_map own_ticks arrivals)
      (each_always (λ tick. 0 ≤ tick) (λ tick. omega arith) (flat_map own_ticks arrivals))
      (each_flat_map own_ticks (λ (a : Arrival). Small a.tick) Small
      (λ a lt. one Small (is_own a.source) a.tick (λ own. lt)) arrivals small)
      (pairs_flat_map own_ticks (λ (a b : Arrival). is_not_after a b ≡ false) (λ a b. a < b)
      (λ a b late. one (λ x. Each (λ y. x < y) (own_ticks b)) (is_own a.source) a.tick (λ own.
      one (λ y. a.tick < y) (is_own b.source) b.tick (apart a.source b.source a.tick b.tick late own)))
      (λ a. alone (λ x y. x < y) (is_own a.source) a.tick) arrivals (pairs_differ is_not_after arrivals is))

-- ---- the whole

module _ (rows : List NumberedRow) (sound : AreSound rows) (none : AreKept the_rules (document_of rows)) where
  abbrev names : List NameEntry
  names = names_in rows

  abbrev c : ConfigParts
  c = config_with (elaborated_of rows)

  abbrev entries : List (At Entry)
  entries = each_at (entry_in names) rows

  fit : EachRow (IsRowFit names) rows
  fit = rows_fit rows sound (none 8) (none 13)

  -- 14. The rows of tables name what is declared.
  all_known : list_all (is_entry_known (count_of Kind.Mode names) (length c.tasks) (length c.isrs)) (parts entries)
      ≡ true
  all_known =
      (λ i. list_all (is_entry_known (count_of Kind.Mode names) (sym (named rows).tasks i) (sym (named rows).isrs i))
      (parts entries))
      ∙ all_from_each (is_known names) (parts entries) (each_part _ _ (entry_in names) (entry_known names) rows fit)

  modes_sound : All (IsMode c) c.modes
  modes_sound k d lt =
      let modes = count_of Kind.Mode names in
      let below_modes : k < modes = omega (arith, length-each (mode_with (parts entries)) modes) in
      subst (IsMode c) (sym (get_or-each (mode_with (parts entries)) modes k d below_modes))
      (mode_sound c modes entries all_known (record {
        enables = none 18;
        deadlines = none 19;
        places = none 20;
        sources = none 21;
        apart = none 22;
        few = none 23;
      }) k below_modes)

  body_rules : length rows < 2 ^ 32 → KeepBodyRules rows
  body_rules short = record {
    sound = sound;
    short = short;
    rule_2 = none 1;
    rule_3 = none 2;
    rule_9 = none 8;
    rule_14 = none 13;
    rule_15 = none 14;
    rule_16 = none 15;
    rule_17 = none 16;
  }

  config_sound : length rows < 2 ^ 32 → IsConfig c
  config_sound short =
      let declared : AreDeclarationsSound (declarations_of rows) =
      declarations_sound (declarations_of rows) (none 3) (none 5) (none 6) (none 7) in
      let bodies : HasSoundBodies c = bodies_are_sound rows (body_rules short) in
      let located = bodies_of names rows in
      record {
        round_long = declared.round_long;
        round_short = declared.round_short;
        adjust = declared.adjust;
        names = declared.names;
        named = named rows;
        few = few rows declared;
        mosts = mosts_in_range rows short (none 1) (none 2) (none 8);
        usuals = usuals_in_range rows short (none 1) (none 2) (none 8);
        tasks = bodies.tasks;
        isrs = bodies.isrs;
        oseks = bodies.oseks;
        oisrs = bodies.oisrs;
        levels = fields_distinct level_of _ _ (λ b. level_told c.demands b.body b.owner) located (none 9);
        osek_priorities =
            fields_distinct osek_priority_of _ _ (λ b. osek_told c.demands b.body b.owner) located (none 10);
        oisr_priorities =
            fields_distinct oisr_priority_of _ _ (λ b. oisr_told c.demands b.body b.owner) located (none 11);
        error_hook = bodies.error_hook;
        shutdown_hook = bodies.shutdown_hook;
        modes = modes_sound;
      }

  script_sound : IsScript c (script_with names (document_of rows).said)
  script_sound =
      let starts = each_at (start_in names) rows in
      let modes = and_parts (nat_le 1 (length (parts starts))) _ (keeps (first_line rows) rule_25 starts (none 24)) in
      let counts = each_at rounds_in rows in
      let all = and_parts (nat_le 1 (length (parts counts))) _ (keeps (first_line rows) rule_26 counts (none 25)) in
      let within = first-passes (is_within 1 100000) (parts counts) (leb-true 1 (length (parts counts)) all.0)
      (and_parts _ _ all.1).0 in
      let rounds = and_parts (nat_le 1 (first_or_zero (parts counts))) _ within in
      let arrivals = each_at (arrival_in names) rows in
      let small = each_part _ _ (arrival_in names) (tick_fits names) rows fit in
      let not_late = (and_parts _ _ (keeps 1 rule_27 arrivals (none 26))).0 in
      let values = each_at (value_in names) rows in
      record {
        start = subst (λ n. (first_mode (parts starts)).0 < n) (named rows).modes
            (first_holds _ (parts starts) (leb-true 1 (length (parts starts)) modes.0)
            (each_part _ _ (start_in names) (start_fits names) rows fit));
        some_round = leb-true 1 (first_or_zero (parts counts)) rounds.0;
        few_rounds = leb-true (first_or_zero (parts counts)) 100000 rounds.1;
        values = length-each (given value_place (parts values)) _ ∙ (named rows).demands;
        values_small = all_lists (list_all (λ n. nat_le n 10000000)) (given value_place (parts values))
            (λ k. values_small k (parts values) (and_parts _ _ (keeps 1 rule_28 values (none 27))).0)
            (below (count_of Kind.Demand names));
        isrs = length-each (given (arrival_place Kind.Isr) (parts arrivals)) _ ∙ (named rows).isrs;
        oisrs = length-each (given (arrival_place Kind.Oisr) (parts arrivals)) _ ∙ (named rows).oisrs;
        isrs_ascending = all_lists (ticks_ascend 0) (given (arrival_place Kind.Isr) (parts arrivals))
            (λ k. own_ascend Kind.Isr k (parts arrivals) small not_late) (below (count_of Kind.Isr names));
        oisrs_ascending = all_lists (ticks_ascend 0) (given (arrival_place Kind.Oisr) (parts arrivals))
            (λ k. own_ascend Kind.Oisr k (parts arrivals) small not_late) (below (count_of Kind.Oisr names));
        times = all_from_each _ (parts (each_at time_in rows)) (each_part _ _ time_in (time_fits names) rows fit);
      }

pub config_is_sound : (rows : List NumberedRow) → AreSound rows → length rows < 2 ^ 32 → broken_rule rows ≡ None
    → IsConfig (config_of rows)
unfolding config_of
config_is_sound rows sound short is = config_sound rows sound (none_broken rows is) short

pub script_is_sound : (rows : List NumberedRow) → AreSound rows → broken_rule rows ≡ None
    → IsScript (config_of rows) (script_of rows)
unfolding config_of script_of
script_is_sound rows sound is = script_sound rows sound (none_broken rows is)

-- what is elaborated from rows that break no rule
pub elaborated_sound : (rows : List NumberedRow) → AreSound rows → length rows < 2 ^ 32 → broken_rule rows ≡ None
    → IsSound (elaborated_of rows)
elaborated_sound rows sound short is =
    let none = none_broken rows is in
    record {
      bodies = bodies_fit rows (body_rules rows sound none short);
      config = config_sound rows sound none short;
      script = script_sound rows sound none;
    }
