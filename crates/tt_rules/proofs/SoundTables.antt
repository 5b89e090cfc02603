-- The tables of a configuration keep its rules, where the rows of tables keep the rules on them.
use Rattle.std.proofs.Common.{◌≡◌, ℕ, zero, suc, ◌+◌, ◌-◌, ◌≤◌, ◌<◌, Bool, true, false, List, [], ◌∷◌, ◌++◌, length, filter, refl, ap, sym, subst, ◌∙◌, arith, if◌then◌else◌, ⊎_elim}
use Rattle.std.specs.Prelude.{◌==◌, flat_map}
use Rattle.std.specs.List.{AllByRecursion as Each, list_all}
use Rattle.std.proofs.lemmas.Bool.{and_from, cases_eq, leb-true}
use Rattle.std.proofs.lemmas.Grind.{flat_map-append}
use Rattle.std.proofs.lemmas.List.{append-nil}
use Rattle.std.proofs.lemmas.Bool.Decides.{nat_tests}
use Rattle.tt_world.specs.declared.config.Activation.{Activation}
use Rattle.tt_world.specs.declared.config.Enable.{Enable}
use Rattle.tt_world.specs.declared.config.ConfigParts.{ConfigParts}
use Rattle.tt_world.specs.ConfigRules.{IsMode, is_activation, is_enable, offsets_ascend, has_ended_before, are_apart, comes_before, enables_ascend}
use Rattle.tt_rules.specs.Shapes.{AtMost, Every, Differ, Clear, parts, filter_at}
use Rattle.tt_parts.specs.declared.located.At.{At}
use Rattle.tt_parts.specs.declared.entries.Entry.{Entry}
use Rattle.tt_parts.specs.declared.entries.Entry.TheVariants as entry
use Rattle.tt_rules.specs.Laws.{AreTablesKept}
use Rattle.tt_rules.specs.Order.{ascending, below}
use Rattle.tt_rules.specs.TableRules.{is_enable_early, has_deadline, same_place, same_enable, comes_between, is_of, lines_of_mode}
use Rattle.tt_rules.specs.Tables.{is_entry_known, activation_in, enable_in, is_earlier, is_enabled_earlier, mode_with}
use Rattle.tt_rules.proofs.Kept.{kept_one, none_of_both, filter_at-parts}
use Rattle.tt_rules.proofs.Each.{Pairs, each_always, each_weaker, each_both, each_from_all, all_from_each, pairs_weaker, pairs_both, each_flat_map, pairs_flat_map}
use Rattle.tt_rules.proofs.Sorting.{each_ascending, pairs_ascending, length-ascending, InOrder, order_ascending}
use Rattle.tt_rules.proofs.Pairs.{pairs_differ, pairs_clear}

-- what the rules say of two entries, the first above the second
abbrev AreEntriesApart : Entry → Entry → Type 0
AreEntriesApart a b = (same_place a b ≡ false)
    × ((same_enable a b ≡ false) × ((comes_between a b ≡ false) × (comes_between b a ≡ false)))

-- two activations of a mode have different offsets; where they are of one task, the deadline of the earlier is not
-- after the later
record AreApart (a b : Activation) : Type 0 where
  differ : a.offset ≡ b.offset → ⊥
  forth : a.offset < b.offset → has_ended_before a b ≡ true
  back : b.offset < a.offset → has_ended_before b a ≡ true

-- two enables of a mode are not of one source at one offset
abbrev AreEnablesApart : Enable → Enable → Type 0
AreEnablesApart a b = a.offset ≡ b.offset → a.isr.0 ≡ b.isr.0 → ⊥

-- A property that an item in a list has, where a test says so.
pub one : {A : Type 0} (P : A → Type 0) (here : Bool) (a : A) → (here ≡ true → P a)
    → Each P (if here then a ∷ [] else [])
one P true a has = (has refl, tt)
one P false a has = tt

-- A list with one item at most has no pairs.
pub alone : {A : Type 0} (R : A → A → Type 0) (here : Bool) (a : A) → Pairs R (if here then a ∷ [] else [])
alone R true a = (tt, tt)
alone R false a = tt

module _ (mode : ℕ) where
  activations_apart : (x y : Entry) → AreEntriesApart x y
      → Each (λ a. Each (AreApart a) (activation_in mode y)) (activation_in mode x)
  activations_apart (entry.Activates m a) (entry.Activates n b) h =
      one (λ a. Each (AreApart a) (activation_in mode (entry.Activates n b))) (m.0 == mode) a
      (λ here. one (AreApart a) (n.0 == mode) b (λ there. record {
        differ = λ e. grind (arith, nat_tests, h.0);
        forth = λ lt. grind (arith, nat_tests, h.1.1.0);
        back = λ lt. grind (arith, nat_tests, h.1.1.1);
      }))
  activations_apart (entry.Activates m a) (entry.Enables n f) h =
      one (λ a. Each (AreApart a) []) (m.0 == mode) a (λ here. tt)
  activations_apart (entry.Enables m e) y h = tt

  activation_alone : (x : Entry) → Pairs AreApart (activation_in mode x)
  activation_alone (entry.Activates m a) = alone AreApart (m.0 == mode) a
  activation_alone (entry.Enables m e) = tt

  enables_apart : (x y : Entry) → AreEntriesApart x y
      → Each (λ a. Each (AreEnablesApart a) (enable_in mode y)) (enable_in mode x)
  enables_apart (entry.Enables m a) (entry.Enables n b) h =
      one (λ a. Each (AreEnablesApart a) (enable_in mode (entry.Enables n b))) (m.0 == mode) a
      (λ here. one (AreEnablesApart a) (n.0 == mode) b (λ there offset isr. grind (arith, nat_tests, h.1.0)))
  enables_apart (entry.Enables m a) (entry.Activates n f) h =
      one (λ a. Each (AreEnablesApart a) []) (m.0 == mode) a (λ here. tt)
  enables_apart (entry.Activates m e) y h = tt

  enable_alone : (x : Entry) → Pairs AreEnablesApart (enable_in mode x)
  enable_alone (entry.Activates m a) = tt
  enable_alone (entry.Enables m e) = alone AreEnablesApart (m.0 == mode) e

  entries_of : (xs : List Entry)
      → length (flat_map (activation_in mode) xs) + length (flat_map (enable_in mode) xs)
      ≡ length (filter (is_of mode) xs)
  entries_of [] = refl
  entries_of (entry.Activates m a ∷ xs) = grind (arith, nat_tests, entries_of xs)
  entries_of (entry.Enables m e ∷ xs) = grind (arith, nat_tests, entries_of xs)

-- ---- in order

-- an activation comes before another; where they are of one task, its deadline is not after the other
abbrev ComesBefore : Activation → Activation → Type 0
ComesBefore a b = (a.offset < b.offset) × (has_ended_before a b ≡ true)

before : (a b : Activation) → AreApart a b × InOrder is_earlier a b → ComesBefore a b
before a b h = let less : a.offset < b.offset = grind (arith, nat_tests, h.0.differ, h.1) in (less, h.0.forth less)

sorted : (acts : List Activation) → Pairs AreApart acts → Pairs ComesBefore (ascending is_earlier acts)
sorted acts h =
    pairs_weaker (λ a b. AreApart a b × InOrder is_earlier a b) ComesBefore before (ascending is_earlier acts)
    (pairs_both AreApart (InOrder is_earlier) (ascending is_earlier acts)
    (pairs_ascending is_earlier AreApart
    (λ a b k. record { differ = λ e. k.differ (sym e); forth = k.back; back = k.forth }) acts h)
    (order_ascending is_earlier (λ a b is. grind (arith, nat_tests)) (λ a b c one two. grind (arith, nat_tests)) acts))

offsets : (least : ℕ) (acts : List Activation) → Each (λ (a : Activation). least ≤ a.offset) acts
    → Pairs ComesBefore acts → offsets_ascend least acts ≡ true
offsets least [] low h = refl
offsets least (a ∷ rest) low h =
    let later = each_weaker (ComesBefore a) (λ (b : Activation). a.offset + 1 ≤ b.offset) (λ b k. omega (arith, k.0))
    rest h.0 in
    grind (arith, nat_tests, low.0, offsets (a.offset + 1) rest later h.1)

deadlines : (acts : List Activation) → Pairs ComesBefore acts → are_apart acts ≡ true
deadlines [] h = refl
deadlines (a ∷ rest) h =
    and_from (list_all (has_ended_before a) rest) _
    (all_from_each (has_ended_before a) rest
    (each_weaker (ComesBefore a) (λ b. has_ended_before a b ≡ true) (λ b k. k.1) rest h.0)) (deadlines rest h.1)

enables_sorted : (es : List Enable) → Pairs AreEnablesApart es
    → Pairs (λ a b. comes_before a b ≡ true) (ascending is_enabled_earlier es)
enables_sorted es h =
    pairs_weaker (λ a b. AreEnablesApart a b × InOrder is_enabled_earlier a b) (λ a b. comes_before a b ≡ true)
    (λ a b k. grind (arith, nat_tests, k.0, k.1)) (ascending is_enabled_earlier es)
    (pairs_both AreEnablesApart (InOrder is_enabled_earlier) (ascending is_enabled_earlier es)
    (pairs_ascending is_enabled_earlier AreEnablesApart (λ a b k offset isr. k (sym offset) (sym isr)) es h)
    (order_ascending is_enabled_earlier (λ a b is. grind (arith, nat_tests))
    (λ a b c one two. grind (arith, nat_tests)) es))

ascend : (es : List Enable) → Pairs (λ a b. comes_before a b ≡ true) es → enables_ascend es ≡ true
ascend [] h = refl
ascend (e ∷ rest) h = and_from (list_all (comes_before e) rest) _ (all_from_each (comes_before e) rest h.0)
    (ascend rest h.1)

-- ---- the whole

module _ (c : ConfigParts) (modes : ℕ) (located : List (At Entry))
    (all_known : list_all (is_entry_known modes (length c.tasks) (length c.isrs)) (parts located) ≡ true)
    (kept : AreTablesKept (c.round - c.adjust) modes located) where
  abbrev xs : List Entry
  xs = parts located

  abbrev limit : ℕ
  limit = c.round - c.adjust

  -- what the rules say of an entry by itself
  abbrev IsFit : Entry → Type 0
  IsFit x = (is_entry_known modes (length c.tasks) (length c.isrs) x ≡ true)
      × ((is_enable_early limit x ≡ true) × (has_deadline limit x ≡ true))

  all_fit : Each IsFit xs
  all_fit =
      each_both (λ x. is_entry_known modes (length c.tasks) (length c.isrs) x ≡ true) _ xs
      (each_from_all (is_entry_known modes (length c.tasks) (length c.isrs)) xs all_known)
      (each_both (λ x. is_enable_early limit x ≡ true) (λ x. has_deadline limit x ≡ true) xs
      (each_from_all (is_enable_early limit) xs (kept_one 1 (Every (is_enable_early limit)) located kept.enables))
      (each_from_all (has_deadline limit) xs (kept_one 1 (Every (has_deadline limit)) located kept.deadlines)))

  all_apart : Pairs AreEntriesApart xs
  all_apart =
      pairs_both (λ a b. same_place a b ≡ false) _ xs
      (pairs_differ same_place xs (kept_one 1 (Differ same_place) located kept.places))
      (pairs_both (λ a b. same_enable a b ≡ false) _ xs
      (pairs_differ same_enable xs (kept_one 1 (Differ same_enable) located kept.sources))
      (pairs_clear comes_between xs (kept_one 1 (Clear comes_between) located kept.apart)))

  activation_fits : (mode : ℕ) (x : Entry) → IsFit x → Each (λ a. is_activation c a ≡ true) (activation_in mode x)
  activation_fits mode (entry.Activates m a) fit = one (λ a. is_activation c a ≡ true) (m.0 == mode) a
      (λ here. grind (arith, nat_tests, fit.0, fit.1.1))
  activation_fits mode (entry.Enables m e) fit = tt

  enable_fits : (mode : ℕ) (x : Entry) → IsFit x → Each (λ e. is_enable c e ≡ true) (enable_in mode x)
  enable_fits mode (entry.Activates m a) fit = tt
  enable_fits mode (entry.Enables m e) fit = one (λ e. is_enable c e ≡ true) (m.0 == mode) e
      (λ here. grind (arith, nat_tests, fit.0, fit.1.0))

  -- 14, 19 to 24. The table of each mode keeps the rules.
  mode_fits : (mode : ℕ) → length (filter (is_of mode) xs) ≤ 4096 → IsMode c (mode_with xs mode)
  mode_fits mode few =
      let acts = flat_map (activation_in mode) xs in
      let ens = flat_map (enable_in mode) xs in
      let apart = sorted acts (pairs_flat_map (activation_in mode) AreEntriesApart AreApart (activations_apart mode)
      (activation_alone mode) xs all_apart) in
      record {
        activations = all_from_each (is_activation c) (ascending is_earlier acts)
            (each_ascending is_earlier (λ a. is_activation c a ≡ true) acts
            (each_flat_map (activation_in mode) IsFit (λ a. is_activation c a ≡ true)
            (activation_fits mode) xs all_fit));
        ascending = offsets 0 (ascending is_earlier acts)
            (each_always (λ (a : Activation). 0 ≤ a.offset) (λ a. omega arith) (ascending is_earlier acts)) apart;
        apart = deadlines (ascending is_earlier acts) apart;
        enables = all_from_each (is_enable c) (ascending is_enabled_earlier ens)
            (each_ascending is_enabled_earlier (λ e. is_enable c e ≡ true) ens
            (each_flat_map (enable_in mode) IsFit (λ e. is_enable c e ≡ true) (enable_fits mode) xs all_fit));
        enables_ascending = ascend (ascending is_enabled_earlier ens)
            (enables_sorted ens (pairs_flat_map (enable_in mode) AreEntriesApart AreEnablesApart
            (enables_apart mode) (enable_alone mode) xs all_apart));
        few = omega (
          arith,
          length-ascending is_earlier acts,
          length-ascending is_enabled_earlier ens,
          entries_of mode xs,
        );
      }

  -- no line for a number below this one
  none_below : (f : ℕ → List ℕ) (n mode : ℕ) → mode < n → flat_map f (below n) ≡ [] → f mode ≡ []
  none_below f zero mode lt is = absurd (omega arith)
  none_below f (suc n) mode lt is =
      let both = none_of_both (flat_map f (below n)) (f n) (sym (flat_map-append f (below n) (n ∷ [])
      ∙ ap (λ ls. flat_map f (below n) ++ ls) (append-nil (f n))) ∙ is) in
      ⊎_elim (λ same. ap f same ∙ both.1) (λ other. none_below f n mode (omega (arith, other)) both.0)
      (cases_eq mode n)

  -- Each mode has a table of a configuration.
  pub mode_sound : (mode : ℕ) → mode < modes → IsMode c (mode_with xs mode)
  mode_sound mode lt =
      let most = kept_one 1 (AtMost 4096) (filter_at (is_of mode) located)
      (none_below (lines_of_mode located) modes mode lt kept.few) in
      let few : length (parts (filter_at (is_of mode) located)) ≤ 4096 =
      leb-true (length (parts (filter_at (is_of mode) located))) 4096 most in
      mode_fits mode (subst (λ ys. length ys ≤ 4096) (filter_at-parts (is_of mode) located) few)
