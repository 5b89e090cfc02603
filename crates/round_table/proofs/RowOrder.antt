-- The order of the rows of a mode.
use Rattle.std.proofs.Common.{ℕ, ◌≡◌, ◌≤◌, ◌<◌, ◌+◌, ◌-◌, Bool, true, List, [], ◌∷◌, length, get_or, map, refl, sym, ap, ◌∙◌, subst, inl, inr, ⊎_elim, arith}
use Rattle.std.specs.Prelude.{◌⊎◌, ◌&&◌, ◌==◌, nat_le, nat_lt}
use Rattle.std.specs.List.{All, AllPairs, list_all}
use Rattle.std.specs.List.Sorted.{IsNonDecreasingBy, IsStrictlyIncreasing}
use Rattle.std.proofs.lemmas.Bool.{and_parts, or_cases, cases_lt, eqb-true, leb-true, ltb-true, lt-ltb, le-leb}
use Rattle.std.proofs.lemmas.List.{get_or-map, get_or_default, get_or_past, length-map}
use Rattle.std.proofs.lemmas.List.Elements.{All-get_or, All-cons, All-nil, All-weaker}
use Rattle.std.proofs.lemmas.List.Kept.{AllPairs-cons}
use Rattle.tt_world.specs.declared.config.Activation.{Activation}
use Rattle.tt_world.specs.declared.config.Enable.{Enable}
use Rattle.tt_world.specs.declared.config.ModeDef.{ModeDef}
use Rattle.tt_world.specs.declared.config.ConfigParts.{ConfigParts}
use Rattle.tt_world.specs.ConfigRules.{IsConfig, IsMode, is_activation, is_enable, comes_before, enables_ascend, offsets_ascend}
use Rattle.tt_world.specs.Rows.{mode_at, no_mode}
use Rattle.tt_world.proofs.TableRows.{list_all_get}
use Rattle.round_table.specs.Inside.{IsWithin}

-- ---- lists

module _ {X : Type 0} (key : X → ℕ) (R : X → X → Type 0) where
  pub rises : ((x y : X) → R x y → key x ≤ key y) → (xs : List X) → AllPairs R xs → IsNonDecreasingBy key xs
  rises weaker xs pairs i j d le l =
      ⊎_elim (λ (lt : i < j). weaker (get_or xs i d) (get_or xs j d) (pairs i j d lt l))
      (λ (ge : j ≤ i). let same : i ≡ j = omega arith in let keys = ap (λ n. key (get_or xs n d)) same in omega arith)
      (cases_lt i j)

  pub increases : (d : X) (xs : List X) → ((x y : X) → R x y → key x < key y) → AllPairs R xs
      → IsStrictlyIncreasing (map key xs)
  increases d xs less pairs k l =
      let long = length-map xs key in
      let one = get_or-map key xs k d 0 (omega arith) in
      let other = get_or-map key xs (k + 1) d 0 (omega arith) in
      let up = less _ _ (pairs k (k + 1) d (omega arith) (omega arith)) in
      omega arith

-- ---- activations

-- one row comes before another
abbrev pub IsEarlier : Activation → Activation → Type 0
IsEarlier row later = row.offset < later.offset

pub activation_pairs : (least : ℕ) (rows : List Activation) → offsets_ascend least rows ≡ true
    → All (λ (row : Activation). least ≤ row.offset) rows × AllPairs IsEarlier rows
activation_pairs least [] h = (All-nil (λ (row : Activation). least ≤ row.offset), λ i j d lt l. absurd (omega arith))
activation_pairs least (row ∷ rows) h =
    let parts = and_parts (nat_le least row.offset) (offsets_ascend (row.offset + 1) rows) h in
    let here = leb-true least row.offset parts.0 in
    let rest = activation_pairs (row.offset + 1) rows parts.1 in (
      All-cons (λ (r : Activation). least ≤ r.offset) row rows here
          (All-weaker (λ (r : Activation). row.offset + 1 ≤ r.offset) (λ (r : Activation). least ≤ r.offset)
          (λ r le. omega arith) rows rest.0),
      AllPairs-cons IsEarlier row rows
          (All-weaker (λ (r : Activation). row.offset + 1 ≤ r.offset) (IsEarlier row)
          (λ r le. omega arith) rows rest.0) rest.1,
    )

-- ---- enables

abbrev pub IsBefore : Enable → Enable → Type 0
IsBefore row later = comes_before row later ≡ true

pub enable_pairs : (rows : List Enable) → enables_ascend rows ≡ true → AllPairs IsBefore rows
enable_pairs [] h = λ i j d lt l. absurd (omega arith)
enable_pairs (row ∷ rows) h =
    let parts = and_parts (list_all (comes_before row) rows) (enables_ascend rows) h in
    AllPairs-cons IsBefore row rows (λ k d l. list_all_get (comes_before row) rows k d parts.0 l)
    (enable_pairs rows parts.1)

-- by offset, and then by number
pub before_cases : (row later : Enable) → IsBefore row later
    → (row.offset < later.offset) ⊎ ((row.offset ≡ later.offset) × (row.isr.0 < later.isr.0))
before_cases row later h =
    ⊎_elim (λ (less : nat_lt row.offset later.offset ≡ true). inl (ltb-true row.offset later.offset less))
    (λ (tied : ((row.offset == later.offset) && nat_lt row.isr.0 later.isr.0) ≡ true).
    let parts = and_parts (row.offset == later.offset) (nat_lt row.isr.0 later.isr.0) tied in
    inr (eqb-true row.offset later.offset parts.0, ltb-true row.isr.0 later.isr.0 parts.1))
    (or_cases (nat_lt row.offset later.offset) ((row.offset == later.offset) && nat_lt row.isr.0 later.isr.0) h)

-- ---- the rows of a mode within a limit

pub activations_rise : (limit : ℕ) (mode : ModeDef) → IsWithin limit mode
    → IsNonDecreasingBy (λ (row : Activation). row.offset) mode.activations
activations_rise limit mode within =
    rises (λ (row : Activation). row.offset) IsEarlier (λ row later less. omega arith) mode.activations
    (activation_pairs 0 mode.activations within.ascending).1

pub enables_rise : (limit : ℕ) (mode : ModeDef) → IsWithin limit mode
    → IsNonDecreasingBy (λ (row : Enable). row.offset) mode.enables
enables_rise limit mode within =
    rises (λ (row : Enable). row.offset) IsBefore
    (λ row later h.
    ⊎_elim (λ (less : row.offset < later.offset). omega arith)
    (λ (tied : (row.offset ≡ later.offset) × (row.isr.0 < later.isr.0)). let same = tied.0 in omega arith)
    (before_cases row later h))
    mode.enables (enable_pairs mode.enables within.enables_ascending)

-- ---- the modes of a configuration

all_weaker : {X : Type 0} (p q : X → Bool) → ((x : X) → p x ≡ true → q x ≡ true) → (xs : List X)
    → list_all p xs ≡ true → list_all q xs ≡ true
all_weaker p q imp [] h = refl
all_weaker p q imp (x ∷ xs) h =
    let parts = and_parts (p x) (list_all p xs) h in rw (imp x parts.0, all_weaker p q imp xs parts.1) refl

module _ (c : ConfigParts) where
  -- a row's offset comes before its deadline, and its deadline not after the limit
  pub deadline_parts : (row : Activation) → is_activation c row ≡ true
      → (row.offset < row.deadline) × (row.deadline ≤ c.round - c.adjust)
  deadline_parts row h =
      let later = (and_parts (nat_lt row.task.0 (length c.tasks))
      (nat_lt row.offset row.deadline && nat_le row.deadline (c.round - c.adjust)) h).1 in
      let both = and_parts (nat_lt row.offset row.deadline) (nat_le row.deadline (c.round - c.adjust)) later in
      (ltb-true row.offset row.deadline both.0, leb-true row.deadline (c.round - c.adjust) both.1)

  -- a mode that meets the rules
  pub mode_within : (mode : ModeDef) → IsMode c mode → IsWithin (c.round - c.adjust) mode
  mode_within mode h = record {
    ascending = h.ascending;
    enables_ascending = h.enables_ascending;
    below = all_weaker (is_activation c) (λ (row : Activation). nat_lt row.offset (c.round - c.adjust))
        (λ row e. let parts = deadline_parts row e in let one = parts.0 in let other = parts.1 in
        lt-ltb _ _ (omega arith)) mode.activations h.activations;
    enables_below = all_weaker (is_enable c) (λ (row : Enable). nat_lt row.offset (c.round - c.adjust))
        (λ row e. (and_parts (nat_lt row.isr.0 (length c.isrs)) (nat_lt row.offset (c.round - c.adjust)) e).1)
        mode.enables h.enables;
    deadlines = all_weaker (is_activation c) (λ (row : Activation). nat_le row.deadline (c.round - c.adjust))
        (λ row e. le-leb _ _ (deadline_parts row e).1) mode.activations h.activations;
  }

  -- the mode of each number, also of one that has none
  pub config_within : (n : ℕ) → IsConfig c → IsWithin (c.round - c.adjust) (mode_at c n)
  config_within n rules =
      ⊎_elim (λ (l : n < length c.modes). mode_within (mode_at c n)
      (All-get_or (IsMode c) c.modes n no_mode l rules.modes))
      (λ (g : length c.modes ≤ n). subst (IsWithin (c.round - c.adjust))
      (sym (get_or_past c.modes n no_mode g)) no_rows)
      (cases_lt n (length c.modes)) where
        no_rows : IsWithin (c.round - c.adjust) no_mode
        no_rows = record {
          ascending = refl;
          enables_ascending = refl;
          below = refl;
          enables_below = refl;
          deadlines =
              refl;
        }

  pub found_within : (n : ℕ) (mode : ModeDef) → IsConfig c → n < length c.modes → mode ≡ get_or c.modes n mode
      → IsWithin (c.round - c.adjust) mode
  found_within n mode rules l is =
      subst (IsWithin (c.round - c.adjust)) (sym (is ∙ get_or_default c.modes n mode no_mode l)) (config_within n rules)
