-- The activations of a round up to a tick: one more where a row is at that tick, otherwise the same.
use Rattle.std.proofs.Common.{ℕ, ◌≡◌, ◌-◌, ◌<◌, ◌≤◌, ◌+◌, zero, suc, List, [], ◌∷◌, ◌++◌, Bool, true, false, None, Some, refl, ap, sym, ◌∙◌, arith, length, get_or, ⊎_elim}
use Rattle.std.specs.Prelude.{filter, map, cond, not, ◌==◌, nat_lt, nat_le}
use Rattle.std.specs.List.{position_or_len}
use Rattle.std.proofs.lemmas.Bool.{cases_lt, lt-ltb, le-ltb, eqb-false, leb-true}
use Rattle.std.proofs.lemmas.List.{map-append}
use Rattle.tt_base.specs.declared.event.Event.{Event}
use Rattle.tt_base.specs.declared.event.Event.TheVariants.{Activate}
use Rattle.tt_world.specs.declared.config.Activation.{Activation as ActivationRow}
use Rattle.tt_world.specs.declared.config.ConfigParts.{ConfigParts}
use Rattle.tt_world.specs.ConfigRules.{offsets_ascend}
use Rattle.tt_world.specs.Rows.{mode_at, no_row, entry_at}
use Rattle.tt_world.specs.Readings.{RoundStart}
use Rattle.tt_world.specs.EventLaws.{activates_below}
use Rattle.tt_world.proofs.TableRows.{both_left, both_right}

-- a round has these activations up to its end
abbrev pub has_acts : ConfigParts → RoundStart → ℕ → List Event
has_acts c round end = activates_below (mode_at c round.mode.0).activations round.start (end - round.start)

-- ---- the rows below an offset

abbrev below : ℕ → List ActivationRow → List ActivationRow
below o rows = filter (λ (row : ActivationRow). nat_lt row.offset o) rows

below_none : (least o : ℕ) (rows : List ActivationRow) → offsets_ascend least rows ≡ true → o ≤ least
    → below o rows ≡ []
below_none least o [] h l = refl
below_none least o (a ∷ rest) h l =
    let here = leb-true least a.offset (both_left (nat_le least a.offset) (offsets_ascend (a.offset + 1) rest) h) in
    let not_below : nat_lt a.offset o ≡ false = le-ltb a.offset o (omega arith) in
    ap (λ (b : Bool). cond b (a ∷ below o rest) (below o rest)) not_below
    ∙ below_none (a.offset + 1) o rest (both_right (nat_le least a.offset) (offsets_ascend (a.offset + 1) rest) h)
    (omega arith)

from_least : (least : ℕ) (rows : List ActivationRow) (j : ℕ) → offsets_ascend least rows ≡ true → j < length rows
    → least ≤ (get_or rows j no_row).offset
from_least least [] j h l = absurd (omega arith)
from_least least (a ∷ rest) zero h l =
    leb-true least a.offset (both_left (nat_le least a.offset) (offsets_ascend (a.offset + 1) rest) h)
from_least least (a ∷ rest) (suc j) h l =
    let here = leb-true least a.offset (both_left (nat_le least a.offset) (offsets_ascend (a.offset + 1) rest) h) in
    let there = from_least (a.offset + 1) rest j
    (both_right (nat_le least a.offset) (offsets_ascend (a.offset + 1) rest) h) (omega arith) in
    omega arith

-- one more row, where one is at the offset
below_row : (least o : ℕ) (rows : List ActivationRow) (i : ℕ) → offsets_ascend least rows ≡ true → i < length rows
    → (get_or rows i no_row).offset ≡ o → below (o + 1) rows ≡ below o rows ++ get_or rows i no_row ∷ []
below_row least o [] i h l e = absurd (omega arith)
below_row least o (a ∷ rest) zero h l e =
    let later = both_right (nat_le least a.offset) (offsets_ascend (a.offset + 1) rest) h in
    let yes_now : nat_lt a.offset (o + 1) ≡ true = lt-ltb a.offset (o + 1) (omega arith) in
    let no_before : nat_lt a.offset o ≡ false = le-ltb a.offset o (omega arith) in
    let none_now : below (o + 1) rest ≡ [] = below_none (a.offset + 1) (o + 1) rest later (omega arith) in
    let none_before : below o rest ≡ [] = below_none (a.offset + 1) o rest later (omega arith) in
    ap (λ (b : Bool). cond b (a ∷ below (o + 1) rest) (below (o + 1) rest)) yes_now
    ∙ ap (λ (xs : List ActivationRow). a ∷ xs) none_now
    ∙ sym (ap (λ (b : Bool). cond b (a ∷ below o rest) (below o rest) ++ a ∷ []) no_before
    ∙ ap (λ (xs : List ActivationRow). xs ++ a ∷ []) none_before)
below_row least o (a ∷ rest) (suc i) h l e =
    let later = both_right (nat_le least a.offset) (offsets_ascend (a.offset + 1) rest) h in
    let low = from_least (a.offset + 1) rest i later (omega arith) in
    let yes_now : nat_lt a.offset (o + 1) ≡ true = lt-ltb a.offset (o + 1) (omega arith) in
    let yes_before : nat_lt a.offset o ≡ true = lt-ltb a.offset o (omega arith) in
    ap (λ (b : Bool). cond b (a ∷ below (o + 1) rest) (below (o + 1) rest)) yes_now
    ∙ ap (λ (xs : List ActivationRow). a ∷ xs) (below_row (a.offset + 1) o rest i later (omega arith) e)
    ∙ sym (ap (λ (b : Bool). cond b (a ∷ below o rest) (below o rest) ++ get_or rest i no_row ∷ []) yes_before)

some_none : (k : ℕ) → Some k ≡ None → ⊥
some_none k f = cc

-- where no row is found in a list, none is found after its first
pub none_after : (b : Bool) (n m : ℕ)
    → cond (nat_lt (cond (not b) (1 + n) 0) (suc m)) (Some (cond (not b) (1 + n) 0)) None ≡ None
    → (b ≡ false) × (cond (nat_lt n m) (Some n) None ≡ None)
none_after true n m e =
    absurd (some_none 0 (sym (ap (λ (x : Bool). cond x (Some 0) None) (lt-ltb 0 (suc m) (omega arith))) ∙ e))
none_after false n m e = (
  refl,
  ⊎_elim
      (λ (l : n < m). absurd (some_none (1 + n)
      (sym (ap (λ (x : Bool). cond x (Some (1 + n)) None) (lt-ltb (1 + n) (suc m) (omega arith))) ∙ e)))
      (λ (g : m ≤ n). ap (λ (x : Bool). cond x (Some n) None) (le-ltb n m g)) (cases_lt n m),
)

-- no more rows, where none is at the offset
below_same : (o : ℕ) (rows : List ActivationRow) → entry_at o rows ≡ None → below (o + 1) rows ≡ below o rows
below_same o [] e = refl
below_same o (a ∷ rest) e =
    let k = none_after (a.offset == o) (position_or_len (λ (row : ActivationRow). row.offset == o) rest)
    (length rest) e in
    let other = eqb-false a.offset o k.0 in
    let rest_same = below_same o rest k.1 in
    ⊎_elim
    (λ (l : a.offset < o).
    let yes_now : nat_lt a.offset (o + 1) ≡ true = lt-ltb a.offset (o + 1) (omega arith) in
    let yes_before : nat_lt a.offset o ≡ true = lt-ltb a.offset o l in
    ap (λ (b : Bool). cond b (a ∷ below (o + 1) rest) (below (o + 1) rest)) yes_now
    ∙ ap (λ (xs : List ActivationRow). a ∷ xs) rest_same
    ∙ sym (ap (λ (b : Bool). cond b (a ∷ below o rest) (below o rest)) yes_before))
    (λ (g : o ≤ a.offset).
    let no_now : nat_lt a.offset (o + 1) ≡ false = le-ltb a.offset (o + 1) (omega arith) in
    let no_before : nat_lt a.offset o ≡ false = le-ltb a.offset o g in
    ap (λ (b : Bool). cond b (a ∷ below (o + 1) rest) (below (o + 1) rest)) no_now ∙ rest_same
    ∙ sym (ap (λ (b : Bool). cond b (a ∷ below o rest) (below o rest)) no_before))
    (cases_lt a.offset o)

-- ---- so the activations below an offset

abbrev act : ℕ → ActivationRow → Event
act start row = Activate (start + row.offset) row.task

pub acts_same : (start o : ℕ) (rows : List ActivationRow) → entry_at o rows ≡ None
    → activates_below rows start (o + 1) ≡ activates_below rows start o
acts_same start o rows e = ap (map (act start)) (below_same o rows e)

pub acts_row : (least start o : ℕ) (rows : List ActivationRow) (i : ℕ) → offsets_ascend least rows ≡ true
    → i < length rows → (get_or rows i no_row).offset ≡ o
    → activates_below rows start (o + 1) ≡ activates_below rows start o
    ++ Activate (start + o) (get_or rows i no_row).task ∷ []
acts_row least start o rows i h l e =
    ap (map (act start)) (below_row least o rows i h l e)
    ∙ map-append (act start) (below o rows) (get_or rows i no_row ∷ [])
    ∙ ap (λ (x : ℕ). activates_below rows start o ++ Activate (start + x) (get_or rows i no_row).task ∷ []) e

pub acts_none : (rows : List ActivationRow) (start : ℕ) → activates_below rows start 0 ≡ []
acts_none rows start = ap (map (act start)) (nothing rows)
  where
    nothing : (rows : List ActivationRow) → below 0 rows ≡ []
    nothing [] = refl
    nothing (a ∷ rest) = ap (λ (b : Bool). cond b (a ∷ below 0 rest) (below 0 rest)) (le-ltb a.offset 0 (omega arith))
        ∙ nothing rest
