-- The values of a script against the most of their demands.
use Rattle.std.proofs.Common.{ℕ, ◌≡◌, ◌<◌, ◌≤◌, List, [], Bool, true, ap, sym, ◌∙◌, arith, length, get_or, ⊎_elim}
use Rattle.std.specs.Prelude.{nat_le, slice_get}
use Rattle.std.specs.List.{list_all}
use Rattle.std.proofs.lemmas.List.{get_or_default, get_or_past}
use Rattle.std.proofs.lemmas.Option.{slice_get-get_or}
use Rattle.std.proofs.lemmas.Bool.{cases_lt}
use Rattle.task_lang.specs.declared.demand.Demand.{Demand}
use Rattle.task_lang.specs.Tick.{supply_of}
use Rattle.task_lang.specs.TickLaws.{AreValuesKept}
use Rattle.task_lang.specs.Worst.{most_of}

module _ (demands : List Demand) (values : List (List ℕ)) where
  -- whether the values of a demand are at most its most
  abbrev pub is_kept : ℕ → Bool
  is_kept n = list_all (λ value. nat_le value (most_of (slice_get demands n))) (get_or values n [])

  -- a test of the values that were read, against the demand that was read
  pub kept_here : (n : ℕ) (d : Demand) (some : List Demand) (found now : List ℕ) (kept : Bool) → some ≡ demands
      → n < length some → n < length values → found ≡ get_or values n found → now ≡ found
      → kept ≡ list_all (λ value. nat_le value (get_or some n d).most) now → kept ≡ is_kept n
  kept_here n d some found now kept are l k is same e =
      e ∙ ap (list_all (λ value. nat_le value (get_or some n d).most)) (same ∙ is ∙ get_or_default values n found [] k)
      ∙ ap (λ o. list_all (λ value. nat_le value (most_of o)) (get_or values n [])) (sym (slice_get-get_or some n d l))
      ∙ ap (λ (xs : List Demand). list_all (λ value. nat_le value (most_of (slice_get xs n))) (get_or values n [])) are

  -- where each is, the script keeps the values
  pub kept_all : (n : ℕ) → length values ≤ n → ((k : ℕ) → k < n → is_kept k ≡ true)
      → AreValuesKept (supply_of demands values)
  kept_all n all each demand =
      ⊎_elim (λ (l : demand < n). each demand l)
      (λ (g : n ≤ demand). ap (list_all (λ value. nat_le value (most_of (slice_get demands demand))))
      (get_or_past values demand [] (omega arith)))
      (cases_lt demand n)
