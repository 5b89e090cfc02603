-- That a script keeps its bounds is decided by the test of it.
use Rattle.std.proofs.Common.{ℕ, zero, suc, ◌≡◌, ◌≢◌, ◌<◌, ◌≤◌, [], Bool, true, false, refl, ap, ◌∙◌, arith, length, ⊎_elim}
use Rattle.std.specs.Prelude.{IsTrue, ◌↔◌, ◌&&◌, nat_le, slice_get}
use Rattle.std.specs.List.{list_all}
use Rattle.std.proofs.lemmas.List.{get_or_past}
use Rattle.std.proofs.lemmas.Bool.{and_parts, cases_eq, cases_lt}
use Rattle.task_lang.specs.Worst.{most_of}
use Rattle.tt_world.specs.declared.config.ConfigParts.{ConfigParts}
use Rattle.tt_world.specs.declared.script.ScriptParts.{ScriptParts}
use Rattle.schedule_check.specs.Kept.{KeepsBounds}
use Rattle.schedule_check.specs.KeepsBounds.{each_below, keeps_arrivals, keeps_bounds, keeps_value}

both : (a b : Bool) → a ≡ true → b ≡ true → a && b ≡ true
both true b e f = f
both false b e f = cc

module _ (test : ℕ → Bool) where
  -- each number below n passes
  below_passes : (n : ℕ) → each_below test n ≡ true → (k : ℕ) → k < n → test k ≡ true
  unfolding each_below
  below_passes zero all k l = absurd (omega arith)
  below_passes (suc n) all k l =
      ⊎_elim (λ (e : k ≡ n). ap test e ∙ (and_parts (each_below test n) (test n) all).1)
      (λ (ne : k ≢ n). below_passes n (and_parts (each_below test n) (test n) all).0 k (omega (arith, ne)))
      (cases_eq k n)

  passes_below : (n : ℕ) → ((k : ℕ) → k < n → test k ≡ true) → each_below test n ≡ true
  unfolding each_below
  passes_below zero each = refl
  passes_below (suc n) each =
      both (each_below test n) (test n) (passes_below n (λ k l. each k (omega arith))) (each n (omega arith))

module _ (c : ConfigParts) (s : ScriptParts) where
  abbrev values : Bool
  values = each_below (keeps_value c s) (length s.values)

  abbrev arrivals : Bool
  arrivals = each_below (keeps_arrivals c s) (length c.isrs)

  -- the test passes exactly where the script keeps its bounds
  pub bounds_are_decided : IsTrue (keeps_bounds c s) ↔ KeepsBounds c s
  unfolding keeps_bounds
  bounds_are_decided = (
    λ kept. record {
      values = λ demand.
          ⊎_elim (λ (l : demand < length s.values). below_passes (keeps_value c s) (length s.values)
          (and_parts values arrivals kept).0 demand l)
          (λ (g : length s.values ≤ demand).
          ap (list_all (λ value. nat_le value (most_of (slice_get c.demands demand))))
          (get_or_past s.values demand [] g))
          (cases_lt demand (length s.values));
      distances = below_passes (keeps_arrivals c s) (length c.isrs) (and_parts values arrivals kept).1;
    },
    λ bounds. both values arrivals
        (passes_below (keeps_value c s) (length s.values) (λ k l. bounds.values k))
        (passes_below (keeps_arrivals c s) (length c.isrs) bounds.distances),
  )
