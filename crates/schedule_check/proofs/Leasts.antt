-- The least number that passes a test.
use Rattle.std.proofs.Common.{ℕ, zero, suc, ◌≡◌, ◌<◌, ◌≤◌, ◌+◌, Bool, true, false, None, Some, refl, ap, sym, ◌∙◌, arith, ⊎_elim}
use Rattle.std.proofs.lemmas.Bool.{cases_Bool, cases_eq, cond-true, cond-false}
use Rattle.schedule_check.specs.Least.{least}

module _ (test : ℕ → Bool) where
  -- the first of the numbers that passes is the least
  pub least_is : (from n k : ℕ) → from ≤ k → k < from + n → test k ≡ true
      → ((j : ℕ) → from ≤ j → j < k → test j ≡ false) → least test from n ≡ Some k
  unfolding least
  least_is from zero k l h passes fails = absurd (omega arith)
  least_is from (suc n) k l h passes fails =
      ⊎_elim
      (λ (e : from ≡ k). cond-true (test from) _ _ (ap test e ∙ passes) ∙ ap Some e)
      (λ (ne : from ≡ k → ⊥).
      let later : from < k = ⊎_elim (λ (e : from ≡ k). absurd (ne e)) (λ (ne' : from ≡ k → ⊥). omega arith)
      (cases_eq from k) in
      cond-false (test from) _ _ (fails from (omega arith) later)
      ∙ least_is (from + 1) n k (omega arith) (omega arith) passes (λ j a b. fails j (omega arith) b))
      (cases_eq from k)

  -- where none passes there is none
  pub least_none : (from n : ℕ) → ((j : ℕ) → from ≤ j → j < from + n → test j ≡ false) → least test from n ≡ None
  unfolding least
  least_none from zero fails = refl
  least_none from (suc n) fails =
      cond-false (test from) _ _ (fails from (omega arith) (omega arith))
      ∙ least_none (from + 1) n (λ j a b. fails j (omega arith) (omega arith))

  -- the least passes, and is one of the numbers
  pub least_passes : (from n k : ℕ) → least test from n ≡ Some k → (from ≤ k) × (k < from + n) × (test k ≡ true)
  unfolding least
  least_passes from zero k e = absurd (let none : None ≡ Some k = e in cc)
  least_passes from (suc n) k e =
      ⊎_elim
      (λ (t : test from ≡ true).
      let same : from ≡ k = (let some = sym (cond-true (test from) (Some from) (least test (from + 1) n) t) ∙ e in
      cc) in
      (omega arith, omega arith, ap test (sym same) ∙ t))
      (λ (f : test from ≡ false).
      let r = least_passes (from + 1) n k (sym (cond-false (test from) (Some from) (least test (from + 1) n) f) ∙ e) in
      let a = r.0 in let b = r.1 in
      (omega arith, omega arith, r.2))
      (cases_Bool (test from))

  -- where there is none, none passes
  pub least_fails : (from n : ℕ) → least test from n ≡ None → (j : ℕ) → from ≤ j → j < from + n → test j ≡ false
  unfolding least
  least_fails from zero e j a b = absurd (omega arith)
  least_fails from (suc n) e j a b =
      ⊎_elim
      (λ (t : test from ≡ true).
      absurd (let none = sym (cond-true (test from) (Some from) (least test (from + 1) n) t) ∙ e in cc))
      (λ (f : test from ≡ false).
      ⊎_elim (λ (same : from ≡ j). ap test (sym same) ∙ f)
      (λ (ne : from ≡ j → ⊥).
      least_fails (from + 1) n (sym (cond-false (test from) (Some from) (least test (from + 1) n) f) ∙ e) j
      (omega arith) (omega arith))
      (cases_eq from j))
      (cases_Bool (test from))
