-- What is left of some lists, of which some items were taken.
use Rattle.std.proofs.Common.{ℕ, zero, suc, ◌≡◌, ◌<◌, ◌≤◌, ◌+◌, List, [], ◌∷◌, length, get_or, set, drop, replicate, refl, sym, ap, ◌∙◌, arith}
use Rattle.std.specs.Prelude.{slice_get}
use Rattle.std.proofs.lemmas.List.{set-get_or, drop_all}
use Rattle.isr_window.specs.Inside.{untaken}

-- there are as many lists as before
pub length_untaken : (taken : List ℕ) (lists : List (List ℕ)) → length (untaken taken lists) ≡ length lists
length_untaken taken [] = refl
length_untaken [] (ticks ∷ rest) = refl
length_untaken (count ∷ taken) (ticks ∷ rest) = ap suc (length_untaken taken rest)

-- nothing is left of nothing
drop_none : (n : ℕ) → drop {A = ℕ} n [] ≡ []
drop_none zero = refl
drop_none (suc n) = refl

-- what is left of one of them
pub get_or_untaken : (taken : List ℕ) (lists : List (List ℕ)) (k : ℕ)
    → get_or (untaken taken lists) k [] ≡ drop (get_or taken k 0) (get_or lists k [])
get_or_untaken taken [] k = sym (drop_none (get_or taken k 0))
get_or_untaken [] (ticks ∷ rest) zero = refl
get_or_untaken [] (ticks ∷ rest) (suc k) = refl
get_or_untaken (count ∷ taken) (ticks ∷ rest) zero = refl
get_or_untaken (count ∷ taken) (ticks ∷ rest) (suc k) = get_or_untaken taken rest k

-- nothing was taken
pub untaken_none : (n : ℕ) (lists : List (List ℕ)) → untaken (replicate n 0) lists ≡ lists
untaken_none n [] = refl
untaken_none zero (ticks ∷ rest) = refl
untaken_none (suc n) (ticks ∷ rest) = ap (λ xs. ticks ∷ xs) (untaken_none n rest)

drop_one_more : (n : ℕ) (ticks : List ℕ) → drop (n + 1) ticks ≡ drop 1 (drop n ticks)
drop_one_more zero [] = refl
drop_one_more zero (tick ∷ rest) = refl
drop_one_more (suc n) [] = drop_none (suc n + 1)
drop_one_more (suc n) (tick ∷ rest) = ap (λ k. drop k (tick ∷ rest)) (suc_more n) ∙ drop_one_more n rest
  where
    suc_more : (k : ℕ) → suc k + 1 ≡ suc (k + 1)
    suc_more k = omega arith

-- one more item of a list is taken
pub untaken_more : (taken : List ℕ) (lists : List (List ℕ)) (k : ℕ) → k < length taken
    → untaken (set taken k (get_or taken k 0 + 1)) lists ≡ set (untaken taken lists) k
    (drop 1 (get_or (untaken taken lists) k []))
untaken_more taken [] k here = refl
untaken_more [] (ticks ∷ rest) k here = absurd (omega arith)
untaken_more (count ∷ taken) (ticks ∷ rest) zero here = ap (λ xs. xs ∷ untaken taken rest) (drop_one_more count ticks)
untaken_more (count ∷ taken) (ticks ∷ rest) (suc k) here =
    ap (λ xs. drop count ticks ∷ xs) (untaken_more taken rest k (omega arith))

-- where all items of a list were taken, one more changes nothing
pub untaken_all : (taken : List ℕ) (lists : List (List ℕ)) (k : ℕ) → length (get_or lists k []) ≤ get_or taken k 0
    → untaken taken lists ≡ set (untaken taken lists) k (drop 1 (get_or (untaken taken lists) k []))
untaken_all taken lists k all =
    let gone : get_or (untaken taken lists) k [] ≡ [] = get_or_untaken taken lists k
    ∙ drop_all (get_or taken k 0) (get_or lists k []) all in
    sym (set-get_or (untaken taken lists) k [])
    ∙ ap (set (untaken taken lists) k) (gone ∙ sym (ap (drop 1) gone))

-- the next item of a list
pub next_untaken : (taken : List ℕ) (lists : List (List ℕ)) (k : ℕ)
    → slice_get (get_or (untaken taken lists) k []) 0 ≡ slice_get (get_or lists k []) (get_or taken k 0)
next_untaken taken lists k = ap (λ xs. slice_get xs 0) (get_or_untaken taken lists k)
    ∙ first_dropped (get_or taken k 0) (get_or lists k [])
  where
    first_dropped : (n : ℕ) (xs : List ℕ) → slice_get (drop n xs) 0 ≡ slice_get xs n
    first_dropped zero [] = refl
    first_dropped (suc n) [] = refl
    first_dropped zero (x ∷ xs) = refl
    first_dropped (suc n) (x ∷ xs) = first_dropped n xs
