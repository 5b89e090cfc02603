-- The places of the sources of a configuration.
use Rattle.std.proofs.Common.{ℕ, zero, suc, ◌≡◌, ◌≢◌, ◌<◌, ◌≤◌, ◌+◌, ◌-◌, Bool, true, false, cond, ◌⊎◌, inl, inr, subst, List, [], ◌∷◌, ◌++◌, length, length-append, get_or, refl, sym, ap, ◌∙◌, arith}
use Rattle.std.specs.Prelude.{None, Some, find, map}
use Rattle.std.specs.List.{range_with_len}
use Rattle.std.proofs.Math.ListN.{get_or-append}
use Rattle.std.proofs.lemmas.List.{get_or-append_right}
use Rattle.std.proofs.lemmas.List.FromFn.{length-map-range_with_len, get_or-map-range_with_len}
use Rattle.std.proofs.lemmas.Bool.{cases_lt}
use Rattle.tt_world.specs.declared.config.ConfigParts.{ConfigParts}
use Rattle.tt_world.specs.World.{Source, IsrSource, OisrSource}
use Rattle.tt_world.specs.Gates.{sources}
use Rattle.isr_window.specs.Window.{Window, all_sources}
use Rattle.isr_window.specs.Played.{AreSourcesOf, source_at, no_source}
use Rattle.isr_window.proofs.Chosen.{isr_source, oisr_source}

-- the sources are those of the configuration
pub all_sources_are : (c : ConfigParts) (g : Window) → AreSourcesOf c g → all_sources g ≡ sources c
all_sources_are c g are =
    ap (λ n. map isr_source (range_with_len 0 n) ++ map oisr_source (range_with_len 0 (length g.oisrs_left))) are.isrs
    ∙ ap (λ n. map isr_source (range_with_len 0 (length c.isrs)) ++ map oisr_source (range_with_len 0 n)) are.oisrs

-- ---- the first that passes

-- its place: it passes, and none before it does
pub record IsFirst {X : Type 0} (test : X → Bool) (xs : List X) (d x : X) : Type 0 where
  pub place : ℕ
  pub within : place < length xs
  pub is : get_or xs place d ≡ x
  pub passes : test x ≡ true
  pub before : (k : ℕ) → k < place → test (get_or xs k d) ≡ false

-- what is found first is at such a place
pub first_found : {X : Type 0} (test : X → Bool) (xs : List X) (d x : X) → find test xs ≡ Some x → IsFirst test xs d x
first_found test [] d x e = absurd cc
first_found {X} test (y ∷ ys) d x e = by_test (test y) refl e (first_found test ys d x)
  where
    by_test : (passes : Bool) → test y ≡ passes → cond passes (Some y) (find test ys) ≡ Some x
        → (find test ys ≡ Some x → IsFirst test ys d x) → IsFirst test (y ∷ ys) d x
    by_test true is f later =
        let same : y ≡ x = cc in
        record {
          place = 0;
          within = omega arith;
          is = same;
          passes = sym (ap test same) ∙ is;
          before =
              λ k below. absurd (omega arith);
        }
    by_test false is f later =
        let rest = later f in
        let here = rest.within in
        record {
          place = suc rest.place;
          within = omega arith;
          is = rest.is;
          passes = rest.passes;
          before = before rest is;
        }
      where
        before : (rest : IsFirst test ys d x) → test y ≡ false → (k : ℕ) → k < suc rest.place
            → test (get_or (y ∷ ys) k d) ≡ false
        before rest is zero below = is
        before rest is (suc k) below = rest.before k (omega arith)

-- where nothing is found, none passes
pub none_found : {X : Type 0} (test : X → Bool) (xs : List X) (d : X) → find test xs ≡ None → (k : ℕ) → k < length xs
    → test (get_or xs k d) ≡ false
none_found test [] d e k below = absurd (omega arith)
none_found test (y ∷ ys) d e k below = by_test (test y) refl e (none_found test ys d) k below
  where
    by_test : (passes : Bool) → test y ≡ passes → cond passes (Some y) (find test ys) ≡ None
        → (find test ys ≡ None → (j : ℕ) → j < length ys → test (get_or ys j d) ≡ false) → (j : ℕ) → j < length (y ∷ ys)
        → test (get_or (y ∷ ys) j d) ≡ false
    by_test true is f later j here = absurd cc
    by_test false is f later zero here = is
    by_test false is f later (suc j) here = later f j (omega arith)

-- ---- different places have different sources

-- the place of a source, given the number of time-triggered ones
abbrev pub place_of : ℕ → Source → ℕ
place_of isrs (IsrSource isr) = isr.0
place_of isrs (OisrSource oisr) = isrs + oisr.0

-- the source at a place below the number of time-triggered ones
pub isr_at : (c : ConfigParts) (k : ℕ) → k < length c.isrs → source_at c k ≡ isr_source k
isr_at c k here =
    get_or-append (map isr_source (range_with_len 0 (length c.isrs)))
    (map oisr_source (range_with_len 0 (length c.oisrs))) no_source k
    (rw (length-map-range_with_len isr_source 0 (length c.isrs)) here)
    ∙ get_or-map-range_with_len isr_source 0 (length c.isrs) k k no_source here (omega arith)

-- the source at a place after these
pub oisr_at : (c : ConfigParts) (k : ℕ) → k < length c.oisrs → source_at c (length c.isrs + k) ≡ oisr_source k
oisr_at c k here =
    get_or-append_right (map isr_source (range_with_len 0 (length c.isrs)))
    (map oisr_source (range_with_len 0 (length c.oisrs))) (length c.isrs) (length c.isrs + k) no_source
    (length-map-range_with_len isr_source 0 (length c.isrs)) (omega arith)
    ∙ get_or-map-range_with_len oisr_source 0 (length c.oisrs) (length c.isrs + k - length c.isrs) k no_source
    (omega arith) (omega arith)

-- how many sources there are
pub length-sources : (c : ConfigParts) → length (sources c) ≡ length c.isrs + length c.oisrs
length-sources c =
    length-append (map isr_source (range_with_len 0 (length c.isrs)))
    (map oisr_source (range_with_len 0 (length c.oisrs)))
    ∙ ap (λ n. n + length (map oisr_source (range_with_len 0 (length c.oisrs))))
    (length-map-range_with_len isr_source 0 (length c.isrs))
    ∙ ap (λ n. length c.isrs + n) (length-map-range_with_len oisr_source 0 (length c.oisrs))

-- a source of a configuration: its number is one of those of its kind
pub data IsSource (c : ConfigParts) : Source → Type 0 where
  IsIsr : (k : ℕ) → k < length c.isrs → IsSource c (isr_source k)
  IsOisr : (k : ℕ) → k < length c.oisrs → IsSource c (oisr_source k)

-- each source is one of the configuration
pub source_is : (c : ConfigParts) (k : ℕ) → k < length (sources c) → IsSource c (source_at c k)
source_is c k below = by_kind (cases_lt k (length c.isrs))
  where
    by_kind : (k < length c.isrs) ⊎ (length c.isrs ≤ k) → IsSource c (source_at c k)
    by_kind (inl here) = subst (IsSource c) (sym (isr_at c k here)) (IsIsr k here)
    by_kind (inr past) =
        let all = length-sources c in
        let here : k - length c.isrs < length c.oisrs = omega arith in
        let same : length c.isrs + (k - length c.isrs) ≡ k = omega arith in
        subst (IsSource c) (sym (ap (source_at c) (sym same) ∙ oisr_at c (k - length c.isrs) here))
        (IsOisr (k - length c.isrs) here)

place-of : (c : ConfigParts) (k : ℕ) → k < length (sources c) → place_of (length c.isrs) (source_at c k) ≡ k
place-of c k below = by_kind (cases_lt k (length c.isrs))
  where
    by_kind : (k < length c.isrs) ⊎ (length c.isrs ≤ k) → place_of (length c.isrs) (source_at c k) ≡ k
    by_kind (inl here) = ap (place_of (length c.isrs)) (isr_at c k here)
    by_kind (inr past) =
        let all = length-sources c in
        let here : k - length c.isrs < length c.oisrs = omega arith in
        let same : length c.isrs + (k - length c.isrs) ≡ k = omega arith in
        ap (place_of (length c.isrs)) (ap (source_at c) (sym same) ∙ oisr_at c (k - length c.isrs) here) ∙ same

-- the sources at two places differ
pub other_source : (c : ConfigParts) (j k : ℕ) → j < length (sources c) → k < length (sources c) → j ≢ k
    → source_at c j ≢ source_at c k
other_source c j k here there differ same =
    differ (sym (place-of c j here) ∙ ap (place_of (length c.isrs)) same ∙ place-of c k there)
