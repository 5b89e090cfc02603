-- The sources after an arrival or an acceptance at one of them.
use Rattle.std.proofs.Common.{◌≡◌, ◌≢◌, Bool, true, false, List, [], get_or, set, drop, refl, sym, ap, ◌∙◌, arith}
use Rattle.std.specs.Prelude.{Some}
use Rattle.std.proofs.lemmas.List.{get_or-set_same, get_or-set_other, set-get_or}
use Rattle.tt_world.specs.declared.config.ConfigParts.{ConfigParts}
use Rattle.tt_world.specs.World.{World, Source, IsrSource, OisrSource}
use Rattle.tt_world.specs.Gates.{is_held, is_enabled, holding, disabling}
use Rattle.isr_window.specs.Window.{Window, left_at, held_at, enabled_at, taking, accepting}
use Rattle.isr_window.specs.Played.{AreSourcesOf, with_window}
use Rattle.isr_window.proofs.Places.{IsSource, IsIsr, IsOisr}

-- ---- another source

-- an arrival at one source leaves the arrivals to come at another
pub left_other : (g : Window) (x y : Source) → y ≢ x → left_at (taking (Some x) g) y ≡ left_at g y
left_other g (IsrSource x) (IsrSource y) differ =
    get_or-set_other g.isrs_left x.0 y.0 (drop 1 (get_or g.isrs_left x.0 [])) []
    (λ same. differ (ap (λ n. IsrSource (record { 0 = n })) same))
left_other g (IsrSource x) (OisrSource y) differ = refl
left_other g (OisrSource x) (IsrSource y) differ = refl
left_other g (OisrSource x) (OisrSource y) differ =
    get_or-set_other g.oisrs_left x.0 y.0 (drop 1 (get_or g.oisrs_left x.0 [])) []
    (λ same. differ (ap (λ n. OisrSource (record { 0 = n })) same))

-- an acceptance leaves the interrupt of another source
pub held_other : (g : Window) (x y : Source) → y ≢ x → held_at (accepting (Some x) g) y ≡ held_at g y
held_other g (IsrSource x) (IsrSource y) differ =
    get_or-set_other g.isrs_held x.0 y.0 false false (λ same. differ (ap (λ n. IsrSource (record { 0 = n })) same))
held_other g (IsrSource x) (OisrSource y) differ = refl
held_other g (OisrSource x) (IsrSource y) differ = refl
held_other g (OisrSource x) (OisrSource y) differ =
    get_or-set_other g.oisrs_held x.0 y.0 false false (λ same. differ (ap (λ n. OisrSource (record { 0 = n })) same))

-- an acceptance leaves the gate of another source
pub enabled_other : (g : Window) (x y : Source) → y ≢ x → enabled_at (accepting (Some x) g) y ≡ enabled_at g y
enabled_other g (IsrSource x) (IsrSource y) differ =
    get_or-set_other g.isrs_enabled x.0 y.0 false false (λ same. differ (ap (λ n. IsrSource (record { 0 = n })) same))
enabled_other g (IsrSource x) (OisrSource y) differ = refl
enabled_other g (OisrSource x) (IsrSource y) differ = refl
enabled_other g (OisrSource x) (OisrSource y) differ = refl

-- ---- the same source

-- an arrival is taken from those of its source
pub left_same : (c : ConfigParts) (g : Window) (x : Source) → AreSourcesOf c g → IsSource c x
    → left_at (taking (Some x) g) x ≡ drop 1 (left_at g x)
left_same c g _ are (IsIsr k below) =
    get_or-set_same g.isrs_left k (drop 1 (get_or g.isrs_left k [])) [] (let same = are.isrs in omega arith)
left_same c g _ are (IsOisr k below) =
    get_or-set_same g.oisrs_left k (drop 1 (get_or g.oisrs_left k [])) [] (let same = are.oisrs in omega arith)

-- an accepted interrupt is no longer held
pub held_same : (c : ConfigParts) (g : Window) (x : Source) → AreSourcesOf c g → IsSource c x
    → held_at (accepting (Some x) g) x ≡ false
held_same c g _ are (IsIsr k below) =
    get_or-set_same g.isrs_held k false false (let same = are.isrs_held in omega arith)
held_same c g _ are (IsOisr k below) =
    get_or-set_same g.oisrs_held k false false (let same = are.oisrs_held in omega arith)

-- ---- the world's gates

-- an interrupt is held where the source's flag says so
pub is_held_is : (w : World) (g : Window) (x : Source) → is_held (with_window w g) x ≡ held_at g x
is_held_is w g (IsrSource x) = refl
is_held_is w g (OisrSource x) = refl

-- a source is enabled where its flag says so
pub is_enabled_is : (w : World) (g : Window) (x : Source) → is_enabled (with_window w g) x ≡ enabled_at g x
is_enabled_is w g (IsrSource x) = refl
is_enabled_is w g (OisrSource x) = refl

-- where no interrupt is held, an arrival is held
pub holding_is : (w : World) (g : Window) (x : Source)
    → holding (with_window w g) x true ≡ with_window w (taking (Some x) g)
holding_is w g (IsrSource x) = refl
holding_is w g (OisrSource x) = refl

-- where an interrupt is held, an arrival leaves the world's gates as they are
pub held_stays : (w : World) (g : Window) (x : Source) → held_at g x ≡ true
    → with_window w g ≡ with_window w (taking (Some x) g)
held_stays w g (IsrSource x) held =
    ap (λ (flags : List Bool). with_window w (record g { isrs_held = flags }))
    (sym (set-get_or g.isrs_held x.0 false) ∙ ap (set g.isrs_held x.0) held)
held_stays w g (OisrSource x) held =
    ap (λ (flags : List Bool). with_window w (record g { oisrs_held = flags }))
    (sym (set-get_or g.oisrs_held x.0 false) ∙ ap (set g.oisrs_held x.0) held)

-- an acceptance clears the flag of the interrupt and that of a time-triggered source
pub accepting_is : (w : World) (g : Window) (x : Source)
    → disabling (holding (with_window w g) x false) x ≡ with_window w (accepting (Some x) g)
accepting_is w g (IsrSource x) = refl
accepting_is w g (OisrSource x) = refl
