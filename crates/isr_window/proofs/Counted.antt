-- The number of flags that are set.
use Rattle.std.proofs.Common.{ℕ, ◌≡◌, ◌<◌, ◌≤◌, ◌+◌, ◌*◌, Bool, true, false, List, length, get_or, take, set, replicate, sym, ap, ◌∙◌, cond, refl}
use mir.Val.{bool_byte}
use Rattle.std.specs.List.{count_by}
use Rattle.std.proofs.Math.Seq.{take-set-lt}
use Rattle.std.proofs.lemmas.List.{take-replicate, get_or-take, length-take-le}
use Rattle.std.proofs.lemmas.List.Sums.{sum_by-set}
use Rattle.std.proofs.lemmas.List.Folds.{sum_by-replicate}

-- how many flags are set
abbrev pub set_in : List Bool → ℕ
set_in flags = count_by (λ flag. flag) flags

byte_is : (flag : Bool) → bool_byte flag ≡ cond flag 1 0
byte_is true = refl
byte_is false = refl

-- flags of one value
pub set_in_new : (len most : ℕ) (value : Bool) → len ≤ most
    → len * bool_byte value ≡ set_in (take len (replicate most value))
set_in_new len most value few =
    ap (λ n. len * n) (byte_is value) ∙ sym
    (ap set_in (take-replicate len most value few) ∙ sum_by-replicate (λ flag. cond flag 1 0) len value)

-- a flag gets a value
pub set_in_put : (flags : List Bool) (len number : ℕ) (value : Bool) → number < len → len ≤ length flags
    → set_in (take len (set flags number value)) + bool_byte (get_or flags number false) ≡ set_in
    (take len flags) + bool_byte value
set_in_put flags len number value here few =
    let within : number < length (take len flags) = rw (length-take-le len flags few) here in
    let same : get_or (take len flags) number false ≡ get_or flags number false =
    get_or-take len flags number false here in
    ap (λ fs. set_in fs + bool_byte (get_or flags number false)) (take-set-lt len flags number value here)
    ∙ ap (λ n. set_in (set (take len flags) number value) + n) (byte_is (get_or flags number false))
    ∙ ap (λ flag. set_in (set (take len flags) number value) + cond flag 1 0) (sym same)
    ∙ sum_by-set (λ flag. cond flag 1 0) (take len flags) number value false within
    ∙ ap (λ n. set_in (take len flags) + n) (sym (byte_is value))
