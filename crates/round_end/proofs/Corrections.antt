-- The correction of a round, as the code computes it.
use Rattle.std.proofs.Common.{ℕ, ◌≡◌, ◌<◌, ◌≤◌, ◌+◌, ◌-◌, ◌*◌, ◌%◌, ap, sym, ◌∙◌, arith, w64, pos, ◌-ℤ◌, to_z, of_z}
use Rattle.std.specs.Prelude.{min, neg_ℤ, if◌then◌else◌}
use Rattle.std.proofs.Math.Nat.{mod-add-mod}
use Rattle.std.proofs.lemmas.Bool.{le-leb, lt-leb}
use Rattle.std.proofs.lemmas.Int.{ints}
use Rattle.tt_world.specs.Correction.{ahead, correction_by, correction_of}

-- how far the global time is ahead, where the global time is first taken modulo the round
ahead_is : (round offset global a : ℕ) → a ≡ (global % round + (round - offset % round)) % round
    → a ≡ ahead round offset global
ahead_is round offset global a e = e ∙ mod-add-mod global round (round - offset % round)

-- where twice the way ahead is at most a round, the round gets shorter
pub shorter : (round adjust offset global a m : ℕ) → adjust ≤ 10000000
    → a ≡ (global % round + (round - offset % round)) % round → 2 * a ≤ round → m ≡ min a adjust
    → to_z w64 (of_z w64 (pos 0 -ℤ to_z w64 m)) ≡ correction_of round adjust offset global
shorter round adjust offset global a m few a_is here m_is =
    let small : m ≤ 10000000 = omega arith in
    let negative : to_z w64 (of_z w64 (pos 0 -ℤ to_z w64 m)) ≡ neg_ℤ (pos m) = omega (arith, ints) in
    negative
    ∙ ap (λ n. neg_ℤ (pos n)) m_is
    ∙ sym (ap (λ b. if b then neg_ℤ (pos (min a adjust)) else pos (min (round - a) adjust)) (le-leb (2 * a) round here))
    ∙ ap (correction_by round adjust) (ahead_is round offset global a a_is)

-- else it gets longer
pub longer : (round adjust offset global a m : ℕ) → adjust ≤ 10000000
    → a ≡ (global % round + (round - offset % round)) % round → round < 2 * a → m ≡ min (round - a) adjust
    → to_z w64 m ≡ correction_of round adjust offset global
longer round adjust offset global a m few a_is far m_is =
    let small : m ≤ 10000000 = omega arith in
    let positive : to_z w64 m ≡ pos m = omega (arith, ints) in
    positive
    ∙ ap pos m_is
    ∙ sym (ap (λ b. if b then neg_ℤ (pos (min a adjust)) else pos (min (round - a) adjust)) (lt-leb (2 * a) round far))
    ∙ ap (correction_by round adjust) (ahead_is round offset global a a_is)
