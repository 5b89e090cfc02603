-- Bytes that are taken piece by piece.
use Rattle.std.proofs.Common.{◌≡◌, ◌+◌, ◌-◌, ◌≤◌, ℕ, List, ◌++◌, Option, length, take, drop, arith, sym, ap, ◌∙◌, subst, length-take-le, take-append-drop, take_at}
use Rattle.std.proofs.lemmas.List.{take_rest, drop-drop, take-append-le}
use Rattle.std.proofs.Math.Seq.{take-append-add}
use borrow.Rule.Slice.PartMut.{put_mid, post_of}
use Rattle.std.specs.Io.KnownBytes.{Consumes}
use Rattle.std.proofs.KnownBytes.{Consumes-trans}
use Rattle.tt_io.specs.Count.{counted}

-- a count goes on from its value
pub counted_more : (before n more : ℕ) → counted (counted before n) more ≡ counted before (n + more)
counted_more before n more = omega arith

-- the first part of a buffer was filled, and then a part after it
pub filled_more : (buf part : List ℕ) (at n : ℕ) → at ≤ length buf → n ≤ length part
    → take (at + n) (put_mid at (length buf - at) buf part) ≡ take at buf ++ take n part
filled_more buf part at n within fits =
    let front = take at buf in
    let after = post_of at (length buf - at) buf in
    ap (λ k. take (k + n) (front ++ (part ++ after))) (sym (length-take-le at buf within))
    ∙ take-append-add front (part ++ after) n ∙ ap (λ l. front ++ l) (take-append-le n part after fits)

-- what fills the part was taken next
pub taken_more : (a b c : Option (List ℕ)) (buf part : List ℕ) (at n : ℕ) → at ≤ length buf → n ≤ length part
    → Consumes a b (take at buf) → Consumes b c (take n part)
    → Consumes a c (take (at + n) (put_mid at (length buf - at) buf part))
taken_more a b c buf part at n within fits before next =
    subst (Consumes a c) (sym (filled_more buf part at n within fits)) (Consumes-trans a b c _ _ before next)

-- what was copied to the front of a buffer comes before what is left
pub given_front : (items seen copied buf : List ℕ) (at n : ℕ) → seen ≡ items → length copied ≡ n
    → copied ≡ take n (take (length seen - at) (drop at seen))
    → drop at items ≡ take n (copied ++ drop n buf) ++ drop (at + n) items
given_front items seen copied buf at n same long read =
    let piece : copied ≡ take n (drop at items) = read ∙ ap (take n) (take_rest seen at)
    ∙ ap (λ l. take n (drop at l)) same in
    sym (take-append-drop n (drop at items))
    ∙ ap (λ l. l ++ drop n (drop at items)) (sym (take_at copied (drop n buf) n long ∙ piece))
    ∙ ap (λ l. take n (copied ++ drop n buf) ++ l) (drop-drop n at items)
