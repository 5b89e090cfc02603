-- The first bytes of a piece that is copied as a whole, after which the next piece is written over the others.
use Rattle.std.proofs.Common.{◌≡◌, ◌+◌, ◌≤◌, ℕ, List, ◌++◌, length, take, sym, ap, ◌∙◌, length-take-le}
use Rattle.std.proofs.lemmas.List.{take-append-le}
use Rattle.std.proofs.Math.Seq.{take-append-add}
use borrow.Rule.Slice.PartMut.{put_mid, post_of}

-- what waited, and then the first n bytes of a piece that was copied after it
pub front_copied : (buf piece old text : List ℕ) (at len n : ℕ) → at ≤ length buf → n ≤ length piece
    → take at buf ≡ old → piece ≡ text → take (at + n) (put_mid at len buf piece) ≡ old ++ take n text
front_copied buf piece old text at len n within fits waited same =
    let front = take at buf in
    let after = post_of at len buf in
    ap (λ k. take (k + n) (front ++ (piece ++ after))) (sym (length-take-le at buf within))
    ∙ take-append-add front (piece ++ after) n ∙ ap (λ l. front ++ l) (take-append-le n piece after fits)
    ∙ ap (λ l. l ++ take n piece) waited ∙ ap (λ p. old ++ take n p) same
