-- Bytes that are given piece by piece.
use Rattle.std.proofs.Common.{◌≡◌, ◌+◌, ◌-◌, ◌≤◌, ℕ, List, [], ◌∷◌, ◌++◌, Option, Some, map, length, take, sym, ap, ◌∙◌, refl, subst, append_assoc}
use Rattle.std.proofs.lemmas.List.{map-append}
use Rattle.std.proofs.lemmas.List.Elements.{filter_map-append}
use borrow.Rule.Slice.PartMut.{put_mid}
use Rattle.tt_io.specs.Gave.{bytes_in, Gives}
use Rattle.tt_io.proofs.Taking.{filled_more}

-- two pieces were given one after the other
pub gives_both : (a b c : List (Option ℕ)) (first second : List ℕ) → Gives a b first → Gives b c second
    → Gives a c (first ++ second)
gives_both a b c first second p q =
    q ∙ ap (λ l. l ++ map Some second) p ∙ append_assoc a (map Some first) (map Some second)
    ∙ ap (λ l. a ++ l) (sym (map-append Some first second))

-- what fills the part was given next
pub gives_more : (a b c : List (Option ℕ)) (buf part : List ℕ) (at n : ℕ) → at ≤ length buf → n ≤ length part
    → Gives a b (take at buf) → Gives b c (take n part)
    → Gives a c (take (at + n) (put_mid at (length buf - at) buf part))
gives_more a b c buf part at n within fits before next =
    subst (Gives a c) (sym (filled_more buf part at n within fits)) (gives_both a b c _ _ before next)

-- the bytes in a history of these bytes alone
bytes_of : (piece : List ℕ) → bytes_in (map Some piece) ≡ piece
bytes_of [] = refl
bytes_of (b ∷ piece) = ap (λ l. b ∷ l) (bytes_of piece)

-- a piece is added to the bytes in a history
pub bytes_after : (before after : List (Option ℕ)) (piece : List ℕ) → Gives before after piece
    → bytes_in after ≡ bytes_in before ++ piece
bytes_after before after piece given =
    ap bytes_in given ∙ filter_map-append (λ item. item) before (map Some piece)
    ∙ ap (λ l. bytes_in before ++ l) (bytes_of piece)
