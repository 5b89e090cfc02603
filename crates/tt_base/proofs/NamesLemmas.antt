-- How the names of a document grow by one.
use Rattle.std.proofs.Common.{◌≡◌, ℕ, zero, suc, ◌<◌, true, false, List, [], ◌∷◌, ◌++◌, length, Some, arith, refl}
use Rattle.std.specs.Prelude.{slice_get}
use Rattle.std.proofs.lemmas.Grind.{common_steps}
use Rattle.std.proofs.lemmas.List.{map-append, append-nil}
use Rattle.std.proofs.lemmas.List.Elements.{filter-append}
use Rattle.tt_base.specs.Names.{is_same_kind, names_of}
use Rattle.tt_base.specs.declared.names.NameKind.{NameKind}
use Rattle.tt_base.specs.declared.names.NameEntry.{NameEntry}

-- one more name of the kind
pub names_of-push_same : (kind : NameKind) (names : List NameEntry) (entry : NameEntry)
    → is_same_kind kind entry.kind ≡ true
    → names_of kind (names ++ entry ∷ []) ≡ names_of kind names ++ entry.name ∷ []
names_of-push_same kind names entry same = grind (arith, common_steps, filter-append, map-append)

-- one more name of another kind
pub names_of-push_other : (kind : NameKind) (names : List NameEntry) (entry : NameEntry)
    → is_same_kind kind entry.kind ≡ false
    → names_of kind (names ++ entry ∷ []) ≡ names_of kind names
names_of-push_other kind names entry other = grind (arith, common_steps, filter-append, map-append, append-nil)

-- an item of a list is an item of a longer one
pub slice_get-append_left : {X : Type 0} (xs ys : List X) (i : ℕ) → i < length xs
    → slice_get (xs ++ ys) i ≡ slice_get xs i
slice_get-append_left [] ys i lt = absurd (omega arith)
slice_get-append_left (x ∷ xs) ys zero lt = refl
slice_get-append_left (x ∷ xs) ys (suc i) lt = slice_get-append_left xs ys i (omega arith)

-- the item that was appended
pub slice_get-push : {X : Type 0} (xs : List X) (x : X) → slice_get (xs ++ x ∷ []) (length xs) ≡ Some x
slice_get-push [] x = refl
slice_get-push (y ∷ xs) x = slice_get-push xs x
