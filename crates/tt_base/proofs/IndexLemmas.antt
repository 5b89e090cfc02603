-- How the places and the map of the names follow the names.
use Rattle.std.proofs.Common.{◌≡◌, ℕ, zero, suc, ◌<◌, Bool, true, false, List, [], ◌∷◌, ◌++◌, length, map, set, get_or}
use Rattle.std.proofs.Common.{Option, Some, None, Vec, Global, vec_len, arith, ap, sym, ◌∙◌, refl, ⊎_elim, if◌then◌else◌}
use Rattle.std.specs.Prelude.{slice_get, option_and_then, unwrap_or}
use Rattle.std.specs.Str.{bytes_eq}
use Rattle.std.specs.HashMap.{get, Updates}
use Rattle.std.proofs.lemmas.Grind.{common_steps}
use Rattle.std.proofs.lemmas.List.{length-map, length-set, map-append, map-set, get_or-map, get_or-set_same, get_or-set_other}
use Rattle.std.proofs.Math.Seq.{map-set_same}
use Rattle.std.proofs.lemmas.Bool.{cases_eq}
use Rattle.std.proofs.lemmas.Bool.Decides.{nat_tests}
use Rattle.std.proofs.lemmas.Option.{slice_get_within}
use Rattle.tt_base.specs.NameIndex.{Index, IsIndexed, KeepsFirst, name_at}
use Rattle.tt_base.specs.Names.{index_of, is_same_kind, names_of, count_of, declared, find_name}
use Rattle.tt_base.specs.declared.names.NameKind.{NameKind}
use Rattle.tt_base.specs.declared.names.NameEntry.{NameEntry}
use Rattle.tt_base.specs.declared.names.Declared.{Declared}
use Rattle.tt_base.specs.declared.names.NameKind.TheVariants as Kind
use Rattle.tt_base.proofs.NamesLemmas.{names_of-push_same, names_of-push_other, slice_get-append_left, slice_get-push}
use Rattle.tt_base.proofs.FindLemmas.{same_bytes, find_name-nil, declared_last, find_name-push_known, find_name-push_unknown}

-- the name at the place that has this number in a list of places
pub name_of_number : (names : List NameEntry) (places : List ℕ) (kept : List (List ℕ)) (number : ℕ)
    → map (name_at names) places ≡ map Some kept
    → option_and_then (name_at names) (slice_get places number) ≡ slice_get kept number
name_of_number names [] [] number is = refl
name_of_number names [] (name ∷ kept) number is = cc
name_of_number names (place ∷ places) [] number is = cc
name_of_number names (place ∷ places) (name ∷ kept) zero is = cc
name_of_number names (place ∷ places) (name ∷ kept) (suc number) is = name_of_number names places kept number (cc)

name_at-push : (names : List NameEntry) (entry : NameEntry) (place : ℕ) (name : List ℕ)
    → name_at names place ≡ Some name
    → name_at (names ++ entry ∷ []) place ≡ Some name
name_at-push names entry place name is = by_entry (slice_get names place) refl where
  by_entry : (found : Option NameEntry) → slice_get names place ≡ found
      → name_at (names ++ entry ∷ []) place ≡ Some name
  by_entry None none = cc
  by_entry (Some other) some =
      let kept = slice_get-append_left names (entry ∷ []) place (slice_get_within names place other some) in cc

-- the names at these places stay the same when a name is added
names_at-push : (names : List NameEntry) (entry : NameEntry) (places : List ℕ) (kept : List (List ℕ))
    → map (name_at names) places ≡ map Some kept → map (name_at (names ++ entry ∷ [])) places ≡ map Some kept
names_at-push names entry [] kept is = is
names_at-push names entry (place ∷ places) [] is = cc
names_at-push names entry (place ∷ places) (name ∷ kept) is =
    let first = name_at-push names entry place name (cc) in
    let rest = names_at-push names entry places kept (cc) in cc

-- with one more place, that of the last name, they are these names and the last one
names_at-last : (names : List NameEntry) (entry : NameEntry) (places : List ℕ) (kept : List (List ℕ))
    → map (name_at names) places ≡ map Some kept
    → map (name_at (names ++ entry ∷ [])) (places ++ length names ∷ []) ≡ map Some (kept ++ entry.name ∷ [])
names_at-last names entry places kept is =
    let last = slice_get-push names entry in
    let before = names_at-push names entry places kept is in
    let left = map-append (name_at (names ++ entry ∷ [])) places (length names ∷ []) in
    let right = map-append {B = Option (List ℕ)} Some kept (entry.name ∷ []) in cc

abbrev Lists : Type 0
Lists = List (Vec ℕ Global)

-- the places of each kind
abbrev pub places_of : Lists → List (List ℕ)
places_of lists = map (λ list. list.items) lists

few_kinds : (kind : NameKind) → index_of kind < 7
few_kinds Kind.Mode = omega arith
few_kinds Kind.Var = omega arith
few_kinds Kind.Demand = omega arith
few_kinds Kind.Task = omega arith
few_kinds Kind.Isr = omega arith
few_kinds Kind.Osek = omega arith
few_kinds Kind.Oisr = omega arith

-- the list of a kind has the places of its names
pub list_of_kind : (names : List NameEntry) (lists : Lists) (index : Index) → IsIndexed names (places_of lists) index
    → (kind : NameKind) (i : ℕ) (d : Vec ℕ Global) → i ≡ index_of kind
    → map (name_at names) (get_or lists i d).items ≡ map Some (names_of kind names)
list_of_kind names lists index indexed kind i d is =
    let few : i < length lists = omega (arith, few_kinds kind, indexed.kinds, length-map lists (λ list. list.items)) in
    ap (map (name_at names)) (sym (get_or-map (λ list. list.items) lists i d [] few)
    ∙ ap (λ k. get_or (places_of lists) k []) is)
    ∙ indexed.by_kind kind

-- how many it has
pub len_of_kind : (names : List NameEntry) (lists : Lists) (index : Index) → IsIndexed names (places_of lists) index
    → (kind : NameKind) (i : ℕ) (d : Vec ℕ Global) → i ≡ index_of kind
    → vec_len (get_or lists i d) ≡ count_of kind names
len_of_kind names lists index indexed kind i d is =
    (get_or lists i d).ok.0 ∙ sym (length-map (get_or lists i d).items (name_at names))
    ∙ ap length (list_of_kind names lists index indexed kind i d is) ∙ length-map (names_of kind names) Some

-- no names
pub IsIndexed-new : (names : List NameEntry) (places : List (List ℕ)) (index : Index) → names ≡ []
    → places ≡ [] ∷ [] ∷ [] ∷ [] ∷ [] ∷ [] ∷ [] ∷ [] → index.entries ≡ [] → IsIndexed names places index
IsIndexed-new names places index none empty fresh = record {
  kinds = ap length empty;
  by_kind = λ kind. rw (empty, none) (all_empty kind);
  found = λ name. rw (fresh, none) (sym (find_name-nil name));
} where
  all_empty : (kind : NameKind)
      → map (name_at []) (get_or ([] ∷ [] ∷ [] ∷ [] ∷ [] ∷ [] ∷ [] ∷ []) (index_of kind) []) ≡ []
  all_empty Kind.Mode = refl
  all_empty Kind.Var = refl
  all_empty Kind.Demand = refl
  all_empty Kind.Task = refl
  all_empty Kind.Isr = refl
  all_empty Kind.Osek = refl
  all_empty Kind.Oisr = refl

-- a list is replaced by one with the same places
pub places_of-set_same : (lists : Lists) (i : ℕ) (list d : Vec ℕ Global) → list.items ≡ (get_or lists i d).items
    → places_of (set lists i list) ≡ places_of lists
places_of-set_same lists i list d same = map-set_same (λ (l : Vec ℕ Global). l.items) lists i list d same

-- nothing that matters is changed
pub IsIndexed-same : (names names' : List NameEntry) (places places' : List (List ℕ)) (index index' : Index)
    → names' ≡ names → places' ≡ places → index'.entries ≡ index.entries
    → IsIndexed names places index → IsIndexed names' places' index'
IsIndexed-same names names' places places' index index' is same kept indexed = record {
  kinds = ap length same ∙ indexed.kinds;
  by_kind = λ kind. rw (is, same) (indexed.by_kind kind);
  found = λ name. rw (kept, is) (indexed.found name);
}

names_of-index : (kind other : NameKind) (names : List NameEntry) → index_of kind ≡ index_of other
    → names_of kind names ≡ names_of other names
names_of-index kind other names same = grind (arith, common_steps)

is_same_kind-apart : (kind other : NameKind) → (index_of other ≡ index_of kind → ⊥) → is_same_kind kind other ≡ false
is_same_kind-apart kind other apart = grind (arith, nat_tests)

is_same_kind-same : (kind other : NameKind) → index_of other ≡ index_of kind → is_same_kind kind other ≡ true
is_same_kind-same kind other same = grind (arith, nat_tests)

-- what a kind has after the list at a place is replaced
place_set : (lists : Lists) (i : ℕ) (list : Vec ℕ Global) (k : ℕ) → i < length lists
    → (k ≡ i → get_or (places_of (set lists i list)) k [] ≡ list.items)
    × ((k ≡ i → ⊥) → get_or (places_of (set lists i list)) k [] ≡ get_or (places_of lists) k [])
place_set lists i list k few =
    let few' : i < length (places_of lists) = omega (arith, length-map lists (λ list. list.items)) in
    let moved = ap (λ (ps : List (List ℕ)). get_or ps k []) (map-set (λ (l : Vec ℕ Global). l.items) lists i list) in (
      λ here. moved ∙ ap (λ n. get_or (set (places_of lists) i list.items) n []) here
          ∙ get_or-set_same (places_of lists) i list.items [] few',
      λ apart. moved ∙ get_or-set_other (places_of lists) i k list.items [] apart,
    )

-- one more name
pub IsIndexed-push : (names : List NameEntry) (lists : Lists) (index new : Index) (entry : NameEntry)
    → IsIndexed names (places_of lists) index → (i : ℕ) (list d : Vec ℕ Global) → i ≡ index_of entry.kind
    → (place : ℕ) → place ≡ length names → list.items ≡ (get_or lists i d).items ++ place ∷ []
    → ((name : List ℕ) → get bytes_eq new name ≡ find_name (names ++ entry ∷ []) name)
    → IsIndexed (names ++ entry ∷ []) (places_of (set lists i list)) new
IsIndexed-push names lists index new entry indexed i list d is place last more found =
    let few : i < length lists =
    omega (arith, few_kinds entry.kind, indexed.kinds, length-map lists (λ list. list.items)) in
    record {
      kinds = length-map (set lists i list) (λ list. list.items) ∙ length-set lists i list
          ∙ sym (length-map lists (λ list. list.items)) ∙ indexed.kinds;
      by_kind = λ kind. ⊎_elim
          (λ here. let same : index_of entry.kind ≡ index_of kind = sym is ∙ sym here in
          ap (map (name_at (names ++ entry ∷ []))) ((place_set lists i list (index_of kind) few).0 here ∙ more
          ∙ ap (λ n. (get_or lists i d).items ++ n ∷ []) last)
          ∙ names_at-last names entry (get_or lists i d).items (names_of entry.kind names)
          (list_of_kind names lists index indexed entry.kind i d is)
          ∙ ap (λ ns. map Some (ns ++ entry.name ∷ [])) (names_of-index entry.kind kind names same)
          ∙ ap (map Some) (sym (names_of-push_same kind names entry (is_same_kind-same kind entry.kind same))))
          (λ apart. ap (map (name_at (names ++ entry ∷ []))) ((place_set lists i list (index_of kind) few).1 apart)
          ∙ names_at-push names entry (get_or (places_of lists) (index_of kind) []) (names_of kind names)
          (indexed.by_kind kind)
          ∙ ap (map Some) (sym (names_of-push_other kind names entry
          (is_same_kind-apart kind entry.kind (λ e. apart (sym e ∙ sym is))))))
          (cases_eq (index_of kind) i);
      found = found;
    }

-- the map follows one more name
pub found-push : (names : List NameEntry) (places : List (List ℕ)) (index new : Index) (entry : NameEntry)
    → IsIndexed names places index → (which : Declared) → which ≡ declared entry.kind (count_of entry.kind names)
    → KeepsFirst index new entry.name which
    → (name : List ℕ) → get bytes_eq new name ≡ find_name (names ++ entry ∷ []) name
found-push names places index new entry indexed which is keeps name =
    keeps name ∙ rw (indexed.found entry.name, indexed.found name)
    (by_name (bytes_eq entry.name name) refl (find_name names name) refl) where
      first : Option Declared → Option Declared
      first found = Some (unwrap_or found which)

      by_name : (same : Bool) → bytes_eq entry.name name ≡ same
          → (found : Option Declared) → find_name names name ≡ found
          → (if same then first (find_name names entry.name) else find_name names name)
          ≡ find_name (names ++ entry ∷ []) name
      by_name true same (Some other) known =
          ap first (ap (find_name names) (same_bytes entry.name name same) ∙ known)
          ∙ sym (find_name-push_known names entry name other known)
      by_name true same None unknown =
          ap first (ap (find_name names) (same_bytes entry.name name same) ∙ unknown) ∙ ap Some is
          ∙ sym (find_name-push_unknown names entry name unknown ∙ ap (declared_last names entry) same)
      by_name false apart (Some other) known = known ∙ sym (find_name-push_known names entry name other known)
      by_name false apart None unknown =
          unknown ∙ sym (find_name-push_unknown names entry name unknown ∙ ap (declared_last names entry) apart)

-- where a name was not in the map and was put into it, KeepsFirst holds
pub KeepsFirst-new : (index new : Index) (name : List ℕ) (which : Declared) → get bytes_eq index name ≡ None
    → Updates bytes_eq index new name (Some which) → KeepsFirst index new name which
KeepsFirst-new index new name which absent updates = λ other. updates.0 other
    ∙ ap (λ o. if bytes_eq name other then Some (unwrap_or o which) else get bytes_eq index other) (sym absent)
