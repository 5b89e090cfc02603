-- How the names of a document are kept for fast answers.
use Rattle.std.specs.Prelude.{◌≡◌, ℕ, List, [], length, map, slice_get, slice_index_or, if◌then◌else◌}
use Rattle.std.specs.Prelude.{Option, Some, unwrap_or, option_map}
use Rattle.std.specs.Str.{bytes_eq}
use Rattle.std.specs.HashMap.{HashMap, get}
use Rattle.std.specs.declared.hash.FoldHasher.{FoldHasher}
use Rattle.std.specs.declared.hash.BuildHasherDefault.{BuildHasherDefault}
use Rattle.tt_base.specs.declared.names.NameKind.{NameKind}
use Rattle.tt_base.specs.declared.names.Declared.{Declared}
use Rattle.tt_base.specs.declared.names.NameEntry.{NameEntry}
use Rattle.tt_base.specs.Names.{index_of, names_of, find_name}

-- what each name declares, as a map
abbrev pub Index : Type 0
Index = HashMap (List ℕ) Declared (BuildHasherDefault FoldHasher)

-- a name that declared nothing declares this thing afterwards; every other name declares what it did before
abbrev pub KeepsFirst : Index → Index → List ℕ → Declared → Type 0
KeepsFirst old new name which = (other : List ℕ) → get bytes_eq new other
    ≡ (if bytes_eq name other then Some (unwrap_or (get bytes_eq old name) which) else get bytes_eq old other)

-- the name at a place of the list
abbrev pub name_at : List NameEntry → ℕ → Option (List ℕ)
name_at names place = option_map (λ entry. entry.name) (slice_get names place)

-- each kind has a list of the places of its names, and the map has what each name declares
pub record IsIndexed (names : List NameEntry) (places : List (List ℕ)) (index : Index) : Type 0 where
  pub kinds : length places ≡ 7
  pub by_kind : (kind : NameKind)
      → map (name_at names) (slice_index_or places (index_of kind) []) ≡ map Some (names_of kind names)
  pub found : (name : List ℕ) → get bytes_eq index name ≡ find_name names name
