-- The names of a document, as one list of kinds and names in the order of adding, and the number that each has
-- in its kind.
use Rattle.std.specs.Prelude.{ℕ, ◌==◌, Bool, List, length, map, filter, take, position, slice_get, Option, option_map, option_and_then, unwrap_or, []}
use Rattle.std.specs.Str.{bytes_eq}
use Rattle.tt_base.specs.declared.names.NameKind.{NameKind}
use Rattle.tt_base.specs.declared.names.NameKind.TheVariants as Kind
use Rattle.tt_base.specs.declared.names.Declared.{Declared}
use Rattle.tt_base.specs.declared.names.Declared.TheVariants as Which
use Rattle.tt_base.specs.declared.names.NameEntry.{NameEntry}

-- the place of a kind among the kinds
abbrev pub index_of : NameKind → ℕ
index_of Kind.Mode = 0
index_of Kind.Var = 1
index_of Kind.Demand = 2
index_of Kind.Task = 3
index_of Kind.Isr = 4
index_of Kind.Osek = 5
index_of Kind.Oisr = 6

-- whether two kinds are the same
abbrev pub is_same_kind : NameKind → NameKind → Bool
is_same_kind kind other = index_of kind == index_of other

-- the names of a kind, in the order of adding
abbrev pub names_of : NameKind → List NameEntry → List (List ℕ)
names_of kind names = map (λ entry. entry.name) (filter (λ entry. is_same_kind kind entry.kind) names)

-- how many of a kind there are
abbrev pub count_of : NameKind → List NameEntry → ℕ
count_of kind names = length (names_of kind names)

-- the thing of a kind that has a number
abbrev pub declared : NameKind → ℕ → Declared
declared Kind.Mode number = Which.Mode (record { 0 = number })
declared Kind.Var number = Which.Var (record { 0 = number })
declared Kind.Demand number = Which.Demand (record { 0 = number })
declared Kind.Task number = Which.Task (record { 0 = number })
declared Kind.Isr number = Which.Isr (record { 0 = number })
declared Kind.Osek number = Which.Osek (record { 0 = number })
declared Kind.Oisr number = Which.Oisr (record { 0 = number })

-- its kind
abbrev pub kind_of : Declared → NameKind
kind_of (Which.Mode number) = Kind.Mode
kind_of (Which.Var number) = Kind.Var
kind_of (Which.Demand number) = Kind.Demand
kind_of (Which.Task number) = Kind.Task
kind_of (Which.Isr number) = Kind.Isr
kind_of (Which.Osek number) = Kind.Osek
kind_of (Which.Oisr number) = Kind.Oisr

-- its number
abbrev pub number_of : Declared → ℕ
number_of (Which.Mode number) = number.0
number_of (Which.Var number) = number.0
number_of (Which.Demand number) = number.0
number_of (Which.Task number) = number.0
number_of (Which.Isr number) = number.0
number_of (Which.Osek number) = number.0
number_of (Which.Oisr number) = number.0

-- the place of the first name that equals this one
abbrev pub place_of : List ℕ → List NameEntry → Option ℕ
place_of name names = position (λ entry. bytes_eq entry.name name) names

-- the thing that the name at a place declares: its number is the count of earlier names of its kind
abbrev pub declared_at : List NameEntry → ℕ → Option Declared
declared_at names place =
    option_map (λ entry. declared entry.kind (count_of entry.kind (take place names))) (slice_get names place)

-- the thing that a name declares: the first name that equals it counts
unfoldable pub find_name : List NameEntry → List ℕ → Option Declared
find_name names name = option_and_then (declared_at names) (place_of name names)

-- the name of a thing, None where its kind has no such number
unfoldable pub get_name : List NameEntry → Declared → Option (List ℕ)
get_name names which = slice_get (names_of (kind_of which) names) (number_of which)

-- the text of a thing's name, [] where it has none
unfoldable pub name_of : List NameEntry → Declared → List ℕ
name_of names which = unwrap_or (get_name names which) []
