-- There are as many names of each kind as parts of that kind, and the numbers of owners differ.
use Rattle.std.proofs.Common.{◌≡◌, ℕ, zero, suc, ◌+◌, ◌<◌, ◌≤◌, Bool, false, List, [], ◌∷◌, ◌++◌, length, get_or, map, Option, Some, None, refl, ap, sym, subst, ◌∙◌, arith, true, not}
use Rattle.std.specs.Prelude.{flat_map, ◌==◌}
use Rattle.std.specs.List.{range_with_len, AllByRecursion as Each, list_any}
use Rattle.std.proofs.lemmas.List.{map-id, map-append}
use Rattle.std.proofs.lemmas.List.FromFn.{get_or-map-range_with_len, length-map-range_with_len, map-range_with_len_more}
use Rattle.task_lang.specs.declared.demand.Demand.{Demand}
use Rattle.tt_base.specs.declared.names.NameKind.{NameKind}
use Rattle.tt_base.specs.declared.names.NameKind.TheVariants as Kind
use Rattle.tt_base.specs.declared.names.NameEntry.{NameEntry}
use Rattle.tt_base.specs.Names.{count_of, is_same_kind}
use Rattle.tt_world.specs.ConfigRules.{AreAllNamed, AreFew, are_distinct}
use Rattle.tt_rows.specs.declared.row.Row.{Row}
use Rattle.tt_rows.specs.declared.row.Row.TheVariants as r
use Rattle.tt_rows.specs.declared.row.NumberedRow.{NumberedRow}
use Rattle.tt_parts.specs.declared.located.At.{At}
use Rattle.tt_parts.specs.declared.bodies.BodyPart.{BodyPart}
use Rattle.tt_parts.specs.Located.{at_then, each_at, parts}
use Rattle.tt_parts.specs.Bodies.{Branches, owner_in, body_of, bodies_of, branches_from}
use Rattle.tt_parts.specs.Entries.{var_in, demand_in}
use Rattle.tt_parts.specs.Names.{declared_in, names_in}
use Rattle.tt_parts.specs.Parts.{declarations_of}
use Rattle.tt_rules.specs.Laws.{AreDeclarationsSound}
use Rattle.tt_rules.specs.Order.{below}
use Rattle.tt_rules.specs.Tables.{mode_with}
use Rattle.tt_config.specs.Owners.{task_in, isr_in, osek_in, oisr_in, isr_by, osek_by, oisr_by}
use Rattle.tt_config.specs.Document.{elaborated_of}
use Rattle.tt_config.specs.Parts.{config_with}
use Rattle.tt_config.proofs.Known.{more, count-cons}
use Rattle.std.proofs.lemmas.Bool.{and_from}
use Rattle.std.proofs.lemmas.Bool.Decides.{nat_tests}
use Rattle.task_lang.specs.declared.syntax.Stmt.{Stmt}
use Rattle.tt_world.specs.declared.config.IsrDef.{IsrDef}
use Rattle.tt_world.specs.declared.config.OsekDef.{OsekDef}
use Rattle.tt_world.specs.declared.config.OisrDef.{OisrDef}
use Rattle.tt_parts.specs.declared.bodies.Owner.{Owner}
use Rattle.tt_parts.specs.declared.bodies.Owner.TheVariants as owner
use Rattle.tt_rules.specs.DeclarationRules.{level_of, lines_same, oisr_priority_of, osek_priority_of, same_number}
use Rattle.tt_rules.specs.Shapes.{Differ, same_by, same_keys}
use Rattle.tt_rules.proofs.Each.{Pairs, none_from_each, pairs_flat_map}
use Rattle.tt_rules.proofs.Kept.{kept_one}
use Rattle.tt_rules.proofs.Pairs.{pairs_differ}

-- the numbers below n, from 0 on
pub below_is : (n : ℕ) → below n ≡ range_with_len 0 n
below_is zero = refl
below_is (suc n) = ap (λ ks. ks ++ n ∷ []) (below_is n ∙ sym (map-id (range_with_len 0 n)))
    ∙ sym (map-range_with_len_more (λ k. k) 0 n n (omega arith))
    ∙ map-id (range_with_len 0 (n + 1)) ∙ ap (range_with_len 0) {y = suc n} (omega arith)

pub length-each : {X : Type 0} (f : ℕ → X) (n : ℕ) → length (map f (below n)) ≡ n
length-each f n = ap (λ ks. length (map f ks)) (below_is n) ∙ length-map-range_with_len f 0 n

-- what belongs to each number below n, read at one number
pub get_or-each : {X : Type 0} (f : ℕ → X) (n k : ℕ) (d : X) → k < n → get_or (map f (below n)) k d ≡ f k
get_or-each f n k d lt =
    ap (λ ks. get_or (map f ks) k d) (below_is n) ∙ get_or-map-range_with_len f 0 n k k d lt (omega arith)

-- a row declares a name of a kind
abbrev is_kind : NameKind → Option NameEntry → Bool
is_kind kind None = false
is_kind kind (Some entry) = is_same_kind kind entry.kind

count-then : (kind : NameKind) (line : ℕ) (o : Option NameEntry) (rest : List (At NameEntry))
    → count_of kind (parts (at_then line o rest)) ≡ more (is_kind kind o) (count_of kind (parts rest))
count-then kind line None rest = refl
count-then kind line (Some entry) rest = count-cons kind entry (parts rest)

module _ (kind : NameKind) {A : Type 0} where
  -- a row gives a part where it declares a name of the kind
  abbrev AddsPart : (Row → Option A) → Row → Type 0
  AddsPart part_of row = (line : ℕ) (rest : List (At A))
      → length (parts (at_then line (part_of row) rest)) ≡ more (is_kind kind (declared_in row)) (length (parts rest))

  count_parts : (part_of : Row → Option A) → ((row : Row) → AddsPart part_of row) → (rows : List NumberedRow)
      → count_of kind (names_in rows) ≡ length (parts (each_at part_of rows))
  count_parts part_of adds [] = refl
  count_parts part_of adds (row ∷ rows) =
      count-then kind row.line (declared_in row.row) (each_at declared_in rows)
      ∙ ap (more (is_kind kind (declared_in row.row))) (count_parts part_of adds rows)
      ∙ sym (adds row.row row.line (each_at part_of rows))

  -- a row gives an owner of a body where it declares a name of the kind
  abbrev AddsOwner : (BodyPart → List A) → Row → Type 0
  AddsOwner part_in row = (line : ℕ) (inside : List Branches) (rest : List (At BodyPart))
      → length (flat_map part_in (parts (at_then line (body_of (owner_in row) inside) rest)))
      ≡ more (is_kind kind (declared_in row)) (length (flat_map part_in (parts rest)))

  count_owners : (part_in : BodyPart → List A) → ((row : Row) → AddsOwner part_in row) → (names : List NameEntry)
      (rows : List NumberedRow) → count_of kind (names_in rows) ≡ length (flat_map part_in (parts (bodies_of names rows)))
  count_owners part_in adds names [] = refl
  count_owners part_in adds names (row ∷ rows) =
      count-then kind row.line (declared_in row.row) (each_at declared_in rows)
      ∙ ap (more (is_kind kind (declared_in row.row))) (count_owners part_in adds names rows)
      ∙ sym (adds row.row row.line (branches_from names rows) (bodies_of names rows))

-- ---- each kind

var_adds : (row : Row) → AddsPart Kind.Var var_in row
var_adds (r.Var name value) line rest = refl
var_adds row line rest = refl

demand_adds : (row : Row) → AddsPart Kind.Demand demand_in row
demand_adds (r.Demand name most usual) line rest = refl
demand_adds row line rest = refl

module _ (demands : List Demand) where
  task_adds : (row : Row) → AddsOwner Kind.Task (task_in demands) row
  task_adds (r.Task name stack) line inside rest = refl
  task_adds row line inside rest = refl

  isr_adds : (row : Row) → AddsOwner Kind.Isr (isr_in demands) row
  isr_adds (r.Isr name level stack) line inside rest = refl
  isr_adds row line inside rest = refl

  osek_adds : (row : Row) → AddsOwner Kind.Osek (osek_in demands) row
  osek_adds (r.Osek name priority) line inside rest = refl
  osek_adds row line inside rest = refl

  oisr_adds : (row : Row) → AddsOwner Kind.Oisr (oisr_in demands) row
  oisr_adds (r.Oisr name priority) line inside rest = refl
  oisr_adds row line inside rest = refl

-- there are as many names of each kind as things of that kind
pub named : (rows : List NumberedRow) → AreAllNamed (config_with (elaborated_of rows))
named rows =
    let names = names_in rows in
    let demands = parts (each_at demand_in rows) in
    record {
      modes = sym (length-each (mode_with (parts (elaborated_of rows).said.entries)) (count_of Kind.Mode names));
      vars = count_parts Kind.Var var_in var_adds rows;
      demands = count_parts Kind.Demand demand_in demand_adds rows;
      tasks = count_owners Kind.Task (task_in demands) (task_adds demands) names rows;
      isrs = count_owners Kind.Isr (isr_in demands) (isr_adds demands) names rows;
      oseks = count_owners Kind.Osek (osek_in demands) (osek_adds demands) names rows;
      oisrs = count_owners Kind.Oisr (oisr_in demands) (oisr_adds demands) names rows;
    }

pub few : (rows : List NumberedRow) → AreDeclarationsSound (declarations_of rows)
    → AreFew (config_with (elaborated_of rows))
few rows sound =
    let n = named rows in
    record {
      some_mode = subst (λ k. 1 ≤ k) n.modes sound.some_mode;
      modes = subst (λ k. k ≤ 16) n.modes (sound.few Kind.Mode);
      vars = subst (λ k. k ≤ 256) n.vars (sound.few Kind.Var);
      demands = subst (λ k. k ≤ 256) n.demands (sound.few Kind.Demand);
      tasks = subst (λ k. k ≤ 64) n.tasks (sound.few Kind.Task);
      isrs = subst (λ k. k ≤ 16) n.isrs (sound.few Kind.Isr);
      oseks = subst (λ k. k ≤ 32) n.oseks (sound.few Kind.Osek);
      oisrs = subst (λ k. k ≤ 16) n.oisrs (sound.few Kind.Oisr);
    }

-- ---- numbers

-- a number, if there is one, as a list
abbrev told : Option ℕ → List ℕ
told None = []
told (Some n) = n ∷ []

-- each two numbers differ
abbrev Apart : ℕ → ℕ → Type 0
Apart a b = (b == a) ≡ false

distinct : (ns : List ℕ) → Pairs Apart ns → are_distinct ns ≡ true
distinct [] h = refl
distinct (n ∷ ns) h = and_from (not (list_any (λ other. other == n) ns)) _
    (ap not (none_from_each (λ other. other == n) ns h.0)) (distinct ns h.1)

told_apart : (o p : Option ℕ) → same_keys same_number o p ≡ false → Each (λ a. Each (Apart a) (told p)) (told o)
told_apart None p is = tt
told_apart (Some a) None is = (tt, tt)
told_apart (Some a) (Some b) is = ((grind (arith, nat_tests), tt), tt)

told_alone : (o : Option ℕ) → Pairs Apart (told o)
told_alone None = tt
told_alone (Some n) = (tt, tt)

module _ (number_of : Owner → Option ℕ) {A : Type 0} (field : A → ℕ) (part_in : BodyPart → List A)
    (same : (b : BodyPart) → map field (part_in b) ≡ told (number_of b.owner)) where
  abbrev number : BodyPart → Option ℕ
  number b = number_of b.owner

  fields : (bodies : List BodyPart) → map field (flat_map part_in bodies) ≡ flat_map (λ b. told (number b)) bodies
  fields [] = refl
  fields (b ∷ bodies) = map-append field (part_in b) (flat_map part_in bodies)
      ∙ (λ i. same b i ++ fields bodies i)

  -- where no owner has the number of one above, the fields that are these numbers differ
  pub fields_distinct : (bodies : List (At BodyPart)) → lines_same number_of bodies ≡ []
      → are_distinct (map field (flat_map part_in (parts bodies))) ≡ true
  fields_distinct bodies is =
      let differ = same_by same_number number in
      ap are_distinct (fields (parts bodies))
      ∙ distinct (flat_map (λ b. told (number b)) (parts bodies))
      (pairs_flat_map (λ b. told (number b)) (λ a b. differ a b ≡ false) Apart
      (λ a b. told_apart (number a) (number b)) (λ b. told_alone (number b)) (parts bodies)
      (pairs_differ differ (parts bodies) (kept_one 1 (Differ differ) bodies is)))

module _ (demands : List Demand) (body : List Stmt) where
  -- 10. The levels of interrupt service routines.
  pub level_told : (o : Owner) → map (λ (isr : IsrDef). isr.level) (isr_by demands body o) ≡ told (level_of o)
  level_told (owner.Isr level stack distance) = refl
  level_told other = refl

  -- 11. The priorities of OSEK tasks.
  pub osek_told : (o : Owner)
      → map (λ (task : OsekDef). task.priority) (osek_by demands body o) ≡ told (osek_priority_of o)
  osek_told (owner.Osek priority auto) = refl
  osek_told other = refl

  -- 12. The priorities of OSEK interrupt service routines.
  pub oisr_told : (o : Owner)
      → map (λ (oisr : OisrDef). oisr.priority) (oisr_by demands body o) ≡ told (oisr_priority_of o)
  oisr_told (owner.Oisr priority) = refl
  oisr_told other = refl
