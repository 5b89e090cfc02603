-- The bodies of a configuration meet its rules.
use Rattle.std.proofs.Common.{◌≡◌, ◌^◌, ◌<◌, Bool, true, List, [], ◌∷◌, length, get_or, refl, arith, rules, subst}
use Rattle.std.specs.Prelude.{◌&&◌, nat_le, flat_map, IfSome}
use Rattle.std.specs.List.{AllByRecursion as Each}
use Rattle.std.proofs.lemmas.Bool.{and_parts, leb-true}
use Rattle.std.proofs.lemmas.Bool.Decides.{nat_tests}
use Rattle.std.proofs.lemmas.List.Elements.{All-from_recursion, recursion_from_All}
use Rattle.task_lang.specs.declared.allowed.OwnerKind.{OwnerKind}
use Rattle.task_lang.specs.declared.allowed.OwnerKind.TheVariants as kind
use Rattle.task_lang.specs.declared.demand.Demand.{Demand}
use Rattle.task_lang.specs.declared.syntax.Stmt.{Stmt}
use Rattle.task_lang.specs.Limits.{HasVariables, HasDemands, HasCallees, AreMostsInRange, AreUsualsInRange, each_in, is_expression_short, is_number_in_range, has_variables, has_demand, has_callee}
use Rattle.task_lang.specs.Worst.{worst_in}
use Rattle.tt_base.specs.declared.names.NameEntry.{NameEntry}
use Rattle.tt_base.specs.declared.names.NameKind.TheVariants as Kind
use Rattle.tt_base.specs.Names.{count_of}
use Rattle.tt_world.specs.declared.config.ConfigParts.{ConfigParts}
use Rattle.tt_world.specs.ConfigRules.{IsBody, IsRoutine, IsTask, IsIsr, IsOsek, IsOisr}
use Rattle.tt_rows.specs.declared.row.Row.{Row}
use Rattle.tt_rows.specs.declared.row.Row.TheVariants as r
use Rattle.tt_rows.specs.declared.row.NumberedRow.{NumberedRow}
use Rattle.tt_parts.specs.declared.located.At.{At}
use Rattle.tt_parts.specs.declared.bodies.Owner.{Owner}
use Rattle.tt_parts.specs.declared.bodies.Owner.TheVariants as owner
use Rattle.tt_parts.specs.declared.bodies.BodyPart.{BodyPart}
use Rattle.tt_parts.specs.Located.{each_at, parts}
use Rattle.tt_parts.specs.Bodies.{Branches, Head, bodies_of, body_of, head_of, owner_in}
use Rattle.tt_parts.specs.Entries.{demand_in}
use Rattle.tt_parts.specs.Names.{names_in}
use Rattle.tt_rules.specs.BodyRules.{AreTellable, IsTellable, has_statement, is_light}
use Rattle.tt_rules.specs.DeclarationRules.{has_numbers_in_range, lines_9}
use Rattle.tt_rules.specs.Laws.{kind_of}
use Rattle.tt_rules.specs.StructureRules.{lines_2, lines_3}
use Rattle.tt_rules.proofs.Each.{all_from_each, each_flat_map, each_map, each_weaker}
use Rattle.tt_rules.proofs.Kept.{EachRow, each_kept, each_row}
use Rattle.tt_rules.proofs.SoundBodies.{Passes, bodies_pass, bodies_sound, number_passes}
use Rattle.tt_config.specs.BodyRules.{BodiesAreSound, HasSoundBodies, KeepBodyRules}
use Rattle.tt_config.specs.Document.{elaborated_of}
use Rattle.tt_config.specs.Owners.{AreFit, IsInRange, task_by, isr_by, osek_by, oisr_by, error_hook_by, shutdown_hook_by, first_body}
use Rattle.tt_config.specs.Parts.{config_of, config_with}
use Rattle.tt_config.proofs.Counted.{named}
use Rattle.tt_config.proofs.Limits.{bodies_nested, bodies_counted}
use Rattle.tt_config.proofs.Rows.{IsRowFit, each_body, each_part, row_callee, row_demand, row_short, row_variables, rows_fit}

-- ---- demands

abbrev is_demand : Demand → Bool
is_demand d = nat_le d.most 10000000 && nat_le d.usual d.most

demand_fits : (row : Row) → has_numbers_in_range row ≡ true → IfSome (demand_in row) (λ d. is_demand d ≡ true)
demand_fits (r.Demand name most usual) fit = fit
demand_fits row fit = tt

-- ---- owners

owner_fits : (row : Row) (rest : List Branches) → has_numbers_in_range row ≡ true
    → IfSome (body_of (owner_in row) rest) (λ (b : BodyPart). IsInRange b.owner)
owner_fits (r.Task name stack) rest fit = grind (arith, nat_tests)
owner_fits (r.Isr name level stack) rest fit = grind (arith, nat_tests)
owner_fits (r.IsrFar name level stack distance) rest fit = grind (arith, nat_tests)
owner_fits (r.Osek name priority) rest fit = grind (arith, nat_tests)
owner_fits (r.OsekAuto name priority) rest fit = grind (arith, nat_tests)
owner_fits (r.Oisr name priority) rest fit = grind (arith, nat_tests)
owner_fits row rest fit = tt

-- ---- bodies whose worst case can be computed

module _ (rows : List NumberedRow) (short : length rows < 2 ^ 32) (is_2 : lines_2 rows ≡ [])
    (is_3 : lines_3 rows ≡ []) (is_9 : lines_9 rows ≡ []) where
  abbrev demands : List Demand
  demands = parts (each_at demand_in rows)

  in_range : EachRow (λ row. has_numbers_in_range row ≡ true) rows
  in_range = each_row has_numbers_in_range rows is_9

  each_demand : Each (λ d. is_demand d ≡ true) demands
  each_demand = each_part _ (λ row. has_numbers_in_range row ≡ true) demand_in demand_fits rows in_range

  -- 9. The numbers of demands are in range.
  pub mosts_in_range : AreMostsInRange demands
  mosts_in_range = all_from_each (λ (d : Demand). nat_le d.most 10000000) demands
      (each_weaker _ _ (λ d h. (and_parts (nat_le d.most 10000000) _ h).0) demands each_demand)

  pub usuals_in_range : AreUsualsInRange demands
  usuals_in_range = all_from_each (λ (d : Demand). nat_le d.usual d.most) demands
      (each_weaker _ _ (λ d h. (and_parts (nat_le d.most 10000000) _ h).1) demands each_demand)

  -- 2, 3, 9. The worst case of each body can be computed.
  pub tellable : AreTellable demands (bodies_of (names_in rows) rows)
  tellable =
      let names = names_in rows in
      let bodies = bodies_of names rows in
      recursion_from_All (λ (x : At BodyPart). IsTellable demands x.part.body) bodies (λ k d lt. record {
        nested = All-from_recursion _ bodies (bodies_nested names rows is_2 is_3) k d lt;
        counted = All-from_recursion _ bodies (bodies_counted names rows short) k d lt;
        numbers = All-from_recursion _ bodies (bodies_pass names is_number_in_range
            (λ row. has_numbers_in_range row ≡ true) (number_passes names) rows is_2 in_range) k d lt;
        mosts = mosts_in_range;
      })

-- ---- bodies that break no rule

-- a body that is one of a configuration, with its owner
record IsGood (c : ConfigParts) (b : BodyPart) : Type 0 where
  body : IsBody c (kind_of b.owner) b.body
  range : IsInRange b.owner
  some : has_statement b ≡ true
  light : is_light c.demands b ≡ true

module _ (c : ConfigParts) where
  hook : IsBody c kind.Hook []
  hook = search (arith, rules)

  first_good : (bodies : List (List Stmt)) → Each (IsBody c kind.Hook) bodies → IsBody c kind.Hook (first_body bodies)
  first_good [] h = hook
  first_good (body ∷ bodies) h = h.0

  routine_good : {k : OwnerKind} (body : List Stmt) → IsBody c k body → nat_le 1 (length body) ≡ true
      → nat_le (worst_in c.demands body) (10 ^ 12) ≡ true → IsRoutine c k body (worst_in c.demands body)
  routine_good body good some light = record {
    is_body = good;
    some = leb-true 1 (length body) some;
    worst = refl;
    bounded = leb-true (worst_in c.demands body) (10 ^ 12) light;
  }

  -- what good bodies give has a property
  abbrev Gives : {D : Type 0} → (List Stmt → Owner → List D) → (D → Type 0) → Type 0
  Gives part_by Q = (body : List Stmt) (o : Owner) → IsGood c (record { owner = o; body = body })
      → Each Q (part_by body o)

  task_good : Gives (task_by c.demands) (IsTask c)
  task_good body (owner.Task stack) good =
      (record { routine = routine_good body good.body good.some good.light; stack = good.range }, tt)
  task_good body other good = tt

  isr_good : Gives (isr_by c.demands) (IsIsr c)
  isr_good body (owner.Isr level stack distance) good = (
    record {
      routine = routine_good body good.body good.some good.light;
      stack = good.range.1.1.0;
      level = good.range.0;
      distance = good.range.1.1.1;
    },
    tt,
  )
  isr_good body other good = tt

  osek_good : Gives (osek_by c.demands) (IsOsek c)
  osek_good body (owner.Osek priority auto) good =
      (record { routine = routine_good body good.body good.some good.light; priority = good.range.0 }, tt)
  osek_good body other good = tt

  oisr_good : Gives (oisr_by c.demands) (IsOisr c)
  oisr_good body (owner.Oisr priority) good =
      (record { routine = routine_good body good.body good.some good.light; priority = good.range.0 }, tt)
  oisr_good body other good = tt

  error_good : Gives error_hook_by (IsBody c kind.Hook)
  error_good body owner.ErrorHook good = (good.body, tt)
  error_good body other good = tt

  shutdown_good : Gives shutdown_hook_by (IsBody c kind.Hook)
  shutdown_good body owner.ShutdownHook good = (good.body, tt)
  shutdown_good body other good = tt

module _ (rows : List NumberedRow) (rules : KeepBodyRules rows) where
  abbrev names : List NameEntry
  names = names_in rows

  abbrev bodies : List (At BodyPart)
  bodies = bodies_of names rows

  abbrev c : ConfigParts
  c = config_with (elaborated_of rows)

  fit : EachRow (IsRowFit names) rows
  fit = rows_fit rows rules.sound rules.rule_9 rules.rule_14

  ranges : Each (λ (x : At BodyPart). IsInRange x.part.owner) bodies
  ranges = each_body (λ b. IsInRange b.owner) (IsRowFit names) (λ row rest f. owner_fits row rest f.numbers) names rows fit

  passed : (test : Head → Bool) → ((row : Row) → IsRowFit names row → Passes test (head_of names row))
      → Each (λ (x : At BodyPart). each_in test x.part.body ≡ true) bodies
  passed test each = bodies_pass names test (IsRowFit names) each rows rules.rule_2 fit

  good : Each (λ (x : At BodyPart). IsGood c x.part) bodies
  good = recursion_from_All (λ (x : At BodyPart). IsGood c x.part) bodies (λ k d lt.
      let own = All-from_recursion _ bodies (bodies_sound names rows rules.rule_2 rules.rule_9 rules.rule_15) k d lt in
      let vars = count_of Kind.Var names in
      let modes = count_of Kind.Mode names in
      let oseks = count_of Kind.Osek names in
      let body = (get_or bodies k d).part.body in
      record {
        body = record {
          nested = All-from_recursion _ bodies (bodies_nested names rows rules.rule_2 rules.rule_3) k d lt;
          counted = All-from_recursion _ bodies (bodies_counted names rows rules.short) k d lt;
          numbers = own.numbers;
          expressions = All-from_recursion _ bodies (passed is_expression_short (row_short names)) k d lt;
          variables = subst (λ n. HasVariables n body) (named rows).vars
              (All-from_recursion _ bodies (passed (has_variables vars) (row_variables names)) k d lt);
          demands = subst (λ n. HasDemands n body) (named rows).demands
              (All-from_recursion _ bodies (passed (has_demand _) (row_demand names)) k d lt);
          callees = subst (λ n. HasCallees n (length c.oseks) body) (named rows).modes
              (subst (λ n. HasCallees modes n body) (named rows).oseks
              (All-from_recursion _ bodies (passed (has_callee modes oseks) (row_callee names)) k d lt));
          allowed = own.allowed;
        };
        range = All-from_recursion _ bodies ranges k d lt;
        some = All-from_recursion _ bodies (each_kept has_statement bodies rules.rule_16) k d lt;
        light = All-from_recursion _ bodies (each_kept (is_light c.demands) bodies rules.rule_17) k d lt;
      })

  owned : {D : Type 0} (part_by : List Stmt → Owner → List D) (Q : D → Type 0) → Gives c part_by Q
      → Each Q (flat_map (λ (b : BodyPart). part_by b.body b.owner) (parts bodies))
  owned part_by Q gives =
      each_flat_map (λ (b : BodyPart). part_by b.body b.owner) (IsGood c) Q (λ b g. gives b.body b.owner g)
      (parts bodies) (each_map (IsGood c) (λ (x : At BodyPart). x.part) bodies good)

  pub bodies_are_sound : HasSoundBodies c
  bodies_are_sound = record {
    tasks = All-from_recursion (IsTask c) c.tasks (owned (task_by c.demands) (IsTask c) (task_good c));
    isrs = All-from_recursion (IsIsr c) c.isrs (owned (isr_by c.demands) (IsIsr c) (isr_good c));
    oseks = All-from_recursion (IsOsek c) c.oseks (owned (osek_by c.demands) (IsOsek c) (osek_good c));
    oisrs = All-from_recursion (IsOisr c) c.oisrs (owned (oisr_by c.demands) (IsOisr c) (oisr_good c));
    error_hook = first_good c _ (owned error_hook_by (IsBody c kind.Hook) (error_good c));
    shutdown_hook = first_good c _ (owned shutdown_hook_by (IsBody c kind.Hook) (shutdown_good c));
  }

  -- 2, 3, 9, 17. The numbers of each body's owner fit the widths of those of a configuration.
  pub bodies_fit : AreFit c.demands bodies
  bodies_fit k d lt =
      let fine = All-from_recursion _ bodies good k d lt in
      record {
        tellable = All-from_recursion _ bodies
            (tellable rows rules.short rules.rule_2 rules.rule_3 rules.rule_9) k d lt;
        owner = fine.range;
        light = fine.light;
      }

pub law : BodiesAreSound
unfolding config_of
law rows rules = bodies_are_sound rows rules
