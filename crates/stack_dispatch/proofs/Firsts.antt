-- The state before tick 0: the codes of all bodies, and the OSEK subsystem.
use Rattle.std.proofs.Common.{◌≡◌, ◌≢◌, ◌<◌, ◌≤◌, ◌+◌, Bool, true, false, List, [], ◌∷◌, ◌++◌, Option, None, Some, length, get_or, refl, ap, sym, ◌∙◌, subst, arith, append_assoc}
use Rattle.std.specs.Prelude.{map, IfSome, replicate, if◌then◌else◌}
use Rattle.std.proofs.lemmas.List.Elements.{All-map}
use Rattle.std.proofs.lemmas.List.{length-append, length-map, get_or-map}
use Rattle.tt_base.specs.declared.number.ModeNo.{ModeNo}
use Rattle.task_lang.specs.declared.syntax.Stmt.{Stmt}
use Rattle.task_machine.specs.Standing.{body_of}
use Rattle.tt_world.specs.declared.config.ConfigParts.{ConfigParts}
use Rattle.tt_world.specs.declared.config.TaskDef.{TaskDef}
use Rattle.tt_world.specs.declared.config.IsrDef.{IsrDef}
use Rattle.tt_world.specs.declared.config.OsekDef.{OsekDef}
use Rattle.tt_world.specs.declared.config.OisrDef.{OisrDef}
use Rattle.tt_world.specs.ConfigRules.{IsConfig}
use Rattle.tt_world.specs.Rows.{no_osek, no_oisr}
use Rattle.osek_idle.specs.Subsystem.{Setup, Subsystem, first_subsystem, left_in, lefts, IsSettled}
use Rattle.osek_idle.specs.Standing.{HaveOsek, setup_for}
use Rattle.tt_world.specs.declared.script.ScriptParts.{ScriptParts}
use Rattle.tt_world.specs.ScriptRules.{IsScript}
use Rattle.tt_world.specs.Runners.{isr_levels}
use Rattle.task_machine.specs.Stored.{Store}
use Rattle.tt_stack.specs.Stacked.{Stacked}
use Rattle.tt_stack.specs.Words.{Words, all_isr_words, all_row_words}
use Rattle.isr_window.specs.Window.{Window, new_window}
use Rattle.round_end.specs.Round.{Round, first_round}
use Rattle.stack_dispatch.specs.First.{first_state}
use Rattle.stack_dispatch.specs.State.{RunState, bodies_of}
use Rattle.stack_dispatch.proofs.ProgramBodies.{osek_program, oisr_program}

-- four lists appended one after the other
pub four_joined : {A : Type 0} (z a b d e p q r s : List A) → z ≡ [] → a ≡ z ++ p → b ≡ a ++ q → d ≡ b ++ r → e ≡ d ++ s
    → e ≡ p ++ (q ++ (r ++ s))
four_joined z a b d e p q r s iz ia ib id ie =
    ie ∙ ap (λ xs. xs ++ s) (id ∙ ap (λ xs. xs ++ r) (ib ∙ ap (λ xs. xs ++ q) (ia ∙ ap (λ xs. xs ++ p) iz)))
    ∙ append_assoc (p ++ q) r s ∙ append_assoc p q (r ++ s)

module _ (c : ConfigParts) where
  length_bodies : length (bodies_of c) ≡ length c.tasks + (length c.isrs + (length c.oseks + length c.oisrs))
  length_bodies =
      let tasks = map (λ (task : TaskDef). task.body) c.tasks in
      let isrs = map (λ (isr : IsrDef). isr.body) c.isrs in
      let oseks = map (λ (task : OsekDef). task.body) c.oseks in
      let oisrs = map (λ (oisr : OisrDef). oisr.body) c.oisrs in
      let one = length-append tasks (isrs ++ (oseks ++ oisrs)) in
      let two = length-append isrs (oseks ++ oisrs) in
      let three = length-append oseks oisrs in
      omega (
        arith,
        one,
        two,
        three,
        length-map c.tasks (λ (task : TaskDef). task.body),
        length-map c.isrs (λ (isr : IsrDef). isr.body),
        length-map c.oseks (λ (task : OsekDef). task.body),
        length-map c.oisrs (λ (oisr : OisrDef). oisr.body),
      )

  -- the codes of the OSEK subsystem are there
  pub have_osek : (codes : List (List Stmt)) → codes ≡ bodies_of c → HaveOsek codes (length c.tasks + length c.isrs) c
  have_osek codes are = subst (λ ks. HaveOsek ks (length c.tasks + length c.isrs) c) (sym are) (record {
    tasks = record {
      enough = omega (arith, length_bodies, length-map c.oseks (λ (task : OsekDef). task.body));
      bodies_are = λ n l.
          let within : n < length c.oseks = omega (arith, l, length-map c.oseks (λ (task : OsekDef). task.body)) in
          osek_program c n within ∙ sym (get_or-map (λ (task : OsekDef). task.body) c.oseks n no_osek [] within);
    };
    routines = record {
      enough = omega (arith, length_bodies, length-map c.oisrs (λ (oisr : OisrDef). oisr.body));
      bodies_are = λ n l.
          let within : n < length c.oisrs = omega (arith, l, length-map c.oisrs (λ (oisr : OisrDef). oisr.body)) in
          let same : (length c.tasks + length c.isrs) + length c.oseks + n
          ≡ (length c.tasks + length c.isrs) + (length c.oseks + n) =
          omega arith in
          ap (body_of (bodies_of c)) same ∙ oisr_program c n within
          ∙ sym (get_or-map (λ (oisr : OisrDef). oisr.body) c.oisrs n no_oisr [] within);
    };
  })

-- ---- before tick 0 the subsystem is settled, and what is left of it is that of the definitions

first_some : (auto : Bool) (body : List Stmt) → 1 ≤ length body
    → IfSome (if auto then Some body else None) (λ left. left ≢ [])
first_some true body some = λ none. let zero : length body ≡ 0 = ap length none in omega (arith, some, zero)
first_some false body some = tt

first_left : (auto : Bool) (body : List Stmt) → left_in (if auto then Some body else None) ≡ (if auto then body else [])
first_left true body = refl
first_left false body = refl

lefts_first : (xs : List OsekDef) → lefts (map (λ (task : OsekDef). if task.auto then Some task.body else None) xs)
    ≡ map (λ (task : OsekDef). if task.auto then task.body else []) xs
lefts_first [] = refl
lefts_first (x ∷ xs) =
    ap (λ (left : List Stmt). left ∷ lefts (map (λ (task : OsekDef). if task.auto then Some task.body else None) xs))
    (first_left x.auto x.body)
    ∙ ap (λ (ls : List (List Stmt)). (if x.auto then x.body else []) ∷ ls) (lefts_first xs)

none_left : (xs : List OisrDef) → lefts (map (λ (oisr : OisrDef). None) xs) ≡ replicate (length xs) []
none_left [] = refl
none_left (x ∷ xs) = ap (λ (ls : List (List Stmt)). [] ∷ ls) (none_left xs)

pub first_settled : (c : ConfigParts) → IsConfig c → IsSettled (first_subsystem c)
first_settled c rules = record {
  tasks = All-map (λ (state : Option (List Stmt)). IfSome state (λ left. left ≢ []))
      (λ (task : OsekDef). if task.auto then Some task.body else None) c.oseks
      (λ k d l. first_some (get_or c.oseks k d).auto (get_or c.oseks k d).body (rules.oseks k d l).routine.some);
  routines = All-map (λ (state : Option (List Stmt)). IfSome state (λ left. left ≢ []))
      (λ (oisr : OisrDef). None) c.oisrs (λ k d l. tt);
}

-- what contracts see of a state before tick 0, by its parts
abbrev view_by : Round → Store → Stacked → Window → Setup → Subsystem → RunState
view_by round env stack gates setup sub = record {
  world = record {
    tick = 0;
    start = round.start;
    number = round.number;
    mode = round.mode;
    wanted = round.wanted;
    pending = round.pending;
    latched = round.latched;
    times_used = round.times_used;
    vars = env.vars;
    cursors = env.cursors;
    jobs = stack.jobs;
    isrs_enabled = gates.isrs_enabled;
    isrs_held = gates.isrs_held;
    isrs = stack.isrs;
    oisrs_held = gates.oisrs_held;
    oisrs = lefts sub.routines;
    oseks = lefts sub.tasks;
    last = None;
  };
  beside = record {
    round = round.round;
    adjust = round.adjust;
    modes = round.modes;
    rounds = round.rounds;
    times = round.times;
    demands = env.demands;
    values = env.values;
    codes = stack.codes;
    first = stack.first;
    levels = stack.levels;
    isr_words = stack.words.isrs;
    row_words = stack.words.rows;
    setup = setup;
    isrs_ticks = gates.isrs_left;
    oisrs_ticks = gates.oisrs_left;
  };
}

-- the declared words of stack of a configuration, where the first round has this mode
abbrev pub words_first : ConfigParts → ModeNo → Words
words_first c mode = record { isrs = all_isr_words c; rows = all_row_words c; mode = mode }

module _ (c : ConfigParts) (s : ScriptParts) (script : IsScript c s) (round : Round) (env : Store) (stack : Stacked)
    (gates : Window)
    (setup : Setup) (sub : Subsystem) where
  pub first_view : round ≡ first_round c s.start s.rounds s.times
      → env ≡ record { vars = c.vars; cursors = replicate (length c.demands) 0; demands = c.demands; values = s.values }
      → stack ≡ record {
        codes = bodies_of c;
        first = length c.tasks;
        levels = isr_levels c;
        words = words_first c s.start;
        jobs = [];
        isrs = replicate (length c.isrs) [];
      } → gates ≡ new_window s.arrivals → setup ≡ setup_for c (length c.tasks + length c.isrs) → sub ≡ first_subsystem c
      → view_by round env stack gates setup sub ≡ first_state c s
  first_view er ee es eg eu eb =
      rw (er, ee, es, eg, eu, eb, lefts_first c.oseks, none_left c.oisrs, script.isrs, script.oisrs) refl
