-- Who runs: of those on the stack, and of those of the OSEK subsystem.
use Rattle.std.proofs.Common.{ℕ, ◌≡◌, List, [], ◌∷◌, refl, ap, sym, ◌∙◌, subst, None, Some}
use Rattle.std.specs.Prelude.{Option, option_map}
use Rattle.tt_base.specs.declared.event.Owner.{Owner}
use Rattle.tt_base.specs.declared.event.Owner.TheVariants as owner
use Rattle.tt_world.specs.declared.config.ConfigParts.{ConfigParts}
use Rattle.tt_world.specs.declared.script.ScriptParts.{ScriptParts}
use Rattle.tt_world.specs.declared.world.Runner.{Runner}
use Rattle.tt_world.specs.declared.world.Runner.TheVariants as runner
use Rattle.tt_world.specs.World.{World}
use Rattle.tt_world.specs.Runners.{unfinished, highest, last_unfinished, isr_levels, oisr_priorities, osek_priorities, isr_runner, task_runner, oisr_runner, osek_runner, first_runner, runner_of, owner_of}
use Rattle.osek_idle.specs.Laws.{IsOf, runner_in as idle_runner}
use Rattle.osek_idle.specs.Subsystem.{Subsystem, Setup, lefts, picked, IsSettled}
use Rattle.osek_idle.proofs.Picking.{picks_are}
use Rattle.tt_stack.specs.Stacked.{Stacked, first_of, runner_in}
use Rattle.tt_stack.specs.Words.{Words}
use Rattle.stack_dispatch.specs.State.{RunState, Fixed, IsFor}
use Rattle.stack_dispatch.specs.Ticking.{IsOnStack, IsInIdleTime}

-- the declared words of stack of a state, in its mode
abbrev pub words_beside : RunState → Words
words_beside st = record { isrs = st.beside.isr_words; rows = st.beside.row_words; mode = st.world.mode }

-- the activations and routines of a state
abbrev pub stack_of : RunState → Stacked
stack_of st = record {
  codes = st.beside.codes;
  first = st.beside.first;
  levels = st.beside.levels;
  words = words_beside st;
  jobs = st.world.jobs;
  isrs = st.world.isrs;
}

-- what is left of the OSEK tasks and routines of a world is what is left of those of a subsystem
pub record HasLefts (w : World) (sub : Subsystem) : Type 0 where
  pub tasks : w.oseks ≡ lefts sub.tasks
  pub routines : w.oisrs ≡ lefts sub.routines

-- ---- the first of four

first_some : (i t o k : Option Runner) (r : Runner) → first_of i t ≡ Some r → r ≡ first_runner (i ∷ t ∷ o ∷ k ∷ [])
first_some (Some a) t o k r e = cc
first_some None (Some b) o k r e = cc
first_some None None o k r e = cc

first_none : (i t o k : Option Runner) → first_of i t ≡ None
    → first_runner (o ∷ k ∷ []) ≡ first_runner (i ∷ t ∷ o ∷ k ∷ [])
first_none (Some a) t o k e = cc
first_none None (Some b) o k e = cc
first_none None None o k e = refl

-- the first of these four numbers as a runner
abbrev four : (i t o k : Option ℕ) → Runner
four i t o k = first_runner (option_map (λ (n : ℕ). runner.Isr (record { 0 = n })) i
    ∷ option_map (λ (n : ℕ). runner.Job n) t ∷ option_map (λ (n : ℕ). runner.Oisr (record { 0 = n })) o
    ∷ option_map (λ (n : ℕ). runner.Osek (record { 0 = n })) k ∷ [])

abbrev stacked_two : (i t : Option ℕ) → Option Runner
stacked_two i t = first_of (option_map (λ (n : ℕ). runner.Isr (record { 0 = n })) i)
    (option_map (λ (n : ℕ). runner.Job n) t)

four_on_stack : (i t o k : Option ℕ) → IsOnStack (four i t o k) → stacked_two i t ≡ Some (four i t o k)
four_on_stack (Some n) t o k h = refl
four_on_stack None (Some n) o k h = refl
four_on_stack None None (Some n) k h = absurd h
four_on_stack None None None (Some n) h = absurd h
four_on_stack None None None None h = absurd h

four_idle : (i t o k : Option ℕ) → IsInIdleTime (four i t o k) → stacked_two i t ≡ None
four_idle (Some n) t o k h = absurd h
four_idle None (Some n) o k h = absurd h
four_idle None None o k h = refl

-- the owner who is picked
picked_is : (c : ConfigParts) (w : World) (o : Option Owner) (r : Runner) → idle_runner o ≡ r → IsInIdleTime r
    → o ≡ Some (owner_of c w r)
picked_is c w (Some (owner.Osek t)) r e i = subst (λ (x : Runner). Some (owner.Osek t) ≡ Some (owner_of c w x)) e refl
picked_is c w (Some (owner.Oisr t)) r e i = subst (λ (x : Runner). Some (owner.Oisr t) ≡ Some (owner_of c w x)) e refl
picked_is c w (Some (owner.Task t)) r e i = absurd (subst IsInIdleTime (sym e) i)
picked_is c w (Some (owner.Isr t)) r e i = absurd (subst IsInIdleTime (sym e) i)
picked_is c w (Some owner.ErrorHook) r e i = absurd (subst IsInIdleTime (sym e) i)
picked_is c w (Some owner.ShutdownHook) r e i = absurd (subst IsInIdleTime (sym e) i)
picked_is c w (Some owner.Idle) r e i = absurd (subst IsInIdleTime (sym e) i)
picked_is c w None r e i = absurd (subst IsInIdleTime (sym e) i)

module _ (c : ConfigParts) (s : ScriptParts) (st : RunState) (kept : IsFor c s st.beside) where
  -- the two that are on the stack, by number
  two_are : runner_in (stack_of st) ≡ stacked_two (highest (isr_levels c) (unfinished st.world.isrs))
      (last_unfinished 0 st.world.jobs)
  two_are = ap (λ (levels : List ℕ). stacked_two (highest levels (unfinished st.world.isrs))
      (last_unfinished 0 st.world.jobs))
      (ap (λ (f : Fixed). f.levels) kept)

  -- who runs on the stack is the one who runs
  pub runs_on_stack : (r : Runner) → runner_in (stack_of st) ≡ Some r → r ≡ runner_of c st.world
  unfolding runner_of
  runs_on_stack r e = first_some (isr_runner c st.world) (task_runner st.world) (oisr_runner c st.world)
      (osek_runner c st.world) r (sym two_are ∙ e)

  -- the subsystem is that of the world
  pub is_of : (setup : Setup) (sub : Subsystem) → HasLefts st.world sub → st.beside.setup ≡ setup → IsSettled sub
      → IsOf c st.world setup sub
  is_of setup sub left same settled = record {
    tasks = left.tasks;
    routines = left.routines;
    task_priorities = ap (λ (x : Setup). x.tasks) (sym same ∙ ap (λ (f : Fixed). f.setup) kept);
    routine_priorities = ap (λ (x : Setup). x.routines) (sym same ∙ ap (λ (f : Fixed). f.setup) kept);
    settled = settled;
  }

  -- else it is who is picked in idle time
  pub runs_in_idle_time : (setup : Setup) (sub : Subsystem) (r : Runner) → runner_in (stack_of st) ≡ None
      → IsOf c st.world setup sub
      → r ≡ idle_runner (picked setup sub) → r ≡ runner_of c st.world
  unfolding runner_of
  runs_in_idle_time setup sub r none of is = is ∙ picks_are c st.world setup sub of
      ∙ first_none (isr_runner c st.world) (task_runner st.world) (oisr_runner c st.world) (osek_runner c st.world)
      (sym two_are ∙ none)

  -- where the one who runs is on the stack, it is the one who runs there
  pub on_stack_runs : (r : Runner) → r ≡ runner_of c st.world → IsOnStack r → runner_in (stack_of st) ≡ Some r
  unfolding runner_of
  on_stack_runs r e on =
      two_are ∙ four_on_stack _ _ (highest (oisr_priorities c) (unfinished st.world.oisrs))
      (highest (osek_priorities c) (unfinished st.world.oseks))
      (subst IsOnStack e on) ∙ ap (λ (x : Runner). Some x) (sym e)

  -- where the one who runs is in idle time, it is picked there
  pub idle_picks : (setup : Setup) (sub : Subsystem) (r : Runner) → r ≡ runner_of c st.world → IsInIdleTime r
      → IsOf c st.world setup sub
      → picked setup sub ≡ Some (owner_of c st.world r)
  unfolding runner_of
  idle_picks setup sub r e on of =
      let none = four_idle (highest (isr_levels c) (unfinished st.world.isrs)) (last_unfinished 0 st.world.jobs)
      (highest (oisr_priorities c) (unfinished st.world.oisrs))
      (highest (osek_priorities c) (unfinished st.world.oseks)) (subst IsInIdleTime e on) in
      picked_is c st.world (picked setup sub) r
      (picks_are c st.world setup sub of ∙ first_none (isr_runner c st.world) (task_runner st.world)
      (oisr_runner c st.world) (osek_runner c st.world) none ∙ sym e) on
