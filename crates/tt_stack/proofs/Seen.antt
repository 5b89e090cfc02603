-- The one that runs, as contracts see it.
use Rattle.std.proofs.Common.{◌≡◌, ◌≢◌, IsSome, ℕ, zero, suc, ◌<◌, List, [], ◌∷◌, length, Option, None, Some, refl, sym, ap, ◌∙◌, subst, arith}
use Rattle.std.specs.Prelude.{option_map, slice_index_or, unwrap_or}
use Rattle.std.proofs.lemmas.List.{get_or-set_same}
use Rattle.task_lang.specs.declared.syntax.Stmt.{Stmt}
use Rattle.task_machine.specs.declared.frame.Frame.{Frame}
use Rattle.task_machine.specs.Standing.{left_of, IsSound}
use Rattle.run_stack.specs.declared.top.Top.{Top}
use Rattle.run_stack.specs.Frames.{Frames, popped, seen, top_of, with_top}
use Rattle.tt_world.specs.declared.world.Runner.{Runner}
use Rattle.tt_world.specs.declared.world.Runner.TheVariants as runner
use Rattle.tt_world.specs.World.{Job}
use Rattle.tt_world.specs.Runners.{no_job}
use Rattle.tt_world.proofs.JobLists.{at_set}
use Rattle.tt_stack.specs.Stacked.{Stacked, leaving_in, left_in, runner_in, running}
use Rattle.tt_stack.specs.Kept.{AreKept, entries_after, stacked}
use Rattle.tt_stack.specs.Words.{Words}
use Rattle.tt_stack.specs.declared.state.TtStack.TheInside.{Inside}
use Rattle.tt_stack.proofs.Running.{Running, none_at, running_at, running_now, shape}

-- ---- what is left of a runner, once it was changed

there : {X : Type 0} (left : X → List Stmt) (d : X) → left d ≡ [] → (xs : List X) (n : ℕ)
    → left (slice_index_or xs n d) ≢ [] → n < length xs
there left d none [] n some = absurd (some none)
there left d none (x ∷ xs) zero some = omega arith
there left d none (x ∷ xs) (suc n) some = let within = there left d none xs n some in omega (arith, within)

-- what a call leaves of a runner that had statements left is what is left of it after the call
pub left_then : (s : Stacked) (who : Runner) (left : List Stmt) → left_in s who ≢ []
    → left_in (leaving_in s who left) who ≡ left
left_then s (runner.Isr isr) left some =
    get_or-set_same s.isrs isr.0 left [] (there (λ (l : List Stmt). l) [] refl s.isrs isr.0 some)
left_then s (runner.Job place) left some =
    ap (λ (j : Job). j.left) (at_set s.jobs place left (there (λ (j : Job). j.left) no_job refl s.jobs place some))
left_then s (runner.Oisr oisr) left some = absurd (some refl)
left_then s (runner.Osek task) left some = absurd (some refl)
left_then s runner.Nobody left some = absurd (some refl)

some_is : (o : Option Runner) (who : Runner) → o ≡ Some who → IsSome o
some_is None who is = cc
some_is (Some r) who is = refl

none_is : (o : Option Runner) → o ≡ None → IsSome o → ⊥
none_is None is some = cc
none_is (Some r) is some = cc

-- where one runs, it is not nobody
pub none_none : (s : Stacked) → IsSome (runner_in s) → runner_in s ≡ None → ⊥
none_none s some none = none_is (runner_in s) none some

module _ (inside : Inside)
    (k : AreKept inside.codes inside.first inside.levels.items inside.words inside.stack inside.entries.items
    inside.reached)
    (now : Stacked)
    (is : stacked inside.codes inside.first inside.levels.items inside.words inside.stack inside.entries.items
    inside.reached ≡ now) where
  abbrev codes : List (List Stmt)
  codes = inside.codes

  abbrev first : ℕ
  first = inside.first

  abbrev levels : List ℕ
  levels = inside.levels.items

  abbrev words : Words
  words = inside.words

  abbrev reached : ℕ
  reached = inside.reached

  abbrev s : Frames
  s = inside.stack

  abbrev entries : List ℕ
  entries = inside.entries.items

  abbrev Run : Top → Type 0
  Run top = Running codes first levels words reached s entries top

  -- the codes are those that contracts see
  pub codes_are : codes ≡ now.codes
  codes_are = ap (λ (v : Stacked). v.codes) is

  -- the frame on top is that of the one that runs
  pub run_at : (top : Top) → option_map seen (top_of s) ≡ Some top → Run top
  run_at top so = running_at codes first levels words reached s entries (shape s entries k.as_many) k top so

  -- where no frame is on top, contracts see nobody run
  pub none_then : option_map seen (top_of s) ≡ None → runner_in now ≡ None
  none_then so =
      ap runner_in (sym is) ∙ none_at codes first levels words reached s entries (shape s entries k.as_many) so

  -- where contracts see one run, its frame is on top
  pub run_now : IsSome (runner_in now) → (top : Top) × Run top
  run_now runs =
      running_now codes first levels words reached s entries (shape s entries k.as_many) k
      (subst (λ v. IsSome (runner_in v)) (sym is) runs)

  module _ (top : Top) (r : Run top) where
    -- the one that contracts see run is that of the frame on top
    pub runner_is : runner_in now ≡ Some r.who
    runner_is = ap runner_in (sym is) ∙ r.is

    -- where a frame is on top, contracts see one run
    pub runs : IsSome (runner_in now)
    runs = some_is (runner_in now) r.who runner_is

    running_is : running now ≡ r.who
    running_is = ap (λ o. unwrap_or o runner.Nobody) runner_is

    -- what is left of the frame on top is what contracts see left of the one that runs
    pub left_now : left_of now.codes top.frame ≡ left_in now (running now)
    left_now =
        ap (λ (c : List (List Stmt)). left_of c top.frame) (sym codes_are) ∙ r.left
        ∙ ap (λ (v : Stacked). left_in v r.who) is ∙ ap (left_in now) (sym running_is)

    -- the frame on top is one of the codes that contracts see
    pub sound_now : IsSound now.codes top.frame
    sound_now = subst (λ c. IsSound c top.frame) codes_are r.sound

    -- something is left of the frame on top
    pub some_now : left_of now.codes top.frame ≢ []
    some_now = subst (λ c. left_of c top.frame ≢ []) codes_are r.some

    leaving_now : (left : List Stmt) → leaving_in (stacked codes first levels words s entries reached) r.who left
        ≡ leaving_in now (running now) left
    leaving_now left =
        ap (λ (v : Stacked). leaving_in v r.who left) is ∙ ap (λ (w : Runner). leaving_in now w left) (sym running_is)

    -- where the frame on top moves, contracts see another rest of the one that runs, and no other change
    pub moved_now : (frame : Frame) → stacked codes first levels words (with_top frame s) entries reached
        ≡ leaving_in now (running now) (left_of now.codes frame)
    moved_now frame =
        r.moved frame ∙ leaving_now (left_of codes frame)
        ∙ ap (λ (c : List (List Stmt)). leaving_in now (running now) (left_of c frame)) codes_are

    -- where the frame on top is taken off, contracts see nothing left of the one that runs, and no other change
    pub ended_now : stacked codes first levels words (popped s) (entries_after top.owner entries) reached
        ≡ leaving_in now (running now) []
    ended_now = r.ended ∙ leaving_now []
