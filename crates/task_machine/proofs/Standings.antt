-- Frames, and the lists that they stand for.
use Rattle.std.proofs.Common.{◌≡◌, ◌≢◌, ◌↔◌, IsTrue, ℕ, ℤ, zero, suc, ◌<◌, List, [], ◌∷◌, ◌++◌, length, Option, refl, sym, ap, subst, ◌∙◌, arith, length-append}
use Rattle.std.specs.Prelude.{slice_index, option_to_list}
use Rattle.std.proofs.lemmas.List.{get_or_append_left}
use Rattle.task_lang.specs.declared.syntax.Stmt.{Stmt}
use Rattle.task_lang.specs.declared.syntax.Stmt.TheOpen.{Stmt-F}
use Rattle.task_lang.specs.declared.syntax.Stmt.TheVariants.{outs-Work, outs-Repeat}
use Rattle.task_lang.specs.Tick.{State, supply_of, state_of, ticks, repeat_then}
use Rattle.task_lang.specs.declared.tick.Effect.{Effect}
use Rattle.task_machine.specs.Layout.{body_code}
use Rattle.task_machine.specs.Place.{Left, At_end, At_stmt, At_skip, At_again, Rests, work_in}
use Rattle.task_machine.specs.Standing.{body_of, code_of, left_of, IsAt, IsSound, StandsFor, work_of, work_in_front}
use Rattle.task_machine.specs.Ticking.{Advanced, begin}
use Rattle.task_machine.specs.Stored.{Store}
use Rattle.task_machine.specs.declared.frame.Frame.{Frame}
use Rattle.task_machine.specs.declared.instr.Instr.{Instr}
use Rattle.task_machine.specs.declared.instr.Instr.TheVariants as i
use Rattle.task_machine.proofs.Ends.{whole}
use Rattle.task_machine.proofs.OnlyLeft.{rests_is}
use Rattle.task_machine.proofs.Steps.{rests_left, never_passed, never_done}

-- A frame that rests where a list is left stands for it.
pub stands_for : (codes : List (List Stmt)) (frame : Frame) (l : List Stmt) → frame.program < length codes
    → IsAt (code_of codes frame.program) frame l → StandsFor codes frame l
unfolding left_of
stands_for codes frame l exists at =
    let left : left_of codes frame ≡ l =
    rests_is (code_of codes frame.program) frame.counters frame.place frame.work l at.rests in
    record {
      sound = record {
        exists = exists;
        is_at =
            subst (λ m. IsAt (code_of codes frame.program) frame m) (sym left) at;
      };
      left = left;
    }

-- ---- more codes

more_codes : (codes more : List (List Stmt)) (program : ℕ) → program < length codes
    → body_of (codes ++ more) program ≡ body_of codes program
more_codes codes more program exists = get_or_append_left codes more [] program exists

pub codes_grow : (codes more : List (List Stmt)) (frame : Frame) (l : List Stmt) → StandsFor codes frame l
    → StandsFor (codes ++ more) frame l
codes_grow codes more frame l stands =
    let same = more_codes codes more frame.program stands.sound.exists in
    let at : IsAt (code_of codes frame.program) frame l =
    subst (λ m. IsAt (code_of codes frame.program) frame m) stands.left stands.sound.is_at in
    stands_for (codes ++ more) frame l (omega (arith, length-append codes more, stands.sound.exists))
    (subst (λ body. IsAt (code_of (body ∷ []) 0) frame l) (sym same) at)

-- ---- what is in front

again_front : (k : ℕ) (inner rest : List Stmt) → (k ≡ 0 → ⊥) → 0 ≡ work_in_front (repeat_then k inner rest)
again_front zero inner rest some = absurd (some refl)
again_front (suc k) inner rest some = sym (ap work_of (outs-Repeat (suc k) inner))

module _ (code : List Instr) (cs : List ℕ) where
  -- where a frame rests with no work begun, no work is in front
  idle_front : (d p : ℕ) (l : List Stmt) → Left code cs d p l → Rests code cs l p 0 → 0 ≡ work_in_front l
  idle_front _ _ _ (At_end p past) r = refl
  idle_front _ _ _ (At_stmt d p q s (Stmt-F.Work n) rest o h left) r =
      sym (ap work_of o ∙ ap work_in (sym h.0) ∙ (r.still refl).idle)
  idle_front _ _ _ (At_stmt d p q s x rest o h left) r = sym (ap work_of o)
  idle_front _ _ _ (At_skip d p q second rest g h left) r =
      absurd (never_passed code cs rest p (i.Skip (length (body_code d second))) r g tt)
  idle_front _ _ _ (At_again d p start back inner rest g far body left) r =
      again_front (slice_index cs d) inner rest (never_done code cs _ p back d r g)

-- The work that was begun is the `work` at the front.
front_work : (code : List Instr) (cs : List ℕ) (l : List Stmt) (p w : ℕ) → Rests code cs l p w → w ≡ work_in_front l
front_work code cs l p zero r = idle_front code cs r.depth p l (rests_left code cs l p r) r
front_work code cs l p (suc w) r = sym (ap work_in_front r.is ∙ ap work_of (outs-Work (suc w)))

pub begun_is_front : (codes : List (List Stmt)) (frame : Frame) → IsSound codes frame
    → frame.work ≡ work_in_front (left_of codes frame)
begun_is_front codes frame sound =
    front_work (code_of codes frame.program) frame.counters
    (left_of codes frame) frame.place frame.work sound.is_at.rests

-- ---- ticks

-- what ticks of a frame leave, together with its codes
pub record Outcome (codes : List (List Stmt)) (frame : Frame) (vars : List ℤ) (cursors : List ℕ)
    (effect : Option Effect) (state : State) : Type 0 where
  pub sound : IsSound codes frame
  pub is : state_of (left_of codes frame) vars cursors (option_to_list effect) ≡ state
  pub ended : IsTrue frame.ended ↔ (left_of codes frame ≡ [])

outcome_is : (left : List Stmt) (vars : List ℤ) (cursors : List ℕ) (effects : List Effect) (state : State)
    → left ≡ state.left → vars ≡ state.vars
    → cursors ≡ state.cursors → state.effects ≡ effects → state_of left vars cursors effects ≡ state
outcome_is left vars cursors effects state a b d e =
    ap (λ k. state_of k vars cursors effects) a ∙ ap (λ k. state_of state.left k cursors effects) b
    ∙ ap (λ k. state_of state.left state.vars k effects) d
    ∙ ap (λ k. state_of state.left state.vars state.cursors k) (sym e)

module _ (codes : List (List Stmt)) (code : List Instr) (old new : Frame) (vars : List ℤ) (cursors : List ℕ)
    (effect : Option Effect) where
  outcome_by : (state : List Stmt → State) → code ≡ code_of codes old.program → new.program ≡ old.program
      → IsSound codes old → left_of codes old ≢ []
      → ((l : List Stmt) → IsAt code old l → l ≢ [] → Advanced code new vars cursors effect (state l))
      → Outcome codes new vars cursors effect (state (left_of codes old))
  outcome_by state layout same sound some taken =
      let l = left_of codes old in
      let advanced = taken l (subst (λ c. IsAt c old l) (sym layout) sound.is_at) some in
      let at : IsAt (code_of codes new.program) new (state l).left =
      subst (λ c. IsAt c new (state l).left) (layout ∙ ap (code_of codes) (sym same)) advanced.is_at in
      let exists : new.program < length codes = subst (λ n. n < length codes) (sym same) sound.exists in
      let stands = stands_for codes new (state l).left exists at in
      record {
        sound = stands.sound;
        is = outcome_is (left_of codes new) vars cursors (option_to_list effect)
            (state l) stands.left advanced.vars_are advanced.cursors_are advanced.effects_are;
        ended = stands.sound.is_at.ended;
      }

  -- the state of a list in a store, after k ticks
  abbrev pub after : ℕ → Store → List Stmt → State
  after k store l = ticks (supply_of store.demands store.values) k (begin l store.vars store.cursors)

  pub outcome : (k : ℕ) (stored now : Store) → stored ≡ now → code ≡ code_of codes old.program
      → new.program ≡ old.program → IsSound codes old → left_of codes old ≢ []
      → ((l : List Stmt) → IsAt code old l → l ≢ [] → Advanced code new vars cursors effect (after k stored l))
      → Outcome codes new vars cursors effect (after k now (left_of codes old))
  outcome k stored now is layout same sound some taken =
      subst (λ store. Outcome codes new vars cursors effect (after k store (left_of codes old))) is
      (outcome_by (after k stored) layout same sound some taken)

-- A frame that rests at the start of a program stands for its body.
pub started : (codes : List (List Stmt)) (code : List Instr) (counters : List ℕ) (frame : Frame) (program : ℕ)
    → code ≡ code_of codes program → program < length codes
    → frame.program ≡ program → ((d : ℕ) (l : List Stmt) → Left code counters d 0 l → IsAt code frame l)
    → StandsFor codes frame (body_of codes program)
started codes code counters frame program layout exists same at =
    let here : IsAt code frame (body_of codes program) =
    at 0 (body_of codes program) (whole code counters (body_of codes program) layout) in
    stands_for codes frame (body_of codes program) (subst (λ n. n < length codes) (sym same) exists)
    (subst (λ c. IsAt c frame (body_of codes program)) (layout ∙ ap (code_of codes) (sym same)) here)
