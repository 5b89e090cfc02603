-- Turns of work, and a tick with the places after it.
use Rattle.std.proofs.Common.{Bool, ◌↔◌, IsTrue, ◌≡◌, ◌≢◌, ℕ, ℤ, zero, suc, ◌+◌, ◌-◌, ◌≤◌, List, [], Option, None, refl, sym, ap, subst, ◌∙◌, arith}
use Rattle.task_lang.specs.declared.tick.Effect.{Effect}
use Rattle.task_lang.specs.declared.syntax.Stmt.{Stmt}
use Rattle.task_lang.specs.Tick.{Supply, State, work_then, tick, tick_by, ticks}
use Rattle.task_machine.specs.Place.{Left}
use Rattle.task_lang.specs.declared.syntax.Stmt.TheVariants.{outs-Work}
use Rattle.task_machine.specs.Place.{Rests}
use Rattle.task_machine.specs.Standing.{IsAt}
use Rattle.task_machine.specs.Ticking.{Stepped, Advanced, begin}
use Rattle.task_machine.specs.declared.instr.Instr.{Instr}
use Rattle.task_machine.specs.declared.frame.Frame.{Frame}
use Rattle.task_machine.proofs.Steps.{Taken}

pub ticks_work : (supply : Supply) (k w : ℕ) (below : List Stmt) (vars : List ℤ) (cursors : List ℕ) → k ≤ w
    → ticks supply k (begin (work_then w below) vars cursors) ≡ begin (work_then (w - k) below) vars cursors
unfolding tick ticks
ticks_work supply zero w below vars cursors le = let e : w ≡ w - 0 = omega arith in
    ap (λ n. begin (work_then n below) vars cursors) e
ticks_work supply (suc k) zero below vars cursors le = absurd (omega arith)
ticks_work supply (suc k) (suc w) below vars cursors le =
    let less : suc w - 1 ≡ w = omega arith in
    let rest : w - k ≡ suc w - suc k = omega arith in
    let one : tick supply (begin (work_then (suc w) below) vars cursors) ≡ begin (work_then w below) vars cursors =
    ap (λ y. tick_by supply (begin (work_then (suc w) below) vars cursors) y below) (outs-Work (suc w))
    ∙ ap (λ n. begin (work_then n below) vars cursors) less in
    ap (ticks supply k) one ∙ ticks_work supply k w below vars cursors (omega arith)
    ∙ ap (λ n. begin (work_then n below) vars cursors) rest

-- the state that work leaves
pub worked : (code : List Instr) (cs : List ℕ) (l : List Stmt) (p w k : ℕ) (r : Rests code cs l p w) (supply : Supply)
    (vars : List ℤ) (cursors : List ℕ) → k ≤ w
    → ticks supply k (begin l vars cursors) ≡ begin (work_then (w - k) r.below) vars cursors
worked code cs l p w k r supply vars cursors le = ap (λ m. ticks supply k (begin m vars cursors)) r.is
    ∙ ticks_work supply k w r.below vars cursors le

pub advanced : (code : List Instr) (f : Frame) (vars : List ℤ) (cursors : List ℕ) (l : List Stmt) (state : State)
    → state ≡ begin l vars cursors → IsAt code f l
    → Advanced code f vars cursors None state
advanced code f vars cursors l state is at =
    subst (λ x. Advanced code f vars cursors None x) (sym is)
    (record { is_at = at; vars_are = refl; cursors_are = refl; effects_are = refl })

rests_moved : (code : List Instr) (l : List Stmt) (cs cs' : List ℕ) (p p' w w' : ℕ) → cs' ≡ cs → p' ≡ p → w' ≡ w
    → Rests code cs l p w → Rests code cs' l p' w'
rests_moved code l cs cs' p p' w w' a b c r =
    subst (λ k. Rests code k l p' w') (sym a)
    (subst (λ k. Rests code cs l k w') (sym b) (subst (λ k. Rests code cs l p k) (sym c) r))

work_some : (w : ℕ) (below : List Stmt) → w ≢ 0 → work_then w below ≢ []
work_some zero below some = absurd (some refl)
work_some (suc w) below some = λ e. cc

-- A frame that had not ended, and has work left, still has not ended.
still_open : (ended : Bool) (l : List Stmt) (w : ℕ) (below : List Stmt) → l ≢ [] → w ≢ 0 → IsTrue ended ↔ (l ≡ [])
    → IsTrue ended ↔ (work_then w below ≡ [])
still_open ended l w below some more iff = (λ t. absurd (some (iff.0 t)), λ e. absurd (work_some w below more e))

-- some `work` is left at the same place
pub work_goes_on : (code : List Instr) (f : Frame) (l : List Stmt) (w : ℕ) (r : Rests code f.counters l f.place w)
    → w ≢ 0 → f.work ≢ 0
    → IsTrue f.ended ↔ (l ≡ []) → IsAt code f (work_then f.work r.below)
work_goes_on code f l w r was more iff = record {
  rests = record { depth = r.depth; below = r.below; left = r.left; is = refl; still = λ none. absurd (more none) };
  ended = still_open f.ended l f.work r.below (λ e. work_some w r.below was (sym r.is ∙ e)) more iff;
}

module _ (code : List Instr) (cs : List ℕ) (supply : Supply) (l : List Stmt) (vars : List ℤ) (cursors : List ℕ)
    (d p : ℕ) (left : Left code cs d p l) where
  pub taken_zero : (v : ℕ) (cursors' : List ℕ) (state : State) (f : Frame)
      → Taken code cs supply l vars cursors d p left v cursors' state → v ≡ 0
      → ((m : List Stmt) → Left code cs d (p + 1) m → IsAt code f m) → Advanced code f vars cursors' None state
  taken_zero v cursors' state f t none settled =
      let is : state.left ≡ t.below = t.left_is ∙ ap (λ n. work_then n t.below) none in
      record {
        is_at = subst (IsAt code f) (sym is) (settled t.below t.later);
        vars_are = t.vars_are;
        cursors_are =
            t.cursors_are;
        effects_are = t.effects_are;
      }

  pub taken_some : (v : ℕ) (cursors' : List ℕ) (state : State) (f : Frame)
      → Taken code cs supply l vars cursors d p left v cursors' state → v ≢ 0
      → f.counters ≡ cs → f.place ≡ p + 1 → f.work ≡ v → IsTrue f.ended ↔ (l ≡ [])
      → Advanced code f vars cursors' None state
  taken_some v cursors' state f t some a b c iff = record {
    is_at = record {
      rests = rests_moved code state.left cs f.counters (p + 1) f.place v f.work a b c
          (record { depth = d; below = t.below; left = t.later; is = t.left_is; still = λ z. absurd (some z) });
      ended = subst (λ k. IsTrue f.ended ↔ (k ≡ [])) (sym t.left_is) (still_open f.ended l v t.below t.some some iff);
    };
    vars_are = t.vars_are;
    cursors_are = t.cursors_are;
    effects_are = t.effects_are;
  }

-- one tick
pub advanced_one : (code : List Instr) (f : Frame) (vars : List ℤ) (cursors : List ℕ) (effect : Option Effect)
    (supply : Supply) (k : ℕ) (state : State) → k ≡ 1
    → Advanced code f vars cursors effect (tick supply state)
    → Advanced code f vars cursors effect (ticks supply k state)
unfolding ticks
advanced_one code f vars cursors effect supply k state is one =
    subst (λ n. Advanced code f vars cursors effect (ticks supply n state)) (sym is) one

-- a tick, and then the places that take no time
pub settled : (code : List Instr) (cs : List ℕ) (p : ℕ) (f : Frame) (vars : List ℤ) (cursors : List ℕ)
    (effect : Option Effect) (state : State)
    → Stepped code cs p vars cursors effect state → ((d : ℕ) (l : List Stmt) → Left code cs d p l → IsAt code f l)
    → Advanced code f vars cursors effect state
settled code cs p f vars cursors effect state s at =
    record {
      is_at = at s.depth state.left s.left;
      vars_are = s.vars_are;
      cursors_are = s.cursors_are;
      effects_are =
          s.effects_are;
    }
